use Rattle.std.proofs.Common.{◌≡◌, ◌*◌, List, ℕ, None, Option, Some, ap, refl, sym, ◌∙◌}
use Rattle.std.proofs.lemmas.Bool.{false≢true}
use Rattle.std.proofs.lemmas.Result.{on_ok_weaker}
use Rattle.vs_host.specs.Trace.{Read}
use Rattle.vs_pages.specs.Cells.{Away, Cell, is_away, shown}
use Rattle.vs_pages.specs.Table.{IsPlace}
use Rattle.vs_pages.specs.declared.presence.Presence.{Presence}
use Rattle.vs_pages.specs.declared.presence.Presence.TheVariants as presences
use Rattle.vs_pages.specs.Memory.{first_kept_of}
use Rattle.vs_pages.proofs.CellLemmas.{shown_any}
use Rattle.vs_pair.specs.Held.{pages_under}
use Rattle.vs_pair.specs.Writes.{page_or_zeros}
use Rattle.vs_pair.proofs.AwayLemmas.{page_ends, committed_there, read_page, read_there}
use Rattle.vs_pair.proofs.Calls.{look_none}
use Rattle.vs_pair.proofs.ReadLemmas.{only_call, only_none}
use Rattle.vs_pair.proofs.writing.copy_page.Goals as goal

here_is : (presence : Presence) (into : List ℕ) (cell : Option Cell) → presence ≡ presences.Here → IsPlace presence into cell → shown None cell ≡ Some into
here_is presences.Missing into cell is place = absurd (cc)
here_is presences.Here into cell is place = place
here_is presences.Away into cell is place = absurd (cc)

missing_is : (presence : Presence) (into : List ℕ) (cell : Option Cell) → presence ≡ presences.Missing → IsPlace presence into cell → cell ≡ None
missing_is presences.Missing into cell is place = place
missing_is presences.Here into cell is place = absurd (cc)
missing_is presences.Away into cell is place = absurd (cc)

away_is : (presence : Presence) (into : List ℕ) (cell : Option Cell) → presence ≡ presences.Away → IsPlace presence into cell → cell ≡ Some Away
away_is presences.Missing into cell is place = absurd (cc)
away_is presences.Here into cell is place = absurd (cc)
away_is presences.Away into cell is place = place

pub returns-in-Here-clause-page : goal.returns-in-Here-clause-page
returns-in-Here-clause-page g c = λ told.
    let cell = first_kept_of c.args.pages.now c.args.at in
    let away = pages_under (g.F.World.scene c.args.host.now).folder c.args.from.now c.args.at in
    ap (λ (o : Option (List ℕ)). page_or_zeros o) (sym (shown_any away cell _ (here_is c.copy_committed.result _ cell c.in-Here.is c.copy_committed.ensures.page)))

pub returns-in-Here-clause-reads : goal.returns-in-Here-clause-reads
returns-in-Here-clause-reads g c = only_none g.F.World.tells _ _ 1 (λ failed. false≢true failed)

pub returns-in-Missing-clause-page : goal.returns-in-Missing-clause-page
returns-in-Missing-clause-page g c = λ told.
    let away = pages_under (g.F.World.scene c.args.host.now).folder c.args.from.now c.args.at in
    c.copy_from_slice.ensures.after ∙ ap (λ (cell : Option Cell). page_or_zeros (shown away cell)) (sym (missing_is c.copy_committed.result _ (first_kept_of c.args.pages.now c.args.at) c.in-Missing.is c.copy_committed.ensures.page))

pub read_at-requires : goal.read_at-requires
read_at-requires g c told =
    let cell = away_is c.copy_committed.result _ (first_kept_of c.args.pages.now c.args.at) c.in-Away.is c.copy_committed.ensures.page in
    read_there c.args.at (c.args.at * 4096) _ (page_ends c.args.at (c.args.at * 4096) _ refl c.copy_committed.ensures.size) (g.F.World.scene c.args.host.now).folder c.args.from.now
    (committed_there _ c.args.pages.now c.args.at (c.requires.backed told) (ap (λ (o : Option Cell). is_away o) cell))

pub returns-in-Missing-clause-reads : goal.returns-in-Missing-clause-reads
returns-in-Missing-clause-reads g c = only_none g.F.World.tells _ _ 1 (λ failed. false≢true failed)

pub returns-in-Away-clause-page : goal.returns-in-Away-clause-page
returns-in-Away-clause-page g c =
    on_ok_weaker c.read_at.result
    (λ value told.
    let cell = away_is c.copy_committed.result _ (first_kept_of c.args.pages.now c.args.at) c.in-Away.is c.copy_committed.ensures.page in
    let there = committed_there _ c.args.pages.now c.args.at (c.requires.backed told) (ap (λ (o : Option Cell). is_away o) cell) in
    let page : pages_under (g.F.World.scene c.args.host.now).folder c.args.from.now c.args.at ≡ Some c.read_at.new.into =
    read_page c.args.at (c.args.at * 4096) _ refl c.copy_committed.ensures.size c.read_at.new.into (g.F.World.scene c.args.host.now).folder c.args.from.now there (value told) in
    ap (λ (o : Option (List ℕ)). page_or_zeros o) (sym (ap (λ (o : Option Cell). shown (pages_under (g.F.World.scene c.args.host.now).folder c.args.from.now c.args.at) o) cell ∙ page)))
    c.read_at.ensures.value

pub returns-in-Away-clause-reads : goal.returns-in-Away-clause-reads
returns-in-Away-clause-reads g c = only_call g.F.World.tells _ c.read_at.result _ _ c.read_at.ensures.frame c.read_at.ensures.cause c.read_at.ensures.told

pub returns-in-Away-clause-none : goal.returns-in-Away-clause-none
returns-in-Away-clause-none g c =
    on_ok_weaker c.read_at.result (λ quiet. look_none g.F.World.tells Read _ c.read_at.result _ _ c.read_at.ensures.frame c.read_at.ensures.told quiet) c.read_at.ensures.quiet

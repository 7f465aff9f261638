use Rattle.std.proofs.Common.{◌≡◌, ◌∙◌, List, ℕ, Bool, length, reverse, arith, ap, refl, sym, subst}
use Rattle.std.proofs.lemmas.Result.{on_ok_weaker}
use Rattle.vs_host.specs.World.{content_of}
use Rattle.vs_damaged.specs.Finds.{ShowsBlock, found_in, target_of}
use Rattle.vs_recover.specs.declared.walk.Walk.{Walk}
use Rattle.vs_recover.specs.Marks.{free_in, used_in}
use Rattle.vs_recover.proofs.ReadingLaws.{no_memory, reads_none, reads_within}
use Rattle.vs_recover.proofs.WalkedLaws.{are_barred, are_free, barred_nowhere, damaged_bytes, damaged_file, damaged_pages, has_more, has_page, has_same, nothing_nowhere, visits_block, visits_nothing, visits_original}
use Rattle.vs_recover.proofs.walk.Walk.visit.Goals as goal

pub returns-then-mark-clause-visits : goal.returns-then-mark-clause-visits
returns-then-mark-clause-visits g c = on_ok_weaker c.open.result (λ shows d has taken before.
    let old : Walk = c.args.self.now in
    let new : Walk = c.open.new.self in
    let first : ℕ = c.in-Block.first in
    let pages : ℕ = c.in-Block.pages in
    let marks = c.open.ensures.same.1 in
    let len : length old.marks ≡ _ = damaged_pages has c.requires.count in
    let inside = c.if-mark.ensures.inside refl in
    let free = are_free d old c.mark.new.self taken first pages len before inside (λ k. c.if-mark.ensures.used refl k) in
    let more = has_more old new taken first pages before (ap (λ (ms : List Bool). length ms) marks ∙ c.if-mark.ensures.len) inside (λ k. ap (λ (ms : List Bool). used_in ms k) marks ∙ c.if-mark.ensures.used refl k) in
    visits_block d old new c.args.entry.now taken (record { first = first; count = pages }) (sym c.target_of.ensures ∙ c.in-Block.is) free more
    (subst (λ (bs : List ℕ). ShowsBlock old.shown new.shown (reverse old.left.items) (reverse new.left.items) (found_in c.args.entry.now bs)) (damaged_bytes first pages has) (shows d.file (damaged_file has)))
    ) c.open.ensures.shows

pub returns-then-mark-clause-free : goal.returns-then-mark-clause-free
returns-then-mark-clause-free g c = omega (arith, ap (λ (ms : List Bool). free_in ms) c.open.ensures.same.1, c.if-mark.ensures.free refl)

pub returns-then-mark-clause-reading : goal.returns-then-mark-clause-reading
returns-then-mark-clause-reading g c =
    let some = has_page c.args.entry.now c.in-Block.first c.in-Block.pages (sym c.target_of.ensures ∙ c.in-Block.is) in
    reads_within (λ told. omega (arith, some, ap (λ (ms : List Bool). free_in ms) c.open.ensures.same.1, c.if-mark.ensures.free refl)) c.open.ensures.reading

pub returns-in_err-push_marker-in-Block-clause-reading : goal.returns-in_err-push_marker-in-Block-clause-reading
returns-in_err-push_marker-in-Block-clause-reading g c = reads_none g.F.World.tells (no_memory _ c.from_residual.ensures.1)

pub returns-in_err-push_marker-in-Nothing-clause-reading : goal.returns-in_err-push_marker-in-Nothing-clause-reading
returns-in_err-push_marker-in-Nothing-clause-reading g c = reads_none g.F.World.tells (no_memory _ c.from_residual-in_err-push_marker-in-Nothing.ensures.1)

pub returns-in-Original-clause-visits : goal.returns-in-Original-clause-visits
returns-in-Original-clause-visits g c = on_ok_weaker c.show_original.result (λ shows d has taken before.
    let old : Walk = c.args.self.now in
    let new : Walk = record c.args.self.now { shown = c.show_original.new.shown; original = c.show_original.new.original } in
    visits_original d old new c.args.entry.now taken c.in-Original.before c.in-Original.count (content_of (g.F.World.scene c.args.host.now) c.args.name.now) (sym c.target_of.ensures ∙ c.in-Original.is) has.original refl
    (has_same old new taken refl before) (shows has.told)) c.show_original.ensures.shows

pub returns-in_ok-push_marker-in-Block-clause-visits : goal.returns-in_ok-push_marker-in-Block-clause-visits
returns-in_ok-push_marker-in-Block-clause-visits g c = λ d has taken before.
    let old : Walk = c.args.self.now in
    let new : Walk = record c.args.self.now { marks = c.mark.new.self; shown = c.push_marker.new.self } in
    let first : ℕ = c.in-Block.first in
    let pages : ℕ = c.in-Block.pages in
    let barred = are_barred d old taken first pages (damaged_pages has c.requires.count) before (c.if-mark.ensures.clash refl) in
    visits_nothing d old new c.args.entry.now taken (barred_nowhere d taken (target_of c.args.entry.now) first pages (sym c.target_of.ensures ∙ c.in-Block.is) barred) refl (has_same old new taken (c.if-mark.ensures.same refl) before) c.in_ok-push_marker-in-Block.ensures

pub returns-in_ok-push_marker-in-Block-clause-reading : goal.returns-in_ok-push_marker-in-Block-clause-reading
returns-in_ok-push_marker-in-Block-clause-reading g c = reads_none g.F.World.tells (λ is. cc)

pub returns-in_ok-push_marker-in-Nothing-clause-visits : goal.returns-in_ok-push_marker-in-Nothing-clause-visits
returns-in_ok-push_marker-in-Nothing-clause-visits g c = λ d has taken before.
    let old : Walk = c.args.self.now in
    let new : Walk = record c.args.self.now { shown = c.push_marker-in-Nothing.new.self } in
    visits_nothing d old new c.args.entry.now taken (nothing_nowhere d taken (target_of c.args.entry.now) (sym c.target_of.ensures ∙ c.in-Nothing.is)) refl (has_same old new taken refl before) c.in_ok-push_marker-in-Nothing.ensures

pub returns-in_ok-push_marker-in-Nothing-clause-reading : goal.returns-in_ok-push_marker-in-Nothing-clause-reading
returns-in_ok-push_marker-in-Nothing-clause-reading g c = reads_none g.F.World.tells (λ is. cc)

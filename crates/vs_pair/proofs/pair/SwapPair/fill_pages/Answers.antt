use Rattle.std.proofs.Common.{◌*◌, ◌∙◌, List, ℕ, ◌≤◌, length, refl, sym, ap, subst, arith}
use Rattle.std.specs.Prelude.{IsErr}
use Rattle.std.proofs.lemmas.List.{with_items_is}
use Rattle.vs_host.specs.Trace.{Read}
use Rattle.vs_swap.specs.Files.{page_in}
use Rattle.vs_pair.proofs.AwayLemmas.{run_read, run_within}
use Rattle.vs_pair.proofs.Calls.{look_none}
use Rattle.vs_pair.proofs.ReadLemmas.{only_as, only_call}
use Rattle.vs_pair.proofs.pair.SwapPair.fill_pages.Goals as goal

pub fill_front-requires-clause-there : goal.fill_front-requires-clause-there
fill_front-requires-clause-there g c told =
    run_within c.args.self.now.pages c.args.at c.args.pages c.requires.least c.requires.away c.args.self.now.files (g.F.World.scene c.args.host.now).folder c.swap_name-name.result.now c.swap_name-name.ensures (c.requires.stored told).backed

pub returns-in-Ok-clause-read : goal.returns-in-Ok-clause-read
returns-in-Ok-clause-read g c told i less =
    let pair = c.args.self.now in
    let disk = (g.F.World.scene c.args.host.now).folder in
    let name = c.swap_name-name.result.now in
    let room = c.fill_front.new.room in
    let long = run_within pair.pages c.args.at c.args.pages c.requires.least c.requires.away pair.files disk name c.swap_name-name.ensures (c.requires.stored told).backed in
    let most : c.args.pages * 4096 ≤ length room = omega (arith, c.requires.most, c.fill_front.ensures.size, c.deref_mut.ensures.len, pair.cache.room.ok.0, pair.cache.room_size) in
    run_read c.args.at c.args.pages i (c.args.at * 4096) (c.args.pages * 4096) refl refl less pair.files disk name room c.swap_name-name.ensures long most (c.in-Ok.ensures.value told)
    ∙ ap (λ (items : List ℕ). page_in items i) (sym (with_items_is pair.cache.room room (omega (arith, c.fill_front.ensures.size, c.deref_mut.ensures.len))))

pub returns-in-Ok-clause-cached : goal.returns-in-Ok-clause-cached
returns-in-Ok-clause-cached g c told = (c.requires.stored told).cached

pub returns-in-Ok-clause-reads : goal.returns-in-Ok-clause-reads
returns-in-Ok-clause-reads g c =
    only_as g.F.World.tells (IsErr c.fill_front.result) _ _ _ 1 1 (omega arith) (λ failed. absurd (cc failed)) (only_call g.F.World.tells _ c.fill_front.result _ _ c.fill_front.ensures.frame c.fill_front.ensures.cause c.fill_front.ensures.told)

pub returns-in-Ok-clause-calm : goal.returns-in-Ok-clause-calm
returns-in-Ok-clause-calm g c = λ calm. look_none g.F.World.tells Read _ c.fill_front.result _ _ c.fill_front.ensures.frame c.fill_front.ensures.told c.in-Ok.ensures.quiet

pub returns-in-Err-clause-cached : goal.returns-in-Err-clause-cached
returns-in-Err-clause-cached g c told = (c.requires.stored told).cached

pub returns-in-Err-clause-reads : goal.returns-in-Err-clause-reads
returns-in-Err-clause-reads g c =
    only_as g.F.World.tells (IsErr c.fill_front.result) _ _ _ 1 1 (omega arith) (λ failed. subst (λ r. IsErr r) (sym c.in-Err.is) refl) (only_call g.F.World.tells _ c.fill_front.result _ _ c.fill_front.ensures.frame c.fill_front.ensures.cause c.fill_front.ensures.told)

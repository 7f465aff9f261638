use Rattle.std.proofs.Common.{◌∙◌, true, refl, ap, sym, subst}
use Rattle.std.proofs.lemmas.Bool.{true≢false}
use Rattle.std.specs.Prelude.{IsErr, is_err}
use Rattle.vs_host.specs.World.{Scene}
use Rattle.vs_top.specs.PairPromise.{RunsPair}
use Rattle.vs_top.specs.declared.ending.Ending.{Ending}
use Rattle.vs_top.specs.declared.pair.Sessions.{Sessions}
use Rattle.vs_top.proofs.PairEnds.{ended_runs}
use Rattle.vs_top.proofs.PairRuns.{greet_fails, greet_keeps, greet_script, greet_told, memory_runs, pair_ending, placed_start, usable_start}
use Rattle.vs_top.proofs.pair.serve_both.Goals as goal

pub returns-in_err-reader : goal.returns-in_err-reader
returns-in_err-reader g c = λ one two old at.
    pair_ending g.H.World.tells one two old (g.H.World.scene c.args.host.now) c.args.marks.now.items c.from_residual.result _ _ c.from_residual.ensures.1 refl
    (memory_runs g.H.World.tells one two old (g.H.World.scene c.args.host.now) c.args.multi at c.args.marks.now.items c.requires.marks)

pub returns-in_err-line : goal.returns-in_err-line
returns-in_err-line g c = λ one two old at.
    pair_ending g.H.World.tells one two old (g.H.World.scene c.args.host.now) c.args.marks.now.items c.from_residual-in_err-line.result _ _ c.from_residual-in_err-line.ensures.1 refl
    (memory_runs g.H.World.tells one two old (g.H.World.scene c.args.host.now) c.args.multi at c.args.marks.now.items c.requires.marks)

pub returns-in_err-greet : goal.returns-in_err-greet
returns-in_err-greet g c = λ one two old at.
    pair_ending g.H.World.tells one two old (g.H.World.scene c.greet.new.host) c.args.marks.now.items c.from_residual-in_err-greet.result _ _ c.from_residual-in_err-greet.ensures.1 c.in_err-greet.ensures.out
    (greet_fails g.H.World.tells one two old (g.H.World.scene c.args.host.now) c.args.multi at c.args.marks.now.items c.requires.marks c.greet.result (g.H.World.scene c.greet.new.host) c.greet.ensures.greets (ap is_err c.in_err-greet.was))

pub take_lines-requires-clause-usable : goal.take_lines-requires-clause-usable
take_lines-requires-clause-usable g c =
    let pair : Sessions = record { multi = c.args.multi; one = c.new.result; two = c.new-2.result; clean = true } in
    let opened = c.requires.opened in
    usable_start g.H.World.tells opened.0 opened.1 opened.2 (g.H.World.scene c.args.host.now) (g.H.World.scene c.greet.new.host) pair c.greet.result
    (λ failed. absurd (true≢false (sym failed ∙ ap is_err c.in_ok-greet.was))) c.greet.ensures.greets opened.3 c.requires.clock c.requires.fits c.new.ensures c.new-2.ensures

pub returns-in_err-take_lines : goal.returns-in_err-take_lines
returns-in_err-take_lines g c = λ one two old at.
    let now : Scene = g.H.World.scene c.args.host.now in
    let mid : Scene = g.H.World.scene c.greet.new.host in
    let pair : Sessions = record { multi = c.args.multi; one = c.new.result; two = c.new-2.result; clean = true } in
    let calm : ¬ IsErr c.greet.result = λ failed. absurd (true≢false (sym failed ∙ ap is_err c.in_ok-greet.was)) in
    let same = greet_script g.H.World.tells one two old now c.args.multi at c.args.marks.now.items c.requires.marks c.greet.result mid calm c.greet.ensures.greets in
    let placed = placed_start g.H.World.tells one two old now pair at.opened c.new.ensures c.new-2.ensures in
    let keeps = greet_keeps g.H.World.tells one two old now c.args.multi at c.args.marks.now.items c.requires.marks c.greet.result mid calm c.greet.ensures.greets in
    pair_ending g.H.World.tells one two old (g.H.World.scene c.take_lines.new.host) c.take_lines.new.marks.items c.from_residual-in_err-take_lines.result _ _ c.from_residual-in_err-take_lines.ensures.1 refl
    (record {
      told = λ told. c.in_err-take_lines.ensures.told told one two old same placed (greet_told g.H.World.tells one two old now c.args.multi at c.args.marks.now.items c.requires.marks c.greet.result mid calm c.greet.ensures.greets told);
      ends = c.in_err-take_lines.ensures.keeps one two old same keeps;
    })

pub returns-in_err-end : goal.returns-in_err-end
returns-in_err-end g c = λ one two old at.
    let now : Scene = g.H.World.scene c.args.host.now in
    let mid : Scene = g.H.World.scene c.greet.new.host in
    let pair : Sessions = record { multi = c.args.multi; one = c.new.result; two = c.new-2.result; clean = true } in
    let calm : ¬ IsErr c.greet.result = λ failed. absurd (true≢false (sym failed ∙ ap is_err c.in_ok-greet.was)) in
    let same = greet_script g.H.World.tells one two old now c.args.multi at c.args.marks.now.items c.requires.marks c.greet.result mid calm c.greet.ensures.greets in
    let placed = placed_start g.H.World.tells one two old now pair at.opened c.new.ensures c.new-2.ensures in
    let keeps = greet_keeps g.H.World.tells one two old now c.args.multi at c.args.marks.now.items c.requires.marks c.greet.result mid calm c.greet.ensures.greets in
    pair_ending g.H.World.tells one two old (g.H.World.scene c.end.new.host) c.end.new.marks.items c.from_residual-in_err-end.result _ _ c.from_residual-in_err-end.ensures.1 refl
    (record {
      told = λ told.
          let taken = c.in_ok-take_lines.ensures.told told one two old same placed (greet_told g.H.World.tells one two old now c.args.multi at c.args.marks.now.items c.requires.marks c.greet.result mid calm c.greet.ensures.greets told) in
          c.in_err-end.ensures.told told one two old taken.0 taken.2 taken.3 taken.1;
      ends = c.in_err-end.ensures.keeps one two old (c.in_ok-take_lines.ensures.keeps one two old same keeps);
    })

pub returns : goal.returns
returns g c = λ one two old at.
    let now : Scene = g.H.World.scene c.args.host.now in
    let mid : Scene = g.H.World.scene c.greet.new.host in
    let pair : Sessions = record { multi = c.args.multi; one = c.new.result; two = c.new-2.result; clean = true } in
    let calm : ¬ IsErr c.greet.result = λ failed. absurd (true≢false (sym failed ∙ ap is_err c.in_ok-greet.was)) in
    let same = greet_script g.H.World.tells one two old now c.args.multi at c.args.marks.now.items c.requires.marks c.greet.result mid calm c.greet.ensures.greets in
    let placed = placed_start g.H.World.tells one two old now pair at.opened c.new.ensures c.new-2.ensures in
    let keeps = greet_keeps g.H.World.tells one two old now c.args.multi at c.args.marks.now.items c.requires.marks c.greet.result mid calm c.greet.ensures.greets in
    subst (λ (e : Ending). RunsPair g.H.World.tells one two old (g.H.World.scene c.end.new.host) e c.end.new.marks.items) (sym c.ending_of.ensures)
    (ended_runs g.H.World.tells one two old (g.H.World.scene c.end.new.host) c.end.new.self c.end.new.marks.items
    (λ told.
    let taken = c.in_ok-take_lines.ensures.told told one two old same placed (greet_told g.H.World.tells one two old now c.args.multi at c.args.marks.now.items c.requires.marks c.greet.result mid calm c.greet.ensures.greets told) in
    c.in_ok-end.ensures.told told one two old taken.0 taken.2 taken.3 taken.1)
    (c.in_ok-end.ensures.keeps one two old (c.in_ok-take_lines.ensures.keeps one two old same keeps)))

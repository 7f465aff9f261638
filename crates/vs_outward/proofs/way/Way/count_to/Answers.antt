use Rattle.std.proofs.Common.{◌≡◌, ◌-◌, ◌≤◌, drop, get_or, length, sym, subst, ◌∙◌, arith}
use Rattle.std.proofs.lemmas.Bool.Decides.{nat_tests}
use Rattle.vs_undo.specs.Ways.{start}
use Rattle.vs_outward.proofs.CountLemmas.{count_there, counted_off, counted_on, kept_found}
use Rattle.vs_outward.proofs.way.Way.count_to.Goals as goal

pub returns-in_err-place-clause-off : goal.returns-in_err-place-clause-off
returns-in_err-place-clause-off c = absurd (kept_found c.args.nodes.now c.args.number c.requires.kept c.if-number-eq0.false (sym c.find.ensures ∙ c.in_err-place.was))

pub returns-in-0-clause-off : goal.returns-in-0-clause-off
returns-in-0-clause-off c =
    let counts = c.args.self.now.counts.items in
    let place = c.in_ok-place.place in
    let found = sym c.find.ensures ∙ c.in_ok-place.was in
    let is : get_or counts place 0 ≡ 0 = sym (count_there c.args.nodes.now c.args.self.now.changes.items counts c.requires.counts place c.args.number found c.index.result.now c.index.ensures) ∙ c.in-0.is in
    (c.if-number-eq0.false, counted_off c.args.nodes.now c.args.self.now.changes.items counts c.requires.counts place c.args.number found is)

pub returns-in_default-clause-on : goal.returns-in_default-clause-on
returns-in_default-clause-on c =
    let way = c.args.self.now.changes.items in
    let counts = c.args.self.now.counts.items in
    let place = c.in_ok-place.place in
    let found = sym c.find.ensures ∙ c.in_ok-place.was in
    let is : c.index.result.now ≡ get_or counts place 0 = count_there c.args.nodes.now way counts c.requires.counts place c.args.number found c.index.result.now c.index.ensures in
    let on = counted_on c.args.nodes.now way counts c.requires.counts place c.args.number found (λ zero. grind (arith, nat_tests)) in
    subst (λ k. (k - 1 ≤ length way) × (start (drop (k - 1) way) ≡ c.args.number)) (sym is) on

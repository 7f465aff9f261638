-- Where the first of the far lines stays, none of them is before the line.
use Rattle.std.proofs.Common.{◌≤◌, ◌-◌, All, sym, subst, arith}
use Rattle.vs_marks.specs.Marks.{Ascends, far_in, far_of, near_of}
use Rattle.vs_marks.proofs.MarksLemmas.{far-last, none-below, ascends-back}
use Rattle.vs_marks.proofs.marks.Marks.step_down.Goals as goal

pub returns-in_ok-push-in-Some-2-clause-done : goal.returns-in_ok-push-in-Some-2-clause-done
returns-in_ok-push-in-Some-2-clause-done c =
    let self = c.args.self.now in
    let kept = c.in-Some.kept in
    let rest = c.pop.new.self.items in
    let first = kept - self.lead in
    let up = subst Ascends (far-last self.lead kept rest self.far.items c.in-Some.ensures.items) (ascends-back (near_of self) (far_of self) c.requires.sound.ascends) in
    λ no. subst (All (λ other. c.args.line ≤ other)) (sym (far-last self.lead kept rest c.push-in-Some.new.self.items c.in_ok-push-in-Some-2.ensures.items))
    (none-below c.args.line first (far_in self.lead rest) (omega (arith, c.if-next-line.false)) up)

-- A near line past the new ones is gone after the splice.
use Rattle.std.proofs.Common.{◌∙◌, ◌≤◌, ◌<◌, ◌+◌, ◌∷◌, [], ◌++◌, ℕ, List, All, length, drop, ap, sym, subst, arith, length-append}
use Rattle.std.proofs.lemmas.List.Elements.{All-head}
use Rattle.vs_marks.specs.Marks.{Ascends, far_of, marks_after, near_of}
use Rattle.vs_marks.proofs.MarksLemmas.{all-back, all-below, all-front, all-stay, all-without, ascends-front, ascends-without, last-goes, near-last}
use Rattle.vs_marks.proofs.marks.Marks.trim_step.Goals as goal

pub returns-then-next-top-clause-sound : goal.returns-then-next-top-clause-sound
returns-then-next-top-clause-sound c =
    let self = c.args.self.now in
    let rest = c.pop.new.self.items in
    let next = c.in-Some.next in
    let size = ap (λ (l : List ℕ). length l) c.in-Some.ensures.items in
    let in_rest : self.from ≤ length rest = omega (arith, c.if-self-len.false, c.len.ensures, size, length-append rest (next ∷ [])) in
    let whole = ap (λ (l : List ℕ). l ++ far_of self) (near-last self.from next rest self.near.items in_rest c.in-Some.ensures.items) in
    record {
      from_within = in_rest;
      led = c.requires.sound.led;
      ascends = ascends-without (drop self.from rest) next (far_of self) (subst Ascends whole c.requires.sound.ascends);
      within = all-without (λ n. n < self.lines) (drop self.from rest) next (far_of self) (subst (All (λ n. n < self.lines)) whole c.requires.sound.within);
    }

pub returns-then-next-top-clause-near : goal.returns-then-next-top-clause-near
returns-then-next-top-clause-near c =
    let self = c.args.self.now in
    let rest = c.pop.new.self.items in
    let next = c.in-Some.next in
    let size = ap (λ (l : List ℕ). length l) c.in-Some.ensures.items in
    let in_rest : self.from ≤ length rest = omega (arith, c.if-self-len.false, c.len.ensures, size, length-append rest (next ∷ [])) in
    let last = near-last self.from next rest self.near.items in_rest c.in-Some.ensures.items in
    all-front (λ other. other < c.args.top + c.args.old) (drop self.from rest) (next ∷ []) (subst (All (λ other. other < c.args.top + c.args.old)) last c.requires.near)

pub returns-then-next-top-clause-kept : goal.returns-then-next-top-clause-kept
returns-then-next-top-clause-kept c =
    let self = c.args.self.now in
    let rest = c.pop.new.self.items in
    let next = c.in-Some.next in
    let size = ap (λ (l : List ℕ). length l) c.in-Some.ensures.items in
    let in_rest : self.from ≤ length rest = omega (arith, c.if-self-len.false, c.len.ensures, size, length-append rest (next ∷ [])) in
    let last = near-last self.from next rest self.near.items in_rest c.in-Some.ensures.items in
    let P = λ (other : ℕ). other < c.args.top + c.args.old in
    let in_old = All-head P next [] (all-back P (drop self.from rest) (next ∷ []) (subst (All P) last c.requires.near)) in
    last-goes c.args.top c.args.old c.args.new (drop self.from rest) next in_old c.if-next-top.true ∙ ap (marks_after c.args.top c.args.old c.args.new) (sym last)

pub returns-in_ok-push-in-Some-clause-done : goal.returns-in_ok-push-in-Some-clause-done
returns-in_ok-push-in-Some-clause-done c =
    let self = c.args.self.now in
    let rest = c.pop.new.self.items in
    let next = c.in-Some.next in
    let size = ap (λ (l : List ℕ). length l) c.in-Some.ensures.items in
    let in_rest : self.from ≤ length rest = omega (arith, c.if-self-len.false, c.len.ensures, size, length-append rest (next ∷ [])) in
    let last = near-last self.from next rest self.near.items in_rest c.in-Some.ensures.items in
    let again = near-last self.from next rest c.push.new.self.items in_rest c.in_ok-push-in-Some.ensures.items in
    let up = subst Ascends last (ascends-front (near_of self) (far_of self) c.requires.sound.ascends) in
    let in_new = all-below (c.args.top + c.args.new) next (drop self.from rest) (omega (arith, c.if-next-top.false)) up in
    let P = λ (other : ℕ). other < c.args.top + c.args.old in
    let stay = all-stay c.args.top c.args.old c.args.new (drop self.from rest ++ next ∷ []) (subst (All P) last c.requires.near) in_new in
    λ no. ap (marks_after c.args.top c.args.old c.args.new) again ∙ stay ∙ sym again

-- A line that changes sides keeps its place among all.
use Rattle.std.proofs.Common.{◌≤◌, ◌<◌, ◌+◌, ◌∷◌, [], ℕ, List, All, length, drop, ap, sym, subst, arith, length-append}
use Rattle.std.proofs.lemmas.List.Elements.{All-head, All-push}
use Rattle.vs_marks.specs.Marks.{Ascends, far_of, near_of}
use Rattle.vs_marks.proofs.MarksLemmas.{all-back, all-below, all-front, ascends-front, lines-up, near-last}
use Rattle.vs_marks.proofs.marks.Marks.step_up.Goals as goal

pub overflow_add-next : goal.overflow_add-next
overflow_add-next c =
    let self = c.args.self.now in
    let rest = c.pop.new.self.items in
    let size = ap (λ (l : List ℕ). length l) c.in-Some.ensures.items in
    let in_rest : self.from ≤ length rest = omega (arith, c.if-self-len.false, c.len.ensures, size, length-append rest (c.in-Some.next ∷ [])) in
    let last = near-last self.from c.in-Some.next rest self.near.items in_rest c.in-Some.ensures.items in
    let within = subst (All (λ line. line < self.lines)) last (all-front (λ line. line < self.lines) (near_of self) (far_of self) c.requires.sound.within) in
    let below = All-head (λ line. line < self.lines) c.in-Some.next [] (all-back (λ line. line < self.lines) (drop self.from rest) (c.in-Some.next ∷ []) within) in
    omega (arith, below, c.requires.few)

pub returns-then-next-line-clause-sound : goal.returns-then-next-line-clause-sound
returns-then-next-line-clause-sound c =
    let self = c.args.self.now in
    let rest = c.pop.new.self.items in
    let put = c.in_ok-push-in-Some.ensures.items in
    let size = ap (λ (l : List ℕ). length l) c.in-Some.ensures.items in
    let in_rest : self.from ≤ length rest = omega (arith, c.if-self-len.false, c.len.ensures, size, length-append rest (c.in-Some.next ∷ [])) in
    let same = lines-up self.from self.lead c.in-Some.next self.near.items rest self.far.items c.push.new.self.items in_rest c.in-Some.ensures.items put in
    record {
      from_within = in_rest;
      led = subst (All (λ line. self.lead ≤ line)) (sym put) (All-push (λ line. self.lead ≤ line) self.far.items (c.in-Some.next + self.lead) c.requires.sound.led (omega arith));
      ascends = subst Ascends (sym same) c.requires.sound.ascends;
      within = subst (All (λ line. line < self.lines)) (sym same) c.requires.sound.within;
    }

pub returns-in_ok-push-in-Some-2-clause-done : goal.returns-in_ok-push-in-Some-2-clause-done
returns-in_ok-push-in-Some-2-clause-done c =
    let self = c.args.self.now in
    let rest = c.pop.new.self.items in
    let size = ap (λ (l : List ℕ). length l) c.in-Some.ensures.items in
    let in_rest : self.from ≤ length rest = omega (arith, c.if-self-len.false, c.len.ensures, size, length-append rest (c.in-Some.next ∷ [])) in
    let last = near-last self.from c.in-Some.next rest self.near.items in_rest c.in-Some.ensures.items in
    let again = near-last self.from c.in-Some.next rest c.push-in-Some.new.self.items in_rest c.in_ok-push-in-Some-2.ensures.items in
    let up = subst Ascends last (ascends-front (near_of self) (far_of self) c.requires.sound.ascends) in
    λ no. subst (All (λ other. other < c.args.line)) (sym again) (all-below c.args.line c.in-Some.next (drop self.from rest) (omega (arith, c.if-next-line.false)) up)

-- The first line is the first near one, or else the far one that is kept last.
use Rattle.std.proofs.Common.{◌≡◌, ◌≤◌, ◌<◌, ◌+◌, ◌-◌, ◌∷◌, [], ◌++◌, ℕ, List, All, drop, ap, sym, subst, arith}
use Rattle.std.proofs.lemmas.List.Elements.{All-head, All-tail}
use Rattle.vs_marks.specs.Marks.{Ascends, far_in, far_of, near_of}
use Rattle.vs_marks.proofs.MarksLemmas.{all-back, all-front, ascends-back, far-last, front-at}
use Rattle.std.proofs.lemmas.List.{drop_all}
use Rattle.vs_marks.proofs.marks.Marks.take_first.Goals as goal

pub returns-then-self-len-clause-within : goal.returns-then-self-len-clause-within
returns-then-self-len-clause-within c =
    let self = c.args.self.now in
    let line = c.index-line.result.now in
    let first : near_of self ≡ line ∷ drop (self.from + 1) self.near.items =
    front-at self.from line self.near.items (omega (arith, c.if-self-len.true, c.len.ensures)) c.index-line.ensures in
    All-head (λ n. n < self.lines) line (drop (self.from + 1) self.near.items ++ far_of self)
    (subst (All (λ n. n < self.lines)) (ap (λ (l : List ℕ). l ++ far_of self) first) c.requires.sound.within)

pub returns-then-self-len-clause-sound : goal.returns-then-self-len-clause-sound
returns-then-self-len-clause-sound c =
    let self = c.args.self.now in
    let line = c.index-line.result.now in
    let first : near_of self ≡ line ∷ drop (self.from + 1) self.near.items =
    front-at self.from line self.near.items (omega (arith, c.if-self-len.true, c.len.ensures)) c.index-line.ensures in
    let whole = ap (λ (l : List ℕ). l ++ far_of self) first in
    record {
      from_within = omega (arith, c.if-self-len.true, c.len.ensures);
      led = c.requires.sound.led;
      ascends = (subst Ascends whole c.requires.sound.ascends).1;
      within = All-tail (λ n. n < self.lines) line (drop (self.from + 1) self.near.items ++ far_of self) (subst (All (λ n. n < self.lines)) whole c.requires.sound.within);
    }

pub returns-in-Some-clause-within : goal.returns-in-Some-clause-within
returns-in-Some-clause-within c =
    let self = c.args.self.now in
    let rest = c.pop.new.self.items in
    let first = far-last self.lead c.in-Some.kept rest self.far.items c.in-Some.ensures.items in
    All-head (λ n. n < self.lines) (c.in-Some.kept - self.lead) (far_in self.lead rest)
    (subst (All (λ n. n < self.lines)) first (all-back (λ n. n < self.lines) (near_of self) (far_of self) c.requires.sound.within))

pub returns-in-Some-clause-sound : goal.returns-in-Some-clause-sound
returns-in-Some-clause-sound c =
    let self = c.args.self.now in
    let rest = c.pop.new.self.items in
    let first = far-last self.lead c.in-Some.kept rest self.far.items c.in-Some.ensures.items in
    let none : near_of self ≡ [] = drop_all self.from self.near.items (omega (arith, c.if-self-len.false, c.len.ensures)) in
    let up = (subst Ascends first (ascends-back (near_of self) (far_of self) c.requires.sound.ascends)).1 in
    let within = All-tail (λ n. n < self.lines) (c.in-Some.kept - self.lead) (far_in self.lead rest)
    (subst (All (λ n. n < self.lines)) first (all-back (λ n. n < self.lines) (near_of self) (far_of self) c.requires.sound.within)) in
    let whole : near_of self ++ far_in self.lead rest ≡ far_in self.lead rest = ap (λ (l : List ℕ). l ++ far_in self.lead rest) none in
    record {
      from_within = c.requires.sound.from_within;
      led = all-front (λ n. self.lead ≤ n) rest (c.in-Some.kept ∷ []) (subst (All (λ n. self.lead ≤ n)) c.in-Some.ensures.items c.requires.sound.led);
      ascends = subst Ascends (sym whole) up;
      within = subst (All (λ n. n < self.lines)) (sym whole) within;
    }

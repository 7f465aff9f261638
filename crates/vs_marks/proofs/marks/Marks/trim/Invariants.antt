-- What is left of the near lines comes to the same after the splice.
use Rattle.std.proofs.Common.{◌≡◌, ◌<◌, ◌+◌, All, length}
use Rattle.vs_marks.specs.Marks.{IsSound, far_of, marks_after, near_of}
use Rattle.vs_marks.proofs.marks.Marks.trim.Given as goal

abbrev pub invariant-trim : goal.invariant-trim
invariant-trim l = let old = l.initial.self in record {
  sound : IsSound l.self;
  near : All (λ other. other < l.top + l.old) (near_of l.self);
  kept : marks_after l.top l.old l.new (near_of l.self) ≡ marks_after l.top l.old l.new (near_of old);
  far : far_of l.self ≡ far_of old;
  lead : l.self.lead ≡ old.lead;
  count : l.self.lines ≡ old.lines;
}

abbrev pub decreases-trim : goal.decreases-trim
decreases-trim l = length l.self.near.items

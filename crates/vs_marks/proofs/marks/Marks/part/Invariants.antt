-- The marked lines stay, whichever side they stand on.
use Rattle.std.proofs.Common.{◌≡◌, ◌≤◌, All, length}
use Rattle.vs_marks.specs.Marks.{IsSound, far_of, lines_of}
use Rattle.vs_marks.proofs.marks.Marks.part.Given as goal

abbrev pub invariant-down : goal.invariant-down
invariant-down l = let old = l.initial.self in record {
  sound : IsSound l.self;
  lines : lines_of l.self ≡ lines_of old;
  lead : l.self.lead ≡ old.lead;
  count : l.self.lines ≡ old.lines;
}

abbrev pub decreases-down : goal.decreases-down
decreases-down l = length l.self.far.items

abbrev pub invariant-up : goal.invariant-up
invariant-up l = let old = l.initial.self in record {
  sound : IsSound l.self;
  lines : lines_of l.self ≡ lines_of old;
  lead : l.self.lead ≡ old.lead;
  count : l.self.lines ≡ old.lines;
  far : All (λ other. l.line ≤ other) (far_of l.self);
}

abbrev pub decreases-up : goal.decreases-up
decreases-up l = length l.self.near.items

use Rattle.std.proofs.Common.{◌≡◌, ◌≤◌, take, length}
use denote.Shadow.{shadow}
use denote.Text.{Utf8}
use Rattle.vs_memory.specs.Images.{names_after}
use Rattle.vs_memory.proofs.names.number_of.Given as goal

abbrev pub invariant-loop-i : goal.invariant-loop-i
invariant-loop-i l = record {
  within : l.i ≤ length l.changes;
  same : names_after l.changes l.fn.name ≡ names_after (take l.i l.changes) l.name;
  text : shadow (Utf8 l.name);
}

abbrev pub decreases-loop-i : goal.decreases-loop-i
decreases-loop-i l = l.i

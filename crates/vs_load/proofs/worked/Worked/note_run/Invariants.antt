-- The pages before the place are counted, as far as there is room.
use Rattle.std.proofs.Common.{◌≡◌, ◌≤◌, ◌<◌, Contains, length, ℕ}
use Rattle.vs_load.proofs.worked.Worked.note_run.Given as goal

abbrev pub invariant-loop-number : goal.invariant-loop-number
invariant-loop-number l = record {
  counted : (k : ℕ) → l.at ≤ k → k < l.number → length l.self.numbers.items < 64 → Contains l.self.numbers.items k;
  before : l.self.before ≡ l.fn.self.before;
}

use Rattle.std.proofs.Common.{◌≡◌, ◌≤◌, ◌+◌, ◌-◌, length, drop, nat_eq}
use Rattle.std.specs.List.{common_prefix_len}
use Rattle.vs_exparse.proofs.table.shared_len.Given as goal

abbrev pub invariant-bytes : goal.invariant-bytes
invariant-bytes l = record {
  shared : l.count + common_prefix_len nat_eq (drop l.count l.a) (drop l.count l.b) ≡ common_prefix_len nat_eq l.a l.b;
  a_within : l.count ≤ length l.a;
  b_within : l.count ≤ length l.b;
}

abbrev pub decreases-bytes : goal.decreases-bytes
decreases-bytes l = length l.a - l.count

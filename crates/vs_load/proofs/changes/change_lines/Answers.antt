-- A change keeps the tree in its pages, and the greater of two numbers is one of them.
use Rattle.std.proofs.Common.{◌≡◌, ◌≤◌, ℕ, Bool, true, false, cond, sym, subst}
use Rattle.std.specs.Ordering.{is_lt, nat_cmp, ord_max}
use Rattle.vs_load.proofs.changes.change_lines.Goals as goal

either_within : (first : Bool) (a b most : ℕ) → a ≤ most → b ≤ most → cond first a b ≤ most
either_within true a b most a_within b_within = a_within
either_within false a b most a_within b_within = b_within

max_within : (a b most greater : ℕ) → greater ≡ ord_max nat_cmp a b → a ≤ most → b ≤ most → greater ≤ most
max_within a b most greater is a_within b_within = subst (λ (n : ℕ). n ≤ most) (sym is) (either_within (is_lt (nat_cmp b a)) a b most a_within b_within)

pub loop-preserved : goal.loop-preserved
loop-preserved c = record {
  valid = (c.change_line.ensures.1, c.change_line.ensures.2);
  most = max_within c.loop.worked c.before-in-loop.result 64 c.max-worked.result c.max-worked.ensures c.loop.invariant.most c.before-in-loop.ensures.most;
}

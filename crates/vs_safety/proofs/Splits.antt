-- The commands whose replies are whole in an output, and the names on which commands do not write.
use Rattle.std.proofs.Common.{◌≡◌, ℕ, ◌+◌, ◌<◌, ◌≤◌, List, [], ◌∷◌, ◌++◌, length, length-append, sym, ◌∙◌, ap, subst, arith}
use Rattle.std.specs.Prelude.{Bool}
use Rattle.vs_host.specs.Disk.{Disk, Name}
use Rattle.vs_host.specs.declared.names.Names.{Names}
use Rattle.vs_safety.specs.Turns.{Turn, replies, EndsAfter, IsSplit, AllAvoid, SparesOthers}

-- no more replies are whole
as_many : (n from : ℕ) (first rest others more : List Turn) → first ++ rest ≡ others ++ more → EndsAfter n (from + length (replies first)) rest → from + length (replies others) ≤ n → length others ≤ length first
as_many n from first rest [] more same next le = omega arith
as_many n from [] rest (other ∷ others) more same next le =
    let ends : n < (from + 0) + length other.reply = subst (λ (ts : List Turn). EndsAfter n (from + 0) ts) same next in
    absurd (omega (arith, ends, le, length-append other.reply (replies others)))
as_many n from (one ∷ first) rest (other ∷ others) more same next le =
    let head : one ≡ other = cc in
    let tails : first ++ rest ≡ others ++ more = cc in
    let long : length other.reply ≡ length one.reply = ap (λ (t : Turn). length t.reply) (sym head) in
    let place : from + length (one.reply ++ replies first) ≡ (from + length one.reply) + length (replies first) = omega (arith, length-append one.reply (replies first)) in
    let fewer : length others ≤ length first = as_many n (from + length one.reply) first rest others more tails (subst (λ (k : ℕ). EndsAfter n k rest) place next) (omega (arith, le, long, length-append other.reply (replies others))) in
    omega (arith, fewer)

pub greatest : (from n : ℕ) (turns first rest others more : List Turn) → IsSplit from n turns first rest → turns ≡ others ++ more → from + length (replies others) ≤ n → length others ≤ length first
greatest from n turns first rest others more split same le = as_many n from first rest others more (sym split.turns_are ∙ same) split.next le

-- ---- names of a set on which no command writes

module _ (names : Names) (inside : Name → Bool) where
  pub avoid_front : (turns more : List Turn) → AllAvoid names (turns ++ more) inside → AllAvoid names turns inside
  avoid_front [] more all = tt
  avoid_front (turn ∷ turns) more all = (all.0, avoid_front turns more all.1)

  pub avoid_back : (turns more : List Turn) → AllAvoid names (turns ++ more) inside → AllAvoid names more inside
  avoid_back [] more all = all
  avoid_back (turn ∷ turns) more all = avoid_back turns more all.1

pub spared_front : (others : Name → Bool) (names : Names) (turns more : List Turn) (old new : Disk) → SparesOthers others names turns old new → SparesOthers others names (turns ++ more) old new
spared_front others names turns more old new spared inside foreign all = spared inside foreign (avoid_front names inside turns more all)

-- How few entries a block on the way may have at its depth, and that the line is still below the block after one level.
use Rattle.std.proofs.Common.{◌≡◌, ℕ, zero, suc, ◌+◌, ◌-◌, ◌≤◌, refl, sym, ap, ◌∙◌, arith}
use Rattle.vs_pages.specs.Maps.{Map}
use Rattle.vs_tree_shape.specs.declared.entries.Entry.{Entry}
use Rattle.vs_tree_shape.specs.Changes.{HasLineBelow}
use Rattle.vs_tree_shape.specs.Keeps.{IsReady, KeepsBelow, LeadsOn, spare}
use Rattle.vs_tree_shape.proofs.Downs.{keeps_there}
use Rattle.vs_tree_blocks.specs.Blocks.{tree_format}

pub least_low : (depth : ℕ) → depth ≡ 2 → 32 ≡ 32 + spare (depth - 1)
least_low depth is = ap (λ i. 32 + spare (i - 1)) (sym is)

spare_one : (e : ℕ) → 1 ≤ e → spare (suc e) ≡ 1
spare_one zero some = absurd (omega (arith, some))
spare_one (suc e) some = refl

pub least_high : (depth : ℕ) → 2 ≤ depth → (depth ≡ 2 → ⊥) → 33 ≡ 32 + spare (depth - 1)
least_high depth deep more =
    let e : ℕ = depth - 2 in
    let is : depth - 1 ≡ suc e = omega (arith, deep) in
    let some : 1 ≤ e = omega (arith, deep, more) in
    omega (arith, ap spare is, spare_one e some)

pub least_deep : (depth e least : ℕ) → least ≡ 32 + spare (depth - 1) → depth ≡ suc (suc e) → least ≡ 32 + spare (suc e)
least_deep depth e least least_is is = let less : depth - 1 ≡ suc e = omega (arith, is) in least_is ∙ ap (λ i. 32 + spare i) less

-- after one level the line is still below the block
pub still_there : (m n : Map) (top : Entry) (depth at least : ℕ) → 2 ≤ depth → least ≡ 32 + spare (depth - 1)
    → ((e need : ℕ) → 1 ≤ need → least ≡ 32 + spare (suc e) → KeepsBelow tree_format m n top (suc (suc e)) at (λ t. IsReady need (suc (suc e)) t at) (λ t. LeadsOn need (suc e) t at))
    → HasLineBelow tree_format m top depth at → HasLineBelow tree_format n top depth at
still_there m n top zero at least deep least_is level a = absurd (omega (arith, deep))
still_there m n top (suc zero) at least deep least_is level a = absurd (omega (arith, deep))
still_there m n top (suc (suc e)) at least deep least_is level a = keeps_there tree_format m n top (suc (suc e)) at a (level e 1 (omega arith) (least_deep (suc (suc e)) e least least_is refl) a).0

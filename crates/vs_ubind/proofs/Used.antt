-- The way over the children last used, step by step.
use Rattle.std.proofs.Common.{◌≡◌, ◌==◌, ℕ, suc, if◌then◌else◌, true, false, sym, ap, ◌∙◌}
use Rattle.vs_undo.specs.declared.parts.Parts.{Parts}
use Rattle.vs_undo.specs.Sound.{child_of}
use Rattle.vs_ubind.specs.Unbound.{used_within}

pub used_on : (most : ℕ) (parts : Parts) (number child : ℕ) → child ≡ child_of parts number → (child == 0) ≡ false → used_within (suc most) parts number ≡ used_within most parts child
used_on most parts number child is other =
    ap (λ c. if c == 0 then number else used_within most parts c) (sym is) ∙ ap (λ b. if b then number else used_within most parts child) other

pub used_end : (most : ℕ) (parts : Parts) (number child : ℕ) → child ≡ child_of parts number → (child == 0) ≡ true → used_within (suc most) parts number ≡ number
used_end most parts number child is none =
    ap (λ c. if c == 0 then number else used_within most parts c) (sym is) ∙ ap (λ b. if b then number else used_within most parts child) none

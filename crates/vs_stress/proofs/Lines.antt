-- What the lines of the stress mode mean.
use Rattle.std.proofs.Common.{◌≡◌, ◌≢◌, ◌<◌, ◌+◌, ◌^◌, ℕ, zero, suc, false, List, [], ◌∷◌, decimal, refl, subst, arith}
use Rattle.std.specs.Char.{digit_value}
use Rattle.std.specs.Str.Parse.{AllDigits}
use Rattle.std.proofs.lemmas.Fmt.{decimal_is_IsNumeral}
use Rattle.std.proofs.lemmas.List.Elements.{All-nil, All-cons, All-append}
use Rattle.vs_text.specs.Text.{IsLine}
use Rattle.vs_exparse.specs.Meaning.{meaning_of}
use Rattle.vs_stress.specs.Commands.{line_by, numbered, takes_block}

-- the first alone takes a block
pub no_block : (rest : ℕ) → (rest ≡ 1 → ⊥) → takes_block (meaning_of (line_by rest)) ≡ false
no_block zero other = refl
no_block (suc zero) other = absurd (other refl)
no_block (suc (suc zero)) other = refl
no_block (suc (suc (suc rest))) other = refl

-- ---- the lines of a block

digits_line : (ds : List ℕ) → AllDigits 10 ds → IsLine ds
digits_line [] all = All-nil (λ byte. byte ≢ 10)
digits_line (d ∷ ds) all = All-cons (λ byte. byte ≢ 10) d ds (λ is. absurd (no_digit (subst (λ (b : ℕ). digit_value b < 10) is all.0))) (digits_line ds all.1)
  where
    no_digit : digit_value 10 < 10 → ⊥
    no_digit less = omega (arith, less)

-- no line of a block has byte 10
pub numbered_line : (number digit : ℕ) → number < 2 ^ 64 → digit < 10 → IsLine (numbered number digit)
numbered_line number digit fits small =
    All-append (λ byte. byte ≢ 10) (decimal number) (46 ∷ (48 + digit) ∷ []) (digits_line (decimal number) (decimal_is_IsNumeral number fits).0.1)
    (All-cons (λ byte. byte ≢ 10) 46 ((48 + digit) ∷ []) (λ is. absurd (omega (arith, is))) (All-cons (λ byte. byte ≢ 10) (48 + digit) [] (λ is. absurd (omega (arith, is))) (All-nil (λ byte. byte ≢ 10))))

-- The first byte 10 ends the first line; all else follows by induction on the bytes.
use Rattle.std.proofs.Common.{◌≡◌, ◌≢◌, ℕ, ◌<◌, ◌≤◌, ◌+◌, List, [], ◌∷◌, ◌++◌, length, take, drop, get_or, refl, sym, ap, subst, ◌∙◌, arith, ◌==◌, Some, None, MatchOption}
use Rattle.std.specs.declared.option.Option.{Option}
use Rattle.std.proofs.Math.Seq.{split_at, take-length}
use Rattle.std.proofs.lemmas.Bool.{ne_eqb}
use Rattle.std.proofs.lemmas.Bool.Decides.{nat_tests}
use Rattle.std.proofs.lemmas.Grind.{common_steps}
use Rattle.std.proofs.lemmas.List.{get_or-take, get_or_default, length-take}
use Rattle.std.proofs.lemmas.List.Elements.{recursion_from_All}
use Rattle.std.specs.List.{AllByRecursion}
use Rattle.memchr.specs.Find.{IsFirstByte, Nowhere, Passes, is_byte}
use Rattle.vs_text.specs.Text.{IsLine}
use Rattle.vs_script.specs.Ahead.{whole_lines}

no_ten : (bytes : List ℕ) (k : ℕ) → k ≤ length bytes → Nowhere (Passes (is_byte 10) bytes) 0 k → IsLine (take k bytes)
no_ten bytes k within none = λ j d below.
    let early : j < k = omega (arith, length-take k bytes) in
    let same : get_or (take k bytes) j d ≡ get_or bytes j 0 =
    get_or-take k bytes j d early ∙ get_or_default bytes j d 0 (omega arith) in
    λ ten. none j (omega arith) early (ap (λ byte. byte == 10) (sym same ∙ ten))

-- what the place of the first byte 10 says
pub first_end : (bytes : List ℕ) (end : Option ℕ) → IsFirstByte (is_byte 10) bytes end
    → MatchOption end (IsLine bytes) (λ k. (k < length bytes) × IsLine (take k bytes) × (bytes ≡ take k bytes ++ 10 ∷ drop (k + 1) bytes))
first_end bytes None is = subst (λ (l : List ℕ). IsLine l) (take-length bytes) (no_ten bytes (length bytes) (omega arith) is)
first_end bytes (Some k) is =
    let within : k < length bytes = is.0.high in
    let ten : get_or bytes k 0 ≡ 10 = grind (arith, nat_tests, is.1) in
    let parts : take k bytes ++ 10 ∷ drop (k + 1) bytes ≡ bytes = grind (arith, common_steps, split_at bytes k 0 within) in
    (within, no_ten bytes k (omega arith) is.0.before, sym parts)

whole_lines_rec : (line rest : List ℕ) → AllByRecursion (λ byte. byte ≢ 10) line → whole_lines (line ++ 10 ∷ rest) ≡ line ∷ whole_lines rest
whole_lines_rec [] rest h = refl
whole_lines_rec (byte ∷ bytes) rest h = rw (ne_eqb byte 10 h.0, whole_lines_rec bytes rest h.1) refl

-- a line, byte 10, and what follows
pub whole_lines-line : (line rest : List ℕ) → IsLine line → whole_lines (line ++ 10 ∷ rest) ≡ line ∷ whole_lines rest
whole_lines-line line rest h = whole_lines_rec line rest (recursion_from_All (λ byte. byte ≢ 10) line h)

whole_none_rec : (line : List ℕ) → AllByRecursion (λ byte. byte ≢ 10) line → whole_lines line ≡ []
whole_none_rec [] h = refl
whole_none_rec (byte ∷ bytes) h = rw (ne_eqb byte 10 h.0, whole_none_rec bytes h.1) refl

-- a line that is not ended is not whole
pub whole_lines_none : (line : List ℕ) → IsLine line → whole_lines line ≡ []
whole_lines_none line h = whole_none_rec line (recursion_from_All (λ byte. byte ≢ 10) line h)

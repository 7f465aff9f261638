-- A text that is refused has one reason, and a text within the limits has none.
use Rattle.std.proofs.Common.{◌≡◌, ℕ, ◌<◌, ◌≤◌, ◌⊎◌, List, [], ◌∷◌, ◌++◌, length, refl, sym, ap, ◌∙◌, arith, inl, inr, All, Some, None}
use Rattle.std.proofs.lemmas.Bool.Decides.{nat_tests}
use Rattle.std.specs.List.{AllByRecursion}
use Rattle.std.proofs.lemmas.List.Elements.{All-head, All-tail, recursion_from_All}
use Rattle.std.proofs.lemmas.Option.{none-some}
use Rattle.vs_text.specs.declared.TheConstants.{MAX_LINE_BYTES}
use Rattle.vs_text.specs.declared.error.TextErr.{TextErr}
use Rattle.vs_text.specs.declared.error.TextErr.TheVariants.{TextFull, LineTooLong, NoMemory}
use Rattle.vs_text.specs.Text.{bytes_of}
use Rattle.vs_text.specs.Limits.{first_long, IsShort, IsRefusal, IsTooMany, IsWithinLimits}

-- no line of short ones is too long
pub first_long_none : (text : List (List ℕ)) → All IsShort text → first_long text ≡ None
first_long_none [] h = refl
first_long_none (line ∷ text) h =
    let short : length line ≤ MAX_LINE_BYTES = All-head IsShort line text h in
    let rest = first_long_none text (All-tail IsShort line text h) in
    grind (arith, nat_tests)

long_first : (text : List (List ℕ)) (line : List ℕ) (rest : List (List ℕ)) → AllByRecursion IsShort text → MAX_LINE_BYTES < length line
    → first_long (text ++ line ∷ rest) ≡ Some (length line)
long_first [] line rest h long = grind (arith, nat_tests)
long_first (first ∷ text) line rest h long =
    let short : length first ≤ MAX_LINE_BYTES = h.0 in
    let later = long_first text line rest h.1 long in
    grind (arith, nat_tests)

-- the first line that is too long
pub first_long_after : (text : List (List ℕ)) (line : List ℕ) (rest : List (List ℕ)) → All IsShort text → MAX_LINE_BYTES < length line
    → first_long (text ++ line ∷ rest) ≡ Some (length line)
first_long_after text line rest h long = long_first text line rest (recursion_from_All IsShort text h) long

-- a text within the limits is refused for want of memory alone
pub within_not_refused : (text : List (List ℕ)) (error : TextErr) → IsWithinLimits text → IsRefusal text error → error ≡ NoMemory
within_not_refused text (LineTooLong n) within refused =
    absurd (none-some n (sym (first_long_none text within.short_lines) ∙ refused))
within_not_refused text (TextFull n) within refused = elim (refused.1) [
  | inl lines ↦ absurd (omega (arith, within.few_lines))
  | inr bytes ↦ absurd (omega (arith, within.few_bytes))
]
within_not_refused text NoMemory within refused = refl

too_many_once : (text : List (List ℕ)) (m n : ℕ) → IsTooMany text m → IsTooMany text n → m ≡ n
too_many_once text m n (inl a) (inl b) = omega arith
too_many_once text m n (inl a) (inr b) = absurd (omega arith)
too_many_once text m n (inr a) (inl b) = absurd (omega arith)
too_many_once text m n (inr a) (inr b) = omega arith

-- a text is refused in one way, but for want of memory
pub refused_once : (text : List (List ℕ)) (a b : TextErr) → IsRefusal text a → IsRefusal text b → (a ≡ b) ⊎ ((a ≡ NoMemory) ⊎ (b ≡ NoMemory))
refused_once text (LineTooLong m) (LineTooLong n) a b = inl (let same : Some m ≡ Some n = sym a ∙ b in cc)
refused_once text (LineTooLong m) (TextFull n) a b = absurd (none-some m (sym (first_long_none text b.0) ∙ a))
refused_once text (TextFull m) (LineTooLong n) a b = absurd (none-some n (sym (first_long_none text a.0) ∙ b))
refused_once text (TextFull m) (TextFull n) a b = inl (ap TextFull (too_many_once text m n a.1 b.1))
refused_once text NoMemory b p q = inr (inl refl)
refused_once text a NoMemory p q = inr (inr refl)

-- a text has no more lines than bytes
pub length-bytes_of : (text : List (List ℕ)) → length text ≤ bytes_of text
length-bytes_of [] = omega arith
length-bytes_of (line ∷ text) = omega (arith, length-bytes_of text)

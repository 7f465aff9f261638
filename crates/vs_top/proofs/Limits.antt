-- Whether a text is within its limits can be told: line by line, and then by its numbers.
use Rattle.std.proofs.Common.{◌≡◌, ℕ, ◌⊎◌, List, [], ◌∷◌, length, arith, inl, inr, All, Some, None, IsSomeAnd}
use Rattle.std.specs.declared.option.Option.{Option}
use Rattle.std.proofs.lemmas.Bool.Decides.{leb_tells}
use Rattle.std.proofs.lemmas.List.Elements.{All-nil, All-cons, All-head, All-tail}
use Rattle.vs_text.specs.Documents.{document_of}
use Rattle.vs_text.specs.Text.{bytes_of}
use Rattle.vs_text.specs.Limits.{IsShort, IsWithinLimits}
use Rattle.vs_text.specs.declared.TheConstants.{MAX_LINE_BYTES, MAX_LINES, MAX_TEXT_BYTES}
use Rattle.vs_text.specs.declared.error.TextErr.TheVariants.{TextFull, LineTooLong, NoMemory}
use Rattle.vs_text.proofs.TextLimits.{within_not_refused}
use Rattle.vs_session.specs.Open.{PassesLimit}
use Rattle.vs_top.specs.Run.{FileFits}

all_short_or_not : (text : List (List ℕ)) → All IsShort text ⊎ ¬ All IsShort text
all_short_or_not [] = inl (All-nil IsShort)
all_short_or_not (line ∷ text) = elim (leb_tells (length line) MAX_LINE_BYTES) [
  | inl short ↦ elim (all_short_or_not text) [
    | inl rest ↦ inl (All-cons IsShort line text short.1 rest)
    | inr not ↦ inr (λ all. not (All-tail IsShort line text all))
  ]
  | inr long ↦ inr (λ all. absurd (omega (arith, All-head IsShort line text all, long.1)))
]

pub within_or_not : (text : List (List ℕ)) → IsWithinLimits text ⊎ ¬ IsWithinLimits text
within_or_not text = elim (all_short_or_not text) [
  | inl short ↦ elim (leb_tells (length text) MAX_LINES) [
    | inl few ↦ elim (leb_tells (bytes_of text) MAX_TEXT_BYTES) [
      | inl small ↦ inl (record { short_lines = short; few_lines = few.1; few_bytes = small.1 })
      | inr large ↦ inr (λ within. absurd (omega (arith, within.few_bytes, large.1)))
    ]
    | inr many ↦ inr (λ within. absurd (omega (arith, within.few_lines, many.1)))
  ]
  | inr not ↦ inr (λ within. not within.short_lines)
]

-- a text within its limits passes none
within_passes_none : (text : List (List ℕ)) (size : ℕ) → IsWithinLimits text → ¬ PassesLimit text size
within_passes_none text size within = λ passes. elim passes [
  | inl long ↦ absurd (let no : LineTooLong size ≡ NoMemory = within_not_refused text (LineTooLong size) within long in cc)
  | inr full ↦ absurd (let no : TextFull size ≡ NoMemory = within_not_refused text (TextFull size) within full in cc)
]

pub passes_no_limit : (file : Option (List ℕ)) (size : ℕ) → FileFits file → ¬ IsSomeAnd file (λ bytes. PassesLimit ((document_of bytes).text) size)
passes_no_limit None size fits = λ passes. passes
passes_no_limit (Some bytes) size fits = within_passes_none ((document_of bytes).text) size fits

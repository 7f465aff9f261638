-- A byte 13 before each byte 10 of the file form of lines makes it the form of a dos file.
use Rattle.std.proofs.Common.{◌≡◌, ◌≢◌, ℕ, ◌+◌, ◌*◌, ◌<◌, ◌≤◌, List, [], ◌∷◌, ◌++◌, length, get_or, take, drop, Some, None, true, refl, sym, ap, ◌∙◌, arith, length-take, inl, inr, drop-cons, suc, ◌-◌}
use Rattle.std.specs.List.{AllByRecursion}
use Rattle.std.proofs.Math.Seq.{take-add}
use Rattle.std.proofs.lemmas.Bool.{ne_eqb}
use Rattle.std.proofs.lemmas.Bool.Decides.{eqb_tells}
use Rattle.std.proofs.lemmas.Grind.{flat_map-append}
use Rattle.std.proofs.lemmas.List.{take-append-drop, get_or-take, take_all}
use Rattle.std.proofs.lemmas.List.Elements.{recursion_from_All, All-from_get_or, All-drop, All-take}
use Rattle.memchr.specs.Find.{IsFirstByte, is_byte}
use Rattle.vs_text.specs.Text.{IsLine, IsText, file_of}
use Rattle.vs_text.specs.Documents.{file_in, line_end}
use Rattle.vs_text.specs.declared.format.Format.{Format}
use Rattle.vs_text.specs.declared.format.Format.TheVariants.{Unix, Dos}
use Rattle.vs_edit.specs.Splices.{cut_out}
use Rattle.vs_backup.specs.Ends.{dos_ends, ends_in}

dos_ends-append : (a b : List ℕ) → dos_ends (a ++ b) ≡ dos_ends a ++ dos_ends b
dos_ends-append [] b = refl
dos_ends-append (byte ∷ a) b = elim (eqb_tells byte 10) [
  | inl ten ↦ rw ten.0 (ap (λ rest. 13 ∷ 10 ∷ rest) (dos_ends-append a b))
  | inr other ↦ rw other.0 (ap (λ rest. byte ∷ rest) (dos_ends-append a b))
]

no_end : (line : List ℕ) → AllByRecursion (λ byte. byte ≢ 10) line → dos_ends line ≡ line
no_end [] h = refl
no_end (byte ∷ line) h = rw (ne_eqb byte 10 h.0) (ap (λ rest. byte ∷ rest) (no_end line h.1))

dos_ends-line : (line : List ℕ) → IsLine line → dos_ends line ≡ line
dos_ends-line line h = no_end line (recursion_from_All (λ byte. byte ≢ 10) line h)

dos_lines : (text : List (List ℕ)) → AllByRecursion IsLine text → dos_ends (file_of text) ≡ file_in Dos text
dos_lines [] h = refl
dos_lines (line ∷ text) h =
    dos_ends-append (line ++ 10 ∷ []) (file_of text)
    ∙ ap (λ first. first ++ dos_ends (file_of text)) (dos_ends-append line (10 ∷ []) ∙ ap (λ first. first ++ 13 ∷ 10 ∷ []) (dos_ends-line line h.0))
    ∙ ap (λ rest. (line ++ 13 ∷ 10 ∷ []) ++ rest) (dos_lines text h.1)

-- the line ends of a format in place of those of the unix form
pub ends_in-text : (format : Format) (text : List (List ℕ)) → IsText text → ends_in format (file_of text) ≡ file_in format text
ends_in-text Unix text h = refl
ends_in-text Dos text h = dos_lines text (recursion_from_All IsLine text h)

file_in-append : (format : Format) (a b : List (List ℕ)) → file_in format (a ++ b) ≡ file_in format a ++ file_in format b
file_in-append format a b = flat_map-append (λ (line : List ℕ). line ++ line_end format) a b

-- the file form of some lines more
pub file_more : (format : Format) (text : List (List ℕ)) (at count : ℕ) → IsText text
    → file_in format (take (at + count) text) ≡ file_in format (take at text) ++ ends_in format (file_of (cut_out text at count))
file_more format text at count is =
    let these : IsText (cut_out text at count) = All-take IsLine count (drop at text) (All-drop IsLine at text is) in
    ap (file_in format) (take-add at count text)
    ∙ file_in-append format (take at text) (cut_out text at count)
    ∙ ap (λ more. file_in format (take at text) ++ more) (sym (ends_in-text format (cut_out text at count) these))

few_dos : (bytes : List ℕ) → length (dos_ends bytes) ≤ 2 * length bytes
few_dos [] = omega arith
few_dos (byte ∷ bytes) = elim (eqb_tells byte 10) [
  | inl ten ↦ rw ten.0 (omega (arith, few_dos bytes))
  | inr other ↦ rw other.0 (omega (arith, few_dos bytes))
]

-- line ends are at most doubled
pub few_ends : (format : Format) (bytes : List ℕ) → length (ends_in format bytes) ≤ 2 * length bytes
few_ends Unix bytes = omega arith
few_ends Dos bytes = few_dos bytes

is_ten : (byte : ℕ) → is_byte 10 byte ≡ true → byte ≡ 10
is_ten byte is = elim (eqb_tells byte 10) [ inl ten ↦ ten.1 | inr other ↦ absurd (cc) ]

-- bytes without an end stay
pub dos_none : (bytes : List ℕ) → IsFirstByte (is_byte 10) bytes None → dos_ends bytes ≡ bytes
dos_none bytes none =
    dos_ends-line bytes (All-from_get_or (λ byte. byte ≢ 10) bytes 0 (λ i within ten. none i (omega arith) within (rw ten refl)))

-- the bytes before the first end stay, and a byte 13 comes before it
pub dos_some : (bytes line after : List ℕ) (end : ℕ) → line ≡ take end bytes → after ≡ drop end bytes → IsFirstByte (is_byte 10) bytes (Some end)
    → dos_ends bytes ≡ line ++ 13 ∷ 10 ∷ dos_ends (take (length after - 1) (drop 1 after))
dos_some bytes line after end front back first =
    let within : end < length bytes = first.0.high in
    let plain : IsLine (take end bytes) = All-from_get_or (λ byte. byte ≢ 10) (take end bytes) 0
    (λ i below ten. let early : i < end = omega (arith, length-take end bytes, below) in
    first.0.before i (omega arith) early (rw (sym (get_or-take end bytes i 0 early) ∙ ten) refl)) in
    let here : after ≡ 10 ∷ drop (suc end) bytes = back ∙ drop-cons bytes end 0 within ∙ ap (λ byte. byte ∷ drop (suc end) bytes) (is_ten (get_or bytes end 0) first.1) in
    let rest : drop (suc end) bytes ≡ take (length after - 1) (drop 1 after) =
    sym (ap (λ all. take (length all - 1) (drop 1 all)) here ∙ take_all (length (10 ∷ drop (suc end) bytes) - 1) (drop (suc end) bytes) (omega arith)) in
    ap dos_ends (sym (take-append-drop end bytes) ∙ ap (λ (later : List ℕ). take end bytes ++ later) (sym back ∙ here))
    ∙ dos_ends-append (take end bytes) (10 ∷ drop (suc end) bytes)
    ∙ ap (λ before. before ++ 13 ∷ 10 ∷ dos_ends (drop (suc end) bytes)) (dos_ends-line (take end bytes) plain ∙ sym front)
    ∙ ap (λ later. line ++ 13 ∷ 10 ∷ dos_ends later) rest

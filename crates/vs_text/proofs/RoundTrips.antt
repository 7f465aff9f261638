-- Each line that is written is read back as it was, and the format by the line ends of all.
use Rattle.std.proofs.Common.{◌≡◌, ◌≢◌, ◌==◌, ◌&&◌, ◌||◌, not, if◌then◌else◌, true, false, Bool, ℕ, ◌<◌, List, [], ◌∷◌, ◌++◌, length, map, refl, sym, ap, ◌∙◌, arith, inl, inr, append_assoc, append-nil}
use Rattle.std.specs.List.{AllByRecursion, list_any}
use Rattle.std.proofs.lemmas.Bool.{eqb-true, ne_eqb}
use Rattle.std.proofs.lemmas.Bool.Decides.{eqb_tells}
use Rattle.std.proofs.lemmas.List.Elements.{recursion_from_All, All-nil}
use Rattle.vs_text.specs.Text.{lines_of, file_of, onto_first, IsLine, IsText}
use Rattle.vs_text.specs.Documents.{Document, document_of, ends_otherwise, file_in, format_of, has_end, has_unix_end, keeps_format, last_byte, lines_in, plain_ends}
use Rattle.vs_text.specs.declared.format.Format.{Format}
use Rattle.vs_text.specs.declared.format.Format.TheVariants.{Dos, Unix}
use Rattle.vs_text.proofs.FileForm.{lines_of-file_of}
use Rattle.vs_text.proofs.Formats.{front_of, has_end-ended, has_unix_end-append, has_unix_end-ended, has_unix_end-line, lines_in-ended, plain_ends-cut, plain_ends-line}
use Rattle.vs_text.proofs.LineEnds.{IsText-lines_of}

no_unix : (before : ℕ) (text : List (List ℕ)) → AllByRecursion IsLine text → has_unix_end before (file_in Dos text) ≡ false
no_unix before [] h = refl
no_unix before (line ∷ text) h =
    ap (has_unix_end before) (append_assoc line (13 ∷ 10 ∷ []) (file_in Dos text)) ∙ has_unix_end-append before line (13 ∷ 10 ∷ file_in Dos text)
    ∙ rw (has_unix_end-line before line h.0) (no_unix 10 text h.1)

plain_file : (text : List (List ℕ)) → AllByRecursion IsLine text → plain_ends (file_in Dos text) ≡ file_of text
plain_file [] h = refl
plain_file (line ∷ text) h =
    ap plain_ends (append_assoc line (13 ∷ 10 ∷ []) (file_in Dos text)) ∙ plain_ends-cut line (file_in Dos text) h.0
    ∙ ap (λ (rest : List ℕ). line ++ 10 ∷ rest) (plain_file text h.1) ∙ sym (append_assoc line (10 ∷ []) (file_of text))

-- the byte before a line matters only where the line has none
same_end : (before : ℕ) (line : List ℕ) → before ≢ 13 → not (last_byte before line == 13) ≡ ends_otherwise line
same_end before [] other = rw (ne_eqb before 13 other) refl
same_end before (byte ∷ line) other = refl

any_unix : (before : ℕ) (text : List (List ℕ)) → before ≢ 13 → AllByRecursion IsLine text → has_unix_end before (file_of text) ≡ list_any ends_otherwise text
any_unix before [] other h = refl
any_unix before (line ∷ text) other h =
    ap (has_unix_end before) (append_assoc line (10 ∷ []) (file_of text)) ∙ has_unix_end-ended before line (file_of text) h.0
    ∙ rw (same_end before line other, any_unix 10 text (λ (e : 10 ≡ 13). omega arith) h.1) refl

ended_dos : (text : List (List ℕ)) → keeps_format Dos text ≡ true → has_end (file_in Dos text) ≡ true
ended_dos [] h = absurd (let e : false ≡ true = h in cc)
ended_dos (line ∷ text) h =
    ap has_end (append_assoc line (13 ∷ 10 ∷ []) (file_in Dos text) ∙ sym (append_assoc line (13 ∷ []) (10 ∷ file_in Dos text))) ∙ has_end-ended (line ++ 13 ∷ []) (file_in Dos text)

never_dos : (ended unix : Bool) → unix ≡ true → (if ended && not unix then Dos else Unix) ≡ Unix
never_dos true unix is = rw is refl
never_dos false unix is = refl

-- a file has the format in which it was written
pub format_of-file_in : (format : Format) (text : List (List ℕ)) → IsText text → keeps_format format text ≡ true → format_of (file_in format text) ≡ format
format_of-file_in Dos text h keeps = rw (ended_dos text keeps, no_unix 0 text (recursion_from_All IsLine text h)) refl
format_of-file_in Unix [] h keeps = refl
format_of-file_in Unix (line ∷ text) h keeps =
    never_dos (has_end (file_of (line ∷ text))) (has_unix_end 0 (file_of (line ∷ text)))
    (any_unix 0 (line ∷ text) (λ (e : 0 ≡ 13). omega arith) (recursion_from_All IsLine (line ∷ text) h) ∙ keeps)

-- and the lines that were written
pub lines_in-file_in : (format : Format) (text : List (List ℕ)) → IsText text → lines_in format (file_in format text) ≡ text
lines_in-file_in Unix text h = lines_of-file_of text h
lines_in-file_in Dos text h = ap lines_of (plain_file text (recursion_from_All IsLine text h)) ∙ lines_of-file_of text h

read : List (List ℕ) → Format → Document
read text format = record { text = text; format = format }

-- what was written is read back
pub document_of-file_in : (format : Format) (text : List (List ℕ)) → IsText text → keeps_format format text ≡ true
    → document_of (file_in format text) ≡ record { text = text; format = format }
unfolding read
document_of-file_in format text h keeps =
    let same = format_of-file_in format text h keeps in
    let lines : lines_in (format_of (file_in format text)) (file_in format text) ≡ text =
    ap (λ (f : Format). lines_in f (file_in format text)) same ∙ lines_in-file_in format text h in
    ap (λ (ls : List (List ℕ)). read ls (format_of (file_in format text))) lines ∙ ap (read text) same

onto : (byte : ℕ) (lines : List (List ℕ)) (bytes : List ℕ) → 0 < length bytes → file_of lines ≡ bytes → file_of (onto_first byte lines) ≡ byte ∷ bytes
onto byte [] bytes some is = absurd (omega (arith, some, ap (λ (xs : List ℕ). length xs) is))
onto byte (line ∷ lines) bytes some is = ap (λ (xs : List ℕ). byte ∷ xs) is

-- bytes whose last line ended are the file form of their lines
pub file_of-lines_of : (bytes : List ℕ) → last_byte 10 bytes ≡ 10 → file_of (lines_of bytes) ≡ bytes
file_of-lines_of [] h = refl
file_of-lines_of (byte ∷ []) h = rw h refl
file_of-lines_of (byte ∷ next ∷ bytes) h =
    let rest : file_of (lines_of (next ∷ bytes)) ≡ next ∷ bytes = file_of-lines_of (next ∷ bytes) h in
    elim (eqb_tells byte 10) [
      | inl ten ↦ rw (ten.0, ten.1) (ap (λ (xs : List ℕ). 10 ∷ xs) rest)
      | inr other ↦ rw other.0 (onto byte (lines_of (next ∷ bytes)) (next ∷ bytes) (omega arith) rest)
    ]

neither : (a b : Bool) → (a || b) ≡ false → (a ≡ false) × (b ≡ false)
neither false b h = (refl, h)
neither true b h = absurd (let e : true ≡ false = h in cc)

not_false : (b : Bool) → not b ≡ false → b ≡ true
not_false true h = refl
not_false false h = absurd (let e : true ≡ false = h in cc)

is_dos : Format → Bool
is_dos Dos = true
is_dos Unix = false

unix-dos : Unix ≡ Dos → ⊥
unfolding is_dos
unix-dos h = let same : false ≡ true = ap is_dos h in cc

-- the first line of a file without a unix end
first_dos : (before : ℕ) (line rest : List ℕ) → before ≢ 13 → IsLine line → has_unix_end before (line ++ 10 ∷ rest) ≡ false
    → (front : List ℕ) × (line ≡ front ++ 13 ∷ []) × (has_unix_end 10 rest ≡ false)
first_dos before line rest other h dos =
    let none = neither (not (last_byte before line == 13)) (has_unix_end 10 rest) (sym (has_unix_end-ended before line rest h) ∙ dos) in
    let front = front_of before line other (eqb-true (last_byte before line) 13 (not_false (last_byte before line == 13) none.0)) in
    (front.0, front.1, none.1)

-- its lines from there on
dos_line : (bytes line front rest : List ℕ) (text : List (List ℕ)) → bytes ≡ line ++ 10 ∷ rest → IsLine line → line ≡ front ++ 13 ∷ [] → lines_in Dos rest ≡ text
    → lines_in Dos bytes ≡ front ∷ text
dos_line bytes line front rest text cut h is lines =
    ap (lines_in Dos) cut ∙ (lines_in-ended line front rest h (inl is) ∙ ap (λ (ls : List (List ℕ)). front ∷ ls) lines)

more_ended : (line front : List ℕ) (ended text : List (List ℕ)) → line ≡ front ++ 13 ∷ [] → ended ≡ map (λ l. l ++ 13 ∷ []) text
    → line ∷ ended ≡ map (λ l. l ++ 13 ∷ []) (front ∷ text)
more_ended line front ended text is each = ap (λ (l : List ℕ). l ∷ ended) is ∙ ap (λ (ls : List (List ℕ)). (front ++ 13 ∷ []) ∷ ls) each

-- its lines that ended, each without the byte 13 at its end
dos_lines : (before : ℕ) (ended : List (List ℕ)) (last : List ℕ) → before ≢ 13 → AllByRecursion IsLine ended → IsLine last
    → has_unix_end before (file_of ended ++ last) ≡ false
    → (text : List (List ℕ)) × (ended ≡ map (λ line. line ++ 13 ∷ []) text) × (lines_in Dos (file_of ended ++ last) ≡ text ++ lines_of last)
dos_lines before [] last other h line dos = ([], refl, ap lines_of (plain_ends-line last line))
dos_lines before (first ∷ ended) last other h line dos =
    let bytes : file_of (first ∷ ended) ++ last ≡ first ++ 10 ∷ (file_of ended ++ last) = simp append_assoc in
    let (front, is, none) = first_dos before first (file_of ended ++ last) other h.0 (sym (ap (has_unix_end before) bytes) ∙ dos) in
    let (text, each, lines) = dos_lines 10 ended last (λ (e : 10 ≡ 13). omega arith) h.1 line none in (
      front ∷ text,
      more_ended first front ended text is each,
      dos_line (file_of (first ∷ ended) ++ last) first front (file_of ended ++ last) (text ++ lines_of last) bytes h.0 is lines,
    )

dos_has_none : (ended unix : Bool) → (if ended && not unix then Dos else Unix) ≡ Dos → unix ≡ false
dos_has_none ended false h = refl
dos_has_none true true h = absurd (unix-dos h)
dos_has_none false true h = absurd (unix-dos h)

pub lines_in-file_then : (ended : List (List ℕ)) (last : List ℕ) → IsText ended → IsLine last → format_of (file_of ended ++ last) ≡ Dos
    → (text : List (List ℕ)) × (ended ≡ map (λ line. line ++ 13 ∷ []) text) × (lines_in Dos (file_of ended ++ last) ≡ text ++ lines_of last)
lines_in-file_then ended last h line dos =
    dos_lines 0 ended last (λ (e : 0 ≡ 13). omega arith) (recursion_from_All IsLine ended h) line
    (dos_has_none (has_end (file_of ended ++ last)) (has_unix_end 0 (file_of ended ++ last)) dos)

file_in-added : (text : List (List ℕ)) → file_in Dos text ≡ file_of (map (λ line. line ++ 13 ∷ []) text)
file_in-added [] = refl
file_in-added (line ∷ text) = ap (λ (xs : List ℕ). xs ++ file_in Dos text) (sym (append_assoc line (13 ∷ []) (10 ∷ [])))
    ∙ ap (λ (xs : List ℕ). ((line ++ 13 ∷ []) ++ 10 ∷ []) ++ xs) (file_in-added text)

written : (format : Format) (bytes : List ℕ) → format_of bytes ≡ format → last_byte 10 bytes ≡ 10 → file_in format (lines_in format bytes) ≡ bytes
written Unix bytes is h = file_of-lines_of bytes h
written Dos bytes is h =
    let whole : file_of (lines_of bytes) ++ [] ≡ bytes = append-nil (file_of (lines_of bytes)) ∙ file_of-lines_of bytes h in
    let lines = lines_in-file_then (lines_of bytes) [] (IsText-lines_of bytes) (All-nil (λ byte. byte ≢ 10)) (ap format_of whole ∙ is) in
    let text : lines_in Dos bytes ≡ lines.0 = ap (lines_in Dos) (sym whole) ∙ (lines.2 ∙ append-nil lines.0) in
    ap (file_in Dos) text ∙ (file_in-added lines.0 ∙ (ap file_of (sym lines.1) ∙ file_of-lines_of bytes h))

-- what was read is written back, if its last line ended
pub file_in-document_of : (bytes : List ℕ) → last_byte 10 bytes ≡ 10 → file_in (document_of bytes).format (document_of bytes).text ≡ bytes
file_in-document_of bytes h = written (format_of bytes) bytes refl h

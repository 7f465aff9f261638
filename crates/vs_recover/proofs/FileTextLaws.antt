-- Stored lines, each followed by its end with byte 0 for byte 10, become the file form of the plain lines when bytes 0 and 10 take each
-- other's place.
use Rattle.std.proofs.Common.{◌≡◌, ◌≢◌, ℕ, ◌+◌, ◌<◌, ◌≤◌, List, [], ◌∷◌, ◌++◌, length, take, drop, get_or, map, Ok, Some, refl, sym, ap, subst, ◌∙◌, arith, append_assoc, append-nil, length-append, All}
use Rattle.std.specs.Prelude.{OnErr, Result, Err}
use Rattle.std.specs.List.{AllByRecursion, flat_map}
use Rattle.std.proofs.lemmas.Bool.Decides.{nat_tests}
use Rattle.std.proofs.lemmas.Grind.{common_steps, flat_map-append}
use Rattle.std.proofs.lemmas.List.{drop_at, length-map, length-take, map-append, take-append-drop, take-append-le, take_all, take_at}
use Rattle.std.proofs.lemmas.List.Elements.{All-append, recursion_from_All, All-from_recursion}
use Rattle.vs_text.specs.declared.format.Format.{Format}
use Rattle.vs_text.specs.declared.format.Format.TheVariants.{Unix, Dos}
use Rattle.vs_text.specs.Text.{IsLine, IsText, plain_byte, plain_line}
use Rattle.vs_text.specs.Documents as documents
use Rattle.vs_text.specs.Documents.{file_in, line_end, plain_ends}
use Rattle.vs_text.proofs.RoundTrips.{lines_in-file_in}
use Rattle.vs_text.proofs.LineEnds.{IsText-lines_of}
use Rattle.vs_text.proofs.StoredForm.{IsLine-plain_line}
use Rattle.vs_data.specs.declared.DataView.{DataView}
use Rattle.vs_data.specs.Blocks.{each_line, line_at, lines_in, view_in}
use Rattle.vs_data.proofs.Lines.{lines_are}
use Rattle.vs_tree_blocks.proofs.DataLemmas.{count_is}
use Rattle.vs_recover.specs.Stored.{document_by, exchanged}

-- the end of a stored line, which becomes that of its plain line
abbrev pub stored_end : Format → List ℕ
stored_end format = map exchanged (line_end format)

-- stored lines, each followed by its end
abbrev pub stored_ended : Format → List (List ℕ) → List ℕ
stored_ended format lines = flat_map (λ line. line ++ stored_end format) lines

end_back : (format : Format) → map exchanged (stored_end format) ≡ line_end format
end_back Unix = refl
end_back Dos = refl

exchanged_plain : (byte : ℕ) → byte ≢ 0 → exchanged byte ≡ plain_byte byte
exchanged_plain byte some = grind (arith, nat_tests)

exchanged_bytes : (line : List ℕ) → AllByRecursion (λ byte. byte ≢ 0) line → map exchanged line ≡ plain_line line
exchanged_bytes [] none = refl
exchanged_bytes (byte ∷ line) none = rw (exchanged_plain byte none.0, exchanged_bytes line none.1) refl

-- a stored line with its end becomes the plain line with its own
exchanged_line : (format : Format) (line : List ℕ) → All (λ byte. byte ≢ 0) line → map exchanged (line ++ stored_end format) ≡ plain_line line ++ line_end format
exchanged_line format line none =
    map-append exchanged line (stored_end format) ∙ ap (λ bs. bs ++ map exchanged (stored_end format)) (exchanged_bytes line (recursion_from_All (λ byte. byte ≢ 0) line none))
    ∙ ap (λ bs. plain_line line ++ bs) (end_back format)

-- The stored lines stand at the end, and what they become is the file form of the plain lines.
pub record Appended (format : Format) (old now : List ℕ) (lines : List (List ℕ)) : Type 0 where
  pub bytes : now ≡ old ++ stored_ended format lines
  pub becomes : map exchanged (stored_ended format lines) ≡ file_in format (map plain_line lines)

each_ended-more : (end : List ℕ) (lines : List (List ℕ)) (line : List ℕ) → flat_map (λ l. l ++ end) (lines ++ line ∷ []) ≡ flat_map (λ l. l ++ end) lines ++ (line ++ end)
each_ended-more end lines line = flat_map-append (λ l. l ++ end) lines (line ∷ []) ∙ ap (λ bs. flat_map (λ l. l ++ end) lines ++ bs) (append-nil (line ++ end))

appended_line : (format : Format) (old now new : List ℕ) (lines : List (List ℕ)) (line : List ℕ) → All (λ byte. byte ≢ 0) line → new ≡ now ++ (line ++ stored_end format) → Appended format old now lines
    → Appended format old new (lines ++ line ∷ [])
appended_line format old now new lines line none grown h =
    let ends = each_ended-more (stored_end format) lines line in
    record {
      bytes = grown ∙ ap (λ bs. bs ++ (line ++ stored_end format)) h.bytes ∙ append_assoc old (stored_ended format lines) (line ++ stored_end format) ∙ ap (λ bs. old ++ bs) (sym ends);
      becomes = ap (λ bs. map exchanged bs) ends ∙ map-append exchanged (stored_ended format lines) (line ++ stored_end format)
          ∙ ap (λ bs. bs ++ map exchanged (line ++ stored_end format)) h.becomes ∙ ap (λ bs. file_in format (map plain_line lines) ++ bs) (exchanged_line format line none)
          ∙ sym (each_ended-more (line_end format) (map plain_line lines) (plain_line line)) ∙ ap (λ ls. file_in format ls) (sym (map-append plain_line lines (line ∷ [])));
    }

-- one line more of those that were found
pub appended_more : (format : Format) (found : List (List ℕ)) (i : ℕ) (line old now new : List ℕ) → i < length found → line ≡ get_or found i [] → All (λ byte. byte ≢ 0) line → new ≡ now ++ (line ++ stored_end format)
    → Appended format old now (take i found) → Appended format old new (take (i + 1) found)
appended_more format found i line old now new lt is none grown h =
    let next : take (i + 1) found ≡ take i found ++ get_or found i [] ∷ [] = grind (arith, common_steps) in
    let same : take i found ++ line ∷ [] ≡ take (i + 1) found = ap (λ (l : List ℕ). take i found ++ l ∷ []) is ∙ sym next in
    subst (λ (ls : List (List ℕ)). Appended format old new ls) same (appended_line format old now new (take i found) line none grown h)

-- the bytes before stay
pub kept_more : (old now new more : List ℕ) → new ≡ now ++ more → take (length old) now ≡ old → take (length old) new ≡ old
kept_more old now new more grown kept =
    let long : length old ≤ length now = omega (arith, ap length kept, length-take (length old) now) in
    ap (λ bs. take (length old) bs) grown ∙ take-append-le (length old) now more long ∙ kept

pub kept_longer : (old now new : List ℕ) → take (length now) new ≡ now → take (length old) now ≡ old → take (length old) new ≡ old
kept_longer old now new is kept = kept_more old now new (drop (length now) new) (sym (take-append-drop (length now) new) ∙ ap (λ bs. bs ++ drop (length now) new) is) kept

pub on_err : {T E : Type 0} {P : Type 0} (r : Result T E) → P → OnErr r P
on_err (Ok x) holds = tt
on_err (Err e) holds = holds

-- all of them
pub appended_all : (format : Format) (found : List (List ℕ)) (i : ℕ) (old now : List ℕ) → length found ≤ i → Appended format old now (take i found) → Appended format old now found
appended_all format found i old now le h = subst (λ (ls : List (List ℕ)). Appended format old now ls) (take_all i found le) h

-- what was appended is exchanged in its place
pub appended_becomes : (format : Format) (old now new : List ℕ) (lines : List (List ℕ)) (start : ℕ) → start ≡ length old → new ≡ take start now ++ map exchanged (drop start now) → Appended format old now lines
    → new ≡ old ++ file_in format (map plain_line lines)
appended_becomes format old now new lines start at is h =
    let added = stored_ended format lines in
    let parts : take start (old ++ added) ++ map exchanged (drop start (old ++ added)) ≡ old ++ map exchanged added =
    rw (take_at old added start (sym at), drop_at old added start (sym at)) refl in
    is ∙ ap (λ bs. take start bs ++ map exchanged (drop start bs)) h.bytes ∙ parts ∙ ap (λ bs. old ++ bs) h.becomes

plain_each : (lines : List (List ℕ)) → AllByRecursion IsLine (map plain_line lines)
plain_each [] = tt
plain_each (line ∷ lines) = (IsLine-plain_line line, plain_each lines)

-- plain lines are a text
pub IsText-plain : (lines : List (List ℕ)) → IsText (map plain_line lines)
IsText-plain lines = All-from_recursion IsLine (map plain_line lines) (plain_each lines)

-- ---- the lines that a file has then

some_end : (format : Format) → 1 ≤ length (line_end format)
some_end Unix = omega arith
some_end Dos = omega arith

-- the lines of a file, whatever its bytes are
pub IsText-document_by : (format : Format) (bytes : List ℕ) → IsText (document_by format bytes).text
IsText-document_by Unix bytes = IsText-lines_of bytes
IsText-document_by Dos bytes = IsText-lines_of (plain_ends bytes)

-- a file has a byte for each line at least
pub few_lines : (format : Format) (lines : List (List ℕ)) → length lines ≤ length (file_in format lines)
few_lines format [] = omega arith
few_lines format (line ∷ lines) = omega (arith, few_lines format lines, length-append (line ++ line_end format) (file_in format lines), length-append line (line_end format), some_end format)

pub more_lines : (format : Format) (old new : List ℕ) (lines : List (List ℕ)) → file_in format (document_by format old).text ≡ old → IsText lines → new ≡ old ++ file_in format lines
    → (document_by format new).text ≡ (document_by format old).text ++ lines
more_lines format old new lines whole are more =
    let all : List (List ℕ) = (document_by format old).text ++ lines in
    let bytes : new ≡ file_in format all = more ∙ ap (λ (bs : List ℕ). bs ++ file_in format lines) (sym whole) ∙ sym (flat_map-append (λ line. line ++ line_end format) (document_by format old).text lines) in
    ap (λ (bs : List ℕ). documents.lines_in format bs) bytes ∙ lines_in-file_in format all (All-append IsLine (document_by format old).text lines (IsText-document_by format old) are)

pub more_whole : (format : Format) (old new : List ℕ) (lines : List (List ℕ)) → file_in format (document_by format old).text ≡ old → IsText lines → new ≡ old ++ file_in format lines
    → file_in format (document_by format new).text ≡ new
more_whole format old new lines whole are more =
    ap (λ (ls : List (List ℕ)). file_in format ls) (more_lines format old new lines whole are more)
    ∙ flat_map-append (λ line. line ++ line_end format) (document_by format old).text lines
    ∙ ap (λ (bytes : List ℕ). bytes ++ file_in format lines) whole
    ∙ sym more

pub more_count : (format : Format) (old new : List ℕ) (lines : List (List ℕ)) → file_in format (document_by format old).text ≡ old → IsText lines → new ≡ old ++ file_in format lines
    → length (document_by format new).text ≡ length (document_by format old).text + length lines
more_count format old new lines whole are more = ap (λ (ls : List (List ℕ)). length ls) (more_lines format old new lines whole are more) ∙ length-append (document_by format old).text lines

-- the plain lines of a block were added
pub block_added : (format : Format) (block old new : List ℕ) (view : DataView) → view_in block ≡ Ok view
    → ((found : List (List ℕ)) → lines_in block ≡ Some found → new ≡ old ++ file_in format (map plain_line found))
    → (lines : List (List ℕ)) × IsText lines × (new ≡ old ++ file_in format lines) × (length lines ≡ view.count)
block_added format block old new view reads added =
    let found = each_line block (λ line. line_at block line) in
    let are = lines_are block view reads in
    (map plain_line found, IsText-plain found, added found are, length-map found plain_line ∙ count_is block view found reads are)

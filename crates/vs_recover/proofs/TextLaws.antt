-- The text that a tree's lines stand for.
use Rattle.std.proofs.Common.{◌≡◌, ◌≢◌, ◌==◌, ℕ, zero, suc, ◌<◌, List, [], ◌∷◌, length, get_or, take, map, Option, Some, None, Result, Ok, Err, Bool, true, false, sym, refl, ap, subst, ◌∙◌, arith, All}
use Rattle.std.specs.List.{flat_map, AllByRecursion}
use Rattle.std.proofs.lemmas.Bool.Decides.{nat_tests}
use Rattle.std.proofs.lemmas.List.{get_or_default}
use Rattle.std.proofs.lemmas.List.Elements.{recursion_from_All, All-from_recursion}
use Rattle.vs_text.specs.Text.{stored_byte, plain_byte, stored_line, plain_line, stored, unstored, IsLine, IsText}
use Rattle.vs_text.proofs.StoredForm.{unstored-stored, IsLine-plain_line}
use Rattle.vs_text.specs.declared.format.Format.{Format}
use Rattle.vs_text.specs.Documents.{Document}
use Rattle.vs_pages.specs.Maps.{Map, pages_at}
use Rattle.vs_tree_shape.specs.Trees.{Tree, lines_of, IsTree}
use Rattle.vs_tree_shape.proofs.Shapes.{read_from, each-append}
use Rattle.vs_zero.specs.declared.Pair.{Pair}
use Rattle.vs_zero.specs.declared.Zero.{Zero}
use Rattle.vs_zero.specs.declared.ZeroErr.{ZeroErr}
use Rattle.vs_zero.specs.Zero.{reading_of}
use Rattle.vs_data.specs.declared.DataErr.{DataErr}
use Rattle.vs_data.specs.declared.DataView.{DataView}
use Rattle.vs_data.specs.Blocks.{lines_in, line_at, view_in}
use Rattle.vs_data.proofs.Lines as rows
use Rattle.vs_tree_blocks.proofs.DataLemmas as blocks
use Rattle.vs_swap.specs.Files.{pages_in, swap_format, format_by, GivesLines, IsHead, StandsFor}
use Rattle.vs_recover.specs.Files.{Walked}
use Rattle.vs_recover.specs.Levels.{Reaches}
use Rattle.vs_recover.specs.Images.{text_in, with_format, StandsNot}
use Rattle.vs_swap.proofs.Standing.{one_list}

-- ---- the lines of a tree have no zero byte

abbrev Clean : List ℕ → Type 0
Clean line = All (λ byte. byte ≢ 0) line

clean_read : (bytes : List ℕ) (found : List (List ℕ)) (read : Result DataView DataErr) → view_in bytes ≡ read → lines_in bytes ≡ Some found → AllByRecursion Clean found
clean_read bytes found (Err refusal) view is = let none = rows.no_lines bytes refusal view in absurd (cc)
clean_read bytes found (Ok view) reads is =
    recursion_from_All Clean found (λ k d lt.
    let within : k < view.count = omega (arith, blocks.count_is bytes view found reads is) in
    let line : line_at bytes k ≡ get_or found k [] = blocks.line_at (lines_in bytes) found k (line_at bytes k) is (rows.line_of_lines bytes view k reads within) in
    subst Clean (line ∙ get_or_default found k [] d lt) (rows.no_zero_in_line bytes view k reads within))

clean_parts : (d : ℕ) (m : Map) → ((u : Tree d) → IsTree swap_format d m u → AllByRecursion Clean (lines_of d u)) → (us : List (Tree d)) → AllByRecursion (λ u. IsTree swap_format d m u) us → AllByRecursion Clean (flat_map (λ u. lines_of d u) us)
clean_parts d m ih [] each = tt
clean_parts d m ih (u ∷ us) each = each-append Clean (lines_of d u) (flat_map (λ u. lines_of d u) us) (ih u each.0) (clean_parts d m ih us each.1)

clean_tree : (d : ℕ) (m : Map) (t : Tree d) → IsTree swap_format d m t → AllByRecursion Clean (lines_of d t)
clean_tree zero m t is = let r = read_from lines_in (pages_at m t.page t.pages) t.lines is.1 in clean_read r.0 t.lines (view_in r.0) refl r.2
clean_tree (suc d) m t is = clean_parts d m (λ u. clean_tree d m u) t.1 is.1

clean_lines : (m : Map) (lines : List (List ℕ)) → Reaches m lines → AllByRecursion Clean lines
clean_lines m lines reached = subst (λ ls. AllByRecursion Clean ls) reached.1.lines_are (clean_tree reached.0 m reached.1.tree reached.1.stands.tree)

-- ---- there and back

byte_back : (byte : ℕ) → byte ≢ 0 → stored_byte (plain_byte byte) ≡ byte
byte_back byte h = grind (arith, nat_tests)

line_back : (line : List ℕ) → AllByRecursion (λ byte. byte ≢ 0) line → stored_line (plain_line line) ≡ line
line_back [] h = refl
line_back (byte ∷ line) h = rw (byte_back byte h.0, line_back line h.1) refl

lines_back : (lines : List (List ℕ)) → AllByRecursion Clean lines → map stored_line (map plain_line lines) ≡ lines
lines_back [] h = refl
lines_back (line ∷ lines) h = rw (line_back line (recursion_from_All (λ byte. byte ≢ 0) line h.0), lines_back lines h.1) refl

are_lines : (lines : List (List ℕ)) → AllByRecursion IsLine (map plain_line lines)
are_lines [] = tt
are_lines (line ∷ lines) = (IsLine-plain_line line, are_lines lines)

some_lines : (n : ℕ) → (suc n == 0) ≡ false
some_lines n = grind (arith, nat_tests)

-- the text that was read has the lines for its stored form
pub text_stands : (empty : Bool) (lines text : List (List ℕ)) → AllByRecursion Clean lines → text_in empty (map plain_line lines) ≡ Some text → (stored text ≡ lines) × IsText text × (empty ≡ (length text == 0))
text_stands true [] text clean is = absurd (cc)
text_stands true ([] ∷ []) text clean is =
    let e : [] ≡ text = cc in
    (ap (λ t. stored t) (sym e), subst IsText e (All-from_recursion IsLine [] tt), ap (λ (t : List (List ℕ)). length t == 0) e)
text_stands true ([] ∷ (line ∷ lines)) text clean is = absurd (cc)
text_stands true ((byte ∷ rest) ∷ lines) text clean is = absurd (cc)
text_stands false [] text clean is = absurd (cc)
text_stands false (line ∷ lines) text clean is =
    let e : map plain_line (line ∷ lines) ≡ text = cc in (
      ap (λ t. stored t) (sym e) ∙ lines_back (line ∷ lines) clean,
      subst IsText e (All-from_recursion IsLine (map plain_line (line ∷ lines)) (are_lines (line ∷ lines))),
      sym (some_lines (length (map plain_line lines))) ∙ ap (λ (t : List (List ℕ)). length t == 0) e,
    )

-- a text is read from its stored form
pub text_found : (empty : Bool) (text : List (List ℕ)) → IsText text → empty ≡ (length text == 0) → text_in empty (map plain_line (stored text)) ≡ Some text
text_found empty [] is none = ap (λ b. text_in b ([] ∷ [])) none
text_found empty (line ∷ text) is some =
    let no : empty ≡ false = some ∙ some_lines (length text) in
    let back : map plain_line (stored (line ∷ text)) ≡ line ∷ text = ap (λ b. unstored b (stored (line ∷ text))) (sym (some_lines (length text))) ∙ unstored-stored (line ∷ text) is in
    ap (λ b. text_in b (map plain_line (stored (line ∷ text)))) no ∙ ap (λ t. text_in false t) back

-- ---- standing

abbrev pair_of : ℕ → List (List ℕ) → Pair
pair_of g t = record { generation = g; empty = length t == 0 }

formatted : (format : Format) (o : Option (List (List ℕ))) (document : Document) → with_format format o ≡ Some document → (o ≡ Some document.text) × (format ≡ document.format)
formatted format None document is = absurd (cc)
formatted format (Some text) document is = let e : record { text = text; format = format } ≡ document = cc in (ap (λ (d : Document). Some d.text) e, ap (λ (d : Document). d.format) e)

unformatted : (format : Format) (o : Option (List (List ℕ))) → with_format format o ≡ None → o ≡ None
unformatted format None is = refl
unformatted format (Some text) is = absurd (cc)

pub walked_stands : (file : List ℕ) (fields : Zero) (pair : Pair) (lines document : Document) → reading_of (take 4096 file) ≡ Ok fields → fields.page_size ≡ 4096 → fields.pair ≡ Some pair
    → lines.format ≡ format_by fields.format → Walked (pages_in file) (Some lines) → with_format lines.format (text_in pair.empty lines.text) ≡ Some document → StandsFor file pair.generation document
walked_stands file fields pair lines document reads size paired format walked is =
    let parts = formatted lines.format (text_in pair.empty lines.text) document is in
    let known = text_stands pair.empty walked.0 document.text (clean_lines (pages_in file) walked.0 walked.1) (ap (λ ls. text_in pair.empty ls) (sym walked.2) ∙ parts.0) in
    record {
      head = subst (λ b. IsHead file pair.generation b document.format) known.2 (record { zero = fields; reads = reads; size = size; paired = paired; format_is = sym format ∙ parts.1 });
      depth = walked.1.0;
      tree = subst (λ ls. GivesLines (pages_in file) walked.1.0 ls) (sym known.0) walked.1.1;
      is_text = known.1;
    }

same_zero : (file : List ℕ) (fields : Zero) (g : ℕ) (t : Document) → reading_of (take 4096 file) ≡ Ok fields → (s : StandsFor file g t) → s.head.zero ≡ fields
same_zero file fields g t reads s = let e : Ok s.head.zero ≡ Ok fields = sym s.head.reads ∙ reads in cc

pub not_sized : (file : List ℕ) (fields : Zero) → reading_of (take 4096 file) ≡ Ok fields → (fields.page_size ≡ 4096 → ⊥) → StandsNot file
not_sized file fields reads other = λ g t s. other (ap (λ (z : Zero). z.page_size) (sym (same_zero file fields g t reads s)) ∙ s.head.size)

pub not_paired : (file : List ℕ) (fields : Zero) → reading_of (take 4096 file) ≡ Ok fields → fields.pair ≡ None → StandsNot file
not_paired file fields reads none = λ g t s.
    let e : Some (pair_of g t.text) ≡ None = sym s.head.paired ∙ (ap (λ (z : Zero). z.pair) (same_zero file fields g t reads s) ∙ none) in absurd (cc)

pub not_walked : (file : List ℕ) → Walked (pages_in file) None → StandsNot file
not_walked file walked = λ g t s. walked (stored t.text) (s.depth, s.tree)

pub not_text : (file : List ℕ) (fields : Zero) (pair : Pair) (lines : Document) → reading_of (take 4096 file) ≡ Ok fields → fields.pair ≡ Some pair → Walked (pages_in file) (Some lines)
    → with_format lines.format (text_in pair.empty lines.text) ≡ None → StandsNot file
not_text file fields pair lines reads paired walked none = λ g t s.
    let pairs : Some (pair_of g t.text) ≡ Some pair = sym s.head.paired ∙ (ap (λ (z : Zero). z.pair) (same_zero file fields g t reads s) ∙ paired) in
    let same : pair_of g t.text ≡ pair = cc in
    let all : walked.0 ≡ stored t.text = one_list (pages_in file) walked.1.0 s.depth walked.0 (stored t.text) walked.1.1 s.tree in
    let found : text_in pair.empty lines.text ≡ Some t.text =
    ap (λ ls. text_in pair.empty ls) (walked.2 ∙ ap (λ ls. map plain_line ls) all) ∙ text_found pair.empty t.text s.is_text (ap (λ (p : Pair). p.empty) (sym same)) in
    let gone = unformatted lines.format (text_in pair.empty lines.text) none in
    absurd (cc)

-- ---- page 0

pub refused : (file : List ℕ) (read : Result Zero ZeroErr) (e why : ZeroErr) → read ≡ reading_of (take 4096 file) → read ≡ Err e → e ≡ why → reading_of (take 4096 file) ≡ Err why
refused file read e why is failed same = sym is ∙ (failed ∙ ap (λ (x : ZeroErr). Err x) same)

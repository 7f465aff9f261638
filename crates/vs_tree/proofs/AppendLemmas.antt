-- Lines that are taken from the front of some bytes, run by run, are all lines of these bytes in the end.
use Rattle.std.proofs.Common.{◌≡◌, ℕ, ◌+◌, ◌-◌, ◌<◌, ◌≤◌, List, [], ◌∷◌, ◌++◌, length, map, take, All, refl, sym, ap, subst, ◌∙◌, arith, append-nil, append_assoc, length-append}
use Rattle.std.proofs.lemmas.Grind.{common_steps}
use Rattle.std.proofs.lemmas.Bool.Decides.{nat_tests}
use Rattle.std.proofs.lemmas.List.{map-append}
use Rattle.std.proofs.lemmas.List.Elements.{All-append, All-cons, All-head, All-nil, All-tail}
use Rattle.vs_text.specs.Text.{IsLine, bytes_of, file_of, lines_of, stored, stored_line}
use Rattle.vs_text.proofs.FileForm.{length-file_of}
use Rattle.vs_text.specs.Limits.{IsShort, IsWithinLimits}
use Rattle.vs_text.proofs.LineEnds.{IsText-lines_of, lines_of_last}
use Rattle.vs_text.specs.declared.TheConstants.{MAX_LINES, MAX_TEXT_BYTES}
use Rattle.vs_tree_shape.specs.Changes.{splice}
use Rattle.vs_tree.specs.Appends.{IsFilled}
use Rattle.vs_tree.specs.Packed.{IsWhole, stored_lines}
use Rattle.vs_edit.specs.Splices.{splice as splice_text}
use Rattle.vs_pages.specs.Maps.{Map}
use Rattle.vs_tree.specs.declared.texts.Extent.{Extent}
use Rattle.vs_tree.specs.Texts.{HasText, tree_lines}
use Rattle.vs_tree.proofs.Added.{part_short}
use Rattle.vs_tree.proofs.Rounds.{bytes_of-append}
use Rattle.vs_tree.proofs.StoredLemmas.{stored_some}

pub lines_none : (rest : List ℕ) → length rest ≡ 0 → lines_of rest ≡ []
lines_none [] none = refl
lines_none (byte ∷ rest) none = absurd (omega arith)

-- bytes without a line end are one line
pub one_line : (bytes rest : List ℕ) → 0 < length bytes → IsLine bytes → length rest ≡ 0 → lines_of bytes ≡ bytes ∷ lines_of rest
one_line bytes rest some is none = lines_of_last bytes some is ∙ ap (λ (ls : List (List ℕ)). bytes ∷ ls) (sym (lines_none rest none))

-- the first part of bytes that are one line is the whole
pub whole_front : (bytes front : List ℕ) (n : ℕ) → n ≡ length bytes → front ≡ take n bytes → front ≡ bytes
whole_front bytes front n all is = is ∙ grind (arith, common_steps)

pub whole_line : (bytes front back : List ℕ) (n : ℕ) → 0 < length bytes → IsLine bytes → n ≡ length bytes → front ≡ take n bytes → length back + n ≡ length bytes → lines_of bytes ≡ front ∷ lines_of back
whole_line bytes front back n some is all front_is back_is =
    one_line bytes back some is (omega (arith, all, back_is)) ∙ ap (λ (line : List ℕ). line ∷ lines_of back) (sym (whole_front bytes front n all front_is))

-- neither the first line nor the others are too long
pub short_both : (bytes line after : List ℕ) → lines_of bytes ≡ line ∷ lines_of after → All IsShort (lines_of bytes) → IsShort line × All IsShort (lines_of after)
short_both bytes line after is short =
    let all : All IsShort (line ∷ lines_of after) = subst (λ (ls : List (List ℕ)). All IsShort ls) is short in
    (All-head IsShort line (lines_of after) all, All-tail IsShort line (lines_of after) all)

-- a run of one line
pub filled_first : (bytes first after stored : List ℕ) (run : List (List ℕ)) → lines_of bytes ≡ first ∷ lines_of after → length after < length bytes → stored ≡ stored_line first → run ≡ stored ∷ [] → (IsWhole bytes → IsWhole after) → IsFilled bytes run after
filled_first bytes first after stored run is less stored_is run_is whole = record {
  put = first ∷ [];
  lines = is;
  stored = run_is ∙ ap (λ (x : List ℕ). x ∷ []) stored_is;
  some = omega arith;
  less = less;
  whole = whole;
}

-- the lines after the first of some are not too long
pub short_after : (bytes rest : List ℕ) (put : List (List ℕ)) → lines_of bytes ≡ put ++ lines_of rest → All IsShort (lines_of bytes) → All IsShort (lines_of rest)
short_after bytes rest put is short = part_short put (lines_of rest) [] (lines_of bytes) (is ∙ ap (λ (ls : List (List ℕ)). put ++ ls) (sym (append-nil (lines_of rest)))) short

splice_end : (lines run : List (List ℕ)) (at : ℕ) → at ≡ length lines → splice lines at 0 run ≡ lines ++ run
splice_end lines run at place = grind (arith, common_steps)

-- a run comes after the lines that are put
pub end_more : (lines put more run : List (List ℕ)) (at : ℕ) → at ≡ length (lines ++ map stored_line put) → run ≡ map stored_line more → splice (lines ++ map stored_line put) at 0 run ≡ lines ++ map stored_line (put ++ more)
end_more lines put more run at place run_is =
    let all : List (List ℕ) = lines ++ map stored_line put in
    splice_end all run at place ∙ ap (λ (r : List (List ℕ)). all ++ r) run_is ∙ append_assoc lines (map stored_line put) (map stored_line more) ∙ ap (λ (ys : List (List ℕ)). lines ++ ys) (sym (map-append stored_line put more))

-- the first run, and then all lines of the rest
pub first_then_rest : (lines put run : List (List ℕ)) (bytes rest : List ℕ) (at : ℕ) → at ≡ length lines → run ≡ map stored_line put → lines_of bytes ≡ put ++ lines_of rest → splice lines at 0 run ++ map stored_line (lines_of rest) ≡ lines ++ map stored_line (lines_of bytes)
first_then_rest lines put run bytes rest at place run_is is =
    let others : List (List ℕ) = map stored_line (lines_of rest) in
    ap (λ (xs : List (List ℕ)). xs ++ others) (splice_end lines run at place) ∙ append_assoc lines run others
    ∙ ap (λ (ys : List (List ℕ)). lines ++ ys) (ap (λ (r : List (List ℕ)). r ++ others) run_is ∙ sym (map-append stored_line put (lines_of rest)) ∙ sym (ap (λ (ls : List (List ℕ)). map stored_line ls) is))

-- the first lines, and then others of the rest
pub cut_more : (bytes rest after : List ℕ) (put more : List (List ℕ)) → lines_of bytes ≡ put ++ lines_of rest → lines_of rest ≡ more ++ lines_of after → lines_of bytes ≡ (put ++ more) ++ lines_of after
cut_more bytes rest after put more first is = first ∙ ap (λ (ls : List (List ℕ)). put ++ ls) is ∙ sym (append_assoc put more (lines_of after))

-- one run, and then others
pub filled_both : (bytes rest after : List ℕ) (run more all : List (List ℕ)) → IsFilled bytes run rest → IsFilled rest more after → all ≡ run ++ more → IsFilled bytes all after
filled_both bytes rest after run more all h k is = record {
  put = h.put ++ k.put;
  lines = cut_more bytes rest after h.put k.put h.lines k.lines;
  stored = is ∙ ap (λ (xs : List (List ℕ)). xs ++ more) h.stored ∙ ap (λ (xs : List (List ℕ)). map stored_line h.put ++ xs) k.stored ∙ sym (map-append stored_line h.put k.put);
  some = omega (arith, length-append h.put k.put, h.some);
  less = omega (arith, h.less, k.less);
  whole = λ whole. k.whole (h.whole whole);
}

-- the stored lines are those of a run and of the rest
pub stored_next : (bytes rest : List ℕ) (run : List (List ℕ)) → IsFilled bytes run rest → stored_lines bytes ≡ run ++ stored_lines rest
stored_next bytes rest run filled =
    ap (λ lines. map stored_line lines) filled.lines ∙ map-append stored_line filled.put (lines_of rest) ∙ ap (λ lines. lines ++ stored_lines rest) (sym filled.stored)

-- where no bytes are left, all lines are put
pub all_put : (bytes rest : List ℕ) (put : List (List ℕ)) → lines_of bytes ≡ put ++ lines_of rest → length rest ≡ 0 → put ≡ lines_of bytes
all_put bytes rest put is none = sym (is ∙ ap (λ (ls : List (List ℕ)). put ++ ls) (lines_none rest none) ∙ append-nil put)

-- the stored form of a text with lines after its last one
pub stored_more : (text new : List (List ℕ)) → 0 < length text → stored text ++ map stored_line new ≡ stored (text ++ new)
stored_more text new some =
    ap (λ (ls : List (List ℕ)). ls ++ map stored_line new) (stored_some text some) ∙ sym (map-append stored_line text new) ∙ sym (stored_some (text ++ new) (omega (arith, length-append text new)))

pub tree_lines_some : (n : ℕ) → 0 < n → tree_lines n ≡ n
tree_lines_some n some = grind (arith, nat_tests)

-- a text within the limits has room for these lines
pub within_more : (text new : List (List ℕ)) → IsWithinLimits text → All IsShort new → length text + length new ≤ MAX_LINES → bytes_of text + bytes_of new ≤ MAX_TEXT_BYTES → IsWithinLimits (text ++ new)
within_more text new has short few small = record {
  short_lines = All-append IsShort text new has.short_lines short;
  few_lines = omega (arith, length-append text new);
  few_bytes = omega (arith, bytes_of-append text new);
}

pub is_text_more : (text : List (List ℕ)) (bytes : List ℕ) → All IsLine text → All IsLine (text ++ lines_of bytes)
is_text_more text bytes is = All-append IsLine text (lines_of bytes) is (IsText-lines_of bytes)

-- the file form of lines has as many bytes as they have with their line ends
pub sized : (lines : List (List ℕ)) (bytes : List ℕ) → bytes ≡ file_of lines → length bytes ≡ bytes_of lines
sized lines bytes is = ap length is ∙ length-file_of lines

pub one_short : (first line : List ℕ) → first ≡ line → IsShort line → All IsShort (first ∷ [])
one_short first line is short = All-cons IsShort first [] (subst IsShort (sym is) short) (All-nil IsShort)

-- one line in the text without lines
begun_text : (text : List (List ℕ)) (first : List ℕ) → length text ≡ 0 → splice_text text 0 0 (first ∷ []) ≡ first ∷ []
begun_text [] first none = refl
begun_text (line ∷ text) first none = absurd (omega arith)

pub begun_bytes : (text : List (List ℕ)) (first : List ℕ) → length text ≡ 0 → length first + 1 ≤ MAX_TEXT_BYTES → bytes_of (splice_text text 0 0 (first ∷ [])) ≤ MAX_TEXT_BYTES
begun_bytes text first none few = omega (arith, ap bytes_of (begun_text text first none), few)

pub begun : (m : Map) (extent : Extent) (bytes : ℕ) (text : List (List ℕ)) (first : List ℕ) → length text ≡ 0 → bytes ≡ length first + 1 → HasText m extent (splice_text text 0 0 (first ∷ [])) → HasText m (record extent { bytes = bytes }) (first ∷ [])
begun m extent bytes text first none size spliced =
    let has = subst (λ (xs : List (List ℕ)). HasText m extent xs) (begun_text text first none) spliced in
    record { tree = has.tree; lines = has.lines; bytes = omega (arith, size); is_text = has.is_text; within = has.within }

-- the first line and the others are all lines
pub first_then : (text : List (List ℕ)) (bytes line first after : List ℕ) → length text ≡ 0 → first ≡ line → lines_of bytes ≡ line ∷ lines_of after → (first ∷ []) ++ lines_of after ≡ text ++ lines_of bytes
first_then [] bytes line first after none is lines = ap (λ (l : List ℕ). l ∷ lines_of after) is ∙ sym lines
first_then (x ∷ text) bytes line first after none is lines = absurd (omega arith)

-- the tree of the text without lines has one line more than the text
pub lead_few : (lines : ℕ) → lines ≡ 0 → 1 ≤ tree_lines lines - lines
lead_few lines none = grind (arith, nat_tests)

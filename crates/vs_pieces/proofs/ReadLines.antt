-- Lines that have ended are read together: the ended lines grow by them, and no line is begun.
use Rattle.std.proofs.Common.{◌≡◌, ◌≢◌, ℕ, ◌+◌, ◌<◌, ◌≤◌, Result, Ok, Err, OnOk, List, [], ◌∷◌, ◌++◌, length, take, drop, sym, ap, subst, ◌∙◌, arith, inl, inr, append_assoc, append-nil, length-append, All}
use Rattle.std.proofs.lemmas.Bool.{cases_lt}
use Rattle.std.proofs.lemmas.List.{nil_from_length, take-append-drop}
use Rattle.std.proofs.lemmas.List.Elements.{All-nil, All-append, All-from_recursion}
use Rattle.std.proofs.lemmas.Grind.{flat_map-append}
use Rattle.std.specs.List.{AllByRecursion}
use Rattle.vs_text.specs.Text.{lines_of, file_of, bytes_of, IsLine}
use Rattle.vs_text.specs.Limits.{IsShort, IsWithinLimits}
use Rattle.vs_pieces.specs.Reader.{Reading, ReadsOn}
use Rattle.vs_text.specs.declared.TheConstants.{MAX_LINES, MAX_LINE_BYTES, MAX_TEXT_BYTES}
use Rattle.vs_text.proofs.FileForm.{bytes_of-append, length-file_of}
use Rattle.vs_text.proofs.LineEnds.{IsText-lines_of}
use Rattle.vs_pieces.proofs.Reading.{IsWithinLimits-first}

each_short : (lines : List (List ℕ)) (most : ℕ) → bytes_of lines ≤ most → most ≤ MAX_LINE_BYTES → AllByRecursion IsShort lines
each_short [] most few small = tt
each_short (line ∷ lines) most few small = (omega (arith, few, small), each_short lines most (omega (arith, few)) small)

-- what was handed over and what is held then is within the limits
within_then : (held taken ended new : List (List ℕ)) → All IsShort ended → IsWithinLimits (taken ++ held) → (length ended ≤ MAX_LINES → bytes_of ended ≤ MAX_TEXT_BYTES → ended ≡ taken ++ new) → (MAX_LINES < length ended → new ≡ []) → (MAX_TEXT_BYTES < bytes_of ended → new ≡ [])
    → IsWithinLimits (taken ++ new)
within_then held taken ended new short before kept many large =
    let none = λ (empty : new ≡ []).
    let same : taken ≡ taken ++ new = sym (ap (λ (ls : List (List ℕ)). taken ++ ls) empty ∙ append-nil taken) in subst IsWithinLimits same (IsWithinLimits-first taken held before) in
    elim (cases_lt MAX_LINES (length ended)) [
      | inl over ↦ none (many over)
      | inr few ↦ elim (cases_lt MAX_TEXT_BYTES (bytes_of ended)) [
        | inl over ↦ none (large over)
        | inr small ↦ let whole : IsWithinLimits ended = record { short_lines = short; few_lines = few; few_bytes = small } in
            subst IsWithinLimits (kept few small) whole
      ]
    ]

pub ReadsOn-lines : (old new : Reading) (bytes : List ℕ) → old.last_size ≡ 0 → file_of (lines_of bytes) ≡ bytes → length bytes ≤ MAX_LINE_BYTES → new.last ≡ old.last → new.last_size ≡ 0 → new.ended ≡ old.ended + length (lines_of bytes) → new.bytes ≡ old.bytes + length bytes
    → (new.ended ≤ MAX_LINES → new.bytes ≤ MAX_TEXT_BYTES → new.lines ≡ old.lines ++ lines_of bytes) → (MAX_LINES < new.ended → new.lines ≡ []) → (MAX_TEXT_BYTES < new.bytes → new.lines ≡ []) → ReadsOn old new bytes
ReadsOn-lines old new bytes begun whole few last size ended count kept many large = λ taken fed h.
    let lines : List (List ℕ) = lines_of bytes in
    let all : List (List ℕ) = h.ended ++ lines in
    let none : h.last ≡ [] = nil_from_length h.last (omega (arith, h.counted_last, begun)) in
    let sized : bytes_of lines ≡ length bytes = sym (length-file_of lines) ∙ ap length whole in
    let more : length all ≡ length h.ended + length lines = length-append h.ended lines in
    let larger : bytes_of all ≡ bytes_of h.ended + bytes_of lines = bytes_of-append h.ended lines in
    let shorts : All IsShort all = All-append IsShort h.ended lines h.short (All-from_recursion IsShort lines (each_short lines (length bytes) (omega (arith, sized)) few)) in
    let count_is : new.ended ≡ length all = omega (arith, ended, h.counted_lines, more) in
    let bytes_is : new.bytes ≡ bytes_of all = omega (arith, count, h.counted_bytes, larger, sized) in
    let holds = λ (less : length all ≤ MAX_LINES) (small : bytes_of all ≤ MAX_TEXT_BYTES).
    ap (λ (ls : List (List ℕ)). ls ++ lines) (h.held (omega (arith, less, more)) (omega (arith, small, larger)))
    ∙ append_assoc taken old.lines lines ∙ ap (λ (ls : List (List ℕ)). taken ++ ls) (sym (kept (omega (arith, less, count_is)) (omega (arith, small, bytes_is)))) in
    let form : file_of all ≡ file_of h.ended ++ bytes = flat_map-append (λ (l : List ℕ). l ++ 10 ∷ []) h.ended lines ∙ ap (λ (xs : List ℕ). file_of h.ended ++ xs) whole in
    let start : fed ≡ file_of h.ended = h.parts ∙ ap (λ (xs : List ℕ). file_of h.ended ++ xs) none ∙ append-nil (file_of h.ended) in
    record {
      ended = all;
      last = [];
      parts = ap (λ (xs : List ℕ). xs ++ bytes) start ∙ sym form ∙ sym (append-nil (file_of all));
      text = All-append IsLine h.ended lines h.text (IsText-lines_of bytes);
      line = All-nil (λ byte. byte ≢ 10);
      short = shorts;
      counted_lines = count_is;
      counted_bytes = bytes_is;
      counted_last = size;
      held = holds;
      held_last = λ _. last ∙ h.held_last (omega (arith, ap length none)) ∙ none;
      within = within_then old.lines taken all new.lines shorts h.within holds (λ over. many (omega (arith, over, count_is))) (λ over. large (omega (arith, over, bytes_is)));
    }

-- the two parts of bytes are the whole
pub split_whole : (rest part after : List ℕ) (n : ℕ) → part ≡ take n rest → after ≡ drop n rest → rest ≡ part ++ after
split_whole rest part after n front back = sym (ap (λ (xs : List ℕ). xs ++ after) front ∙ ap (λ (xs : List ℕ). take n rest ++ xs) back ∙ take-append-drop n rest)

pub on_ok_three : {T E : Type 0} (r : Result T E) (A B C Q : Type 0) → (A → B → C → Q) → OnOk r A → OnOk r B → OnOk r C → OnOk r Q
on_ok_three (Ok x) A B C Q f a b c = f a b c
on_ok_three (Err e) A B C Q f a b c = tt

-- A text without newline stands in the file form of lines where it stands in one of them.
use Rattle.std.proofs.Common.{◌≡◌, ◌≢◌, ◌∙◌, ◌<◌, ◌≤◌, ◌+◌, ◌-◌, inl, inr, ◌⊎◌, ℕ, zero, suc, List, [], ◌∷◌, ◌++◌, All, Some, None, length, get_or, take, drop, ap, sym, arith, refl, subst, length-append, length-drop, length-take, take-take}
use Rattle.std.proofs.lemmas.Bool.{cases_lt}
use Rattle.std.proofs.Math.Seq.{take-add}
use Rattle.std.proofs.lemmas.List.{drop-drop, get_or_append_left, get_or-append-add, get_or-drop, get_or-take}
use Rattle.std.proofs.lemmas.List.Elements.{All-cons, All-append, All-get_or, All-nil, All-tail}
use Rattle.memchr.specs.Find.{FindsNeedle, NoneBefore, OccursAt}
use Rattle.vs_text.specs.Text.{IsLine, IsText, file_of}
use Rattle.vs_edit.specs.Splices.{cut_out}
use Rattle.vs_reads.specs.Searching.{IsInLine, Lacks, PassesTo, FindsIn}

-- where a text stands in some bytes, it stands in them with others after them
in-front : (front more needle : List ℕ) (k : ℕ) → OccursAt front needle k → OccursAt (front ++ more) needle k
in-front front more needle k occurs = record {
  fits = omega (arith, occurs.fits, length-append front more);
  reads = λ j below. get_or_append_left front more 0 (k + j) (omega (arith, below, occurs.fits)) ∙ occurs.reads j below;
}

-- and with others before them
behind : (front more needle : List ℕ) (k : ℕ) → OccursAt more needle k → OccursAt (front ++ more) needle (length front + k)
behind front more needle k occurs = record {
  fits = omega (arith, occurs.fits, length-append front more);
  reads = λ j below.
      let place : (length front + k) + j ≡ length front + (k + j) = omega arith in
      ap (λ n. get_or (front ++ more) n 0) place ∙ get_or-append-add front more (k + j) 0 ∙ occurs.reads j below;
}

-- where it stands behind other bytes, it stands in those that come after them
after-front : (front more needle : List ℕ) (m : ℕ) → length front ≤ m → OccursAt (front ++ more) needle m → OccursAt more needle (m - length front)
after-front front more needle m low occurs = record {
  fits = omega (arith, low, occurs.fits, length-append front more);
  reads = λ j below.
      let place : length front + ((m - length front) + j) ≡ m + j = omega (arith, low) in
      sym (get_or-append-add front more ((m - length front) + j) 0) ∙ ap (λ n. get_or (front ++ more) n 0) place ∙ occurs.reads j below;
}

-- a newline is none of its bytes, so it does not reach past one
ends-before : (line more needle : List ℕ) (k : ℕ) → IsLine needle → k ≤ length line → OccursAt ((line ++ 10 ∷ []) ++ more) needle k → k + length needle ≤ length line
ends-before line more needle k is_line low occurs =
    let cases : (length line < k + length needle) ⊎ (k + length needle ≤ length line) = cases_lt (length line) (k + length needle) in
    by cases where
      by : (length line < k + length needle) ⊎ (k + length needle ≤ length line) → k + length needle ≤ length line
      by (inl past) =
          let j = length line - k in
          let below : j < length needle = omega (arith, past, low) in
          let place : k + j ≡ length line + 0 = omega (arith, low) in
          let newline : get_or ((line ++ 10 ∷ []) ++ more) (k + j) 0 ≡ 10 =
          ap (λ n. get_or ((line ++ 10 ∷ []) ++ more) n 0) place
          ∙ get_or_append_left (line ++ 10 ∷ []) more 0 (length line + 0) (omega (arith, length-append line (10 ∷ []))) ∙ get_or-append-add line (10 ∷ []) 0 0 in
          absurd (All-get_or (λ byte. byte ≢ 10) needle j 0 below is_line (sym (occurs.reads j below) ∙ newline))
      by (inr within) = within

-- a text that begins in a line stands in it
in-line : (line more needle : List ℕ) (k : ℕ) → IsLine needle → 0 < length needle → k ≤ length line → OccursAt ((line ++ 10 ∷ []) ++ more) needle k → OccursAt line needle k
in-line line more needle k is_line some low occurs =
    let within = ends-before line more needle k is_line low occurs in
    record {
      fits = within;
      reads = λ j below.
          let inside : k + j < length line = omega (arith, within, below) in
          sym (get_or_append_left (line ++ 10 ∷ []) more 0 (k + j) (omega (arith, inside, length-append line (10 ∷ [])))
          ∙ get_or_append_left line (10 ∷ []) 0 (k + j) inside) ∙ occurs.reads j below;
    }

-- no line of some has a text that their bytes lack
pub lacks-all : (needle : List ℕ) (lines : List (List ℕ)) → FindsNeedle (file_of lines) needle 0 None → All (Lacks needle) lines
lacks-all needle [] none = All-nil (Lacks needle)
lacks-all needle (line ∷ after) none =
    let front = line ++ 10 ∷ [] in
    let rest = file_of after in
    let size = length-append line (10 ∷ []) in
    let whole = length-append front rest in
    All-cons (Lacks needle) line after
    (λ k low high occurs. none k (omega arith) (omega (arith, high, size, whole)) (in-front front rest needle k (in-front line (10 ∷ []) needle k occurs)))
    (lacks-all needle after (λ k low high occurs. none (length front + k) (omega arith) (omega (arith, high, whole)) (behind front rest needle k occurs)))

-- the lines before the one in which a text is found first lack it
pub passes-to : (needle : List ℕ) (lines : List (List ℕ)) (count place : ℕ) → IsText lines → IsLine needle → 0 < length needle
    → FindsNeedle (file_of lines) needle 0 (Some place) → IsInLine lines count place → PassesTo needle lines count
passes-to needle [] count place text is_line some found at = absurd (omega (arith, some, found.1.fits))
passes-to needle (line ∷ after) zero place text is_line some found at =
    let within : place ≤ length line = omega (arith, at.to) in
    let more = file_of after in
    let before : NoneBefore (OccursAt line needle) 0 (length line + 1) place = record {
      low = omega arith;
      high = omega (arith, within);
      before = λ j low high met. found.0.before j low high (in-front (line ++ 10 ∷ []) more needle j (in-front line (10 ∷ []) needle j met));
    } in
    record {
      lacking = All-nil (Lacks needle);
      stands = λ below. record { place = place; first = (before, in-line line more needle place is_line some within found.1) };
    }
passes-to needle (line ∷ after) (suc count) place text is_line some found at =
    let front = line ++ 10 ∷ [] in
    let rest = file_of after in
    let size : length front ≡ length line + 1 = omega (arith, length-append line (10 ∷ [])) in
    let low : length front ≤ place = omega (arith, size, at.from) in
    let occurs = after-front front rest needle place low found.1 in
    let before : NoneBefore (OccursAt rest needle) 0 (length rest + 1) (place - length front) = record {
      low = omega arith;
      high = omega (arith, occurs.fits);
      before = λ j j_low j_high met. found.0.before (length front + j) (omega arith) (omega (arith, j_high, low)) (behind front rest needle j met);
    } in
    let later = passes-to needle after count (place - length front) (All-tail IsLine line after text) is_line some (before, occurs)
    (record { from = omega (arith, size, at.from); to = omega (arith, size, low, at.to) }) in
    record {
      lacking = All-cons (Lacks needle) line (take count after)
          (λ k k_low k_high met. found.0.before k (omega arith) (omega (arith, size, low, k_high)) (in-front front rest needle k (in-front line (10 ∷ []) needle k met)))
          later.lacking;
      stands = λ below. later.stands (omega (arith, below));
    }

-- lines that lack a text, and more of them
pub lacks-more : (needle : List ℕ) (text : List (List ℕ)) (from at held count next : ℕ) → from ≤ at → count ≤ held → next ≡ at + count
    → All (Lacks needle) (cut_out text from (at - from)) → All (Lacks needle) (take count (cut_out text at held)) → All (Lacks needle) (cut_out text from (next - from))
lacks-more needle text from at held count next low within next_is before more =
    let size : next - from ≡ (at - from) + count = omega (arith, low, next_is) in
    let place : from + (at - from) ≡ at = omega (arith, low) in
    let second : take count (drop (at - from) (drop from text)) ≡ take count (cut_out text at held) =
    ap (take count) (drop-drop (at - from) from text ∙ ap (λ n. drop n text) place) ∙ sym (take-take count held (drop at text) within) in
    subst (All (Lacks needle)) (sym (ap (λ n. cut_out text from n) size ∙ take-add (at - from) count (drop from text) ∙ ap (λ l. cut_out text from (at - from) ++ l) second))
    (All-append (Lacks needle) (cut_out text from (at - from)) (take count (cut_out text at held)) before more)

-- lines up to one in which a text stands, or to the end
pub passes-from : (needle : List ℕ) (text : List (List ℕ)) (from at end : ℕ) → from ≤ at → at ≤ end → All (Lacks needle) (cut_out text from (at - from))
    → (at < end → at < length text → FindsIn needle (get_or text at [])) → PassesTo needle (cut_out text from (end - from)) (at - from)
passes-from needle text from at end low high lacking stands = record {
  lacking = subst (All (Lacks needle)) (sym (take-take (at - from) (end - from) (drop from text) (omega (arith, high)))) lacking;
  stands = λ below.
      let size = length-take (end - from) (drop from text) in
      let more = length-drop from text in
      let place : from + (at - from) ≡ at = omega (arith, low) in
      let line : get_or (cut_out text from (end - from)) (at - from) [] ≡ get_or text at [] =
      get_or-take (end - from) (drop from text) (at - from) [] (omega (arith, below, size)) ∙ get_or-drop from text (at - from) [] ∙ ap (λ n. get_or text n []) place in
      subst (FindsIn needle) (sym line) (stands (omega (arith, below, size, low)) (omega (arith, below, size, more, low)));
}

-- the line in which a text stands, by its place in the text
pub stands-at : (needle : List ℕ) (text : List (List ℕ)) (at held count next : ℕ) → next ≡ at + count → count < held → FindsIn needle (get_or (cut_out text at held) count []) → FindsIn needle (get_or text next [])
stands-at needle text at held count next next_is below stands =
    let line : get_or (cut_out text at held) count [] ≡ get_or text next [] =
    get_or-take held (drop at text) count [] below ∙ get_or-drop at text count [] ∙ ap (λ n. get_or text n []) (sym next_is) in
    subst (FindsIn needle) line stands

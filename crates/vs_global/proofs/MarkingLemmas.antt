-- Lines that are looked at one after the other, and the marks of those that are taken.
use Rattle.std.proofs.Common.{◌≡◌, ◌∙◌, ℕ, zero, suc, ◌+◌, ◌-◌, ◌<◌, ◌≤◌, Bool, true, false, not, List, [], ◌∷◌, ◌++◌, All, drop, length, get_or, map, replicate, take, ap, append_assoc, sym, subst, arith, refl, length-append}
use Rattle.std.proofs.Math.Seq.{take-add}
use Rattle.std.proofs.lemmas.List.{append-nil, drop-drop, get_or-drop, get_or-take, length-map, length-replicate, map-append}
use Rattle.std.proofs.lemmas.List.Elements.{All-head, All-nil, All-push, All-tail, All-weaker}
use Rattle.vs_edit.specs.Splices.{cut_out}
use Rattle.vs_edit.proofs.FileForm.{cut_out-more}
use Rattle.vs_edit.proofs.SpliceLemmas.{length-cut_out}
use Rattle.vs_reads.specs.Searching.{Lacks, PassesTo, FindsIn}
use Rattle.vs_excmd.proofs.PassLemmas.{front-lacks, match-in, no-match}
use Rattle.vs_excmd.specs.Change.{before, lines_in, size_of}
use Rattle.vs_excmd.specs.Place.{IsSpanIn}
use Rattle.vs_excmd.specs.declared.place.Span.{Span}
use Rattle.vs_marks.specs.Marks.{Ascends}
use Rattle.vs_global.specs.Global.{is_taken, places, taken_marks}
use Rattle.vs_global.specs.Taking.{TakesAll, TakesSome}
use Rattle.vs_global.proofs.PlacesLemmas.{places-append, places-none}

-- lines that lack a text are all taken, or none
passed-marks : (invert : Bool) (needle : List ℕ) (lines : List (List ℕ)) → All (Lacks needle) lines → map (is_taken invert needle) lines ≡ replicate (length lines) invert
passed-marks invert needle [] lacking = refl
passed-marks true needle (line ∷ lines) lacking =
    rw (no-match needle line (All-head (Lacks needle) line lines lacking), passed-marks true needle lines (All-tail (Lacks needle) line lines lacking)) refl
passed-marks false needle (line ∷ lines) lacking =
    rw (no-match needle line (All-head (Lacks needle) line lines lacking), passed-marks false needle lines (All-tail (Lacks needle) line lines lacking)) refl

match-mark : (invert : Bool) (needle line : List ℕ) → 0 < length needle → FindsIn needle line → is_taken invert needle line ≡ not invert
match-mark true needle line some stands = rw (match-in needle line some stands) refl
match-mark false needle line some stands = match-in needle line some stands

-- lines up to one in which a text stands, or to the end
pub passed-taken : (invert : Bool) (needle : List ℕ) (text : List (List ℕ)) (from to end : ℕ) (had now : List ℕ) → from ≤ to → to ≤ end → end ≤ length text
    → PassesTo needle (cut_out text from (end - from)) (to - from) → now ≡ had ++ places from (replicate (to - from) invert) → TakesAll invert needle text from to had now
passed-taken invert needle text from to end had now low high within passes is =
    let seen = cut_out text from (to - from) in
    let lacking = front-lacks needle text from from (end - from) (to - from) (to - from) refl refl (omega (arith, high)) passes.lacking in
    let size : length seen ≡ to - from = length-cut_out text from (to - from) (omega (arith, low, high, within)) in
    is ∙ ap (λ (n : ℕ). had ++ places from (replicate n invert)) (sym size) ∙ ap (λ (marks : List Bool). had ++ places from marks) (sym (passed-marks invert needle seen lacking))

-- and that line
pub match-taken : (invert : Bool) (needle : List ℕ) (text : List (List ℕ)) (from to end : ℕ) (had passed now : List ℕ) → from ≤ to → to < end → end ≤ length text → 0 < length needle
    → PassesTo needle (cut_out text from (end - from)) (to - from) → TakesAll invert needle text from to had passed → now ≡ passed ++ places to (replicate (to + 1 - to) (not invert))
    → TakesAll invert needle text from (to + 1) had now
match-taken invert needle text from to end had passed now low below within some passes so_far is =
    let n = to - from in
    let line = get_or text to [] in
    let seen = cut_out text from n in
    let takes = is_taken invert needle in
    let place : from + n ≡ to = omega (arith, low) in
    let size : length seen ≡ n = length-cut_out text from n (omega (arith, low, below, within)) in
    let whole : length (cut_out text from (end - from)) ≡ end - from = length-cut_out text from (end - from) (omega (arith, low, below, within)) in
    let found : get_or (cut_out text from (end - from)) n [] ≡ line =
    get_or-take (end - from) (drop from text) n [] (omega (arith, low, below)) ∙ get_or-drop from text n [] ∙ ap (λ k. get_or text k []) place in
    let mark : takes line ≡ not invert = match-mark invert needle line some (subst (FindsIn needle) found (passes.stands (omega (arith, whole, low, below)))) in
    let single : to + 1 - to ≡ 1 = omega arith in
    let one : replicate (to + 1 - to) (not invert) ≡ takes line ∷ [] = ap (λ k. replicate k (not invert)) single ∙ ap (λ b. b ∷ []) (sym mark) in
    let at : to ≡ from + length (map takes seen) = omega (arith, length-map seen takes, size, place) in
    let next : to + 1 - from ≡ n + 1 = omega (arith, low) in
    let more : cut_out text from (to + 1 - from) ≡ seen ++ line ∷ [] =
    ap (λ k. cut_out text from k) next ∙ sym (cut_out-more text from n (omega (arith, place, below, within))) ∙ ap (λ k. seen ++ get_or text k [] ∷ []) place in
    is ∙ ap (λ marks. passed ++ places to marks) one ∙ ap (λ k. passed ++ places k (takes line ∷ [])) at
    ∙ ap (λ l. l ++ places (from + length (map takes seen)) (takes line ∷ [])) so_far
    ∙ append_assoc had (places from (map takes seen)) (places (from + length (map takes seen)) (takes line ∷ []))
    ∙ ap (λ l. had ++ l) (sym (places-append from (map takes seen) (takes line ∷ [])))
    ∙ ap (λ marks. had ++ places from marks) (sym (map-append takes seen (line ∷ []))) ∙ ap (λ lines. had ++ places from (map takes lines)) (sym more)

-- more lines after those that were looked at
pub taken-on : (invert : Bool) (needle : List ℕ) (text : List (List ℕ)) (top from to : ℕ) (start had now : List ℕ) → top ≤ from → from ≤ to → to ≤ length text
    → TakesAll invert needle text top from start had → TakesAll invert needle text from to had now → TakesAll invert needle text top to start now
taken-on invert needle text top from to start had now first then within before more =
    let takes = is_taken invert needle in
    let seen = cut_out text top (from - top) in
    let next = cut_out text from (to - from) in
    let size : length seen ≡ from - top = length-cut_out text top (from - top) (omega (arith, first, then, within)) in
    let at : from ≡ top + length (map takes seen) = omega (arith, length-map seen takes, size, first) in
    let both : to - top ≡ (from - top) + (to - from) = omega (arith, first, then) in
    let place : top + (from - top) ≡ from = omega (arith, first) in
    let whole : cut_out text top (to - top) ≡ seen ++ next =
    ap (λ k. cut_out text top k) both ∙ take-add (from - top) (to - from) (drop top text)
    ∙ ap (λ l. seen ++ take (to - from) l) (drop-drop (from - top) top text ∙ ap (λ k. drop k text) place) in
    more ∙ ap (λ l. l ++ places from (map takes next)) before ∙ append_assoc start (places top (map takes seen)) (places from (map takes next))
    ∙ ap (λ k. start ++ (places top (map takes seen) ++ places k (map takes next))) at
    ∙ ap (λ l. start ++ l) (sym (places-append top (map takes seen) (map takes next)))
    ∙ ap (λ marks. start ++ places top marks) (sym (map-append takes seen next)) ∙ ap (λ lines. start ++ places top (map takes lines)) (sym whole)

-- the numbers of the marks of a span alone
pub span-places : (invert : Bool) (literal : List ℕ) (text : List (List ℕ)) (span : Span)
    → places (before span) (map (is_taken invert literal) (lines_in text span)) ≡ places 0 (taken_marks invert literal text span)
span-places invert literal text span =
    let front = replicate (before span) false in
    let marks = map (is_taken invert literal) (lines_in text span) in
    let size : 0 + length front ≡ before span = omega (arith, length-replicate (before span) false) in
    sym (places-append 0 (front ++ marks) (replicate (length text - span.last) false)
    ∙ ap (λ (l : List ℕ). places 0 (front ++ marks) ++ l) (places-none (0 + length (front ++ marks)) (length text - span.last)) ∙ append-nil (places 0 (front ++ marks))
    ∙ places-append 0 front marks ∙ ap (λ (l : List ℕ). l ++ places (0 + length front) marks) (places-none 0 (before span))
    ∙ ap (λ (k : ℕ). places k marks) size)

-- there is a mark for each line
pub marks-size : (invert : Bool) (literal : List ℕ) (text : List (List ℕ)) (span : Span) → 1 ≤ span.first → IsSpanIn (length text) span
    → length (taken_marks invert literal text span) ≡ length text
marks-size invert literal text span positive lies =
    let front = replicate (before span) false in
    let marks = map (is_taken invert literal) (lines_in text span) in
    let within : before span + size_of span ≤ length text = omega (arith, lies.order, lies.within, positive) in
    omega (
      arith,
      positive,
      lies.order,
      lies.within,
      length-append (front ++ marks) (replicate (length text - span.last) false),
      length-append front marks,
      length-replicate (before span) false,
      length-replicate (length text - span.last) false,
      length-map (lines_in text span) (is_taken invert literal),
      length-cut_out text (before span) (size_of span) within,
    )

-- a number above all is the last of them
pub ascends-push : (lines : List ℕ) (line : ℕ) → Ascends lines → All (λ other. other < line) lines → Ascends (lines ++ line ∷ [])
ascends-push [] line up below = (All-nil (λ other. line < other), tt)
ascends-push (first ∷ lines) line up below =
    (All-push (λ other. first < other) lines line up.0 (All-head (λ other. other < line) first lines below), ascends-push lines line up.1 (All-tail (λ other. other < line) first lines below))

replicate-more : (n : ℕ) (mark : Bool) → replicate n mark ++ mark ∷ [] ≡ mark ∷ replicate n mark
replicate-more zero mark = refl
replicate-more (suc n) mark = ap (λ l. mark ∷ l) (replicate-more n mark)

-- no number comes
pub none-pushed : (takes : Bool) (from n : ℕ) (had : List ℕ) → takes ≡ false → had ≡ had ++ places from (replicate n takes)
none-pushed takes from n had not_taken =
    sym (append-nil had) ∙ ap (λ l. had ++ l) (sym (places-none from n)) ∙ ap (λ b. had ++ places from (replicate n b)) (sym not_taken)

-- one number more
pub number-pushed : (from number : ℕ) (had now next : List ℕ) → from ≤ number → now ≡ had ++ places from (replicate (number - from) true) → next ≡ now ++ number ∷ []
    → next ≡ had ++ places from (replicate (number + 1 - from) true)
number-pushed from number had now next low so_far is =
    let n = number - from in
    let marks = replicate n true in
    let count : suc n ≡ number + 1 - from = omega (arith, low) in
    let at : number ≡ from + length marks = omega (arith, low, length-replicate n true) in
    is ∙ ap (λ l. l ++ number ∷ []) so_far ∙ append_assoc had (places from marks) (number ∷ []) ∙ ap (λ k. had ++ (places from marks ++ k ∷ [])) at
    ∙ ap (λ l. had ++ l) (sym (places-append from marks (true ∷ []))) ∙ ap (λ l. had ++ places from l) (replicate-more n true)
    ∙ ap (λ k. had ++ places from (replicate k true)) count

-- numbers of lines up to one, and that one
pub some-pushed : (invert : Bool) (from to : ℕ) (had passed now : List ℕ) → from ≤ to → passed ≡ had ++ places from (replicate (to - from) invert)
    → now ≡ passed ++ places to (replicate (to + 1 - to) (not invert)) → TakesSome from (to + 1) had now
some-pushed invert from to had passed now low first second =
    let marks = replicate (to - from) invert in
    let one = replicate (to + 1 - to) (not invert) in
    let size = length-replicate (to - from) invert in
    let at : to ≡ from + length marks = omega (arith, low, size) in
    record {
      marks = marks ++ one;
      size = omega (arith, length-append marks one, size, length-replicate (to + 1 - to) (not invert), low);
      are = second ∙ ap (λ l. l ++ places to one) first ∙ append_assoc had (places from marks) (places to one)
          ∙ ap (λ k. had ++ (places from marks ++ places k one)) at ∙ ap (λ l. had ++ l) (sym (places-append from marks one));
    }

-- the lines that were taken
pub record AreTaken (top i : ℕ) (taken : List ℕ) : Type 0 where
  pub ascends : Ascends taken
  pub below : All (λ line. line < top + i) taken
  pub few : length taken ≤ i

-- one more line, or none
one-taken : (top i : ℕ) (had : List ℕ) (hit : Bool) → AreTaken top i had → AreTaken top (i + 1) (had ++ places (top + i) (hit ∷ []))
one-taken top i had true was = record {
  ascends = ascends-push had (top + i) was.ascends was.below;
  below = All-push (λ line. line < top + (i + 1)) had (top + i)
      (All-weaker (λ line. line < top + i) (λ line. line < top + (i + 1)) (λ line before. omega (arith, before)) had was.below) (omega arith);
  few = omega (arith, was.few, length-append had ((top + i) ∷ []));
}
one-taken top i had false was =
    let same : had ++ [] ≡ had = append-nil had in record {
      ascends = subst Ascends (sym same) was.ascends;
      below = subst (All (λ line. line < top + (i + 1))) (sym same)
          (All-weaker (λ line. line < top + i) (λ line. line < top + (i + 1)) (λ line before. omega (arith, before)) had was.below);
      few = omega (arith, was.few, ap (λ (l : List ℕ). length l) same);
    }

-- some lines more
marks-taken : (top i : ℕ) (had : List ℕ) (marks : List Bool) → AreTaken top i had → AreTaken top (i + length marks) (had ++ places (top + i) marks)
marks-taken top i had [] was =
    let same : i ≡ i + 0 = omega arith in
    subst (λ k. AreTaken top k (had ++ [])) same (subst (AreTaken top i) (sym (append-nil had)) was)
marks-taken top i had (mark ∷ marks) was =
    let next : top + (i + 1) ≡ top + i + 1 = omega arith in
    let count : i + 1 + length marks ≡ i + length (mark ∷ marks) = omega arith in
    let one = places (top + i) (mark ∷ []) in
    let rest = places (top + i + 1) marks in
    let whole : (had ++ one) ++ places (top + (i + 1)) marks ≡ had ++ places (top + i) (mark ∷ marks) =
    append_assoc had one (places (top + (i + 1)) marks) ∙ ap (λ k. had ++ (one ++ places k marks)) next ∙ ap (λ l. had ++ l) (sym (places-append (top + i) (mark ∷ []) marks)) in
    subst (λ k. AreTaken top k (had ++ places (top + i) (mark ∷ marks))) count
    (subst (AreTaken top (i + 1 + length marks)) whole (marks-taken top (i + 1) (had ++ one) marks (one-taken top i had mark was)))

pub some-taken : (top from to : ℕ) (had now : List ℕ) → top ≤ from → from ≤ to → TakesSome from to had now → AreTaken top (from - top) had → AreTaken top (to - top) now
some-taken top from to had now first then takes was =
    let place : top + (from - top) ≡ from = omega (arith, first) in
    let count : from - top + length takes.marks ≡ to - top = omega (arith, takes.size, first, then) in
    subst (λ k. AreTaken top k now) count
    (subst (AreTaken top (from - top + length takes.marks)) (ap (λ k. had ++ places k takes.marks) place ∙ sym takes.are) (marks-taken top (from - top) had takes.marks was))

-- the lines of a span that are taken, by the numbers of its lines
pub span-as : (invert : Bool) (literal found : List ℕ) (text : List (List ℕ)) (span : Span) (top count : ℕ) → top ≡ before span → count ≡ size_of span → found ≡ literal
    → places top (map (is_taken invert found) (cut_out text top count)) ≡ places 0 (taken_marks invert literal text span)
span-as invert literal found text span top count top_is count_is found_is =
    ap (λ (l : List ℕ). places top (map (is_taken invert l) (cut_out text top count))) found_is
    ∙ ap (λ (k : ℕ). places k (map (is_taken invert literal) (cut_out text k count))) top_is
    ∙ ap (λ (k : ℕ). places (before span) (map (is_taken invert literal) (cut_out text (before span) k))) count_is
    ∙ span-places invert literal text span

-- Marks of a list of lines, and the numbers of the lines that are marked.
use Rattle.std.proofs.Common.{◌≡◌, ◌∙◌, ℕ, zero, suc, ◌+◌, ◌-◌, ◌<◌, ◌≤◌, Bool, true, false, List, [], ◌∷◌, ◌++◌, All, Option, Some, None, length, take, drop, replicate, ap, sym, arith, append_assoc, length-append, length-take, length-drop, refl}
use Rattle.std.specs.Prelude.{option_map}
use Rattle.std.specs.List.{cons_option}
use Rattle.std.proofs.lemmas.List.{append-nil, take-append-drop, drop-drop, length-replicate}
use Rattle.std.proofs.lemmas.List.Elements.{All-nil, All-cons}
use Rattle.vs_edit.specs.Splices.{cut_out}
use Rattle.vs_marks.specs.Marks.{marks_after}
use Rattle.vs_marks.proofs.MarksLemmas.{stays, goes, shifts, all-early, parts-after}
use Rattle.vs_global.specs.Global.{places, exchanged_marks, first_mark, without_first}

pub places-append : (i : ℕ) (a b : List Bool) → places i (a ++ b) ≡ places i a ++ places (i + length a) b
places-append i [] b = ap (λ (k : ℕ). places k b) (omega arith)
places-append i (true ∷ a) b =
    let same : i + 1 + length a ≡ i + length (true ∷ a) = omega arith in
    ap (λ (l : List ℕ). i ∷ l) (places-append (i + 1) a b ∙ ap (λ (k : ℕ). places (i + 1) a ++ places k b) same)
places-append i (false ∷ a) b =
    let same : i + 1 + length a ≡ i + length (false ∷ a) = omega arith in
    places-append (i + 1) a b ∙ ap (λ (k : ℕ). places (i + 1) a ++ places k b) same

pub places-none : (i n : ℕ) → places i (replicate n false) ≡ []
places-none i zero = refl
places-none i (suc n) = places-none (i + 1) n

-- the numbers of some lines lie among them
pub places-below : (i bound : ℕ) (a : List Bool) → i + length a ≤ bound → All (λ line. line < bound) (places i a)
places-below i bound [] below = All-nil (λ line. line < bound)
places-below i bound (true ∷ a) below =
    All-cons (λ line. line < bound) i (places (i + 1) a) (omega (arith, below)) (places-below (i + 1) bound a (omega (arith, below)))
places-below i bound (false ∷ a) below = places-below (i + 1) bound a (omega (arith, below))

-- marks of the lines that are exchanged
among : (top old new i r : ℕ) (b : List Bool) → i + length b ≡ top + old → r ≡ top + new - i → top ≤ i → marks_after top old new (places i b) ≡ places i (take r b)
among top old new i zero [] is rest from = refl
among top old new i (suc r) [] is rest from = refl
among top old new i zero (true ∷ b) is rest from =
    ap (λ (to : Option ℕ). cons_option to (marks_after top old new (places (i + 1) b))) (goes top old new i (omega (arith, is)) (omega (arith, rest)))
    ∙ among top old new (i + 1) zero b (omega (arith, is)) (omega (arith, rest)) (omega (arith, from))
among top old new i (suc r) (true ∷ b) is rest from =
    ap (λ (to : Option ℕ). cons_option to (marks_after top old new (places (i + 1) b))) (stays top old new i (omega (arith, is)) (omega (arith, rest)))
    ∙ ap (λ (l : List ℕ). i ∷ l) (among top old new (i + 1) r b (omega (arith, is)) (omega (arith, rest)) (omega (arith, from)))
among top old new i zero (false ∷ b) is rest from = among top old new (i + 1) zero b (omega (arith, is)) (omega (arith, rest)) (omega (arith, from))
among top old new i (suc r) (false ∷ b) is rest from = among top old new (i + 1) r b (omega (arith, is)) (omega (arith, rest)) (omega (arith, from))

-- marks of the lines after them
beyond : (top old new i j : ℕ) (c : List Bool) → top + old ≤ i → j ≡ i + new - old → marks_after top old new (places i c) ≡ places j c
beyond top old new i j [] past is = refl
beyond top old new i j (true ∷ c) past is =
    ap (λ (to : Option ℕ). cons_option to (marks_after top old new (places (i + 1) c))) (shifts top old new i past ∙ ap (λ (k : ℕ). Some k) (sym is))
    ∙ ap (λ (l : List ℕ). j ∷ l) (beyond top old new (i + 1) (j + 1) c (omega (arith, past)) (omega (arith, past, is)))
beyond top old new i j (false ∷ c) past is = beyond top old new (i + 1) (j + 1) c (omega (arith, past)) (omega (arith, past, is))

-- the marks after a splice, by their numbers
pub places-exchanged : (marks : List Bool) (top old new : ℕ) → top + old ≤ length marks → places 0 (exchanged_marks marks top old new) ≡ marks_after top old new (places 0 marks)
places-exchanged marks top old new within =
    let a = take top marks in
    let b = cut_out marks top old in
    let c = drop (top + old) marks in
    let put = take new b ++ replicate (new - old) false in
    let size_a : length a ≡ top = omega (arith, within, length-take top marks) in
    let size_b : length b ≡ old = omega (arith, within, length-take old (drop top marks), length-drop top marks) in
    let size_put : length put ≡ new = omega (arith, length-append (take new b) (replicate (new - old) false), length-take new b, size_b, length-replicate (new - old) false) in
    let dropped : drop old (drop top marks) ≡ c = drop-drop old top marks in
    let whole : a ++ (b ++ c) ≡ marks =
    ap (λ (l : List Bool). a ++ (b ++ l)) (sym dropped) ∙ ap (λ (l : List Bool). a ++ l) (take-append-drop old (drop top marks)) ∙ take-append-drop top marks in
    let i = 0 + length a in
    let here : places i put ≡ marks_after top old new (places i b) =
    places-append i (take new b) (replicate (new - old) false) ∙ ap (λ (l : List ℕ). places i (take new b) ++ l) (places-none (i + length (take new b)) (new - old))
    ∙ append-nil (places i (take new b)) ∙ sym (among top old new i new b (omega (arith, size_a, size_b)) (omega (arith, size_a)) (omega (arith, size_a))) in
    let after : places (i + length put) c ≡ marks_after top old new (places (i + length b) c) =
    sym (beyond top old new (i + length b) (i + length put) c (omega (arith, size_a, size_b)) (omega (arith, size_a, size_b, size_put))) in
    let both : places i (put ++ c) ≡ marks_after top old new (places i (b ++ c)) =
    places-append i put c ∙ parts-after top old new (places i b) (places (i + length b) c) (places i put) (places (i + length put) c) here after
    ∙ ap (marks_after top old new) (sym (places-append i b c)) in
    let front : places 0 a ≡ marks_after top old new (places 0 a) = sym (all-early top old new (places 0 a) (places-below 0 top a (omega (arith, size_a)))) in
    ap (places 0) (append_assoc a put c) ∙ places-append 0 a (put ++ c) ∙ parts-after top old new (places 0 a) (places i (b ++ c)) (places 0 a) (places i (put ++ c)) front both
    ∙ ap (marks_after top old new) (sym (places-append 0 a (b ++ c))) ∙ ap (λ (l : List Bool). marks_after top old new (places 0 l)) whole

-- the first mark
pub first-none : (i : ℕ) (marks : List Bool) → places i marks ≡ [] → first_mark marks ≡ None
first-none i [] is = refl
first-none i (true ∷ marks) is = absurd (cc)
first-none i (false ∷ marks) is = ap (option_map suc) (first-none (i + 1) marks is)

pub first-some : (i line : ℕ) (rest : List ℕ) (marks : List Bool) → places i marks ≡ line ∷ rest
    → (first_mark marks ≡ Some (line - i)) × (i ≤ line) × (places i (without_first marks) ≡ rest)
first-some i line rest [] is = absurd (cc)
first-some i line rest (true ∷ marks) is =
    let same : i ≡ line = cc in
    let others : places (i + 1) marks ≡ rest = cc in
    let none : 0 ≡ line - i = omega (arith, same) in
    (ap (λ (n : ℕ). Some n) none, omega (arith, same), others)
first-some i line rest (false ∷ marks) is =
    let after = first-some (i + 1) line rest marks is in
    let one : suc (line - (i + 1)) ≡ line - i = omega (arith, after.1) in
    (ap (option_map suc) after.0 ∙ ap (λ (n : ℕ). Some n) one, omega (arith, after.1), after.2)

pub length-without : (marks : List Bool) → length (without_first marks) ≡ length marks
length-without [] = refl
length-without (true ∷ marks) = refl
length-without (false ∷ marks) = ap suc (length-without marks)

pub length-exchanged : (marks : List Bool) (top old new : ℕ) → top + old ≤ length marks → length (exchanged_marks marks top old new) + old ≡ length marks + new
length-exchanged marks top old new within =
    let b = cut_out marks top old in
    let put = take new b ++ replicate (new - old) false in
    let size_b : length b ≡ old = omega (arith, within, length-take old (drop top marks), length-drop top marks) in
    let size_put : length put ≡ new = omega (arith, length-append (take new b) (replicate (new - old) false), length-take new b, size_b, length-replicate (new - old) false) in
    omega (
      arith,
      within,
      size_put,
      length-append (take top marks ++ put) (drop (top + old) marks),
      length-append (take top marks) put,
      length-take top marks,
      length-drop (top + old) marks,
    )

-- A run to which no line was added is as full as a page allows.
use Rattle.std.proofs.Common.{◌≡◌, ◌≢◌, ℕ, zero, suc, ◌+◌, ◌-◌, ◌<◌, ◌≤◌, inl, inr, List, [], ◌∷◌, ◌++◌, length, get_or, take, drop, map, All, refl, sym, ap, subst, ◌∙◌, arith, append-nil, append_assoc, length-append, length-drop, IfOk, Result, Ok, Err}
use Rattle.std.specs.List.{AllByRecursion}
use Rattle.std.proofs.lemmas.Bool.{cases_lt}
use Rattle.std.proofs.lemmas.Bool.Decides.{nat_tests}
use Rattle.std.proofs.lemmas.List.{append_cancel_left, drop-map, drop-take, length-map, length-take-le, map-append, take-append-drop}
use Rattle.std.proofs.lemmas.List.Concat.{flat_map-append}
use Rattle.std.proofs.lemmas.List.Sums.{sum_by-cons}
use Rattle.std.proofs.lemmas.List.Elements.{All-from_recursion, All-head, recursion_from_All}
use Rattle.vs_data.specs.Blocks.{ended_of, space_of}
use Rattle.vs_text.specs.Text.{IsLine, file_of, lines_of, stored_byte, stored_line}
use Rattle.vs_text.proofs.LineEnds.{IsText-lines_of}
use Rattle.vs_tree_blocks.specs.Cuts.{all_lines}
use Rattle.vs_tree_blocks.specs.Runs.{IsFirstRun}
use Rattle.vs_tree_blocks.proofs.CutsLemmas.{all_both}
use Rattle.vs_tree_blocks.proofs.RemovedLemmas.{drop_both}
use Rattle.vs_tree.specs.Packed.{ArePacked, IsFullBefore, IsWhole, stored_lines}
use Rattle.vs_tree.specs.Reads.{exchanged_byte}

-- what follows from two facts of a result
pub both_ok : {X E : Type 0} (r : Result X E) (P Q R : X → Type 0) → ((x : X) → P x → Q x → R x) → IfOk r P → IfOk r Q → IfOk r R
both_ok (Ok x) P Q R follows p q = follows x p q
both_ok (Err e) P Q R follows p q = tt

-- a run has no room for the line at this number
pub full_drop : (n : ℕ) (run lines : List (List ℕ)) → (n < length lines → 4072 < space_of run + (length (get_or lines n []) + 5)) → IsFullBefore run (map stored_line (drop n lines))
full_drop zero run [] full = tt
full_drop (suc n) run [] full = tt
full_drop zero run (line ∷ lines) full = omega (arith, length-map line stored_byte, full (omega arith))
full_drop (suc n) run (line ∷ lines) full = full_drop n run lines (λ lt. full (omega arith))

pub packed_both : (runs more : List (List (List ℕ))) (after : List (List ℕ)) → ArePacked runs (all_lines more ++ after) → ArePacked more after → ArePacked (runs ++ more) after
packed_both [] more after one two = two
packed_both (run ∷ runs) more after one two = (
  subst (λ lines. IsFullBefore run lines) (sym (ap (λ lines. lines ++ after) (all_both runs more) ∙ append_assoc (all_lines runs) (all_lines more) after)) one.0,
  packed_both runs more after one.1 two,
)

pub packed_one : (runs : List (List (List ℕ))) (run after : List (List ℕ)) → runs ≡ run ∷ [] → IsFullBefore run after → ArePacked runs after
packed_one runs run after is full = subst (λ rs. ArePacked rs after) (sym is) (full, tt)

-- one more run, which has the first of the lines that were left
pub packed_next : (runs now : List (List (List ℕ))) (run all after : List (List ℕ)) → now ≡ runs ++ run ∷ [] → ArePacked runs all → all ≡ run ++ after → IsFullBefore run after → ArePacked now after
packed_next runs now run all after now_is packed is full =
    let first : all ≡ all_lines (run ∷ []) ++ after = is ∙ sym (ap (λ lines. lines ++ after) (append-nil run)) in
    subst (λ rs. ArePacked rs after) (sym now_is) (packed_both runs (run ∷ []) after (subst (λ lines. ArePacked runs lines) first packed) (full, tt))

-- the lines that were left are those of the run and those after it
pub lines_next : (lines run : List (List ℕ)) (i n : ℕ) → i ≤ length lines → run ≡ map stored_line (take n (drop i lines)) → map stored_line (drop i lines) ≡ run ++ map stored_line (drop (i + n) lines)
lines_next lines run i n within is =
    let rest : List (List ℕ) = drop i lines in
    ap (λ ls. map stored_line ls) (sym (take-append-drop n rest)) ∙ map-append stored_line (take n rest) (drop n rest)
    ∙ ap (λ ls. ls ++ map stored_line (drop n rest)) (sym is) ∙ ap (λ ls. run ++ map stored_line ls) (sym (drop_both lines i n within))

-- where the first lines of whole bytes are taken away, the rest is whole
pub whole_rest : (bytes rest : List ℕ) (put : List (List ℕ)) → lines_of bytes ≡ put ++ lines_of rest → bytes ≡ file_of put ++ rest → IsWhole bytes → IsWhole rest
whole_rest bytes rest put is cut whole =
    append_cancel_left (file_of put) (file_of (lines_of rest)) rest
    (sym (flat_map-append (λ (line : List ℕ). line ++ 10 ∷ []) put (lines_of rest)) ∙ ap file_of (sym is) ∙ whole ∙ cut)

pub whole_none : (rest : List ℕ) → length rest ≡ 0 → IsWhole rest
whole_none [] none = refl
whole_none (byte ∷ rest) none = absurd (omega arith)

pub whole_first : (bytes line rest : List ℕ) → bytes ≡ line ++ 10 ∷ rest → lines_of bytes ≡ line ∷ lines_of rest → IsWhole bytes → IsWhole rest
whole_first bytes line rest cut is whole =
    whole_rest bytes rest (line ∷ []) is (cut ∙ sym (ap (λ xs. xs ++ rest) (append-nil (line ++ 10 ∷ [])) ∙ append_assoc line (10 ∷ []) rest)) whole

-- the first line of whole bytes, with its end
first_ended : (bytes line : List ℕ) (lines : List (List ℕ)) → lines_of bytes ≡ line ∷ lines → IsWhole bytes → bytes ≡ line ++ 10 ∷ file_of lines
first_ended bytes line lines is whole = sym whole ∙ ap file_of is ∙ append_assoc line (10 ∷ []) (file_of lines)

first_line : (bytes line : List ℕ) (lines : List (List ℕ)) → lines_of bytes ≡ line ∷ lines → IsLine line
first_line bytes line lines is = All-head IsLine line lines (subst (λ ls. All IsLine ls) is (IsText-lines_of bytes))

-- what lines take is no less than their bytes with their ends
ended_space : (run : List (List ℕ)) → length (ended_of run) ≤ space_of run
ended_space [] = omega arith
ended_space (line ∷ run) =
    omega (arith, ended_space run, sum_by-cons (λ (l : List ℕ). length l + 5) line run, length-append (line ++ 0 ∷ []) (ended_of run), length-append line (0 ∷ []))

ended_nothing : (run : List (List ℕ)) → length (ended_of run) ≡ 0 → space_of run ≡ 0
ended_nothing [] none = refl
ended_nothing (line ∷ run) none = absurd (omega (arith, none, length-append (line ++ 0 ∷ []) (ended_of run), length-append line (0 ∷ [])))

some_zero : (byte : ℕ) → byte ≢ 10 → exchanged_byte byte ≢ 0
some_zero byte other = grind (arith, nat_tests)

no_zero : (line : List ℕ) → AllByRecursion (λ byte. byte ≢ 10) line → AllByRecursion (λ byte. byte ≢ 0) (map exchanged_byte line)
no_zero [] all = tt
no_zero (byte ∷ line) all = (some_zero byte all.0, no_zero line all.1)

take_over : (line after : List ℕ) (n : ℕ) → length line < n → (rest : List ℕ) × (take n (line ++ 10 ∷ after) ≡ line ++ 10 ∷ rest)
take_over line after zero less = absurd (omega arith)
take_over [] after (suc n) less = (take n after, refl)
take_over (byte ∷ line) after (suc n) less = let more = take_over line after n (omega arith) in (more.0, ap (λ xs. byte ∷ xs) more.1)

rest_of_page : (bytes : List ℕ) (count taken : ℕ) → taken ≤ count → drop taken (map exchanged_byte (take count bytes)) ≡ map exchanged_byte (take (count - taken) (drop taken bytes))
rest_of_page bytes count taken le =
    let all : count ≡ taken + (count - taken) = omega (arith, le) in
    drop-map exchanged_byte taken (take count bytes) ∙ ap (λ n. map exchanged_byte (drop taken (take n bytes))) all
    ∙ ap (λ xs. map exchanged_byte xs) (drop-take taken (count - taken) bytes)

module _ (bytes stored : List ℕ) (count taken : ℕ) (run : List (List ℕ)) (within : count ≤ length bytes) (page : count < length bytes → count ≡ 4096) (is : stored ≡ map exchanged_byte (take count bytes))
    (first : IsFirstRun stored run taken) where
  long : length stored ≡ count
  long = ap length is ∙ length-map (take count bytes) exchanged_byte ∙ length-take-le count bytes within

  few : taken ≤ count
  few = omega (arith, first.within, long)

  space : taken ≤ space_of run
  space = omega (arith, ended_space run, ap length first.lines_end, length-take-le taken stored (omega (arith, few, long)))

  module _ (line after : List ℕ) (of_line : IsLine line) (cut : drop taken bytes ≡ line ++ 10 ∷ after) where
    size : length bytes ≡ taken + (length line + suc (length after))
    size = omega (arith, ap length cut, length-drop taken bytes, length-append line (10 ∷ after), few, within)

    -- the line ends in the page
    ends_within : taken + length line < count → 4072 < space_of run + (length line + 5)
    ends_within less =
        let left : ℕ = count - taken in
        let over = take_over line after left (omega (arith, few)) in
        let rest : drop taken stored ≡ map exchanged_byte line ++ 0 ∷ map exchanged_byte over.0 =
        ap (λ xs. drop taken xs) is ∙ rest_of_page bytes count taken few ∙ ap (λ xs. map exchanged_byte (take left xs)) cut
        ∙ ap (λ xs. map exchanged_byte xs) over.1 ∙ map-append exchanged_byte line (10 ∷ over.0) in
        omega (
          arith,
          length-map line exchanged_byte,
          first.full (map exchanged_byte line) (map exchanged_byte over.0) rest
              (All-from_recursion (λ byte. byte ≢ 0) (map exchanged_byte line) (no_zero line (recursion_from_All (λ byte. byte ≢ 10) line of_line))),
        )

    pub no_room : 4072 < space_of run + (length line + 5)
    no_room = elim (cases_lt (taken + length line) count) [
      | inl less ↦ ends_within less
      | inr more ↦ omega (arith, more, size, page, within, space)
    ]

  full_lines : (rest : List ℕ) (lines : List (List ℕ)) → lines_of rest ≡ lines → rest ≡ drop taken bytes → IsWhole rest → IsFullBefore run (map stored_line lines)
  full_lines rest [] is cut whole = tt
  full_lines rest (line ∷ lines) is cut whole =
      omega (arith, length-map line stored_byte, no_room line (file_of lines) (first_line rest line lines is) (sym cut ∙ first_ended rest line lines is whole))

  -- the lines of the page are full before the line that comes after them
  pub full_front : (rest : List ℕ) → rest ≡ drop taken bytes → IsWhole rest → IsFullBefore run (stored_lines rest)
  full_front rest cut whole = full_lines rest (lines_of rest) refl cut whole

  -- the first line of whole bytes, for which the page had no room
  pub wide_first : taken ≡ 0 → IsWhole bytes → (line : List ℕ) (lines : List (List ℕ)) → lines_of bytes ≡ line ∷ lines → 4072 < length line + 5
  wide_first none whole line lines all =
      let empty : space_of run ≡ 0 = ended_nothing run (omega (arith, ap length first.lines_end, length-take-le taken stored (omega (arith, few, long)), none)) in
      let front : drop taken bytes ≡ bytes = ap (λ n. drop n bytes) none in
      omega (arith, empty, no_room line (file_of lines) (first_line bytes line lines all) (front ∙ first_ended bytes line lines all whole))

  wide_line : (put : List (List ℕ)) (rest : List ℕ) (line : List (List ℕ)) → taken ≡ 0 → IsWhole bytes → lines_of bytes ≡ put ++ lines_of rest → line ≡ map stored_line put → length line ≡ 1 → 4072 < space_of line
  wide_line [] rest line none whole all put one = absurd (omega (arith, ap length put, one))
  wide_line (x ∷ y ∷ put) rest line none whole all put_is one = absurd (omega (arith, ap length put_is, one))
  wide_line (x ∷ []) rest line none whole all put one = omega (arith, ap space_of put, sum_by-cons (λ (l : List ℕ). length l + 5) (stored_line x) [], length-map x stored_byte, wide_first none whole x (lines_of rest) all)

  -- a line for which the page had no room
  pub full_line : (put : List (List ℕ)) (rest : List ℕ) (line after : List (List ℕ)) → taken ≡ 0 → IsWhole bytes → lines_of bytes ≡ put ++ lines_of rest → line ≡ map stored_line put → length line ≡ 1 → IsFullBefore line after
  full_line put rest line [] none whole all put_is one = tt
  full_line put rest line (next ∷ after) none whole all put_is one = omega (arith, wide_line put rest line none whole all put_is one)

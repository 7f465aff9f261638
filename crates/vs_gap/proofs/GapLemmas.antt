-- A list before a gap, and one after it.
use Rattle.std.proofs.Common.{◌≡◌, ◌∙◌, ℕ, ◌+◌, ◌-◌, ◌<◌, ◌≤◌, List, [], ◌∷◌, ◌++◌, length, get_or, min, take, drop, ap, sym, subst, arith, refl, append_assoc, length-append, length-drop, Result, Ok, Err, OnErr}
use Rattle.std.proofs.Math.Seq.{drop-append-add, take-add}
use Rattle.std.proofs.lemmas.List.{append-nil, drop-append-le, drop_at, get_or-append-add, get_or_append_left, get_or_read_under, take-append-le, take_at}
use Rattle.std.proofs.lemmas.List.Elements.{All-push}
use Rattle.vs_text.specs.Text.{IsLine, IsText, bytes_of, file_of}
use Rattle.vs_text.proofs.FileForm.{bytes_of-append}
use Rattle.vs_edit.specs.Splices.{splice, cut_out}
use Rattle.vs_edit.proofs.FileForm.{cut_out-more, file_of-more}
use Rattle.vs_edit.proofs.SpliceLemmas.{splice_mid}

-- what holds anyway holds after an error
pub on_err : {T E A : Type 0} (r : Result T E) → A → OnErr r A
on_err (Ok x) a = tt
on_err (Err e) a = a

-- ---- the first line after the gap goes

module _ (lines now : List (List ℕ)) (line : List ℕ) (i : ℕ) (is : drop i lines ≡ line ∷ now) where
  pub next-bytes : bytes_of (take (i + 1) lines) ≡ bytes_of (take i lines) + (length line + 1)
  next-bytes =
      ap bytes_of (take-add i 1 lines ∙ ap (λ (xs : List (List ℕ)). take i lines ++ take 1 xs) is) ∙ bytes_of-append (take i lines) (line ∷ []) ∙ omega arith

-- ---- the gap is where the old lines begin

pub exchanged : {X : Type 0} (before after new : List X) (at old : ℕ) → length before ≡ at → (before ++ new) ++ drop old after ≡ splice (before ++ after) at old new
exchanged before after new at old is =
    let front : take at (before ++ after) ≡ before = take_at before after at is in
    let back : drop (at + old) (before ++ after) ≡ drop old after = ap (λ n. drop (n + old) (before ++ after)) (sym is) ∙ drop-append-add before after old in
    ap (λ xs. (before ++ new) ++ xs) (sym back) ∙ ap (λ xs. (xs ++ new) ++ drop (at + old) (before ++ after)) (sym front)

pub gone : {X : Type 0} (before after : List X) (at old : ℕ) → length before ≡ at → cut_out (before ++ after) at old ≡ take old after
gone before after at old is = ap (take old) (drop_at before after at is)

-- ---- one line more is copied

pub copied-more : (lines : List (List ℕ)) (at i : ℕ) (into line read put new : List ℕ) → at + i < length lines → into ≡ file_of (cut_out lines at i) → line ≡ get_or lines (at + i) [] → read ≡ line
    → put ≡ into ++ read → new ≡ put ++ 10 ∷ [] → new ≡ file_of (cut_out lines at (i + 1))
copied-more lines at i into line read put new within before is same one two =
    two ∙ ap (λ (l : List ℕ). l ++ 10 ∷ []) (one ∙ ap (λ (l : List ℕ). into ++ l) (same ∙ is) ∙ ap (λ (l : List ℕ). l ++ get_or lines (at + i) []) before)
    ∙ file_of-more (cut_out lines at i) (get_or lines (at + i) []) ∙ ap file_of (cut_out-more lines at i within)

pub text-more : (lines : List (List ℕ)) (at i : ℕ) (line : List ℕ) → at + i < length lines → IsText (cut_out lines at i) → line ≡ get_or lines (at + i) [] → IsLine line
    → IsText (cut_out lines at (i + 1))
text-more lines at i line within before is is_line =
    subst IsText (cut_out-more lines at i within) (All-push IsLine (cut_out lines at i) (get_or lines (at + i) []) before (subst IsLine is is_line))

-- ---- a change that lies in the first of two lists, or in the second

pub splice-first : {X : Type 0} (a b new : List X) (at old : ℕ) → at + old ≤ length a → splice a at old new ++ b ≡ splice (a ++ b) at old new
splice-first a b new at old within = sym (splice_mid [] a b new at at old (omega arith) within)

pub splice-last : {X : Type 0} (a b new : List X) (at past old : ℕ) → at ≡ length a + past → past + old ≤ length b → a ++ splice b past old new ≡ splice (a ++ b) at old new
splice-last a b new at past old is within =
    sym (ap (λ xs. splice (a ++ xs) at old new) (sym (append-nil b)) ∙ splice_mid a b [] new at past old is within ∙ ap (λ xs. a ++ xs) (append-nil (splice b past old new)))

pub cut-first : {X : Type 0} (a b : List X) (at old : ℕ) → at + old ≤ length a → cut_out (a ++ b) at old ≡ cut_out a at old
cut-first a b at old within =
    ap (take old) (drop-append-le at a b (omega (arith, within))) ∙ take-append-le old (drop at a) b (omega (arith, within, length-drop at a))

pub cut-last : {X : Type 0} (a b : List X) (at past old : ℕ) → at ≡ length a + past → cut_out (a ++ b) at old ≡ cut_out b past old
cut-last a b at past old is = ap (λ k. cut_out (a ++ b) k old) is ∙ ap (take old) (drop-append-add a b past)

-- ---- a line of three lists that stand one after the other

module _ {X : Type 0} (a b c : List X) (x d : X) where
  pub in-first : (at : ℕ) → x ≡ get_or a at x → at < length a → x ≡ get_or (a ++ b ++ c) at d
  in-first at is below =
      get_or_read_under a at (length a) x d is below refl
      ∙ sym (get_or_append_left (a ++ b) c d at (omega (arith, below, length-append a b)) ∙ get_or_append_left a b d at below)

  pub in-second : (at past : ℕ) → at ≡ length a + past → x ≡ get_or b past x → past < length b → x ≡ get_or (a ++ b ++ c) at d
  in-second at past there is below =
      get_or_read_under b past (length b) x d is below refl
      ∙ sym (ap (λ i. get_or (a ++ b ++ c) i d) there ∙ get_or_append_left (a ++ b) c d (length a + past) (omega (arith, below, length-append a b)) ∙ get_or-append-add a b past d)

  pub in-third : (at past : ℕ) → at ≡ length a + length b + past → x ≡ get_or c past x → past < length c → x ≡ get_or (a ++ b ++ c) at d
  in-third at past there is below =
      let after : at ≡ length (a ++ b) + past = omega (arith, there, length-append a b) in
      get_or_read_under c past (length c) x d is below refl ∙ sym (ap (λ i. get_or (a ++ b ++ c) i d) after ∙ get_or-append-add (a ++ b) c past d)

-- ---- the first gap goes up to a change after it

module _ {X : Type 0} (first middle last front rest : List X) where
  pub whole : front ++ rest ≡ first ++ middle → front ++ (rest ++ last) ≡ first ++ middle ++ last
  whole same = sym (append_assoc front rest last) ∙ ap (λ xs. xs ++ last) same

  pub last-within : (at old : ℕ) → front ++ rest ≡ first ++ middle → length front ≡ min at (length first) → at + old ≤ length (first ++ middle ++ last)
      → at - length front + old ≤ length rest + length last
  last-within at old same left within =
      omega (
        arith,
        left,
        within,
        ap (λ (xs : List X). length xs) same,
        length-append front rest,
        length-append first middle,
        length-append (first ++ middle) last,
      )

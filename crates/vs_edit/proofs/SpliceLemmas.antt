-- A splice keeps what stands before and after its place, so its length, its bytes and the way back follow from the parts.
use Rattle.std.proofs.Common.{◌≡◌, ℕ, ◌+◌, ◌≤◌, List, [], ◌++◌, length, take, drop, map, sym, ap, ◌∙◌, arith, add-zero, All, length-append, append_assoc, append-nil}
use Rattle.std.proofs.Math.Seq.{take-append-add, drop-append-add}
use Rattle.std.proofs.lemmas.List.{length-take, length-drop, take_at, drop_at, take-append-le, drop-append-le, take-append-drop, drop-drop, drop_all, map-append, take-map, drop-map}
use Rattle.std.proofs.lemmas.List.Elements.{All-append, All-take, All-drop}
use Rattle.vs_text.specs.Text.{bytes_of}
use Rattle.vs_text.proofs.FileForm.{bytes_of-append}
use Rattle.vs_edit.specs.Splices.{splice, cut_out}

module _ {X : Type 0} (xs : List X) (top old : ℕ) (within : top + old ≤ length xs) where
  pub length-cut_out : length (cut_out xs top old) ≡ old
  length-cut_out = simp (length-take, length-drop) (omega arith)

  pub length-splice : (new : List X) → length (splice xs top old new) + old ≡ length xs + length new
  length-splice new = simp (length-append, length-take, length-drop) (omega arith)

  -- what is taken out stands between what is kept
  pub three_parts : take top xs ++ cut_out xs top old ++ drop (top + old) xs ≡ xs
  three_parts =
      let rest : take old (drop top xs) ++ drop (top + old) xs ≡ drop top xs =
      ap (λ ys. take old (drop top xs) ++ ys) (sym (drop-drop old top xs)) ∙ take-append-drop old (drop top xs) in
      append_assoc (take top xs) (cut_out xs top old) (drop (top + old) xs) ∙ (ap (λ ys. take top xs ++ ys) rest ∙ take-append-drop top xs)

  take_top : (new : List X) → take top (splice xs top old new) ≡ take top xs
  take_top new =
      ap (take top) (append_assoc (take top xs) new (drop (top + old) xs)) ∙ take_at (take top xs) (new ++ drop (top + old) xs) top (simp length-take (omega arith))

  drop_new : (new : List X) → drop (top + length new) (splice xs top old new) ≡ drop (top + old) xs
  drop_new new =
      drop_at (take top xs ++ new) (drop (top + old) xs) (top + length new) (simp (length-append, length-take) (omega arith))

  -- a splice is taken back by one that puts in what was taken out
  pub splice_back : (new : List X) → splice (splice xs top old new) top (length new) (cut_out xs top old) ≡ xs
  splice_back new =
      ap (λ ys. ys ++ cut_out xs top old ++ drop (top + length new) (splice xs top old new)) (take_top new) ∙ (ap (λ ys. take top xs ++ cut_out xs top old ++ ys) (drop_new new) ∙ three_parts)

  -- a splice after the new elements goes on with the first one
  pub splice_on : (a b : List X) (more : ℕ) → splice (splice xs top old a) (top + length a) more b ≡ splice xs top (old + more) (a ++ b)
  splice_on a b more =
      let front : take (top + length a) (splice xs top old a) ≡ take top xs ++ a =
      take_at (take top xs ++ a) (drop (top + old) xs) (top + length a) (simp (length-append, length-take) (omega arith)) in
      let back : drop (top + length a + more) (splice xs top old a) ≡ drop (top + (old + more)) xs =
      sym (drop-drop more (top + length a) (splice xs top old a)) ∙ (ap (drop more) (drop_new a) ∙ (drop-drop more (top + old) xs ∙ ap (λ k. drop k xs) (omega arith))) in
      ap (λ ys. ys ++ b ++ drop (top + length a + more) (splice xs top old a)) front ∙ (ap (λ ys. take top xs ++ a ++ b ++ ys) back ∙ ap (λ ys. ys ++ drop (top + (old + more)) xs) (append_assoc (take top xs) a b))

  pub All-splice : (P : X → Type 0) (new : List X) → All P xs → All P new → All P (splice xs top old new)
  All-splice P new old_all new_all =
      All-append P (take top xs ++ new) (drop (top + old) xs) (All-append P (take top xs) new (All-take P top xs old_all) new_all) (All-drop P (top + old) xs old_all)

-- a splice that takes out all
pub splice_all : {X : Type 0} (xs new : List X) → splice xs 0 (length xs) new ≡ new
splice_all xs new =
    ap (λ ys. new ++ ys) (drop_all (0 + length xs) xs (omega arith)) ∙ append-nil new

-- a splice that changes nothing
pub splice_none : {X : Type 0} (xs : List X) (top : ℕ) → splice xs top 0 [] ≡ xs
splice_none xs top =
    ap (λ k. take top xs ++ [] ++ drop k xs) (add-zero top) ∙ (ap (λ ys. ys ++ drop top xs) (append-nil (take top xs)) ∙ take-append-drop top xs)

-- a splice of a list that stands within another
pub splice_mid : {X : Type 0} (a b c new : List X) (at i old : ℕ) → at ≡ length a + i → i + old ≤ length b
    → splice (a ++ (b ++ c)) at old new ≡ a ++ (splice b i old new ++ c)
splice_mid {X = X} a b c new at i old is within =
    let front : take at (a ++ (b ++ c)) ≡ a ++ take i b =
    ap (λ k. take k (a ++ (b ++ c))) is ∙ (take-append-add a (b ++ c) i ∙ ap (λ ys. a ++ ys) (take-append-le i b c (omega arith))) in
    let past : at + old ≡ length a + (i + old) = omega arith in
    let back : drop (at + old) (a ++ (b ++ c)) ≡ drop (i + old) b ++ c =
    ap (λ k. drop k (a ++ (b ++ c))) past ∙ (drop-append-add a (b ++ c) (i + old) ∙ drop-append-le (i + old) b c within) in
    rw (front, back) (simp append_assoc)

pub map-splice : {X Y : Type 0} (f : X → Y) (xs new : List X) (top old : ℕ) → map f (splice xs top old new) ≡ splice (map f xs) top old (map f new)
map-splice f xs new top old =
    simp (map-append, take-map, drop-map)

-- the bytes of a spliced text
pub bytes_of-splice : (text new : List (List ℕ)) (top old : ℕ) → top + old ≤ length text
    → bytes_of (splice text top old new) + bytes_of (cut_out text top old) ≡ bytes_of text + bytes_of new
bytes_of-splice text new top old within =
    let front = take top text in
    let back = drop (top + old) text in
    let gone = cut_out text top old in
    let whole : bytes_of text ≡ bytes_of (front ++ gone) + bytes_of back =
    ap bytes_of (sym (three_parts text top old within)) ∙ bytes_of-append (front ++ gone) back in
    omega (arith, whole, bytes_of-append front gone, bytes_of-append (front ++ new) back, bytes_of-append front new)

-- what is taken out has no more bytes than the whole
pub bytes_of-cut_out : (text : List (List ℕ)) (top old : ℕ) → top + old ≤ length text → bytes_of (cut_out text top old) ≤ bytes_of text
bytes_of-cut_out text top old within =
    let front = take top text in
    let back = drop (top + old) text in
    let gone = cut_out text top old in
    omega (arith, ap bytes_of (three_parts text top old within), bytes_of-append front gone, bytes_of-append (front ++ gone) back)

-- a spliced text has no more bytes than the text and the new lines together
pub bytes_of-splice_le : (text new : List (List ℕ)) (top old : ℕ) → top + old ≤ length text → bytes_of (splice text top old new) ≤ bytes_of text + bytes_of new
bytes_of-splice_le text new top old within = omega (arith, bytes_of-splice text new top old within)

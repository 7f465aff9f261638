-- A list cut into chunks of one width: an edit of whole chunks edits the list of chunks. Each law cuts both where the edit stands.
use Rattle.std.proofs.Common.{◌≡◌, ℕ, zero, suc, ◌+◌, ◌*◌, ◌<◌, List, [], ◌∷◌, ◌++◌, length, take, drop, set, refl, sym, ap, ◌∙◌, arith}
use Rattle.std.proofs.lemmas.List.{take_at, drop_at, set_at, get_or_at, drop-drop, drop-take, take-take}
use Rattle.std.specs.Prelude.{insert, remove, slice_get, Some}
use Rattle.std.proofs.lemmas.Option.{slice_get-get_or}
use Rattle.std.specs.Simd.{first_chunks}

-- there are as many chunks as were asked for
pub length-first_chunks : {X : Type 0} (w n : ℕ) (xs : List X) → length (first_chunks w n xs) ≡ n
length-first_chunks w zero xs = refl
length-first_chunks w (suc n) xs = ap (λ (k : ℕ). suc k) (length-first_chunks w n (drop w xs))

-- some chunks, and then more
pub first_chunks-add : {X : Type 0} (w m n : ℕ) (xs : List X) → first_chunks w (m + n) xs ≡ first_chunks w m xs ++ first_chunks w n (drop (w * m) xs)
first_chunks-add w zero n xs =
    let e : 0 + n ≡ n = omega arith in
    let z : w * 0 ≡ 0 = omega arith in
    rw (e, z) refl
first_chunks-add w (suc m) n xs =
    let e : suc m + n ≡ suc (m + n) = omega arith in
    let z : w * suc m ≡ w + w * m = omega arith in
    rw (e, z) (ap (λ t. take w xs ∷ t) (first_chunks-add w m n (drop w xs) ∙ rw drop-drop refl))

-- the chunks are in the front of the list
pub first_chunks_same : {X : Type 0} (w n : ℕ) (xs ys : List X) → take (w * n) xs ≡ take (w * n) ys → first_chunks w n xs ≡ first_chunks w n ys
first_chunks_same w zero xs ys same = refl
first_chunks_same {X} w (suc n) xs ys same =
    let z : w * suc n ≡ w + w * n = omega arith in
    let whole : take (w + w * n) xs ≡ take (w + w * n) ys = rw z at same in
    let first : take w xs ≡ take w ys = sym (take-take w (w + w * n) xs (omega arith)) ∙ ap (take w) whole ∙ take-take w (w + w * n) ys (omega arith) in
    let rest : take (w * n) (drop w xs) ≡ take (w * n) (drop w ys) = sym (drop-take w (w * n) xs) ∙ ap (drop w) whole ∙ drop-take w (w * n) ys in
    ap (λ t. t ∷ first_chunks w n (drop w xs)) first ∙ ap (λ t. take w ys ∷ t) (first_chunks_same w n (drop w xs) (drop w ys) rest)

-- the chunks before a place, and those from it on
pub take-first_chunks : {X : Type 0} (w m n : ℕ) (xs : List X) → take m (first_chunks w (m + n) xs) ≡ first_chunks w m xs
take-first_chunks w m n xs =
    rw (first_chunks-add w m n xs) (take_at (first_chunks w m xs) (first_chunks w n (drop (w * m) xs)) m (length-first_chunks w m xs))

pub drop-first_chunks : {X : Type 0} (w m n : ℕ) (xs : List X) → drop m (first_chunks w (m + n) xs) ≡ first_chunks w n (drop (w * m) xs)
drop-first_chunks w m n xs =
    rw (first_chunks-add w m n xs) (drop_at (first_chunks w m xs) (first_chunks w n (drop (w * m) xs)) m (length-first_chunks w m xs))

-- a chunk in the middle, and the chunks round it
first_chunks-middle : {X : Type 0} (w m n : ℕ) (xs : List X)
    → first_chunks w (m + suc n) xs ≡ first_chunks w m xs ++ take w (drop (w * m) xs) ∷ first_chunks w n (drop (w * suc m) xs)
first_chunks-middle w m n xs =
    let z : w * m + w ≡ w * suc m = omega arith in
    first_chunks-add w m (suc n) xs ∙ rw (drop-drop w (w * m) xs, z) refl

-- the chunk at a place
pub slice_get-first_chunks : {X : Type 0} (w m n : ℕ) (xs : List X) → slice_get (first_chunks w (m + suc n) xs) m ≡ Some (take w (drop (w * m) xs))
slice_get-first_chunks w m n xs =
    let within : m < length (first_chunks w (m + suc n) xs) = rw (length-first_chunks w (m + suc n) xs) (omega arith) in
    slice_get-get_or (first_chunks w (m + suc n) xs) m [] within
    ∙ rw (first_chunks-middle w m n xs) (ap (λ c. Some c) (get_or_at (first_chunks w m xs) _ _ [] m (length-first_chunks w m xs)))

-- the list whose chunks are the same, but for one more at a place
pub first_chunks-insert : {X : Type 0} (w m n : ℕ) (xs ys c : List X) → take (w * m) ys ≡ take (w * m) xs → take w (drop (w * m) ys) ≡ c
    → take (w * n) (drop (w * suc m) ys) ≡ take (w * n) (drop (w * m) xs)
    → first_chunks w (m + suc n) ys ≡ insert (first_chunks w (m + n) xs) m c
first_chunks-insert w m n xs ys c before here after =
    first_chunks-middle w m n ys
    ∙ rw (first_chunks_same w m ys xs before, here, first_chunks_same w n _ _ after, take-first_chunks w m n xs, drop-first_chunks w m n xs) refl

-- the list whose chunks are the same, but for the one at a place, which is gone
pub first_chunks-remove : {X : Type 0} (w m n : ℕ) (xs ys : List X) → take (w * m) ys ≡ take (w * m) xs
    → take (w * n) (drop (w * m) ys) ≡ take (w * n) (drop (w * suc m) xs)
    → first_chunks w (m + n) ys ≡ remove (first_chunks w (m + suc n) xs) m
first_chunks-remove w m n xs ys before after =
    let e : m + suc n ≡ suc m + n = omega arith in
    first_chunks-add w m n ys
    ∙ rw (first_chunks_same w m ys xs before, first_chunks_same w n _ _ after, take-first_chunks w m (suc n) xs, e, drop-first_chunks w (suc m) n xs) refl

-- the list whose chunks are the same, but for another at a place
pub first_chunks-set : {X : Type 0} (w m n : ℕ) (xs ys c : List X) → take (w * m) ys ≡ take (w * m) xs → take w (drop (w * m) ys) ≡ c
    → take (w * n) (drop (w * suc m) ys) ≡ take (w * n) (drop (w * suc m) xs)
    → first_chunks w (m + suc n) ys ≡ set (first_chunks w (m + suc n) xs) m c
first_chunks-set w m n xs ys c before here after =
    first_chunks-middle w m n ys
    ∙ rw (first_chunks_same w m ys xs before, here, first_chunks_same w n _ _ after, first_chunks-middle w m n xs)
    (sym (set_at (first_chunks w m xs) _ _ c m (length-first_chunks w m xs)))

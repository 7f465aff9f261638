-- Lists that are made line by line, where the lines of one are those of another but for some: the same at each place.
use Rattle.std.proofs.Common.{◌≡◌, ℕ, suc, ◌+◌, ◌-◌, ◌<◌, ◌≤◌, List, ◌++◌, length, get_or, take, drop, map, sym, ap, ◌∙◌, subst, ⊎_elim, arith, add-one, length-append, length-drop}
use Rattle.std.specs.List.{insert, range_with_len, remove}
use Rattle.std.proofs.lemmas.Bool.{cases_lt}
use Rattle.std.proofs.lemmas.List.{get_or_append_left, get_or-append_right, get_or-drop, get_or-take, length-take-le, same_lists}
use Rattle.std.proofs.lemmas.List.Edits.{get_or-insert_above, get_or-insert_at, get_or-insert_below, get_or-remove_above, get_or-remove_below, length-insert, length-remove}
use Rattle.std.proofs.lemmas.List.FromFn.{get_or-map-range_with_len, length-map-range_with_len, take-map-range_with_len}
use Rattle.vs_data.specs.Blocks.{put_in}

module _ {X : Type 0} (f g : ℕ → X) (n : ℕ) where
  at_old : (k : ℕ) (d : X) → k < n → f k ≡ get_or (map f (range_with_len 0 n)) k d
  at_old k d within = sym (get_or-map-range_with_len f 0 n k k d within (omega arith))

  at_new : (m k : ℕ) (d : X) → k < m → get_or (map g (range_with_len 0 m)) k d ≡ g k
  at_new m k d within = get_or-map-range_with_len g 0 m k k d within (omega arith)

  -- one line more
  pub map-insert : (at : ℕ) (x : X) → at ≤ n → ((k : ℕ) → k < at → g k ≡ f k) → g at ≡ x → ((k : ℕ) → at ≤ k → k < n → g (suc k) ≡ f k)
      → map g (range_with_len 0 (n + 1)) ≡ insert (map f (range_with_len 0 n)) at x
  map-insert at x within before here after =
      let old : List X = map f (range_with_len 0 n) in
      let wide : length old ≡ n = length-map-range_with_len f 0 n in
      let longer : length (insert old at x) ≡ length old + 1 = length-insert old at x (omega arith) in
      let many : length (map g (range_with_len 0 (n + 1))) ≡ n + 1 = length-map-range_with_len g 0 (n + 1) in
      let low : (k : ℕ) (d : X) → k < at → g k ≡ get_or (insert old at x) k d =
      λ k d below. before k below ∙ at_old k d (omega arith) ∙ sym (get_or-insert_below old at x d k below (omega arith)) in
      let high : (k : ℕ) (d : X) → at ≤ k → k < n → g (k + 1) ≡ get_or (insert old at x) (k + 1) d =
      λ k d above until. ap g (add-one k) ∙ after k above until ∙ at_old k d until ∙ sym (get_or-insert_above old at x d k above (omega arith)) in
      let each : (k : ℕ) (d : X) → k < n + 1 → g k ≡ get_or (insert old at x) k d =
      λ k d until. ⊎_elim (λ (below : k < at). low k d below)
      (λ (above : at ≤ k). ⊎_elim
      (λ (past : at < k). let is : k ≡ k - 1 + 1 = omega arith in subst (λ (i : ℕ). g i ≡ get_or (insert old at x) i d) (sym is) (high (k - 1) d (omega arith) (omega arith)))
      (λ (same : k ≤ at). let is : k ≡ at = omega arith in rw is (here ∙ sym (get_or-insert_at old at x d (omega arith))))
      (cases_lt at k))
      (cases_lt k at) in
      same_lists (map g (range_with_len 0 (n + 1))) (insert old at x) (omega arith) (λ k d until. at_new (n + 1) k d (omega arith) ∙ each k d (omega arith))

  -- the lines of another list in between
  pub map-put_in : (h : ℕ → X) (at m : ℕ) → at ≤ n → ((k : ℕ) → k < at → g k ≡ f k) → ((j : ℕ) → j < m → g (at + j) ≡ h j) → ((k : ℕ) → at ≤ k → k < n → g (m + k) ≡ f k)
      → map g (range_with_len 0 (n + m)) ≡ put_in (map f (range_with_len 0 n)) at (map h (range_with_len 0 m))
  map-put_in h at m within before here after =
      let old : List X = map f (range_with_len 0 n) in
      let more : List X = map h (range_with_len 0 m) in
      let front : List X = take at old in
      let back : List X = drop at old in
      let wide : length old ≡ n = length-map-range_with_len f 0 n in
      let size : length more ≡ m = length-map-range_with_len h 0 m in
      let cut : length front ≡ at = length-take-le at old (omega arith) in
      let rest : length back ≡ n - at = omega (arith, length-drop at old) in
      let inner : length (more ++ back) ≡ m + (n - at) = omega (arith, length-append more back) in
      let longer : length (put_in old at more) ≡ n + m = omega (arith, length-append front (more ++ back)) in
      let many : length (map g (range_with_len 0 (n + m))) ≡ n + m = length-map-range_with_len g 0 (n + m) in
      let each : (k : ℕ) (d : X) → k < n + m → g k ≡ get_or (put_in old at more) k d =
      λ k d until. ⊎_elim
      (λ (below : k < at). before k below ∙ at_old k d (omega arith) ∙ sym (get_or_append_left front (more ++ back) d k (omega arith) ∙ get_or-take at old k d below))
      (λ (above : at ≤ k). ⊎_elim
      (λ (mid : k < at + m). let is : k ≡ at + (k - at) = omega arith in
      ap g is ∙ here (k - at) (omega arith)
      ∙ sym (get_or-append_right front (more ++ back) at k d cut above ∙ get_or_append_left more back d (k - at) (omega arith) ∙ get_or-map-range_with_len h 0 m (k - at) (k - at) d (omega arith) (omega arith)))
      (λ (past : at + m ≤ k).
      let is : k ≡ m + (k - m) = omega arith in
      let place : at + (k - at - m) ≡ k - m = omega arith in
      ap g is ∙ after (k - m) (omega arith) (omega arith) ∙ at_old (k - m) d (omega arith)
      ∙ sym (get_or-append_right front (more ++ back) at k d cut above ∙ get_or-append_right more back m (k - at) d size (omega arith) ∙ get_or-drop at old (k - at - m) d ∙ ap (λ (i : ℕ). get_or old i d) place))
      (cases_lt k (at + m)))
      (cases_lt k at) in
      same_lists (map g (range_with_len 0 (n + m))) (put_in old at more) (omega arith) (λ k d until. at_new (n + m) k d (omega arith) ∙ each k d (omega arith))

  -- one line less
  pub map-remove : (at : ℕ) → at < n → ((k : ℕ) → k < at → g k ≡ f k) → ((k : ℕ) → at ≤ k → suc k < n → g k ≡ f (suc k))
      → map g (range_with_len 0 (n - 1)) ≡ remove (map f (range_with_len 0 n)) at
  map-remove at within before after =
      let old : List X = map f (range_with_len 0 n) in
      let wide : length old ≡ n = length-map-range_with_len f 0 n in
      let shorter : length (remove old at) + 1 ≡ length old = length-remove old at (omega arith) in
      let many : length (map g (range_with_len 0 (n - 1))) ≡ n - 1 = length-map-range_with_len g 0 (n - 1) in
      let each : (k : ℕ) (d : X) → k < n - 1 → g k ≡ get_or (remove old at) k d =
      λ k d until. ⊎_elim
      (λ (below : k < at). before k below ∙ at_old k d (omega arith) ∙ sym (get_or-remove_below old at d k below (omega arith)))
      (λ (above : at ≤ k). after k above (omega arith) ∙ ap f (sym (add-one k)) ∙ at_old (k + 1) d (omega arith) ∙ sym (get_or-remove_above old at d k above (omega arith)))
      (cases_lt k at) in
      same_lists (map g (range_with_len 0 (n - 1))) (remove old at) (omega arith) (λ k d until. at_new (n - 1) k d (omega arith) ∙ each k d (omega arith))

  -- the first lines
  pub map-take : (m : ℕ) → m ≤ n → ((k : ℕ) → k < m → g k ≡ f k) → map g (range_with_len 0 m) ≡ take m (map f (range_with_len 0 n))
  map-take m within same =
      same_lists (map g (range_with_len 0 m)) (map f (range_with_len 0 m))
      (length-map-range_with_len g 0 m ∙ sym (length-map-range_with_len f 0 m))
      (λ k d until. let many : length (map g (range_with_len 0 m)) ≡ m = length-map-range_with_len g 0 m in
      at_new m k d (omega arith) ∙ same k (omega arith) ∙ sym (get_or-map-range_with_len f 0 m k k d (omega arith) (omega arith)))
      ∙ sym (take-map-range_with_len f 0 n m within)

  -- the lines after them
  pub map-drop : (m : ℕ) → m ≤ n → ((k : ℕ) → m + k < n → g k ≡ f (m + k)) → map g (range_with_len 0 (n - m)) ≡ drop m (map f (range_with_len 0 n))
  map-drop m within same =
      let old : List X = map f (range_with_len 0 n) in
      let wide : length old ≡ n = length-map-range_with_len f 0 n in
      let many : length (map g (range_with_len 0 (n - m))) ≡ n - m = length-map-range_with_len g 0 (n - m) in
      same_lists (map g (range_with_len 0 (n - m))) (drop m old)
      (omega (arith, length-drop m old))
      (λ k d until. at_new (n - m) k d (omega arith) ∙ same k (omega arith) ∙ at_old (m + k) d (omega arith) ∙ sym (get_or-drop m old k d))

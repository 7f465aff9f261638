-- What evening out two neighbouring pointer blocks leaves in their place, in each of its two cases.
use Rattle.std.proofs.Common.{◌≡◌, ℕ, suc, ◌+◌, ◌/◌, ◌<◌, ◌≤◌, Bool, true, false, nat_le, if◌then◌else◌, List, [], ◌∷◌, ◌++◌, length, take, drop, map, Option, Some, IsSome, is_some, refl, sym, ap, subst, ◌∙◌, arith, length-take, length-drop}
use Rattle.std.proofs.lemmas.Bool.Decides.{nat_tests}
use Rattle.std.proofs.lemmas.List.{length-map}
use Rattle.std.specs.List.{flat_map}
use Rattle.vs_pages.specs.Maps.{Map, joined, one, pages_at, put_pages, span, without}
use Rattle.vs_pages.proofs.MapsLemmas.{one-other, put_pages-other}
use Rattle.vs_tree_shape.specs.declared.entries.Entry.{Entry}
use Rattle.vs_tree_shape.specs.Trees.{Tree, entry_of, lines_of}
use Rattle.vs_tree_shape.specs.Changes.{Replaces, Stored, pointer_entry}
use Rattle.vs_tree_shape.specs.Places.{lines_below}
use Rattle.vs_tree_shape.specs.Keeps.{Neighbours, both_uses}
use Rattle.vs_tree_shape.proofs.Writes.{entry_lines, map_take, map_drop, one_span, stored}
use Rattle.vs_tree_shape.proofs.Joins.{joined_two, shared_two}
use Rattle.vs_tree_blocks.specs.Blocks.{points_in, tree_format}
use Rattle.vs_tree_blocks.specs.Cuts.{half_of}
use Rattle.vs_merge.specs.Evens.{StandsForTwo, evened}

-- a page beside one that was written is still there
pub there_still : (m n : Map) (at other : ℕ) (bytes : List ℕ) → (at ≡ other → ⊥) → n ≡ put_pages m at 1 bytes → IsSome (pages_at m other 1) → IsSome (pages_at n other 1)
there_still m n at other bytes apart is there =
    let out : span at 1 other ≡ 0 = one_span at other ∙ one-other at other (λ e. apart (sym e)) in
    let same : n other ≡ m other = ap (λ (f : Map). f other) is ∙ put_pages-other m at 1 bytes other out in
    ap (λ (o : Option (List ℕ)). is_some (joined o (Some []))) same ∙ there

-- the bytes of a block are those that were borrowed
pub stored_bytes : (m n : Map) (at : ℕ) (bytes lent : List ℕ) → n ≡ put_pages m at 1 lent → lent ≡ bytes → length bytes ≡ 4096 → Stored m n at 1 bytes
stored_bytes m n at bytes lent is same size = stored m n at 1 bytes (is ∙ ap (λ (b : List ℕ). put_pages m at 1 b) same) (size ∙ refl)

pub evened_joined : (e one two : ℕ) (ks : List (Tree e)) → length ks ≤ 127 → evened e one two ks ≡ (one, ks) ∷ []
evened_joined e one two ks few =
    let yes : nat_le (length ks) 127 ≡ true = grind (arith, nat_tests) in
    let two_halves : List (Tree (suc e)) = (one, take (half_of (length ks)) ks) ∷ (two, drop (half_of (length ks)) ks) ∷ [] in
    let alone : List (Tree (suc e)) = (one, ks) ∷ [] in
    ap (λ (b : Bool). if b then alone else two_halves) yes

pub evened_shared : (e one two : ℕ) (ks : List (Tree e)) → 127 < length ks → evened e one two ks ≡ (one, take (half_of (length ks)) ks) ∷ (two, drop (half_of (length ks)) ks) ∷ []
evened_shared e one two ks many =
    let no : nat_le (length ks) 127 ≡ false = grind (arith, nat_tests) in
    let two_halves : List (Tree (suc e)) = (one, take (half_of (length ks)) ks) ∷ (two, drop (half_of (length ks)) ks) ∷ [] in
    let alone : List (Tree (suc e)) = (one, ks) ∷ [] in
    ap (λ (b : Bool). if b then alone else two_halves) no

counted : (e : ℕ) (ks : List (Tree e)) (es : List Entry) → es ≡ map (λ u. entry_of e u) ks → length es ≡ length ks
counted e ks es is = ap length is ∙ length-map ks (λ u. entry_of e u)

pub joined_stands : (m n1 n2 : Map) (e one two : ℕ) (ka kb : List (Tree e)) (es above : List Entry) (bytes : List ℕ) → Neighbours tree_format m e one two ka kb → es ≡ map (λ u. entry_of e u) (ka ++ kb)
    → Stored m n1 one 1 bytes → points_in bytes ≡ Some es → n2 ≡ without n1 two 1 → length es ≤ 127 → above ≡ pointer_entry one (lines_below es) ∷ [] → StandsForTwo m n2 e one two ka kb above
joined_stands m n1 n2 e one two ka kb es above bytes both es_are s reads is few above_is =
    let ks : List (Tree e) = ka ++ kb in
    let now : evened e one two ks ≡ (one, ks) ∷ [] = evened_joined e one two ks (omega (arith, few, counted e ks es es_are)) in
    record {
      replaces = subst (λ us. Replaces tree_format m n2 (both_uses e one two ka kb) (suc e) us) (sym now) (joined_two tree_format m n1 n2 e one two ka kb es bytes both es_are s reads is);
      entries_are = above_is ∙ ap (λ (i : ℕ). pointer_entry one i ∷ []) (entry_lines e ks es es_are) ∙ ap (λ us. map (λ u. entry_of (suc e) u) us) (sym now);
    }

pub shared_stands : (m n1 n2 : Map) (e one two : ℕ) (ka kb : List (Tree e)) (es es1 es2 above : List Entry) (first second : List ℕ) → Neighbours tree_format m e one two ka kb → es ≡ map (λ u. entry_of e u) (ka ++ kb)
    → es1 ≡ take (half_of (length es)) es → es2 ≡ drop (half_of (length es)) es
    → Stored m n1 one 1 first → points_in first ≡ Some es1 → Stored n1 n2 two 1 second → points_in second ≡ Some es2 → 127 < length es
    → above ≡ pointer_entry one (lines_below es1) ∷ pointer_entry two (lines_below es2) ∷ [] → StandsForTwo m n2 e one two ka kb above
shared_stands m n1 n2 e one two ka kb es es1 es2 above first second both es_are front back s reads t reads_second many above_is =
    let ks : List (Tree e) = ka ++ kb in
    let f : Tree e → Entry = λ u. entry_of e u in
    let sizes : length es ≡ length ks = counted e ks es es_are in
    let i : ℕ = half_of (length ks) in
    let at : half_of (length es) ≡ half_of (length ks) = ap half_of sizes in
    let front_is : es1 ≡ take i es = front ∙ ap (λ (k : ℕ). take k es) at in
    let back_is : es2 ≡ drop i es = back ∙ ap (λ (k : ℕ). drop k es) at in
    let front_map : es1 ≡ map f (take i ks) = front_is ∙ ap (λ xs. take i xs) es_are ∙ map_take f i ks in
    let back_map : es2 ≡ map f (drop i ks) = back_is ∙ ap (λ xs. drop i xs) es_are ∙ map_drop f i ks in
    let now : evened e one two ks ≡ (one, take i ks) ∷ (two, drop i ks) ∷ [] = evened_shared e one two ks (omega (arith, many, sizes)) in
    record {
      replaces = subst (λ us. Replaces tree_format m n2 (both_uses e one two ka kb) (suc e) us) (sym now)
          (shared_two tree_format m n1 n2 e one two i ka kb es first second both es_are s (reads ∙ ap (λ xs. Some xs) front_is) t (reads_second ∙ ap (λ xs. Some xs) back_is));
      entries_are = above_is ∙ ap (λ (j : ℕ). pointer_entry one j ∷ pointer_entry two (lines_below es2) ∷ []) (entry_lines e (take i ks) es1 front_map)
          ∙ ap (λ (j : ℕ). pointer_entry one (length (flat_map (λ u. lines_of e u) (take i ks))) ∷ pointer_entry two j ∷ []) (entry_lines e (drop i ks) es2 back_map)
          ∙ ap (λ us. map (λ u. entry_of (suc e) u) us) (sym now);
    }

-- each half of more than 127 entries has at least 63, and of at most 254 at most 127
pub halves_many : {X : Type 0} (xs : List X) → 127 < length xs → (33 ≤ length (take (half_of (length xs)) xs)) × (33 ≤ length (drop (half_of (length xs)) xs))
halves_many xs many =
    let low : 63 ≤ length xs / 2 = omega (arith, many) in
    let high : length xs / 2 + 33 ≤ length xs = omega (arith, many) in
    (simp (length-take) (grind (arith, nat_tests)), simp (length-drop) (omega arith))

-- The change with a number, its place in the list, and writes there.
use Rattle.std.proofs.Common.{◌≡◌, ℕ, suc, ◌+◌, ◌-◌, ◌<◌, ◌≤◌, ◌==◌, nat_lt, not, if◌then◌else◌, cond, Bool, true, false, List, [], ◌∷◌, ◌++◌, length, get_or, set, map, Option, Some, None, option_map, is_some, sym, ap, subst, ◌∙◌, arith, refl, append_assoc, append-nil}
use Rattle.std.specs.List.{find, position, position_or_len, slice_get}
use Rattle.std.proofs.lemmas.Bool.Decides.{nat_tests}
use Rattle.std.proofs.lemmas.List.Folds.{find_at}
use Rattle.std.proofs.lemmas.Option.{slice_get-get_or, slice_get_past}
use Rattle.vs_undo.specs.declared.parts.Node.{Node}
use Rattle.vs_undo.specs.Ways.{node_at, parent_at, start, IsWay, IsWayOf, IsKept, IsTree, Follows}
use Rattle.vs_undo.specs.History.{without_entries, changed}
use Rattle.vs_undo.proofs.ShortWays.{way_short}

-- the first place where a test passes
pub at_place : {X : Type 0} (p : X → Bool) (xs : List X) (i : ℕ) → position p xs ≡ Some i → (i < length xs) × (i ≡ position_or_len p xs)
at_place {X = X} p xs i is =
    let at = position_or_len p xs in
    elim (nat_lt at (length xs)) as (λ b. b ≡ nat_lt at (length xs) → cond b (Some at) None ≡ Some i → (i < length xs) × (i ≡ at)) [
      | true ↦ λ t e. let same : at ≡ i = cc in let within : at < length xs = grind (arith, nat_tests) in (omega arith, sym same)
      | false ↦ λ t e. absurd (cc)
    ] refl is

pub no_place : {X : Type 0} (p : X → Bool) (xs : List X) → position p xs ≡ None → find p xs ≡ None
no_place {X = X} p xs is =
    let at = position_or_len p xs in
    elim (nat_lt at (length xs)) as (λ b. b ≡ nat_lt at (length xs) → cond b (Some at) None ≡ None → find p xs ≡ None) [
      | true ↦ λ t e. absurd (cc)
      | false ↦ λ t e. let past : length xs ≤ at = grind (arith, nat_tests) in find_at p xs ∙ slice_get_past xs at past
    ] refl is

pub found_at : {X : Type 0} (p : X → Bool) (xs : List X) (i : ℕ) (d : X) → position p xs ≡ Some i → find p xs ≡ Some (get_or xs i d)
found_at p xs i d is =
    let place = at_place p xs i is in
    find_at p xs ∙ (ap (slice_get xs) (sym place.1) ∙ slice_get-get_or xs i d place.0)

-- a write at the place of a number
set_here : (number : ℕ) (f : Node → Node) (nodes : List Node) (d : Node) → position_or_len (λ (n : Node). n.number == number) nodes < length nodes
    → set nodes (position_or_len (λ (n : Node). n.number == number) nodes) (f (get_or nodes (position_or_len (λ (n : Node). n.number == number) nodes) d)) ≡ changed number f nodes
set_here number f [] d within = absurd (omega arith)
set_here number f (node ∷ nodes) d within =
    let at = position_or_len (λ (n : Node). n.number == number) nodes in
    elim (node.number == number) as (λ b. cond (not b) (1 + at) 0 < length (node ∷ nodes)
    → set (node ∷ nodes) (cond (not b) (1 + at) 0) (f (get_or (node ∷ nodes) (cond (not b) (1 + at) 0) d)) ≡ (if b then f node ∷ nodes else node ∷ changed number f nodes)) [
      | true ↦ λ w. refl
      | false ↦ λ w. let e : 1 + at ≡ suc at = omega arith in
          rw e (ap (λ ns. node ∷ ns) (set_here number f nodes d (omega arith)))
    ] within

pub set_changed : (number : ℕ) (f : Node → Node) (nodes : List Node) (i : ℕ) (d : Node) → position (λ (n : Node). n.number == number) nodes ≡ Some i
    → set nodes i (f (get_or nodes i d)) ≡ changed number f nodes
set_changed number f nodes i d is =
    let place = at_place (λ (n : Node). n.number == number) nodes i is in
    let within : position_or_len (λ (n : Node). n.number == number) nodes < length nodes = omega arith in
    ap (λ k. set nodes k (f (get_or nodes k d))) place.1 ∙ set_here number f nodes d within

-- a way goes on from a state with a change over its parent
pub way_step : (nodes : List Node) (rest : List ℕ) (at : ℕ) (node : Node) → node_at nodes 0 ≡ None → IsWay (λ k. parent_at nodes k) rest → start rest ≡ at
    → node_at nodes at ≡ Some node → (tail : List ℕ) × ((rest ≡ at ∷ tail) × (start tail ≡ node.parent))
way_step nodes [] at node root is starts here = absurd (let e : Some node ≡ None = sym here ∙ ap (node_at nodes) (sym starts) ∙ root in cc)
way_step nodes (n ∷ tail) at node root is starts here =
    let up : Some (start tail) ≡ Some node.parent = sym is.0 ∙ ap (parent_at nodes) starts ∙ ap (option_map (λ (m : Node). m.parent)) here in
    let same : start tail ≡ node.parent = cc in
    (tail, (ap (λ k. k ∷ tail) starts, same))

-- a way ends at a state without a change
pub way_end : (nodes : List Node) (rest : List ℕ) (at : ℕ) → IsWay (λ k. parent_at nodes k) rest → start rest ≡ at → node_at nodes at ≡ None → rest ≡ []
way_end nodes [] at is starts none = refl
way_end nodes (n ∷ tail) at is starts none =
    absurd (let e : Some (start tail) ≡ None = sym is.0 ∙ ap (parent_at nodes) starts ∙ ap (option_map (λ (m : Node). m.parent)) none in cc)

pub rest_is : (nodes : List Node) (way rest : List ℕ) → IsWay (λ k. parent_at nodes k) (way ++ rest) → IsWay (λ k. parent_at nodes k) rest
rest_is nodes [] rest is = is
rest_is nodes (n ∷ way) rest is = rest_is nodes way rest is.1

pub follows_start : (nodes : List Node) (number left : ℕ) → length nodes ≤ left → IsTree nodes → IsKept nodes number → Follows nodes number [] number left
follows_start nodes number left fits tree kept =
    let has = tree.ways number kept in
    record { rest = has.way; is_way = has.is.is_way; starts = has.is.starts; goes_on = has.is.starts; short = omega (arith, way_short nodes has.way tree has.is.is_way) }

pub follows_step : (nodes : List Node) (number : ℕ) (way : List ℕ) (at left : ℕ) (node : Node) → node_at nodes 0 ≡ None → node_at nodes at ≡ Some node
    → Follows nodes number way at left → Follows nodes number (way ++ at ∷ []) node.parent (left - 1)
follows_step nodes number way at left node root here f =
    let step = way_step nodes f.rest at node root (rest_is nodes way f.rest f.is_way) f.goes_on here in
    let same : way ++ f.rest ≡ (way ++ at ∷ []) ++ step.0 = ap (λ xs. way ++ xs) step.1.0 ∙ sym (append_assoc way (at ∷ []) step.0) in
    record {
      rest = step.0;
      is_way = subst (IsWay (λ k. parent_at nodes k)) same f.is_way;
      starts = sym (ap start same) ∙ f.starts;
      goes_on = step.1.1;
      short = omega (arith, ap length step.1.0, f.short);
    }

ended : (nodes : List Node) (number : ℕ) (way : List ℕ) (at left : ℕ) (f : Follows nodes number way at left) → f.rest ≡ [] → IsWayOf nodes number way
ended nodes number way at left f none =
    let same : way ++ f.rest ≡ way = ap (λ xs. way ++ xs) none ∙ append-nil way in
    record { is_way = subst (IsWay (λ k. parent_at nodes k)) same f.is_way; starts = sym (ap start same) ∙ f.starts }

no_length : (xs : List ℕ) → length xs ≤ 0 → xs ≡ []
no_length [] none = refl
no_length (x ∷ xs) none = absurd (omega arith)

pub follows_end : (nodes : List Node) (number : ℕ) (way : List ℕ) (at left : ℕ) → node_at nodes at ≡ None → Follows nodes number way at left → IsWayOf nodes number way
follows_end nodes number way at left none f = ended nodes number way at left f (way_end nodes f.rest at (rest_is nodes way f.rest f.is_way) f.goes_on none)

pub follows_all : (nodes : List Node) (number : ℕ) (way : List ℕ) (at left : ℕ) → left ≡ 0 → Follows nodes number way at left → IsWayOf nodes number way
follows_all nodes number way at left none f = ended nodes number way at left f (no_length f.rest (omega (arith, f.short)))

-- a number has a place exactly where it has a change
pub place_some : (nodes : List Node) (number : ℕ) (o : Option ℕ) → position (λ (n : Node). n.number == number) nodes ≡ o → is_some o ≡ is_some (node_at nodes number)
place_some nodes number None e = sym (ap is_some (no_place (λ (n : Node). n.number == number) nodes e))
place_some nodes number (Some i) e =
    sym (ap is_some (found_at (λ (n : Node). n.number == number) nodes i (record { number = 0; parent = 0; last_child = 0; time = 0; save = 0; entries = [] }) e))

-- a change of the tree without its entries
pub at-links_of : (nodes : List Node) (k : ℕ) → node_at (map without_entries nodes) k ≡ option_map without_entries (node_at nodes k)
at-links_of [] k = refl
at-links_of (node ∷ nodes) k =
    elim (node.number == k) as (λ b. (if b then Some (without_entries node) else node_at (map without_entries nodes) k) ≡ option_map without_entries (if b then Some node else node_at nodes k)) [
      | true ↦ refl
      | false ↦ at-links_of nodes k
    ]

parent_in : (o : Option Node) → option_map (λ (n : Node). n.parent) (option_map without_entries o) ≡ option_map (λ (n : Node). n.parent) o
parent_in None = refl
parent_in (Some x) = refl

pub parent_at-links_of : (nodes : List Node) (k : ℕ) → parent_at (map without_entries nodes) k ≡ parent_at nodes k
parent_at-links_of nodes k = ap (option_map (λ (n : Node). n.parent)) (at-links_of nodes k) ∙ parent_in (node_at nodes k)

-- What one forgetting step leaves, and so what all of them leave.
use Rattle.std.proofs.Common.{◌≡◌, ◌≢◌, ℕ, zero, suc, ◌-◌, ◌<◌, ◌≤◌, ◌==◌, ◌||◌, ◌&&◌, nat_lt, not, if◌then◌else◌, cond, Bool, true, false, List, [], ◌∷◌, length, get_or, map, Option, Some, None, option_map, unwrap_or, IsSome, inl, inr, sym, ap, subst, ◌∙◌, arith, refl}
use Rattle.std.specs.List.{filter, list_any}
use Rattle.std.proofs.lemmas.Bool.Decides.{nat_tests}
use Rattle.std.proofs.lemmas.List.{length-map}
use Rattle.vs_entries.specs.declared.entry.Entry.{Entry}
use Rattle.vs_entries.specs.Entries.{Leads, LeadsCount}
use Rattle.vs_undo.specs.declared.parts.Node.{Node}
use Rattle.vs_undo.specs.declared.parts.Parts.{Parts}
use Rattle.vs_undo.specs.Ways.{node_at, parent_at, start, way_of, IsWay, is_on, IsKept, IsTree}
use Rattle.vs_undo.specs.Edges.{IsEdge, AreStates}
use Rattle.vs_undo.specs.Sound.{child_of, IsSound}
use Rattle.std.specs.List.Sorted.{IsStrictlyIncreasing}
use Rattle.vs_undo.specs.Numbers.{numbers}
use Rattle.vs_undo.proofs.NumberLemmas.{length_numbers, number_at}
use Rattle.vs_undo.specs.Meetings.{IsSettled, IsUsed}
use Rattle.vs_undo.specs.History.{put, links_of, without_entries, History, IsHistory, FitsCount, FitsText}
use Rattle.vs_undo.specs.Forgetting.{IsFresh, top_of, oldest_child, has_other_child, dropped, raised, promoted, Remainder, forgotten_once, forgotten_within, forgotten, history_forgotten}
use Rattle.vs_undo.proofs.ChangeLemmas.{was_there}
use Rattle.vs_undo.proofs.DepthLemmas.{number_of}
use Rattle.vs_undo.proofs.DropLemmas.{ArePast, top_cons, way_of_root, way_of_step, top_is, no_parent_at_root, no_root, past_way, child_left, left_sound, left_settled, left_states}
use Rattle.vs_undo.proofs.LeafLemmas.{any_there, any_at, way_of-links_of}
use Rattle.vs_undo.proofs.NodeLemmas.{at-links_of}
use Rattle.vs_undo.proofs.PartLemmas.{only_fewer}
use Rattle.vs_undo.proofs.PromoteLemmas.{child_after, promoted_sound, promoted_settled, promoted_states}
use Rattle.vs_undo.proofs.SearchLemmas.{index_found}
use Rattle.vs_undo.proofs.ShortWays.{way_is}
use Rattle.vs_undo.proofs.StayLemmas.{bound}
use Rattle.vs_undo.proofs.SoundLemmas.{known_some, parent_kept, root_is}

-- the child of the oldest state on the way of the current one
pub oldest_is : (parts : Parts) → IsFresh parts → (parent_at parts.nodes (oldest_child parts) ≡ Some 0) × (is_on (way_of parts.nodes parts.current) (oldest_child parts) ≡ true)
oldest_is parts fresh =
    let w = fresh.sound.tree.ways parts.current fresh.sound.current in
    let same : way_of parts.nodes parts.current ≡ w.way = way_is parts.nodes parts.current w.way fresh.sound.tree w.is in
    subst (λ way. (parent_at parts.nodes (get_or way (length way - 1) 0) ≡ Some 0) × (is_on way (get_or way (length way - 1) 0) ≡ true)) (sym same)
    (top_is (λ k. parent_at parts.nodes k) (no_parent_at_root parts.nodes fresh.sound.tree) w.way w.is.is_way (λ e. fresh.some (sym w.is.starts ∙ e)))

abbrev no_change : Node
no_change = record { number = 0; parent = 0; last_child = 0; time = 0; save = 0; entries = [] }

abbrev is_other : ℕ → Node → Bool
is_other child node = (node.parent == 0) && not (node.number == child)

-- the oldest state has one child
pub lone_is : (child : ℕ) (nodes : List Node) → has_other_child child nodes ≡ false → (k : ℕ) → parent_at nodes k ≡ Some 0 → k ≡ child
lone_is child nodes none k is =
    let node = was_there (λ (n : Node). n.parent) (node_at nodes k) 0 is in
    let number = number_of nodes k node.0 node.1.0 in
    elim (k == child) as (λ b. b ≡ (k == child) → k ≡ child) [
      | true ↦ λ t. grind (arith, nat_tests)
      | false ↦ λ t.
          let a : (node.0.parent == 0) ≡ true = let e = node.1.1 in grind (arith, nat_tests) in
          let b : (node.0.number == child) ≡ false = ap (λ n. n == child) number ∙ sym t in
          let both : is_other child node.0 ≡ true = ap (λ x. x && not (node.0.number == child)) a ∙ ap not b in
          absurd (let e : false ≡ true = sym none ∙ any_there (is_other child) nodes k node.0 node.1.0 both in cc)
    ] refl

-- another child of it
pub other_there : (child : ℕ) (nodes : List Node) → IsStrictlyIncreasing (numbers nodes) → has_other_child child nodes ≡ true → (k : ℕ) × ((parent_at nodes k ≡ Some 0) × (k ≢ child))
other_there child nodes rising some =
    let at = any_at (is_other child) nodes no_change some in
    let node = get_or nodes at.0 no_change in
    let there = index_found nodes at.0 no_change rising at.1.0 in
    let tests = both (node.parent == 0) (node.number == child) at.1.1 in
    let is : node.parent ≡ 0 = let e = tests.0 in grind (arith, nat_tests) in
    (node.number, (ap (option_map (λ (n : Node). n.parent)) there ∙ ap Some is, (let e = tests.1 in grind (arith, nat_tests))))
  where
    both : (a b : Bool) → (a && not b) ≡ true → (a ≡ true) × (b ≡ false)
    both true true e = absurd (cc)
    both true false e = (refl, refl)
    both false b e = absurd (cc)

-- a state below another one on a way
below_on : (parent : ℕ → Option ℕ) (way : List ℕ) (child : ℕ) → IsWay parent way → is_on way child ≡ true → start way ≢ child → (k : ℕ) × (parent k ≡ Some child)
below_on parent [] child is on differ = absurd (cc)
below_on parent (n ∷ way) child is on differ =
    let rest : is_on way child ≡ true = let e : (n == child) ≡ false = grind (arith, nat_tests) in ap (λ b. b || is_on way child) (sym e) ∙ on in
    elim (start way == child) as (λ b. b ≡ (start way == child) → (k : ℕ) × (parent k ≡ Some child)) [
      | true ↦ λ t. let e : start way ≡ child = grind (arith, nat_tests) in (n, is.0 ∙ ap Some e)
      | false ↦ λ t. below_on parent way child is.1 rest (grind (arith, nat_tests))
    ] refl

-- the first two changes have two numbers
first_two : (nodes : List Node) → IsStrictlyIncreasing (numbers nodes) → 2 ≤ length nodes → ((get_or nodes 0 no_change).number == (get_or nodes 1 no_change).number) ≡ false
first_two nodes rising many =
    let up : get_or (numbers nodes) 1 0 < get_or (numbers nodes) 2 0 = rising 1 (omega (arith, length_numbers nodes, many)) in
    let a = number_at nodes 0 no_change (omega (arith, many)) in
    let b = number_at nodes 1 no_change (omega (arith, many)) in
    let lt : (get_or nodes 0 no_change).number < (get_or nodes 1 no_change).number = omega (arith, up, a, b) in
    grind (arith, nat_tests)

-- where more than one change is kept, the oldest state is not followed by the current one alone
newer : (parts : Parts) → IsFresh parts → 2 ≤ length parts.nodes → has_other_child (oldest_child parts) parts.nodes ≡ false → parts.current ≢ oldest_child parts
newer parts fresh many none = λ same.
    let child = oldest_child parts in
    let a = get_or parts.nodes 0 no_change in
    let b = get_or parts.nodes 1 no_change in
    let a_is = index_found parts.nodes 0 no_change fresh.sound.numbers.rising (omega (arith, many)) in
    let b_is = index_found parts.nodes 1 no_change fresh.sound.numbers.rising (omega (arith, many)) in
    let differ : (a.number == b.number) ≡ false = first_two parts.nodes fresh.sound.numbers.rising many in
    elim (a.number == child) as (λ t. t ≡ (a.number == child) → ⊥) [
      | true ↦ λ t. has_child same b.number b b_is (grind (arith, nat_tests))
      | false ↦ λ t. has_child same a.number a a_is (grind (arith, nat_tests))
    ] refl
  where
    has_child : parts.current ≡ oldest_child parts → (m : ℕ) (node : Node) → node_at parts.nodes m ≡ Some node → m ≢ oldest_child parts → ⊥
    has_child same m node is other =
        let child = oldest_child parts in
        let known : parent_at parts.nodes m ≡ Some node.parent = ap (option_map (λ (n : Node). n.parent)) is in
        let w = fresh.sound.tree.ways m (inr (known_some (node_at parts.nodes m) node.parent known)) in
        let top = top_is (λ k. parent_at parts.nodes k) (no_parent_at_root parts.nodes fresh.sound.tree) w.way w.is.is_way (λ e. no_root parts.nodes fresh.sound.tree m node.parent known (sym w.is.starts ∙ e)) in
        let at_top = lone_is child parts.nodes none (get_or w.way (length w.way - 1) 0) top.0 in
        let on : is_on w.way child ≡ true = ap (is_on w.way) (sym at_top) ∙ top.1 in
        let below = below_on (λ k. parent_at parts.nodes k) w.way child w.is.is_way on (λ e. other (sym w.is.starts ∙ e)) in
        fresh.sound.children.some child below.0 below.1 (ap (child_of parts) (sym same) ∙ fresh.leaf)

module _ (left : Remainder) (fresh : IsFresh left.tree) (many : 2 ≤ length left.tree.nodes) where
  abbrev eldest : ℕ
  eldest = oldest_child left.tree

  abbrev held : List Node
  held = left.tree.nodes

  oldest : (parent_at held eldest ≡ Some 0) × (is_on (way_of held left.tree.current) eldest ≡ true)
  oldest = oldest_is left.tree fresh

  past : ArePast held eldest (λ k. is_on (way_of held k) eldest)
  past = past_way held eldest fresh.sound.tree oldest.0

  once_fresh : IsFresh (forgotten_once left).tree
  once_fresh =
      elim (has_other_child eldest held) as (λ b. has_other_child eldest held ≡ b → IsFresh (if b then record left { tree = dropped eldest left.tree } else record { tree = promoted eldest left.tree; root = eldest }).tree) [
        | true ↦ λ is. record {
          sound = left_sound left.tree fresh.sound eldest (λ k. is_on (way_of held k) eldest) past oldest.1;
          some = fresh.some;
          leaf = child_left left.tree fresh.sound eldest (λ k. is_on (way_of held k) eldest) past left.tree.current oldest.1 ∙ fresh.leaf;
        }
        | false ↦ λ is.
            let lone = lone_is eldest held is in
            let later = newer left.tree fresh many is in
            record {
              sound = promoted_sound left.tree fresh.sound eldest oldest.0 lone later;
              some = fresh.some;
              leaf = child_after left.tree fresh.sound eldest oldest.0 lone left.tree.current fresh.some later ∙ fresh.leaf;
            }
      ] refl

  once_fewer : length (forgotten_once left).tree.nodes < length held
  once_fewer =
      elim (has_other_child eldest held) as (λ b. has_other_child eldest held ≡ b → length (if b then record left { tree = dropped eldest left.tree } else record { tree = promoted eldest left.tree; root = eldest }).tree.nodes < length held) [
        | true ↦ λ is.
            let other = other_there eldest held fresh.sound.numbers.rising is in
            let differ : (other.0 == eldest) ≡ false = let d = other.1.1 in grind (arith, nat_tests) in
            let beside : is_on (way_of held other.0) eldest ≡ false = past.step other.0 0 other.1.0 ∙ (ap (λ b. b || is_on (way_of held 0) eldest) differ ∙ past.root) in
            only_fewer (λ k. is_on (way_of held k) eldest) held other.0 (known_some (node_at held other.0) 0 other.1.0) beside
        | false ↦ λ is.
            let e : (eldest == eldest) ≡ true = grind (arith, nat_tests) in
            let fewer = only_fewer (λ k. not (k == eldest)) held eldest (known_some (node_at held eldest) 0 oldest.0) (ap not e) in
            omega (arith, fewer, length-map (filter (λ (node : Node). not (node.number == eldest)) held) (raised eldest))
      ] refl

  once_stays : ((forgotten_once left).tree.current ≡ left.tree.current) × ((forgotten_once left).tree.last ≡ left.tree.last)
  once_stays =
      elim (has_other_child eldest held) as (λ b. ((if b then record left { tree = dropped eldest left.tree } else record { tree = promoted eldest left.tree; root = eldest }).tree.current ≡ left.tree.current)
      × ((if b then record left { tree = dropped eldest left.tree } else record { tree = promoted eldest left.tree; root = eldest }).tree.last ≡ left.tree.last)) [ true ↦ (refl, refl) | false ↦ (refl, refl) ]

  once_save : (forgotten_once left).tree.last_save ≡ left.tree.last_save
  once_save =
      elim (has_other_child eldest held) as (λ b. (if b then record left { tree = dropped eldest left.tree } else record { tree = promoted eldest left.tree; root = eldest }).tree.last_save ≡ left.tree.last_save) [ true ↦ refl | false ↦ refl ]

  once_settled : IsSettled left.tree → IsSettled (forgotten_once left).tree
  once_settled settled =
      elim (has_other_child eldest held) as (λ b. has_other_child eldest held ≡ b → IsSettled (if b then record left { tree = dropped eldest left.tree } else record { tree = promoted eldest left.tree; root = eldest }).tree) [
        | true ↦ λ is. left_settled left.tree fresh.sound eldest (λ k. is_on (way_of held k) eldest) past oldest.1 settled
        | false ↦ λ is. promoted_settled left.tree fresh.sound eldest oldest.0 (lone_is eldest held is) (newer left.tree fresh many is) settled
      ] refl

  once_states : {X : Type 0} (L : Entry → X → X → Type 0) (states : ℕ → X) → AreStates L left.tree (put 0 (states left.root) states) → AreStates L (forgotten_once left).tree (put 0 (states (forgotten_once left).root) states)
  once_states L states are_states =
      elim (has_other_child eldest held) as (λ b. has_other_child eldest held ≡ b
      → AreStates L (if b then record left { tree = dropped eldest left.tree } else record { tree = promoted eldest left.tree; root = eldest }).tree
      (put 0 (states (if b then record left { tree = dropped eldest left.tree } else record { tree = promoted eldest left.tree; root = eldest }).root) states)) [
        | true ↦ λ is. left_states left.tree fresh.sound eldest (λ k. is_on (way_of held k) eldest) past oldest.1 L (put 0 (states left.root) states) are_states
        | false ↦ λ is.
            let some : eldest ≢ 0 = no_root held fresh.sound.tree eldest 0 oldest.0 in
            let e : (eldest == 0) ≡ false = grind (arith, nat_tests) in
            promoted_states left.tree fresh.sound eldest oldest.0 (lone_is eldest held is) (newer left.tree fresh many is) L (put 0 (states left.root) states) (put 0 (states eldest) states)
            (λ k. put_twice (states eldest) (states left.root) states k ∙ ap (λ x. put 0 x (put 0 (states left.root) states) k) (ap (λ b. if b then states left.root else states eldest) (sym e))) are_states
      ] refl
    where
      put_twice : {X : Type 0} (x y : X) (states : ℕ → X) (k : ℕ) → put 0 x states k ≡ put 0 x (put 0 y states) k
      put_twice x y states k = elim (k == 0) as (λ b. (if b then x else states k) ≡ (if b then x else (if b then y else states k))) [ true ↦ refl | false ↦ refl ]

-- what each step keeps, all steps keep
module _ (P : Remainder → Type 0) (step : (left : Remainder) → 2 ≤ length left.tree.nodes → P left → P (forgotten_once left)) (levels : ℕ) (some : 1 ≤ levels) where
  pub within_keeps : (most : ℕ) (left : Remainder) → P left → P (forgotten_within most levels left)
  within_keeps zero left is = is
  within_keeps (suc most) left is =
      elim (nat_lt levels (length left.tree.nodes)) as (λ b. b ≡ nat_lt levels (length left.tree.nodes) → P (if b then forgotten_within most levels (forgotten_once left) else left)) [
        | true ↦ λ t. within_keeps most (forgotten_once left) (step left (grind (arith, nat_tests)) is)
        | false ↦ λ t. is
      ] refl

-- no more are kept than this
within_few : (most levels : ℕ) (left : Remainder) → 1 ≤ levels → IsFresh left.tree → length left.tree.nodes ≤ most → length (forgotten_within most levels left).tree.nodes ≤ levels
within_few zero levels left some fresh fits = omega arith
within_few (suc most) levels left some fresh fits =
    elim (nat_lt levels (length left.tree.nodes)) as (λ b. b ≡ nat_lt levels (length left.tree.nodes) → length (if b then forgotten_within most levels (forgotten_once left) else left).tree.nodes ≤ levels) [
      | true ↦ λ t.
          let many : 2 ≤ length left.tree.nodes = grind (arith, nat_tests) in
          within_few most levels (forgotten_once left) some (once_fresh left fresh many) (omega (arith, once_fewer left fresh many, fits))
      | false ↦ λ t. grind (arith, nat_tests)
    ] refl

-- Entries have no part in forgetting.
abbrev pub links_left : Remainder → Remainder
links_left left = record left { tree = links_of left.tree }

list_any-links_of : (p : Node → Bool) → ((node : Node) → p (without_entries node) ≡ p node) → (nodes : List Node) → list_any p (map without_entries nodes) ≡ list_any p nodes
list_any-links_of p same [] = refl
list_any-links_of p same (node ∷ nodes) = ap (λ b. b || list_any p (map without_entries nodes)) (same node) ∙ ap (λ b. p node || b) (list_any-links_of p same nodes)

filter-links_of : (p q : Node → Bool) → ((node : Node) → p (without_entries node) ≡ q node) → (nodes : List Node) → filter p (map without_entries nodes) ≡ map without_entries (filter q nodes)
filter-links_of p q same [] = refl
filter-links_of p q same (node ∷ nodes) =
    ap (λ b. cond b (without_entries node ∷ filter p (map without_entries nodes)) (filter p (map without_entries nodes))) (same node) ∙
    (ap (λ (ns : List Node). cond (q node) (without_entries node ∷ ns) ns) (filter-links_of p q same nodes) ∙
    elim (q node) as (λ b. cond b (without_entries node ∷ map without_entries (filter q nodes)) (map without_entries (filter q nodes)) ≡ map without_entries (cond b (node ∷ filter q nodes) (filter q nodes))) [ true ↦ refl | false ↦ refl ])

raised-links_of : (child : ℕ) (nodes : List Node) → map (raised child) (map without_entries nodes) ≡ map without_entries (map (raised child) nodes)
raised-links_of child [] = refl
raised-links_of child (node ∷ nodes) =
    ap (λ (n : Node). n ∷ map (raised child) (map without_entries nodes)) (elim (node.parent == child) as (λ b. (if b then record (without_entries node) { parent = 0 } else without_entries node) ≡ without_entries (if b then record node { parent = 0 } else node)) [ true ↦ refl | false ↦ refl ]) ∙
    ap (λ (ns : List Node). without_entries (raised child node) ∷ ns) (raised-links_of child nodes)

child_of-links_of : (parts : Parts) (k : ℕ) → child_of (links_of parts) k ≡ child_of parts k
child_of-links_of parts k = ap (λ n. if k == 0 then parts.root_child else n) (ap child_in (at-links_of parts.nodes k) ∙ same (node_at parts.nodes k))
  where
    child_in : Option Node → ℕ
    child_in o = unwrap_or (option_map (λ (n : Node). n.last_child) o) 0

    same : (o : Option Node) → child_in (option_map without_entries o) ≡ child_in o
    same None = refl
    same (Some x) = refl

oldest-links_of : (parts : Parts) → oldest_child (links_of parts) ≡ oldest_child parts
oldest-links_of parts = ap (λ way. get_or way (length way - 1) 0) (way_of-links_of parts.nodes parts.current)

dropped-links_of : (child : ℕ) (parts : Parts) → dropped child (links_of parts) ≡ links_of (dropped child parts)
dropped-links_of child parts =
    ap (λ (ns : List Node). record parts { nodes = ns; root_child = child })
    (filter-links_of (λ n. is_on (way_of (map without_entries parts.nodes) n.number) child) (λ n. is_on (way_of parts.nodes n.number) child) (λ node. ap (λ way. is_on way child) (way_of-links_of parts.nodes node.number)) parts.nodes)

promoted-links_of : (child : ℕ) (parts : Parts) → promoted child (links_of parts) ≡ links_of (promoted child parts)
promoted-links_of child parts =
    let nodes : map (raised child) (filter (λ (n : Node). not (n.number == child)) (map without_entries parts.nodes)) ≡ map without_entries (map (raised child) (filter (λ (n : Node). not (n.number == child)) parts.nodes)) =
    ap (map (raised child)) (filter-links_of (λ n. not (n.number == child)) (λ n. not (n.number == child)) (λ _. refl) parts.nodes) ∙ raised-links_of child (filter (λ (n : Node). not (n.number == child)) parts.nodes) in
    ap (λ (ns : List Node). record parts { nodes = ns; root_child = child_of (links_of parts) child }) nodes ∙
    ap (λ c. record parts { nodes = map without_entries (map (raised child) (filter (λ (n : Node). not (n.number == child)) parts.nodes)); root_child = c }) (child_of-links_of parts child)

once-links_of : (left : Remainder) → forgotten_once (links_left left) ≡ links_left (forgotten_once left)
once-links_of left =
    let child = oldest_child left.tree in
    let bare = links_of left.tree in
    ap (λ c. if has_other_child c bare.nodes then record left { tree = dropped c bare } else record { tree = promoted c bare; root = c }) (oldest-links_of left.tree) ∙
    (ap (λ b. if b then record left { tree = dropped child bare } else record { tree = promoted child bare; root = child }) (list_any-links_of (is_other child) (λ _. refl) left.tree.nodes) ∙
    elim (has_other_child child left.tree.nodes) as (λ b. (if b then record left { tree = dropped child bare } else record { tree = promoted child bare; root = child }) ≡ links_left (if b then record left { tree = dropped child left.tree } else record { tree = promoted child left.tree; root = child })) [
      | true ↦ ap (λ (p : Parts). record left { tree = p }) (dropped-links_of child left.tree)
      | false ↦ ap (λ (p : Parts). record { tree = p; root = child }) (promoted-links_of child left.tree)
    ])

within-links_of : (most levels : ℕ) (left : Remainder) → forgotten_within most levels (links_left left) ≡ links_left (forgotten_within most levels left)
within-links_of zero levels left = refl
within-links_of (suc most) levels left =
    ap (λ n. if nat_lt levels n then forgotten_within most levels (forgotten_once (links_left left)) else links_left left) (length-map left.tree.nodes without_entries) ∙
    elim (nat_lt levels (length left.tree.nodes)) as (λ b. (if b then forgotten_within most levels (forgotten_once (links_left left)) else links_left left) ≡ links_left (if b then forgotten_within most levels (forgotten_once left) else left)) [
      | true ↦ ap (forgotten_within most levels) (once-links_of left) ∙ within-links_of most levels (forgotten_once left)
      | false ↦ refl
    ]

pub forgotten-links_of : (levels : ℕ) (parts : Parts) → forgotten levels (links_of parts) ≡ links_left (forgotten levels parts)
forgotten-links_of levels parts =
    ap (λ n. forgotten_within n levels (record { tree = links_of parts; root = 0 })) (length-map parts.nodes without_entries) ∙ within-links_of (length parts.nodes) levels (record { tree = parts; root = 0 })

-- where no more changes are kept, no step is made
pub none_left : (most levels : ℕ) (left : Remainder) → length left.tree.nodes ≤ levels → forgotten_within most levels left ≡ left
none_left zero levels left fits = refl
none_left (suc most) levels left fits =
    let e : nat_lt levels (length left.tree.nodes) ≡ false = grind (arith, nat_tests) in
    ap (λ b. if b then forgotten_within most levels (forgotten_once left) else left) e

-- so many steps as there are changes are enough
enough : (a b levels : ℕ) (left : Remainder) → 1 ≤ levels → IsFresh left.tree → length left.tree.nodes ≤ a → length left.tree.nodes ≤ b → forgotten_within a levels left ≡ forgotten_within b levels left
enough zero b levels left some fresh in_a in_b = sym (none_left b levels left (omega (arith, in_a)))
enough (suc a) zero levels left some fresh in_a in_b = none_left (suc a) levels left (omega (arith, in_b))
enough (suc a) (suc b) levels left some fresh in_a in_b =
    elim (nat_lt levels (length left.tree.nodes)) as (λ t. t ≡ nat_lt levels (length left.tree.nodes)
    → (if t then forgotten_within a levels (forgotten_once left) else left) ≡ (if t then forgotten_within b levels (forgotten_once left) else left)) [
      | true ↦ λ t.
          let many : 2 ≤ length left.tree.nodes = grind (arith, nat_tests) in
          let fewer = once_fewer left fresh many in
          enough a b levels (forgotten_once left) some (once_fresh left fresh many) (omega (arith, fewer, in_a)) (omega (arith, fewer, in_b))
      | false ↦ λ t. refl
    ] refl

-- one step of those that are left
pub step_left : (levels : ℕ) (before after : Remainder) → 1 ≤ levels → IsFresh before.tree → levels < length before.tree.nodes → forgotten_once before ≡ after
    → (IsFresh after.tree × (length after.tree.nodes < length before.tree.nodes)) × (forgotten_within (length after.tree.nodes) levels after ≡ forgotten_within (length before.tree.nodes) levels before)
step_left levels before after some fresh more is =
    let many : 2 ≤ length before.tree.nodes = omega (arith, some, more) in
    subst (λ (left : Remainder). (IsFresh left.tree × (length left.tree.nodes < length before.tree.nodes)) × (forgotten_within (length left.tree.nodes) levels left ≡ forgotten_within (length before.tree.nodes) levels before)) is
    ((once_fresh before fresh many, once_fewer before fresh many), counted (length before.tree.nodes) refl many)
  where
    counted : (n : ℕ) → length before.tree.nodes ≡ n → 2 ≤ length before.tree.nodes → forgotten_within (length (forgotten_once before).tree.nodes) levels (forgotten_once before) ≡ forgotten_within n levels before
    counted zero e many = absurd (omega (arith, e, many))
    counted (suc n) e many =
        let fewer = once_fewer before fresh many in
        let t : nat_lt levels (length before.tree.nodes) ≡ true = grind (arith, nat_tests) in
        enough (length (forgotten_once before).tree.nodes) n levels (forgotten_once before) some (once_fresh before fresh many) (omega arith) (omega (arith, fewer, e)) ∙
        sym (ap (λ b. if b then forgotten_within n levels (forgotten_once before) else before) t)

module _ (levels : ℕ) (some : 1 ≤ levels) (parts : Parts) (fresh : IsFresh parts) where
  abbrev begun : Remainder
  begun = record { tree = parts; root = 0 }

  abbrev all : Remainder
  all = forgotten levels parts

  pub forgotten_fresh : IsFresh all.tree
  forgotten_fresh = within_keeps (λ left. IsFresh left.tree) (λ left many is. once_fresh left is many) levels some (length parts.nodes) begun fresh

  -- no more changes are kept than this
  pub forgotten_few : length all.tree.nodes ≤ levels
  forgotten_few = within_few (length parts.nodes) levels begun some fresh (omega arith)

  pub forgotten_stays : (all.tree.current ≡ parts.current) × (all.tree.last ≡ parts.last)
  forgotten_stays =
      let kept = within_keeps (λ left. IsFresh left.tree × ((left.tree.current ≡ parts.current) × (left.tree.last ≡ parts.last)))
      (λ left many is. (once_fresh left is.0 many, ((once_stays left is.0 many).0 ∙ is.1.0, (once_stays left is.0 many).1 ∙ is.1.1))) levels some (length parts.nodes) begun (fresh, (refl, refl)) in
      kept.1

  pub forgotten_save : all.tree.last_save ≡ parts.last_save
  forgotten_save =
      let kept = within_keeps (λ left. IsFresh left.tree × (left.tree.last_save ≡ parts.last_save))
      (λ left many is. (once_fresh left is.0 many, once_save left is.0 many ∙ is.1)) levels some (length parts.nodes) begun (fresh, refl) in
      kept.1

  pub forgotten_settled : IsSettled parts → IsSettled all.tree
  forgotten_settled settled =
      let kept = within_keeps (λ left. IsFresh left.tree × IsSettled left.tree)
      (λ left many is. (once_fresh left is.0 many, once_settled left is.0 many is.1)) levels some (length parts.nodes) begun (fresh, settled) in
      kept.1

  forgotten_states : {X : Type 0} (L : Entry → X → X → Type 0) (states : ℕ → X) → AreStates L parts states → AreStates L all.tree (put 0 (states all.root) states)
  forgotten_states {X = X} L states are_states =
      let kept = within_keeps (λ left. IsFresh left.tree × AreStates L left.tree (put 0 (states left.root) states))
      (λ left many is. (once_fresh left is.0 many, once_states left is.0 many L states is.1)) levels some (length parts.nodes) begun (fresh, first) in
      kept.1
    where
      at_first : (k : ℕ) → states k ≡ put 0 (states 0) states k
      at_first k = elim (k == 0) as (λ b. b ≡ (k == 0) → states k ≡ (if b then states 0 else states k)) [ true ↦ λ t. (let e : k ≡ 0 = grind (arith, nat_tests) in ap states e) | false ↦ λ t. refl ] refl

      first : AreStates L parts (put 0 (states 0) states)
      first = record {
        way = are_states.way;
        is_way = are_states.is_way;
        edges = λ k node is.
            subst (λ s. IsEdge L (is_on are_states.way k) node.entries (put 0 (states 0) states k) s) (at_first node.parent)
            (subst (λ s. IsEdge L (is_on are_states.way k) node.entries s (states node.parent)) (at_first k) (are_states.edges k node is));
      }

  -- the current state is not the oldest
  at_current : {X : Type 0} (x : X) (states : ℕ → X) → put 0 x states all.tree.current ≡ states parts.current
  at_current x states =
      let some_current = fresh.some in
      let e : (parts.current == 0) ≡ false = grind (arith, nat_tests) in
      ap (put 0 x states) forgotten_stays.0 ∙ ap (λ b. if b then x else states parts.current) e

  pub forgotten_count : (lines : ℕ) → FitsCount parts lines → FitsCount all.tree lines
  forgotten_count lines fits = record {
    counts = put 0 (fits.counts all.root) fits.counts;
    are_states = forgotten_states LeadsCount fits.counts fits.are_states;
    current = fits.current ∙ sym (at_current (fits.counts all.root) fits.counts);
  }

  pub forgotten_text : (text : List (List ℕ)) → FitsText parts text → FitsText all.tree text
  forgotten_text text fits = record {
    texts = put 0 (fits.texts all.root) fits.texts;
    are_states = forgotten_states Leads fits.texts fits.are_states;
    current = fits.current ∙ sym (at_current (fits.texts all.root) fits.texts);
  }

  pub forgotten_history : (text : List (List ℕ)) (history : History) → IsHistory parts text history → IsHistory all.tree text (history_forgotten levels history)
  forgotten_history text history is =
      let same : forgotten levels history.links ≡ links_left all = ap (forgotten levels) (sym is.links) ∙ forgotten-links_of levels parts in
      let root : all.root ≡ (forgotten levels history.links).root = sym (ap (λ (left : Remainder). left.root) same) in
      record {
        links = sym (ap (λ (left : Remainder). left.tree) same);
        are_states = subst (λ r. AreStates Leads all.tree (put 0 (history.texts r) history.texts)) root (forgotten_states Leads history.texts is.are_states);
        current = at_current (history.texts (forgotten levels history.links).root) history.texts ∙ is.current;
      }

-- the last state of a way is that of the way above it
pub top_above : (nodes : List Node) → IsTree nodes → (at above : ℕ) → IsKept nodes at → above ≡ unwrap_or (parent_at nodes at) 0 → above ≢ 0
    → IsKept nodes above × ((top_of (way_of nodes above) ≡ top_of (way_of nodes at)) × (length (way_of nodes above) < length (way_of nodes at)))
top_above nodes tree at above kept is some =
    let up : parent_at nodes at ≡ Some above = known (parent_at nodes at) is in
    let w = way_of_step nodes tree at above up in
    let above_kept = parent_kept nodes at above tree up in
    let above_up = above_known (node_at nodes above) refl (elim above_kept [ inl z ↦ absurd (some z) | inr h ↦ h ]) in
    let v = way_of_step nodes tree above above_up.0 above_up.1 in
    (above_kept, (ap top_of v ∙ (sym (top_cons at above (way_of nodes above_up.0)) ∙ sym (ap top_of (w ∙ ap (λ ns. at ∷ ns) v))), omega (arith, ap length w)))
  where
    known : (o : Option ℕ) → above ≡ unwrap_or o 0 → o ≡ Some above
    known None e = absurd (some e)
    known (Some p) e = ap Some (sym e)

    above_known : (o : Option Node) → node_at nodes above ≡ o → IsSome o → (p : ℕ) × (parent_at nodes above ≡ Some p)
    above_known None e s = absurd (cc)
    above_known (Some node) e s = (node.parent, ap (option_map (λ (n : Node). n.parent)) e)

pub top_here : (nodes : List Node) → IsTree nodes → (at : ℕ) → IsKept nodes at → unwrap_or (parent_at nodes at) 0 ≡ 0 → top_of (way_of nodes at) ≡ at
top_here nodes tree at kept none = here (parent_at nodes at) refl none
  where
    here : (o : Option ℕ) → parent_at nodes at ≡ o → unwrap_or o 0 ≡ 0 → top_of (way_of nodes at) ≡ at
    here None e z = let at_zero = root_is nodes at kept e in ap (λ k. top_of (way_of nodes k)) at_zero ∙ (ap top_of (way_of_root nodes tree) ∙ sym at_zero)
    here (Some p) e z = ap top_of (way_of_step nodes tree at p e ∙ ap (λ k. at ∷ way_of nodes k) z ∙ ap (λ w. at ∷ w) (way_of_root nodes tree))

-- a number of a rising list is no less than its place
rising_most : (xs : List ℕ) (k : ℕ) → IsStrictlyIncreasing xs → k < length xs → k ≤ get_or xs k 0
rising_most xs zero rising within = omega arith
rising_most xs (suc k) rising within =
    let h = rising_most xs k rising (omega (arith, within)) in
    let up : get_or xs k 0 < get_or xs (suc k) 0 = subst (λ j. get_or xs k 0 < get_or xs j 0) (omega arith) (rising k (omega (arith, within))) in
    omega (arith, h, up)

-- there are no more changes than numbers were given
pub few_nodes : (parts : Parts) → IsSound parts → length parts.nodes ≤ parts.last
few_nodes parts sound =
    let within : length parts.nodes < length (numbers parts.nodes) = omega (arith, length_numbers parts.nodes) in
    omega (arith, rising_most (numbers parts.nodes) (length parts.nodes) sound.numbers.rising within, bound parts sound.numbers (length parts.nodes) within)

-- where no more numbers were given than changes may be kept
pub whole_kept : (levels : ℕ) (parts : Parts) → IsSound parts → parts.last ≤ levels → forgotten levels parts ≡ record { tree = parts; root = 0 }
whole_kept levels parts sound most = none_left (length parts.nodes) levels (record { tree = parts; root = 0 }) (omega (arith, few_nodes parts sound, most))

-- in a settled tree the child last used of the oldest state is the one on the way
used_top : (parts : Parts) (n : ℕ) (way : List ℕ) → IsUsed parts (n ∷ way) → parts.root_child ≡ top_of (n ∷ way)
used_top parts n [] in_use = in_use.0
used_top parts n (m ∷ way) in_use = used_top parts m way in_use.1 ∙ sym (top_cons n m way)

pub settled_oldest : (parts : Parts) → IsFresh parts → IsSettled parts → parts.root_child ≡ oldest_child parts
settled_oldest parts fresh settled =
    let w = fresh.sound.tree.ways parts.current fresh.sound.current in
    let same : way_of parts.nodes parts.current ≡ w.way = way_is parts.nodes parts.current w.way fresh.sound.tree w.is in
    on w.way (settled w.way w.is) (λ e. fresh.some (sym w.is.starts ∙ e)) ∙ ap top_of (sym same)
  where
    on : (way : List ℕ) → IsUsed parts way → start way ≢ 0 → parts.root_child ≡ top_of way
    on [] in_use some = absurd (some refl)
    on (n ∷ way) in_use some = used_top parts n way in_use

-- one step of a settled tree
pub step_settled : (before after : Remainder) → IsFresh before.tree → 2 ≤ length before.tree.nodes → forgotten_once before ≡ after → IsSettled before.tree → IsSettled after.tree
step_settled before after fresh many is settled = subst (λ (left : Remainder). IsSettled left.tree) is (once_settled before fresh many settled)

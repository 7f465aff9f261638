-- Where two ways meet, and what a move writes below that.
use Rattle.std.proofs.Common.{◌≡◌, ◌≢◌, ℕ, ◌-◌, ◌<◌, ◌≤◌, ◌==◌, if◌then◌else◌, true, false, List, [], ◌∷◌, ◌++◌, length, Option, Some, None, option_map, unwrap_or, IsSome, inl, inr, sym, ap, subst, ◌∙◌, arith, refl, append_assoc, append-nil, get_or, length-append, reverse}
use Rattle.std.proofs.lemmas.Bool.Decides.{nat_tests}
use Rattle.std.proofs.lemmas.List.{append_cancel_right, length-reverse}
use Rattle.vs_entries.specs.declared.entry.Entry.{Entry}
use Rattle.vs_undo.specs.declared.meeting.Meeting.{Meeting}
use Rattle.vs_undo.specs.declared.parts.Node.{Node}
use Rattle.vs_undo.specs.declared.parts.Parts.{Parts}
use Rattle.vs_undo.specs.Ways.{node_at, parent_at, start, start_below, IsWay, IsWayOf, IsTree, IsKept, IsBetween, Follows}
use Rattle.vs_undo.specs.Sound.{child_of, IsSound}
use Rattle.vs_undo.specs.History.{changed, with_child, used, installed, arrived}
use Rattle.vs_undo.specs.Meetings.{IsMeeting, IsSettled, IsUsed, Meets, used_below}
use Rattle.vs_undo.proofs.ChangeLemmas.{at_written}
use Rattle.vs_undo.proofs.MoveLemmas.{arrived_parent, installed_parent, same_way, way_same}
use Rattle.vs_undo.proofs.NodeLemmas.{rest_is}
use Rattle.vs_undo.proofs.SoundLemmas.{child_after, installed_child, last_child_in, start_kept, with_child_parent}
use Rattle.vs_undo.proofs.WayLemmas.{one_way}

-- a way that is followed by one change goes on from its parent
follow_rest : (nodes : List Node) (number : ℕ) (way : List ℕ) (at left next : ℕ) (rest : List ℕ) → at ≢ 0 → next ≡ unwrap_or (parent_at nodes at) 0
    → IsWay (λ k. parent_at nodes k) (way ++ rest) → start (way ++ rest) ≡ number → start rest ≡ at → length rest ≤ left → Follows nodes number (way ++ at ∷ []) next (left - 1) × (0 < left)
follow_rest nodes number way at left next [] some is is_way starts goes_on short = absurd (some (sym goes_on))
follow_rest nodes number way at left next (n ∷ tail) some is is_way starts goes_on short =
    let parent : parent_at nodes at ≡ Some (start tail) = ap (parent_at nodes) (sym goes_on) ∙ (rest_is nodes way (n ∷ tail) is_way).0 in
    let same : way ++ n ∷ tail ≡ (way ++ at ∷ []) ++ tail = ap (λ k. way ++ k ∷ tail) goes_on ∙ sym (append_assoc way (at ∷ []) tail) in (
      record {
        rest = tail;
        is_way = subst (IsWay (λ k. parent_at nodes k)) same is_way;
        starts = sym (ap start same) ∙ starts;
        goes_on = sym (is ∙ ap (λ o. unwrap_or o 0) parent);
        short = omega (arith, short);
      },
      omega (arith, short),
    )

pub followed : (nodes : List Node) (number : ℕ) (way new : List ℕ) (at left next : ℕ) → at ≢ 0 → next ≡ unwrap_or (parent_at nodes at) 0 → new ≡ way ++ at ∷ []
    → Follows nodes number way at left → Follows nodes number new next (left - 1) × (0 < left)
followed nodes number way new at left next some is new_is f =
    subst (λ w. Follows nodes number w next (left - 1) × (0 < left)) (sym new_is) (follow_rest nodes number way at left next f.rest some is f.is_way f.starts f.goes_on f.short)

-- two ways that were followed to one state
pub met : (nodes : List Node) (from to : ℕ) (m : Meeting) (a b left right : ℕ) → IsTree nodes → Follows nodes from m.from.items a left → Follows nodes to m.to.items b right → a ≡ b → b ≡ m.top → Meets nodes from to m
met nodes from to m a b left right tree f g same top =
    let root : parent_at nodes 0 ≡ None = ap (option_map (λ (n : Node). n.parent)) tree.root in
    let one : f.rest ≡ g.rest = one_way (λ k. parent_at nodes k) root f.rest g.rest (rest_is nodes m.from.items f.rest f.is_way) (rest_is nodes m.to.items g.rest g.is_way) (f.goes_on ∙ same ∙ sym g.goes_on) in
    let to_same : m.to.items ++ g.rest ≡ m.to.items ++ f.rest = ap (λ r. m.to.items ++ r) (sym one) in
    record {
      rest = f.rest;
      top = f.goes_on ∙ same ∙ top;
      from = record { is_way = f.is_way; starts = f.starts };
      to = record { is_way = subst (IsWay (λ k. parent_at nodes k)) to_same g.is_way; starts = sym (ap start to_same) ∙ g.starts };
    }

-- what is in use on a whole way is on its end
pub used_end : (parts : Parts) (before rest : List ℕ) → IsUsed parts (before ++ rest) → IsUsed parts rest
used_end parts [] rest is = is
used_end parts (n ∷ before) rest is = used_end parts before rest is.1

-- whole ways meet at the oldest state
pub met_at_root : (parts : Parts) (number : ℕ) (m : Meeting) → IsWayOf parts.nodes parts.current m.from.items → IsWayOf parts.nodes number m.to.items → m.top ≡ 0 → IsMeeting parts number m
met_at_root parts number m from to top = record {
  meets = record {
    rest = [];
    top = sym top;
    from = subst (IsWayOf parts.nodes parts.current) (sym (append-nil m.from.items)) from;
    to = subst (IsWayOf parts.nodes number) (sym (append-nil m.to.items)) to;
  };
  in_use = tt;
}

pub met_settled : (parts : Parts) (number : ℕ) (m : Meeting) → IsSettled parts → Meets parts.nodes parts.current number m → IsMeeting parts number m
met_settled parts number m settled meets = record { meets = meets; in_use = used_end parts m.from.items meets.rest (settled (m.from.items ++ meets.rest) meets.from) }

between : (up down path rest : List ℕ) → IsBetween up down path → IsBetween (up ++ rest) (down ++ rest) path
between up down path rest is = record {
  up = is.up;
  down = is.down;
  rest = is.rest ++ rest;
  from_is = ap (λ w. w ++ rest) is.from_is ∙ append_assoc is.up is.rest rest;
  to_is = ap (λ w. w ++ rest) is.to_is ∙ append_assoc is.down is.rest rest;
  differ = is.differ;
  path_is = is.path_is;
}

-- a path between the parts of two ways is one between the ways
pub met_between : (m : Meeting) (from to path rest : List ℕ) → from ≡ m.from.items → to ≡ m.to.items → IsBetween from to path → IsBetween (m.from.items ++ rest) (m.to.items ++ rest) path
met_between m from to path rest from_is to_is is =
    subst (λ w. IsBetween (m.from.items ++ rest) (w ++ rest) path) to_is (subst (λ w. IsBetween (w ++ rest) (to ++ rest) path) from_is (between from to path rest is))

-- no part of one list below what it shares with itself
none_apart : (up down : List ℕ) → up ≡ down → (0 < length up → 0 < length down → get_or up (length up - 1) 0 ≢ get_or down (length down - 1) 0) → length up ≡ 0
none_apart [] down same differ = refl
none_apart (n ∷ up) down same differ =
    absurd (differ (omega arith) (subst (λ (way : List ℕ). 0 < length way) same (omega arith)) (ap (λ (way : List ℕ). get_or way (length way - 1) 0) same))

-- there is nothing between two ways of one state
pub none_between : (nodes : List Node) → IsTree nodes → (a b : ℕ) (from to path : List ℕ) → b ≡ a → IsWayOf nodes a from → IsWayOf nodes b to → IsBetween from to path → length path ≡ 0
none_between nodes tree a b from to path one is_from is_to is =
    let whole : from ≡ to = same_way nodes tree a from to is_from (subst (λ k. IsWayOf nodes k to) one is_to) in
    let same : is.up ≡ is.down = append_cancel_right is.up is.down is.rest (sym is.from_is ∙ whole ∙ is.to_is) in
    let none = none_apart is.up is.down same is.differ in
    omega (arith, ap length is.path_is, length-append is.up (reverse is.down), length-reverse is.down, ap length same, none)

-- a child that is last used already
child_set : (p n : ℕ) (nodes : List Node) → last_child_in (node_at nodes p) ≡ n → changed p (λ (node : Node). record node { last_child = n }) nodes ≡ nodes
child_set p n [] is = refl
child_set p n (node ∷ nodes) is =
    elim (node.number == p) as (λ b. last_child_in (if b then Some node else node_at nodes p) ≡ n → (if b then record node { last_child = n } ∷ nodes else node ∷ changed p (λ (node : Node). record node { last_child = n }) nodes) ≡ node ∷ nodes) [
      | true ↦ λ e. ap (λ c. record node { last_child = c } ∷ nodes) (sym e)
      | false ↦ λ e. ap (λ ns. node ∷ ns) (child_set p n nodes e)
    ] is

with_child_same : (p n : ℕ) (parts : Parts) → child_of parts p ≡ n → with_child p n parts ≡ parts
with_child_same p n parts is =
    elim (p == 0) as (λ b. (if b then parts.root_child else last_child_in (node_at parts.nodes p)) ≡ n
    → (if b then record parts { root_child = n } else record parts { nodes = changed p (λ (node : Node). record node { last_child = n }) parts.nodes }) ≡ parts) [
      | true ↦ λ e. ap (λ c. record parts { root_child = c }) (sym e)
      | false ↦ λ e. ap (λ (ns : List Node). record parts { nodes = ns }) (child_set p n parts.nodes e)
    ] is

-- a way in use stays as it is
used_same : (way : List ℕ) (parts : Parts) → IsUsed parts way → used way parts ≡ parts
used_same [] parts is = refl
used_same (n ∷ way) parts is = ap (used way) (with_child_same (start way) n parts is.0) ∙ used_same way parts is.1

below_is : (way rest : List ℕ) → start_below way (start rest) ≡ start (way ++ rest)
below_is [] rest = refl
below_is (n ∷ way) rest = refl

-- a way is used from below
used_split : (way rest : List ℕ) (parts : Parts) → used (way ++ rest) parts ≡ used rest (used_below way (start rest) parts)
used_split [] rest parts = refl
used_split (n ∷ way) rest parts =
    used_split way rest (with_child (start (way ++ rest)) n parts) ∙ ap (λ k. used rest (used_below way (start rest) (with_child k n parts))) (sym (below_is way rest))

-- No state of a way but the first is this one.
abbrev pub Avoids : ℕ → List ℕ → Type 0
Avoids k [] = Unit {0}
Avoids k (n ∷ way) = (start way ≡ k → ⊥) × Avoids k way

-- a way does not come back to where a longer way begins
pub avoids : (parent : ℕ → Option ℕ) → parent 0 ≡ None → (whole way : List ℕ) → IsWay parent whole → IsWay parent way → length way ≤ length whole → Avoids (start whole) way
avoids parent root whole [] is_whole is short = tt
avoids parent root whole (n ∷ way) is_whole is short =
    (λ same. let one = one_way parent root way whole is.1 is_whole same in omega (arith, short, ap length one), avoids parent root whole way is_whole is.1 (omega (arith, short)))

-- another child last used leaves what is in use elsewhere
pub use_stays : (p n : ℕ) (parts : Parts) (way : List ℕ) → Avoids p way → IsUsed parts way → IsUsed (with_child p n parts) way
use_stays p n parts [] avoid is = tt
use_stays p n parts (m ∷ way) avoid is =
    (elim (child_after p n parts (start way)) [ inl same ↦ same ∙ is.0 | inr here ↦ absurd (avoid.0 here.0) ], use_stays p n parts way avoid.1 is.1)

-- What is used below a state leaves what is in use above it.
use_stays_above : (way rest : List ℕ) (parts : Parts) → parent_at parts.nodes 0 ≡ None → IsWay (λ k. parent_at parts.nodes k) (way ++ rest) → IsUsed parts rest → IsUsed (used_below way (start rest) parts) rest
use_stays_above [] rest parts root is in_use = in_use
use_stays_above (n ∷ way) rest parts root is in_use =
    let p = start_below way (start rest) in
    let after = with_child p n parts in
    let same = with_child_parent p n parts in
    let avoid : Avoids p rest = subst (λ k. Avoids k rest) (sym (below_is way rest))
    (avoids (λ k. parent_at parts.nodes k) root (way ++ rest) rest is.1 (rest_is parts.nodes way rest is.1) (omega (arith, length-append way rest))) in
    use_stays_above way rest after (same 0 ∙ root) (way_same (λ k. parent_at parts.nodes k) (λ k. parent_at after.nodes k) (λ k. sym (same k)) (way ++ rest) is.1) (use_stays p n parts rest avoid in_use)

pub use_same : (new old : Parts) → ((k : ℕ) → child_of new k ≡ child_of old k) → (way : List ℕ) → IsUsed old way → IsUsed new way
use_same new old same [] is = tt
use_same new old same (n ∷ way) is = (same (start way) ∙ is.0, use_same new old same way is.1)

-- what a move writes below the meeting is all that it has to write
pub used_meeting : (parts : Parts) (number : ℕ) (m : Meeting) (path : List ℕ) (turned : List (List Entry)) → IsSound parts → (are : IsMeeting parts number m)
    → used_below m.to.items m.top (record parts { nodes = installed path turned parts.nodes }) ≡ used (m.to.items ++ are.meets.rest) (record parts { nodes = installed path turned parts.nodes })
used_meeting parts number m path turned sound are =
    let there : Parts = record parts { nodes = installed path turned parts.nodes } in
    let rest = are.meets.rest in
    let to = m.to.items in
    let mid = installed_parent path turned parts.nodes in
    let root : parent_at there.nodes 0 ≡ None = mid 0 ∙ ap (option_map (λ (n : Node). n.parent)) sound.tree.root in
    let is : IsWay (λ k. parent_at there.nodes k) (to ++ rest) = way_same (λ k. parent_at parts.nodes k) (λ k. parent_at there.nodes k) (λ k. sym (mid k)) (to ++ rest) are.meets.to.is_way in
    let in_use : IsUsed there rest = use_same there parts (installed_child path turned parts) rest are.in_use in
    ap (λ k. used_below to k there) (sym are.meets.top)
    ∙ sym (used_split to rest there ∙ used_same rest (used_below to (start rest) there) (use_stays_above to rest there root is in_use))

-- the child last used that was just set
child_at : (p n : ℕ) (parts : Parts) → IsKept parts.nodes p → child_of (with_child p n parts) p ≡ n
child_at p n parts kept =
    elim (p == 0) as (λ b. b ≡ (p == 0) → child_of (if b then record parts { root_child = n } else record parts { nodes = changed p (λ (node : Node). record node { last_child = n }) parts.nodes }) p ≡ n) [
      | true ↦ λ t. ap (λ b. if b then n else last_child_in (node_at parts.nodes p)) (sym t)
      | false ↦ λ t. ap (λ b. if b then parts.root_child else last_child_in (node_at (changed p (λ (node : Node). record node { last_child = n }) parts.nodes) p)) (sym t)
          ∙ ap last_child_in (at_written p (λ node. record node { last_child = n }) (λ _. refl) parts.nodes)
          ∙ set_in (node_at parts.nodes p) (elim kept [ inl zero ↦ absurd (grind (arith, nat_tests)) | inr some ↦ some ])
    ] refl
  where
    set_in : (o : Option Node) → IsSome o → last_child_in (option_map (λ (node : Node). record node { last_child = n }) o) ≡ n
    set_in None some = absurd (cc)
    set_in (Some x) some = refl

-- a way that is used leaves the children of states that it avoids
used_child : (way : List ℕ) (parts : Parts) (k : ℕ) → Avoids k way → child_of (used way parts) k ≡ child_of parts k
used_child [] parts k avoid = refl
used_child (n ∷ way) parts k avoid =
    used_child way (with_child (start way) n parts) k avoid.1
    ∙ elim (child_after (start way) n parts k) [ inl same ↦ same | inr here ↦ absurd (avoid.0 (sym here.0)) ]

-- a way that is used is in use
used_is : (way : List ℕ) (parts : Parts) → parent_at parts.nodes 0 ≡ None → IsWay (λ k. parent_at parts.nodes k) way → IsUsed (used way parts) way
used_is [] parts root is = tt
used_is (n ∷ way) parts root is =
    let p = start way in
    let after = with_child p n parts in
    let same = with_child_parent p n parts in
    let on = way_same (λ k. parent_at parts.nodes k) (λ k. parent_at after.nodes k) (λ k. sym (same k)) way is.1 in
    (used_child way after p (avoids (λ k. parent_at parts.nodes k) root way way is.1 is.1 (omega arith)) ∙ child_at p n parts (start_kept parts.nodes way is.1), used_is way after (same 0 ∙ root) on)

-- a tree is settled after a move
pub arrived_settled : (path : List ℕ) (turned : List (List Entry)) (way : List ℕ) (parts : Parts) (number : ℕ) → IsTree parts.nodes → IsWayOf parts.nodes number way → IsSettled (arrived path turned way parts)
arrived_settled path turned way parts number tree is = λ other other_is.
    let there : Parts = record parts { nodes = installed path turned parts.nodes } in
    let after = arrived path turned way parts in
    let mid = installed_parent path turned parts.nodes in
    let same = arrived_parent path turned way parts in
    let root : parent_at parts.nodes 0 ≡ None = ap (option_map (λ (n : Node). n.parent)) tree.root in
    let there_is = way_same (λ k. parent_at parts.nodes k) (λ k. parent_at there.nodes k) (λ k. sym (mid k)) way is.is_way in
    let after_is = way_same (λ k. parent_at parts.nodes k) (λ k. parent_at after.nodes k) (λ k. sym (same k)) way is.is_way in
    let one : way ≡ other = one_way (λ k. parent_at after.nodes k) (same 0 ∙ root) way other after_is other_is.is_way (sym other_is.starts) in
    subst (IsUsed after) one (use_same after (used way there) (λ k. refl) way (used_is way there (mid 0 ∙ root) there_is))

-- where parents and children last used stay, a settled tree stays one
pub settled_same : (new old : Parts) → ((k : ℕ) → parent_at new.nodes k ≡ parent_at old.nodes k) → ((k : ℕ) → child_of new k ≡ child_of old k) → new.current ≡ old.current → IsSettled old → IsSettled new
settled_same new old parents children current settled = λ way is.
    use_same new old children way (settled way (record { is_way = way_same (λ k. parent_at new.nodes k) (λ k. parent_at old.nodes k) parents way is.is_way; starts = is.starts ∙ current }))

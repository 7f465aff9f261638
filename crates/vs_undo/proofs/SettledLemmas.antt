-- A settled tree stays one.
use Rattle.std.proofs.Common.{◌≡◌, ℕ, ◌+◌, List, [], ◌∷◌, ◌++◌, Some, None, option_map, sym, ap, subst, ◌∙◌, arith, refl}
use Rattle.vs_entries.specs.declared.entry.Entry.{Entry}
use Rattle.vs_undo.specs.declared.parts.Node.{Node}
use Rattle.vs_undo.specs.declared.parts.Parts.{Parts}
use Rattle.vs_undo.specs.Ways.{parent_at, start, IsWay}
use Rattle.vs_undo.specs.Sound.{child_of, IsSound}
use Rattle.vs_undo.specs.History.{marked, new_node, pushed, with_child}
use Rattle.vs_undo.specs.Meetings.{IsSettled, IsUsed}
use Rattle.vs_undo.proofs.MarkLemmas.{children, marked_differs, parents}
use Rattle.vs_undo.proofs.MeetingLemmas.{Avoids, avoids, settled_same, use_same, use_stays}
use Rattle.vs_undo.proofs.PushLemmas.{after_tree, child_grown, child_new, new_way}
use Rattle.vs_undo.proofs.WayLemmas.{one_way}

-- after one more change, which is the child last used of the state before
pub pushed_settled : (entries : List Entry) (time : ℕ) (parts : Parts) → IsSound parts → IsSettled parts → IsSettled (pushed entries time parts)
pushed_settled entries time parts sound settled = λ way is.
    let number = parts.last + 1 in
    let grown : Parts = record parts { nodes = parts.nodes ++ new_node entries time parts ∷ [] } in
    let after = pushed entries time parts in
    let was = sound.tree.ways parts.current sound.current in
    let now = new_way entries time parts sound was.way was.is in
    let root : parent_at after.nodes 0 ≡ None = ap (option_map (λ (n : Node). n.parent)) (after_tree entries time parts sound).root in
    let root_was : parent_at parts.nodes 0 ≡ None = ap (option_map (λ (n : Node). n.parent)) sound.tree.root in
    let one : number ∷ was.way ≡ way = one_way (λ k. parent_at after.nodes k) root (number ∷ was.way) way now.is_way is.is_way (sym is.starts) in
    let avoid : Avoids parts.current was.way = subst (λ k. Avoids k was.way) was.is.starts (avoids (λ k. parent_at parts.nodes k) root_was was.way was.way was.is.is_way was.is.is_way (omega arith)) in
    let grown_is : IsUsed grown was.way = use_same grown parts (child_grown entries time parts sound) was.way (settled was.way was.is) in
    let after_is : IsUsed after was.way = use_same after (with_child parts.current number grown) (λ k. refl) was.way (use_stays parts.current number grown was.way avoid grown_is) in
    let first : child_of after (start was.way) ≡ number = ap (child_of after) was.is.starts ∙ child_new entries time parts sound in
    subst (IsUsed after) one (first, after_is)

-- after a write
pub marked_settled : (parts : Parts) → IsSettled parts → IsSettled (marked parts)
marked_settled parts settled =
    let d = marked_differs parts in
    settled_same (marked parts) parts (parents parts (marked parts) d) (children parts (marked parts) d) d.current settled

-- with no change at all
pub first_settled : (nodes : List Node) → nodes ≡ [] → IsSettled (record { nodes = nodes; root_child = 0; current = 0; last = 0; last_save = 0 })
first_settled nodes none = λ way is. none_used way is.is_way
  where
    first : Parts
    first = record { nodes = nodes; root_child = 0; current = 0; last = 0; last_save = 0 }

    none_used : (way : List ℕ) → IsWay (λ k. parent_at nodes k) way → IsUsed first way
    none_used [] is = tt
    none_used (n ∷ way) is = absurd (let e : None ≡ Some (start way) = sym (ap (λ (ns : List Node). parent_at ns n) none) ∙ is.0 in cc)

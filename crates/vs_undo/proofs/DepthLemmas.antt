-- The depth of a state follows from that of one on its way.
use Rattle.std.proofs.Common.{◌≡◌, ◌≢◌, ℕ, ◌+◌, ◌-◌, ◌<◌, ◌≤◌, ◌==◌, if◌then◌else◌, true, false, List, [], ◌∷◌, ◌++◌, length, get_or, set, replicate, Some, None, option_map, sym, ap, subst, ◌∙◌, arith, refl, length-append}
use Rattle.std.proofs.lemmas.Bool.Decides.{nat_tests}
use Rattle.std.proofs.lemmas.List.{get_or_default, get_or-set_same, get_or-set_other, get_or-replicate, length-replicate, length-set}
use Rattle.vs_undo.specs.declared.parts.Node.{Node}
use Rattle.vs_undo.specs.Ways.{node_at, parent_at, IsWay, IsTree, Follows}
use Rattle.vs_undo.specs.Leaves.{HasDepth, AreDepths}
use Rattle.vs_undo.proofs.NodeLemmas.{way_step}
use Rattle.vs_undo.proofs.ShortWays.{way_short}
use Rattle.vs_undo.proofs.WayLemmas.{one_way, way_after}

abbrev pub no_node : Node
no_node = record { number = 0; parent = 0; last_child = 0; time = 0; save = 0; entries = [] }

-- the change that is found has the number
pub number_of : (nodes : List Node) (number : ℕ) (node : Node) → node_at nodes number ≡ Some node → node.number ≡ number
number_of [] number node is = absurd (cc)
number_of (first ∷ nodes) number node is =
    elim (first.number == number) as (λ b. b ≡ (first.number == number) → (if b then Some first else node_at nodes number) ≡ Some node → node.number ≡ number) [
      | true ↦ λ t e. let same : first ≡ node = cc in let n : first.number ≡ number = grind (arith, nat_tests) in ap (λ (m : Node). m.number) (sym same) ∙ n
      | false ↦ λ t e. number_of nodes number node e
    ] refl is

pub no_depths : (nodes : List Node) → AreDepths nodes (replicate (length nodes) 0)
no_depths nodes = record {
  count = length-replicate (length nodes) 0;
  known = λ place node within some. absurd (some (get_or-replicate (length nodes) place 0 0 within));
}

module _ (nodes : List Node) (tree : IsTree nodes) where
  root : parent_at nodes 0 ≡ None
  root = ap (option_map (λ (n : Node). n.parent)) tree.root

  pub depth_short : (number depth : ℕ) → HasDepth nodes number depth → depth ≤ length nodes
  depth_short number depth h = omega (arith, h.changes, way_short nodes h.way tree h.is_way.is_way)

  -- a state from which some changes have been passed to one whose depth is known
  pub joined : (number passed at depth left : ℕ) (way : List ℕ) → length way ≡ passed → Follows nodes number way at left → HasDepth nodes at depth → HasDepth nodes number (passed + depth)
  joined number passed at depth left way count f h =
      let rest = way_after (λ k. parent_at nodes k) root way f.rest f.is_way in
      let same : f.rest ≡ h.way = one_way (λ k. parent_at nodes k) root f.rest h.way rest h.is_way.is_way (f.goes_on ∙ sym h.is_way.starts) in
      record {
        way = way ++ f.rest;
        is_way = record { is_way = f.is_way; starts = f.starts };
        changes = omega (arith, length-append way f.rest, ap length same, h.changes, count);
      }

  -- the depth of the parent
  pub depth_above : (at depth : ℕ) (node : Node) → node_at nodes at ≡ Some node → HasDepth nodes at depth → HasDepth nodes node.parent (depth - 1)
  depth_above at depth node here h =
      let step = way_step nodes h.way at node tree.root h.is_way.is_way h.is_way.starts here in
      let is : IsWay (λ k. parent_at nodes k) (at ∷ step.0) = subst (IsWay (λ k. parent_at nodes k)) step.1.0 h.is_way.is_way in
      record { way = step.0; is_way = record { is_way = is.1; starts = step.1.1 }; changes = omega (arith, h.changes, ap length step.1.0) }

  module _ (depths : List ℕ) (place at : ℕ) (d : Node) (within : place < length nodes) (here : node_at nodes at ≡ Some (get_or nodes place d)) (known : AreDepths nodes depths) where
    number_is : (node : Node) → (get_or nodes place node).number ≡ at
    number_is node = ap (λ (n : Node). n.number) (get_or_default nodes place node d within) ∙ number_of nodes at (get_or nodes place d) here

    pub depth_known : get_or depths place 0 ≢ 0 → HasDepth nodes at (get_or depths place 0)
    depth_known some = subst (λ n. HasDepth nodes n (get_or depths place 0)) (number_is d) (known.known place d within some)

    pub depth_noted : (depth : ℕ) → HasDepth nodes at depth → AreDepths nodes (set depths place depth)
    depth_noted depth h = record {
      count = length-set depths place depth ∙ known.count;
      known = λ k node k_within some.
          elim (k == place) as (λ b. b ≡ (k == place) → HasDepth nodes (get_or nodes k node).number (get_or (set depths place depth) k 0)) [
            | true ↦ λ t.
                let e : k ≡ place = grind (arith, nat_tests) in
                let at_place = subst (λ n. HasDepth nodes n depth) (sym (number_is node)) h in
                let put : get_or (set depths place depth) place 0 ≡ depth = get_or-set_same depths place depth 0 (omega (arith, known.count)) in
                subst (λ j. HasDepth nodes (get_or nodes j node).number (get_or (set depths place depth) j 0)) (sym e) (subst (λ x. HasDepth nodes (get_or nodes place node).number x) (sym put) at_place)
            | false ↦ λ t.
                let differ : k ≢ place = grind (arith, nat_tests) in
                let other = get_or-set_other depths place k depth 0 differ in
                subst (λ x. HasDepth nodes (get_or nodes k node).number x) (sym other) (known.known k node k_within (λ z. some (other ∙ z)))
          ] refl;
    }

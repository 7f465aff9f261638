-- From the current text the entries lead back to that of the root, and from there to each other: every text follows from the one before.
use Rattle.std.proofs.Common.{◌≡◌, inl, inr, ℕ, ◌==◌, ◌||◌, Bool, true, false, List, [], ◌∷◌, Option, Some, None, option_map, refl, sym, ap, subst, ◌∙◌}
use Rattle.std.specs.Prelude.{IsSome}
use Rattle.std.proofs.lemmas.Bool.{eqb-true}
use Rattle.vs_entries.specs.declared.entry.Entry.{Entry}
use Rattle.vs_entries.specs.Entries.{Leads}
use Rattle.vs_undo.specs.declared.parts.Node.{Node}
use Rattle.vs_undo.specs.declared.parts.Parts.{Parts}
use Rattle.vs_undo.specs.Edges.{AreEdges, AreStates, IsEdge, IsLed}
use Rattle.vs_undo.specs.History.{History, IsHistory, links_of, without_entries}
use Rattle.vs_undo.specs.One.{AreSame}
use Rattle.vs_undo.specs.Ways.{IsKept, IsTree, IsWay, is_on, node_at, parent_at, start}
use Rattle.vs_undo.proofs.NodeLemmas.{at-links_of}
use Rattle.vs_undo.proofs.WayLemmas.{on_first, on_more, one_way}

abbrev Text : Type 0
Text = List (List ℕ)

led_one : (entries : List Entry) (from to other : Text) → IsLed Leads entries from to → IsLed Leads entries from other → to ≡ other
led_one [] from to other one two = sym one ∙ two
led_one (entry ∷ entries) from to other one two =
    let same : two.0 ≡ one.0 = two.1.0.is ∙ sym one.1.0.is in
    led_one entries one.0 to other one.1.1 (subst (λ x. IsLed Leads entries x other) same two.1.1)

module _ (nodes : List Node) (back : ℕ → Bool) (one other : ℕ → Text) (ones : AreEdges Leads nodes back one) (others : AreEdges Leads nodes back other) where
  -- what two edges of a change say of its state and its parent
  abbrev EdgeSame : Bool → ℕ → ℕ → Type 0
  EdgeSame true n p = one n ≡ other n → one p ≡ other p
  EdgeSame false n p = one p ≡ other p → one n ≡ other n

  edge_by : (towards : Bool) (entries : List Entry) (n p : ℕ) → IsEdge Leads towards entries (one n) (one p) → IsEdge Leads towards entries (other n) (other p) → EdgeSame towards n p
  edge_by true entries n p first second = λ same. led_one entries (one n) (one p) (other p) first (subst (λ x. IsLed Leads entries x (other p)) (sym same) second)
  edge_by false entries n p first second = λ same. led_one entries (one p) (one n) (other n) first (subst (λ x. IsLed Leads entries x (other n)) (sym same) second)

  edge_at : (o : Option Node) (n p : ℕ) → node_at nodes n ≡ o → option_map (λ (node : Node). node.parent) o ≡ Some p → EdgeSame (back n) n p
  edge_at None n p is e = absurd (cc)
  edge_at (Some node) n p is e =
      let same : node.parent ≡ p = cc in
      subst (λ k. EdgeSame (back n) n k) same (edge_by (back n) node.entries n node.parent (ones n node is) (others n node is))

  edge : (n p : ℕ) → parent_at nodes n ≡ Some p → EdgeSame (back n) n p
  edge n p is = edge_at (node_at nodes n) n p refl is

  on_way : (n : ℕ) (way : List ℕ) (m : ℕ) → one n ≡ other n → ((k : ℕ) → is_on way k ≡ true → one k ≡ other k) → is_on (n ∷ way) m ≡ true → one m ≡ other m
  on_way n way m here more on = elim (n == m) as (λ b. b ≡ (n == m) → (b || is_on way m) ≡ true → one m ≡ other m) [
    | true ↦ λ is first. subst (λ k. one k ≡ other k) (eqb-true n m (sym is)) here
    | false ↦ λ is later. more m later
  ] refl on

  -- along a way towards the root
  up : (way : List ℕ) → IsWay (λ k. parent_at nodes k) way → ((n : ℕ) → is_on way n ≡ true → back n ≡ true) → one (start way) ≡ other (start way)
      → (one 0 ≡ other 0) × ((n : ℕ) → is_on way n ≡ true → one n ≡ other n)
  up [] is towards same = (same, λ n on. absurd (cc))
  up (n ∷ way) is towards same =
      let here : one (start way) ≡ other (start way) = subst (λ b. EdgeSame b n (start way)) (towards n (on_first n way)) (edge n (start way) is.0) same in
      let rest = up way is.1 (λ m on. towards m (on_more n way m on)) here in
      (rest.0, λ m on. on_way n way m same rest.1 on)

  below : (n p : ℕ) (towards : Bool) → back n ≡ towards → parent_at nodes n ≡ Some p → ((m : ℕ) → back m ≡ true → one m ≡ other m) → one p ≡ other p → one n ≡ other n
  below n p true e is on above = on n e
  below n p false e is on above = subst (λ b. EdgeSame b n p) e (edge n p is) above

  -- away from it
  down : one 0 ≡ other 0 → ((n : ℕ) → back n ≡ true → one n ≡ other n) → (way : List ℕ) → IsWay (λ k. parent_at nodes k) way → one (start way) ≡ other (start way)
  down root on [] is = root
  down root on (n ∷ way) is = below n (start way) (back n) refl is.0 on (down root on way is.1)

-- each kept number has one text
one_text : (parts : Parts) (one other : ℕ → Text) → IsTree parts.nodes → AreStates Leads parts one → AreStates Leads parts other → one parts.current ≡ other parts.current
    → (number : ℕ) → IsKept parts.nodes number → one number ≡ other number
one_text parts one other tree a b current number kept =
    let parent = λ (k : ℕ). parent_at parts.nodes k in
    let root : parent 0 ≡ None = ap (λ o. option_map (λ (node : Node). node.parent) o) tree.root in
    let same : b.way ≡ a.way = one_way parent root b.way a.way b.is_way.is_way a.is_way.is_way (b.is_way.starts ∙ sym a.is_way.starts) in
    let others : AreEdges Leads parts.nodes (is_on a.way) other = subst (λ way. AreEdges Leads parts.nodes (is_on way) other) same b.edges in
    let here : one (start a.way) ≡ other (start a.way) = ap one a.is_way.starts ∙ (current ∙ sym (ap other a.is_way.starts)) in
    let ups = up parts.nodes (is_on a.way) one other a.edges others a.way a.is_way.is_way (λ n on. on) here in
    let has = tree.ways number kept in
    let there = down parts.nodes (is_on a.way) one other a.edges others ups.0 ups.1 has.way has.is.is_way in
    sym (ap one has.is.starts) ∙ (there ∙ ap other has.is.starts)

some_mapped : (o : Option Node) → IsSome (option_map without_entries o) → IsSome o
some_mapped None some = absurd (cc)
some_mapped (Some node) some = refl

kept_links : (parts : Parts) (number : ℕ) → IsKept (links_of parts).nodes number → IsKept parts.nodes number
kept_links parts number (inl root) = inl root
kept_links parts number (inr some) = inr (some_mapped (node_at parts.nodes number) (subst IsSome (at-links_of parts.nodes number) some))

pub one_history : (parts : Parts) (text : Text) (one other : History) → IsTree parts.nodes → IsHistory parts text one → IsHistory parts text other → AreSame one other
one_history parts text one other tree a b = record {
  links = sym a.links ∙ b.links;
  texts = λ number kept. one_text parts one.texts other.texts tree a.are_states b.are_states (a.current ∙ sym b.current) number (kept_links parts number (subst (λ (p : Parts). IsKept p.nodes number) (sym a.links) kept));
}

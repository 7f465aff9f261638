-- The trees that the data stands for are alike, so a history of one is a history of the other.
use Rattle.std.proofs.Common.{◌≡◌, ℕ, Bool, true, false, List, Option, Some, None, option_map, refl, sym, ap, subst, ◌∙◌}
use Rattle.vs_entries.specs.declared.entry.Entry.{Entry}
use Rattle.vs_entries.specs.Entries.{Leads}
use Rattle.vs_undo.specs.declared.parts.Node.{Node}
use Rattle.vs_undo.specs.declared.parts.Parts.{Parts}
use Rattle.vs_undo.specs.Edges.{AreEdges, AreStates, IsEdge}
use Rattle.vs_undo.specs.History.{History, IsHistory, links_of, without_entries}
use Rattle.vs_undo.specs.One.{AreSame}
use Rattle.vs_undo.specs.Ways.{is_on, node_at, IsWay}
use Rattle.vs_undo.proofs.OneLemmas.{one_history}
use Rattle.vs_ufile.specs.Values as file
use Rattle.vs_ufile.specs.Decode.{IsUndoFile, KeepsRules}
use Rattle.vs_ufile.proofs.Answered.{one_reading}
use Rattle.vs_ubind.specs.Bound.{IsBound}
use Rattle.vs_ubind.specs.Meaning.{last_flag}
use Rattle.vs_ubind.proofs.Alike.{led_alike, same_at, same_current, same_parents}
use Rattle.vs_ubind.proofs.Unique.{same_entries, same_links}

abbrev Text : Type 0
Text = List (List ℕ)

edge_alike : (towards : Bool) (es fs : List Entry) (state parent : Text) → last_flag es ≡ last_flag fs → IsEdge Leads towards es state parent → IsEdge Leads towards fs state parent
edge_alike true es fs state parent alike led = led_alike es fs alike state parent led
edge_alike false es fs state parent alike led = led_alike es fs alike parent state led

-- a change of one tree in the other
there : (o : Option Node) (y : Node) → option_map without_entries o ≡ Some (without_entries y) → (x : Node) × (o ≡ Some x) × (x.parent ≡ y.parent)
there None y e = absurd (cc)
there (Some x) y e = let same : without_entries x ≡ without_entries y = cc in (x, refl, ap (λ (n : Node). n.parent) same)

module _ (a b : Parts) (links : links_of a ≡ links_of b) (entries : (n : ℕ) (x y : Node) → node_at a.nodes n ≡ Some x → node_at b.nodes n ≡ Some y → last_flag x.entries ≡ last_flag y.entries) where
  edges_alike : (back : ℕ → Bool) (texts : ℕ → Text) → AreEdges Leads a.nodes back texts → AreEdges Leads b.nodes back texts
  edges_alike back texts edges number y is =
      let was = there (node_at a.nodes number) y (same_at a b links entries number ∙ ap (λ o. option_map without_entries o) is) in
      let edge = edges number was.0 was.1 in
      edge_alike (back number) was.0.entries y.entries (texts number) (texts y.parent) (entries number was.0 y was.1 is)
      (subst (λ p. IsEdge Leads (back number) was.0.entries (texts number) (texts p)) was.2 edge)

  states_alike : (texts : ℕ → Text) → AreStates Leads a texts → AreStates Leads b texts
  states_alike texts are = record {
    way = are.way;
    is_way = record {
      is_way = subst (λ p. IsWay p are.way) (same_parents a b links entries) are.is_way.is_way;
      starts = are.is_way.starts ∙ same_current a b links entries;
    };
    edges = edges_alike (is_on are.way) texts are.edges;
  }

  history_alike : (text : Text) (history : History) → IsHistory a text history → IsHistory b text history
  history_alike text history is = record {
    links = sym links ∙ is.links;
    are_states = states_alike history.texts is.are_states;
    current = sym (ap history.texts (same_current a b links entries)) ∙ is.current;
  }

pub one_bound : (contents : file.History) (text : Text) (one other : History) → KeepsRules contents → IsBound contents text one → IsBound contents text other → AreSame one other
one_bound contents text one other rules a b =
    let links = same_links contents rules a.tree b.tree a.means b.means in
    let entries = same_entries contents rules a.tree b.tree a.means b.means in
    one_history b.tree text one other b.sound.tree (history_alike a.tree b.tree links entries text one a.is) b.is

pub gives_back : (bytes : List ℕ) (stored found : file.History) (text : Text) (was taken : History) → IsUndoFile stored bytes → IsBound stored text was
    → IsUndoFile found bytes → IsBound found text taken → AreSame was taken
gives_back bytes stored found text was taken file bound again read =
    one_bound stored text was taken file.rules bound (subst (λ contents. IsBound contents text taken) (one_reading bytes found stored again file) read)

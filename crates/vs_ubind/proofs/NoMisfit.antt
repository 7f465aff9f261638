-- Where the entries of a tree fit a text, each change does.
use Rattle.std.proofs.Common.{◌≡◌, ℕ, if◌then◌else◌, Bool, true, false, List, [], ◌∷◌, Option, Some, None, option_map, unwrap_or, refl, sym, ap, subst, ◌∙◌}
use Rattle.vs_entries.specs.Entries.{Leads}
use Rattle.vs_undo.specs.declared.parts.Node.{Node}
use Rattle.vs_undo.specs.declared.parts.Parts.{Parts}
use Rattle.vs_undo.specs.Edges.{IsEdge, IsLed}
use Rattle.vs_undo.specs.History.{FitsText}
use Rattle.vs_undo.specs.Sound.{IsSound}
use Rattle.vs_undo.specs.Ways.{is_on, node_at, parent_at, start}
use Rattle.vs_outward.specs.Outward.{entries_at, IsMisfit, IsOut, LeadsOver}
use Rattle.vs_outward.proofs.LedLemmas.{led_once, one_text}
use Rattle.vs_outward.proofs.TriedLemmas.{outward_on}

module _ (parts : Parts) (sound : IsSound parts) (text : List (List ℕ)) (fits : FitsText parts text) where
  abbrev texts : ℕ → List (List ℕ)
  texts = fits.texts

  abbrev way : List ℕ
  way = fits.are_states.way

  edge_on : (n p : ℕ) (o : Option Node) → node_at parts.nodes n ≡ o → option_map (λ (node : Node). node.parent) o ≡ Some p
      → IsLed Leads (unwrap_or (option_map (λ (node : Node). node.entries) o) []) (texts (if is_on way n then n else p)) (texts (if is_on way n then p else n))
  edge_on n p None is up = absurd (cc)
  edge_on n p (Some node) is up =
      let parent : node.parent ≡ p = one node.parent p up in
      turned (is_on way n) (subst (λ q. IsEdge Leads (is_on way n) node.entries (texts n) (texts q)) parent (fits.are_states.edges n node is))
    where
      one : (a b : ℕ) → Some a ≡ Some b → a ≡ b
      one a b e = cc

      turned : (back : Bool) → IsEdge Leads back node.entries (texts n) (texts p) → IsLed Leads node.entries (texts (if back then n else p)) (texts (if back then p else n))
      turned true edge = edge
      turned false edge = edge

  edge_of : (n p : ℕ) → parent_at parts.nodes n ≡ Some p → IsLed Leads (entries_at parts.nodes n) (texts (if is_on way n then n else p)) (texts (if is_on way n then p else n))
  edge_of n p up = edge_on n p (node_at parts.nodes n) refl up

  -- the text to which changes lead is that of the state
  reached : (path : List ℕ) (to : ℕ) (x : List (List ℕ)) → IsOut (λ k. parent_at parts.nodes k) (is_on way) (start way) path to → LeadsOver Leads parts.nodes path text x → x ≡ texts to
  reached [] to x out led = led ∙ (fits.current ∙ ap texts (sym fits.are_states.is_way.starts ∙ sym out))
  reached (n ∷ path) to x out led =
      let p : ℕ = out.0 in
      let from : ℕ = if is_on way n then n else p in
      let here : led.0 ≡ texts from = reached path from led.0 out.1.2 led.1.0 in
      let edge : IsLed Leads (entries_at parts.nodes n) led.0 (texts to) =
      subst (λ t. IsLed Leads (entries_at parts.nodes n) led.0 (texts t)) (sym out.1.1) (subst (λ t. IsLed Leads (entries_at parts.nodes n) t (texts (if is_on way n then p else n))) (sym here) (edge_of n p out.1.0)) in
      led_once Leads one_text (entries_at parts.nodes n) led.0 x (texts to) led.1.1 edge

  pub no_misfit : (n : ℕ) → IsMisfit parts text n → ⊥
  no_misfit n is =
      let out = outward_on parts sound.tree way (n ∷ is.path) is.to fits.are_states.is_way is.outward in
      let p : ℕ = out.0 in
      let from : ℕ = if is_on way n then n else p in
      let here : is.here ≡ texts from = reached is.path from is.here out.1.2 is.led in
      is.none (texts (if is_on way n then p else n)) (subst (λ t. IsLed Leads (entries_at parts.nodes n) t (texts (if is_on way n then p else n))) (sym here) (edge_of n p out.1.0))

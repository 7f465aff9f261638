-- Entries that lead over a path lead over each part with which it begins, and to one end.
use Rattle.std.proofs.Common.{◌≡◌, ℕ, ◌+◌, ◌-◌, ◌<◌, List, [], ◌∷◌, ◌++◌, length, get_or, take, drop, map, arith, ◌⊎◌, inl, inr, Option, Some, IfSome, sym, ap, subst, ◌∙◌}
use Rattle.std.proofs.lemmas.List.{drop_more, length-take, take-append-drop, take-append-le}
use Rattle.vs_entries.specs.declared.entry.Entry.{Entry}
use Rattle.vs_entries.specs.Entries.{Leads, LeadsCount}
use Rattle.vs_undo.specs.declared.parts.Node.{Node}
use Rattle.vs_undo.specs.Edges.{IsLed}
use Rattle.vs_outward.specs.declared.trail.Step.{Step}
use Rattle.vs_outward.specs.Outward.{entries_at, LeadsOver}
use Rattle.vs_outward.specs.Trails.{HasTrail}

pub one_text : (entry : Entry) (x y z : List (List ℕ)) → Leads entry x y → Leads entry x z → y ≡ z
one_text entry x y z a b = a.is ∙ sym b.is

pub one_count : (entry : Entry) (x y z : ℕ) → LeadsCount entry x y → LeadsCount entry x z → y ≡ z
one_count entry x y z a b = a.is ∙ sym b.is

module _ {X : Type 0} (L : Entry → X → X → Type 0) where
  pub over_before : (nodes : List Node) (after before : List ℕ) (from to : X) → LeadsOver L nodes (after ++ before) from to → (x : X) × LeadsOver L nodes before from x
  over_before nodes [] before from to led = (to, led)
  over_before nodes (n ∷ after) before from to led = over_before nodes after before from led.0 led.1.0

  pub trail_over : (nodes : List Node) (trail : List Step) (from to : X) → HasTrail L nodes trail from to → LeadsOver L nodes (map (λ (step : Step). step.number) trail) from to
  trail_over nodes [] from to has = has
  trail_over nodes (step ∷ trail) from to has = (has.0, (trail_over nodes trail from has.0 has.1.0, has.1.1))

  -- one entry more, of those that lead on
  pub ahead_more : (entries : List Entry) (i : ℕ) (entry : Entry) (first here next : X) → i < length entries → entry ≡ get_or entries i entry → L entry here next
      → ((to : X) → IsLed L (drop i entries) here to → IsLed L entries first to) → (to : X) → IsLed L (drop (i + 1) entries) next to → IsLed L entries first to
  ahead_more entries i entry first here next within is leads ahead to led =
      let cut : drop i entries ≡ entry ∷ drop (i + 1) entries = drop_more entries i entry within ∙ ap (λ e. e ∷ drop (i + 1) entries) (sym is) in
      ahead to (subst (λ es. IsLed L es here to) (sym cut) (next, (leads, led)))

  module _ (one : (entry : Entry) (x y z : X) → L entry x y → L entry x z → y ≡ z) where
    pub led_once : (entries : List Entry) (x y z : X) → IsLed L entries x y → IsLed L entries x z → y ≡ z
    led_once [] x y z a b = sym a ∙ b
    led_once (entry ∷ entries) x y z a b =
        let same : a.0 ≡ b.0 = one entry x a.0 b.0 a.1.0 b.1.0 in
        led_once entries b.0 y z (subst (λ k. IsLed L entries k y) same a.1.1) b.1.1

    pub over_once : (nodes : List Node) (path : List ℕ) (x y z : X) → LeadsOver L nodes path x y → LeadsOver L nodes path x z → y ≡ z
    over_once nodes [] x y z a b = a ∙ sym b
    over_once nodes (n ∷ path) x y z a b =
        let same : a.0 ≡ b.0 = over_once nodes path x a.0 b.0 a.1.0 b.1.0 in
        led_once (entries_at nodes n) b.0 y z (subst (λ k. IsLed L (entries_at nodes n) k y) same a.1.1) b.1.1

    -- what leads over all entries leads over those that are left
    pub left_more : (entries : List Entry) (i : ℕ) (entry : Entry) (first here next : X) → i < length entries → entry ≡ get_or entries i entry → L entry here next
        → ((to : X) → IsLed L entries first to → IsLed L (drop i entries) here to) → (to : X) → IsLed L entries first to → IsLed L (drop (i + 1) entries) next to
    left_more entries i entry first here next within is leads left to led =
        let cut : drop i entries ≡ entry ∷ drop (i + 1) entries = drop_more entries i entry within ∙ ap (λ e. e ∷ drop (i + 1) entries) (sym is) in
        let rest = subst (λ es. IsLed L es here to) cut (left to led) in
        subst (λ k. IsLed L (drop (i + 1) entries) k to) (one entry here rest.0 next rest.1.0 leads) rest.1.1

-- an entry that leads nowhere bars those after it
pub left_none : (entries : List Entry) (i : ℕ) (entry : Entry) (here to : List (List ℕ)) → i < length entries → entry ≡ get_or entries i entry
    → ((there : List (List ℕ)) → Leads entry here there → ⊥) → IsLed Leads (drop i entries) here to → ⊥
left_none entries i entry here to within is none led =
    let cut : drop i entries ≡ entry ∷ drop (i + 1) entries = drop_more entries i entry within ∙ ap (λ e. e ∷ drop (i + 1) entries) (sym is) in
    let rest = subst (λ es. IsLed Leads es here to) cut led in
    none rest.0 rest.1.0

-- two ways to cut a list: the end of one is part of the end of the other
pub ends : (a b c d : List ℕ) → a ++ b ≡ c ++ d → ((e : List ℕ) × (d ≡ e ++ b)) ⊎ ((e : List ℕ) × (b ≡ e ++ d))
ends [] b c d is = inr (c, is)
ends (x ∷ a) b [] d is = inl (x ∷ a, sym is)
ends (x ∷ a) b (y ∷ c) d is = let same : a ++ b ≡ c ++ d = cc in ends a b c d same

-- what holds of the value, where there is one
pub if_some : {T : Type 0} (o : Option T) (x : T) (P : T → Type 0) → o ≡ Some x → IfSome o P → P x
if_some o x P is holds = subst (λ k. IfSome k P) is holds

-- one element fewer of those that are left
pub take_less : {X : Type 0} (old xs : List X) (k : ℕ) → xs ≡ take (length old - k) old → take (length xs - 1) xs ≡ take (length old - (k + 1)) old
take_less old xs k is =
    let n = length old - k in
    let long : length (take n old) ≡ n = simp length-take (omega arith) in
    let size : length xs ≡ n = ap length is ∙ long in
    ap (take (length xs - 1)) is ∙ (sym (take-append-le (length xs - 1) (take n old) (drop n old) (omega (arith, size, long)))
    ∙ (ap (take (length xs - 1)) (take-append-drop n old) ∙ ap (λ j. take j old) (omega (arith, size))))

-- a list is cut at one of its elements
pub cut_path : (path : List ℕ) (k : ℕ) → k < length path → path ≡ take k path ++ get_or path k 0 ∷ drop (k + 1) path
cut_path path k within = sym (take-append-drop k path) ∙ ap (λ xs. take k path ++ xs) (drop_more path k 0 within)

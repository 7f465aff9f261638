-- Entries that lead between states, one after another.
use Rattle.std.proofs.Common.{◌≡◌, ℕ, ◌+◌, ◌<◌, List, [], ◌∷◌, ◌++◌, append_assoc, length, get_or, drop, sym, ap, subst, ◌∙◌}
use Rattle.std.proofs.lemmas.List.{drop_more}
use Rattle.vs_entries.specs.declared.entry.Entry.{Entry}
use Rattle.vs_entries.specs.Entries.{applied, led_back}
use Rattle.vs_undo.specs.Edges.{IsLed}
use Rattle.vs_undo.specs.Turns.{all_led_back}

-- one entry of those that are left
pub led_step : {X : Type 0} (L : Entry → X → X → Type 0) (entries : List Entry) (i : ℕ) (entry : Entry) → i < length entries → entry ≡ get_or entries i entry
    → (from to : X) → IsLed L (drop i entries) from to → (x : X) × (L entry from x × IsLed L (drop (i + 1) entries) x to)
led_step L entries i entry within is from to led =
    let cut : drop i entries ≡ entry ∷ drop (i + 1) entries = drop_more entries i entry within ∙ ap (λ e. e ∷ drop (i + 1) entries) (sym is) in
    subst (λ es. IsLed L es from to) cut led

-- one more entry is applied, and leads back before the others
pub back_step : (entries : List Entry) (i : ℕ) (entry other : Entry) (text now next : List (List ℕ)) (before after : List Entry) → i < length entries → entry ≡ get_or entries i entry → next ≡ applied entry now → other ≡ led_back entry now
    → after ≡ other ∷ before → all_led_back entries text ≡ all_led_back (drop i entries) now ++ before → all_led_back entries text ≡ all_led_back (drop (i + 1) entries) next ++ after
back_step entries i entry other text now next before after within is next_is other_is after_is whole =
    let rest = drop (i + 1) entries in
    let cut : drop i entries ≡ entry ∷ rest = drop_more entries i entry within ∙ ap (λ e. e ∷ rest) (sym is) in
    whole ∙ (ap (λ es. all_led_back es now ++ before) cut ∙ (append_assoc (all_led_back rest (applied entry now)) (led_back entry now ∷ []) before
    ∙ (ap (λ t. all_led_back rest t ++ (led_back entry now ∷ before)) (sym next_is) ∙ ap (λ es. all_led_back rest next ++ es) (ap (λ e. e ∷ before) (sym other_is) ∙ sym after_is))))

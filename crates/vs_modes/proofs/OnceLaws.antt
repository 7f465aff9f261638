-- What is salvaged of a swap file has one number of markers.
use Rattle.std.proofs.Common.{◌≡◌, ℕ, List, [], ◌∷◌, Option, Some, None, Ok, sym, ap, ◌∙◌, subst}
use Rattle.vs_text.specs.declared.format.Format.{Format}
use Rattle.vs_swap.specs.Files.{format_by}
use Rattle.vs_damaged.specs.Items.{Item, bounded, markers_in}
use Rattle.vs_damaged.specs.Salvage.{Damaged, Salvages, first_pages}
use Rattle.vs_damaged.proofs.SalvageLaws.{gives_once}
use Rattle.vs_recover.specs.Salvage.{SalvagesOf, damaged}

same_markers : (d : Damaged) (first second : List ℕ) (a b : ℕ) → Salvages d first a → Salvages d second b → a ≡ b
same_markers d first second a b one two =
    let items : one.items ≡ two.items = gives_once d (first_pages ∷ []) _ one.items two.items one.gives two.gives in
    one.markers_are ∙ (ap (λ (is : List Item). markers_in (bounded is)) items ∙ sym two.markers_are)

pub markers_once : (swap original : Option (List ℕ)) (first second : List ℕ) (a b : ℕ) → SalvagesOf swap original first a → SalvagesOf swap original second b → a ≡ b
markers_once None original first second a b one two = absurd one
markers_once (Some file) original first second a b one two =
    let read : Ok one.2.zero ≡ Ok two.2.zero = sym one.2.reads ∙ two.2.reads in
    let same : one.2.zero ≡ two.2.zero = cc in
    let size : one.0 ≡ two.0 = sym one.2.size ∙ (ap (λ zero. zero.page_size) same ∙ two.2.size) in
    let format : one.1 ≡ two.1 = sym one.2.format_is ∙ (ap (λ zero. format_by zero.format) same ∙ two.2.format_is) in
    let sized : Salvages (damaged file two.0 one.1 original) first a = subst (λ (n : ℕ). Salvages (damaged file n one.1 original) first a) size one.2 in
    same_markers (damaged file two.0 two.1 original) first second a b (subst (λ (f : Format). Salvages (damaged file two.0 f original) first a) format sized) two.2

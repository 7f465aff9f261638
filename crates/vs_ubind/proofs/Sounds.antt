-- The tree that the data of a file stands for is one.
use Rattle.std.proofs.Common.{◌≡◌, ◌≢◌, ◌⊎◌, inl, inr, ℕ, zero, suc, ◌<◌, ◌≤◌, Bool, List, [], ◌∷◌, length, Option, Some, None, option_map, refl, sym, ap, subst, ◌∙◌, arith}
use Rattle.std.specs.Prelude.{Contains, IsSome}
use Rattle.std.specs.List.{AllByRecursion}
use Rattle.std.proofs.lemmas.Bool.{cases_eq}
use Rattle.std.proofs.lemmas.List.{get_or_default}
use Rattle.vs_entries.specs.declared.entry.Entry.{Entry}
use Rattle.vs_undo.specs.declared.TheConstants.{MAX_LAST}
use Rattle.vs_undo.specs.declared.parts.Node.{Node}
use Rattle.vs_undo.specs.declared.parts.Parts.{Parts}
use Rattle.vs_undo.specs.Ways.{node_at, parent_at, save_at, HasWay, IsKept}
use Rattle.vs_undo.specs.Sound.{child_of, IsSound}
use Rattle.vs_undo.proofs.DepthLemmas.{number_of}
use Rattle.vs_ufile.specs.Values as file
use Rattle.vs_ufile.specs.Decode.{KeepsRules}
use Rattle.vs_ufile.specs.Tree.{numbers, AreAncestors, IsChange, IsParent}
use Rattle.vs_ubind.specs.Meaning.{entries_in, flagged, last_flag, IsKeptSave, Means}
use Rattle.vs_ubind.proofs.Members.{child_none, child_used, known_cases, known_kept, node_change, not_root, parent_known, parent_of, parent_there, root_parent, save_cases}

-- ---- entries
pub same_count : (entries : List Entry) → length (last_flag entries) ≡ length entries
same_count [] = refl
same_count (entry ∷ []) = refl
same_count (entry ∷ next ∷ entries) = ap suc (same_count (next ∷ entries))

flagged_count : (flag : Bool) (es : List file.Entry) → length (flagged flag es) ≡ length es
flagged_count flag [] = refl
flagged_count flag (x ∷ []) = refl
flagged_count flag (x ∷ y ∷ es) = ap suc (flagged_count flag (y ∷ es))

some_entries : (flag : Bool) (es : List file.Entry) → 0 < length (entries_in flag es)
some_entries flag [] = omega arith
some_entries flag (e ∷ es) = omega (arith, flagged_count flag (e ∷ es))

-- ---- save numbers
all_at : (P : file.Change → Type 0) (changes : List file.Change) → AllByRecursion P changes → (change : file.Change) → Contains changes change → P change
all_at P [] all change is = absurd (omega (arith, is.1))
all_at P (c ∷ changes) all change (zero, lt, e) = subst P e all.0
all_at P (c ∷ changes) all change (suc i, lt, e) = all_at P changes all.1 change (i, omega (arith, lt), e)

module _ (h : file.History) (rules : KeepsRules h) (parts : Parts) (means : Means h parts) where
  abbrev changes : List file.Change
  changes = h.changes

  abbrev nodes : List Node
  nodes = parts.nodes

  kept_change : (n : ℕ) → IsKept nodes n → (n ≡ 0) ⊎ IsChange changes n
  kept_change n (inl e) = inl e
  kept_change n (inr some) = there (node_at nodes n) refl some
    where
      there : (o : Option Node) → node_at nodes n ≡ o → IsSome (node_at nodes n) → (n ≡ 0) ⊎ IsChange changes n
      there None is kept = absurd (let e : IsSome {T = Node} None = subst IsSome is kept in cc)
      there (Some node) is kept = inr (node_change h rules parts means n node is)

  -- ---- ways
  way_up : (ancestors : List ℕ) (n : ℕ) → IsKept nodes n → AreAncestors changes n ancestors → HasWay nodes n
  way_up [] n kept end = record { way = []; is = record { is_way = tt; starts = sym end } }
  way_up (p ∷ ancestors) n kept up = elim (kept_change n kept) [
    | inl e ↦ absurd (root_parent h rules p (subst (λ m. IsParent changes m p) e up.0))
    | inr is ↦
        let more = way_up ancestors p (known_kept h rules parts means p (parent_known h rules n p up.0)) up.1 in
        record {
          way = n ∷ more.way;
          is = record { is_way = (parent_there h rules parts means n p is up.0 ∙ ap Some (sym more.is.starts), more.is.is_way); starts = refl };
        }
  ]

  has_way : ((n : ℕ) → IsChange changes n → (ancestors : List ℕ) × AreAncestors changes n ancestors) → (n : ℕ) → IsKept nodes n → HasWay nodes n
  has_way ways n kept = elim (kept_change n kept) [
    | inl e ↦ record { way = []; is = record { is_way = tt; starts = sym e } }
    | inr is ↦ let up = ways n is in way_up up.0 n kept up.1
  ]

  root_gone : node_at nodes 0 ≡ None
  root_gone = gone (node_at nodes 0) refl
    where
      gone : (o : Option Node) → node_at nodes 0 ≡ o → node_at nodes 0 ≡ None
      gone None is = is
      gone (Some node) is = absurd (not_root h rules (node_change h rules parts means 0 node is))

  -- ---- the current state, and children
  current_kept : IsKept nodes parts.current
  current_kept = elim (cases_eq h.current_head 0) [
    | inl none ↦ known_kept h rules parts means parts.current (subst (λ n. (n ≡ 0) ⊎ IsChange changes n) (sym (means.at_newest none)) (known_cases (numbers changes) h.newest rules.links.newest))
    | inr some ↦ known_kept h rules parts means parts.current (parent_known h rules h.current_head parts.current (means.at_head some))
  ]

  node_or : (o : Option Node) → (o ≡ None) ⊎ ((node : Node) × (o ≡ Some node))
  node_or None = inl refl
  node_or (Some node) = inr (node, refl)

  kept_or_none : (n : ℕ) → IsKept nodes n ⊎ (child_of parts n ≡ 0)
  kept_or_none n = elim (cases_eq n 0) [
    | inl e ↦ inl (inl e)
    | inr some ↦ elim (node_or (node_at nodes n)) [
      | inl gone ↦ inr (child_none h rules parts means n gone some)
      | inr node ↦ inl (inr (subst IsSome (sym node.1) refl))
    ]
  ]

  each_child : (n : ℕ) → child_of parts n ≢ 0 → parent_at nodes (child_of parts n) ≡ Some n
  each_child n some = elim (kept_or_none n) [
    | inl kept ↦
        let first = (child_used h rules parts means n kept).first some in
        parent_there h rules parts means (child_of parts n) n first.0.change (child_of parts n, first.0, first.1)
    | inr end ↦ absurd (some end)
  ]

  some_child : (n child : ℕ) → parent_at nodes child ≡ Some n → child_of parts n ≢ 0
  some_child n child is end = elim (node_or (node_at nodes child)) [
    | inl gone ↦ absurd (let e : Some n ≡ None = sym is ∙ ap (λ o. option_map (λ (m : Node). m.parent) o) gone in cc)
    | inr node ↦
        let own = parent_of h rules parts means child node.0 node.1 in
        let same : node.0.parent ≡ n = number (node.0.parent) n (sym (ap (λ o. option_map (λ (m : Node). m.parent) o) node.1) ∙ is) in
        let up = subst (IsParent changes child) same own in
        let kept = known_kept h rules parts means n (parent_known h rules child n up) in
        (child_used h rules parts means n kept).none end child (node_change h rules parts means child node.0 node.1) up
  ]
    where
      number : (a b : ℕ) → Some a ≡ Some b → a ≡ b
      number a b e = cc

  -- ---- numbers and save numbers
  number_read : (n : ℕ) → IsKept nodes n → n ≤ 2147483647
  number_read n kept = elim (kept_change n kept) [
    | inl e ↦ omega (arith, e)
    | inr is ↦ let range = rules.numbers.range is.0 0 is.1 in omega (arith, range.1, get_or_default (numbers changes) is.0 0 n is.1 ∙ is.2)
  ]

  number_below : (n : ℕ) → IsKept nodes n → n ≤ parts.last
  number_below n kept = elim (kept_change n kept) [
    | inl e ↦ omega (arith, e)
    | inr is ↦ means.last.below n is
  ]

  -- a change that keeps its save number has the greatest number of those with it
  keeps : (change : file.Change) (save : ℕ) → IsKeptSave changes change save → save ≢ 0 → (save ≡ change.save) × ((other : file.Change) → Contains changes other → other.save ≡ change.save → other.number ≤ change.number)
  keeps change save (inl own) some = (own.0, own.1 (λ e. some (own.0 ∙ e)))
  keeps change save (inr lost) some = absurd (some lost.0)

  save_differ : (a b : ℕ) → save_at nodes a ≢ 0 → save_at nodes a ≡ save_at nodes b → a ≡ b
  save_differ a b some same = elim (save_cases h rules parts means a) [
    | inl none ↦ absurd (some none)
    | inr x ↦ elim (save_cases h rules parts means b) [
      | inl none ↦ absurd (some (same ∙ none))
      | inr y ↦
          let s = means.changes a x.0 x.1 in
          let t = means.changes b y.0 y.1 in
          let one = keeps s.0 x.0.save s.2.save (λ e. some (x.2 ∙ e)) in
          let two = keeps t.0 y.0.save t.2.save (λ e. some (same ∙ (y.2 ∙ e))) in
          let saves : x.0.save ≡ y.0.save = sym x.2 ∙ (same ∙ y.2) in
          let shared : t.0.save ≡ s.0.save = sym two.0 ∙ (sym saves ∙ one.0) in
          let le = one.1 t.0 t.1 shared in
          let ge = two.1 s.0 s.1 (sym shared) in
          omega (arith, le, ge, s.2.number, t.2.number, number_of nodes a x.0 x.1, number_of nodes b y.0 y.1)
    ]
  ]

  save_below : (n : ℕ) → save_at nodes n ≤ parts.last_save
  save_below n = elim (save_cases h rules parts means n) [
    | inl none ↦ omega (arith, none)
    | inr x ↦ elim (cases_eq x.0.save 0) [
      | inl none ↦ omega (arith, x.2, none)
      | inr some ↦
          let s = means.changes n x.0 x.1 in
          let own = keeps s.0 x.0.save s.2.save some in
          let le = means.last_save.below s.0.save (s.0, s.1, refl) in
          omega (arith, x.2, own.0, le)
    ]
  ]

  save_limit : parts.last_save ≤ 2000000000
  save_limit = elim means.last_save.one [
    | inl field ↦ let most = rules.last_save in omega (arith, field, most)
    | inr has ↦ let most = all_at (λ c. c.save ≤ 2000000000) changes rules.saves has.0 has.1 in omega (arith, has.2, most)
  ]

  entries_there : (n : ℕ) (node : Node) → node_at nodes n ≡ Some node → 0 < length node.entries
  entries_there n node is =
      let s = means.changes n node is in
      let own = entries_in s.0.empty s.0.entries in
      omega (arith, same_count node.entries, same_count own, ap length s.2.entries, some_entries s.0.empty s.0.entries)

  -- where the ways of the changes end, and the last number is one of the format
  pub is_sound : ((n : ℕ) → IsChange changes n → (ancestors : List ℕ) × AreAncestors changes n ancestors) → parts.last ≤ MAX_LAST → IsSound parts
  is_sound ways most = record {
    tree = record { root = root_gone; ways = has_way ways };
    current = current_kept;
    children = record { each = each_child; some = some_child };
    numbers = record { rising = means.rising; below = number_below; read = number_read; last = most };
    saves = record { differ = save_differ; below = save_below; last = save_limit };
    entries = entries_there;
  }

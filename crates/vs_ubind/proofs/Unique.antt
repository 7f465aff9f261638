-- The data of a file stands for one tree, but for the flags that do not show.
use Rattle.std.proofs.Common.{◌≡◌, ◌≢◌, ◌⊎◌, inl, inr, ℕ, zero, suc, ◌<◌, ◌≤◌, List, [], ◌∷◌, length, get_or, map, if◌then◌else◌, Some, refl, sym, ap, subst, ◌∙◌, arith}
use Rattle.std.specs.Prelude.{Contains}
use Rattle.std.proofs.lemmas.Bool.{cases_eq, cases_lt}
use Rattle.std.proofs.lemmas.Bool.Decides.{eqb_tells}
use Rattle.std.proofs.lemmas.List.{ext_get_or, get_or_default, get_or-map, length-map}
use Rattle.vs_undo.specs.declared.parts.Node.{Node}
use Rattle.vs_undo.specs.declared.parts.Parts.{Parts}
use Rattle.vs_undo.specs.Ways.{node_at}
use Rattle.vs_undo.specs.History.{links_of, without_entries}
use Rattle.vs_undo.proofs.DepthLemmas.{number_of}
use Rattle.vs_ufile.specs.Values as file
use Rattle.vs_ufile.specs.Decode.{KeepsRules}
use Rattle.vs_ufile.specs.Descent.{IsLastUsed}
use Rattle.vs_ufile.specs.Tree.{numbers, IsChange}
use Rattle.vs_ubind.specs.Meaning.{entries_in, last_flag, HasSave, IsGreatest, IsKeptSave, Means}
use Rattle.vs_ubind.proofs.Chains.{none}
use Rattle.vs_ubind.proofs.Marked.{Rises, rises_from}
use Rattle.vs_ubind.proofs.Members.{change_node, found, node_change, one_parent, parent_of}

-- ---- rising numbers
abbrev names : List Node → List ℕ
names nodes = map (λ (n : Node). n.number) nodes

above : (nodes : List Node) (below : ℕ) → Rises below nodes → (n : ℕ) → Contains (names nodes) n → below < n
above [] below rises n is = absurd (omega (arith, is.1))
above (node ∷ nodes) below rises n (zero, lt, e) = let up = rises.0 in omega (arith, up, e)
above (node ∷ nodes) below rises n (suc i, lt, e) = let up = rises.0 in let more = above nodes node.number rises.1 n (i, omega (arith, lt), e) in omega (arith, up, more)

later : (node : Node) (nodes : List Node) (n : ℕ) → Contains (names (node ∷ nodes)) n → (node.number ≡ n) ⊎ Contains (names nodes) n
later node nodes n (zero, lt, e) = inl e
later node nodes n (suc i, lt, e) = inr (i, omega (arith, lt), e)

in_tail : (node other : Node) (nodes others : List Node) → Rises node.number nodes → node.number ≡ other.number → ((n : ℕ) → Contains (names (node ∷ nodes)) n → Contains (names (other ∷ others)) n)
    → (n : ℕ) → Contains (names nodes) n → Contains (names others) n
in_tail node other nodes others rises same to n is = elim (later other others n (to n (suc is.0, omega (arith, is.1), is.2))) [
  | inl e ↦ let up = above nodes node.number rises n is in absurd (omega (arith, up, e, same))
  | inr more ↦ more
]

same_numbers : (ones twos : List Node) (below : ℕ) → Rises below ones → Rises below twos → ((n : ℕ) → Contains (names ones) n → Contains (names twos) n) → ((n : ℕ) → Contains (names twos) n → Contains (names ones) n) → names ones ≡ names twos
same_numbers [] [] below ra rb to back = refl
same_numbers [] (b ∷ twos) below ra rb to back = absurd (let is = back b.number (0, omega arith, refl) in omega (arith, is.1))
same_numbers (a ∷ ones) [] below ra rb to back = absurd (let is = to a.number (0, omega arith, refl) in omega (arith, is.1))
same_numbers (a ∷ ones) (b ∷ twos) below ra rb to back =
    let same : a.number ≡ b.number = elim (later b twos a.number (to a.number (0, omega arith, refl))) [
      | inl e ↦ sym e
      | inr more ↦ elim (later a ones b.number (back b.number (0, omega arith, refl))) [
        | inl e ↦ e
        | inr other ↦
            let one = above twos b.number rb.1 a.number more in
            let two = above ones a.number ra.1 b.number other in
            absurd (omega (arith, one, two))
      ]
    ] in
    let rest = same_numbers ones twos a.number ra.1 (subst (λ n. Rises n twos) (sym same) rb.1) (in_tail a b ones twos ra.1 same to) (in_tail b a twos ones rb.1 (sym same) back) in
    λ i. same i ∷ rest i

one_greatest : (field : ℕ) (P : ℕ → Type 0) (k l : ℕ) → IsGreatest field P k → IsGreatest field P l → k ≡ l
one_greatest field P k l x y =
    let le = at_most field P k l x y in
    let ge = at_most field P l k y x in
    omega (arith, le, ge)
  where
    at_most : (field : ℕ) (P : ℕ → Type 0) (k l : ℕ) → IsGreatest field P k → IsGreatest field P l → k ≤ l
    at_most field P k l x y = elim x.one [
      | inl e ↦ let low = y.field_below in omega (arith, e, low)
      | inr is ↦ y.below k is
    ]

-- ---- one tree
module _ (h : file.History) (rules : KeepsRules h) where
  abbrev changes : List file.Change
  changes = h.changes

  one_change : (c d : file.Change) → Contains changes c → Contains changes d → c.number ≡ d.number → c ≡ d
  one_change c d one two same =
      let size : length (numbers changes) ≡ length changes = length-map changes (λ (x : file.Change). x.number) in
      let first : get_or (numbers changes) one.0 0 ≡ c.number = get_or-map (λ (x : file.Change). x.number) changes one.0 c 0 one.1 ∙ ap (λ (x : file.Change). x.number) one.2 in
      let second : get_or (numbers changes) two.0 0 ≡ d.number = get_or-map (λ (x : file.Change). x.number) changes two.0 d 0 two.1 ∙ ap (λ (x : file.Change). x.number) two.2 in
      elim (cases_lt one.0 two.0) [
        | inl lt ↦ absurd (rules.numbers.distinct one.0 two.0 0 lt (omega (arith, two.1, size)) (first ∙ (same ∙ sym second)))
        | inr ge ↦ elim (cases_lt two.0 one.0) [
          | inl lt ↦ absurd (rules.numbers.distinct two.0 one.0 0 lt (omega (arith, one.1, size)) (second ∙ (sym same ∙ sym first)))
          | inr le ↦
              let here : one.0 ≡ two.0 = omega (arith, ge, le) in
              sym one.2 ∙ (ap (λ k. get_or changes k c) here ∙ (get_or_default changes two.0 c d two.1 ∙ two.2))
        ]
      ]

  -- a child last used where another says that there is none
  no_child : (state p q : ℕ) → IsLastUsed changes state p → IsLastUsed changes state q → p ≡ 0 → q ≡ 0
  no_child state p q x y end = elim (cases_eq q 0) [
    | inl e ↦ e
    | inr some ↦ let first = y.first some in absurd (x.none end q first.0.change (q, first.0, first.1))
  ]

  one_used : (state p q : ℕ) → IsLastUsed changes state p → IsLastUsed changes state q → p ≡ q
  one_used state p q x y = elim (cases_eq p 0) [
    | inl e ↦ e ∙ sym (no_child state p q x y e)
    | inr some ↦ elim (cases_eq p q) [
      | inl same ↦ same
      | inr apart ↦
          let other : q ≢ 0 = λ e. some (no_child state q p y x e) in
          let first = x.first some in
          let second = y.first other in
          absurd (rules.tree p (first.0.change, inr (λ k here bad. rules.tree k (here, inl bad), inr (p, q, first.0, second.0, apart, first.1 ∙ sym second.1))))
    ]
  ]

  save_or : (c : file.Change) (save : ℕ) → IsKeptSave changes c save → (lost : ℕ) → ((lost ≡ 0) × ((other : file.Change) × Contains changes other × (other.save ≡ c.save) × (c.number < other.number))) → save ≡ lost
  save_or c save (inr gone) lost w = gone.0 ∙ sym w.0
  save_or c save (inl own) lost w = elim (cases_eq c.save 0) [
    | inl none ↦ own.0 ∙ (none ∙ sym w.0)
    | inr some ↦ let le = own.1 some w.1.0 w.1.1 w.1.2 in absurd (omega (arith, le, w.1.3))
  ]

  one_save : (c : file.Change) (s t : ℕ) → IsKeptSave changes c s → IsKeptSave changes c t → s ≡ t
  one_save c s t (inl x) (inl y) = x.0 ∙ sym y.0
  one_save c s t x (inr y) = save_or c s x t y
  one_save c s t (inr x) y = sym (save_or c t y s x)

  module _ (a b : Parts) (ma : Means h a) (mb : Means h b) where
    same_node : (n : ℕ) (x y : Node) → node_at a.nodes n ≡ Some x → node_at b.nodes n ≡ Some y → (without_entries x ≡ without_entries y) × (last_flag x.entries ≡ last_flag y.entries)
    same_node n x y one two =
        let s = ma.changes n x one in
        let t = mb.changes n y two in
        let number : x.number ≡ y.number = number_of a.nodes n x one ∙ sym (number_of b.nodes n y two) in
        let same : s.0 ≡ t.0 = one_change s.0 t.0 s.1 t.1 (sym s.2.number ∙ (number ∙ t.2.number)) in
        let parent : x.parent ≡ y.parent = one_parent h rules n x.parent y.parent (parent_of h rules a ma n x one) (parent_of h rules b mb n y two) in
        let child : x.last_child ≡ y.last_child =
        one_used s.0.number x.last_child y.last_child s.2.last_child (subst (λ (c : file.Change). IsLastUsed changes c.number y.last_child) (sym same) t.2.last_child) in
        let time : x.time ≡ y.time = s.2.time ∙ (ap (λ (c : file.Change). c.time) same ∙ sym t.2.time) in
        let save : x.save ≡ y.save = one_save s.0 x.save y.save s.2.save (subst (λ c. IsKeptSave changes c y.save) (sym same) t.2.save) in (
          λ i. record { number = number i; parent = parent i; last_child = child i; time = time i; save = save i; entries = [] },
          s.2.entries ∙ (ap (λ (c : file.Change). last_flag (entries_in c.empty c.entries)) same ∙ sym t.2.entries),
        )

    name_here : (p : Parts) (m : Means h p) (n : ℕ) → Contains (names p.nodes) n → IsChange changes n
    name_here p m n is =
        let inside : is.0 < length p.nodes = omega (arith, is.1, length-map p.nodes (λ (x : Node). x.number)) in
        let number : (get_or p.nodes is.0 none).number ≡ n = sym (get_or-map (λ (x : Node). x.number) p.nodes is.0 none n inside) ∙ is.2 in
        node_change h rules p m n (get_or p.nodes is.0 none) (ap (λ k. node_at p.nodes k) (sym number) ∙ found h rules p m is.0 inside)

    name_there : (p : Parts) (m : Means h p) (n : ℕ) → IsChange changes n → Contains (names p.nodes) n
    name_there p m n is = let node = change_node h rules p m n is in in_names p.nodes n node.0 node.1
      where
        in_names : (nodes : List Node) (n : ℕ) (node : Node) → node_at nodes n ≡ Some node → Contains (names nodes) n
        in_names [] n node is = absurd (cc)
        in_names (first ∷ nodes) n node is = elim (eqb_tells first.number n) [
          | inl same ↦ (0, omega arith, same.1)
          | inr other ↦
              let more = in_names nodes n node (sym (ap (λ t. if t then Some first else node_at nodes n) other.0) ∙ is) in
              (suc more.0, omega (arith, more.1), more.2)
        ]

    same_names : names a.nodes ≡ names b.nodes
    same_names =
        same_numbers a.nodes b.nodes 0 (rises_from a.nodes 0 ma.rising) (rises_from b.nodes 0 mb.rising)
        (λ n is. name_there b mb n (name_here a ma n is)) (λ n is. name_there a ma n (name_here b mb n is))

    same_links_at : (k : ℕ) → k < length a.nodes → without_entries (get_or a.nodes k none) ≡ without_entries (get_or b.nodes k none)
    same_links_at k lt =
        let size : length a.nodes ≡ length b.nodes = ma.count ∙ sym mb.count in
        let other : k < length b.nodes = omega (arith, lt, size) in
        let one : (get_or a.nodes k none).number ≡ get_or (names a.nodes) k 0 = sym (get_or-map (λ (x : Node). x.number) a.nodes k none 0 lt) in
        let two : get_or (names b.nodes) k 0 ≡ (get_or b.nodes k none).number = get_or-map (λ (x : Node). x.number) b.nodes k none 0 other in
        let number : (get_or a.nodes k none).number ≡ (get_or b.nodes k none).number = one ∙ (ap (λ ns. get_or ns k 0) same_names ∙ two) in
        let there : node_at b.nodes (get_or a.nodes k none).number ≡ Some (get_or b.nodes k none) = ap (λ n. node_at b.nodes n) number ∙ found h rules b mb k other in
        (same_node (get_or a.nodes k none).number (get_or a.nodes k none) (get_or b.nodes k none) (found h rules a ma k lt) there).0

    same_nodes : map without_entries a.nodes ≡ map without_entries b.nodes
    same_nodes =
        let size : length a.nodes ≡ length b.nodes = ma.count ∙ sym mb.count in
        let count_a = length-map a.nodes without_entries in
        let count_b = length-map b.nodes without_entries in
        ext_get_or none (map without_entries a.nodes) (map without_entries b.nodes) (count_a ∙ (size ∙ sym count_b)) (λ k lt.
        let inside : k < length a.nodes = omega (arith, lt, count_a) in
        get_or-map without_entries a.nodes k none none inside ∙ (same_links_at k inside ∙ sym (get_or-map without_entries b.nodes k none none (omega (arith, inside, size)))))

    same_current : a.current ≡ b.current
    same_current = elim (cases_eq h.current_head 0) [
      | inl end ↦ ma.at_newest end ∙ sym (mb.at_newest end)
      | inr some ↦ one_parent h rules h.current_head a.current b.current (ma.at_head some) (mb.at_head some)
    ]

    -- The links are the same.
    pub same_links : links_of a ≡ links_of b
    same_links =
        let child = one_used 0 a.root_child b.root_child ma.root_child mb.root_child in
        let last = one_greatest h.last (IsChange changes) a.last b.last ma.last mb.last in
        let save = one_greatest h.last_save (HasSave changes) a.last_save b.last_save ma.last_save mb.last_save in
        λ i. record { nodes = same_nodes i; root_child = child i; current = same_current i; last = last i; last_save = save i }

    -- The entries of each change are the same, but for the flags of all but the last one.
    pub same_entries : (n : ℕ) (x y : Node) → node_at a.nodes n ≡ Some x → node_at b.nodes n ≡ Some y → last_flag x.entries ≡ last_flag y.entries
    same_entries n x y one two = (same_node n x y one two).1

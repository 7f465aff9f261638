-- What a write into one change of a tree leaves.
use Rattle.std.proofs.Common.{◌≡◌, ℕ, suc, ◌<◌, ◌==◌, ◌||◌, if◌then◌else◌, true, false, List, [], ◌∷◌, ◌++◌, length, get_or, map, Option, Some, None, option_map, ◌⊎◌, inl, inr, sym, ap, ◌∙◌, arith, refl}
use Rattle.std.proofs.lemmas.Bool.Decides.{nat_tests}
use Rattle.vs_entries.specs.declared.entry.Entry.{Entry}
use Rattle.vs_undo.specs.declared.parts.Node.{Node}
use Rattle.vs_undo.specs.Ways.{node_at, is_on}
use Rattle.vs_undo.specs.History.{without_entries, changed, with_entries, installed}

-- a write at a number that is not there
pub changed_none : (number : ℕ) (f : Node → Node) (nodes : List Node) → node_at nodes number ≡ None → changed number f nodes ≡ nodes
changed_none number f [] none = refl
changed_none number f (node ∷ nodes) none =
    elim (node.number == number) as (λ b. (if b then Some node else node_at nodes number) ≡ None → (if b then f node ∷ nodes else node ∷ changed number f nodes) ≡ node ∷ nodes) [
      | true ↦ λ e. absurd (cc)
      | false ↦ λ e. ap (λ ns. node ∷ ns) (changed_none number f nodes e)
    ] none

pub length-changed : (number : ℕ) (f : Node → Node) (nodes : List Node) → length (changed number f nodes) ≡ length nodes
length-changed number f [] = refl
length-changed number f (node ∷ nodes) =
    elim (node.number == number) as (λ b. length (if b then f node ∷ nodes else node ∷ changed number f nodes) ≡ suc (length nodes)) [
      | true ↦ refl
      | false ↦ ap suc (length-changed number f nodes)
    ]

-- what a write leaves of each change, as far as g sees it
module _ {Y : Type 0} (g : Node → Y) (f : Node → Node) (same : (node : Node) → g (f node) ≡ g node) where
  pub map-changed_same : (number : ℕ) (nodes : List Node) → map g (changed number f nodes) ≡ map g nodes
  map-changed_same number [] = refl
  map-changed_same number (node ∷ nodes) =
      elim (node.number == number) as (λ b. map g (if b then f node ∷ nodes else node ∷ changed number f nodes) ≡ g node ∷ map g nodes) [
        | true ↦ ap (λ y. y ∷ map g nodes) (same node)
        | false ↦ ap (λ ys. g node ∷ ys) (map-changed_same number nodes)
      ]

  pub at-changed_same : ((node : Node) → (f node).number ≡ node.number) → (number : ℕ) (nodes : List Node) (k : ℕ)
      → option_map g (node_at (changed number f nodes) k) ≡ option_map g (node_at nodes k)
  at-changed_same numbers number [] k = refl
  at-changed_same numbers number (node ∷ nodes) k =
      elim (node.number == number) as (λ b. option_map g (node_at (if b then f node ∷ nodes else node ∷ changed number f nodes) k) ≡ option_map g (if node.number == k then Some node else node_at nodes k)) [
        | true ↦ ap (λ n. option_map g (if n == k then Some (f node) else node_at nodes k)) (numbers node) ∙
            elim (node.number == k) as (λ b. option_map g (if b then Some (f node) else node_at nodes k) ≡ option_map g (if b then Some node else node_at nodes k)) [ true ↦ ap Some (same node) | false ↦ refl ]
        | false ↦ elim (node.number == k) as (λ b. option_map g (if b then Some node else node_at (changed number f nodes) k) ≡ option_map g (if b then Some node else node_at nodes k)) [ true ↦ refl | false ↦ at-changed_same numbers number nodes k ]
      ]

-- a write that g turns into another
pub map-changed : (g f h : Node → Node) → ((node : Node) → g (f node) ≡ h (g node)) → ((node : Node) → (g node).number ≡ node.number) → (number : ℕ) (nodes : List Node)
    → map g (changed number f nodes) ≡ changed number h (map g nodes)
map-changed g f h turns numbers number [] = refl
map-changed g f h turns numbers number (node ∷ nodes) =
    ap (λ ns. ns) (elim (node.number == number) as (λ b. map g (if b then f node ∷ nodes else node ∷ changed number f nodes) ≡ (if b then h (g node) ∷ map g nodes else g node ∷ changed number h (map g nodes))) [
      | true ↦ ap (λ n. n ∷ map g nodes) (turns node)
      | false ↦ ap (λ ns. g node ∷ ns) (map-changed g f h turns numbers number nodes)
    ]) ∙ ap (λ n. if n == number then h (g node) ∷ map g nodes else g node ∷ changed number h (map g nodes)) (sym (numbers node))

-- a value that a function gives of what is there
pub was_there : {A B : Type 0} (g : A → B) (o : Option A) (y : B) → option_map g o ≡ Some y → (x : A) × ((o ≡ Some x) × (g x ≡ y))
was_there g None y is = absurd (cc)
was_there g (Some x) y is = let e : g x ≡ y = cc in (x, (refl, e))

-- The change at a number after a write: the one that was there, written or not.
abbrev pub WasThere : ℕ → (Node → Node) → List Node → ℕ → Node → Type 0
WasThere number f nodes k after =
    (node : Node) × ((node_at nodes k ≡ Some node) × (((number ≡ k) × (after ≡ f node)) ⊎ (((number == k) ≡ false) × (after ≡ node))))

pub at-changed : (number : ℕ) (f : Node → Node) → ((node : Node) → (f node).number ≡ node.number) → (nodes : List Node) (k : ℕ) (after : Node)
    → node_at (changed number f nodes) k ≡ Some after → WasThere number f nodes k after
at-changed number f numbers [] k after is = absurd (cc)
at-changed number f numbers (node ∷ nodes) k after is =
    elim (node.number == number) as (λ b. b ≡ (node.number == number) → node_at (if b then f node ∷ nodes else node ∷ changed number f nodes) k ≡ Some after → WasThere number f (node ∷ nodes) k after) [
      | true ↦ λ t e.
          let same : node.number ≡ number = grind (arith, nat_tests) in
          let e2 : (if node.number == k then Some (f node) else node_at nodes k) ≡ Some after = ap (λ n. if n == k then Some (f node) else node_at nodes k) (sym (numbers node)) ∙ e in
          elim (node.number == k) as (λ b. b ≡ (node.number == k) → (if b then Some (f node) else node_at nodes k) ≡ Some after
          → (n : Node) × (((if b then Some node else node_at nodes k) ≡ Some n) × (((number ≡ k) × (after ≡ f n)) ⊎ (((number == k) ≡ false) × (after ≡ n))))) [
            | true ↦ λ u h. let here : number ≡ k = grind (arith, nat_tests) in let is_f : after ≡ f node = cc in (node, (refl, inl (here, is_f)))
            | false ↦ λ u h. let other : (number == k) ≡ false = grind (arith, nat_tests) in (after, (h, inr (other, refl)))
          ] refl e2
      | false ↦ λ t e.
          elim (node.number == k) as (λ b. b ≡ (node.number == k) → (if b then Some node else node_at (changed number f nodes) k) ≡ Some after
          → (n : Node) × (((if b then Some node else node_at nodes k) ≡ Some n) × (((number ≡ k) × (after ≡ f n)) ⊎ (((number == k) ≡ false) × (after ≡ n))))) [
            | true ↦ λ u h. let other : (number == k) ≡ false = grind (arith, nat_tests) in let is_n : after ≡ node = cc in (node, (refl, inr (other, is_n)))
            | false ↦ λ u h. at-changed number f numbers nodes k after h
          ] refl e
    ] refl is

-- what stands at the number of a write
pub at_written : (p : ℕ) (f : Node → Node) → ((n : Node) → (f n).number ≡ n.number) → (nodes : List Node) → node_at (changed p f nodes) p ≡ option_map f (node_at nodes p)
at_written p f numbers [] = refl
at_written p f numbers (node ∷ nodes) =
    elim (node.number == p) as (λ b. b ≡ (node.number == p) → node_at (if b then f node ∷ nodes else node ∷ changed p f nodes) p ≡ option_map f (if b then Some node else node_at nodes p)) [
      | true ↦ λ t. ap (λ n. if n == p then Some (f node) else node_at nodes p) (numbers node) ∙ ap (λ b. if b then Some (f node) else node_at nodes p) (sym t)
      | false ↦ λ t. ap (λ b. if b then Some node else node_at (changed p f nodes) p) (sym t) ∙ at_written p f numbers nodes
    ] refl

-- a write leaves what stands at other numbers
pub at_other : (p k : ℕ) (f : Node → Node) → ((n : Node) → (f n).number ≡ n.number) → (nodes : List Node) → (k == p) ≡ false → node_at (changed p f nodes) k ≡ node_at nodes k
at_other p k f numbers [] other = refl
at_other p k f numbers (node ∷ nodes) other =
    elim (node.number == p) as (λ b. b ≡ (node.number == p) → node_at (if b then f node ∷ nodes else node ∷ changed p f nodes) k ≡ (if node.number == k then Some node else node_at nodes k)) [
      | true ↦ λ t. let e : (node.number == k) ≡ false = grind (arith, nat_tests) in
          ap (λ n. if n == k then Some (f node) else node_at nodes k) (numbers node) ∙ (ap (λ b. if b then Some (f node) else node_at nodes k) e ∙ sym (ap (λ b. if b then Some node else node_at nodes k) e))
      | false ↦ λ t. ap (λ o. if node.number == k then Some node else o) (at_other p k f numbers nodes other)
    ] refl

-- what g sees of changes that differ in what f leaves out alone
pub seen : {Y : Type 0} (f : Node → Node) (g : Node → Y) → ((node : Node) → g (f node) ≡ g node) → (o p : Option Node) → option_map f o ≡ option_map f p → option_map g o ≡ option_map g p
seen f g same None None e = refl
seen f g same None (Some y) e = absurd (cc)
seen f g same (Some x) None e = absurd (cc)
seen f g same (Some x) (Some y) e = let h : f x ≡ f y = cc in ap Some (sym (same x) ∙ (ap g h ∙ same y))

-- one more change of a path is written last
pub installed-push : (path : List ℕ) (turned : List (List Entry)) (number : ℕ) (entries : List Entry) (nodes : List Node) → length path ≡ length turned
    → installed (path ++ number ∷ []) (turned ++ entries ∷ []) nodes ≡ changed number (with_entries entries) (installed path turned nodes)
installed-push [] [] number entries nodes same = refl
installed-push [] (t ∷ turned) number entries nodes same = absurd (omega arith)
installed-push (p ∷ path) [] number entries nodes same = absurd (omega arith)
installed-push (p ∷ path) (t ∷ turned) number entries nodes same = installed-push path turned number entries (changed p (with_entries t) nodes) (omega arith)

-- What stands at a number after the writes of a path: the change that was there, with entries that were turned where the path has it.
pub record Installed (path : List ℕ) (turned : List (List Entry)) (nodes : List Node) (k : ℕ) (after : Node) : Type 0 where
  pub node : Node
  pub was : node_at nodes k ≡ Some node
  pub bare_is : without_entries after ≡ without_entries node
  pub entries_are : ((is_on path k ≡ false) × (after.entries ≡ node.entries)) ⊎ ((i : ℕ) × ((i < length path) × (get_or path i 0 ≡ k) × (after.entries ≡ get_or turned i [])))

pub at-installed : (path : List ℕ) (turned : List (List Entry)) (nodes : List Node) (k : ℕ) (after : Node) → length turned ≡ length path
    → node_at (installed path turned nodes) k ≡ Some after → Installed path turned nodes k after
at-installed [] turned nodes k after same is = record { node = after; was = is; bare_is = refl; entries_are = inl (refl, refl) }
at-installed (p ∷ path) [] nodes k after same is = absurd (omega arith)
at-installed (p ∷ path) (t ∷ turned) nodes k after same is =
    let ih = at-installed path turned (changed p (with_entries t) nodes) k after (omega arith) is in
    let was = at-changed p (with_entries t) (λ _. refl) nodes k ih.node ih.was in
    let bare_is : without_entries ih.node ≡ without_entries was.0 = elim was.1.1 [ inl h ↦ ap without_entries h.1 | inr h ↦ ap without_entries h.1 ] in
    record {
      node = was.0;
      was = was.1.0;
      bare_is = ih.bare_is ∙ bare_is;
      entries_are = elim ih.entries_are [
        | inl h ↦ elim was.1.1 [
          | inl w ↦ inr (0, (omega arith, w.0, h.1 ∙ ap (λ (n : Node). n.entries) w.1))
          | inr w ↦ inl (ap (λ b. b || is_on path k) w.0 ∙ h.0, h.1 ∙ ap (λ (n : Node). n.entries) w.1)
        ]
        | inr h ↦ inr (suc h.0, (omega (arith, h.1.0), h.1.1, h.1.2))
      ];
    }

-- The data of a file that is written for a sound tree keeps the rules of the format.
use Rattle.std.proofs.Common.{◌≡◌, ◌≢◌, ◌⊎◌, inl, inr, ℕ, zero, suc, ◌+◌, ◌<◌, ◌≤◌, ◌==◌, ◌||◌, if◌then◌else◌, Bool, true, false, List, [], ◌∷◌, length, get_or, map, Option, Some, None, option_map, unwrap_or, refl, sym, ap, subst, ◌∙◌, arith}
use Rattle.std.proofs.lemmas.Bool.{or_right}
use Rattle.std.proofs.lemmas.Option.{same_Some}
use Rattle.std.specs.Option.{is_some}
use Rattle.std.specs.List.{AllByRecursion}
use Rattle.std.proofs.lemmas.Bool.Decides.{eqb_tells, leb_tells}
use Rattle.std.proofs.lemmas.List.{get_or_past, length-map}
use Rattle.std.proofs.lemmas.List.Kept.{AllPairs-from_increasing}
use Rattle.vs_undo.specs.declared.parts.Node.{Node}
use Rattle.vs_undo.specs.declared.parts.Parts.{Parts}
use Rattle.vs_undo.specs.Ways.{node_at, parent_at, start, IsKept, IsWay}
use Rattle.vs_undo.specs.Numbers as rising
use Rattle.vs_undo.specs.Sound.{child_of, IsSound}
use Rattle.vs_undo.specs.History.{marked}
use Rattle.vs_undo.proofs.MarkLemmas.{marked_differs, marked_saves, still_sound}
use Rattle.vs_undo.proofs.NumberLemmas.{index_kept, number_at}
use Rattle.vs_undo.proofs.SearchLemmas.{index_found}
use Rattle.vs_ufile.specs.Values as file
use Rattle.vs_ufile.specs.Decode.{is_known, IsWellFormed, LinksAreKnown}
use Rattle.vs_ufile.specs.Failing.{AreNumbers}
use Rattle.vs_ufile.specs.Reading.{index_of}
use Rattle.vs_ufile.specs.Tree.{numbers}
use Rattle.vs_ubind.specs.Unbound.{after_in, before_in, chain_of, filed, filed_change, newest_of, used_within, with_next}
use Rattle.vs_ubind.proofs.Places.{after_at, before_at}
use Rattle.vs_ubind.proofs.Chains.{IsChild, chain_apart, chain_child, chain_place, none}
use Rattle.vs_ubind.proofs.Formed.{child_change, count_filed, makes_tree, not_zero, number_filed}

still_some : (found : Option ℕ) → is_some found ≡ true → is_some (option_map suc found) ≡ true
still_some None is = is
still_some (Some place) is = refl

index_some : (ns : List ℕ) (n k d : ℕ) → k < length ns → get_or ns k d ≡ n → is_some (index_of n ns) ≡ true
index_some [] n k d within is = absurd (omega (arith, within))
index_some (m ∷ ns) n zero d within is = elim (eqb_tells m n) [
  | inl same ↦ ap (λ b. is_some (if b then Some 0 else option_map suc (index_of n ns))) same.0
  | inr other ↦ absurd (other.1 is)
]
index_some (m ∷ ns) n (suc k) d within is =
    let more = index_some ns n k d (omega (arith, within)) is in
    elim (m == n) as (λ b. is_some (if b then Some 0 else option_map suc (index_of n ns)) ≡ true) [
      | true ↦ refl
      | false ↦ still_some (index_of n ns) more
    ]

all_filed : (parts : Parts) (P : file.Change → Type 0) (nodes : List Node) → ((k : ℕ) → k < length nodes → P (filed_change parts (get_or nodes k none))) → AllByRecursion P (map (filed_change parts) nodes)
all_filed parts P [] each = tt
all_filed parts P (node ∷ nodes) each = (each 0 (omega arith), all_filed parts P nodes (λ k within. each (suc k) (omega (arith, within))))

positive : (n : ℕ) → n ≢ 0 → 0 < n
positive zero some = absurd (some refl)
positive (suc n) some = omega arith

module _ (parts : Parts) (sound : IsSound parts) where
  abbrev changes : List file.Change
  changes = map (filed_change parts) parts.nodes

  -- the root, or a child of some state
  abbrev Known : ℕ → Type 0
  Known n = (n ≡ 0) ⊎ ((p : ℕ) × IsChild parts p n)

  known_is : (n : ℕ) → Known n → is_known (map (λ (c : file.Change). c.number) changes) n ≡ true
  known_is n (inl zero_is) = ap (λ m. is_known (map (λ (c : file.Change). c.number) changes) m) zero_is
  known_is n (inr child) =
      let change = child_change parts sound child.0 n child.1 in
      or_right (n == 0) (is_some (index_of n (numbers changes))) (index_some (numbers changes) n change.0 n change.1 change.2)

  start_known : (way : List ℕ) → IsWay (λ k. parent_at parts.nodes k) way → Known (start way)
  start_known [] is = inl refl
  start_known (n ∷ way) is = inr (start way, is.0)

  parent_on : (p n : ℕ) → IsChild parts p n → (way : List ℕ) → IsWay (λ k. parent_at parts.nodes k) way → start way ≡ n → Known p
  parent_on p n child [] is begins = absurd (not_zero parts sound p n child (sym begins))
  parent_on p n child (m ∷ way) is begins =
      let same : start way ≡ p = same_Some (start way) p (sym is.0 ∙ (ap (λ k. parent_at parts.nodes k) begins ∙ child)) in
      subst Known same (start_known way is.1)

  -- a change of the tree
  pub child_here : (k : ℕ) → k < length parts.nodes → IsChild parts (get_or parts.nodes k none).parent (get_or parts.nodes k none).number
  child_here k within = ap (λ o. option_map (λ (m : Node). m.parent) o) (index_found parts.nodes k none sound.numbers.rising within)

  parent_known : (k : ℕ) → k < length parts.nodes → Known (get_or parts.nodes k none).parent
  parent_known k within =
      let node = get_or parts.nodes k none in
      let way = sound.tree.ways node.number (index_kept parts.nodes k none within) in
      parent_on node.parent node.number (child_here k within) way.way way.is.is_way way.is.starts

  child_known : (n : ℕ) → Known (child_of parts n)
  child_known n = elim (eqb_tells (child_of parts n) 0) [
    | inl same ↦ inl same.1
    | inr other ↦ inr (n, sound.children.each n other.1)
  ]

  pub last_child_is : (k : ℕ) → k < length parts.nodes → child_of parts (get_or parts.nodes k none).number ≡ (get_or parts.nodes k none).last_child
  last_child_is k within =
      let node = get_or parts.nodes k none in
      elim (eqb_tells node.number 0) [
        | inl same ↦ absurd (not_zero parts sound node.parent node.number (child_here k within) same.1)
        | inr other ↦
            ap (λ b. if b then parts.root_child else unwrap_or (option_map (λ (m : Node). m.last_child) (node_at parts.nodes node.number)) 0) other.0
            ∙ ap (λ o. unwrap_or (option_map (λ (m : Node). m.last_child) o) 0) (index_found parts.nodes k none sound.numbers.rising within)
      ]

  last_known : (k : ℕ) → k < length parts.nodes → Known (get_or parts.nodes k none).last_child
  last_known k within = subst Known (last_child_is k within) (child_known (get_or parts.nodes k none).number)

  in_chain : (p n i : ℕ) → IsChild parts p n → Known (get_or (chain_of parts p) i 0)
  in_chain p n i child = elim (leb_tells (length (chain_of parts p)) i) [
    | inl past ↦ inl (get_or_past (chain_of parts p) i 0 past.1)
    | inr inside ↦ inr (p, chain_child parts sound p i (sound.children.some p n child) inside.1)
  ]

  after_known : (p n : ℕ) → IsChild parts p n → Known (after_in (chain_of parts p) n)
  after_known p n child =
      let c = chain_of parts p in
      let at = chain_place parts sound p n child in
      let is : after_in c n ≡ get_or c (at.0 + 1) 0 = ap (λ m. after_in c m) (sym at.1.is) ∙ after_at c (chain_apart parts sound.numbers.rising p) at.0 at.1.within in
      subst Known (sym is) (in_chain p n (at.0 + 1) child)

  behind : (p n i : ℕ) → IsChild parts p n → Known (get_or (0 ∷ chain_of parts p) i 0)
  behind p n zero child = inl refl
  behind p n (suc i) child = in_chain p n i child

  before_known : (p n : ℕ) → IsChild parts p n → Known (before_in (chain_of parts p) n)
  before_known p n child =
      let c = chain_of parts p in
      let at = chain_place parts sound p n child in
      let is : before_in c n ≡ get_or (0 ∷ c) at.0 0 = ap (λ m. before_in c m) (sym at.1.is) ∙ before_at c (chain_apart parts sound.numbers.rising p) at.0 at.1.within in
      subst Known (sym is) (behind p n at.0 child)

  used_known : (most n : ℕ) → Known n → Known (used_within most parts n)
  used_known zero n known = known
  used_known (suc most) n known =
      let more = used_known most (child_of parts n) (child_known n) in
      elim (child_of parts n == 0) as (λ b. Known (if b then n else used_within most parts (child_of parts n))) [
        | true ↦ known
        | false ↦ more
      ]

  kept_known : (n : ℕ) → IsKept parts.nodes n → Known n
  kept_known n (inl zero_is) = inl zero_is
  kept_known n (inr some) = let way = sound.tree.ways n (inr some) in subst Known way.is.starts (start_known way.way way.is.is_way)

  links_known : (k : ℕ) → k < length parts.nodes → LinksAreKnown (map (λ (c : file.Change). c.number) changes) (filed_change parts (get_or parts.nodes k none))
  links_known k within =
      let node = get_or parts.nodes k none in
      let child = child_here k within in
      record {
        next = known_is node.parent (parent_known k within);
        prev = known_is node.last_child (last_known k within);
        alt_next = known_is (after_in (chain_of parts node.parent) node.number) (after_known node.parent node.number child);
        alt_prev = known_is (before_in (chain_of parts node.parent) node.number) (before_known node.parent node.number child);
      }

  are_numbers : AreNumbers (numbers changes)
  are_numbers = record {
    range = λ k d within.
        let inside : k < length parts.nodes = omega (arith, within, count_filed parts parts.nodes) in
        let node = get_or parts.nodes k none in
        let is = number_filed parts parts.nodes k d inside in
        let read = sound.numbers.read node.number (index_kept parts.nodes k none inside) in
        subst (λ n. (0 < n) × (n ≤ 2147483647)) (sym is) (positive node.number (not_zero parts sound node.parent node.number (child_here k inside)), read);
    distinct = λ i j d lt within same.
        let inside : j < length parts.nodes = omega (arith, within, count_filed parts parts.nodes) in
        let before_it : i < length parts.nodes = omega (arith, lt, inside) in
        let up = AllPairs-from_increasing (rising.numbers parts.nodes) sound.numbers.rising (suc i) (suc j) 0 (omega (arith, lt)) (omega (arith, inside, length-map parts.nodes (λ (m : Node). m.number))) in
        omega (arith, up, number_at parts.nodes i none before_it, number_at parts.nodes j none inside, number_filed parts parts.nodes i d before_it, number_filed parts parts.nodes j d inside, same);
  }

  save_least : (k : ℕ) → k < length parts.nodes → (get_or parts.nodes k none).save ≤ 2000000000
  save_least k within =
      let node = get_or parts.nodes k none in
      let here = ap (λ o. unwrap_or (option_map (λ (m : Node). m.save) o) 0) (index_found parts.nodes k none sound.numbers.rising within) in
      omega (arith, here, sound.saves.below node.number, sound.saves.last)

  pub is_formed : (digest : List ℕ) (lines : ℕ) → length digest ≡ 32 → IsWellFormed (filed digest lines parts)
  is_formed digest lines long = record {
    rules = record {
      digest = long;
      numbers = are_numbers;
      heads = omega (arith, length-map parts.nodes (filed_change parts));
      saves = all_filed parts (λ c. c.save ≤ 2000000000) parts.nodes save_least;
      last_save = omega (arith, sound.saves.last);
      links = record {
        oldest = known_is parts.root_child (child_known 0);
        newest = known_is (newest_of parts) (used_known (length parts.nodes) parts.current (kept_known parts.current sound.current));
        current_head = known_is (child_of parts parts.current) (child_known parts.current);
        changes = all_filed parts (LinksAreKnown (map (λ (c : file.Change). c.number) changes)) parts.nodes links_known;
      };
      tree = makes_tree parts sound;
    };
    heads = sym (length-map parts.nodes (filed_change parts));
  }

-- so does that of the tree after the next write
pub sound_next : (next : Bool) (parts : Parts) → IsSound parts → IsSound (with_next next parts)
sound_next false parts sound = sound
sound_next true parts sound = still_sound parts (marked parts) (marked_differs parts) sound (marked_saves parts sound)

pub formed_next : (next : Bool) (digest : List ℕ) (lines : ℕ) (parts : Parts) → IsSound parts → length digest ≡ 32 → IsWellFormed (filed digest lines (with_next next parts))
formed_next next digest lines parts sound long = is_formed (with_next next parts) (sound_next next parts sound) digest lines long

-- The parents and the children last used, by what was found over places.
use Rattle.std.proofs.Common.{◌≡◌, ◌≢◌, ◌⊎◌, ℕ, zero, suc, ◌+◌, ◌-◌, ◌<◌, inl, inr, List, [], ◌∷◌, ◌++◌, length, map, take, get_or, Option, Some, None, refl, sym, ap, subst, ◌∙◌, arith}
use Rattle.std.specs.Prelude.{All}
use Rattle.std.specs.BTreeMap.{BTreeMap, Updates}
use Rattle.std.specs.List.{AllByRecursion}
use Rattle.std.specs.Ordering.{nat_cmp}
use Rattle.std.proofs.lemmas.Bool.{cases_eq}
use Rattle.std.proofs.lemmas.List.{get_or_default, get_or-take, length-map, length-take, map_push, take_more}
use Rattle.vs_ufile.specs.declared.history.FileChange.{FileChange}
use Rattle.vs_ufile.specs.declared.link.Link.{Link}
use Rattle.vs_ufile.specs.declared.link.Link.TheVariants.{Next, AltPrev}
use Rattle.vs_ufile.specs.Changes.{IsIndex, place_of}
use Rattle.vs_ufile.specs.Decode.{KnowsAll, LinksAreKnown}
use Rattle.vs_ufile.specs.Failing.{AreNumbers, link_of, links_of}
use Rattle.vs_ufile.specs.Descent.{IsLastUsed, IsLineage, unplaced}
use Rattle.vs_ufile.specs.Reading.{Placed, index_of, numbers_of}
use Rattle.vs_ufile.specs.Tree.{AreAncestors, FailsInTree, IsChange, IsParent, IsTree, numbers}
use Rattle.vs_ufile.specs.Values.{Change, change_of}
use Rattle.vs_ufile.specs.Walks.{AreChains, AreHeads, AreLastHeads, AreLinks, at, walk}
use Rattle.vs_ufile.proofs.Failed.{AreNeighbours, chain_is, leads, size_is}
use Rattle.vs_ufile.proofs.Index.{index_more}
use Rattle.vs_ufile.proofs.Known.{numbers_are}
use Rattle.vs_ufile.proofs.Linked.{are_names, changes_of, index_at}
use Rattle.vs_ufile.proofs.Named.{IsLinked, above_named, ancestors, first_named, head_of, is_none, is_parent, own_head, parent_is, parent_named}
use Rattle.vs_ufile.proofs.Pigeons.{ends}

-- ---- changes without places
pub changes_same : (changes : List FileChange) → changes_of (unplaced changes) ≡ map change_of changes
changes_same [] = refl
changes_same (c ∷ changes) = ap (λ cs. change_of c ∷ cs) (changes_same changes)

numbers_same : (changes : List FileChange) → numbers_of (unplaced changes) ≡ numbers (map change_of changes)
numbers_same changes = sym (numbers_are (unplaced changes)) ∙ ap numbers (changes_same changes)

pub are_numbers : (changes : List FileChange) → AreNumbers (numbers (map change_of changes)) → AreNumbers (numbers_of (unplaced changes))
are_numbers changes h = subst AreNumbers (sym (numbers_same changes)) h

known_all : (ns : List ℕ) (changes : List FileChange) → AllByRecursion (LinksAreKnown ns) (map change_of changes) → AllByRecursion (λ (p : Placed). LinksAreKnown ns p.change) (unplaced changes)
known_all ns [] h = tt
known_all ns (c ∷ changes) h = (h.0, known_all ns changes h.1)

pub knows_all : (changes : List FileChange) → AllByRecursion (LinksAreKnown (numbers (map change_of changes))) (map change_of changes) → KnowsAll (unplaced changes)
knows_all changes h = known_all (numbers_of (unplaced changes)) changes (subst (λ ns. AllByRecursion (LinksAreKnown ns) (map change_of changes)) (sym (numbers_same changes)) h)

-- ---- chains
pub chains_hold : (placed : List Placed) (f b : List ℕ) → AreNeighbours placed f b → IsTree (changes_of placed) → AreChains f b
chains_hold placed f b h tree = λ p pos lt fails.
    let inside : p < length placed + 1 = omega (arith, lt, size_is placed f b h) in
    tree (at (0 ∷ numbers_of placed) p) ((are_names placed h.numbers).change p pos inside, inl ((chain_is placed f b h p inside).0 fails))

-- ---- what is found over places
pub record Found (placed : List Placed) (f b heads next parents last : List ℕ) : Type 0 where
  pub near : AreNeighbours placed f b
  pub heads_are : AreHeads b heads
  pub on : next ≡ links_of Next placed
  pub links : AreLinks (length next) parents
  pub each : (p : ℕ) → p < length next → at parents p ≡ at next (at heads p)
  pub lasts : AreLastHeads b parents (length parents) last

-- the numbers of places
pub record AreNumbersAt (placed : List Placed) (places found : List ℕ) : Type 0 where
  pub size : length found ≡ length places
  pub each : (i : ℕ) → i < length places → at found i ≡ at (0 ∷ numbers_of placed) (at places i)

-- heads stand at places
pub lasts_within : (b parents last : List ℕ) (n : ℕ) → length b ≡ n → 0 < n → AreLastHeads b parents (length parents) last → All (λ x. x < n) last
lasts_within b parents last n size some h = λ k d lt. elim (cases_eq (at last k) 0) [
  | inl e ↦ omega (arith, get_or_default last k d 0 lt, e, some)
  | inr ne ↦ omega (arith, get_or_default last k d 0 lt, (h.is_head k ne).0.within, size)
]

module _ (placed : List Placed) (f b heads next parents last : List ℕ) (found : Found placed f b heads next parents last) where
  abbrev names : List ℕ
  names = 0 ∷ numbers_of placed

  abbrev n : ℕ
  n = length placed + 1

  abbrev changes : List Change
  changes = changes_of placed

  linked : IsLinked changes n names b next heads parents
  linked =
      let h = found.near in
      let on = leads Next placed next found.on h.numbers h.known in
      record {
        named = are_names placed h.numbers;
        back = leads AltPrev placed b h.before h.numbers h.known;
        on = on;
        firsts = found.heads_are;
        up = subst (λ (k : ℕ). AreLinks k parents) on.lead.all found.links;
        each = λ p lt. found.each p (omega (arith, lt, on.lead.all));
      }

  last_used : (p : ℕ) → p < n → IsLastUsed changes (at names p) (at names (at last p))
  last_used p lt = record {
    first = λ some.
        let is = linked.named in
        let there : at last p ≢ 0 = λ e. some (ap (at names) e ∙ is.none) in
        let head = found.lasts.is_head p there in
        let h : ℕ = at last p in
        let inside : h < n = omega (arith, head.0.within, linked.back.lead.all) in (
          first_named changes n names b is linked.back h h inside (own_head b h head.0),
          parent_named changes n names b next heads parents linked h h head.0.some inside (own_head b h head.0) ∙ ap (at names) head.1,
        );
    none = λ end m change parent.
        let is = linked.named in
        let k = is.place m change in
        let up : IsParent changes (at names k.0) (at names p) = subst (λ x. IsParent changes x (at names p)) (sym k.3) parent in
        let named = parent_is changes n names b next heads parents linked k.0 (at names p) k.1 k.2 up in
        let to = head_of changes n names b next heads parents linked k.0 k.1 k.2 in
        let h : ℕ = at heads k.0 in
        let inside : h < n = omega (arith, to.is_head.within, linked.back.lead.all) in
        let own = parent_named changes n names b next heads parents linked h h to.is_head.some inside (own_head b h to.is_head) in
        let via = parent_named changes n names b next heads parents linked k.0 h k.1 k.2 to in
        let up_within : at parents h < n = linked.up.within h 0 (omega (arith, inside, linked.up.all)) in
        let same : at parents h ≡ p = is.one (at parents h) p up_within lt (sym own ∙ via ∙ named) in
        let there = found.lasts.found h (omega (arith, inside, linked.up.all)) to.is_head in
        let last_within : at last p < n = lasts_within b parents last n linked.back.lead.all (omega arith) found.lasts p 0 (omega (arith, lt, found.lasts.all, linked.up.all)) in
        there (ap (at last) same ∙ is_none changes n names is (at last p) last_within end);
  }

  -- the way of each change ends
  way_of : IsTree changes → (m : ℕ) → IsChange changes m → (ps : List ℕ) × AreAncestors changes m ps
  way_of tree m is =
      let named = linked.named in
      let p = named.place m is in
      let within : (i : ℕ) → i < n → at parents i < n = λ i lt. linked.up.within i 0 (omega (arith, lt, linked.up.all)) in
      elim (cases_eq (walk (at parents) n p.0) 0) [
        | inl e ↦ subst (λ x. (ps : List ℕ) × AreAncestors changes x ps) p.3 (ancestors changes n names b next heads parents linked n p.0 p.2 e)
        | inr ne ↦
            let never : (k : ℕ) → walk (at parents) k p.0 ≢ 0 = λ k e. ne (ends (at parents) n n p.0 k linked.up.none within p.2 (omega arith) e) in
            let fails : FailsInTree changes (at names p.0) = (above_named changes n names b next heads parents linked p.0 p.1 p.2).0 (inl never) in
            absurd (tree (at names p.0) (named.change p.0 p.1 p.2, inr (λ k here bad. tree k (here, inl bad), fails)))
      ]

  pub lineage_is : IsTree changes → (ps cs : List ℕ) → AreNumbersAt placed parents ps → AreNumbersAt placed last cs → IsLineage changes ps cs
  lineage_is tree ps cs up down =
      let count : length changes ≡ length placed = length-map placed (λ p. p.change) in
      let same : names ≡ 0 ∷ numbers changes = ap (λ ns. 0 ∷ ns) (sym (numbers_are placed)) in
      record {
        parent_count = omega (arith, up.size, linked.up.all, count);
        child_count = omega (arith, down.size, found.lasts.all, linked.up.all, count);
        parents = λ i lt.
            let inside : suc i < n = omega (arith, lt, count) in
            let is = is_parent changes n names b next heads parents linked (suc i) (omega arith) inside in
            subst (λ ns. IsParent changes (at ns (suc i)) (at ps (suc i))) same
            (subst (λ x. IsParent changes (at names (suc i)) x) (sym (up.each (suc i) (omega (arith, inside, linked.up.all)))) is);
        children = λ p lt.
            let inside : p < n = omega (arith, lt, count) in
            subst (λ ns. IsLastUsed changes (at ns p) (at cs p)) same
            (subst (λ x. IsLastUsed changes (at names p) x) (sym (down.each p (omega (arith, inside, found.lasts.all, linked.up.all)))) (last_used p inside));
        ways = way_of tree;
      }

-- ---- the index
some_or_none : (o : Option ℕ) → (o ≡ None) ⊎ ((i : ℕ) × (o ≡ Some i))
some_or_none None = inl refl
some_or_none (Some i) = inr (i, refl)

absent : (ns : List ℕ) (m : ℕ) → ((j : ℕ) → j < length ns → at ns j ≢ m) → index_of m ns ≡ None
absent ns m others = elim (some_or_none (index_of m ns)) [
  | inl e ↦ e
  | inr s ↦ let a = index_at m ns s.0 s.1 in absurd (others s.0 a.0 a.1)
]

number_here : (changes : List FileChange) (i : ℕ) (own : FileChange) → i < length changes → at (numbers_of (unplaced changes)) i ≡ (get_or changes i own).number
number_here [] i own lt = absurd (omega (arith, lt))
number_here (c ∷ changes) zero own lt = refl
number_here (c ∷ changes) (suc i) own lt = number_here changes i own (omega (arith, lt))

pub number_is : (changes : List FileChange) (place : ℕ) (own : FileChange) → place ≢ 0 → place < length changes + 1 → (get_or changes (place - 1) own).number ≡ at (0 ∷ numbers_of (unplaced changes)) place
number_is changes zero own some lt = absurd (some refl)
number_is changes (suc i) own some lt =
    let same : suc i - 1 ≡ i = omega arith in
    ap (λ k. (get_or changes k own).number) same ∙ sym (number_here changes i own (omega (arith, lt)))

count_is : (changes : List FileChange) → length (numbers_of (unplaced changes)) ≡ length changes
count_is [] = refl
count_is (c ∷ changes) = ap suc (count_is changes)

numbers_more : (changes : List FileChange) (i : ℕ) (own : FileChange) → i < length changes → own ≡ get_or changes i own → numbers_of (unplaced (take (i + 1) changes)) ≡ numbers_of (unplaced (take i changes)) ++ own.number ∷ []
numbers_more changes i own lt is =
    ap (λ cs. numbers_of (unplaced cs)) (take_more changes i own lt ∙ ap (λ x. take i changes ++ x ∷ []) (sym is))
    ∙ (ap numbers_of (map_push (λ (c : FileChange). record { left = 0; change = change_of c }) (take i changes) own) ∙ map_push (λ (p : Placed). p.change.number) (unplaced (take i changes)) (record { left = 0; change = change_of own }))

pub indexed : (changes : List FileChange) (i : ℕ) (own : FileChange) (index next : BTreeMap ℕ ℕ) → AreNumbers (numbers_of (unplaced changes)) → i < length changes → own ≡ get_or changes i own
    → IsIndex index (numbers_of (unplaced (take i changes))) → Updates nat_cmp index next (get_or changes i own).number (Some (i + 1)) → IsIndex next (numbers_of (unplaced (take (i + 1) changes)))
indexed changes i own index next h lt is old new =
    let so_far = numbers_of (unplaced (take i changes)) in
    let size : length so_far ≡ i = omega (arith, count_is (take i changes), length-take i changes, lt) in
    let here : at (numbers_of (unplaced changes)) i ≡ own.number = number_here changes i own lt ∙ ap (λ (c : FileChange). c.number) (sym is) in
    let others : (j : ℕ) → j < length so_far → at so_far j ≢ own.number = λ j less e.
    let below : j < i = omega (arith, less, size) in
    let one : at so_far j ≡ (get_or (take i changes) j own).number = number_here (take i changes) j own (omega (arith, less, count_is (take i changes))) in
    let two : at (numbers_of (unplaced changes)) j ≡ (get_or changes j own).number = number_here changes j own (omega (arith, below, lt)) in
    let same : at (numbers_of (unplaced changes)) j ≡ at so_far j = two ∙ ap (λ (c : FileChange). c.number) (sym (get_or-take i changes j own below)) ∙ sym one in
    h.distinct j i 0 below (omega (arith, lt, count_is changes)) (same ∙ e ∙ sym here) in
    let u = subst (λ n. Updates nat_cmp index next own.number (Some n)) (let e : i + 1 ≡ suc (length so_far) = omega (arith, size) in e)
    (subst (λ (c : FileChange). Updates nat_cmp index next c.number (Some (i + 1))) (sym is) new) in
    subst (IsIndex next) (sym (numbers_more changes i own lt is)) (index_more index next so_far own.number old (absent so_far own.number others) u)

unplaced_count : (changes : List FileChange) → length (unplaced changes) ≡ length changes
unplaced_count [] = refl
unplaced_count (c ∷ changes) = ap suc (unplaced_count changes)

pub link_count : (l : Link) (changes : List FileChange) (links : List ℕ) → links ≡ links_of l (unplaced changes) → length links ≡ length changes + 1
link_count l changes links e =
    let placed = unplaced changes in
    omega (arith, ap length e, length-map placed (λ p. place_of (numbers_of placed) (link_of l p.change)), unplaced_count changes)

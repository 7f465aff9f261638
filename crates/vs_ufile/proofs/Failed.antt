-- Which changes fail, by what was found over places.
use Rattle.std.proofs.Common.{◌≡◌, ℕ, ◌+◌, ◌<◌, inl, inr, Bool, false, List, ◌∷◌, length, get_or, sym, subst, ◌∙◌, arith}
use Rattle.std.specs.Prelude.{IsTrue, ◌↔◌}
use Rattle.vs_ufile.specs.declared.link.Link.{Link}
use Rattle.vs_ufile.specs.declared.link.Link.TheVariants.{Next, AltNext, AltPrev}
use Rattle.vs_ufile.specs.Decode.{KnowsAll}
use Rattle.vs_ufile.specs.Failing.{AreFailing, AreNumbers, link_of, links_of}
use Rattle.vs_ufile.specs.Reading.{Placed, numbers_of}
use Rattle.vs_ufile.specs.Tree.{FailsInChain, HasChains, link}
use Rattle.vs_ufile.specs.Walks.{AreChains, AreHeads, AreLinks, AreMarks, FailsAbove, FailsAt, at}
use Rattle.vs_ufile.proofs.Linked.{are_names, changes_of, lead_as}
use Rattle.vs_ufile.proofs.Named.{IsLinked, LeadAs, above_named, fails_named}

abbrev names : List Placed → List ℕ
names placed = 0 ∷ numbers_of placed

pub leads : (l : Link) (placed : List Placed) (links : List ℕ) → links ≡ links_of l placed → AreNumbers (numbers_of placed) → KnowsAll placed → LeadAs (length placed + 1) (names placed) links (link (link_of l) (changes_of placed))
leads l placed links e h known = subst (λ (xs : List ℕ). LeadAs (length placed + 1) (names placed) xs (link (link_of l) (changes_of placed))) (sym e) (lead_as l placed h known)

-- the links of one kind, beside those of another
pub beside : (l m : Link) (placed : List Placed) (links others : List ℕ) → links ≡ links_of l placed → others ≡ links_of m placed → AreNumbers (numbers_of placed) → KnowsAll placed → AreLinks (length others) links
beside l m placed links others e d h known =
    let a = (leads l placed links e h known).lead in
    let b = (leads m placed others d h known).lead in
    subst (λ (n : ℕ). AreLinks n links) (sym b.all) a

-- links of the changes after and before each
pub record AreNeighbours (placed : List Placed) (f b : List ℕ) : Type 0 where
  pub after : f ≡ links_of AltNext placed
  pub before : b ≡ links_of AltPrev placed
  pub numbers : AreNumbers (numbers_of placed)
  pub known : KnowsAll placed

pub chain_is : (placed : List Placed) (f b : List ℕ) → AreNeighbours placed f b → (p : ℕ) → p < length placed + 1 → FailsAt f b p ↔ FailsInChain (changes_of placed) (at (names placed) p)
chain_is placed f b h p lt = fails_named (changes_of placed) (length placed + 1) (names placed) f b (are_names placed h.numbers) (leads AltNext placed f h.after h.numbers h.known) (leads AltPrev placed b h.before h.numbers h.known) p lt

pub size_is : (placed : List Placed) (f b : List ℕ) → AreNeighbours placed f b → length f ≡ length placed + 1
size_is placed f b h = (leads AltNext placed f h.after h.numbers h.known).lead.all

-- some place is marked
abbrev pub HasMark : List Bool → Type 0
HasMark marks = (i : ℕ) × (0 < i) × (i < length marks) × IsTrue (get_or marks i false)

-- where some place fails in its chain, the changes that fail are those
pub failing_chains : (placed : List Placed) (f b : List ℕ) (marks : List Bool) → AreNeighbours placed f b → AreMarks (length f) (FailsAt f b) marks
    → HasMark marks → AreFailing placed marks
failing_chains placed f b marks h m some =
    let size = size_is placed f b h in
    let n = are_names placed h.numbers in
    let inside : some.0 < length placed + 1 = omega (arith, some.2, m.0, size) in
    let worst : FailsInChain (changes_of placed) (at (names placed) some.0) = (chain_is placed f b h some.0 inside).0 ((m.1 some.0 some.1 (omega (arith, inside, size))).0 some.3) in (
      m.0 ∙ size,
      λ p pos lt.
          let own = m.1 p pos (omega (arith, lt, size)) in (
            λ t. (n.change p pos lt, inl ((chain_is placed f b h p lt).0 (own.0 t))),
            λ w. elim w.1 [
              | inl x ↦ own.1 ((chain_is placed f b h p lt).1 x)
              | inr y ↦ absurd (y.0 (at (names placed) some.0) (n.change some.0 some.1 inside) worst)
            ],
          ),
    )

pub are_chains : (f b : List ℕ) (marks : List Bool) → AreMarks (length f) (FailsAt f b) marks → ¬ HasMark marks → AreChains f b
are_chains f b marks m unmarked = λ p pos lt fails. unmarked (p, pos, omega (arith, lt, m.0), (m.1 p pos lt).1 fails)

-- where no place fails in its chain, the changes that fail are those above
pub failing_tree : (placed : List Placed) (f b heads next parents : List ℕ) (marks : List Bool) → AreNeighbours placed f b → AreChains f b → AreHeads b heads → next ≡ links_of Next placed → AreLinks (length next) parents
    → ((p : ℕ) → p < length next → at parents p ≡ at next (at heads p)) → AreMarks (length parents) (FailsAbove b parents) marks → AreFailing placed marks
failing_tree placed f b heads next parents marks h chains hs e links each m =
    let n = are_names placed h.numbers in
    let size = size_is placed f b h in
    let on = leads Next placed next e h.numbers h.known in
    let linked : IsLinked (changes_of placed) (length placed + 1) (names placed) b next heads parents = record {
      named = n;
      back = leads AltPrev placed b h.before h.numbers h.known;
      on = on;
      firsts = hs;
      up = subst (λ (k : ℕ). AreLinks k parents) on.lead.all links;
      each = λ p lt. each p (omega (arith, lt, on.lead.all));
    } in
    let good : HasChains (changes_of placed) = λ k is fails.
    let p = n.place k is in
    chains p.0 p.1 (omega (arith, p.2, size)) ((chain_is placed f b h p.0 p.2).1 (subst (FailsInChain (changes_of placed)) (sym p.3) fails)) in
    let all : length parents ≡ length placed + 1 = links.all ∙ on.lead.all in (
      m.0 ∙ all,
      λ p pos lt.
          let own = m.1 p pos (omega (arith, lt, all)) in
          let named = above_named (changes_of placed) (length placed + 1) (names placed) b next heads parents linked p pos lt in (
            λ t. (n.change p pos lt, inr (good, named.0 (own.0 t))),
            λ w. elim w.1 [
              | inl x ↦ absurd (good (at (names placed) p) (n.change p pos lt) x)
              | inr y ↦ own.1 (named.1 y.1)
            ],
          ),
    )

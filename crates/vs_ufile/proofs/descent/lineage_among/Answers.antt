use Rattle.std.proofs.Common.{◌≡◌, ◌+◌, ◌<◌, ◌∷◌, ℕ, List, length, sym, ap, subst, ◌∙◌, arith}
use Rattle.std.specs.Prelude.{All}
use Rattle.vs_ufile.specs.declared.link.Link.TheVariants.{Next, AltNext, AltPrev}
use Rattle.vs_ufile.specs.Descent.{unplaced}
use Rattle.vs_ufile.specs.Reading.{numbers_of}
use Rattle.vs_ufile.specs.Walks.{AreHeads, AreLastHeads, AreLinks, at}
use Rattle.vs_ufile.proofs.Descents.{AreNumbersAt, Found, chains_hold, lasts_within, lineage_is, link_count}
use Rattle.vs_ufile.proofs.Failed.{AreNeighbours, beside}
use Rattle.vs_ufile.proofs.descent.lineage_among.Goals as goal

pub heads-requires-clause-after : goal.heads-requires-clause-after
heads-requires-clause-after c =
    let placed = unplaced c.args.changes.now in
    let e = c.deref.ensures.value ∙ c.in_ok-after.ensures in
    beside AltNext AltNext placed _ _ e e c.requires.numbers c.requires.links

pub heads-requires-clause-before : goal.heads-requires-clause-before
heads-requires-clause-before c =
    let placed = unplaced c.args.changes.now in
    beside AltPrev AltNext placed _ _ (c.deref-2.ensures.value ∙ c.in_ok-before.ensures) (c.deref.ensures.value ∙ c.in_ok-after.ensures) c.requires.numbers c.requires.links

pub heads-requires-clause-chains : goal.heads-requires-clause-chains
heads-requires-clause-chains c =
    let placed = unplaced c.args.changes.now in
    let near : AreNeighbours placed c.deref.result.now c.deref-2.result.now = record {
      after = c.deref.ensures.value ∙ c.in_ok-after.ensures;
      before = c.deref-2.ensures.value ∙ c.in_ok-before.ensures;
      numbers = c.requires.numbers;
      known = c.requires.links;
    } in
    chains_hold placed c.deref.result.now c.deref-2.result.now near c.requires.tree

pub parents-requires-clause-next : goal.parents-requires-clause-next
parents-requires-clause-next c =
    let placed = unplaced c.args.changes.now in
    let e = c.deref-4.ensures.value ∙ c.in_ok-next.ensures in
    beside Next Next placed _ _ e e c.requires.numbers c.requires.links

pub numbers_at-requires-2 : goal.numbers_at-requires-2
numbers_at-requires-2 c =
    let changes = c.args.changes.now in
    let b = c.deref-5.result.now in
    let size : length b ≡ length changes + 1 = link_count AltPrev changes b (c.deref-5.ensures.value ∙ c.in_ok-before.ensures) in
    subst (λ (xs : List ℕ). All (λ x. x < length changes + 1) xs) (sym c.deref-8.ensures.value)
    (lasts_within b c.deref-6.result.now c.in_ok-last.last.items (length changes + 1) size (omega arith) c.in_ok-last.ensures)

pub returns : goal.returns
returns c =
    let placed = unplaced c.args.changes.now in
    let f = c.in_ok-after.after.items in
    let b = c.in_ok-before.before.items in
    let heads = c.in_ok-heads.heads.items in
    let next = c.in_ok-next.next.items in
    let parents = c.in_ok-parents.parents.items in
    let last = c.in_ok-last.last.items in
    let own = c.in_ok-own.own.items in
    let children = c.in_ok-children.children.items in
    let names = 0 ∷ numbers_of placed in
    let found : Found placed f b heads next parents last = record {
      near = record { after = c.in_ok-after.ensures; before = c.in_ok-before.ensures; numbers = c.requires.numbers; known = c.requires.links };
      heads_are = subst (λ (xs : List ℕ). AreHeads xs heads) c.deref-2.ensures.value c.in_ok-heads.ensures;
      on = c.in_ok-next.ensures;
      links = subst (λ (xs : List ℕ). AreLinks (length xs) parents) c.deref-4.ensures.value c.in_ok-parents.ensures.links;
      each = subst (λ (xs : List ℕ). (i : ℕ) → i < length xs → at parents i ≡ at xs (at heads i)) c.deref-4.ensures.value
          (subst (λ (xs : List ℕ). (i : ℕ) → i < length c.deref-4.result.now → at parents i ≡ at c.deref-4.result.now (at xs i)) c.deref-3.ensures.value c.in_ok-parents.ensures.each);
      lasts = subst (λ (xs : List ℕ). AreLastHeads xs parents (length parents) last) c.deref-5.ensures.value
          (subst (λ (xs : List ℕ). AreLastHeads c.deref-5.result.now xs (length xs) last) c.deref-6.ensures.value c.in_ok-last.ensures);
    } in
    let up : AreNumbersAt placed parents own = record {
      size = c.in_ok-own.ensures.size ∙ ap length c.deref-7.ensures.value;
      each = subst (λ (xs : List ℕ). (i : ℕ) → i < length xs → at own i ≡ at names (at xs i)) c.deref-7.ensures.value c.in_ok-own.ensures.each;
    } in
    let down : AreNumbersAt placed last children = record {
      size = c.in_ok-children.ensures.size ∙ ap length c.deref-8.ensures.value;
      each = subst (λ (xs : List ℕ). (i : ℕ) → i < length xs → at children i ≡ at names (at xs i)) c.deref-8.ensures.value c.in_ok-children.ensures.each;
    } in
    lineage_is placed f b heads next parents last found c.requires.tree own children up down

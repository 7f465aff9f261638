use Rattle.std.proofs.Common.{◌≡◌, ℕ, suc, ◌-◌, ◌<◌, ◌≤◌, List, ◌∷◌, length, drop, drop-cons, reverse, get_or, ap, sym, ◌∙◌, subst, arith}
use Rattle.std.proofs.lemmas.Grind.{common_steps}
use Rattle.std.proofs.lemmas.List.{get_or-reverse}
use Rattle.vs_pages.specs.History.{first_of, places_before, undone, CanUndoAll}
use Rattle.vs_pages.specs.Memory.{kept_of}
use Rattle.vs_pages.specs.declared.change.Change.{Change}
use Rattle.vs_pages.proofs.memory.MemPages.copy_committed.Goals as goal

-- the changes from the one before the last `left` on, the last one first
next_change : (log : List Change) (left : ℕ) (c : Change) → 0 < left → left ≤ length log → c ≡ get_or log (left - 1) c → drop (length log - left) (reverse log) ≡ c ∷ drop (length log - (left - 1)) (reverse log)
next_change log left c some most is =
    let at : ℕ = length log - left in
    let size : length (reverse log) ≡ length log = grind (arith, common_steps) in
    let back : length log - 1 - at ≡ left - 1 = omega (arith, some, most) in
    let next : suc at ≡ length log - (left - 1) = omega (arith, some, most) in
    let here : get_or (reverse log) at c ≡ c = get_or-reverse log at c (omega (arith, some, most)) ∙ ap (λ k. get_or log k c) back ∙ sym is in
    drop-cons (reverse log) at c (omega (arith, some, most, size)) ∙ ap (λ d. d ∷ drop (suc at) (reverse log)) here ∙ ap (λ k. c ∷ drop k (reverse log)) next

pub changes-preserved : goal.changes-preserved
changes-preserved c =
    let inv = c.changes.invariant in
    let log : List Change = c.args.self.now.log.items in
    let change : Change = c.index.result.now in
    let cut : drop (length log - c.changes.left) (reverse log) ≡ change ∷ drop (length log - (c.changes.left - 1)) (reverse log) =
    next_change log c.changes.left change (omega (arith, c.changes-test.true)) inv.most c.index.ensures in
    let can : CanUndoAll inv.map inv.places (change ∷ drop (length log - (c.changes.left - 1)) (reverse log)) = subst (λ (cs : List Change). CanUndoAll inv.map inv.places cs) cut inv.can in
    record {
      most = omega (arith, inv.most);
      size = c.undo_at-there.ensures.size;
      map = undone change inv.map;
      places = places_before change inv.places;
      can = can.1;
      first = ap (λ (cs : List Change). first_of inv.map cs) (sym cut) ∙ inv.first;
      place = c.undo_at-there.ensures.place inv.map inv.places can.0 inv.place;
    }

pub changes-init : goal.changes-init
changes-init c =
    let log = c.args.self.now.log.items in
    let none : length log - c.len-left.result ≡ 0 = omega (arith, c.len-left.ensures) in
    record {
      most = omega (arith, c.len-left.ensures);
      size = c.copy_page-there.ensures.size;
      map = kept_of c.args.self.now;
      places = length c.args.self.now.table.places.items;
      can = subst (λ (n : ℕ). CanUndoAll (kept_of c.args.self.now) (length c.args.self.now.table.places.items) (drop n (reverse log))) (sym none) c.args.self.now.undo;
      first = ap (λ (n : ℕ). first_of (kept_of c.args.self.now) (drop n (reverse log))) none;
      place = c.copy_page-there.ensures.page;
    }

pub undo_at-there-requires-clause-can : goal.undo_at-there-requires-clause-can
undo_at-there-requires-clause-can c =
    let inv = c.changes.invariant in
    let log : List Change = c.args.self.now.log.items in
    let change : Change = c.index.result.now in
    let cut = next_change log c.changes.left change (omega (arith, c.changes-test.true)) inv.most c.index.ensures in
    let can : CanUndoAll inv.map inv.places (change ∷ drop (length log - (c.changes.left - 1)) (reverse log)) = subst (λ (cs : List Change). CanUndoAll inv.map inv.places cs) cut inv.can in
    (inv.map, (inv.places, can.0))

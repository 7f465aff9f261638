use Rattle.std.proofs.Common.{◌≡◌, ◌+◌, ◌∷◌, [], ◌∙◌, ℕ, List, length, reverse, arith, ap, refl, sym, subst, Option, length-append}
use Rattle.std.proofs.lemmas.List.{nil_from_length, reverse-append}
use Rattle.vs_ptr.specs.declared.PtrEntry.{PtrEntry}
use Rattle.vs_recover.specs.declared.walk.Walk.{Walk}
use Rattle.vs_recover.specs.Original.{IsOpened, pieces_in}
use Rattle.vs_recover.specs.WalkedEntries.{HasDamaged}
use Rattle.vs_recover.proofs.ReadingLaws.{reads_none, reads_ok, reads_passed, reads_then, still}
use Rattle.vs_recover.proofs.WalkedLaws.{calls_step, calls_within, damaged_stays, way_begins, way_ends, way_goes_on}
use Rattle.vs_recover.proofs.walk.Walk.run.Goals as goal

pub entries-init : goal.entries-init
entries-init g c = record {
  walk = c.requires.walk;
  size = refl;
  pages = refl;
  pieces = refl;
  opened = c.requires.opened;
  way = λ d has first shows. way_begins d c.args.self first shows;
  few = omega arith;
  reading = reads_none g.F.World.tells (λ is. cc);
}

pub entries-preserved : goal.entries-preserved
entries-preserved g c =
    let old : Walk = record c.entries.self { left = c.pop.new.self } in
    let left : reverse c.entries.self.left.items ≡ c.in-Some.entry ∷ reverse c.pop.new.self.items = ap (λ (es : List PtrEntry). reverse es) c.in-Some.ensures.items ∙ reverse-append c.pop.new.self.items (c.in-Some.entry ∷ []) in
    let len : length c.pop.new.self.items + 1 ≡ length c.entries.self.left.items = omega (arith, ap length c.in-Some.ensures.items, length-append c.pop.new.self.items (c.in-Some.entry ∷ [])) in
    let step = calls_step c.entries.self old c.visit.new.self (pieces_in c.args.self.original) refl len c.visit.ensures.free c.in_ok-visit.ensures.few in
    record {
      walk = c.in_ok-visit.ensures.walk;
      size = c.in_ok-visit.ensures.same.0 ∙ c.entries.invariant.size;
      pages = c.in_ok-visit.ensures.same.1 ∙ c.entries.invariant.pages;
      pieces = c.in_ok-visit.ensures.same.2 ∙ c.entries.invariant.pieces;
      opened = λ told. subst (λ (o : Option (List ℕ)). IsOpened o c.visit.new.self.original) (still c.entries.invariant.reading c.args.name.now) (c.in_ok-visit.ensures.opened told);
      way = λ d has first shows. way_goes_on d (reverse c.args.self.left.items) c.entries.self old c.visit.new.self c.in-Some.entry refl refl left (c.entries.invariant.way d has first shows)
          (λ taken before. c.in_ok-visit.ensures.visits d (subst (λ n. HasDamaged g.F.World.tells (g.F.World.scene c.entries.host) c.args.swap.now c.args.name.now n d) (sym c.entries.invariant.size) (damaged_stays c.entries.invariant.reading has)) taken before);
      few = omega (arith, step, c.entries.invariant.few);
      reading = reads_ok (omega (arith, step, c.entries.invariant.few, c.entries.invariant.pieces)) (reads_then c.entries.invariant.reading c.in_ok-visit.ensures.reading);
    }

pub entries-smaller : goal.entries-smaller
entries-smaller g c =
    let len : length c.pop.new.self.items + 1 ≡ length c.entries.self.left.items = omega (arith, ap length c.in-Some.ensures.items, length-append c.pop.new.self.items (c.in-Some.entry ∷ [])) in
    omega (arith, len, c.in_ok-visit.ensures.few)

pub returns-in_err-visit-clause-reading : goal.returns-in_err-visit-clause-reading
returns-in_err-visit-clause-reading g c =
    let old : Walk = record c.entries.self { left = c.pop.new.self } in
    let len : length c.pop.new.self.items + 1 ≡ length c.entries.self.left.items = omega (arith, ap length c.in-Some.ensures.items, length-append c.pop.new.self.items (c.in-Some.entry ∷ [])) in
    let step = calls_within c.entries.self old c.visit.new.self.marks (pieces_in c.args.self.original) refl len in
    reads_passed c.in_err-visit.was c.from_residual.ensures.1 (omega (arith, step, c.entries.invariant.few, c.entries.invariant.pieces)) (reads_then c.entries.invariant.reading c.visit.ensures.reading)

pub returns-clause-shown : goal.returns-clause-shown
returns-clause-shown g c = λ d has first shows.
    let none : length c.entries.self.left.items ≡ 0 = omega (arith, c.entries.self.left.ok.0, c.in_default.ensures.cases.0) in
    way_ends d (reverse c.args.self.left.items) c.entries.self (ap (λ (es : List PtrEntry). reverse es) (nil_from_length c.entries.self.left.items none)) (c.entries.invariant.way d has first shows)

pub returns-clause-reading : goal.returns-clause-reading
returns-clause-reading g c = reads_ok (omega (arith, c.entries.invariant.few)) c.entries.invariant.reading

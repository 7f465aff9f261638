-- Each turn puts one match more after the line so far.
use Rattle.std.proofs.Common.{ap, length, arith}
use Rattle.vs_excmd.proofs.FindLemmas.{finds-one}
use Rattle.vs_excmd.proofs.MatchLemmas.{replaced-first, replaced-next}
use Rattle.vs_excmd.proofs.replacing.rewrite_line.Goals as goal

pub places-init : goal.places-init
places-init c =
    let size = ap length c.needle-width.ensures in record {
      whole = replaced-first c.args.all c.args.line.now c.args.finder.now c.args.new.now c.in-Some.first (length c.needle-width.result.now) c.in_ok-out.out.items c.put_piece.new.out.items
          size c.in_ok-out.ensures.items c.in-Some.ensures.first (c.in_ok-put_piece.ensures.put c.if-not-branch.false);
      short = c.in_ok-put_piece.ensures.short c.if-not-branch.false;
      within = omega (arith, size, c.in-Some.ensures.high);
    }

pub places-preserved : goal.places-preserved
places-preserved c =
    let size = ap length c.needle-width.ensures in
    let before = c.places.invariant in record {
      whole = replaced-next c.args.all c.args.line.now c.args.finder.now c.args.new.now _ c.places.from c.in-Some-first_place.place (length c.needle-width.result.now) c.places.out.items c.put_piece-in-Some-first_place.new.out.items
          size c.if-not-all.false c.in-Some-first_place.ensures.first (c.in_ok-put_piece-2.ensures.put c.if-not-branch-2.false) before.whole;
      short = c.in_ok-put_piece-2.ensures.short c.if-not-branch-2.false;
      within = omega (arith, size, c.in-Some-first_place.ensures.high);
    }

pub returns-then-not-all : goal.returns-then-not-all
returns-then-not-all c = record {
  finds = rw c.if-not-all.true (finds-one c.args.finder.now c.args.new.now c.args.line.now c.in-Some.first (length c.needle-width.result.now) c.in_ok-found.found
      (ap length c.needle-width.ensures) c.in-Some.ensures.first c.in_ok-found.ensures.finds);
}

-- Each part of the entries goes into a new block, whose entry stands behind those of the blocks before it.
use Rattle.std.proofs.Common.{◌≡◌, ℕ, suc, ◌+◌, ◌-◌, ◌≤◌, List, [], ◌∷◌, ◌++◌, take, drop, length, refl, sym, ap, subst, ◌∙◌, arith, length-append}
use Rattle.std.specs.List.{AllByRecursion}
use Rattle.vs_pages.proofs.Steps.{Continues-none, Continues-trans}
use Rattle.vs_pages.specs.Maps.{Map}
use Rattle.vs_tree_shape.specs.declared.entries.Entry.{Entry}
use Rattle.vs_tree_shape.specs.Changes.{Added}
use Rattle.vs_tree_shape.specs.Places.{lines_below}
use Rattle.vs_tree_shape.proofs.Shapes.{each-append}
use Rattle.vs_tree_shape.proofs.Sums.{total-append}
use Rattle.vs_tree_blocks.specs.Blocks.{FitsFields}
use Rattle.vs_merge.specs.Forests.{Exchanges}
use Rattle.vs_merge.proofs.Forests.{closes_more, exchanged_all, exchanges_none, part_left, run_lines, take_run}
use Rattle.vs_merge.proofs.close.close_level.Goals as goal

pub parts-init : goal.parts-init
parts-init g c =
    let items : c.new-above.result.items ≡ [] = c.new-above.ensures.items in
    let m : Map = (g.P.Pages.shows c.args.pages.now).present in
    record {
      closed = λ told d f. let X : List Entry → Type 0 = λ xs. Exchanges m m d (suc d) [] xs in subst X (sym items) (exchanges_none m m d (suc d) refl);
      fields = subst (λ (xs : List Entry). AllByRecursion FitsFields xs) (sym items) tt;
      lines = ap lines_below items;
      within = omega arith;
      left = λ some. omega (arith, c.requires.many);
      many = omega (arith, ap length items);
      first = λ few. omega (arith, ap length items);
      kept = Continues-none g.met.P.Pages.stays_itself c.requires.valid;
      faults = refl;
    }

pub returns-in_err-block-clause-kept : goal.returns-in_err-block-clause-kept
returns-in_err-block-clause-kept g c = Continues-trans g.met.P.Pages.stays_on c.parts.invariant.kept c.add_block.ensures.kept

pub returns-in_err-push-clause-kept : goal.returns-in_err-push-clause-kept
returns-in_err-push-clause-kept g c = Continues-trans g.met.P.Pages.stays_on c.parts.invariant.kept c.add_block.ensures.kept

pub entry_above-requires-clause-small : goal.entry_above-requires-clause-small
entry_above-requires-clause-small g c = omega (arith, run_lines c.args.entries.now c.parts.at (c.parts.at + c.part_of.result - c.parts.at), c.requires.small)

pub parts-preserved : goal.parts-preserved
parts-preserved g c =
    let inv = c.parts.invariant in
    let es : List Entry = c.args.entries.now in
    let at : ℕ = c.parts.at in
    let p : ℕ = c.part_of.result in
    let part : List Entry = take (at + p - at) (drop at es) in
    let above : List Entry = c.parts.above.items in
    let entry : Entry = c.entry_above.result in
    let m : Map = (g.P.Pages.shows c.args.pages.now).present in
    let n1 : Map = (g.P.Pages.shows c.parts.pages).present in
    let n : Map = (g.P.Pages.shows c.add_block.new.pages).present in
    let block : ℕ = c.in_ok-block.block in
    let same : at + p - at ≡ p = omega arith in
    let part_is : part ≡ take p (drop at es) = ap (λ (k : ℕ). take k (drop at es)) same in
    let items : c.push.new.self.items ≡ above ++ entry ∷ [] = c.in_ok-push.ensures.items in
    let within : p ≤ length es - at = c.part_of.ensures.within in
    record {
      closed = λ told d f.
          let X : List Entry → Type 0 = λ xs. Exchanges m n d (suc d) (take (at + p) f.trees) xs in
          let added : Added n1 n block 1 c.in_ok-bytes.bytes.items = subst (λ (b : List ℕ). Added n1 n block 1 b) c.deref.ensures.value (c.in_ok-block.ensures.added told) in
          subst X (sym items) (closes_more m n1 n d block at p es above part entry c.in_ok-bytes.bytes.items f (omega (arith, within, c.parts-test.true)) c.part_of.ensures.many (inv.closed told d f) part_is added c.in_ok-bytes.ensures.entries c.entry_above.ensures.entry);
      fields = subst (λ (xs : List Entry). AllByRecursion FitsFields xs) (sym items) (each-append FitsFields above (entry ∷ []) inv.fields (c.entry_above.ensures.fields, tt));
      lines = omega (
        arith,
        ap lines_below items,
        total-append (λ (e : Entry). e.lines) above (entry ∷ []),
        inv.lines,
        ap (λ (e : Entry). e.lines) c.entry_above.ensures.entry,
        ap lines_below part_is,
        ap lines_below (take_run es at p),
        total-append (λ (e : Entry). e.lines) (take at es) (take p (drop at es)),
      );
      within = omega (arith, within, c.parts-test.true);
      left = λ more. omega (arith, c.parts-test.true, part_left (length es - at) p c.part_of.ensures.all c.part_of.ensures.part (omega (arith, more, c.parts-test.true)));
      many = omega (arith, ap length items, length-append above (entry ∷ []), inv.many, c.part_of.ensures.many);
      first = λ few. let size = ap length items ∙ length-append above (entry ∷ []) in
          let start : length above ≡ 0 = omega (arith, few, size) in
          let zero_at : at ≡ 0 = omega (arith, start, inv.first (omega (arith, start))) in
          omega (arith, size, start, zero_at, c.part_of.ensures.part (omega (arith, zero_at, c.requires.many)));
      kept = Continues-trans g.met.P.Pages.stays_on inv.kept c.in_ok-block.ensures.kept;
      faults = c.in_ok-block.ensures.cause.none (λ failed. absurd (cc)) ∙ inv.faults;
    }

pub returns-clause-closes : goal.returns-clause-closes
returns-clause-closes g c = λ told d f.
    exchanged_all _ _ d (suc d) c.args.entries.now c.parts.above.items f c.parts.at (omega (arith, c.parts-test.false, c.parts.invariant.within)) (c.parts.invariant.closed told d f)

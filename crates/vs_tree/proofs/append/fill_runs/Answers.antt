-- The runs have the first lines of the bytes, and those of the rest come after them.
use Rattle.std.proofs.Common.{◌≡◌, ℕ, ◌≤◌, List, [], ◌∷◌, ◌++◌, length, sym, ap, subst, ◌∙◌, arith, append-nil, length-append}
use Rattle.std.proofs.lemmas.List.{length-map}
use Rattle.vs_text.specs.Text.{stored_line}
use Rattle.vs_tree_shape.proofs.Shapes.{each-append}
use Rattle.vs_tree_blocks.specs.Cuts.{all_lines}
use Rattle.vs_tree_blocks.specs.Fills.{AllHaveLines}
use Rattle.vs_tree_blocks.proofs.CutsLemmas.{all_both}
use Rattle.vs_tree.specs.Appends.{IsFilled}
use Rattle.vs_tree.specs.Packed.{stored_lines}
use Rattle.vs_tree.proofs.AppendLemmas.{filled_both, short_after, stored_next}
use Rattle.vs_tree.proofs.Packing.{packed_next, packed_one}
use Rattle.vs_tree.proofs.append.fill_runs.Goals as goal

pub runs-init : goal.runs-init
runs-init c =
    let first = c.in-Ok.first in
    let is : all_lines c.in_ok-runs.runs.items ≡ first.run = ap all_lines c.in_ok-runs.ensures.items ∙ append-nil first.run in
    record {
      filled = subst (λ (run : List (List ℕ)). IsFilled c.args.bytes.now run first.rest.now) (sym is) c.in-Ok.ensures.filled;
      few = omega (arith, ap length c.in_ok-runs.ensures.items);
      each = subst (λ (bs : List (List (List ℕ))). AllHaveLines bs) (sym c.in_ok-runs.ensures.items) (omega (arith, c.in-Ok.ensures.filled.some, ap length c.in-Ok.ensures.filled.stored, length-map c.in-Ok.ensures.filled.put stored_line), tt);
      packed = λ whole. packed_one c.in_ok-runs.runs.items first.run (stored_lines first.rest.now) c.in_ok-runs.ensures.items (c.in-Ok.ensures.full whole);
      short = short_after c.args.bytes.now first.rest.now c.in-Ok.ensures.filled.put c.in-Ok.ensures.filled.lines c.requires.short;
    }

pub runs-preserved : goal.runs-preserved
runs-preserved c =
    let inv = c.runs.invariant in
    let filled = c.in-Ok-fill_from.filled in
    let before : List (List (List ℕ)) = c.runs.runs.items in
    let items : c.push.new.self.items ≡ before ++ filled.run ∷ [] = c.in_ok-push.ensures.items in
    let is : all_lines c.push.new.self.items ≡ all_lines before ++ filled.run = ap all_lines items ∙ all_both before (filled.run ∷ []) ∙ ap (λ (ls : List (List ℕ)). all_lines before ++ ls) (append-nil filled.run) in
    record {
      filled = filled_both c.args.bytes.now c.runs.rest.now filled.rest.now (all_lines before) filled.run (all_lines c.push.new.self.items) inv.filled c.in-Ok-fill_from.ensures.filled is;
      few = omega (arith, ap length items, length-append before (filled.run ∷ []));
      each = subst (λ (bs : List (List (List ℕ))). AllHaveLines bs) (sym items) (each-append (λ (ls : List (List ℕ)). 1 ≤ length ls) before (filled.run ∷ []) inv.each
          (omega (arith, c.in-Ok-fill_from.ensures.filled.some, ap length c.in-Ok-fill_from.ensures.filled.stored, length-map c.in-Ok-fill_from.ensures.filled.put stored_line), tt));
      packed = λ whole. packed_next before c.push.new.self.items filled.run (stored_lines c.runs.rest.now) (stored_lines filled.rest.now) items (inv.packed whole)
          (stored_next c.runs.rest.now filled.rest.now filled.run c.in-Ok-fill_from.ensures.filled) (c.in-Ok-fill_from.ensures.full (inv.filled.whole whole));
      short = short_after c.runs.rest.now filled.rest.now c.in-Ok-fill_from.ensures.filled.put c.in-Ok-fill_from.ensures.filled.lines inv.short;
    }

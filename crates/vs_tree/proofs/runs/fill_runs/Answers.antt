-- The runs have the first lines of those that are put, one run after the other.
use Rattle.std.proofs.Common.{◌≡◌, ℕ, ◌+◌, ◌-◌, ◌≤◌, List, [], ◌∷◌, ◌++◌, length, take, drop, map, sym, subst, ap, ◌∙◌, arith, append-nil, length-append}
use Rattle.vs_text.specs.Text.{stored_line}
use Rattle.vs_tree_shape.proofs.Shapes.{each-append}
use Rattle.vs_tree_blocks.specs.Cuts.{all_lines}
use Rattle.vs_tree_blocks.specs.Fills.{AllHaveLines}
use Rattle.vs_tree_blocks.proofs.CutsLemmas.{all_both}
use Rattle.vs_tree_blocks.proofs.RemovedLemmas.{drop_both}
use Rattle.vs_tree.specs.Packed.{IsFullBefore}
use Rattle.vs_tree.proofs.Packing.{lines_next, packed_next, packed_one}
use Rattle.vs_tree.proofs.Rounds.{rest_of, run_next}
use Rattle.vs_tree.proofs.runs.fill_runs.Goals as goal

pub runs-init : goal.runs-init
runs-init c =
    let first : List (List ℕ) = c.in_ok-first.first in
    let size : length first ≡ c.len-count.result = sym c.len-count.ensures.len in
    record {
      runs = ap all_lines c.in_ok-runs.ensures.items ∙ append-nil first ∙ c.in_ok-first.ensures.run ∙ ap (λ (n : ℕ). map stored_line (take n c.args.lines.now)) size;
      few = omega (arith, ap length c.in_ok-runs.ensures.items);
      each = subst (λ (bs : List (List (List ℕ))). AllHaveLines bs) (sym c.in_ok-runs.ensures.items) (omega (arith, c.in_ok-first.ensures.some), tt);
      packed = packed_one c.in_ok-runs.runs.items first _ c.in_ok-runs.ensures.items (subst (λ n. IsFullBefore first (map stored_line (drop n c.args.lines.now))) size c.in_ok-first.ensures.full);
      some = omega (arith, size, c.in_ok-first.ensures.some);
      within = omega (arith, size, c.in_ok-first.ensures.within);
    }

pub runs-preserved : goal.runs-preserved
runs-preserved c =
    let inv = c.runs.invariant in
    let lines : List (List ℕ) = c.args.lines.now in
    let i : ℕ = c.runs.count in
    let run : List (List ℕ) = c.in_ok-run.run' in
    let before : List (List (List ℕ)) = c.runs.runs.items in
    let all : take (length lines - i) (drop i lines) ≡ drop i lines = rest_of lines i in
    let size : length run ≡ c.len-in-runs.result = sym c.len-in-runs.ensures.len in
    let run_is : run ≡ map stored_line (take c.len-in-runs.result (drop i lines)) = c.in_ok-run.ensures.run ∙ ap (λ xs. map stored_line (take (length run) xs)) all ∙ ap (λ k. map stored_line (take k (drop i lines))) size in
    let full : IsFullBefore run (map stored_line (drop (i + c.len-in-runs.result) lines)) =
    subst (λ ls. IsFullBefore run (map stored_line ls)) (ap (λ ls. drop (length run) ls) all ∙ ap (λ k. drop k (drop i lines)) size ∙ sym (drop_both lines i c.len-in-runs.result inv.within)) c.in_ok-run.ensures.full in
    let items : c.push.new.self.items ≡ before ++ run ∷ [] = c.in_ok-push.ensures.items in
    let is : all_lines c.push.new.self.items ≡ all_lines before ++ run = ap all_lines items ∙ all_both before (run ∷ []) ∙ ap (λ (ls : List (List ℕ)). all_lines before ++ ls) (append-nil run) in
    record {
      runs = is ∙ run_next lines (all_lines before) run i c.len-in-runs.result inv.within inv.runs run_is;
      few = omega (arith, ap length items, length-append before (run ∷ []));
      each = subst (λ (bs : List (List (List ℕ))). AllHaveLines bs) (sym items) (each-append (λ (ls : List (List ℕ)). 1 ≤ length ls) before (run ∷ []) inv.each (omega (arith, c.in_ok-run.ensures.some), tt));
      packed = packed_next before c.push.new.self.items run (map stored_line (drop i lines)) _ items inv.packed (lines_next lines run i c.len-in-runs.result inv.within run_is) full;
      some = omega (arith, inv.some);
      within = omega (arith, c.in_ok-run.ensures.within, size, inv.within, ap length all);
    }

-- The first run is put by the edit of a line, and the others go behind it, so a line alone is put by the first.
use Rattle.std.proofs.Common.{◌≡◌, ◌==◌, ℕ, Bool, true, ◌+◌, ◌-◌, ◌≤◌, ◌++◌, List, [], length, take, drop, map, refl, sym, ap, subst, ◌∙◌, arith, length-take}
use Rattle.std.proofs.lemmas.Bool.Decides.{nat_tests}
use Rattle.std.proofs.lemmas.Grind.{common_steps}
use Rattle.std.proofs.lemmas.List.{drop_all, length-map}
use Rattle.vs_text.specs.Text.{stored_line}
use Rattle.vs_pages.proofs.Steps.{Continues-trans}
use Rattle.vs_tree_shape.proofs.Working.{works_none}
use Rattle.vs_tree_shape.specs.Changes.{splice}
use Rattle.vs_tree_shape.specs.DataBlocks.{Cuts}
use Rattle.vs_tree_blocks.specs.Blocks.{data_blocks}
use Rattle.vs_tree_blocks.specs.Cuts.{all_lines}
use Rattle.vs_tree_blocks.specs.Fills.{AllHaveLines}
use Rattle.vs_tree.specs.Runs.{HasTree, with_lines}
use Rattle.vs_tree.proofs.Rounds.{put_next, rest_of, run_next, with_none}
use Rattle.vs_tree_blocks.proofs.EntriesLemmas.{take_all}
use Rattle.vs_tree_blocks.proofs.RemovedLemmas.{drop_both}
use Rattle.vs_tree.specs.Packed.{ArePacked, ArePut, IsFullBefore}
use Rattle.vs_tree.proofs.OwnBlocks.{Spreads, put_first, put_more}
use Rattle.vs_tree.proofs.Packing.{lines_next}
use Rattle.vs_tree.proofs.Bounds.{slight_run}
use Rattle.vs_tree.proofs.runs.put_lines.Goals as goal

no_lines : (n : ℕ) (empty : Bool) → empty ≡ (n == 0) → empty ≡ true → n ≡ 0
no_lines n empty is so = grind (arith, nat_tests)

nothing : (new : List (List ℕ)) → length new ≡ 0 → new ≡ []
nothing new none = grind (arith, common_steps)

from_first : (new : List (List ℕ)) → new ≡ drop 0 new
from_first new = grind (arith, common_steps)

pub returns-then-is_empty-clause-put : goal.returns-then-is_empty-clause-put
returns-then-is_empty-clause-put g c = λ told lines has.
    let none : c.args.new.now ≡ [] = nothing c.args.new.now (no_lines (length c.args.new.now) c.is_empty.result c.is_empty.ensures c.if-is_empty.true) in
    subst (λ (xs : List (List ℕ)). HasTree (g.P.Pages.shows c.args.pages.now).present c.args.root xs) (sym (ap (λ (xs : List (List ℕ)). with_lines lines c.args.at xs) none ∙ with_none lines c.args.at)) has

pub returns-then-is_empty-clause-works : goal.returns-then-is_empty-clause-works
returns-then-is_empty-clause-works g c = λ told lines has small. works_none _ _ _ refl

pub runs-init : goal.runs-init
runs-init g c =
    let new : List (List ℕ) = c.args.new.now in
    let run : List (List ℕ) = c.in_ok-run.run' in
    let size : length run ≡ c.len-put.result = sym c.len-put.ensures.len in
    let run_is : run ≡ map stored_line (take c.len-put.result new) = c.in_ok-run.ensures.run ∙ ap (λ k. map stored_line (take k new)) size in
    record {
      some = omega (arith, c.in_ok-run.ensures.some, size);
      within = omega (arith, c.in_ok-run.ensures.within, size);
      put = λ told lines has. subst (λ (xs : List (List ℕ)). HasTree (g.P.Pages.shows c.put_run.new.pages).present c.in_ok-first.first xs) (ap (λ r. splice lines c.args.at 0 r) run_is) (c.in_ok-first.ensures.put told lines has);
      lines = omega (arith, c.in_ok-first.ensures.lines, size);
      higher = omega (arith, c.in_ok-first.ensures.higher, c.in_ok-run.ensures.some, size);
      more = omega (arith, c.in_ok-run.ensures.some, c.in_ok-run.ensures.within);
      filled = c.in_ok-first.ensures.filled (omega (arith, c.in_ok-run.ensures.some));
      packed = λ told. subst (λ ls. ArePut (data_blocks (g.P.Pages.shows c.put_run.new.pages).present c.in_ok-first.first.height) c.args.at ls (map stored_line (drop c.len-put.result new))) run_is
          (put_first _ c.args.at run _ c.in_ok-run.ensures.some c.in_ok-run.ensures.page (subst (λ k. IsFullBefore run (map stored_line (drop k new))) size c.in_ok-run.ensures.full)
          (c.in_ok-first.ensures.holds c.in_ok-run.ensures.some told));
      works = λ told lines has small. c.in_ok-first.ensures.works told lines has (slight_run new run c.len-put.result 0 (run_is ∙ ap (λ xs. map stored_line (take c.len-put.result xs)) (from_first new)) refl small.0 small.1);
      kept = c.put_run.ensures.kept;
      faults = c.in_ok-first.ensures.cause.none (λ failed. absurd (cc));
    }

pub put_runs-requires-clause-there : goal.put_runs-requires-clause-there
put_runs-requires-clause-there g c = λ told. let r = c.requires.there told in (with_lines r.0 c.args.at (take c.runs.put c.args.new.now), c.runs.invariant.put told r.0 r.1)

pub put_runs-requires-clause-few : goal.put_runs-requires-clause-few
put_runs-requires-clause-few g c = omega (arith, ap length c.deref.ensures.value, c.in_ok-filled.ensures.few)

pub put_runs-requires-clause-lines : goal.put_runs-requires-clause-lines
put_runs-requires-clause-lines g c =
    let new : List (List ℕ) = c.args.new.now in
    let i : ℕ = c.runs.put in
    let n : ℕ = c.in_ok-filled.filled.lines in
    let some : List (List ℕ) = take (length new - i) (drop i new) in
    omega (arith, ap length (ap all_lines c.deref.ensures.value ∙ c.in_ok-filled.ensures.runs), length-map (take n some) stored_line, length-take n some, c.in_ok-filled.ensures.within, ap length (rest_of new i), length-take (length new - i) (drop i new), c.requires.small)

pub runs-preserved : goal.runs-preserved
runs-preserved g c =
    let inv = c.runs.invariant in
    let new : List (List ℕ) = c.args.new.now in
    let i : ℕ = c.runs.put in
    let n : ℕ = c.in_ok-filled.filled.lines in
    let run : List (List ℕ) = all_lines c.deref.result.now in
    let all : take (length new - i) (drop i new) ≡ drop i new = rest_of new i in
    let run_is : run ≡ map stored_line (take n (drop i new)) = ap all_lines c.deref.ensures.value ∙ c.in_ok-filled.ensures.runs ∙ ap (λ xs. map stored_line (take n xs)) all in
    let within : n ≤ length (drop i new) = omega (arith, c.in_ok-filled.ensures.within, ap length all) in
    let size : length run ≡ n = omega (arith, ap length run_is, length-map (take n (drop i new)) stored_line, length-take n (drop i new), within) in
    record {
      some = omega (arith, inv.some);
      within = omega (arith, within, inv.within, Rattle.std.proofs.Common.length-drop i new);
      put = λ told lines has.
          let place : c.args.at ≤ length lines = omega (arith, has.count, c.requires.within) in
          subst (λ (xs : List (List ℕ)). HasTree (g.P.Pages.shows c.put_runs.new.pages).present c.in_ok-now.now xs) (put_next lines new run c.args.at i (c.args.at + i) n place inv.within refl run_is)
          (c.in_ok-now.ensures.put told (with_lines lines c.args.at (take i new)) (inv.put told lines has));
      lines = omega (arith, c.in_ok-now.ensures.lines, inv.lines, size);
      higher = omega (arith, inv.higher, c.in_ok-now.ensures.higher, c.in_ok-filled.ensures.some);
      more = inv.more;
      filled = λ least one half told f. c.in_ok-now.ensures.filled (subst (λ (bs : List (List (List ℕ))). AllHaveLines bs) (sym c.deref.ensures.value) c.in_ok-filled.ensures.each) least one half told (inv.filled least one half told f);
      packed = λ told.
          let more : List (List (List ℕ)) = c.deref.result.now in
          let now_put : map stored_line (take i new) ++ all_lines more ≡ map stored_line (take (i + n) new) = run_next new (map stored_line (take i new)) run i n inv.within refl run_is in
          let before : List (List ℕ) = map stored_line (take i new) in
          let at_end : c.args.at + i - 1 ≡ c.args.at + length before - 1 = omega (arith, length-map (take i new) stored_line, length-take i new, inv.within) in
          let rest : List (List ℕ) = map stored_line (drop (i + n) new) in
          let after : map stored_line (drop i new) ≡ all_lines more ++ rest = lines_next new run i n inv.within run_is in
          let full : ArePacked more rest = subst (λ rs. ArePacked rs rest) (sym c.deref.ensures.value)
          (subst (λ ls. ArePacked c.in_ok-filled.filled.runs.items (map stored_line ls)) (ap (λ ls. drop n ls) all ∙ sym (drop_both new i n inv.within)) c.in_ok-filled.ensures.packed) in
          let old = data_blocks (g.P.Pages.shows c.runs.pages).present c.runs.now.height in
          let blocks = data_blocks (g.P.Pages.shows c.put_runs.new.pages).present c.in_ok-now.now.height in
          let put = put_more old blocks c.args.at more before _ rest (inv.packed told) (subst (λ k. Cuts old k (Spreads more) blocks) at_end (c.in_ok-now.ensures.cuts told))
          (subst (λ (bs : List (List (List ℕ))). AllHaveLines bs) (sym c.deref.ensures.value) c.in_ok-filled.ensures.each) after full in
          subst (λ ls. ArePut blocks c.args.at ls rest) now_put put;
      works = λ told lines has small. absurd (omega (arith, small.0, inv.some, c.runs-test.true));
      kept = Continues-trans g.met.P.Pages.stays_on inv.kept c.put_runs.ensures.kept;
      faults = c.in_ok-now.ensures.cause.none (λ failed. absurd (cc)) ∙ inv.faults;
    }

pub returns-clause-put : goal.returns-clause-put
returns-clause-put g c = λ told lines has.
    let all : take c.runs.put c.args.new.now ≡ c.args.new.now = take_all c.args.new.now c.runs.put (omega (arith, c.runs-test.false)) in
    subst (λ (xs : List (List ℕ)). HasTree (g.P.Pages.shows c.runs.pages).present c.runs.now (with_lines lines c.args.at xs)) all (c.runs.invariant.put told lines has)

pub returns-in_err-now-clause-kept : goal.returns-in_err-now-clause-kept
returns-in_err-now-clause-kept g c = Continues-trans g.met.P.Pages.stays_on c.runs.invariant.kept c.put_runs.ensures.kept

pub returns-then-is_empty-clause-filled : goal.returns-then-is_empty-clause-filled
returns-then-is_empty-clause-filled g c = λ least one half told f. f

pub returns-clause-filled : goal.returns-clause-filled
returns-clause-filled g c = c.runs.invariant.filled

pub returns-then-is_empty-clause-none : goal.returns-then-is_empty-clause-none
returns-then-is_empty-clause-none g c = λ none. (refl, λ told. (refl, refl))

pub returns-clause-none : goal.returns-clause-none
returns-clause-none g c = λ none. absurd (omega (arith, none, c.runs.invariant.more))

pub returns-then-is_empty-clause-packed : goal.returns-then-is_empty-clause-packed
returns-then-is_empty-clause-packed g c = λ told some.
    absurd (omega (arith, some, length-map c.args.new.now stored_line, no_lines (length c.args.new.now) c.is_empty.result c.is_empty.ensures c.if-is_empty.true))

pub returns-clause-packed : goal.returns-clause-packed
returns-clause-packed g c = λ told some.
    let new : List (List ℕ) = c.args.new.now in
    let put : ℕ = c.runs.put in
    let all : take put new ≡ new = take_all new put (omega (arith, c.runs-test.false)) in
    let none : drop put new ≡ [] = drop_all put new (omega (arith, c.runs-test.false)) in
    let blocks = data_blocks (g.P.Pages.shows c.runs.pages).present c.runs.now.height in
    subst (λ ls. ArePut blocks c.args.at (map stored_line ls) []) all (subst (λ ls. ArePut blocks c.args.at (map stored_line (take put new)) (map stored_line ls)) none (c.runs.invariant.packed told))

use Rattle.std.proofs.Common.{◌≡◌, ℕ, suc, ◌+◌, ◌≤◌, List, [], length, get_or, refl, sym, ap, subst, ◌∙◌, arith, ◌-◌}
use Rattle.vs_text.specs.Text.{bytes_of}
use Rattle.vs_pages.proofs.Steps.{Continues-none, Continues-trans}
use Rattle.vs_tree_shape.proofs.Working.{works_idle, works_still}
use Rattle.vs_pages.specs.Maps.{Map}
use Rattle.vs_tree_shape.specs.Filled.{HasFilledRoot}
use Rattle.vs_tree_shape.specs.Changes.{pointer_entry}
use Rattle.vs_tree_shape.specs.Paths.{IsWalk}
use Rattle.vs_tree.specs.declared.walk.Root.{Root}
use Rattle.vs_tree_shape.specs.Trees.{HasLines}
use Rattle.vs_tree_blocks.specs.Blocks.{tree_format}
use Rattle.vs_tree_blocks.specs.Edits.{FitsPage}
use Rattle.vs_tree.specs.Runs.{HasTree, without_lines, run_of}
use Rattle.vs_tree.proofs.Rounds.{length_without, take_next, bytes_next, bytes_run, without_none}
use Rattle.vs_tree.proofs.Bounds.{slight_at}
use Rattle.vs_tree.proofs.RunBlocks.{keeps_on, taken_start}
use Rattle.vs_tree.proofs.runs.take_lines.Goals as goal

pub rounds-init : goal.rounds-init
rounds-init g c = record {
  within = omega arith;
  taken = λ told lines has. subst (λ (xs : List (List ℕ)). HasTree (g.P.Pages.shows c.args.pages.now).present c.args.root xs) (sym (without_none lines c.args.at)) has;
  bytes = λ told lines has few. refl;
  lines = omega arith;
  level = refl;
  start = λ none. (refl, λ told. (refl, refl));
  before = λ told front back start others is some few. record { behind = others; back = back; all_are = is; less = omega arith };
  filled = λ one some left. absurd (omega (arith, some));
  thins = λ one some. absurd (omega (arith, some));
  works = λ told lines has small. works_idle _ _ _ refl;
  kept = Continues-none g.met.P.Pages.stays_itself c.requires.valid;
  faults = refl;
}

pub edit_tree-requires-clause-there : goal.edit_tree-requires-clause-there
edit_tree-requires-clause-there g c = λ told. let r = c.requires.there told in (without_lines r.0 c.args.at c.rounds.removed, c.rounds.invariant.taken told r.0 r.1)

pub rounds-preserved : goal.rounds-preserved
rounds-preserved g c =
    let inv = c.rounds.invariant in
    let gone : ℕ = c.in_ok-after.after.removed.lines in
    let took = c.in_ok-after.ensures.may_take in
    record {
      within = omega (arith, took.1, inv.within);
      taken = λ told lines has.
          let here = inv.taken told lines has in
          let inside : c.args.at + (c.rounds.removed + gone) ≤ length lines = omega (arith, has.count, c.requires.within, took.1) in
          let after = c.in_ok-after.ensures.edited told (without_lines lines c.args.at c.rounds.removed) here in
          record {
            lines_are = subst (λ (xs : List (List ℕ)). HasLines tree_format (g.P.Pages.shows c.edit_tree.new.pages).present c.in_ok-after.after.root.height xs) (take_next lines c.args.at c.rounds.removed gone inside) after.0;
            count = omega (arith, length_without lines c.args.at (c.rounds.removed + gone) inside, has.count, c.in_ok-after.ensures.lines, inv.lines);
          };
      bytes = λ told lines has few.
          let here = inv.taken told lines has in
          let inside : c.args.at + (c.rounds.removed + gone) ≤ length lines = omega (arith, has.count, c.requires.within, took.1) in
          let after = c.in_ok-after.ensures.edited told (without_lines lines c.args.at c.rounds.removed) here in
          omega (arith, inv.bytes told lines has few, after.1.bytes_are, bytes_next lines c.args.at c.rounds.removed gone inside, bytes_run lines c.args.at (c.rounds.removed + gone), few, c.saturating_add-bytes.ensures);
      lines = omega (arith, c.in_ok-after.ensures.lines, inv.lines);
      level = c.in_ok-after.ensures.level (omega arith) ∙ inv.level;
      start = λ none. absurd (omega (arith, none, took.0));
      before = λ told front back start others is some few.
          let kept = inv.before told front back start others is some few in
          keeps_on _ front start others kept.behind (taken_start _ _ c.args.at (c.args.count - c.rounds.removed) gone front kept.back start kept.behind (c.in_ok-after.ensures.cuts told) kept.all_are some few) kept.less;
      filled = λ one some left least low half told f.
          let none : c.rounds.removed ≡ 0 = omega (arith, one, c.rounds-test.true) in
          let here : HasFilledRoot tree_format (g.P.Pages.shows c.rounds.pages).present (suc least) c.rounds.now.height =
          subst (λ (h : ℕ). HasFilledRoot tree_format (g.P.Pages.shows c.rounds.pages).present (suc least) h) (sym inv.level)
          (subst (λ (m : Map). HasFilledRoot tree_format m (suc least) c.args.root.height) (sym ((inv.start none).1 told).0) f) in
          c.in_ok-after.ensures.filled (suc least) least (record { lines = tt; some = low; half = half; sum = omega arith }) left told here;
      thins = λ one some told f two entry rest walk.
          let none : c.rounds.removed ≡ 0 = omega (arith, one, c.rounds-test.true) in
          let m : Map = (g.P.Pages.shows c.rounds.pages).present in
          let same = (inv.start none).1 told in
          let root = (inv.start none).0 in
          let all : HasFilledRoot tree_format m 32 c.rounds.now.height =
          subst (λ (r : Root). HasFilledRoot tree_format m 32 r.height) (sym root) (subst (λ (k : Map). HasFilledRoot tree_format k 32 c.args.root.height) (sym same.0) f) in
          let way : IsWalk tree_format m (c.rounds.now.height - 1) (pointer_entry 1 c.rounds.now.lines) c.args.at entry rest =
          subst (λ (r : Root). IsWalk tree_format m (r.height - 1) (pointer_entry 1 r.lines) c.args.at entry rest) (sym root)
          (subst (λ (k : Map). IsWalk tree_format k (c.args.root.height - 1) (pointer_entry 1 c.args.root.lines) c.args.at entry rest) (sym same.0) walk) in
          c.in_ok-after.ensures.thins (refl, omega (arith, one, none, took.0, took.1)) told all (omega (arith, two, inv.lines, none)) entry rest way;
      works = λ told lines has small.
          let none : c.rounds.removed ≡ 0 = omega (arith, small.0, c.rounds-test.true) in
          let same = inv.start none in
          let all : without_lines lines c.args.at c.rounds.removed ≡ lines = ap (λ (k : ℕ). without_lines lines c.args.at k) none ∙ without_none lines c.args.at in
          let line = slight_at lines c.args.at c.args.count (omega (arith, c.rounds-test.true)) (omega (arith, has.count, c.requires.within, c.rounds-test.true)) small.1 in
          works_still _ (g.P.Pages.shows c.rounds.pages).worked _ (c.rounds.now.height + 1) (c.args.root.height + 1) (omega (arith, inv.level)) (same.1 told).1
          (c.in_ok-after.ensures.only (omega arith) told (without_lines lines c.args.at c.rounds.removed) (inv.taken told lines has) (subst (λ (xs : List (List ℕ)). FitsPage (get_or xs c.args.at [])) (sym all) line));
      kept = Continues-trans g.met.P.Pages.stays_on inv.kept c.edit_tree.ensures.kept;
      faults = c.in_ok-after.ensures.cause.none (λ failed. absurd (cc)) ∙ inv.faults;
    }

pub returns-clause-bytes : goal.returns-clause-bytes
returns-clause-bytes g c = λ told lines has few.
    let all : c.rounds.removed ≡ c.args.count = omega (arith, c.rounds.invariant.within, c.rounds-test.false) in
    c.rounds.invariant.bytes told lines has few ∙ ap (λ i. bytes_of (run_of lines c.args.at i)) all

pub returns-clause-none : goal.returns-clause-none
returns-clause-none g c = λ none. c.rounds.invariant.start (omega (arith, none, c.rounds.invariant.within))

pub returns-clause-taken : goal.returns-clause-taken
returns-clause-taken g c = λ told lines has.
    let all : c.rounds.removed ≡ c.args.count = omega (arith, c.rounds.invariant.within, c.rounds-test.false) in
    subst (λ (i : ℕ). HasTree (g.P.Pages.shows c.rounds.pages).present c.rounds.now (without_lines lines c.args.at i)) all (c.rounds.invariant.taken told lines has)

pub returns-in_err-after-clause-kept : goal.returns-in_err-after-clause-kept
returns-in_err-after-clause-kept g c = Continues-trans g.met.P.Pages.stays_on c.rounds.invariant.kept c.edit_tree.ensures.kept

pub returns-clause-filled : goal.returns-clause-filled
returns-clause-filled g c = λ one left. c.rounds.invariant.filled one (omega (arith, one, c.rounds-test.false)) left

pub returns-clause-thins : goal.returns-clause-thins
returns-clause-thins g c = λ one. c.rounds.invariant.thins one (omega (arith, one, c.rounds-test.false))

pub returns-clause-before : goal.returns-clause-before
returns-clause-before g c = c.rounds.invariant.before

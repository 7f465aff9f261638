-- The lines that are put so far are the first ones, and those of the next runs come after them.
use Rattle.std.proofs.Common.{◌≡◌, ℕ, ◌+◌, ◌-◌, List, [], ◌++◌, length, map, refl, sym, ap, subst, ◌∙◌, arith, append-nil, length-append}
use Rattle.std.proofs.lemmas.List.{length-map, map-append}
use Rattle.vs_text.specs.Text.{lines_of, stored_line}
use Rattle.vs_pages.proofs.Steps.{Continues-none, Continues-trans}
use Rattle.vs_tree_shape.specs.DataBlocks.{Cuts}
use Rattle.vs_tree_blocks.specs.Blocks.{data_blocks}
use Rattle.vs_tree_blocks.specs.Cuts.{all_lines}
use Rattle.vs_tree_blocks.specs.Fills.{AllHaveLines}
use Rattle.vs_tree.specs.Packed.{ArePacked, HaveBlocks, stored_lines}
use Rattle.vs_tree.specs.Runs.{HasTree}
use Rattle.vs_tree.proofs.AppendLemmas.{all_put, cut_more, end_more, lines_none, short_after}
use Rattle.vs_tree.proofs.OwnBlocks.{Spreads, blocks_next, blocks_none}
use Rattle.vs_tree.proofs.append.append_runs.Goals as goal

pub runs-init : goal.runs-init
runs-init g c = record {
  put = [];
  cut = refl;
  tree = λ told lines has. subst (λ (xs : List (List ℕ)). HasTree (g.P.Pages.shows c.args.pages.now).present c.args.root xs) (sym (append-nil lines)) has;
  lines = omega arith;
  whole = λ whole. whole;
  packed = λ whole told at run end some row. blocks_none _ at run (stored_lines c.args.bytes.now) row;
  filled = λ least one half told f. f;
  kept = Continues-none g.met.P.Pages.stays_itself c.requires.valid;
  faults = refl;
}

pub fill_runs-requires-clause-short : goal.fill_runs-requires-clause-short
fill_runs-requires-clause-short g c = short_after c.args.bytes.now c.runs.rest.now c.runs.invariant.put c.runs.invariant.cut c.requires.short

pub put_runs-requires-clause-there : goal.put_runs-requires-clause-there
put_runs-requires-clause-there g c = λ told. let r = c.requires.there told in (r.0 ++ map stored_line c.runs.invariant.put, c.runs.invariant.tree told r.0 r.1)

pub put_runs-requires-clause-small : goal.put_runs-requires-clause-small
put_runs-requires-clause-small g c = omega (arith, c.runs.invariant.lines, ap length c.runs.invariant.cut, length-append c.runs.invariant.put (lines_of c.runs.rest.now), c.requires.small)

pub put_runs-requires-clause-lines : goal.put_runs-requires-clause-lines
put_runs-requires-clause-lines g c =
    let filled = c.in-Ok.ensures.filled in
    let inv = c.runs.invariant in
    omega (arith, ap length (ap all_lines c.deref.ensures.value), ap length filled.stored, length-map filled.put stored_line, ap length filled.lines, length-append filled.put (lines_of c.in-Ok.filled.rest.now), ap length inv.cut, length-append inv.put (lines_of c.runs.rest.now), c.requires.small)

pub runs-preserved : goal.runs-preserved
runs-preserved g c =
    let inv = c.runs.invariant in
    let filled = c.in-Ok.ensures.filled in
    let run_is : all_lines c.deref.result.now ≡ all_lines c.in-Ok.filled.runs.items = ap all_lines c.deref.ensures.value in
    record {
      put = inv.put ++ filled.put;
      cut = cut_more c.args.bytes.now c.runs.rest.now c.in-Ok.filled.rest.now inv.put filled.put inv.cut filled.lines;
      tree = λ told lines has.
          let before = inv.tree told lines has in
          subst (λ (xs : List (List ℕ)). HasTree (g.P.Pages.shows c.put_runs.new.pages).present c.in_ok-now.now xs) (end_more lines inv.put filled.put (all_lines c.deref.result.now) c.runs.now.lines (sym before.count) (run_is ∙ filled.stored))
          (c.in_ok-now.ensures.put told (lines ++ map stored_line inv.put) before);
      lines = omega (arith, c.in_ok-now.ensures.lines, inv.lines, ap length run_is, ap length filled.stored, length-map filled.put stored_line, length-append inv.put filled.put);
      whole = λ whole. filled.whole (inv.whole whole);
      packed = λ whole told at run end some row.
          let more : List (List (List ℕ)) = c.deref.result.now in
          let before : List (List ℕ) = map stored_line inv.put in
          let old = data_blocks (g.P.Pages.shows c.runs.pages).present c.runs.now.height in
          let blocks = data_blocks (g.P.Pages.shows c.put_runs.new.pages).present c.in_ok-now.now.height in
          let put_is : all_lines more ≡ map stored_line filled.put = run_is ∙ filled.stored in
          let after : stored_lines c.runs.rest.now ≡ all_lines more ++ stored_lines c.in-Ok.filled.rest.now =
          ap (λ ls. map stored_line ls) filled.lines ∙ map-append stored_line filled.put (lines_of c.in-Ok.filled.rest.now) ∙ ap (λ ls. ls ++ stored_lines c.in-Ok.filled.rest.now) (sym put_is) in
          let all : before ++ all_lines more ≡ map stored_line (inv.put ++ filled.put) = ap (λ ls. before ++ ls) put_is ∙ sym (map-append stored_line inv.put filled.put) in
          let at_end : c.runs.now.lines - 1 ≡ at + length run + length before - 1 = omega (arith, end, inv.lines, length-map inv.put stored_line) in
          subst (λ ls. HaveBlocks blocks at run ls (stored_lines c.in-Ok.filled.rest.now)) all
          (blocks_next old blocks at run more before (stored_lines c.runs.rest.now) (stored_lines c.in-Ok.filled.rest.now) (inv.packed whole told at run end some row) some
          (subst (λ k. Cuts old k (Spreads more) blocks) at_end (c.in_ok-now.ensures.cuts told)) (subst (λ (bs : List (List (List ℕ))). AllHaveLines bs) (sym c.deref.ensures.value) c.in-Ok.ensures.each)
          after (subst (λ rs. ArePacked rs (stored_lines c.in-Ok.filled.rest.now)) (sym c.deref.ensures.value) (c.in-Ok.ensures.packed (inv.whole whole))));
      filled = λ least one half told f. c.in_ok-now.ensures.filled (subst (λ (bs : List (List (List ℕ))). AllHaveLines bs) (sym c.deref.ensures.value) c.in-Ok.ensures.each) least one half told (inv.filled least one half told f);
      kept = Continues-trans g.met.P.Pages.stays_on inv.kept c.put_runs.ensures.kept;
      faults = c.in_ok-now.ensures.cause.none (λ failed. absurd (cc)) ∙ inv.faults;
    }

pub returns-clause-put : goal.returns-clause-put
returns-clause-put g c =
    let none : length c.runs.rest.now ≡ 0 = grind arith in
    let all = all_put c.args.bytes.now c.runs.rest.now c.runs.invariant.put c.runs.invariant.cut none in λ told lines has.
    subst (λ (xs : List (List ℕ)). HasTree (g.P.Pages.shows c.runs.pages).present c.runs.now (lines ++ map stored_line xs)) all (c.runs.invariant.tree told lines has)

pub returns-clause-lines : goal.returns-clause-lines
returns-clause-lines g c =
    let none : length c.runs.rest.now ≡ 0 = grind arith in
    let all = all_put c.args.bytes.now c.runs.rest.now c.runs.invariant.put c.runs.invariant.cut none in
    omega (arith, ap length all, c.runs.invariant.lines)

pub returns-in_err-now-clause-kept : goal.returns-in_err-now-clause-kept
returns-in_err-now-clause-kept g c = Continues-trans g.met.P.Pages.stays_on c.runs.invariant.kept c.put_runs.ensures.kept

pub put_runs-requires-clause-few : goal.put_runs-requires-clause-few
put_runs-requires-clause-few g c = omega (arith, ap length c.deref.ensures.value, c.in-Ok.ensures.few)

pub returns-clause-filled : goal.returns-clause-filled
returns-clause-filled g c = c.runs.invariant.filled

pub returns-clause-packed : goal.returns-clause-packed
returns-clause-packed g c =
    let none : length c.runs.rest.now ≡ 0 = grind arith in
    let all = all_put c.args.bytes.now c.runs.rest.now c.runs.invariant.put c.runs.invariant.cut none in
    λ whole told at run end some row.
    let blocks = data_blocks (g.P.Pages.shows c.runs.pages).present c.runs.now.height in
    subst (λ ls. HaveBlocks blocks at run (map stored_line ls) []) all
    (subst (λ ls. HaveBlocks blocks at run (map stored_line c.runs.invariant.put) (map stored_line ls)) (lines_none c.runs.rest.now none) (c.runs.invariant.packed whole told at run end some row))

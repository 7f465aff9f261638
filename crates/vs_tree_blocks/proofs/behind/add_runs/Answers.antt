-- Each new block stands behind those that were added before it.
use Rattle.std.proofs.Common.{◌≡◌, ℕ, List, [], ◌∷◌, ◌++◌, take, get_or, length, sym, ap, subst, ◌∙◌, arith, length-append}
use Rattle.std.specs.List.{AllByRecursion}
use Rattle.std.proofs.lemmas.List.{get_or_default}
use Rattle.vs_pages.proofs.Steps.{Continues-trans}
use Rattle.vs_pages.specs.Maps.{Map}
use Rattle.vs_tree_shape.specs.declared.entries.Entry.{Entry}
use Rattle.vs_tree_shape.specs.Places.{lines_below}
use Rattle.vs_tree_shape.proofs.Shapes.{each-append}
use Rattle.vs_tree_blocks.specs.Blocks.{FitsFields}
use Rattle.vs_tree_blocks.specs.Writes.{HasBlocks}
use Rattle.vs_tree_blocks.proofs.BehindLemmas.{below_both, blocks_behind, count_more, next_run, one_block}
use Rattle.vs_tree_blocks.proofs.behind.add_runs.Goals as goal

pub returns-in_err-new-clause-kept : goal.returns-in_err-new-clause-kept
returns-in_err-new-clause-kept g c = Continues-trans g.met.P.Pages.stays_on c.runs.invariant.kept c.add.ensures.kept

pub returns-in_err-push-clause-kept : goal.returns-in_err-push-clause-kept
returns-in_err-push-clause-kept g c = Continues-trans g.met.P.Pages.stays_on c.runs.invariant.kept c.in_ok-new.ensures.kept

pub runs-preserved : goal.runs-preserved
runs-preserved g c =
    let inv = c.runs.invariant in
    let runs : List (List (List ℕ)) = c.args.runs.now in
    let i : ℕ = c.runs.run-index in
    let run : List (List ℕ) = c.run-item.result in
    let new : Entry = c.in_ok-new.new in
    let before : List Entry = c.runs.entries.items in
    let m : Map = (g.P.Pages.shows c.args.pages.now).present in
    let n : Map = (g.P.Pages.shows c.add.new.pages).present in
    let item : run ≡ get_or runs i [] = c.run-item.is ∙ get_or_default runs i run [] (omega arith) in
    let items : c.push.new.self.items ≡ before ++ new ∷ [] = c.in_ok-push.ensures.items in
    record {
      added = λ told.
          let both = blocks_behind m _ n (λ k. 0) (take i runs) (run ∷ []) before (new ∷ []) (inv.added told) (one_block _ n run new (c.in_ok-new.ensures.added told) c.in_ok-new.ensures.lines) in
          subst (λ (bs : List (List (List ℕ))). HasBlocks m n (λ k. 0) bs c.push.new.self.items) (sym (next_run runs i run (omega arith) item))
          (subst (λ (es : List Entry). HasBlocks m n (λ k. 0) (take i runs ++ run ∷ []) es) (sym items) both);
      fields = subst (λ (es : List Entry). AllByRecursion FitsFields es) (sym items) (each-append FitsFields before (new ∷ []) inv.fields (c.in_ok-new.ensures.fields, tt));
      many = omega (arith, ap length items, length-append before (new ∷ []), inv.many);
      lines = omega (arith, ap lines_below items, below_both before (new ∷ []), inv.lines, c.in_ok-new.ensures.lines, count_more runs i run (omega arith) item);
      kept = Continues-trans g.met.P.Pages.stays_on inv.kept c.in_ok-new.ensures.kept;
      faults = c.in_ok-new.ensures.cause.none (λ failed. absurd (cc)) ∙ inv.faults;
    }

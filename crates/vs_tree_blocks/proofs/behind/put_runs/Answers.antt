-- The runs stand after the lines of the block, or between the two parts into which it is split.
use Rattle.std.proofs.Common.{◌≡◌, ℕ, List, length, ap, subst, ◌∙◌, arith}
use Rattle.std.specs.Prelude.{Vec}
use Rattle.std.specs.declared.alloc.Global.{Global}
use Rattle.vs_pages.specs.Maps.{span}
use Rattle.vs_tree_shape.specs.declared.entries.Entry.{Entry}
use Rattle.vs_tree_blocks.specs.Cuts.{all_lines, spread}
use Rattle.vs_tree_blocks.specs.Parts.{page_lines, runs_around}
use Rattle.vs_tree_blocks.specs.Runs.{lines_within}
use Rattle.vs_tree_blocks.specs.Writes.{HasBlocks}
use Rattle.vs_tree_blocks.proofs.Outcomes.{if_ok_weaker}
use Rattle.vs_tree_blocks.proofs.CutsLemmas.{spread_count}
use Rattle.vs_tree_blocks.proofs.RunsLemmas.{told}
use Rattle.vs_tree_blocks.proofs.BehindLemmas.{around_is, page_leads, spread_behind}
use Rattle.vs_tree_blocks.proofs.behind.put_runs.Goals as goal

pub put_behind-requires-clause-there : goal.put_behind-requires-clause-there
put_behind-requires-clause-there g c = λ told-pages.
    let bytes = c.args.page.bytes.items in
    let t = told bytes c.args.page.view c.requires.page.view_is in
    page_leads _ c.args.entry bytes (lines_within bytes) c.requires.single (c.requires.there told-pages) (c.requires.own told-pages) t.lines_are (t.count ∙ c.requires.count)

pub returns-then-at-page-clause-wrote : goal.returns-then-at-page-clause-wrote
returns-then-at-page-clause-wrote g c = if_ok_weaker c.put_behind.result _ _
    (λ (entries : Vec Entry Global) wrote told-pages.
    let bytes = c.args.page.bytes.items in
    let t = told bytes c.args.page.view c.requires.page.view_is in
    spread_behind _ _ c.args.entry c.args.at bytes (lines_within bytes) c.args.runs.now entries.items c.requires.single (c.requires.there told-pages) (c.requires.own told-pages) t.lines_are (omega (arith, t.count, c.if-at-page.true)) (omega (arith, t.count, c.requires.some, c.requires.at)) (wrote told-pages))
    c.put_behind.ensures.wrote

pub put_among-requires-clause-first : goal.put_among-requires-clause-first
put_among-requires-clause-first g c = let s = c.in_ok-parts.ensures.first in record { view_is = s.view_is; size = s.size }

pub put_among-requires-clause-second : goal.put_among-requires-clause-second
put_among-requires-clause-second g c = let s = c.in_ok-parts.ensures.second in record { view_is = s.view_is; size = s.size }

pub returns-clause-wrote : goal.returns-clause-wrote
returns-clause-wrote g c = if_ok_weaker c.put_among.result _ _
    (λ (entries : Vec Entry Global) wrote told-pages.
    let lines = lines_within c.args.page.bytes.items in
    let t = told c.args.page.bytes.items c.args.page.view c.requires.page.view_is in
    let is : runs_around c.in_ok-parts.parts c.args.runs.now ≡ spread lines c.args.at c.args.runs.now =
    around_is lines (page_lines c.in_ok-parts.parts.first) (page_lines c.in_ok-parts.parts.second) c.args.at c.args.runs.now c.requires.some (omega (arith, t.count, c.requires.at, c.if-at-page.false)) c.in_ok-parts.ensures.first.lines_are c.in_ok-parts.ensures.second.lines_are in
    subst (λ (bs : List (List (List ℕ))). HasBlocks (g.P.Pages.shows c.args.pages.now).present (g.P.Pages.shows c.put_among.new.pages).present (λ k. span c.args.entry.block 1 k) bs entries.items) is (wrote told-pages))
    c.put_among.ensures.wrote

pub returns-clause-lines : goal.returns-clause-lines
returns-clause-lines g c = if_ok_weaker c.put_among.result _ _
    (λ (entries : Vec Entry Global) count.
    let lines = lines_within c.args.page.bytes.items in
    let t = told c.args.page.bytes.items c.args.page.view c.requires.page.view_is in
    let is : runs_around c.in_ok-parts.parts c.args.runs.now ≡ spread lines c.args.at c.args.runs.now =
    around_is lines (page_lines c.in_ok-parts.parts.first) (page_lines c.in_ok-parts.parts.second) c.args.at c.args.runs.now c.requires.some (omega (arith, t.count, c.requires.at, c.if-at-page.false)) c.in_ok-parts.ensures.first.lines_are c.in_ok-parts.ensures.second.lines_are in
    omega (arith, count, ap (λ (bs : List (List (List ℕ))). length (all_lines bs)) is, spread_count lines c.args.at c.args.runs.now (omega (arith, t.count, c.requires.at)), t.count, c.requires.count))
    c.put_among.ensures.lines

pub put_among-requires-clause-own : goal.put_among-requires-clause-own
put_among-requires-clause-own g c = λ told-pages. c.in_ok-parts.ensures.own (c.requires.own told-pages)

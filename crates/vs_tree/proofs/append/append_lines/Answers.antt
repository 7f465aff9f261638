-- The first run comes after the last line, and then all lines of the rest.
use Rattle.std.proofs.Common.{◌≡◌, ◌≤◌, List, ℕ, ◌++◌, length, map, sym, ap, subst, ◌∙◌, arith, append-nil, length-append}
use Rattle.std.proofs.lemmas.List.{length-map, map-append}
use Rattle.vs_text.specs.Text.{lines_of, stored_line}
use Rattle.vs_tree_shape.specs.Changes.{splice}
use Rattle.vs_tree_blocks.specs.Blocks.{data_blocks}
use Rattle.vs_tree.specs.Packed.{stored_lines}
use Rattle.vs_tree.specs.Runs.{HasTree}
use Rattle.vs_tree.specs.declared.walk.Root.{Root}
use Rattle.std.proofs.lemmas.Result.{IfOk-weaker}
use Rattle.vs_pages.proofs.Steps.{Continues-trans}
use Rattle.vs_tree.proofs.AppendLemmas.{first_then_rest, lines_none, short_after}
use Rattle.vs_tree.proofs.OwnBlocks.{put_both}
use Rattle.vs_tree.proofs.append.append_lines.Goals as goal

pub returns-then-is_empty-clause-put : goal.returns-then-is_empty-clause-put
returns-then-is_empty-clause-put g c = λ told lines has.
    let none : length c.args.bytes.now ≡ 0 = grind arith in
    let all : lines ++ map stored_line (lines_of c.args.bytes.now) ≡ lines = ap (λ (ls : List (List ℕ)). lines ++ map stored_line ls) (lines_none c.args.bytes.now none) ∙ append-nil lines in
    subst (λ (xs : List (List ℕ)). HasTree (g.P.Pages.shows c.args.pages.now).present c.args.root xs) (sym all) has

pub returns-then-is_empty-clause-lines : goal.returns-then-is_empty-clause-lines
returns-then-is_empty-clause-lines g c =
    let none : length c.args.bytes.now ≡ 0 = grind arith in
    omega (arith, ap length (lines_none c.args.bytes.now none))

pub put_run-requires-clause-few : goal.put_run-requires-clause-few
put_run-requires-clause-few g c =
    let filled = c.in-Ok.ensures.filled in
    omega (arith, ap length filled.stored, length-map filled.put stored_line, ap length filled.lines, length-append filled.put (lines_of c.in-Ok.filled.rest.now), c.requires.small)

pub append_runs-requires-clause-short : goal.append_runs-requires-clause-short
append_runs-requires-clause-short g c = short_after c.args.bytes.now c.in-Ok.filled.rest.now c.in-Ok.ensures.filled.put c.in-Ok.ensures.filled.lines c.requires.short

pub append_runs-requires-clause-some : goal.append_runs-requires-clause-some
append_runs-requires-clause-some g c = omega (arith, c.in_ok-now.ensures.lines, c.requires.some)

pub append_runs-requires-clause-small : goal.append_runs-requires-clause-small
append_runs-requires-clause-small g c =
    let filled = c.in-Ok.ensures.filled in
    omega (arith, c.in_ok-now.ensures.lines, ap length filled.stored, length-map filled.put stored_line, ap length filled.lines, length-append filled.put (lines_of c.in-Ok.filled.rest.now), c.requires.small)

pub append_runs-requires-clause-there : goal.append_runs-requires-clause-there
append_runs-requires-clause-there g c = λ told. let r = c.requires.there told in (splice r.0 c.args.root.lines 0 c.in-Ok.filled.run, c.in_ok-now.ensures.put told r.0 r.1)

pub returns-clause-put : goal.returns-clause-put
returns-clause-put g c = IfOk-weaker c.append_runs.result _ _
    (λ (now : Root) put told lines has.
    let filled = c.in-Ok.ensures.filled in
    subst (λ (xs : List (List ℕ)). HasTree (g.P.Pages.shows c.append_runs.new.pages).present now xs)
    (first_then_rest lines filled.put c.in-Ok.filled.run c.args.bytes.now c.in-Ok.filled.rest.now c.args.root.lines (sym has.count) filled.stored filled.lines)
    (put told (splice lines c.args.root.lines 0 c.in-Ok.filled.run) (c.in_ok-now.ensures.put told lines has)))
    c.append_runs.ensures.put

pub returns-clause-lines : goal.returns-clause-lines
returns-clause-lines g c = IfOk-weaker c.append_runs.result _ _
    (λ (now : Root) count.
    let filled = c.in-Ok.ensures.filled in
    omega (arith, count, c.in_ok-now.ensures.lines, ap length filled.stored, length-map filled.put stored_line, ap length filled.lines, length-append filled.put (lines_of c.in-Ok.filled.rest.now)))
    c.append_runs.ensures.lines

pub returns-clause-kept : goal.returns-clause-kept
returns-clause-kept g c = Continues-trans g.met.P.Pages.stays_on c.in_ok-now.ensures.kept c.append_runs.ensures.kept

pub returns-then-is_empty-clause-filled : goal.returns-then-is_empty-clause-filled
returns-then-is_empty-clause-filled g c = λ least one half told f. f

pub returns-clause-filled : goal.returns-clause-filled
returns-clause-filled g c = IfOk-weaker c.append_runs.result _ _
    (λ (now : Root) stays least one half told f.
    let filled = c.in-Ok.ensures.filled in
    stays least one half told (c.in_ok-now.ensures.filled (omega (arith, filled.some, ap length filled.stored, length-map filled.put stored_line)) least one half told f))
    c.append_runs.ensures.filled

pub returns-then-is_empty-clause-packed : goal.returns-then-is_empty-clause-packed
returns-then-is_empty-clause-packed g c =
    let none : length c.args.bytes.now ≡ 0 = grind arith in
    λ whole told some. absurd (omega (arith, some, ap length (ap (λ ls. map stored_line ls) (lines_none c.args.bytes.now none))))

pub returns-clause-packed : goal.returns-clause-packed
returns-clause-packed g c = IfOk-weaker c.append_runs.result _ _
    (λ (now : Root) behind whole told some.
    let filled = c.in-Ok.ensures.filled in
    let run : List (List ℕ) = c.in-Ok.filled.run in
    let rest : List (List ℕ) = stored_lines c.in-Ok.filled.rest.now in
    let there : 1 ≤ length run = omega (arith, filled.some, ap length filled.stored, length-map filled.put stored_line) in
    put_both (data_blocks (g.P.Pages.shows c.append_runs.new.pages).present now.height) c.args.root.lines run rest _
    (ap (λ ls. map stored_line ls) filled.lines ∙ map-append stored_line filled.put (lines_of c.in-Ok.filled.rest.now) ∙ ap (λ ls. ls ++ rest) (sym filled.stored))
    there c.in-Ok.ensures.page (c.in-Ok.ensures.full whole)
    (behind (filled.whole whole) told c.args.root.lines run c.in_ok-now.ensures.lines there (c.in_ok-now.ensures.holds there told)))
    c.append_runs.ensures.packed

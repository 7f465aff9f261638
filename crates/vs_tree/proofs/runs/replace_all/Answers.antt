use Rattle.std.proofs.Common.{◌≡◌, ℕ, suc, ◌+◌, ◌-◌, ◌*◌, ◌≤◌, List, [], length, map, refl, sym, ap, subst, inl, arith, All}
use Rattle.std.proofs.lemmas.List.{length-map}
use Rattle.vs_text.specs.Text.{stored_line}
use Rattle.vs_pages.proofs.Steps.{Continues-trans}
use Rattle.vs_tree_shape.proofs.Working.{works_beside, works_then, works_from}
use Rattle.vs_pages.specs.Maps.{Map}
use Rattle.vs_tree_shape.specs.Filled.{HasFilledRoot}
use Rattle.vs_tree_shape.proofs.Fills.{any_root, filled_flat, has_filled}
use Rattle.vs_tree_blocks.specs.Blocks.{tree_format}
use Rattle.vs_tree_blocks.specs.Edits.{FitsPage}
use Rattle.vs_tree.specs.declared.walk.Root.{Root}
use Rattle.vs_tree.specs.Runs.{HasTree, with_lines, without_lines}
use Rattle.vs_tree.proofs.OwnBlocks.{put_kept}
use Rattle.vs_tree.proofs.Rounds.{all_out, last_out, bytes_last, bytes_kept}
use Rattle.vs_tree.proofs.StoredLemmas.{bytes_of-with}
use Rattle.vs_tree.proofs.runs.replace_all.Goals as goal

pub take_lines-requires-clause-there : goal.take_lines-requires-clause-there
take_lines-requires-clause-there g c = λ told. c.requires.there told

pub put_lines-requires-clause-room : goal.put_lines-requires-clause-room
put_lines-requires-clause-room g c = inl (omega (arith, c.in_ok-most.ensures.lines, c.requires.some))

pub put_lines-requires-clause-there : goal.put_lines-requires-clause-there
put_lines-requires-clause-there g c = λ told. let r = c.requires.there told in (without_lines r.0 0 (c.args.root.lines - 1), c.in_ok-most.ensures.taken told r.0 r.1)

pub take_lines-requires-2-clause-there : goal.take_lines-requires-2-clause-there
take_lines-requires-2-clause-there g c = λ told.
    let r = c.requires.there told in
    (with_lines (without_lines r.0 0 (c.args.root.lines - 1)) 0 c.args.new.now, c.in_ok-now.ensures.put told (without_lines r.0 0 (c.args.root.lines - 1)) (c.in_ok-most.ensures.taken told r.0 r.1))

pub returns-in_err-last-clause-kept : goal.returns-in_err-last-clause-kept
returns-in_err-last-clause-kept g c = Continues-trans g.met.P.Pages.stays_on (Continues-trans g.met.P.Pages.stays_on c.take_lines.ensures.kept c.put_lines.ensures.kept) c.take_lines-2.ensures.kept

pub returns-clause-kept : goal.returns-clause-kept
returns-clause-kept g c = Continues-trans g.met.P.Pages.stays_on (Continues-trans g.met.P.Pages.stays_on c.take_lines.ensures.kept c.put_lines.ensures.kept) c.take_lines-2.ensures.kept

pub returns-clause-exchanged : goal.returns-clause-exchanged
returns-clause-exchanged g c = λ told lines has.
    let kept : List (List ℕ) = without_lines lines 0 (c.args.root.lines - 1) in
    let put = c.in_ok-now.ensures.put told kept (c.in_ok-most.ensures.taken told lines has) in
    subst (λ (xs : List (List ℕ)). HasTree (g.P.Pages.shows c.take_lines-2.new.pages).present c.in_ok-last.last.root xs) (all_out lines c.args.new.now c.args.root.lines c.requires.some has.count)
    (c.in_ok-last.ensures.taken told (with_lines kept 0 c.args.new.now) put)

pub returns-clause-bytes : goal.returns-clause-bytes
returns-clause-bytes g c = λ told lines has few.
    let kept : List (List ℕ) = without_lines lines 0 (c.args.root.lines - 1) in
    let put = c.in_ok-now.ensures.put told kept (c.in_ok-most.ensures.taken told lines has) in
    let sum = bytes_kept lines (c.args.root.lines - 1) (omega (arith, has.count)) in
    let last = c.in_ok-last.ensures.bytes told (with_lines kept 0 c.args.new.now) put (omega (arith, few, sum, bytes_of-with kept c.args.new.now 0)) in
    let most = c.in_ok-most.ensures.bytes told lines has (omega (arith, few)) in
    let all = bytes_last lines c.args.new.now c.args.root.lines c.requires.some has.count in
    omega (arith, c.saturating_add.ensures, last, most, all, few, Rattle.vs_tree.proofs.Rounds.bytes_run lines 0 c.args.root.lines)

pub returns-clause-works : goal.returns-clause-works
returns-clause-works g c = λ told lines has small.
    let nothing : c.args.root.lines - 1 ≡ 0 = omega (arith, small.few_out) in
    let same = c.in_ok-most.ensures.none nothing in
    let kept : List (List ℕ) = without_lines lines 0 (c.args.root.lines - 1) in
    let put = c.in_ok-now.ensures.put told kept (c.in_ok-most.ensures.taken told lines has) in
    let height = ap (λ (r : Root). r.height) same.0 in
    works_from _ (g.P.Pages.shows c.take_lines.new.pages).worked _ (3 * c.in_ok-most.most.root.height + 6) (3 * c.args.root.height + 6) (omega (arith, height)) (same.1 told).1
    (works_then _ _ _ (2 * c.in_ok-most.most.root.height + 4) (c.in_ok-now.now.height + 1) (3 * c.in_ok-most.most.root.height + 6) (omega (arith, c.in_ok-now.ensures.higher, small.few_in))
    (c.in_ok-now.ensures.works told kept (c.in_ok-most.ensures.taken told lines has) (small.few_in, small.brief_in))
    (works_beside _ _ (c.in_ok-now.now.height + 1) (c.in_ok-last.ensures.works told (with_lines kept 0 c.args.new.now) put
    (omega arith, subst (λ (xs : List (List ℕ)). All FitsPage xs) (last_out lines c.args.new.now c.args.root.lines nothing c.requires.some) small.brief_out))))

pub returns-in_err-now-clause-kept : goal.returns-in_err-now-clause-kept
returns-in_err-now-clause-kept g c = Continues-trans g.met.P.Pages.stays_on c.take_lines.ensures.kept c.put_lines.ensures.kept

pub returns-clause-filled : goal.returns-clause-filled
returns-clause-filled g c = λ single told f.
    let r = c.requires.there told in
    let m : Map = (g.P.Pages.shows c.args.pages.now).present in
    let n : Map = (g.P.Pages.shows c.take_lines.new.pages).present in
    let height : ℕ = c.args.root.height in
    let same = c.in_ok-most.ensures.none (omega (arith, single)) in
    let flat : height ≡ 1 = filled_flat tree_format m height r.0 (has_filled tree_format m height r.0 r.1.lines_are f) r.1.lines_are (omega (arith, r.1.count, single)) in
    let more : HasFilledRoot tree_format m (suc 32) height = any_root tree_format m 32 (suc 32) height flat f in
    let here : HasFilledRoot tree_format n (suc 32) c.in_ok-most.most.root.height =
    subst (λ (h : ℕ). HasFilledRoot tree_format n (suc 32) h) (sym c.in_ok-most.ensures.level) (subst (λ (k : Map). HasFilledRoot tree_format k (suc 32) height) (sym (same.1 told).0) more) in
    let left : 1 ≤ c.in_ok-last.last.root.lines = omega (arith, c.in_ok-last.ensures.lines, c.in_ok-now.ensures.lines, c.in_ok-most.ensures.lines, c.requires.come, c.requires.some) in
    c.in_ok-last.ensures.filled refl left 32 (omega arith) (omega arith) told (c.in_ok-now.ensures.filled (suc 32) (omega arith) (omega arith) told here)

pub returns-clause-packed : goal.returns-clause-packed
returns-clause-packed g c = λ told some.
    let new : List (List ℕ) = c.args.new.now in
    put_kept _ _ 0 (length new) (map stored_line new) [] (c.in_ok-now.ensures.packed told some) (omega (arith, length-map new stored_line)) (c.in_ok-last.ensures.before told)

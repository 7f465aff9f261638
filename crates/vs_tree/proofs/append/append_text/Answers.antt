use Rattle.std.proofs.Common.{◌≡◌, ℕ, ◌<◌, List, [], length, sym, ap, subst, ◌∙◌, arith, length-append}
use Rattle.vs_text.specs.Text.{lines_of, stored}
use Rattle.vs_tree_shape.specs.Filled.{HasFilledRoot}
use Rattle.vs_tree_shape.specs.Trees.{HasLines}
use Rattle.vs_tree_blocks.specs.Blocks.{data_blocks, tree_format}
use Rattle.vs_tree.specs.Packed.{ArePut, stored_lines}
use Rattle.vs_tree.specs.declared.walk.Root.{Root}
use Rattle.vs_tree.proofs.AppendLemmas.{is_text_more, stored_more, tree_lines_some, within_more}
use Rattle.vs_tree.proofs.Rounds.{bytes_of-append}
use Rattle.vs_tree.proofs.StoredLemmas.{tree_of}
use Rattle.vs_tree.proofs.append.append_text.Goals as goal

pub append_lines-requires-clause-there : goal.append_lines-requires-clause-there
append_lines-requires-clause-there g c = λ told. let r = c.requires.fits.one told in (stored r.0, tree_of _ c.args.now c.root.result r.0 c.root.ensures r.1)

pub append_lines-requires-clause-some : goal.append_lines-requires-clause-some
append_lines-requires-clause-some g c =
    let root : c.root.result.lines ≡ c.args.now.lines = ap (λ (r : Root). r.lines) c.root.ensures ∙ tree_lines_some c.args.now.lines c.requires.full in
    omega (arith, root, c.requires.full)

pub append_lines-requires-clause-small : goal.append_lines-requires-clause-small
append_lines-requires-clause-small g c =
    let root : c.root.result.lines ≡ c.args.now.lines = ap (λ (r : Root). r.lines) c.root.ensures ∙ tree_lines_some c.args.now.lines c.requires.full in
    omega (arith, root, c.requires.few_lines)

pub returns-clause-text : goal.returns-clause-text
returns-clause-text g c = λ told text has.
    let new : List (List ℕ) = lines_of c.args.bytes.now in
    let some : 0 < length text = omega (arith, has.lines, c.requires.full) in
    let root : c.root.result.lines ≡ c.args.now.lines = ap (λ (r : Root). r.lines) c.root.ensures ∙ tree_lines_some c.args.now.lines c.requires.full in
    let base = tree_of _ c.args.now c.root.result text c.root.ensures has in
    let P : List (List ℕ) → Type 0 = λ xs. HasLines tree_format (g.P.Pages.shows c.append_lines.new.pages).present c.in_ok-tree.tree.height xs in
    record {
      tree = subst P (stored_more text new some) (c.in_ok-tree.ensures.put told (stored text) base).lines_are;
      lines = omega (arith, length-append text new, has.lines, c.in_ok-tree.ensures.lines, root);
      bytes = omega (arith, bytes_of-append text new, has.bytes, c.requires.size);
      is_text = is_text_more text c.args.bytes.now has.is_text;
      within = within_more text new has.within c.requires.short_lines (omega (arith, has.lines, c.requires.few_lines)) (omega (arith, has.bytes, c.requires.size, c.requires.few_bytes));
    }

pub returns-clause-lines : goal.returns-clause-lines
returns-clause-lines g c =
    let root : c.root.result.lines ≡ c.args.now.lines = ap (λ (r : Root). r.lines) c.root.ensures ∙ tree_lines_some c.args.now.lines c.requires.full in
    omega (arith, root, c.in_ok-tree.ensures.lines)

pub returns-clause-filled : goal.returns-clause-filled
returns-clause-filled g c = λ told f.
    let height : c.root.result.height ≡ c.args.now.height = ap (λ (r : Root). r.height) c.root.ensures in
    c.in_ok-tree.ensures.filled 32 (omega arith) (omega arith) told (subst (λ (h : ℕ). HasFilledRoot tree_format (g.P.Pages.shows c.args.pages.now).present 32 h) (sym height) f)

pub returns-clause-packed : goal.returns-clause-packed
returns-clause-packed g c = λ whole told some.
    let root : c.root.result.lines ≡ c.args.now.lines = ap (λ (r : Root). r.lines) c.root.ensures ∙ tree_lines_some c.args.now.lines c.requires.full in
    subst (λ (at : ℕ). ArePut (data_blocks (g.P.Pages.shows c.append_lines.new.pages).present c.in_ok-tree.tree.height) at (stored_lines c.args.bytes.now) []) root (c.in_ok-tree.ensures.packed whole told some)

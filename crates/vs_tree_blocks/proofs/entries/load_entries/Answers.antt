-- The bytes that were loaded are a block of the tree, so what is read of them are its entries.
use Rattle.std.proofs.Common.{◌≡◌, ℕ, List, Option, Some, None, sym, ap, subst, ◌∙◌, arith}
use Rattle.std.proofs.lemmas.Bool.Decides.{nat_tests}
use Rattle.std.specs.Prelude.{Vec}
use Rattle.std.specs.declared.alloc.Global.{Global}
use Rattle.vs_tree_shape.specs.declared.entries.Entry.{Entry}
use Rattle.vs_tree_shape.specs.Places.{lines_below}
use Rattle.vs_tree_blocks.specs.Blocks.{IsListOf, file_points}
use Rattle.vs_tree_blocks.proofs.FoundLemmas.{entries_loaded, own_found}
use Rattle.vs_tree_blocks.proofs.entries.load_entries.Goals.{then-entry-ne1-via-then-entry-ne1, then-entry-ne1-via-else-entry-ne1+then-ne}
use Rattle.vs_tree_blocks.proofs.entries.load_entries.Goals as goal

pub damaged-requires-clause-silent : goal.damaged-requires-clause-silent
damaged-requires-clause-silent g c = λ told.
    let there = c.requires.there told in
    let bytes : List ℕ = c.deref.result.now in
    let here = c.in_ok-load.ensures.loaded told ∙ ap (λ (b : List ℕ). Some b) (sym c.deref.ensures.value) in
    let found : file_points bytes ≡ Some there.entries = own_found (g.P.Pages.shows c.args.pages.now).present c.args.entry.block bytes there.entries there.reads here in
    let none : file_points bytes ≡ None = subst (λ (o : Option (Vec Entry Global)). IsListOf (file_points bytes) o) c.in_default.is c.in_ok-entries.ensures in
    cc

pub damaged-requires-then-entry-ne1-clause-silent : goal.damaged-requires-then-entry-ne1-clause-silent
damaged-requires-then-entry-ne1-clause-silent g c = λ told.
    let there = c.requires.there told in
    let bytes : List ℕ = c.deref.result.now in
    let here = c.in_ok-load.ensures.loaded told ∙ ap (λ (b : List ℕ). Some b) (sym c.deref.ensures.value) in
    let found : file_points bytes ≡ Some there.entries = own_found (g.P.Pages.shows c.args.pages.now).present c.args.entry.block bytes there.entries there.reads here in
    let list = subst (λ (o : Option (Vec Entry Global)). IsListOf (file_points bytes) o) c.in-Some.is c.in_ok-entries.ensures in
    let first : file_points bytes ≡ Some c.in-Some.entries.items = list.0 in
    let same : c.in-Some.entries.items ≡ there.entries = cc in
    elim c.then-entry-ne1.branch [
      | then-entry-ne1-via-then-entry-ne1 w ↦ omega (arith, w.if-entry-ne1.true, there.single)
      | then-entry-ne1-via-else-entry-ne1+then-ne w ↦
          let counted = w.count_lines.ensures in
          let value : w.deref-else-entry-ne1.result.now ≡ c.in-Some.entries.items = w.deref-else-entry-ne1.ensures.value in
          let sum : lines_below w.deref-else-entry-ne1.result.now ≡ c.args.entry.lines = ap lines_below (value ∙ same) ∙ there.lines in
          let differs = w.if-ne.ensures in
          let is = w.if-ne.true in
          grind (arith, nat_tests)
    ]

pub returns-clause-entries : goal.returns-clause-entries
returns-clause-entries g c = λ told.
    let there = c.requires.there told in
    let bytes : List ℕ = c.deref.result.now in
    let here = c.in_ok-load.ensures.loaded told ∙ ap (λ (b : List ℕ). Some b) (sym c.deref.ensures.value) in
    let list = subst (λ (o : Option (Vec Entry Global)). IsListOf (file_points bytes) o) c.in-Some.is c.in_ok-entries.ensures in
    entries_loaded (g.P.Pages.shows c.args.pages.now).present c.args.entry.block bytes there.entries c.in-Some.entries.items there.reads here list.0

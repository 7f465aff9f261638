-- The clauses on the store are those of the calls before.
use Rattle.vs_tree_blocks.proofs.beside.write_between.Goals as goal
use Rattle.std.proofs.Common.{◌≡◌, ℕ, [], ◌∷◌, length, refl, ap, sym, ◌∙◌, arith}
use Rattle.vs_pages.proofs.Steps.{Continues-trans}
use Rattle.vs_tree_shape.specs.declared.entries.Entry.{Entry}
use Rattle.vs_tree_blocks.specs.Parts.{page_lines}
use Rattle.vs_tree_blocks.proofs.RunsLemmas.{told, page_small}
use Rattle.vs_tree_blocks.proofs.PointersLemmas.{stored_as, added_as}
use Rattle.vs_tree_blocks.proofs.DataLemmas.{entry_with, written_between}
use Rattle.vs_tree_shape.proofs.Working.{works_one, works_then}

pub returns-clause-wrote : goal.returns-clause-wrote
returns-clause-wrote g c =
    let p = c.args.parts.now in
    let a = told p.first.bytes.items p.first.view c.requires.first.view_is in
    let b = told p.second.bytes.items p.second.view c.requires.second.view_is in
    let one : c.entry-one.result ≡ entry_with c.args.block 1 (length (page_lines p.first)) = c.entry-one.ensures ∙ ap (λ (n : ℕ). entry_with c.args.block 1 n) (sym a.count) in
    let two : c.entry-two.result ≡ entry_with c.in_ok-other.other 1 (length (page_lines p.second)) = c.entry-two.ensures ∙ ap (λ (n : ℕ). entry_with c.in_ok-other.other 1 n) (sym b.count) in
    written_between _ _ _ _ _ c.args.block c.in_ok-other.other p.first.bytes.items p.second.bytes.items (page_lines p.first) (page_lines p.second) c.args.run.now c.in_ok-new.new _ c.requires.block (omega (arith, c.in_ok-other.ensures.bound))
    (page_small _ _ c.requires.first.view_is c.requires.first.size) (page_small _ _ c.requires.second.view_is c.requires.second.size) c.in_ok-new.ensures.fields
    (λ told-pages. stored_as _ _ _ _ _ (c.in_ok-touch.ensures.ok told-pages) c.deref.ensures.value c.requires.first.size) a.lines_are (λ told-pages. (c.requires.own told-pages).0)
    (λ told-pages. c.in_ok-new.ensures.added told-pages) c.in_ok-new.ensures.lines
    (λ told-pages. added_as _ _ _ _ _ _ (c.in_ok-other.ensures.added told-pages) c.deref-2.ensures.value) b.lines_are (λ told-pages. (c.requires.own told-pages).1)
    (c.in_ok-vec.ensures.items ∙ ap (λ (e : Entry). e ∷ c.in_ok-new.new ∷ c.entry-two.result ∷ []) one ∙ ap (λ (e : Entry). entry_with c.args.block 1 (length (page_lines p.first)) ∷ c.in_ok-new.new ∷ e ∷ []) two)

pub returns-clause-works : goal.returns-clause-works
returns-clause-works g c = λ few told-pages. works_then _ _ _ 2 1 3 (omega arith)
    (works_then _ _ _ 1 1 2 (omega arith) (works_one _ _ c.args.block (c.in_ok-touch.ensures.change.worked told-pages)) (c.in_ok-new.ensures.works few told-pages)) (c.in_ok-other.ensures.works told-pages refl)

pub returns-in_err-new-clause-kept : goal.returns-in_err-new-clause-kept
returns-in_err-new-clause-kept g c = Continues-trans g.met.P.Pages.stays_on c.in_ok-touch.ensures.kept c.add.ensures.kept

pub returns-in_err-other-clause-kept : goal.returns-in_err-other-clause-kept
returns-in_err-other-clause-kept g c = Continues-trans g.met.P.Pages.stays_on (Continues-trans g.met.P.Pages.stays_on c.in_ok-touch.ensures.kept c.in_ok-new.ensures.kept) c.add_block.ensures.kept

pub returns-in_err-vec-clause-kept : goal.returns-in_err-vec-clause-kept
returns-in_err-vec-clause-kept g c = Continues-trans g.met.P.Pages.stays_on (Continues-trans g.met.P.Pages.stays_on c.in_ok-touch.ensures.kept c.in_ok-new.ensures.kept) c.in_ok-other.ensures.kept

pub returns-clause-kept : goal.returns-clause-kept
returns-clause-kept g c = Continues-trans g.met.P.Pages.stays_on (Continues-trans g.met.P.Pages.stays_on c.in_ok-touch.ensures.kept c.in_ok-new.ensures.kept) c.in_ok-other.ensures.kept

pub returns-in_err-touch-clause-kept : goal.returns-in_err-touch-clause-kept
returns-in_err-touch-clause-kept g c = c.touch.ensures.kept

-- The clauses on the store are those of the calls before.
use Rattle.std.proofs.Common.{◌≡◌, ℕ, List, [], ◌∷◌, ◌++◌, length, sym, ap, subst, ◌∙◌, arith}
use Rattle.vs_pages.proofs.Steps.{Continues-trans}
use Rattle.vs_tree_shape.specs.declared.entries.Entry.{Entry}
use Rattle.vs_tree_blocks.specs.Blocks.{FitsFields}
use Rattle.vs_tree_blocks.specs.Parts.{page_lines}
use Rattle.vs_tree_blocks.proofs.RunsLemmas.{told, page_small}
use Rattle.vs_tree_blocks.proofs.PointersLemmas.{stored_as, added_as}
use Rattle.vs_tree_blocks.proofs.DataLemmas.{entry_with, page_fits}
use Rattle.vs_tree_blocks.proofs.BehindLemmas.{among_count, among_fits, among_written}
use Rattle.vs_tree_blocks.proofs.behind.put_among.Goals as goal

pub returns-clause-wrote : goal.returns-clause-wrote
returns-clause-wrote g c = λ told-pages.
    let p = c.args.parts.now in
    let a = told p.first.bytes.items p.first.view c.requires.first.view_is in
    let b = told p.second.bytes.items p.second.view c.requires.second.view_is in
    let new : List Entry = c.in_ok-new.new.items in
    let one : c.entry-one.result ≡ entry_with c.args.block 1 (length (page_lines p.first)) = c.entry-one.ensures ∙ ap (λ (n : ℕ). entry_with c.args.block 1 n) (sym a.count) in
    let two : c.entry-two.result ≡ entry_with c.in_ok-other.other 1 (length (page_lines p.second)) = c.entry-two.ensures ∙ ap (λ (n : ℕ). entry_with c.in_ok-other.other 1 n) (sym b.count) in
    let all : c.push.new.self.items ≡ ((c.entry-one.result ∷ []) ++ new) ++ c.entry-two.result ∷ [] =
    c.in_ok-push.ensures.items ∙ ap (λ (xs : List Entry). xs ++ c.entry-two.result ∷ [])
    (c.in_ok-extend_from_slice.ensures.items ∙ ap (λ (xs : List Entry). xs ++ c.deref-3.result.now) c.in_ok-entries.ensures.items ∙ ap (λ (xs : List Entry). (c.entry-one.result ∷ []) ++ xs) c.deref-3.ensures.value) in
    among_written _ _ _ _ c.args.block c.in_ok-other.other p.first.bytes.items p.second.bytes.items (page_lines p.first) (page_lines p.second) c.args.runs.now c.entry-one.result c.entry-two.result new _
    (stored_as _ _ _ _ _ (c.in_ok-touch.ensures.ok told-pages) c.deref.ensures.value c.requires.first.size) a.lines_are (c.requires.own told-pages).0
    (c.in_ok-new.ensures.added told-pages)
    (added_as _ _ _ _ _ _ (c.in_ok-other.ensures.added told-pages) c.deref-2.ensures.value) b.lines_are (c.requires.own told-pages).1 one two all

pub returns-clause-fields : goal.returns-clause-fields
returns-clause-fields g c =
    let p = c.args.parts.now in
    let a = told p.first.bytes.items p.first.view c.requires.first.view_is in
    let b = told p.second.bytes.items p.second.view c.requires.second.view_is in
    let new : List Entry = c.in_ok-new.new.items in
    let one : c.entry-one.result ≡ entry_with c.args.block 1 (length (page_lines p.first)) = c.entry-one.ensures ∙ ap (λ (n : ℕ). entry_with c.args.block 1 n) (sym a.count) in
    let two : c.entry-two.result ≡ entry_with c.in_ok-other.other 1 (length (page_lines p.second)) = c.entry-two.ensures ∙ ap (λ (n : ℕ). entry_with c.in_ok-other.other 1 n) (sym b.count) in
    let all : c.push.new.self.items ≡ ((c.entry-one.result ∷ []) ++ new) ++ c.entry-two.result ∷ [] =
    c.in_ok-push.ensures.items ∙ ap (λ (xs : List Entry). xs ++ c.entry-two.result ∷ [])
    (c.in_ok-extend_from_slice.ensures.items ∙ ap (λ (xs : List Entry). xs ++ c.deref-3.result.now) c.in_ok-entries.ensures.items ∙ ap (λ (xs : List Entry). (c.entry-one.result ∷ []) ++ xs) c.deref-3.ensures.value) in
    let first : FitsFields c.entry-one.result = subst FitsFields (sym one) (page_fits c.args.block (length (page_lines p.first)) c.requires.block (page_small _ _ c.requires.first.view_is c.requires.first.size)) in
    let last : FitsFields c.entry-two.result = subst FitsFields (sym two) (page_fits c.in_ok-other.other (length (page_lines p.second)) (omega (arith, c.in_ok-other.ensures.bound)) (page_small _ _ c.requires.second.view_is c.requires.second.size)) in
    among_fits c.entry-one.result c.entry-two.result new _ first last c.in_ok-new.ensures.fields all

pub returns-clause-few : goal.returns-clause-few
returns-clause-few g c =
    let p = c.args.parts.now in
    let a = told p.first.bytes.items p.first.view c.requires.first.view_is in
    let b = told p.second.bytes.items p.second.view c.requires.second.view_is in
    let new : List Entry = c.in_ok-new.new.items in
    let one : c.entry-one.result ≡ entry_with c.args.block 1 (length (page_lines p.first)) = c.entry-one.ensures ∙ ap (λ (n : ℕ). entry_with c.args.block 1 n) (sym a.count) in
    let two : c.entry-two.result ≡ entry_with c.in_ok-other.other 1 (length (page_lines p.second)) = c.entry-two.ensures ∙ ap (λ (n : ℕ). entry_with c.in_ok-other.other 1 n) (sym b.count) in
    let all : c.push.new.self.items ≡ ((c.entry-one.result ∷ []) ++ new) ++ c.entry-two.result ∷ [] =
    c.in_ok-push.ensures.items ∙ ap (λ (xs : List Entry). xs ++ c.entry-two.result ∷ [])
    (c.in_ok-extend_from_slice.ensures.items ∙ ap (λ (xs : List Entry). xs ++ c.deref-3.result.now) c.in_ok-entries.ensures.items ∙ ap (λ (xs : List Entry). (c.entry-one.result ∷ []) ++ xs) c.deref-3.ensures.value) in
    omega (arith, (among_count (page_lines p.first) (page_lines p.second) c.args.runs.now c.entry-one.result c.entry-two.result new _ (ap (λ (e : Entry). e.lines) one) (ap (λ (e : Entry). e.lines) two) c.in_ok-new.ensures.lines all).0, c.in_ok-new.ensures.many, c.requires.few)

pub returns-clause-lines : goal.returns-clause-lines
returns-clause-lines g c =
    let p = c.args.parts.now in
    let a = told p.first.bytes.items p.first.view c.requires.first.view_is in
    let b = told p.second.bytes.items p.second.view c.requires.second.view_is in
    let new : List Entry = c.in_ok-new.new.items in
    let one : c.entry-one.result ≡ entry_with c.args.block 1 (length (page_lines p.first)) = c.entry-one.ensures ∙ ap (λ (n : ℕ). entry_with c.args.block 1 n) (sym a.count) in
    let two : c.entry-two.result ≡ entry_with c.in_ok-other.other 1 (length (page_lines p.second)) = c.entry-two.ensures ∙ ap (λ (n : ℕ). entry_with c.in_ok-other.other 1 n) (sym b.count) in
    let all : c.push.new.self.items ≡ ((c.entry-one.result ∷ []) ++ new) ++ c.entry-two.result ∷ [] =
    c.in_ok-push.ensures.items ∙ ap (λ (xs : List Entry). xs ++ c.entry-two.result ∷ [])
    (c.in_ok-extend_from_slice.ensures.items ∙ ap (λ (xs : List Entry). xs ++ c.deref-3.result.now) c.in_ok-entries.ensures.items ∙ ap (λ (xs : List Entry). (c.entry-one.result ∷ []) ++ xs) c.deref-3.ensures.value) in
    (among_count (page_lines p.first) (page_lines p.second) c.args.runs.now c.entry-one.result c.entry-two.result new _ (ap (λ (e : Entry). e.lines) one) (ap (λ (e : Entry). e.lines) two) c.in_ok-new.ensures.lines all).1

pub returns-in_err-new-clause-kept : goal.returns-in_err-new-clause-kept
returns-in_err-new-clause-kept g c = Continues-trans g.met.P.Pages.stays_on c.in_ok-touch.ensures.kept c.add_runs.ensures.kept

pub returns-in_err-other-clause-kept : goal.returns-in_err-other-clause-kept
returns-in_err-other-clause-kept g c = Continues-trans g.met.P.Pages.stays_on (Continues-trans g.met.P.Pages.stays_on c.in_ok-touch.ensures.kept c.in_ok-new.ensures.kept) c.add_block.ensures.kept

pub returns-in_err-entries-clause-kept : goal.returns-in_err-entries-clause-kept
returns-in_err-entries-clause-kept g c = Continues-trans g.met.P.Pages.stays_on (Continues-trans g.met.P.Pages.stays_on c.in_ok-touch.ensures.kept c.in_ok-new.ensures.kept) c.in_ok-other.ensures.kept

pub returns-in_err-extend_from_slice-clause-kept : goal.returns-in_err-extend_from_slice-clause-kept
returns-in_err-extend_from_slice-clause-kept g c = Continues-trans g.met.P.Pages.stays_on (Continues-trans g.met.P.Pages.stays_on c.in_ok-touch.ensures.kept c.in_ok-new.ensures.kept) c.in_ok-other.ensures.kept

pub returns-in_err-push-clause-kept : goal.returns-in_err-push-clause-kept
returns-in_err-push-clause-kept g c = Continues-trans g.met.P.Pages.stays_on (Continues-trans g.met.P.Pages.stays_on c.in_ok-touch.ensures.kept c.in_ok-new.ensures.kept) c.in_ok-other.ensures.kept

pub returns-clause-kept : goal.returns-clause-kept
returns-clause-kept g c = Continues-trans g.met.P.Pages.stays_on (Continues-trans g.met.P.Pages.stays_on c.in_ok-touch.ensures.kept c.in_ok-new.ensures.kept) c.in_ok-other.ensures.kept

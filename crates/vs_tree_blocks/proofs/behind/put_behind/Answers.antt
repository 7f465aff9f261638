-- The new blocks stand behind the block, which is left alone.
use Rattle.std.proofs.Common.{◌≡◌, List, [], ◌∷◌, ◌++◌, ap, ◌∙◌, arith}
use Rattle.vs_tree_shape.specs.declared.entries.Entry.{Entry}
use Rattle.vs_tree_blocks.proofs.BehindLemmas.{behind_count, behind_fits, behind_written}
use Rattle.vs_tree_blocks.proofs.behind.put_behind.Goals as goal

pub returns-clause-wrote : goal.returns-clause-wrote
returns-clause-wrote g c = λ told lines reads.
    let new : List Entry = c.in_ok-new.new.items in
    let all : c.extend_from_slice.new.self.items ≡ (c.args.entry ∷ []) ++ new = c.in_ok-extend_from_slice.ensures.items ∙ ap (λ (xs : List Entry). xs ++ c.deref.result.now) c.in_ok-entries.ensures.items ∙ ap (λ (xs : List Entry). (c.args.entry ∷ []) ++ xs) c.deref.ensures.value in
    behind_written _ _ c.args.entry lines c.args.runs.now new _ c.requires.fields (c.requires.there told) reads (c.in_ok-new.ensures.added told) all

pub returns-clause-fields : goal.returns-clause-fields
returns-clause-fields g c =
    let new : List Entry = c.in_ok-new.new.items in
    let all : c.extend_from_slice.new.self.items ≡ (c.args.entry ∷ []) ++ new = c.in_ok-extend_from_slice.ensures.items ∙ ap (λ (xs : List Entry). xs ++ c.deref.result.now) c.in_ok-entries.ensures.items ∙ ap (λ (xs : List Entry). (c.args.entry ∷ []) ++ xs) c.deref.ensures.value in
    behind_fits c.args.entry new _ c.requires.fields c.in_ok-new.ensures.fields all

pub returns-clause-few : goal.returns-clause-few
returns-clause-few g c =
    let new : List Entry = c.in_ok-new.new.items in
    let all : c.extend_from_slice.new.self.items ≡ (c.args.entry ∷ []) ++ new = c.in_ok-extend_from_slice.ensures.items ∙ ap (λ (xs : List Entry). xs ++ c.deref.result.now) c.in_ok-entries.ensures.items ∙ ap (λ (xs : List Entry). (c.args.entry ∷ []) ++ xs) c.deref.ensures.value in
    omega (arith, (behind_count c.args.entry new _ all).0, c.in_ok-new.ensures.many, c.requires.few)

pub returns-clause-lines : goal.returns-clause-lines
returns-clause-lines g c =
    let new : List Entry = c.in_ok-new.new.items in
    let all : c.extend_from_slice.new.self.items ≡ (c.args.entry ∷ []) ++ new = c.in_ok-extend_from_slice.ensures.items ∙ ap (λ (xs : List Entry). xs ++ c.deref.result.now) c.in_ok-entries.ensures.items ∙ ap (λ (xs : List Entry). (c.args.entry ∷ []) ++ xs) c.deref.ensures.value in
    omega (arith, (behind_count c.args.entry new _ all).1, c.in_ok-new.ensures.lines)

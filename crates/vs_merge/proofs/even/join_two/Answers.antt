use Rattle.std.proofs.Common.{[], ◌∷◌, ap, ◌∙◌, arith}
use Rattle.vs_pages.proofs.Steps.{Continues-trans}
use Rattle.vs_tree_shape.specs.declared.entries.Entry.{Entry}
use Rattle.vs_merge.proofs.Evening.{joined_stands, stored_bytes, there_still}
use Rattle.vs_merge.proofs.Working.{only_both, only_page}
use Rattle.vs_merge.proofs.even.join_two.Goals as goal

pub free-requires-clause-there : goal.free-requires-clause-there
free-requires-clause-there g c = λ told. there_still _ _ c.args.one c.args.two _ c.requires.apart (c.in_ok-touch.ensures.ok told) (c.requires.second told)

pub returns-clause-evens : goal.returns-clause-evens
returns-clause-evens g c = λ told e ka kb both es_are.
    joined_stands _ _ _ e c.args.one c.args.two ka kb c.args.all.now c.in_ok-vec.field-0.items c.in_ok-bytes.bytes.items both es_are
    (stored_bytes _ _ c.args.one c.in_ok-bytes.bytes.items _ (c.in_ok-touch.ensures.ok told) c.deref.ensures.value c.in_ok-bytes.ensures.size) c.in_ok-bytes.ensures.entries (c.in_ok-free.ensures.ok told) c.requires.few
    (c.in_ok-vec.ensures.items ∙ ap (λ (x : Entry). x ∷ []) c.entry_above-now.ensures.entry)

pub returns-clause-works : goal.returns-clause-works
returns-clause-works g c = λ told. only_both _ _ _ (c.args.one ∷ []) (c.args.two ∷ []) (c.args.one ∷ c.args.two ∷ []) (only_page _ _ c.args.one (c.in_ok-touch.ensures.change.worked told)) (only_page _ _ c.args.two (c.in_ok-free.ensures.change.worked told)) (λ k out. omega (arith, out))

pub returns-in_err-free-clause-kept : goal.returns-in_err-free-clause-kept
returns-in_err-free-clause-kept g c = Continues-trans g.met.P.Pages.stays_on c.touch.ensures.kept c.free.ensures.kept

pub returns-in_err-vec-clause-kept : goal.returns-in_err-vec-clause-kept
returns-in_err-vec-clause-kept g c = Continues-trans g.met.P.Pages.stays_on c.touch.ensures.kept c.free.ensures.kept

pub returns-clause-kept : goal.returns-clause-kept
returns-clause-kept g c = Continues-trans g.met.P.Pages.stays_on c.touch.ensures.kept c.free.ensures.kept

use Rattle.std.proofs.Common.{List, [], ◌∷◌, Some, ap, ◌∙◌, arith}
use Rattle.vs_pages.proofs.Steps.{Continues-trans}
use Rattle.vs_tree_shape.specs.declared.entries.Entry.{Entry}
use Rattle.vs_tree_shape.specs.Trees.{read_by}
use Rattle.vs_tree_blocks.specs.Blocks.{points_in}
use Rattle.vs_merge.specs.Evens.{with_pair}
use Rattle.vs_merge.proofs.Evening.{stored_bytes}
use Rattle.vs_merge.proofs.Pairs.{both_there, pair_evened, top_there, two_neighbours}
use Rattle.vs_merge.proofs.Working.{only_both, only_page}
use Rattle.vs_merge.proofs.pair.even_pair.Goals as goal

pub even_out-requires-clause-first : goal.even_out-requires-clause-first
even_out-requires-clause-first g c = λ told. let r = c.requires.there told in (both_there _ _ r.0 r.1 _ _ _ r.2).0

pub even_out-requires-clause-second : goal.even_out-requires-clause-second
even_out-requires-clause-second g c = λ told. let r = c.requires.there told in (both_there _ _ r.0 r.1 _ _ _ r.2).1

pub touch-requires-clause-there : goal.touch-requires-clause-there
touch-requires-clause-there g c = λ told.
    let r = c.requires.there told in
    top_there _ _ _ r.0 r.1 _ _ _ _ r.2 (c.in_ok-above.ensures.evens told r.0 r.2.first.1 r.2.second.1 (two_neighbours _ _ r.0 r.1 _ _ _ r.2) r.2.all_are)

pub returns-clause-evens : goal.returns-clause-evens
returns-clause-evens g c = λ told e kids p.
    let w = c.in_ok-above.ensures.evens told e p.first.1 p.second.1 (two_neighbours _ _ e kids _ _ _ p) p.all_are in
    let now_is = c.in_ok-now.ensures ∙ ap (λ (xs : List Entry). with_pair c.args.entries.now c.args.pair.left xs) c.deref.ensures.value in
    pair_evened _ _ _ c.args.top e kids _ c.args.pair _ c.in_ok-above.above.items c.in_ok-now.now.items c.in_ok-bytes.bytes.items p w now_is
    (stored_bytes _ _ c.args.top c.in_ok-bytes.bytes.items _ (c.in_ok-touch.ensures.ok told) c.deref-3.ensures.value c.in_ok-bytes.ensures.size)
    (c.in_ok-bytes.ensures.entries ∙ ap (λ (xs : List Entry). Some xs) c.deref-2.ensures.value) c.requires.few

pub returns-clause-reads : goal.returns-clause-reads
returns-clause-reads g c = λ told.
    ap (λ o. read_by points_in o) (stored_bytes _ _ c.args.top c.in_ok-bytes.bytes.items _ (c.in_ok-touch.ensures.ok told) c.deref-3.ensures.value c.in_ok-bytes.ensures.size).read
    ∙ c.in_ok-bytes.ensures.entries ∙ ap (λ (xs : List Entry). Some xs) c.deref-2.ensures.value

pub returns-clause-puts : goal.returns-clause-puts
returns-clause-puts g c =
    (c.in_ok-above.above.items, c.in_ok-now.ensures ∙ ap (λ (xs : List Entry). with_pair c.args.entries.now c.args.pair.left xs) c.deref.ensures.value, c.in_ok-above.ensures.either, c.in_ok-above.ensures.lines)

pub returns-clause-works : goal.returns-clause-works
returns-clause-works g c = λ told.
    only_both _ _ _ (c.args.pair.one ∷ c.args.pair.two ∷ []) (c.args.top ∷ []) (c.args.top ∷ c.args.pair.one ∷ c.args.pair.two ∷ []) (c.in_ok-above.ensures.works told) (only_page _ _ c.args.top (c.in_ok-touch.ensures.change.worked told)) (λ k out. omega (arith, out))

pub returns-clause-kept : goal.returns-clause-kept
returns-clause-kept g c = Continues-trans g.met.P.Pages.stays_on c.even_out.ensures.kept c.touch.ensures.kept

pub returns-in_err-touch-clause-kept : goal.returns-in_err-touch-clause-kept
returns-in_err-touch-clause-kept g c = Continues-trans g.met.P.Pages.stays_on c.even_out.ensures.kept c.touch.ensures.kept

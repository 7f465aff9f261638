use Rattle.std.proofs.Common.{suc, List, Some, IsSome, sym, ap, subst, ◌∙◌, arith}
use Rattle.vs_pages.specs.Maps.{Map, pages_at}
use Rattle.vs_pages.proofs.Steps.{Continues-trans, OnlyReads-continues, OnlyReads-trans}
use Rattle.vs_tree_shape.specs.declared.entries.Entry.{Entry}
use Rattle.vs_tree_shape.specs.Changes.{Stored}
use Rattle.vs_tree_blocks.specs.Blocks.{entries_at, LeadsToPointers}
use Rattle.vs_merge.specs.Roots.{StandsDeep}
use Rattle.vs_merge.proofs.Evening.{stored_bytes}
use Rattle.vs_merge.proofs.Lowering.{Only, not_only, only_leads, only_there, root_leads, root_there, the_only, took_only}
use Rattle.vs_merge.proofs.Working.{beside_none, beside_two, only_after, only_page}
use Rattle.vs_merge.proofs.root.take_over.Goals as goal

pub load_entries-requires-clause-there : goal.load_entries-requires-clause-there
load_entries-requires-clause-there g c = λ told. let s = c.requires.there told in
    subst (λ (x : Entry). LeadsToPointers (g.P.Pages.shows c.args.pages.now).present x) (sym c.root_entry.ensures) (root_leads _ (suc (suc s.0)) c.args.lines s.1)

pub load_entries-requires-2-clause-there : goal.load_entries-requires-2-clause-there
load_entries-requires-2-clause-there g c = λ told.
    let s = c.requires.there told in
    let reads = ap (λ (x : Entry). entries_at (g.P.Pages.shows c.args.pages.now).present x.block) (sym c.root_entry.ensures) ∙ c.in_ok-entries.ensures.entries told in
    let only = the_only _ s.0 s.1.list s.1.has c.in_ok-entries.entries.items c.index-only.result.now c.index-only.result.now reads (omega (arith, c.if-len-ne1.false, c.len.ensures)) c.index-only.ensures in
    subst (λ (m : Map). LeadsToPointers m c.index-only.result.now) (sym (c.load_entries.ensures.kept.present told)) (only_leads _ s.0 s.1.list s.1.has c.index-only.result.now only)

pub touch-requires-clause-there : goal.touch-requires-clause-there
touch-requires-clause-there g c = λ told. let s = c.requires.there told in
    subst (λ (m : Map). IsSome (pages_at m 1 1)) (sym (c.load_entries-2.ensures.kept.present told ∙ c.load_entries.ensures.kept.present told)) (root_there _ s.0 c.args.lines s.1)

pub free-requires-clause-there : goal.free-requires-clause-there
free-requires-clause-there g c = λ told.
    let s = c.requires.there told in
    let same = c.load_entries-2.ensures.kept.present told ∙ c.load_entries.ensures.kept.present told in
    let n1 : Map = (g.P.Pages.shows c.load_entries-2.new.pages).present in
    let s1 : StandsDeep n1 (suc (suc s.0)) c.args.lines = subst (λ (m : Map). StandsDeep m (suc (suc s.0)) c.args.lines) (sym same) s.1 in
    let reads = ap (λ (m : Map). entries_at m 1) same ∙ ap (λ (x : Entry). entries_at (g.P.Pages.shows c.args.pages.now).present x.block) (sym c.root_entry.ensures) ∙ c.in_ok-entries.ensures.entries told in
    let only = the_only n1 s.0 s1.list s1.has c.in_ok-entries.entries.items c.index-only.result.now c.index-only.result.now reads (omega (arith, c.if-len-ne1.false, c.len.ensures)) c.index-only.ensures in
    only_there n1 _ s.0 s1.list s1.has c.index-only.result.now _ only (c.in_ok-touch.ensures.ok told)

pub returns-then-len-ne1-clause-takes : goal.returns-then-len-ne1-clause-takes
returns-then-len-ne1-clause-takes g c = λ told e list has.
    not_only _ _ e list has c.in_ok-entries.entries.items (ap (λ (x : Entry). entries_at (g.P.Pages.shows c.args.pages.now).present x.block) (sym c.root_entry.ensures) ∙ c.in_ok-entries.ensures.entries told)
    (λ one_is. omega (arith, c.if-len-ne1.true, c.len.ensures, one_is)) (c.load_entries.ensures.kept.present told)

pub returns-then-len-ne1-clause-works : goal.returns-then-len-ne1-clause-works
returns-then-len-ne1-clause-works g c = λ told. beside_none _ _ _ _ (c.load_entries.ensures.kept.still.worked told)

pub returns-clause-takes : goal.returns-clause-takes
returns-clause-takes g c = λ told e list has.
    let m : Map = (g.P.Pages.shows c.args.pages.now).present in
    let n : Map = (g.P.Pages.shows c.free.new.self).present in
    let same1 = c.load_entries.ensures.kept.present told in
    let same = c.load_entries-2.ensures.kept.present told ∙ same1 in
    let reads = ap (λ (x : Entry). entries_at m x.block) (sym c.root_entry.ensures) ∙ c.in_ok-entries.ensures.entries told in
    let only : Only m e list has c.index-only.result.now = the_only m e list has c.in_ok-entries.entries.items c.index-only.result.now c.index-only.result.now reads (omega (arith, c.if-len-ne1.false, c.len.ensures)) c.index-only.ensures in
    let below = ap (λ (f : Map). entries_at f c.index-only.result.now.block) (sym same1) ∙ c.in_ok-below.ensures.entries told in
    let stored = stored_bytes _ _ 1 c.in_ok-bytes.bytes.items _ (c.in_ok-touch.ensures.ok told) c.deref-2.ensures.value c.in_ok-bytes.ensures.size in
    took_only m _ n e list has c.index-only.result.now c.in_ok-below.below.items c.in_ok-bytes.bytes.items only below
    (subst (λ (f : Map). Stored f (g.P.Pages.shows c.touch.new.self).present 1 1 c.in_ok-bytes.bytes.items) same stored)
    (c.in_ok-bytes.ensures.entries ∙ ap (λ (xs : List Entry). Some xs) c.deref.ensures.value) (c.in_ok-free.ensures.ok told)

pub returns-clause-works : goal.returns-clause-works
returns-clause-works g c = λ told.
    beside_two _ _ _ 1 c.index-only.result.now.block (only_after _ _ _ _ (c.load_entries-2.ensures.kept.still.worked told ∙ c.load_entries.ensures.kept.still.worked told) (only_page _ _ 1 (c.in_ok-touch.ensures.change.worked told)))
    (only_page _ _ c.index-only.result.now.block (c.in_ok-free.ensures.change.worked told))

pub returns-in_err-free-clause-kept : goal.returns-in_err-free-clause-kept
returns-in_err-free-clause-kept g c = Continues-trans g.met.P.Pages.stays_on (Continues-trans g.met.P.Pages.stays_on (OnlyReads-continues (OnlyReads-trans g.met.P.Pages.stays_on c.load_entries.ensures.kept c.load_entries-2.ensures.kept)) c.touch.ensures.kept) c.free.ensures.kept

pub returns-clause-kept : goal.returns-clause-kept
returns-clause-kept g c = Continues-trans g.met.P.Pages.stays_on (Continues-trans g.met.P.Pages.stays_on (OnlyReads-continues (OnlyReads-trans g.met.P.Pages.stays_on c.load_entries.ensures.kept c.load_entries-2.ensures.kept)) c.touch.ensures.kept) c.free.ensures.kept

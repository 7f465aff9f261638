use Rattle.std.proofs.Common.{List, Some, length, sym, ap, subst, ◌∙◌}
use Rattle.vs_pages.specs.Maps.{Map}
use Rattle.vs_pages.proofs.Steps.{Continues-trans, OnlyReads-continues}
use Rattle.vs_tree_shape.specs.declared.entries.Entry.{Entry}
use Rattle.vs_tree_shape.specs.Trees.{HasLines}
use Rattle.vs_tree_blocks.specs.Blocks.{entries_at, tree_format, LeadsToPointers}
use Rattle.vs_merge.specs.Forests.{HasForest}
use Rattle.vs_merge.specs.Roots.{StandsDeep}
use Rattle.vs_merge.proofs.Evening.{stored_bytes}
use Rattle.vs_merge.proofs.Lowering.{root_leads}
use Rattle.vs_merge.proofs.Forests.{built_at, exchanges_then, forest_after, forest_at, root_stays, two_tops}
use Rattle.vs_merge.proofs.settle.settle_tree.Goals as goal

pub load_entries-requires-clause-there : goal.load_entries-requires-clause-there
load_entries-requires-clause-there g c = λ told.
    subst (λ (x : Entry). LeadsToPointers (g.P.Pages.shows c.args.pages.now).present x) (sym c.root_entry.ensures) (root_leads _ c.args.height c.args.lines (c.requires.there told))

pub open_all-requires-clause-there : goal.open_all-requires-clause-there
open_all-requires-clause-there g c = λ told.
    let s = c.requires.there told in
    let reads = ap (λ (x : Entry). entries_at (g.P.Pages.shows c.args.pages.now).present x.block) (sym c.root_entry.ensures) ∙ c.in_ok-entries.ensures.entries told ∙ ap (λ (xs : List Entry). Some xs) (sym c.deref.ensures.value) in
    subst (λ (m : Map). HasForest m c.saturating_sub.result c.deref.result.now) (sym (c.load_entries.ensures.kept.present told)) (forest_at _ c.args.height c.saturating_sub.result s.list c.deref.result.now s.has c.saturating_sub.ensures reads)

pub close_all-requires-clause-there : goal.close_all-requires-clause-there
close_all-requires-clause-there g c = λ told.
    let s = c.requires.there told in
    let n0 : Map = (g.P.Pages.shows c.load_entries.new.pages).present in
    let reads = ap (λ (x : Entry). entries_at (g.P.Pages.shows c.args.pages.now).present x.block) (sym c.root_entry.ensures) ∙ c.in_ok-entries.ensures.entries told ∙ ap (λ (xs : List Entry). Some xs) (sym c.deref.ensures.value) in
    let f : HasForest n0 c.saturating_sub.result c.deref.result.now = subst (λ (m : Map). HasForest m c.saturating_sub.result c.deref.result.now) (sym (c.load_entries.ensures.kept.present told)) (forest_at _ c.args.height c.saturating_sub.result s.list c.deref.result.now s.has c.saturating_sub.ensures reads) in
    (0, forest_after _ _ c.saturating_sub.result 0 c.deref.result.now c.in_ok-leaves.leaves.items f (c.in_ok-leaves.ensures.opens told f))

pub touch-requires-clause-there : goal.touch-requires-clause-there
touch-requires-clause-there g c = λ told.
    let n0 : Map = (g.P.Pages.shows c.load_entries.new.pages).present in
    let same = c.load_entries.ensures.kept.present told in
    let s : StandsDeep n0 c.args.height c.args.lines = subst (λ (m : Map). StandsDeep m c.args.height c.args.lines) (sym same) (c.requires.there told) in
    let reads = ap (λ (m : Map). entries_at m 1) same ∙ ap (λ (x : Entry). entries_at (g.P.Pages.shows c.args.pages.now).present x.block) (sym c.root_entry.ensures) ∙ c.in_ok-entries.ensures.entries told ∙ ap (λ (xs : List Entry). Some xs) (sym c.deref.ensures.value) in
    root_stays n0 _ c.args.height c.saturating_sub.result _ s.list c.deref.result.now _ s.has c.saturating_sub.ensures reads
    (λ f. exchanges_then n0 _ _ c.saturating_sub.result 0 _ c.deref.result.now c.in_ok-leaves.leaves.items _ f (c.in_ok-leaves.ensures.opens told f) (λ h. c.in_ok-tops.ensures.closes told 0 h))

pub returns-clause-settles : goal.returns-clause-settles
returns-clause-settles g c = λ told list has some.
    let n0 : Map = (g.P.Pages.shows c.load_entries.new.pages).present in
    let same = c.load_entries.ensures.kept.present told in
    let had : HasLines tree_format n0 c.args.height list = subst (λ (m : Map). HasLines tree_format m c.args.height list) (sym same) has in
    let reads = ap (λ (m : Map). entries_at m 1) same ∙ ap (λ (x : Entry). entries_at (g.P.Pages.shows c.args.pages.now).present x.block) (sym c.root_entry.ensures) ∙ c.in_ok-entries.ensures.entries told ∙ ap (λ (xs : List Entry). Some xs) (sym c.deref.ensures.value) in
    built_at n0 _ _ _ c.args.height c.saturating_sub.result _ list c.deref.result.now c.in_ok-leaves.leaves.items _ c.in_ok-bytes.bytes.items had c.saturating_sub.ensures reads some
    (λ f. c.in_ok-leaves.ensures.opens told f) c.in_ok-leaves.ensures.some (λ d f. c.in_ok-tops.ensures.closes told d f)
    (stored_bytes _ _ 1 c.in_ok-bytes.bytes.items _ (c.in_ok-touch.ensures.ok told) c.deref-3.ensures.value c.in_ok-bytes.ensures.size)
    (c.in_ok-bytes.ensures.entries ∙ ap (λ (xs : List Entry). Some xs) c.deref-2.ensures.value)
    (λ levels. c.in_ok-tops.ensures.two (two_tops _ (length c.in_ok-leaves.leaves.items) c.in_ok-tops.ensures.flat levels))

pub returns-in_err-tops-clause-kept : goal.returns-in_err-tops-clause-kept
returns-in_err-tops-clause-kept g c = Continues-trans g.met.P.Pages.stays_on (Continues-trans g.met.P.Pages.stays_on (OnlyReads-continues c.load_entries.ensures.kept) c.open_all.ensures.kept) c.close_all.ensures.kept

pub returns-in_err-bytes-clause-kept : goal.returns-in_err-bytes-clause-kept
returns-in_err-bytes-clause-kept g c = Continues-trans g.met.P.Pages.stays_on (Continues-trans g.met.P.Pages.stays_on (OnlyReads-continues c.load_entries.ensures.kept) c.open_all.ensures.kept) c.close_all.ensures.kept

pub returns-in_err-touch-clause-kept : goal.returns-in_err-touch-clause-kept
returns-in_err-touch-clause-kept g c = Continues-trans g.met.P.Pages.stays_on (Continues-trans g.met.P.Pages.stays_on (Continues-trans g.met.P.Pages.stays_on (OnlyReads-continues c.load_entries.ensures.kept) c.open_all.ensures.kept) c.close_all.ensures.kept) c.touch.ensures.kept

pub returns-clause-kept : goal.returns-clause-kept
returns-clause-kept g c = Continues-trans g.met.P.Pages.stays_on (Continues-trans g.met.P.Pages.stays_on (Continues-trans g.met.P.Pages.stays_on (OnlyReads-continues c.load_entries.ensures.kept) c.open_all.ensures.kept) c.close_all.ensures.kept) c.touch.ensures.kept

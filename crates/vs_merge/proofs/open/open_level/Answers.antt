-- Each block is given back, and the entries that it had stand behind those of the blocks before it.
use Rattle.std.proofs.Common.{◌≡◌, ℕ, suc, ◌+◌, List, [], ◌++◌, take, get_or, refl, sym, ap, subst, ◌∙◌, arith}
use Rattle.std.specs.List.{AllByRecursion}
use Rattle.vs_pages.proofs.Steps.{Continues-none, Continues-trans, OnlyReads-continues}
use Rattle.vs_pages.specs.Maps.{Map}
use Rattle.vs_tree_shape.specs.declared.entries.Entry.{Entry}
use Rattle.vs_tree_shape.specs.Places.{lines_below}
use Rattle.vs_tree_shape.proofs.Shapes.{each-append}
use Rattle.vs_tree_shape.proofs.Sums.{total-append, total_more}
use Rattle.vs_tree_blocks.specs.Blocks.{FitsFields, entries_at, LeadsToPointers}
use Rattle.vs_merge.specs.Evens.{no_entry}
use Rattle.vs_merge.specs.Forests.{Exchanges}
use Rattle.vs_merge.proofs.Forests.{exchanged_all, exchanges_none, leads_there, next_leads, opens_more}
use Rattle.vs_merge.proofs.open.open_level.Goals as goal

pub entries-init : goal.entries-init
entries-init g c =
    let items : c.new-below.result.items ≡ [] = c.new-below.ensures.items in
    let m : Map = (g.P.Pages.shows c.args.pages.now).present in
    record {
      opened = λ told d f. let X : List Entry → Type 0 = λ xs. Exchanges m m (suc d) d [] xs in subst X (sym items) (exchanges_none m m (suc d) d refl);
      fields = subst (λ (xs : List Entry). AllByRecursion FitsFields xs) (sym items) tt;
      lines = ap lines_below items;
      kept = Continues-none g.met.P.Pages.stays_itself c.requires.valid;
      faults = refl;
    }

pub load_entries-requires-clause-there : goal.load_entries-requires-clause-there
load_entries-requires-clause-there g c = λ told.
    let r = c.requires.there told in
    let es : List Entry = c.args.entries.now in
    let i : ℕ = c.entries.entry-index in
    let block : Entry = get_or es i no_entry in
    let item : block ≡ get_or es i no_entry = refl in
    next_leads _ _ r.0 es c.entries.below.items r.1 i block (omega arith) item (c.entries.invariant.opened told r.0 r.1)

pub free-requires-clause-there : goal.free-requires-clause-there
free-requires-clause-there g c = λ told.
    let r = c.requires.there told in
    let es : List Entry = c.args.entries.now in
    let i : ℕ = c.entries.entry-index in
    let block : Entry = get_or es i no_entry in
    let item : block ≡ get_or es i no_entry = refl in
    let leads = next_leads _ _ r.0 es c.entries.below.items r.1 i block (omega arith) item (c.entries.invariant.opened told r.0 r.1) in
    leads_there _ block (subst (λ (m : Map). LeadsToPointers m block) (sym (c.load_entries.ensures.kept.present told)) leads)

pub returns-in_err-more-clause-kept : goal.returns-in_err-more-clause-kept
returns-in_err-more-clause-kept g c = Continues-trans g.met.P.Pages.stays_on c.entries.invariant.kept (OnlyReads-continues c.load_entries.ensures.kept)

pub returns-in_err-free-clause-kept : goal.returns-in_err-free-clause-kept
returns-in_err-free-clause-kept g c = Continues-trans g.met.P.Pages.stays_on (Continues-trans g.met.P.Pages.stays_on c.entries.invariant.kept (OnlyReads-continues c.load_entries.ensures.kept)) c.free.ensures.kept

pub returns-in_err-extend_from_slice-clause-kept : goal.returns-in_err-extend_from_slice-clause-kept
returns-in_err-extend_from_slice-clause-kept g c = Continues-trans g.met.P.Pages.stays_on (Continues-trans g.met.P.Pages.stays_on c.entries.invariant.kept (OnlyReads-continues c.load_entries.ensures.kept)) c.free.ensures.kept

pub entries-preserved : goal.entries-preserved
entries-preserved g c =
    let inv = c.entries.invariant in
    let es : List Entry = c.args.entries.now in
    let i : ℕ = c.entries.entry-index in
    let block : Entry = get_or es i no_entry in
    let below : List Entry = c.entries.below.items in
    let more : List Entry = c.in_ok-more.more.items in
    let m : Map = (g.P.Pages.shows c.args.pages.now).present in
    let n : Map = (g.P.Pages.shows c.free.new.self).present in
    let item : block ≡ get_or es i no_entry = refl in
    let items : c.extend_from_slice.new.self.items ≡ below ++ more = c.in_ok-extend_from_slice.ensures.items ∙ ap (λ (xs : List Entry). below ++ xs) c.deref.ensures.value in
    record {
      opened = λ told d f.
          let same = c.load_entries.ensures.kept.present told in
          let x = subst (λ (h : Map). Exchanges m h (suc d) d (take i f.trees) below) (sym same) (inv.opened told d f) in
          let reads = ap (λ (h : Map). entries_at h block.block) same ∙ c.in_ok-more.ensures.entries told in
          subst (λ (xs : List Entry). Exchanges m n (suc d) d (take (i + 1) f.trees) xs) (sym items) (opens_more m _ n d es below more f i block (omega arith) item x reads (c.in_ok-free.ensures.ok told));
      fields = subst (λ (xs : List Entry). AllByRecursion FitsFields xs) (sym items) (each-append FitsFields below more inv.fields c.in_ok-more.ensures.fields);
      lines = omega (arith, ap lines_below items, total-append (λ (e : Entry). e.lines) below more, inv.lines, c.in_ok-more.ensures.lines, total_more (λ (e : Entry). e.lines) es i no_entry (omega arith), ap (λ (e : Entry). e.lines) item);
      kept = Continues-trans g.met.P.Pages.stays_on (Continues-trans g.met.P.Pages.stays_on inv.kept (OnlyReads-continues c.load_entries.ensures.kept)) c.free.ensures.kept;
      faults = c.in_ok-free.ensures.cause.none (λ failed. absurd (cc)) ∙ c.in_ok-more.ensures.cause.none (λ failed. absurd (cc)) ∙ inv.faults;
    }

pub returns-clause-opens : goal.returns-clause-opens
returns-clause-opens g c = λ told d f. exchanged_all _ _ (suc d) d c.args.entries.now c.entries.below.items f c.entries.entry-index (omega arith) (c.entries.invariant.opened told d f)

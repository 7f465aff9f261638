use Rattle.std.proofs.Common.{◌+◌, ◌-◌, Some, IsSome, length, refl, sym, ap, subst, ◌∙◌, arith}
use Rattle.vs_disk.proofs.Quiet.{none_fails, none_then}
use Rattle.vs_pages.specs.Maps.{joined, pages_at}
use Rattle.vs_pages.specs.Memory.{kept_of}
use Rattle.vs_pages.specs.State.{PageState}
use Rattle.vs_pages.specs.declared.memory.MemPages.{MemPages}
use Rattle.vs_pages.proofs.Runs.{rest-read}
use Rattle.vs_pages.proofs.TableLemmas.{cells_of-within}
use Rattle.vs_pair.specs.Pair.{shown_in}
use Rattle.vs_pair.proofs.AwayLemmas.{started}
use Rattle.vs_pair.proofs.Lending.{cache_moved, shown_moved, stored_moved}
use Rattle.vs_pair.proofs.ReadLemmas.{same_failed, failed_same, not_ok_failed, only_as, only_folder, only_none, only_then}
use Rattle.vs_pair.proofs.pair.SwapPair.read_pages.Goals as goal

pub loop-i-init : goal.loop-i-init
loop-i-init g c =
    let m = (shown_in c.args.self.now (g.F.World.scene c.args.host.now).folder).present in
    record {
      size = ap length c.clear.ensures.items;
      loaded = λ told. ap (λ l. joined (Some l) (pages_at m (c.args.at + 0) (c.args.pages - 0))) c.clear.ensures.items ∙ started m c.args.at c.args.pages;
      pages = refl;
      files = refl;
      cached = λ told. (c.requires.stored told).cached;
      reads = only_none g.F.World.tells ⊥ (g.F.World.scene c.args.host.now) 0 (λ failed. failed);
      none = none_fails g.F.World.tells (g.F.World.scene c.args.host.now);
    }

pub overflow_add-at : goal.overflow_add-at
overflow_add-at g c =
    let table = c.args.self.now.pages.table in
    omega (arith, table.bound, cells_of-within table.places.items (c.args.at + c.loop-i.i) (c.requires.there c.loop-i.i c.loop-i-test.true))

pub add_page-requires-clause-there : goal.add_page-requires-clause-there
add_page-requires-clause-there g c = subst (λ (m : MemPages). IsSome (kept_of m (c.args.at + c.loop-i.i))) (sym c.loop-i.invariant.pages) (c.requires.there c.loop-i.i c.loop-i-test.true)

pub add_page-requires-clause-stored : goal.add_page-requires-clause-stored
add_page-requires-clause-stored g c told =
    stored_moved c.args.self.now c.loop-i.self c.loop-i.invariant.pages c.loop-i.invariant.files _ _ (only_folder g.F.World.tells _ _ _ _ c.loop-i.invariant.reads) (c.loop-i.invariant.cached told) (c.requires.stored told)

pub loop-i-preserved : goal.loop-i-preserved
loop-i-preserved g c =
    let m = (shown_in c.args.self.now (g.F.World.scene c.args.host.now).folder).present in
    let folder = only_folder g.F.World.tells _ _ _ _ c.loop-i.invariant.reads in
    record {
      size = omega (arith, c.in_ok-add_page.ensures.size, c.loop-i.invariant.size);
      loaded = λ told.
          let page = c.in_ok-add_page.ensures.page told in
          ap (λ read. joined (Some read) (pages_at m (c.args.at + (c.loop-i.i + 1)) (c.args.pages - (c.loop-i.i + 1)))) page.2
          ∙ rest-read m c.args.at c.loop-i.i c.args.pages c.loop-i.into.items page.0 (pages_at m c.args.at c.args.pages) c.loop-i-test.true
          (ap (λ (s : PageState). s.present (c.args.at + c.loop-i.i)) (sym (shown_moved c.args.self.now c.loop-i.self c.loop-i.invariant.pages c.loop-i.invariant.files _ _ folder)) ∙ page.1) (c.loop-i.invariant.loaded told);
      pages = c.add_page.ensures.pages ∙ c.loop-i.invariant.pages;
      files = c.add_page.ensures.files ∙ c.loop-i.invariant.files;
      cached = λ told. cache_moved c.args.self.now c.loop-i.self c.loop-i.invariant.pages c.loop-i.invariant.files _ _ folder c.add_page.new.self.cache (c.add_page.ensures.cached told);
      reads = only_then g.F.World.tells _ _ _ _ _ c.loop-i.i 1 _ (omega arith) c.loop-i.invariant.none c.loop-i.invariant.reads (only_as g.F.World.tells _ ⊥ _ _ 1 1 (omega arith) (λ never. absurd never) c.add_page.ensures.reads);
      none = none_then g.F.World.tells _ _ _ c.loop-i.invariant.none (c.add_page.ensures.calm (not_ok_failed c.add_page.result _ c.in_ok-add_page.was));
    }

pub returns-in_err-add_page-clause-pages : goal.returns-in_err-add_page-clause-pages
returns-in_err-add_page-clause-pages g c = c.add_page.ensures.pages ∙ c.loop-i.invariant.pages

pub returns-in_err-add_page-clause-files : goal.returns-in_err-add_page-clause-files
returns-in_err-add_page-clause-files g c = c.add_page.ensures.files ∙ c.loop-i.invariant.files

pub returns-in_err-add_page-clause-cached : goal.returns-in_err-add_page-clause-cached
returns-in_err-add_page-clause-cached g c told =
    cache_moved c.args.self.now c.loop-i.self c.loop-i.invariant.pages c.loop-i.invariant.files _ _ (only_folder g.F.World.tells _ _ _ _ c.loop-i.invariant.reads) c.add_page.new.self.cache (c.add_page.ensures.cached told)

pub returns-in_err-add_page-clause-reads : goal.returns-in_err-add_page-clause-reads
returns-in_err-add_page-clause-reads g c =
    only_then g.F.World.tells _ _ _ _ _ c.loop-i.i 1 _ (omega (arith, c.loop-i-test.true)) c.loop-i.invariant.none c.loop-i.invariant.reads
    (only_as g.F.World.tells _ _ _ _ 1 1 (omega arith) (λ failed. same_failed c.from_residual.result c.add_page.result _ c.in_err-add_page.was c.from_residual.ensures.1 failed) c.add_page.ensures.reads)

pub returns-in_err-add_page-clause-calm : goal.returns-in_err-add_page-clause-calm
returns-in_err-add_page-clause-calm g c = λ calm.
    none_then g.F.World.tells _ _ _ c.loop-i.invariant.none (c.add_page.ensures.calm (λ failed. calm (failed_same c.from_residual.result c.add_page.result _ c.in_err-add_page.was c.from_residual.ensures.1 failed)))

pub returns-clause-reads : goal.returns-clause-reads
returns-clause-reads g c = only_as g.F.World.tells ⊥ _ _ _ c.loop-i.i _ (omega (arith, c.loop-i.auto.i-end)) (λ failed. absurd (cc)) c.loop-i.invariant.reads

pub returns-clause-calm : goal.returns-clause-calm
returns-clause-calm g c = λ calm. c.loop-i.invariant.none

pub returns-in_err-add_page-clause-last : goal.returns-in_err-add_page-clause-last
returns-in_err-add_page-clause-last g c = λ failed.
    omega (arith, c.add_page.ensures.last (same_failed c.from_residual.result c.add_page.result _ c.in_err-add_page.was c.from_residual.ensures.1 failed), c.loop-i.invariant.none.faults)

pub returns-clause-last : goal.returns-clause-last
returns-clause-last g c = λ failed. absurd (cc failed)

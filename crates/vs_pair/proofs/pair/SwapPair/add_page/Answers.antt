use Rattle.std.proofs.Common.{◌≡◌, Some, subst, arith}
use Rattle.vs_disk.proofs.Quiet.{none_fails}
use Rattle.vs_swap.specs.Files.{page_in}
use Rattle.vs_pair.specs.Cached.{was_away}
use Rattle.vs_pair.specs.Pair.{away_of}
use Rattle.vs_pair.proofs.AwayLemmas.{fetched, run_below}
use Rattle.vs_pair.proofs.ReadLemmas.{failed_same, not_failed, not_ok_failed, only_as, only_none, same_failed}
use Rattle.vs_pair.proofs.pair.SwapPair.add_page.Goals as goal

-- ---- a page that is at hand

pub returns-in_err-extend_from_slice-clause-cached : goal.returns-in_err-extend_from_slice-clause-cached
returns-in_err-extend_from_slice-clause-cached g c told = (c.requires.stored told).cached

pub returns-in_err-extend_from_slice-clause-reads : goal.returns-in_err-extend_from_slice-clause-reads
returns-in_err-extend_from_slice-clause-reads g c = only_none g.F.World.tells _ _ 1 (λ failed. not_failed c.from_residual.result c.from_residual.ensures.1 failed)

pub returns-in_err-extend_from_slice-clause-calm : goal.returns-in_err-extend_from_slice-clause-calm
returns-in_err-extend_from_slice-clause-calm g c = λ calm. none_fails g.F.World.tells _

pub returns-in_err-extend_from_slice-clause-last : goal.returns-in_err-extend_from_slice-clause-last
returns-in_err-extend_from_slice-clause-last g c = λ failed. absurd (not_failed c.from_residual.result c.from_residual.ensures.1 failed)

pub returns-in-Some-clause-cached : goal.returns-in-Some-clause-cached
returns-in-Some-clause-cached g c told = (c.requires.stored told).cached

pub returns-in-Some-clause-reads : goal.returns-in-Some-clause-reads
returns-in-Some-clause-reads g c = only_none g.F.World.tells _ _ 1 (λ failed. cc failed)

pub returns-in-Some-clause-calm : goal.returns-in-Some-clause-calm
returns-in-Some-clause-calm g c = λ calm. none_fails g.F.World.tells _

pub returns-in-Some-clause-last : goal.returns-in-Some-clause-last
returns-in-Some-clause-last g c = λ failed. absurd (cc failed)

-- ---- one that is read with its neighbours

pub absent_run-pages-requires : goal.absent_run-pages-requires
absent_run-pages-requires g c = c.in_default.ensures.none c.requires.there

pub keep-requires-clause-small : goal.keep-requires-clause-small
keep-requires-clause-small g c =
    omega (arith, run_below c.args.self.now.pages c.args.at c.absent_run-pages.result c.absent_run-pages.ensures.least c.absent_run-pages.ensures.away)

pub returns-in_err-fill_pages-clause-reads : goal.returns-in_err-fill_pages-clause-reads
returns-in_err-fill_pages-clause-reads g c =
    only_as g.F.World.tells _ _ _ _ 1 1 (omega arith) (λ failed. same_failed c.from_residual-in_err-fill_pages.result c.fill_pages.result _ c.in_err-fill_pages.was c.from_residual-in_err-fill_pages.ensures.1 failed) c.fill_pages.ensures.reads

pub returns-in_err-fill_pages-clause-last : goal.returns-in_err-fill_pages-clause-last
returns-in_err-fill_pages-clause-last g c = λ failed.
    c.fill_pages.ensures.last (same_failed c.from_residual-in_err-fill_pages.result c.fill_pages.result _ c.in_err-fill_pages.was c.from_residual-in_err-fill_pages.ensures.1 failed)

pub returns-in_err-fill_pages-clause-calm : goal.returns-in_err-fill_pages-clause-calm
returns-in_err-fill_pages-clause-calm g c = λ calm.
    c.fill_pages.ensures.calm (λ failed. calm (failed_same c.from_residual-in_err-fill_pages.result c.fill_pages.result _ c.in_err-fill_pages.was c.from_residual-in_err-fill_pages.ensures.1 failed))

pub returns-in_err-extend_from_slice-2-clause-cached : goal.returns-in_err-extend_from_slice-2-clause-cached
returns-in_err-extend_from_slice-2-clause-cached g c told =
    c.keep.ensures.kept (was_away c.args.self.now.pages) (away_of c.args.self.now.files (g.F.World.scene c.args.host.now).folder) (c.fill_pages.ensures.cached told) (c.in_ok-fill_pages.ensures.read told)

pub returns-in_err-extend_from_slice-2-clause-reads : goal.returns-in_err-extend_from_slice-2-clause-reads
returns-in_err-extend_from_slice-2-clause-reads g c =
    only_as g.F.World.tells _ _ _ _ 1 1 (omega arith) (λ failed. absurd (not_failed c.from_residual-in_err-extend_from_slice-2.result c.from_residual-in_err-extend_from_slice-2.ensures.1 failed)) c.fill_pages.ensures.reads

pub returns-in_err-extend_from_slice-2-clause-last : goal.returns-in_err-extend_from_slice-2-clause-last
returns-in_err-extend_from_slice-2-clause-last g c = λ failed. absurd (not_failed c.from_residual-in_err-extend_from_slice-2.result c.from_residual-in_err-extend_from_slice-2.ensures.1 failed)

pub returns-in_err-extend_from_slice-2-clause-calm : goal.returns-in_err-extend_from_slice-2-clause-calm
returns-in_err-extend_from_slice-2-clause-calm g c = λ calm. c.fill_pages.ensures.calm (not_ok_failed c.fill_pages.result _ c.in_ok-fill_pages.was)

pub returns-clause-page : goal.returns-clause-page
returns-clause-page g c told =
    let pages = c.args.self.now.pages in
    let away = away_of c.args.self.now.files (g.F.World.scene c.args.host.now).folder in
    let run = c.absent_run-pages in
    let first = subst (λ v. page_in v.items 0 ≡ Some c.first.result.now) c.keep.ensures.room c.first.ensures.page in
    (c.first.result.now, fetched pages away c.fill_pages.new.self.cache.room.items c.first.result.now c.args.at run.result (c.in_default.ensures.none c.requires.there) run.ensures.least (c.in_ok-fill_pages.ensures.read told) first, c.in_ok-extend_from_slice-2.ensures.items)

pub returns-clause-cached : goal.returns-clause-cached
returns-clause-cached g c told =
    c.keep.ensures.kept (was_away c.args.self.now.pages) (away_of c.args.self.now.files (g.F.World.scene c.args.host.now).folder) (c.fill_pages.ensures.cached told) (c.in_ok-fill_pages.ensures.read told)

pub returns-clause-reads : goal.returns-clause-reads
returns-clause-reads g c = only_as g.F.World.tells _ _ _ _ 1 1 (omega arith) (λ failed. absurd (cc failed)) c.fill_pages.ensures.reads

pub returns-clause-last : goal.returns-clause-last
returns-clause-last g c = λ failed. absurd (cc failed)

pub returns-clause-calm : goal.returns-clause-calm
returns-clause-calm g c = λ calm. c.fill_pages.ensures.calm (not_ok_failed c.fill_pages.result _ c.in_ok-fill_pages.was)

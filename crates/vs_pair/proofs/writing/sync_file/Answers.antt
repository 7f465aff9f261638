use Rattle.std.proofs.Common.{subst, sym}
use Rattle.std.proofs.lemmas.Result.{on_ok_weaker}
use Rattle.vs_host.specs.Disk.{ChangesFile}
use Rattle.vs_pages.specs.Memory.{commits_of, AreBacked}
use Rattle.vs_pair.specs.declared.gate.Gate.{Gate}
use Rattle.vs_pair.specs.Swap.{Body, CloseStep, Fits, FailedSync}
use Rattle.vs_disk.proofs.Quiet.{none_then}
use Rattle.vs_pages.specs.Maps.{Map}
use Rattle.vs_pair.proofs.AwayLemmas.{fresh_at, other_pages, still_apart, written_at}
use Rattle.vs_pair.proofs.ReadLemmas.{works_then, works_within}
use Rattle.vs_pair.proofs.Calls.{on_err_from, on_err_both}
use Rattle.vs_pair.proofs.Gates.{ShutsWith, closing_acts, closing_failed, writing_acts, writing_failed, written_file, opening_acts, opening_failed, opened_file, grown_file, fresh_behind, still_there}
use Rattle.vs_pair.proofs.Spared.{closes, marks, spares_on}
use Rattle.std.proofs.Common.{◌+◌, arith}
use Rattle.vs_pair.specs.Held.{held_from}
use Rattle.vs_pair.specs.Stale.{stale_below}
use Rattle.vs_pair.proofs.writing.sync_file.Goals as goal

pub close_gate-requires : goal.close_gate-requires
close_gate-requires g c = record { there = λ told. let was = c.requires.fits told in record { number = was.1.number; leads = was.1.leads; has = tt } }

pub returns-in_err-close_gate-clause-acts : goal.returns-in_err-close_gate-clause-acts
returns-in_err-close_gate-clause-acts g c = closing_acts c.args.name.now c.args.gate.now (record { first = c.args.first.now; pages = (held_from c.args.pages.now (g.F.World.scene c.args.host.now).folder c.args.from.now).committed }) g.F.World.tells (g.F.World.scene c.args.host.now) _ c.close_gate.ensures.acts

pub returns-in_err-close_gate-clause-spared : goal.returns-in_err-close_gate-clause-spared
returns-in_err-close_gate-clause-spared g c = closes (commits_of c.args.pages.now) c.args.written.now g.F.World.tells c.args.name.now c.args.gate.now _ _ c.close_gate.ensures.acts

pub returns-in_err-close_gate-clause-failed : goal.returns-in_err-close_gate-clause-failed
returns-in_err-close_gate-clause-failed g c =
    on_err_from c.from_residual.result _
    (λ told. let body : Body = record { first = c.args.first.now; pages = (held_from c.args.pages.now (g.F.World.scene c.args.host.now).folder c.args.from.now).committed } in
    subst (λ (h : Gate). ChangesFile c.args.name.now (FailedSync c.args.gate.now h body) (g.F.World.scene c.args.host.now).folder (g.F.World.scene c.close_gate.new.host).folder) (sym c.in_err-close_gate.ensures.unknown)
    (closing_failed c.args.name.now c.args.gate.now body c.in_err-close_gate.ensures.was _ _ (c.close_gate.ensures.acts.runs told).now (c.in_err-close_gate.ensures.failed told)))

pub write_pages-requires-clause-there : goal.write_pages-requires-clause-there
write_pages-requires-clause-there g c told =
    let was = c.requires.fits told in
    fresh_at c.args.name.now c.args.from.now c.args.pages.now c.args.written.now (g.F.World.scene c.args.host.now).folder _ (CloseStep c.args.gate.now) (c.requires.apart told) (c.close_gate.ensures.acts.runs told).now
    (fresh_behind c.args.name.now c.args.gate.now (record { first = c.args.first.now; pages = (held_from c.args.pages.now (g.F.World.scene c.args.host.now).folder c.args.from.now).committed }) (held_from c.args.pages.now (g.F.World.scene c.args.host.now).folder c.args.from.now) c.args.written.now was.0 was.2 _ _ was.1 (c.in_ok-close_gate.ensures.closes told)
    (c.close_gate.ensures.acts.runs told).now)

pub write_pages-requires-clause-apart : goal.write_pages-requires-clause-apart
write_pages-requires-clause-apart g c told = still_apart c.args.name.now c.args.from.now (CloseStep c.args.gate.now) (g.F.World.scene c.args.host.now).folder _ (c.requires.apart told) (c.close_gate.ensures.acts.runs told).now

pub write_pages-requires-clause-backed : goal.write_pages-requires-clause-backed
write_pages-requires-clause-backed g c told =
    subst (λ (m : Map). AreBacked m c.args.pages.now) (sym (other_pages c.args.name.now c.args.from.now (CloseStep c.args.gate.now) (g.F.World.scene c.args.host.now).folder _ (c.requires.apart told) (c.close_gate.ensures.acts.runs told).now)) (c.requires.backed told)

pub returns-in_err-write_pages-clause-acts : goal.returns-in_err-write_pages-clause-acts
returns-in_err-write_pages-clause-acts g c =
    writing_acts c.args.name.now c.args.gate.now (record { first = c.args.first.now; pages = (held_from c.args.pages.now (g.F.World.scene c.args.host.now).folder c.args.from.now).committed }) g.F.World.tells (g.F.World.scene c.args.host.now) _ _ c.in_ok-close_gate.ensures.none c.close_gate.ensures.acts c.in_ok-close_gate.ensures.closes
    c.write_pages.ensures.acts

pub returns-in_err-write_pages-clause-spared : goal.returns-in_err-write_pages-clause-spared
returns-in_err-write_pages-clause-spared g c =
    spares_on (commits_of c.args.pages.now) c.args.written.now g.F.World.tells c.args.name.now _ _ _ c.in_ok-close_gate.ensures.none
    (closes (commits_of c.args.pages.now) c.args.written.now g.F.World.tells c.args.name.now c.args.gate.now _ _ c.close_gate.ensures.acts) c.write_pages.ensures.spared

pub returns-in_err-write_pages-clause-failed : goal.returns-in_err-write_pages-clause-failed
returns-in_err-write_pages-clause-failed g c =
    on_err_from c.from_residual-in_err-write_pages.result _
    (λ told. let body : Body = record { first = c.args.first.now; pages = (held_from c.args.pages.now (g.F.World.scene c.args.host.now).folder c.args.from.now).committed } in
    subst (λ (h : Gate). ChangesFile c.args.name.now (FailedSync c.args.gate.now h body) (g.F.World.scene c.args.host.now).folder (g.F.World.scene c.write_pages.new.host).folder) (sym c.in_ok-close_gate.ensures.closed)
    (writing_failed c.args.name.now c.args.gate.now body _ _ _ (c.in_ok-close_gate.ensures.closes told) (c.write_pages.ensures.acts.runs told).now))

pub open_gate-requires : goal.open_gate-requires
open_gate-requires g c = record {
  there = λ told.
      let was = c.requires.fits told in
      still_there c.args.name.now c.args.gate.now (record { first = c.args.first.now; pages = (held_from c.args.pages.now (g.F.World.scene c.args.host.now).folder c.args.from.now).committed }) (Fits c.args.gate.now was.0) (ShutsWith c.args.gate.now (record { first = c.args.first.now; pages = (held_from c.args.pages.now (g.F.World.scene c.args.host.now).folder c.args.from.now).committed })) _ _ was.1
      (written_file c.args.name.now c.args.gate.now (record { first = c.args.first.now; pages = (held_from c.args.pages.now (g.F.World.scene c.args.host.now).folder c.args.from.now).committed }) _ _ _ (c.in_ok-close_gate.ensures.closes told) (written_at c.args.name.now c.args.from.now c.args.first.now c.args.pages.now (g.F.World.scene c.args.host.now).folder (g.F.World.scene c.close_gate.new.host).folder (g.F.World.scene c.write_pages.new.host).folder (CloseStep c.args.gate.now) (c.requires.apart told) (c.close_gate.ensures.acts.runs told).now (c.in_ok-write_pages.ensures.written told)));
}

pub returns-clause-acts : goal.returns-clause-acts
returns-clause-acts g c =
    opening_acts c.args.name.now c.args.gate.now (record { first = c.args.first.now; pages = (held_from c.args.pages.now (g.F.World.scene c.args.host.now).folder c.args.from.now).committed }) g.F.World.tells (g.F.World.scene c.args.host.now) _ _ (none_then g.F.World.tells _ _ _ c.in_ok-close_gate.ensures.none c.in_ok-write_pages.ensures.none)
    (writing_acts c.args.name.now c.args.gate.now (record { first = c.args.first.now; pages = (held_from c.args.pages.now (g.F.World.scene c.args.host.now).folder c.args.from.now).committed }) g.F.World.tells (g.F.World.scene c.args.host.now) _ _ c.in_ok-close_gate.ensures.none c.close_gate.ensures.acts c.in_ok-close_gate.ensures.closes
    c.write_pages.ensures.acts)
    (λ told. (written_file c.args.name.now c.args.gate.now (record { first = c.args.first.now; pages = (held_from c.args.pages.now (g.F.World.scene c.args.host.now).folder c.args.from.now).committed }) _ _ _ (c.in_ok-close_gate.ensures.closes told) (written_at c.args.name.now c.args.from.now c.args.first.now c.args.pages.now (g.F.World.scene c.args.host.now).folder (g.F.World.scene c.close_gate.new.host).folder (g.F.World.scene c.write_pages.new.host).folder (CloseStep c.args.gate.now) (c.requires.apart told) (c.close_gate.ensures.acts.runs told).now (c.in_ok-write_pages.ensures.written told))))
    c.open_gate.ensures.acts

pub returns-clause-spared : goal.returns-clause-spared
returns-clause-spared g c =
    spares_on (commits_of c.args.pages.now) c.args.written.now g.F.World.tells c.args.name.now _ _ _ (none_then g.F.World.tells _ _ _ c.in_ok-close_gate.ensures.none c.in_ok-write_pages.ensures.none)
    (spares_on (commits_of c.args.pages.now) c.args.written.now g.F.World.tells c.args.name.now _ _ _ c.in_ok-close_gate.ensures.none
    (closes (commits_of c.args.pages.now) c.args.written.now g.F.World.tells c.args.name.now c.args.gate.now _ _ c.close_gate.ensures.acts) c.write_pages.ensures.spared)
    (marks (commits_of c.args.pages.now) c.args.written.now g.F.World.tells c.args.name.now _ _ c.open_gate.ensures.acts)

pub returns-clause-stands : goal.returns-clause-stands
returns-clause-stands g c =
    on_ok_weaker c.open_gate.result
    (λ marked told. let was = c.requires.fits told in
    opened_file c.args.name.now c.args.gate.now (record { first = c.args.first.now; pages = (held_from c.args.pages.now (g.F.World.scene c.args.host.now).folder c.args.from.now).committed }) was.0 _ _ _ was.1
    (written_file c.args.name.now c.args.gate.now (record { first = c.args.first.now; pages = (held_from c.args.pages.now (g.F.World.scene c.args.host.now).folder c.args.from.now).committed }) _ _ _ (c.in_ok-close_gate.ensures.closes told) (written_at c.args.name.now c.args.from.now c.args.first.now c.args.pages.now (g.F.World.scene c.args.host.now).folder (g.F.World.scene c.close_gate.new.host).folder (g.F.World.scene c.write_pages.new.host).folder (CloseStep c.args.gate.now) (c.requires.apart told) (c.close_gate.ensures.acts.runs told).now (c.in_ok-write_pages.ensures.written told)))
    (c.open_gate.ensures.acts.runs told).now (marked told))
    c.open_gate.ensures.marked

pub returns-clause-grown : goal.returns-clause-grown
returns-clause-grown g c =
    on_ok_weaker c.open_gate.result
    (λ opens told. grown_file c.args.name.now c.args.gate.now (record { first = c.args.first.now; pages = (held_from c.args.pages.now (g.F.World.scene c.args.host.now).folder c.args.from.now).committed }) _ _ _ _ (c.in_ok-close_gate.ensures.grown told) (written_at c.args.name.now c.args.from.now c.args.first.now c.args.pages.now (g.F.World.scene c.args.host.now).folder (g.F.World.scene c.close_gate.new.host).folder (g.F.World.scene c.write_pages.new.host).folder (CloseStep c.args.gate.now) (c.requires.apart told) (c.close_gate.ensures.acts.runs told).now (c.in_ok-write_pages.ensures.written told)) (opens told))
    c.open_gate.ensures.grown

pub returns-clause-failed : goal.returns-clause-failed
returns-clause-failed g c =
    on_err_both c.open_gate.result c.open_gate.ensures.unknown c.open_gate.ensures.failed
    (λ unknown failed told.
    subst (λ (h : Gate). ChangesFile c.args.name.now (FailedSync c.args.gate.now h (record { first = c.args.first.now; pages = (held_from c.args.pages.now (g.F.World.scene c.args.host.now).folder c.args.from.now).committed })) (g.F.World.scene c.args.host.now).folder (g.F.World.scene c.open_gate.new.host).folder) (sym unknown)
    (opening_failed c.args.name.now c.args.gate.now (record { first = c.args.first.now; pages = (held_from c.args.pages.now (g.F.World.scene c.args.host.now).folder c.args.from.now).committed }) _ _ _
    (written_file c.args.name.now c.args.gate.now (record { first = c.args.first.now; pages = (held_from c.args.pages.now (g.F.World.scene c.args.host.now).folder c.args.from.now).committed }) _ _ _ (c.in_ok-close_gate.ensures.closes told) (written_at c.args.name.now c.args.from.now c.args.first.now c.args.pages.now (g.F.World.scene c.args.host.now).folder (g.F.World.scene c.close_gate.new.host).folder (g.F.World.scene c.write_pages.new.host).folder (CloseStep c.args.gate.now) (c.requires.apart told) (c.close_gate.ensures.acts.runs told).now (c.in_ok-write_pages.ensures.written told)))
    (c.open_gate.ensures.acts.runs told).now (failed told)))

pub returns-clause-none : goal.returns-clause-none
returns-clause-none g c = on_ok_weaker c.open_gate.result (λ none. none_then g.F.World.tells _ _ _ (none_then g.F.World.tells _ _ _ c.in_ok-close_gate.ensures.none c.in_ok-write_pages.ensures.none) none) c.open_gate.ensures.none

pub returns-in_err-close_gate-clause-works : goal.returns-in_err-close_gate-clause-works
returns-in_err-close_gate-clause-works g c end is = works_within g.F.World.tells _ _ 2 _ 0 _ (omega arith) (omega arith) c.close_gate.ensures.works

pub returns-in_err-write_pages-clause-works : goal.returns-in_err-write_pages-clause-works
returns-in_err-write_pages-clause-works g c end is =
    works_then g.F.World.tells _ _ _ 2 (2 + stale_below (commits_of c.args.pages.now) c.args.written.now end) _ 0 (stale_below (commits_of c.args.pages.now) c.args.written.now end) _ (omega arith) (omega arith) c.close_gate.ensures.works (c.write_pages.ensures.works end is)

pub returns-clause-works : goal.returns-clause-works
returns-clause-works g c end is =
    works_then g.F.World.tells _ _ _ (4 + stale_below (commits_of c.args.pages.now) c.args.written.now end) 2 _ (stale_below (commits_of c.args.pages.now) c.args.written.now end) 0 _ (omega arith) (omega arith)
    (works_then g.F.World.tells _ _ _ 2 (2 + stale_below (commits_of c.args.pages.now) c.args.written.now end) (4 + stale_below (commits_of c.args.pages.now) c.args.written.now end) 0 (stale_below (commits_of c.args.pages.now) c.args.written.now end) (stale_below (commits_of c.args.pages.now) c.args.written.now end) (omega arith) (omega arith) c.close_gate.ensures.works (c.write_pages.ensures.works end is)) c.open_gate.ensures.works

use Rattle.std.proofs.Common.{◌+◌, ◌*◌, drop, refl, arith, length-drop, subst, sym, ◌∙◌}
use Rattle.std.proofs.lemmas.List.{take_all}
use Rattle.std.proofs.lemmas.Result.{on_ok_weaker}
use Rattle.vs_host.specs.Disk.{Disk, ChangesFile}
use Rattle.vs_host.specs.Trace.{Wrote, Synced}
use Rattle.vs_pages.specs.Maps.{Map}
use Rattle.vs_pages.specs.Memory.{commits_of, committed_under, AreBacked}
use Rattle.vs_pair.specs.Held.{held_from, pages_under}
use Rattle.vs_pair.specs.Swap.{KeepsMark}
use Rattle.vs_pair.specs.Writes.{HasRun}
use Rattle.vs_disk.proofs.Quiet.{none_call, none_then}
use Rattle.vs_pair.proofs.AwayLemmas.{other_pages}
use Rattle.vs_pair.proofs.Calls.{write_acts, sync_acts, acts_file, there_and, is_there}
use Rattle.vs_pair.proofs.HeldLemmas.{end_last, end_none, end_some}
use Rattle.vs_pair.proofs.PageWrites.{SoFar, keeps_joins, write_after, sync_after, has_first, has_passed, has_more, has_all, next_place}
use Rattle.vs_pair.proofs.ReadLemmas.{acts_reads, only_folder, run_piece, run_size, works_one, works_then, works_within}
use Rattle.vs_pair.specs.Stale.{SparesFresh, stale_below}
use Rattle.vs_pair.proofs.Spared.{misses_first, misses_run, write_spares, sync_spares, spares_on}
use Rattle.vs_pair.proofs.Bounds.{stale_up_to, run_more, least_end}
use Rattle.vs_pair.proofs.writing.write_pages.Goals as goal

pub returns-in_err-write_at-clause-acts : goal.returns-in_err-write_at-clause-acts
returns-in_err-write_at-clause-acts g c =
    write_acts g.F.World.tells c.args.name.now KeepsMark 2 _ (write_after 2 _ (omega arith)) c.write_at.result _ _ c.write_at.ensures.some c.write_at.ensures.cause c.write_at.ensures.told c.write_at.ensures.frame

pub returns-in_err-write_at-clause-spared : goal.returns-in_err-write_at-clause-spared
returns-in_err-write_at-clause-spared g c =
    write_acts g.F.World.tells c.args.name.now (SparesFresh (commits_of c.args.pages.now) c.args.written.now) 2 _ (write_spares (commits_of c.args.pages.now) c.args.written.now 2 _ (λ k least fresh. misses_first _ (omega (arith, c.requires.size, length-drop 2 c.args.first.now)) k least))
    c.write_at.result _ _ c.write_at.ensures.some c.write_at.ensures.cause c.write_at.ensures.told c.write_at.ensures.frame

pub runs-init : goal.runs-init
runs-init g c = record {
  some = c.next_stale-at.ensures.later;
  within = c.next_stale-at.ensures.within;
  works = works_within g.F.World.tells _ _ 1 _ 0 _ (omega arith) (omega arith) (works_one g.F.World.tells Wrote _ 1 0 refl refl c.write_at.result _ _ c.write_at.ensures.told);
  size = refl;
  stale = c.next_stale-at.ensures.stale;
  acts = write_acts g.F.World.tells c.args.name.now KeepsMark 2 _ (write_after 2 _ (omega arith)) c.write_at.result _ _ c.write_at.ensures.some c.write_at.ensures.cause c.write_at.ensures.told c.write_at.ensures.frame;
  spared = write_acts g.F.World.tells c.args.name.now (SparesFresh (commits_of c.args.pages.now) c.args.written.now) 2 _ (write_spares (commits_of c.args.pages.now) c.args.written.now 2 _ (λ k least fresh. misses_first _ (omega (arith, c.requires.size, length-drop 2 c.args.first.now)) k least))
      c.write_at.result _ _ c.write_at.ensures.some c.write_at.ensures.cause c.write_at.ensures.told c.write_at.ensures.frame;
  none = none_call g.F.World.tells Wrote _ c.write_at.result _ _ c.write_at.ensures.frame c.write_at.ensures.told c.in_ok-write_at.ensures.quiet;
  so_far = λ told.
      has_passed c.args.name.now c.args.first.now (held_from c.args.pages.now (g.F.World.scene c.args.host.now).folder c.args.from.now) c.args.written.now 1 c.next_stale-at.result (omega arith) c.next_stale-at.ensures.later c.next_stale-at.ensures.passed _ _
      (has_first c.args.name.now c.args.first.now (held_from c.args.pages.now (g.F.World.scene c.args.host.now).folder c.args.from.now) c.args.written.now _ c.requires.size (take_all _ (drop 2 c.args.first.now) (omega (arith, length-drop 2 c.args.first.now))) _ _ (c.requires.there told) (c.in_ok-write_at.ensures.ok told));
}

pub fill_run-requires-clause-numbers : goal.fill_run-requires-clause-numbers
fill_run-requires-clause-numbers g c = omega (arith, c.stale_run-count.ensures.within, c.committed_end-end.ensures.bound)

pub fill_run-requires-clause-room : goal.fill_run-requires-clause-room
fill_run-requires-clause-room g c = omega (arith, c.stale_run-count.ensures.most, c.runs.invariant.size)

pub fill_run-requires-clause-backed : goal.fill_run-requires-clause-backed
fill_run-requires-clause-backed g c told =
    subst (λ (m : Map). AreBacked m c.args.pages.now) (sym (other_pages c.args.name.now c.args.from.now KeepsMark (g.F.World.scene c.args.host.now).folder _ (c.requires.apart told) (c.runs.invariant.acts.runs told).now)) (c.requires.backed told)

pub returns-in_err-fill_run-clause-acts : goal.returns-in_err-fill_run-clause-acts
returns-in_err-fill_run-clause-acts g c = acts_reads g.F.World.tells c.args.name.now KeepsMark _ _ _ _ _ c.runs.invariant.none c.runs.invariant.acts c.fill_run.ensures.reads

pub returns-in_err-fill_run-clause-spared : goal.returns-in_err-fill_run-clause-spared
returns-in_err-fill_run-clause-spared g c = acts_reads g.F.World.tells c.args.name.now (SparesFresh (commits_of c.args.pages.now) c.args.written.now) _ _ _ _ _ c.runs.invariant.none c.runs.invariant.spared c.fill_run.ensures.reads

pub returns-in_err-fill_run-clause-works : goal.returns-in_err-fill_run-clause-works
returns-in_err-fill_run-clause-works g c end is =
    let le = least_end c.args.pages.now c.committed_end-end.result end (end_last c.args.pages.now c.committed_end-end.result c.committed_end-end.ensures.end) is in
    let all = run_more c.args.pages.now c.args.written.now c.runs.at c.stale_run-count.result end c.runs.invariant.some c.stale_run-count.ensures.stale (omega (arith, le, c.stale_run-count.ensures.within)) in
    works_within g.F.World.tells _ _ (1 + stale_below (commits_of c.args.pages.now) c.args.written.now c.runs.at) _ (stale_below (commits_of c.args.pages.now) c.args.written.now c.runs.at + c.stale_run-count.result) _ (omega (arith, all)) (omega (arith, all))
    (works_then g.F.World.tells _ _ _ (1 + stale_below (commits_of c.args.pages.now) c.args.written.now c.runs.at) 0 (1 + stale_below (commits_of c.args.pages.now) c.args.written.now c.runs.at) (stale_below (commits_of c.args.pages.now) c.args.written.now c.runs.at) c.stale_run-count.result (stale_below (commits_of c.args.pages.now) c.args.written.now c.runs.at + c.stale_run-count.result) (omega arith) (omega arith) c.runs.invariant.works c.fill_run.ensures.reads.works)

pub write_at-requires-in-runs : goal.write_at-requires-in-runs
write_at-requires-in-runs g c told =
    there_and _ c.args.name.now _ (next_place c.args.name.now c.args.first.now (held_from c.args.pages.now (g.F.World.scene c.args.host.now).folder c.args.from.now) c.args.written.now _ c.runs.at (omega arith) _ _ (c.requires.there told)
    (subst (λ (d : Disk). ChangesFile c.args.name.now (SoFar c.args.first.now (held_from c.args.pages.now (g.F.World.scene c.args.host.now).folder c.args.from.now) c.args.written.now c.runs.at) (g.F.World.scene c.args.host.now).folder d) (sym (only_folder g.F.World.tells _ _ _ _ c.fill_run.ensures.reads)) (c.runs.invariant.so_far told)))

pub sync-requires : goal.sync-requires
sync-requires g c told =
    is_there _ c.args.name.now _ (next_place c.args.name.now c.args.first.now (held_from c.args.pages.now (g.F.World.scene c.args.host.now).folder c.args.from.now) c.args.written.now _ c.runs.at refl _ _ (c.requires.there told) (c.runs.invariant.so_far told))

pub returns-in_err-write_at-2-clause-acts : goal.returns-in_err-write_at-2-clause-acts
returns-in_err-write_at-2-clause-acts g c =
    acts_file g.F.World.tells c.args.name.now KeepsMark KeepsMark KeepsMark (λ a b keeps. keeps) keeps_joins _ _ _ (none_then g.F.World.tells _ _ _ c.runs.invariant.none c.in_ok-fill_run.ensures.none)
    (acts_reads g.F.World.tells c.args.name.now KeepsMark _ _ _ _ _ c.runs.invariant.none c.runs.invariant.acts c.fill_run.ensures.reads)
    (write_acts g.F.World.tells c.args.name.now KeepsMark _ _ (write_after _ _ (omega (arith, c.runs.invariant.some))) c.write_at-in-runs.result _ _ c.write_at-in-runs.ensures.some c.write_at-in-runs.ensures.cause c.write_at-in-runs.ensures.told c.write_at-in-runs.ensures.frame)

pub returns-in_err-write_at-2-clause-spared : goal.returns-in_err-write_at-2-clause-spared
returns-in_err-write_at-2-clause-spared g c =
    spares_on (commits_of c.args.pages.now) c.args.written.now g.F.World.tells c.args.name.now _ _ _ (none_then g.F.World.tells _ _ _ c.runs.invariant.none c.in_ok-fill_run.ensures.none)
    (acts_reads g.F.World.tells c.args.name.now (SparesFresh (commits_of c.args.pages.now) c.args.written.now) _ _ _ _ _ c.runs.invariant.none c.runs.invariant.spared c.fill_run.ensures.reads)
    (write_acts g.F.World.tells c.args.name.now (SparesFresh (commits_of c.args.pages.now) c.args.written.now) _ _
    (write_spares (commits_of c.args.pages.now) c.args.written.now _ _ (λ k least fresh. misses_run (commits_of c.args.pages.now) c.args.written.now _ _ c.runs.at c.stale_run-count.result (omega arith) (run_size c.stale_run-count.result (c.stale_run-count.result * 4096) c.fill_run.new.run refl (omega (arith, c.stale_run-count.ensures.most, c.fill_run.ensures.size, c.runs.invariant.size))) c.stale_run-count.ensures.stale k fresh))
    c.write_at-in-runs.result _ _ c.write_at-in-runs.ensures.some c.write_at-in-runs.ensures.cause c.write_at-in-runs.ensures.told c.write_at-in-runs.ensures.frame)

pub runs-preserved : goal.runs-preserved
runs-preserved g c =
    let folder = only_folder g.F.World.tells _ _ _ _ c.fill_run.ensures.reads in
    let all = run_more c.args.pages.now c.args.written.now c.runs.at c.stale_run-count.result c.next_stale-at-in-runs.result c.runs.invariant.some c.stale_run-count.ensures.stale (omega (arith, c.next_stale-at-in-runs.ensures.later)) in
    record {
      some = omega (arith, c.next_stale-at-in-runs.ensures.later, c.runs.invariant.some);
      within = omega (arith, c.next_stale-at-in-runs.ensures.within, c.stale_run-count.ensures.within);
      works = works_then g.F.World.tells _ _ _ (1 + stale_below (commits_of c.args.pages.now) c.args.written.now c.runs.at) 1 _ (stale_below (commits_of c.args.pages.now) c.args.written.now c.runs.at + c.stale_run-count.result) 0 _ (omega (arith, all, c.stale_run-count.ensures.some)) (omega (arith, all))
          (works_then g.F.World.tells _ _ _ (1 + stale_below (commits_of c.args.pages.now) c.args.written.now c.runs.at) 0 (1 + stale_below (commits_of c.args.pages.now) c.args.written.now c.runs.at) (stale_below (commits_of c.args.pages.now) c.args.written.now c.runs.at) c.stale_run-count.result (stale_below (commits_of c.args.pages.now) c.args.written.now c.runs.at + c.stale_run-count.result) (omega arith) (omega arith) c.runs.invariant.works c.fill_run.ensures.reads.works) (works_one g.F.World.tells Wrote _ 1 0 refl refl c.write_at-in-runs.result _ _ c.write_at-in-runs.ensures.told);
      size = c.fill_run.ensures.size ∙ c.runs.invariant.size;
      stale = c.next_stale-at-in-runs.ensures.stale;
      acts = acts_file g.F.World.tells c.args.name.now KeepsMark KeepsMark KeepsMark (λ a b keeps. keeps) keeps_joins _ _ _ (none_then g.F.World.tells _ _ _ c.runs.invariant.none c.in_ok-fill_run.ensures.none)
          (acts_reads g.F.World.tells c.args.name.now KeepsMark _ _ _ _ _ c.runs.invariant.none c.runs.invariant.acts c.fill_run.ensures.reads)
          (write_acts g.F.World.tells c.args.name.now KeepsMark _ _ (write_after _ _ (omega (arith, c.runs.invariant.some))) c.write_at-in-runs.result _ _ c.write_at-in-runs.ensures.some c.write_at-in-runs.ensures.cause c.write_at-in-runs.ensures.told c.write_at-in-runs.ensures.frame);
      spared = spares_on (commits_of c.args.pages.now) c.args.written.now g.F.World.tells c.args.name.now _ _ _ (none_then g.F.World.tells _ _ _ c.runs.invariant.none c.in_ok-fill_run.ensures.none)
          (acts_reads g.F.World.tells c.args.name.now (SparesFresh (commits_of c.args.pages.now) c.args.written.now) _ _ _ _ _ c.runs.invariant.none c.runs.invariant.spared c.fill_run.ensures.reads)
          (write_acts g.F.World.tells c.args.name.now (SparesFresh (commits_of c.args.pages.now) c.args.written.now) _ _
          (write_spares (commits_of c.args.pages.now) c.args.written.now _ _ (λ k least fresh. misses_run (commits_of c.args.pages.now) c.args.written.now _ _ c.runs.at c.stale_run-count.result (omega arith) (run_size c.stale_run-count.result (c.stale_run-count.result * 4096) c.fill_run.new.run refl (omega (arith, c.stale_run-count.ensures.most, c.fill_run.ensures.size, c.runs.invariant.size))) c.stale_run-count.ensures.stale k fresh))
          c.write_at-in-runs.result _ _ c.write_at-in-runs.ensures.some c.write_at-in-runs.ensures.cause c.write_at-in-runs.ensures.told c.write_at-in-runs.ensures.frame);
      none = none_then g.F.World.tells _ _ _ (none_then g.F.World.tells _ _ _ c.runs.invariant.none c.in_ok-fill_run.ensures.none)
          (none_call g.F.World.tells Wrote _ c.write_at-in-runs.result _ _ c.write_at-in-runs.ensures.frame c.write_at-in-runs.ensures.told c.in_ok-write_at-2.ensures.quiet);
      so_far = λ told.
          let away = other_pages c.args.name.now c.args.from.now KeepsMark (g.F.World.scene c.args.host.now).folder _ (c.requires.apart told) (c.runs.invariant.acts.runs told).now in
          let here = subst (λ (m : Map). HasRun (committed_under m c.args.pages.now) c.runs.at c.stale_run-count.result c.fill_run.new.run) away (c.in_ok-fill_run.ensures.pages told) in
          has_passed c.args.name.now c.args.first.now (held_from c.args.pages.now (g.F.World.scene c.args.host.now).folder c.args.from.now) c.args.written.now (c.runs.at + c.stale_run-count.result) c.next_stale-at-in-runs.result (omega (arith, c.runs.invariant.some)) c.next_stale-at-in-runs.ensures.later
          c.next_stale-at-in-runs.ensures.passed _ _
          (has_more c.args.name.now c.args.first.now (held_from c.args.pages.now (g.F.World.scene c.args.host.now).folder c.args.from.now) c.args.written.now _ _ c.runs.at c.stale_run-count.result c.runs.invariant.some (omega arith)
          (run_size c.stale_run-count.result (c.stale_run-count.result * 4096) c.fill_run.new.run refl (omega (arith, c.stale_run-count.ensures.most, c.fill_run.ensures.size, c.runs.invariant.size)))
          (run_piece (committed_under (pages_under (g.F.World.scene c.args.host.now).folder c.args.from.now) c.args.pages.now) c.runs.at c.stale_run-count.result (c.stale_run-count.result * 4096) c.fill_run.new.run refl
          (omega (arith, c.stale_run-count.ensures.most, c.fill_run.ensures.size, c.runs.invariant.size)) here) _ _ _
          (subst (λ (d : Disk). ChangesFile c.args.name.now (SoFar c.args.first.now (held_from c.args.pages.now (g.F.World.scene c.args.host.now).folder c.args.from.now) c.args.written.now c.runs.at) (g.F.World.scene c.args.host.now).folder d) (sym folder) (c.runs.invariant.so_far told)) (c.in_ok-write_at-2.ensures.ok told));
    }

pub returns-clause-acts : goal.returns-clause-acts
returns-clause-acts g c =
    acts_file g.F.World.tells c.args.name.now KeepsMark KeepsMark KeepsMark (λ a b keeps. keeps) keeps_joins _ _ _ c.runs.invariant.none c.runs.invariant.acts
    (sync_acts g.F.World.tells c.args.name.now KeepsMark sync_after c.sync.result _ _ c.sync.ensures.ok c.sync.ensures.err c.sync.ensures.cause c.sync.ensures.told c.sync.ensures.frame)

pub returns-clause-spared : goal.returns-clause-spared
returns-clause-spared g c =
    spares_on (commits_of c.args.pages.now) c.args.written.now g.F.World.tells c.args.name.now _ _ _ c.runs.invariant.none c.runs.invariant.spared
    (sync_acts g.F.World.tells c.args.name.now (SparesFresh (commits_of c.args.pages.now) c.args.written.now) (sync_spares (commits_of c.args.pages.now) c.args.written.now) c.sync.result _ _ c.sync.ensures.ok c.sync.ensures.err c.sync.ensures.cause c.sync.ensures.told
    c.sync.ensures.frame)

pub returns-clause-written : goal.returns-clause-written
returns-clause-written g c =
    on_ok_weaker c.sync.result
    (λ syncs told. has_all c.args.name.now c.args.first.now (held_from c.args.pages.now (g.F.World.scene c.args.host.now).folder c.args.from.now) c.args.written.now c.runs.at c.committed_end-end.result c.runs.invariant.some (omega arith) c.runs.invariant.within
    (end_none c.args.pages.now c.committed_end-end.result c.committed_end-end.ensures.end _) (end_some c.args.pages.now c.committed_end-end.result c.committed_end-end.ensures.end _ (c.requires.backed told)) _ _ _ (c.runs.invariant.so_far told) (syncs told))
    c.sync.ensures.ok

pub returns-clause-none : goal.returns-clause-none
returns-clause-none g c =
    on_ok_weaker c.sync.result
    (λ quiet. none_then g.F.World.tells _ _ _ c.runs.invariant.none (none_call g.F.World.tells Synced _ c.sync.result _ _ c.sync.ensures.frame c.sync.ensures.told quiet))
    c.sync.ensures.quiet

pub returns-in_err-write_at-clause-works : goal.returns-in_err-write_at-clause-works
returns-in_err-write_at-clause-works g c end is = works_within g.F.World.tells _ _ 1 _ 0 _ (omega arith) (omega arith) (works_one g.F.World.tells Wrote _ 1 0 refl refl c.write_at.result _ _ c.write_at.ensures.told)

pub returns-in_err-write_at-2-clause-works : goal.returns-in_err-write_at-2-clause-works
returns-in_err-write_at-2-clause-works g c end is =
    let le = least_end c.args.pages.now c.committed_end-end.result end (end_last c.args.pages.now c.committed_end-end.result c.committed_end-end.ensures.end) is in
    let all = run_more c.args.pages.now c.args.written.now c.runs.at c.stale_run-count.result end c.runs.invariant.some c.stale_run-count.ensures.stale (omega (arith, le, c.stale_run-count.ensures.within)) in
    works_then g.F.World.tells _ _ _ (1 + stale_below (commits_of c.args.pages.now) c.args.written.now c.runs.at) 1 _ (stale_below (commits_of c.args.pages.now) c.args.written.now c.runs.at + c.stale_run-count.result) 0 _ (omega (arith, all)) (omega (arith, all))
    (works_then g.F.World.tells _ _ _ (1 + stale_below (commits_of c.args.pages.now) c.args.written.now c.runs.at) 0 (1 + stale_below (commits_of c.args.pages.now) c.args.written.now c.runs.at) (stale_below (commits_of c.args.pages.now) c.args.written.now c.runs.at) c.stale_run-count.result (stale_below (commits_of c.args.pages.now) c.args.written.now c.runs.at + c.stale_run-count.result) (omega arith) (omega arith) c.runs.invariant.works c.fill_run.ensures.reads.works) (works_one g.F.World.tells Wrote _ 1 0 refl refl c.write_at-in-runs.result _ _ c.write_at-in-runs.ensures.told)

pub returns-clause-works : goal.returns-clause-works
returns-clause-works g c end is =
    let le = least_end c.args.pages.now c.committed_end-end.result end (end_last c.args.pages.now c.committed_end-end.result c.committed_end-end.ensures.end) is in
    let up = stale_up_to c.args.pages.now c.args.written.now c.runs.at end (omega (arith, le, is.some, c.runs.invariant.within)) in
    works_then g.F.World.tells _ _ _ (1 + stale_below (commits_of c.args.pages.now) c.args.written.now c.runs.at) 1 _ (stale_below (commits_of c.args.pages.now) c.args.written.now c.runs.at) 0 _ (omega (arith, up)) (omega (arith, up)) c.runs.invariant.works
    (works_one g.F.World.tells Synced _ 1 0 refl refl c.sync.result _ _ c.sync.ensures.told)

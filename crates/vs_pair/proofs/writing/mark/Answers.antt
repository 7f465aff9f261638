use Rattle.std.proofs.lemmas.Result.{on_ok_weaker, on_err_weaker}
use Rattle.vs_host.specs.Trace.{Wrote, Synced}
use Rattle.vs_pair.specs.Swap.{ChangesMark}
use Rattle.vs_disk.proofs.Quiet.{none_call, none_then}
use Rattle.vs_pair.proofs.Calls.{write_acts, sync_acts, acts_file, on_err_from}
use Rattle.vs_pair.proofs.ReadLemmas.{works_one, works_then, works_within}
use Rattle.vs_pair.proofs.Marks.{mark_joins, write_mark, sync_mark, marked, mark_length, failed_write, failed_sync}
use Rattle.std.proofs.Common.{refl, arith}
use Rattle.vs_pair.proofs.writing.mark.Goals as goal

pub returns-in_err-write_at-clause-acts : goal.returns-in_err-write_at-clause-acts
returns-in_err-write_at-clause-acts g c =
    write_acts g.F.World.tells c.args.name.now ChangesMark 0 _ (write_mark _ c.requires.two) c.write_at.result _ _ c.write_at.ensures.some c.write_at.ensures.cause c.write_at.ensures.told c.write_at.ensures.frame

pub returns-in_err-write_at-clause-failed : goal.returns-in_err-write_at-clause-failed
returns-in_err-write_at-clause-failed g c = on_err_from c.from_residual.result _ (λ told. failed_write c.args.name.now _ _ _ (c.write_at.ensures.some told))

pub returns-clause-acts : goal.returns-clause-acts
returns-clause-acts g c =
    acts_file g.F.World.tells c.args.name.now ChangesMark ChangesMark ChangesMark (λ a b changes. changes) mark_joins _ _ _
    (none_call g.F.World.tells Wrote _ c.write_at.result _ _ c.write_at.ensures.frame c.write_at.ensures.told c.in_ok-write_at.ensures.quiet)
    (write_acts g.F.World.tells c.args.name.now ChangesMark 0 _ (write_mark _ c.requires.two) c.write_at.result _ _ c.write_at.ensures.some c.write_at.ensures.cause c.write_at.ensures.told c.write_at.ensures.frame)
    (sync_acts g.F.World.tells c.args.name.now ChangesMark sync_mark c.sync.result _ _ c.sync.ensures.ok c.sync.ensures.err c.sync.ensures.cause c.sync.ensures.told c.sync.ensures.frame)

pub returns-clause-marked : goal.returns-clause-marked
returns-clause-marked g c =
    on_ok_weaker c.sync.result (λ syncs told. marked c.args.name.now c.args.identifier.now c.requires.two _ _ _ (c.requires.there told) (c.in_ok-write_at.ensures.ok told) (syncs told)) c.sync.ensures.ok

pub returns-clause-grown : goal.returns-clause-grown
returns-clause-grown g c =
    on_ok_weaker c.sync.result (λ syncs told. mark_length c.args.name.now c.args.identifier.now c.requires.two _ _ _ (c.in_ok-write_at.ensures.ok told) (syncs told)) c.sync.ensures.ok

pub returns-clause-failed : goal.returns-clause-failed
returns-clause-failed g c =
    on_err_weaker c.sync.result (λ same told. failed_sync c.args.name.now _ _ _ _ (c.write_at.ensures.some told) same) c.sync.ensures.err

pub returns-clause-none : goal.returns-clause-none
returns-clause-none g c =
    on_ok_weaker c.sync.result
    (λ quiet. none_then g.F.World.tells _ _ _
    (none_call g.F.World.tells Wrote _ c.write_at.result _ _ c.write_at.ensures.frame c.write_at.ensures.told c.in_ok-write_at.ensures.quiet)
    (none_call g.F.World.tells Synced _ c.sync.result _ _ c.sync.ensures.frame c.sync.ensures.told quiet))
    c.sync.ensures.quiet

pub returns-in_err-write_at-clause-works : goal.returns-in_err-write_at-clause-works
returns-in_err-write_at-clause-works g c = works_within g.F.World.tells _ _ 1 2 0 0 (omega arith) (omega arith) (works_one g.F.World.tells Wrote _ 1 0 refl refl c.write_at.result _ _ c.write_at.ensures.told)

pub returns-clause-works : goal.returns-clause-works
returns-clause-works g c =
    works_then g.F.World.tells _ _ _ 1 1 2 0 0 0 (omega arith) (omega arith) (works_one g.F.World.tells Wrote _ 1 0 refl refl c.write_at.result _ _ c.write_at.ensures.told) (works_one g.F.World.tells Synced _ 1 0 refl refl c.sync.result _ _ c.sync.ensures.told)

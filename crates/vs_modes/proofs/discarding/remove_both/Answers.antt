use Rattle.std.proofs.Common.{arith}
use Rattle.vs_host.specs.Disk.{SyncsNames}
use Rattle.vs_host.specs.Trace.{SyncedNames}
use Rattle.vs_disk.proofs.Quiet.{calls_one, calls_then, calls_within, none_call, none_then}
use Rattle.vs_pair.proofs.Calls.{either_acts, names_private}
use Rattle.vs_modes.proofs.Removing.{first_acts, second_acts, last_acts, swo_gone, swp_inside, swo_inside}
use Rattle.vs_modes.proofs.discarding.remove_both.Goals as goal

pub returns-in_err-second-clause-acts : goal.returns-in_err-second-clause-acts
returns-in_err-second-clause-acts g c =
    first_acts c.args.names.now g.F.World.tells c.as_str.result.now (swo_inside c.args.names.now c.as_str.result.now c.as_str.ensures) c.as_str.ensures _ _ c.remove_file.ensures.acts

pub returns-in_err-first-clause-acts : goal.returns-in_err-first-clause-acts
returns-in_err-first-clause-acts g c =
    second_acts c.args.names.now g.F.World.tells c.as_str-2.result.now (swp_inside c.args.names.now c.as_str-2.result.now c.as_str-2.ensures) _ _ _ (swo_gone c.args.names.now g.F.World.tells c.as_str.result.now (g.F.World.scene c.remove_file.new.host) c.as_str.ensures c.in_ok-second.ensures.gone) c.in_ok-second.ensures.none
    (first_acts c.args.names.now g.F.World.tells c.as_str.result.now (swo_inside c.args.names.now c.as_str.result.now c.as_str.ensures) c.as_str.ensures _ _ c.remove_file.ensures.acts)
    c.remove_file-2.ensures.acts

pub returns-in_err-sync_names-clause-acts : goal.returns-in_err-sync_names-clause-acts
returns-in_err-sync_names-clause-acts g c =
    last_acts c.args.names.now g.F.World.tells _ _ _ (none_then g.F.World.tells _ _ _ c.in_ok-second.ensures.none c.in_ok-first.ensures.none)
    (second_acts c.args.names.now g.F.World.tells c.as_str-2.result.now (swp_inside c.args.names.now c.as_str-2.result.now c.as_str-2.ensures) _ _ _ (swo_gone c.args.names.now g.F.World.tells c.as_str.result.now (g.F.World.scene c.remove_file.new.host) c.as_str.ensures c.in_ok-second.ensures.gone) c.in_ok-second.ensures.none
    (first_acts c.args.names.now g.F.World.tells c.as_str.result.now (swo_inside c.args.names.now c.as_str.result.now c.as_str.ensures) c.as_str.ensures _ _ c.remove_file.ensures.acts)
    c.remove_file-2.ensures.acts)
    (either_acts g.F.World.tells SyncsNames SyncedNames _ c.sync_names.result _ _ c.sync_names.ensures.ok c.sync_names.ensures.err c.sync_names.ensures.cause c.sync_names.ensures.told c.sync_names.ensures.frame (λ told. names_private _ _))

pub returns-then-second-clause-acts : goal.returns-then-second-clause-acts
returns-then-second-clause-acts g c =
    last_acts c.args.names.now g.F.World.tells _ _ _ (none_then g.F.World.tells _ _ _ c.in_ok-second.ensures.none c.in_ok-first.ensures.none)
    (second_acts c.args.names.now g.F.World.tells c.as_str-2.result.now (swp_inside c.args.names.now c.as_str-2.result.now c.as_str-2.ensures) _ _ _ (swo_gone c.args.names.now g.F.World.tells c.as_str.result.now (g.F.World.scene c.remove_file.new.host) c.as_str.ensures c.in_ok-second.ensures.gone) c.in_ok-second.ensures.none
    (first_acts c.args.names.now g.F.World.tells c.as_str.result.now (swo_inside c.args.names.now c.as_str.result.now c.as_str.ensures) c.as_str.ensures _ _ c.remove_file.ensures.acts)
    c.remove_file-2.ensures.acts)
    (either_acts g.F.World.tells SyncsNames SyncedNames _ c.sync_names.result _ _ c.sync_names.ensures.ok c.sync_names.ensures.err c.sync_names.ensures.cause c.sync_names.ensures.told c.sync_names.ensures.frame (λ told. names_private _ _))

pub returns-then-second-clause-none : goal.returns-then-second-clause-none
returns-then-second-clause-none g c =
    none_then g.F.World.tells _ _ _ (none_then g.F.World.tells _ _ _ c.in_ok-second.ensures.none c.in_ok-first.ensures.none)
    (none_call g.F.World.tells SyncedNames _ c.sync_names.result _ _ c.sync_names.ensures.frame c.sync_names.ensures.told c.in_ok-sync_names.ensures.quiet)

pub returns-else-second-clause-acts : goal.returns-else-second-clause-acts
returns-else-second-clause-acts g c =
    last_acts c.args.names.now g.F.World.tells _ _ _ (none_then g.F.World.tells _ _ _ c.in_ok-second.ensures.none c.in_ok-first.ensures.none)
    (second_acts c.args.names.now g.F.World.tells c.as_str-2.result.now (swp_inside c.args.names.now c.as_str-2.result.now c.as_str-2.ensures) _ _ _ (swo_gone c.args.names.now g.F.World.tells c.as_str.result.now (g.F.World.scene c.remove_file.new.host) c.as_str.ensures c.in_ok-second.ensures.gone) c.in_ok-second.ensures.none
    (first_acts c.args.names.now g.F.World.tells c.as_str.result.now (swo_inside c.args.names.now c.as_str.result.now c.as_str.ensures) c.as_str.ensures _ _ c.remove_file.ensures.acts)
    c.remove_file-2.ensures.acts)
    (either_acts g.F.World.tells SyncsNames SyncedNames _ c.sync_names.result _ _ c.sync_names.ensures.ok c.sync_names.ensures.err c.sync_names.ensures.cause c.sync_names.ensures.told c.sync_names.ensures.frame (λ told. names_private _ _))

pub returns-else-second-clause-none : goal.returns-else-second-clause-none
returns-else-second-clause-none g c =
    none_then g.F.World.tells _ _ _ (none_then g.F.World.tells _ _ _ c.in_ok-second.ensures.none c.in_ok-first.ensures.none)
    (none_call g.F.World.tells SyncedNames _ c.sync_names.result _ _ c.sync_names.ensures.frame c.sync_names.ensures.told c.in_ok-sync_names.ensures.quiet)

pub returns-in_err-second-clause-calls : goal.returns-in_err-second-clause-calls
returns-in_err-second-clause-calls g c = calls_within g.F.World.tells _ _ 2 5 (omega arith) c.remove_file.ensures.calls

pub returns-in_err-first-clause-calls : goal.returns-in_err-first-clause-calls
returns-in_err-first-clause-calls g c = calls_then g.F.World.tells _ _ _ 2 2 5 (omega arith) c.remove_file.ensures.calls c.remove_file-2.ensures.calls

pub returns-in_err-sync_names-clause-calls : goal.returns-in_err-sync_names-clause-calls
returns-in_err-sync_names-clause-calls g c =
    calls_then g.F.World.tells _ _ _ 4 1 5 (omega arith) (calls_then g.F.World.tells _ _ _ 2 2 4 (omega arith) c.remove_file.ensures.calls c.remove_file-2.ensures.calls)
    (calls_one g.F.World.tells SyncedNames _ c.sync_names.result _ _ c.sync_names.ensures.told)

pub returns-then-second-clause-calls : goal.returns-then-second-clause-calls
returns-then-second-clause-calls g c =
    calls_then g.F.World.tells _ _ _ 4 1 5 (omega arith) (calls_then g.F.World.tells _ _ _ 2 2 4 (omega arith) c.remove_file.ensures.calls c.remove_file-2.ensures.calls)
    (calls_one g.F.World.tells SyncedNames _ c.sync_names.result _ _ c.sync_names.ensures.told)

pub returns-else-second-clause-calls : goal.returns-else-second-clause-calls
returns-else-second-clause-calls g c =
    calls_then g.F.World.tells _ _ _ 4 1 5 (omega arith) (calls_then g.F.World.tells _ _ _ 2 2 4 (omega arith) c.remove_file.ensures.calls c.remove_file-2.ensures.calls)
    (calls_one g.F.World.tells SyncedNames _ c.sync_names.result _ _ c.sync_names.ensures.told)

use Rattle.std.proofs.Common.{arith, inr, refl, subst}
use Rattle.vs_host.specs.Disk.{Disk, ChangesNames, Removes}
use Rattle.vs_host.specs.Trace.{Looked, Removed}
use Rattle.vs_disk.proofs.Quiet.{calls_one, calls_then, calls_within, none_call, none_then}
use Rattle.vs_pair.proofs.Acts.{acts_then}
use Rattle.vs_pair.proofs.Calls.{either_acts, look_acts, look_none, removes_private}
use Rattle.vs_modes.specs.Discard.{MayRemove}
use Rattle.vs_modes.specs.Moments.{IsSame}
use Rattle.vs_modes.proofs.discarding.remove_file.Goals as goal

pub returns-in_err-there-clause-acts : goal.returns-in_err-there-clause-acts
returns-in_err-there-clause-acts g c =
    look_acts g.F.World.tells (MayRemove c.args.name.now) Looked _ c.has.result _ _ c.has.ensures.frame c.has.ensures.cause c.has.ensures.told (λ told. inr refl)

pub returns-else-there-clause-acts : goal.returns-else-there-clause-acts
returns-else-there-clause-acts g c =
    look_acts g.F.World.tells (MayRemove c.args.name.now) Looked _ c.has.result _ _ c.has.ensures.frame c.has.ensures.cause c.has.ensures.told (λ told. inr refl)

pub returns-else-there-clause-none : goal.returns-else-there-clause-none
returns-else-there-clause-none g c = look_none g.F.World.tells Looked _ c.has.result _ _ c.has.ensures.frame c.has.ensures.told c.in_ok-there.ensures.quiet

pub returns-in_err-remove-clause-acts : goal.returns-in_err-remove-clause-acts
returns-in_err-remove-clause-acts g c =
    acts_then g.F.World.tells IsSame (MayRemove c.args.name.now) (MayRemove c.args.name.now) _ _ _ (λ told d same. inr same) (λ told here d may. subst (λ (e : Disk). MayRemove c.args.name.now e d) here may)
    (look_none g.F.World.tells Looked _ c.has.result _ _ c.has.ensures.frame c.has.ensures.told c.in_ok-there.ensures.quiet)
    (look_acts g.F.World.tells IsSame Looked _ c.has.result _ _ c.has.ensures.frame c.has.ensures.cause c.has.ensures.told (λ told. refl))
    (either_acts g.F.World.tells (ChangesNames (Removes c.args.name.now)) Removed _ c.remove.result _ _ c.remove.ensures.ok c.remove.ensures.err c.remove.ensures.cause c.remove.ensures.told c.remove.ensures.frame (λ told. removes_private _ _ _))

pub returns-in_ok-remove-clause-acts : goal.returns-in_ok-remove-clause-acts
returns-in_ok-remove-clause-acts g c =
    acts_then g.F.World.tells IsSame (MayRemove c.args.name.now) (MayRemove c.args.name.now) _ _ _ (λ told d same. inr same) (λ told here d may. subst (λ (e : Disk). MayRemove c.args.name.now e d) here may)
    (look_none g.F.World.tells Looked _ c.has.result _ _ c.has.ensures.frame c.has.ensures.told c.in_ok-there.ensures.quiet)
    (look_acts g.F.World.tells IsSame Looked _ c.has.result _ _ c.has.ensures.frame c.has.ensures.cause c.has.ensures.told (λ told. refl))
    (either_acts g.F.World.tells (ChangesNames (Removes c.args.name.now)) Removed _ c.remove.result _ _ c.remove.ensures.ok c.remove.ensures.err c.remove.ensures.cause c.remove.ensures.told c.remove.ensures.frame (λ told. removes_private _ _ _))

pub returns-in_ok-remove-clause-none : goal.returns-in_ok-remove-clause-none
returns-in_ok-remove-clause-none g c =
    none_then g.F.World.tells _ _ _ (look_none g.F.World.tells Looked _ c.has.result _ _ c.has.ensures.frame c.has.ensures.told c.in_ok-there.ensures.quiet)
    (none_call g.F.World.tells Removed _ c.remove.result _ _ c.remove.ensures.frame c.remove.ensures.told c.in_ok-remove.ensures.quiet)

pub returns-in_err-there-clause-calls : goal.returns-in_err-there-clause-calls
returns-in_err-there-clause-calls g c = calls_within g.F.World.tells _ _ 1 2 (omega arith) (calls_one g.F.World.tells Looked _ c.has.result _ _ c.has.ensures.told)

pub returns-else-there-clause-calls : goal.returns-else-there-clause-calls
returns-else-there-clause-calls g c = calls_within g.F.World.tells _ _ 1 2 (omega arith) (calls_one g.F.World.tells Looked _ c.has.result _ _ c.has.ensures.told)

pub returns-in_err-remove-clause-calls : goal.returns-in_err-remove-clause-calls
returns-in_err-remove-clause-calls g c =
    calls_then g.F.World.tells _ _ _ 1 1 2 (omega arith) (calls_one g.F.World.tells Looked _ c.has.result _ _ c.has.ensures.told) (calls_one g.F.World.tells Removed _ c.remove.result _ _ c.remove.ensures.told)

pub returns-in_ok-remove-clause-calls : goal.returns-in_ok-remove-clause-calls
returns-in_ok-remove-clause-calls g c =
    calls_then g.F.World.tells _ _ _ 1 1 2 (omega arith) (calls_one g.F.World.tells Looked _ c.has.result _ _ c.has.ensures.told) (calls_one g.F.World.tells Removed _ c.remove.result _ _ c.remove.ensures.told)

use Rattle.std.proofs.lemmas.Result.{on_ok_weaker}
use Rattle.vs_host.specs.Disk.{ChangesNames, Renames, owner_mode}
use Rattle.vs_host.specs.File.{Leaves, WritesSome}
use Rattle.vs_host.specs.Trace.{Created, Wrote, Renamed}
use Rattle.vs_disk.proofs.Contents.{not_there}
use Rattle.vs_pages.specs.Memory.{committed_of}
use Rattle.vs_pair.specs.Held.{held_from}
use Rattle.vs_pair.specs.Swap.{IsMade, KeepsMark}
use Rattle.vs_pair.proofs.AwayLemmas.{apart_names, body_here, here_backed}
use Rattle.vs_disk.proofs.Modes.{mode_made, mode_stays, modes_renamed}
use Rattle.vs_disk.proofs.Quiet.{none_call, none_then}
use Rattle.vs_pair.proofs.Calls.{create_acts, write_acts, either_acts, is_there}
use Rattle.vs_pair.proofs.MadeFiles.{clearing, creating, writing, renaming, making_begins, making_creates, making_writes, created, created_there, marked_new, new_fresh, whole_new, made_holds, renamed_has, renamed_gone}
use Rattle.vs_pair.proofs.making.make_file.Goals as goal

pub returns-in_err-clear-clause-acts : goal.returns-in_err-clear-clause-acts
returns-in_err-clear-clause-acts g c = clearing g.F.World.tells c.args.temporary.now c.args.name.now c.requires.differ (record { first = c.args.first.now; pages = committed_of c.args.pages.now }) _ c.requires.absent _ c.clear.ensures.acts

pub create_private-requires : goal.create_private-requires
create_private-requires g c told = not_there (g.F.World.scene c.clear.new.host).folder c.args.temporary.now (c.in_ok-clear.ensures.free told)

pub returns-in_err-create_private-clause-acts : goal.returns-in_err-create_private-clause-acts
returns-in_err-create_private-clause-acts g c =
    creating g.F.World.tells c.args.temporary.now c.args.name.now c.requires.differ (record { first = c.args.first.now; pages = committed_of c.args.pages.now }) _ c.requires.absent _ _ c.in_ok-clear.ensures.none c.clear.ensures.acts c.in_ok-clear.ensures.free
    (create_acts g.F.World.tells c.args.temporary.now c.create_private.result _ _ c.create_private.ensures.ok c.create_private.ensures.mode c.create_private.ensures.err c.create_private.ensures.cause c.create_private.ensures.told c.create_private.ensures.frame)

pub write_at-requires : goal.write_at-requires
write_at-requires g c told = created_there c.args.temporary.now (g.F.World.scene c.clear.new.host).folder (g.F.World.scene c.create_private.new.self).folder (c.in_ok-create_private.ensures.ok told)

pub returns-in_err-write_at-clause-acts : goal.returns-in_err-write_at-clause-acts
returns-in_err-write_at-clause-acts g c =
    writing g.F.World.tells c.args.temporary.now c.args.name.now c.requires.differ (record { first = c.args.first.now; pages = committed_of c.args.pages.now }) _ c.requires.absent (WritesSome 0 2) _ _ (none_then g.F.World.tells _ _ _ c.in_ok-clear.ensures.none (none_call g.F.World.tells Created _ c.create_private.result _ _ c.create_private.ensures.frame c.create_private.ensures.told c.in_ok-create_private.ensures.quiet))
    (creating g.F.World.tells c.args.temporary.now c.args.name.now c.requires.differ (record { first = c.args.first.now; pages = committed_of c.args.pages.now }) _ c.requires.absent _ _ c.in_ok-clear.ensures.none c.clear.ensures.acts c.in_ok-clear.ensures.free
    (create_acts g.F.World.tells c.args.temporary.now c.create_private.result _ _ c.create_private.ensures.ok c.create_private.ensures.mode c.create_private.ensures.err c.create_private.ensures.cause c.create_private.ensures.told c.create_private.ensures.frame))
    (λ told. (making_creates c.args.temporary.now _ (g.F.World.scene c.clear.new.host).folder (g.F.World.scene c.create_private.new.self).folder (making_begins c.args.temporary.now _ _ (c.clear.ensures.acts.runs told).now (c.in_ok-clear.ensures.free told)) (c.in_ok-create_private.ensures.ok told)))
    (write_acts g.F.World.tells c.args.temporary.now (WritesSome 0 2) 0 2 (λ a b some. some) c.write_at.result _ _ c.write_at.ensures.some c.write_at.ensures.cause c.write_at.ensures.told c.write_at.ensures.frame)

pub write_pages-requires-clause-there : goal.write_pages-requires-clause-there
write_pages-requires-clause-there g c told =
    new_fresh c.args.temporary.now (held_from c.args.pages.now (g.F.World.scene c.write_at.new.self).folder c.args.name.now) _ (marked_new c.args.temporary.now (g.F.World.scene c.create_private.new.self).folder (g.F.World.scene c.write_at.new.self).folder (c.in_ok-write_at.ensures.ok told) (created c.args.temporary.now (g.F.World.scene c.clear.new.host).folder (g.F.World.scene c.create_private.new.self).folder (c.in_ok-create_private.ensures.ok told)))

pub write_pages-requires-clause-apart : goal.write_pages-requires-clause-apart
write_pages-requires-clause-apart g c told = apart_names (g.F.World.scene c.write_at.new.self).folder c.args.temporary.now c.args.name.now (g.F.World.is_folder c.write_at.new.self told) c.requires.differ

pub write_pages-requires-clause-backed : goal.write_pages-requires-clause-backed
write_pages-requires-clause-backed g c told = here_backed _ c.args.pages.now (c.requires.here told)

pub returns-in_err-write_pages-clause-acts : goal.returns-in_err-write_pages-clause-acts
returns-in_err-write_pages-clause-acts g c =
    writing g.F.World.tells c.args.temporary.now c.args.name.now c.requires.differ (record { first = c.args.first.now; pages = committed_of c.args.pages.now }) _ c.requires.absent KeepsMark _ _ (none_then g.F.World.tells _ _ _ (none_then g.F.World.tells _ _ _ c.in_ok-clear.ensures.none (none_call g.F.World.tells Created _ c.create_private.result _ _ c.create_private.ensures.frame c.create_private.ensures.told c.in_ok-create_private.ensures.quiet))
    (none_call g.F.World.tells Wrote _ c.write_at.result _ _ c.write_at.ensures.frame c.write_at.ensures.told c.in_ok-write_at.ensures.quiet))
    (writing g.F.World.tells c.args.temporary.now c.args.name.now c.requires.differ (record { first = c.args.first.now; pages = committed_of c.args.pages.now }) _ c.requires.absent (WritesSome 0 2) _ _ (none_then g.F.World.tells _ _ _ c.in_ok-clear.ensures.none (none_call g.F.World.tells Created _ c.create_private.result _ _ c.create_private.ensures.frame c.create_private.ensures.told c.in_ok-create_private.ensures.quiet))
    (creating g.F.World.tells c.args.temporary.now c.args.name.now c.requires.differ (record { first = c.args.first.now; pages = committed_of c.args.pages.now }) _ c.requires.absent _ _ c.in_ok-clear.ensures.none c.clear.ensures.acts c.in_ok-clear.ensures.free
    (create_acts g.F.World.tells c.args.temporary.now c.create_private.result _ _ c.create_private.ensures.ok c.create_private.ensures.mode c.create_private.ensures.err c.create_private.ensures.cause c.create_private.ensures.told c.create_private.ensures.frame))
    (λ told. (making_creates c.args.temporary.now _ (g.F.World.scene c.clear.new.host).folder (g.F.World.scene c.create_private.new.self).folder (making_begins c.args.temporary.now _ _ (c.clear.ensures.acts.runs told).now (c.in_ok-clear.ensures.free told)) (c.in_ok-create_private.ensures.ok told)))
    (write_acts g.F.World.tells c.args.temporary.now (WritesSome 0 2) 0 2 (λ a b some. some) c.write_at.result _ _ c.write_at.ensures.some c.write_at.ensures.cause c.write_at.ensures.told c.write_at.ensures.frame))
    (λ told. (making_writes c.args.temporary.now (WritesSome 0 2) _ (g.F.World.scene c.create_private.new.self).folder (g.F.World.scene c.write_at.new.self).folder (making_creates c.args.temporary.now _ (g.F.World.scene c.clear.new.host).folder (g.F.World.scene c.create_private.new.self).folder (making_begins c.args.temporary.now _ _ (c.clear.ensures.acts.runs told).now (c.in_ok-clear.ensures.free told)) (c.in_ok-create_private.ensures.ok told)) (c.write_at.ensures.some told)))
    c.write_pages.ensures.acts

pub rename-requires-clause-there : goal.rename-requires-clause-there
rename-requires-clause-there g c told =
    is_there (g.F.World.scene c.write_pages.new.host).folder c.args.temporary.now _ (whole_new c.args.temporary.now (record { first = c.args.first.now; pages = committed_of c.args.pages.now }) (g.F.World.scene c.write_at.new.self).folder (g.F.World.scene c.write_pages.new.host).folder (body_here c.args.temporary.now c.args.name.now c.args.first.now c.args.pages.now (g.F.World.scene c.write_at.new.self).folder (g.F.World.scene c.write_pages.new.host).folder (c.requires.here told) (c.in_ok-write_pages.ensures.written told))
    (marked_new c.args.temporary.now (g.F.World.scene c.create_private.new.self).folder (g.F.World.scene c.write_at.new.self).folder (c.in_ok-write_at.ensures.ok told) (created c.args.temporary.now (g.F.World.scene c.clear.new.host).folder (g.F.World.scene c.create_private.new.self).folder (c.in_ok-create_private.ensures.ok told))))

pub returns-clause-acts : goal.returns-clause-acts
returns-clause-acts g c =
    renaming g.F.World.tells c.args.temporary.now c.args.name.now c.requires.differ (record { first = c.args.first.now; pages = committed_of c.args.pages.now }) _ c.requires.absent _ _ (none_then g.F.World.tells _ _ _ (none_then g.F.World.tells _ _ _ (none_then g.F.World.tells _ _ _ c.in_ok-clear.ensures.none (none_call g.F.World.tells Created _ c.create_private.result _ _ c.create_private.ensures.frame c.create_private.ensures.told c.in_ok-create_private.ensures.quiet))
    (none_call g.F.World.tells Wrote _ c.write_at.result _ _ c.write_at.ensures.frame c.write_at.ensures.told c.in_ok-write_at.ensures.quiet))
    c.in_ok-write_pages.ensures.none)
    (writing g.F.World.tells c.args.temporary.now c.args.name.now c.requires.differ (record { first = c.args.first.now; pages = committed_of c.args.pages.now }) _ c.requires.absent KeepsMark _ _ (none_then g.F.World.tells _ _ _ (none_then g.F.World.tells _ _ _ c.in_ok-clear.ensures.none (none_call g.F.World.tells Created _ c.create_private.result _ _ c.create_private.ensures.frame c.create_private.ensures.told c.in_ok-create_private.ensures.quiet))
    (none_call g.F.World.tells Wrote _ c.write_at.result _ _ c.write_at.ensures.frame c.write_at.ensures.told c.in_ok-write_at.ensures.quiet))
    (writing g.F.World.tells c.args.temporary.now c.args.name.now c.requires.differ (record { first = c.args.first.now; pages = committed_of c.args.pages.now }) _ c.requires.absent (WritesSome 0 2) _ _ (none_then g.F.World.tells _ _ _ c.in_ok-clear.ensures.none (none_call g.F.World.tells Created _ c.create_private.result _ _ c.create_private.ensures.frame c.create_private.ensures.told c.in_ok-create_private.ensures.quiet))
    (creating g.F.World.tells c.args.temporary.now c.args.name.now c.requires.differ (record { first = c.args.first.now; pages = committed_of c.args.pages.now }) _ c.requires.absent _ _ c.in_ok-clear.ensures.none c.clear.ensures.acts c.in_ok-clear.ensures.free
    (create_acts g.F.World.tells c.args.temporary.now c.create_private.result _ _ c.create_private.ensures.ok c.create_private.ensures.mode c.create_private.ensures.err c.create_private.ensures.cause c.create_private.ensures.told c.create_private.ensures.frame))
    (λ told. (making_creates c.args.temporary.now _ (g.F.World.scene c.clear.new.host).folder (g.F.World.scene c.create_private.new.self).folder (making_begins c.args.temporary.now _ _ (c.clear.ensures.acts.runs told).now (c.in_ok-clear.ensures.free told)) (c.in_ok-create_private.ensures.ok told)))
    (write_acts g.F.World.tells c.args.temporary.now (WritesSome 0 2) 0 2 (λ a b some. some) c.write_at.result _ _ c.write_at.ensures.some c.write_at.ensures.cause c.write_at.ensures.told c.write_at.ensures.frame))
    (λ told. (making_writes c.args.temporary.now (WritesSome 0 2) _ (g.F.World.scene c.create_private.new.self).folder (g.F.World.scene c.write_at.new.self).folder (making_creates c.args.temporary.now _ (g.F.World.scene c.clear.new.host).folder (g.F.World.scene c.create_private.new.self).folder (making_begins c.args.temporary.now _ _ (c.clear.ensures.acts.runs told).now (c.in_ok-clear.ensures.free told)) (c.in_ok-create_private.ensures.ok told)) (c.write_at.ensures.some told)))
    c.write_pages.ensures.acts)
    (λ told. (making_writes c.args.temporary.now KeepsMark _ (g.F.World.scene c.write_at.new.self).folder (g.F.World.scene c.write_pages.new.host).folder (making_writes c.args.temporary.now (WritesSome 0 2) _ (g.F.World.scene c.create_private.new.self).folder (g.F.World.scene c.write_at.new.self).folder (making_creates c.args.temporary.now _ (g.F.World.scene c.clear.new.host).folder (g.F.World.scene c.create_private.new.self).folder (making_begins c.args.temporary.now _ _ (c.clear.ensures.acts.runs told).now (c.in_ok-clear.ensures.free told)) (c.in_ok-create_private.ensures.ok told)) (c.write_at.ensures.some told)) (c.write_pages.ensures.acts.runs told).now))
    (λ told. made_holds c.args.temporary.now (record { first = c.args.first.now; pages = committed_of c.args.pages.now }) _ (whole_new c.args.temporary.now (record { first = c.args.first.now; pages = committed_of c.args.pages.now }) (g.F.World.scene c.write_at.new.self).folder (g.F.World.scene c.write_pages.new.host).folder (body_here c.args.temporary.now c.args.name.now c.args.first.now c.args.pages.now (g.F.World.scene c.write_at.new.self).folder (g.F.World.scene c.write_pages.new.host).folder (c.requires.here told) (c.in_ok-write_pages.ensures.written told))
    (marked_new c.args.temporary.now (g.F.World.scene c.create_private.new.self).folder (g.F.World.scene c.write_at.new.self).folder (c.in_ok-write_at.ensures.ok told) (created c.args.temporary.now (g.F.World.scene c.clear.new.host).folder (g.F.World.scene c.create_private.new.self).folder (c.in_ok-create_private.ensures.ok told)))))
    (either_acts g.F.World.tells (ChangesNames (Renames c.args.temporary.now c.args.name.now)) Renamed _ c.rename.result _ _ c.rename.ensures.ok c.rename.ensures.err c.rename.ensures.cause c.rename.ensures.told c.rename.ensures.frame
    (λ told renames allowed may. modes_renamed allowed c.args.temporary.now c.args.name.now _ _
    (mode_stays allowed c.args.temporary.now c.args.temporary.now KeepsMark (g.F.World.scene c.write_at.new.self).folder (g.F.World.scene c.write_pages.new.host).folder (c.write_pages.ensures.acts.runs told).now
    (mode_stays allowed c.args.temporary.now c.args.temporary.now (WritesSome 0 2) (g.F.World.scene c.create_private.new.self).folder (g.F.World.scene c.write_at.new.self).folder (c.write_at.ensures.some told)
    (mode_made allowed c.args.temporary.now owner_mode (g.F.World.scene c.create_private.new.self).folder may (c.in_ok-create_private.ensures.mode told))))
    renames))

pub returns-clause-made : goal.returns-clause-made
returns-clause-made g c =
    on_ok_weaker c.rename.result
    (λ renames told. renamed_has c.args.temporary.now c.args.name.now (λ file. Leaves file (IsMade (record { first = c.args.first.now; pages = committed_of c.args.pages.now }))) (g.F.World.scene c.write_pages.new.host).folder (g.F.World.scene c.rename.new.self).folder
    (whole_new c.args.temporary.now (record { first = c.args.first.now; pages = committed_of c.args.pages.now }) (g.F.World.scene c.write_at.new.self).folder (g.F.World.scene c.write_pages.new.host).folder (body_here c.args.temporary.now c.args.name.now c.args.first.now c.args.pages.now (g.F.World.scene c.write_at.new.self).folder (g.F.World.scene c.write_pages.new.host).folder (c.requires.here told) (c.in_ok-write_pages.ensures.written told))
    (marked_new c.args.temporary.now (g.F.World.scene c.create_private.new.self).folder (g.F.World.scene c.write_at.new.self).folder (c.in_ok-write_at.ensures.ok told) (created c.args.temporary.now (g.F.World.scene c.clear.new.host).folder (g.F.World.scene c.create_private.new.self).folder (c.in_ok-create_private.ensures.ok told))))
    (renames told))
    c.rename.ensures.ok

pub returns-clause-moved : goal.returns-clause-moved
returns-clause-moved g c =
    on_ok_weaker c.rename.result
    (λ renames told. renamed_gone c.args.temporary.now c.args.name.now (g.F.World.scene c.write_pages.new.host).folder (g.F.World.scene c.rename.new.self).folder c.requires.differ (renames told))
    c.rename.ensures.ok

pub returns-clause-none : goal.returns-clause-none
returns-clause-none g c =
    on_ok_weaker c.rename.result
    (λ quiet. none_then g.F.World.tells _ _ _ (none_then g.F.World.tells _ _ _ (none_then g.F.World.tells _ _ _ (none_then g.F.World.tells _ _ _ c.in_ok-clear.ensures.none (none_call g.F.World.tells Created _ c.create_private.result _ _ c.create_private.ensures.frame c.create_private.ensures.told c.in_ok-create_private.ensures.quiet))
    (none_call g.F.World.tells Wrote _ c.write_at.result _ _ c.write_at.ensures.frame c.write_at.ensures.told c.in_ok-write_at.ensures.quiet))
    c.in_ok-write_pages.ensures.none)
    (none_call g.F.World.tells Renamed _ c.rename.result _ _ c.rename.ensures.frame c.rename.ensures.told quiet))
    c.rename.ensures.quiet

use Rattle.std.proofs.Common.{◌∙◌, refl}
use Rattle.vs_text.specs.Documents.{file_in}
use Rattle.vs_host.specs.Disk.{mode_in}
use Rattle.vs_host.specs.World.{Scene}
use Rattle.vs_disk.proofs.Contents.{some_content}
use Rattle.vs_backup.specs.Writing.{backed_names}
use Rattle.vs_backup.specs.declared.errors.Place.TheVariants as place
use Rattle.vs_backup.specs.declared.errors.WriteErr.TheVariants as error
use Rattle.vs_backup.proofs.Backed.{backed_not_begun, backed_after, file_named, narrowed_content}
use Rattle.vs_backup.proofs.Copying.{only_file}
use Rattle.vs_backup.proofs.Following.{narrowed_now}
use Rattle.vs_backup.proofs.Others.{others_settled}
use Rattle.vs_backup.proofs.Modes.{makes_narrowed, makes_settled}
use Rattle.vs_backup.proofs.Doing as doing
use Rattle.vs_backup.proofs.backup.write_with_backup.Goals as goal

pub returns-in-Ok-clause-backed : goal.returns-in-Ok-clause-backed
returns-in-Ok-clause-backed g c told old content text has =
    let on = backed_names c.args.backing.copies c.args.backing.name.now c.args.backing.temporary.now c.args.backing.backup.now in
    let s0 : Scene = g.D.World.scene c.args.desk.now in
    let s1 : Scene = g.D.World.scene c.settle.new.desk in
    let s2 : Scene = g.D.World.scene c.write_backed.new.desk in
    let kept = g.met.D.Desk.stays_text c.args.desk.now c.settle.new.desk text c.settle.ensures.kept.stays has in
    backed_after c.args.backing.copies c.args.backing.kept c.args.backing.name.now c.args.backing.temporary.now c.args.backing.backup.now old (file_in c.args.backing.format text) s0 s1 content (c.settle.ensures.settles.narrowed told)
    (others_settled on c.args.backing.name.now s0 s1 (file_named c.args.backing.copies c.args.backing.name.now c.args.backing.temporary.now c.args.backing.backup.now) (c.settle.ensures.settles.same told)) c.write_backed.result s2 c.settle.ensures.kept.frame c.settle.ensures.kept.cause.later
    (c.write_backed.ensures.backed told old (c.in-Ok.ensures.ok.settled told old content) text kept)

pub returns-in-Err-clause-backed : goal.returns-in-Err-clause-backed
returns-in-Err-clause-backed g c told old content text has =
    let on = backed_names c.args.backing.copies c.args.backing.name.now c.args.backing.temporary.now c.args.backing.backup.now in
    let s0 : Scene = g.D.World.scene c.args.desk.now in
    let s1 : Scene = g.D.World.scene c.settle.new.desk in
    backed_not_begun c.args.backing.copies c.args.backing.kept c.args.backing.name.now c.args.backing.temporary.now c.args.backing.backup.now old (file_in c.args.backing.format text) s0 s1 content (c.settle.ensures.settles.narrowed told)
    (others_settled on c.args.backing.name.now s0 s1 (file_named c.args.backing.copies c.args.backing.name.now c.args.backing.temporary.now c.args.backing.backup.now) (c.settle.ensures.settles.same told)) (error.Failed place.File)
    (λ refused. only_file place.Nowhere (λ e. cc) refused) (λ refused. only_file place.Backup (λ e. cc) refused) (λ e. cc)

pub write_backed-requires-clause-settled : goal.write_backed-requires-clause-settled
write_backed-requires-clause-settled g c told =
    let has = some_content (g.D.World.scene c.args.desk.now).folder c.args.backing.name.now (c.requires.there told) in
    (has.0, c.in-Ok.ensures.ok.settled told has.0 has.1)

pub write_backed-requires-clause-free : goal.write_backed-requires-clause-free
write_backed-requires-clause-free g c off told =
    let s0 : Scene = g.D.World.scene c.args.desk.now in
    let s1 : Scene = g.D.World.scene c.settle.new.desk in
    narrowed_content c.args.backing.backup.now s0.folder s1.folder (narrowed_now s0 s1 (c.settle.ensures.settles.narrowed told)) ∙ c.requires.free off told

pub returns-in-Ok-clause-calls : goal.returns-in-Ok-clause-calls
returns-in-Ok-clause-calls g c = λ told text has. doing.fails_then c.args.backing.name.now (file_in c.args.backing.format text) c.write_backed.result (g.D.World.scene c.args.desk.now) (g.D.World.scene c.settle.new.desk) (g.D.World.scene c.write_backed.new.desk) (c.in-Ok.ensures.kept.stops.none told (λ is. absurd (cc))) (c.write_backed.ensures.calls told text (g.met.D.Desk.stays_text c.args.desk.now c.settle.new.desk text c.settle.ensures.kept.stays has))

pub write_backed-requires-clause-order : goal.write_backed-requires-clause-order
write_backed-requires-clause-order g c = c.in-Ok.ensures.order.order

pub returns-in-Err-clause-calls : goal.returns-in-Err-clause-calls
returns-in-Err-clause-calls g c told text has =
    let s0 : Scene = g.D.World.scene c.args.desk.now in
    let s1 : Scene = g.D.World.scene c.settle.new.desk in
    record { done = tt; refused = doing.refused_at g.D.World.tells place.File (λ e. cc) s0 s1 told refl c.in-Err.ensures.kept.stops c.in-Err.ensures.kept.cause }

pub returns-in-Ok-clause-modes : goal.returns-in-Ok-clause-modes
returns-in-Ok-clause-modes g c =
    makes_settled g.D.World.tells.folder c.args.backing.name.now (g.D.World.scene c.args.desk.now) (g.D.World.scene c.settle.new.desk) (g.D.World.scene c.write_backed.new.desk)
    c.settle.ensures.kept.frame c.settle.ensures.settles.narrowed c.write_backed.ensures.modes

pub returns-in-Err-clause-modes : goal.returns-in-Err-clause-modes
returns-in-Err-clause-modes g c =
    let s0 : Scene = g.D.World.scene c.args.desk.now in
    makes_narrowed g.D.World.tells.folder (mode_in s0.folder c.args.backing.name.now) s0 (g.D.World.scene c.settle.new.desk) c.settle.ensures.settles.narrowed

use Rattle.std.proofs.Common.{◌≡◌, ◌∙◌, ℕ, IsTrue, Result, Err, sym, ap, subst}
use Rattle.std.proofs.lemmas.Result.{err_from_is_err_and}
use Rattle.vs_text.specs.Documents.{file_in}
use Rattle.vs_host.specs.Disk.{mode_in}
use Rattle.vs_host.specs.World.{Scene}
use Rattle.vs_backup.specs.Works.{IsGone}
use Rattle.vs_backup.specs.Writing.{FailsNoEarlier, WritesBacked}
use Rattle.vs_disk.proofs.Runs.{fails_none}
use Rattle.vs_backup.specs.declared.errors.WriteErr.{WriteErr}
use Rattle.vs_backup.proofs.Backed.{backed_refused, backed_kept, backed_removed, gone_unless_risen, holds_there}
use Rattle.vs_backup.proofs.Modes.{makes_any, makes_then}
use Rattle.vs_backup.proofs.Doing as doing
use Rattle.vs_backup.proofs.backup.write_backed.Goals as goal

pub returns-in_err-size-clause-backed : goal.returns-in_err-size-clause-backed
returns-in_err-size-clause-backed g c told old is text has =
    let s0 : Scene = g.D.World.scene c.args.desk.now in
    let s1 : Scene = g.D.World.scene c.write_over.new.desk in
    let why = c.in_err-size.field-0.0 in
    let p = err_from_is_err_and c.from_residual.result c.from_residual.ensures.1 in
    let same : c.from_residual.result ≡ Err why = p.1 ∙ ap (λ (e : WriteErr). Err e) p.2 in
    subst (λ (r : Result ℕ WriteErr). WritesBacked c.args.backing.copies c.args.backing.kept c.args.backing.name.now c.args.backing.temporary.now c.args.backing.backup.now old (file_in c.args.backing.format text) s0 s1 r) (sym same)
    (backed_refused c.args.backing.copies c.args.backing.kept c.args.backing.name.now c.args.backing.temporary.now c.args.backing.backup.now old (file_in c.args.backing.format text) s0 s1 (g.D.World.newest c.args.desk.now told) (c.requires.order told) is why (c.in_err-size.ensures.over told old is text has))

pub returns-then-backing-clause-backed : goal.returns-then-backing-clause-backed
returns-then-backing-clause-backed g c told old is text has =
    let s0 : Scene = g.D.World.scene c.args.desk.now in
    let s1 : Scene = g.D.World.scene c.write_over.new.desk in
    backed_kept c.args.backing.copies c.args.backing.kept c.args.backing.name.now c.args.backing.temporary.now c.args.backing.backup.now old (file_in c.args.backing.format text) s0 s1 (g.D.World.newest c.args.desk.now told) (c.requires.order told) is c.in_ok-size.size c.if-backing.true (c.in_ok-size.ensures.over told old is text has)

pub returns-clause-backed : goal.returns-clause-backed
returns-clause-backed g c told old is text has =
    let s0 : Scene = g.D.World.scene c.args.desk.now in
    let s1 : Scene = g.D.World.scene c.write_over.new.desk in
    let s2 : Scene = g.D.World.scene c.drop_name.new.desk in
    let gone = gone_unless_risen c.drop_name.result s0.folder_faults s1.folder_faults s2.folder_faults (IsGone c.args.backing.backup.now s2.folder)
    (IsTrue g.D.World.tells.folder) told c.write_over.ensures.kept.cause.later c.drop_name.ensures.kept.cause c.drop_name.ensures.gone in
    backed_removed c.args.backing.copies c.args.backing.kept c.args.backing.name.now c.args.backing.temporary.now c.args.backing.backup.now old (file_in c.args.backing.format text) s0 s1 (g.D.World.newest c.args.desk.now told) (c.requires.order told) is c.in_ok-size.size s2 c.if-backing.false
    c.write_over.ensures.kept.frame c.requires.names.differ_name c.requires.names.differ_backup (c.requires.free c.if-backing.false told) (c.in_ok-size.ensures.over told old is text has)
    (c.drop_name.ensures.spares told) (c.drop_name.ensures.drops told) gone

pub drop_name-requires-clause-there : goal.drop_name-requires-clause-there
drop_name-requires-clause-there g c told =
    let had = c.requires.settled told in
    let text = g.met.D.Desk.tells_one c.args.desk.now c.requires.valid told in
    holds_there c.args.backing.backup.now had.0 (g.D.World.scene c.write_over.new.desk).folder (c.in_ok-size.ensures.over told had.0 had.1 text.0 text.1).written.2

pub returns-in_err-size-clause-calls : goal.returns-in_err-size-clause-calls
returns-in_err-size-clause-calls g c told text has =
    let s0 : Scene = g.D.World.scene c.args.desk.now in
    let s1 : Scene = g.D.World.scene c.write_over.new.desk in
    let p = err_from_is_err_and c.from_residual.result c.from_residual.ensures.1 in
    let same : c.from_residual.result ≡ Err c.in_err-size.field-0.0 = p.1 ∙ ap (λ (e : WriteErr). Err e) p.2 in
    subst (λ (r : Result ℕ WriteErr). FailsNoEarlier c.args.backing.name.now (file_in c.args.backing.format text) s0 s1 r) (sym same) (record { done = tt; refused = c.in_err-size.ensures.refused told })

pub returns-then-backing-clause-calls : goal.returns-then-backing-clause-calls
returns-then-backing-clause-calls g c told text has =
    let s0 : Scene = g.D.World.scene c.args.desk.now in
    let s1 : Scene = g.D.World.scene c.write_over.new.desk in
    let had = c.requires.settled told in
    doing.written_then c.args.backing.name.now (file_in c.args.backing.format text) s0 s1 s1 c.in_ok-size.size (g.D.World.newest c.write_over.new.desk told) (c.in_ok-size.ensures.quiet told) (c.in_ok-size.ensures.over told had.0 had.1 text has).written.1 (fails_none s1)

pub returns-clause-calls : goal.returns-clause-calls
returns-clause-calls g c told text has =
    let s0 : Scene = g.D.World.scene c.args.desk.now in
    let s1 : Scene = g.D.World.scene c.write_over.new.desk in
    let had = c.requires.settled told in
    doing.written_then c.args.backing.name.now (file_in c.args.backing.format text) s0 s1 (g.D.World.scene c.drop_name.new.desk) c.in_ok-size.size (g.D.World.newest c.write_over.new.desk told) (c.in_ok-size.ensures.quiet told) (c.in_ok-size.ensures.over told had.0 had.1 text has).written.1 (c.drop_name.ensures.kept.stops.last told)

pub returns-clause-modes : goal.returns-clause-modes
returns-clause-modes g c =
    makes_then c.write_over.ensures.kept.frame c.write_over.ensures.modes (makes_any (mode_in (g.D.World.scene c.args.desk.now).folder c.args.backing.name.now) c.drop_name.ensures.modes)

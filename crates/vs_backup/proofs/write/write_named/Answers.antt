use Rattle.std.proofs.Common.{◌≡◌, ◌∙◌, Bool, subst}
use Rattle.vs_text.specs.Documents.{file_in}
use Rattle.vs_host.specs.Disk.{Name}
use Rattle.vs_host.specs.Names.{temporary}
use Rattle.vs_host.specs.World.{Scene}
use Rattle.vs_backup.specs.Backups.{copies}
use Rattle.vs_backup.specs.Writing.{WritesBacked}
use Rattle.vs_backup.specs.declared.errors.Place.TheVariants as place
use Rattle.vs_backup.proofs.Backed.{backed_no_memory}
use Rattle.vs_backup.proofs.Modes.{makes_starts}
use Rattle.vs_backup.proofs.Doing as doing
use Rattle.vs_backup.proofs.write.write_named.Goals as goal

pub returns-in_default-clause-backed : goal.returns-in_default-clause-backed
returns-in_default-clause-backed g c told old content text has =
    backed_no_memory (copies c.args.options.now.copy) c.args.options.now.backup c.args.name.now (temporary c.args.backup.now) c.args.backup.now old (file_in c.args.options.now.format text) (g.D.World.scene c.args.desk.now) content

pub returns-in_default-buffer-clause-backed : goal.returns-in_default-buffer-clause-backed
returns-in_default-buffer-clause-backed g c told old content text has =
    backed_no_memory (copies c.args.options.now.copy) c.args.options.now.backup c.args.name.now (temporary c.args.backup.now) c.args.backup.now old (file_in c.args.options.now.format text) (g.D.World.scene c.args.desk.now) content

pub returns-clause-backed : goal.returns-clause-backed
returns-clause-backed g c told old content text has =
    let name = c.args.name.now in
    let backup = c.args.backup.now in
    let keep = c.args.options.now.backup in
    let s0 : Scene = g.D.World.scene c.args.desk.now in
    let s1 : Scene = g.D.World.scene c.write_with_backup.new.desk in
    let under : c.deref.result.now ≡ temporary backup = c.deref.ensures ∙ c.in-Ok.ensures in
    let made = subst (λ (other : Name). WritesBacked c.copies.result keep name other backup old (file_in c.args.options.now.format text) s0 s1 c.write_with_backup.result) under
    (c.write_with_backup.ensures.backed told old content text has) in
    subst (λ (copying : Bool). WritesBacked copying keep name (temporary backup) backup old (file_in c.args.options.now.format text) s0 s1 c.write_with_backup.result) c.copies.ensures made

pub returns-in_default-clause-calls : goal.returns-in_default-clause-calls
returns-in_default-clause-calls g c told text has = doing.fails_memory c.args.name.now (file_in c.args.options.now.format text) place.File (λ e. cc) (g.D.World.scene c.args.desk.now)

pub returns-in_default-buffer-clause-calls : goal.returns-in_default-buffer-clause-calls
returns-in_default-buffer-clause-calls g c told text has = doing.fails_memory c.args.name.now (file_in c.args.options.now.format text) place.File (λ e. cc) (g.D.World.scene c.args.desk.now)

pub returns-in_default-clause-modes : goal.returns-in_default-clause-modes
returns-in_default-clause-modes g c = makes_starts g.D.World.tells.folder _ (g.D.World.scene c.args.desk.now)

pub returns-in_default-buffer-clause-modes : goal.returns-in_default-buffer-clause-modes
returns-in_default-buffer-clause-modes g c = makes_starts g.D.World.tells.folder _ (g.D.World.scene c.args.desk.now)

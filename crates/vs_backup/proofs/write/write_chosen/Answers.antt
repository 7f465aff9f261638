use Rattle.std.proofs.Common.{◌≡◌, ◌∙◌, inl, inr, Some, None, Err, refl, sym, ap, subst}
use Rattle.std.specs.String.{string_bytes}
use Rattle.vs_text.specs.Documents.{file_in}
use Rattle.vs_host.specs.Disk.{Disk, Name, content_in, mode_in}
use Rattle.vs_host.specs.Names.{temporary}
use Rattle.vs_host.specs.World.{Scene, content_of}
use Rattle.vs_disk.proofs.Runs.{reads_change}
use Rattle.vs_backup.specs.Backups.{copies}
use Rattle.vs_backup.specs.Writing.{FailsNoEarlier, FindsNoName, WritesBacked, backed_names, stopped}
use Rattle.vs_backup.specs.declared.errors.Place.TheVariants as place
use Rattle.vs_backup.specs.declared.errors.WriteErr.{WriteErr}
use Rattle.vs_backup.specs.declared.errors.WriteErr.TheVariants as error
use Rattle.vs_backup.proofs.Others.{others_looks}
use Rattle.vs_backup.proofs.Free.{backup_is_free}
use Rattle.vs_backup.proofs.Backed.{backed_after, backed_stopped, old_in_file}
use Rattle.vs_backup.proofs.Following.{looks_narrowed}
use Rattle.vs_backup.proofs.Modes.{makes_looked, makes_looks}
use Rattle.vs_backup.proofs.Doing as doing
use Rattle.vs_backup.proofs.Going.{stop_here}
use Rattle.vs_backup.proofs.write.write_chosen.Goals as goal

some_name : (a b : Name) → Some a ≡ Some b → a ≡ b
some_name a b e = cc

pub returns-in-Ok-Some-clause-backed : goal.returns-in-Ok-Some-clause-backed
returns-in-Ok-Some-clause-backed g c told old content backup chosen text has =
    let name = c.args.name.now in
    let keep = c.args.options.now.backup in
    let mode = copies c.args.options.now.copy in
    let s0 : Scene = g.D.World.scene c.args.desk.now in
    let s1 : Scene = g.D.World.scene c.choose.new.desk in
    let s2 : Scene = g.D.World.scene c.write_named.new.desk in
    let looks = c.choose.ensures.looks told in
    let found = rw c.in-Ok-Some.field-0-is at (c.in-Ok-Some.ensures.found told) in
    let bytes : c.deref.result.now ≡ backup = c.deref.ensures ∙ some_name (string_bytes c.in-Ok-Some.backup) backup (sym found ∙ chosen) in
    let there : content_of s1 name ≡ Some old = ap (λ (d : Disk). content_in d name) looks.now ∙ content in
    let kept = g.met.D.Desk.stays_text c.args.desk.now c.choose.new.desk text c.choose.ensures.kept.stays has in
    let written = subst (λ (b : Name). WritesBacked mode keep name (temporary b) b old (file_in c.args.options.now.format text) s1 s2 c.write_named.result) bytes
    (c.write_named.ensures.backed told old there text kept) in
    backed_after mode keep name (temporary backup) backup old (file_in c.args.options.now.format text) s0 s1 content (looks_narrowed s0 s1 looks)
    (others_looks (backed_names mode name (temporary backup) backup) s0 s1 looks) c.write_named.result s2
    (reads_change s0 s1 c.choose.ensures.kept.frame) c.choose.ensures.kept.cause.later written

pub returns-in-Err-clause-backed : goal.returns-in-Err-clause-backed
returns-in-Err-clause-backed g c told old content backup chosen text has =
    let name = c.args.name.now in
    let keep = c.args.options.now.backup in
    let mode = copies c.args.options.now.copy in
    let s0 : Scene = g.D.World.scene c.args.desk.now in
    let s1 : Scene = g.D.World.scene c.choose.new.desk in
    subst (λ (why : WriteErr). WritesBacked mode keep name (temporary backup) backup old (file_in c.args.options.now.format text) s0 s1 (Err why)) (sym c.with.ensures)
    (backed_stopped mode keep name (temporary backup) backup old (file_in c.args.options.now.format text) s0 s1 content (c.choose.ensures.looks told) c.in-Err.stop)

pub write_named-requires-clause-free : goal.write_named-requires-clause-free
write_named-requires-clause-free g c off told =
    let s0 : Scene = g.D.World.scene c.args.desk.now in
    let looks = c.choose.ensures.looks told in
    let found = rw c.in-Ok-Some.field-0-is at (c.in-Ok-Some.ensures.found told) in
    let free = backup_is_free c.args.options.now c.args.name.now (string_bytes c.in-Ok-Some.backup) s0.folder c.requires.backs_up off found in
    subst (λ (n : Name). content_in (g.D.World.scene c.choose.new.desk).folder n ≡ None) (sym c.deref.ensures) (ap (λ (d : Disk). content_in d (string_bytes c.in-Ok-Some.backup)) looks.now ∙ free)

pub returns-in-Ok-Some-clause-calls : goal.returns-in-Ok-Some-clause-calls
returns-in-Ok-Some-clause-calls g c = λ told text has. doing.fails_then c.args.name.now (file_in c.args.options.now.format text) c.write_named.result (g.D.World.scene c.args.desk.now) (g.D.World.scene c.choose.new.desk) (g.D.World.scene c.write_named.new.desk) (c.in-Ok-Some.ensures.kept.stops.none told (λ is. absurd (cc))) (c.write_named.ensures.calls told text (g.met.D.Desk.stays_text c.args.desk.now c.choose.new.desk text c.choose.ensures.kept.stays has))

pub returns-in-Ok-None-clause-calls : goal.returns-in-Ok-None-clause-calls
returns-in-Ok-None-clause-calls g c told text has =
    let s0 : Scene = g.D.World.scene c.args.desk.now in
    let s1 : Scene = g.D.World.scene c.choose.new.desk in
    let quiet = c.in-Ok-None.ensures.kept.stops.none told (λ is. absurd (cc)) in
    record { done = tt; refused = doing.refused_quiet error.NoBackupName s0 s1 (λ is. elim is [ inl failed ↦ cc | inr memory ↦ cc ]) quiet }

pub returns-in-Err-clause-calls : goal.returns-in-Err-clause-calls
returns-in-Err-clause-calls g c told text has =
    let s0 : Scene = g.D.World.scene c.args.desk.now in
    let s1 : Scene = g.D.World.scene c.choose.new.desk in
    subst (λ (why : WriteErr). FailsNoEarlier c.args.name.now (file_in c.args.options.now.format text) s0 s1 (Err why)) (sym c.with.ensures)
    (record { done = tt; refused = doing.refused_stop g.D.World.tells c.in-Err.stop place.File (λ e. cc) s0 s1 told c.in-Err.ensures.kept.stops c.in-Err.ensures.kept.cause })

pub returns-in-Ok-None-clause-all_taken : goal.returns-in-Ok-None-clause-all_taken
returns-in-Ok-None-clause-all_taken g c told taken = record {
  looks = c.choose.ensures.looks told;
  last = c.in-Ok-None.ensures.kept.stops.last told;
  none = λ calm. c.in-Ok-None.ensures.kept.stops.none told (λ is. absurd (cc));
  refused = inl refl;
}

pub returns-in-Err-clause-all_taken : goal.returns-in-Err-clause-all_taken
returns-in-Err-clause-all_taken g c told taken =
    let s0 : Scene = g.D.World.scene c.args.desk.now in
    let s1 : Scene = g.D.World.scene c.choose.new.desk in
    let why = c.in-Err.stop in
    subst (λ (e : WriteErr). FindsNoName s0 s1 (Err e)) (sym c.with.ensures)
    (record {
      looks = c.choose.ensures.looks told;
      last = c.in-Err.ensures.kept.stops.last told;
      none = λ calm. c.in-Err.ensures.kept.stops.none told (λ failed. calm (stop_here why place.File (stopped why place.File) refl failed));
      refused = inr (old_in_file why);
    })

pub returns-in-Ok-Some-clause-modes : goal.returns-in-Ok-Some-clause-modes
returns-in-Ok-Some-clause-modes g c =
    let s0 : Scene = g.D.World.scene c.args.desk.now in
    let s1 : Scene = g.D.World.scene c.choose.new.desk in
    makes_looked g.D.World.tells.folder c.args.name.now s0 s1 (g.D.World.scene c.write_named.new.desk) (reads_change s0 s1 c.choose.ensures.kept.frame) c.choose.ensures.looks c.write_named.ensures.modes

pub returns-in-Ok-None-clause-modes : goal.returns-in-Ok-None-clause-modes
returns-in-Ok-None-clause-modes g c =
    let s0 : Scene = g.D.World.scene c.args.desk.now in
    makes_looks g.D.World.tells.folder (mode_in s0.folder c.args.name.now) s0 (g.D.World.scene c.choose.new.desk) c.choose.ensures.looks

pub returns-in-Err-clause-modes : goal.returns-in-Err-clause-modes
returns-in-Err-clause-modes g c =
    let s0 : Scene = g.D.World.scene c.args.desk.now in
    makes_looks g.D.World.tells.folder (mode_in s0.folder c.args.name.now) s0 (g.D.World.scene c.choose.new.desk) c.choose.ensures.looks

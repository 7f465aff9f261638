use Rattle.std.proofs.Common.{◌≡◌, [], ◌∷◌, ℕ, List, None, IsTrue, length}
use Rattle.vs_text.specs.Documents.{file_in}
use Rattle.vs_host.specs.Disk.{mode_in}
use Rattle.vs_host.specs.Trace.{Created}
use Rattle.vs_host.specs.World.{Scene}
use Rattle.vs_disk.specs.Images.{IsSynced}
use Rattle.vs_backup.specs.Modes.{TakesMode}
use Rattle.vs_backup.specs.Writing.{IsFilled, IsMadeLike}
use Rattle.vs_backup.proofs.Anew.{absent_not_made, absent_filled, anew_not_made, anew_filled, made_filled, made_like}
use Rattle.vs_backup.proofs.Frames.{ok_leads, ok_with}
use Rattle.vs_backup.proofs.Modes.{makes_private}
use Rattle.vs_backup.proofs.Going as going
use Rattle.vs_backup.proofs.backup.fill_anew.Goals as goal

pub returns-in_err-create_private-clause-anew : goal.returns-in_err-create_private-clause-anew
returns-in_err-create_private-clause-anew g c = record {
  each = λ told number old differ guard.
      anew_not_made c.args.name.now c.args.backup.now number old differ (g.D.World.scene c.args.desk.now) (g.D.World.scene c.create_private.new.self) guard
      c.create_private.ensures.kept.frame c.create_private.result (c.create_private.ensures.told told) c.in_err-create_private.ensures.err;
  modes = λ differ. makes_private g.D.World.tells.folder (mode_in (g.D.World.scene c.args.desk.now).folder c.args.backup.now) Created (c.args.name.now ∷ []) c.create_private.result (g.D.World.scene c.args.desk.now) (g.D.World.scene c.create_private.new.self)
      c.create_private.ensures.kept.frame c.create_private.ensures.told c.args.name.now c.create_private.ensures.ok c.create_private.ensures.mode c.create_private.ensures.err;
}

pub returns-in_err-create_private-clause-absent : goal.returns-in_err-create_private-clause-absent
returns-in_err-create_private-clause-absent g c = record {
  leaves = λ told. absent_not_made c.args.name.now (g.D.World.scene c.args.desk.now).folder (g.D.World.scene c.create_private.new.self).folder c.in_err-create_private.ensures.err (c.requires.free told);
}

pub returns-clause-anew : goal.returns-clause-anew
returns-clause-anew g c = record {
  each = λ told number old differ guard.
      anew_filled c.args.name.now c.args.backup.now number old differ (g.D.World.scene c.args.desk.now) (g.D.World.scene c.create_private.new.self) guard
      c.create_private.ensures.kept.frame c.create_private.result (c.create_private.ensures.told told) (c.in_ok-create_private.ensures.ok told) (g.D.World.scene c.fill_text.new.desk) (c.fill_text.ensures.runs told);
  modes = λ differ. made_filled g.D.World.tells.folder c.args.name.now c.args.backup.now (g.D.World.scene c.args.desk.now) (g.D.World.scene c.create_private.new.self) (g.D.World.scene c.fill_text.new.desk)
      c.in_ok-create_private.ensures.ok c.create_private.ensures.kept.frame
      (makes_private g.D.World.tells.folder None Created (c.args.name.now ∷ []) c.create_private.result (g.D.World.scene c.args.desk.now) (g.D.World.scene c.create_private.new.self)
      c.create_private.ensures.kept.frame c.create_private.ensures.told c.args.name.now c.create_private.ensures.ok c.create_private.ensures.mode c.create_private.ensures.err)
      c.fill_text.ensures.modes differ;
}

pub returns-clause-absent : goal.returns-clause-absent
returns-clause-absent g c = record {
  leaves = λ told. absent_filled c.args.name.now (g.D.World.scene c.args.desk.now).folder (g.D.World.scene c.create_private.new.self).folder (g.D.World.scene c.fill_text.new.desk).folder
      (c.requires.free told) (c.in_ok-create_private.ensures.ok told) (c.fill_text.ensures.runs told).now;
}

pub returns-clause-ok : goal.returns-clause-ok
returns-clause-ok g c =
    let s2 : Scene = g.D.World.scene c.fill_text.new.desk in
    ok_with c.fill_text.result
    (λ size. IsTrue g.D.World.tells.folder → (t : List (List ℕ)) → g.D.Desk.has_text c.create_private.new.self t → (size ≡ length (file_in c.args.format t)) × IsSynced c.args.name.now (file_in c.args.format t) s2.folder)
    (λ size. IsFilled g.D.World.tells.folder c.args.name.now c.args.format (g.D.Desk.has_text c.args.desk.now) size s2)
    (λ size filled. record { each = λ told text has. filled told text (g.met.D.Desk.stays_text c.args.desk.now c.create_private.new.self text c.create_private.ensures.kept.stays has) })
    c.fill_text.ensures.ok

pub returns-clause-kept : goal.returns-clause-kept
returns-clause-kept g c = going.GoesOn-then g.met.D.Desk.stays_on (λ is. absurd (cc)) c.in_ok-create_private.ensures.kept c.fill_text.ensures.kept

pub returns-clause-mode : goal.returns-clause-mode
returns-clause-mode g c =
    let told = g.D.World.tells.folder in
    let s0 : Scene = g.D.World.scene c.args.desk.now in
    let s1 : Scene = g.D.World.scene c.create_private.new.self in
    let s2 : Scene = g.D.World.scene c.fill_text.new.desk in
    ok_leads (TakesMode told c.args.backup.now c.args.name.now s1 s2) (IsMadeLike told c.args.name.now c.args.backup.now s0 s2) c.fill_text.result
    (λ takes. made_like told c.args.name.now c.args.backup.now s0 s1 s2 c.in_ok-create_private.ensures.ok takes) c.fill_text.ensures.mode

use Rattle.std.proofs.Common.{◌∙◌, inl, inr, ℕ, List, Option, IsTrue, sym, ap, refl}
use Rattle.std.specs.Prelude.{is_some}
use Rattle.vs_host.specs.Disk.{mode_in}
use Rattle.vs_host.specs.World.{Scene}
use Rattle.vs_disk.specs.Images.{IsSynced}
use Rattle.vs_disk.proofs.Runs.{frames}
use Rattle.vs_disk.proofs.Contents.{some_content}
use Rattle.vs_backup.specs.Modes.{TakesMode}
use Rattle.vs_backup.specs.Works.{IsGone, LeavesNone, one_name, two_names}
use Rattle.vs_backup.specs.Writing.{CopiesBytes, CopiesMode, IsSettled}
use Rattle.vs_backup.proofs.Calls.{spares_on, runs_wider, runs_file, synced_there}
use Rattle.vs_backup.proofs.Frames.{ok_leads, content_spared}
use Rattle.vs_backup.proofs.Modes.{makes_any, makes_as, makes_spared, makes_then, mode_spared}
use Rattle.vs_backup.proofs.Renewing.{renews_filled, renews_taken}
use Rattle.vs_backup.proofs.Replacing.{takes_on, takes_others}
use Rattle.vs_backup.proofs.Going as going
use Rattle.vs_backup.proofs.backup.copy_to_backup.Goals as goal

pub returns-in_err-make_anew-clause-spares : goal.returns-in_err-make_anew-clause-spares
returns-in_err-make_anew-clause-spares g c =
    let s0 : Scene = g.D.World.scene c.args.desk.now in
    let s1 : Scene = g.D.World.scene c.make_anew.new.desk in
    record { spares = λ told. runs_wider (one_name c.args.temporary.now) (two_names c.args.temporary.now c.args.backup.now) s0 s1 (λ n is. inl is) (c.make_anew.ensures.spares told) }

pub returns-in_err-fill_copy-clause-spares : goal.returns-in_err-fill_copy-clause-spares
returns-in_err-fill_copy-clause-spares g c =
    let tmp = one_name c.args.temporary.now in
    let both = two_names c.args.temporary.now c.args.backup.now in
    let s0 : Scene = g.D.World.scene c.args.desk.now in
    let s1 : Scene = g.D.World.scene c.make_anew.new.desk in
    let s2 : Scene = g.D.World.scene c.fill_copy.new.desk in
    record {
      spares = λ told.
          let filled = runs_file c.args.temporary.now s1 s2 (c.in_ok-make_anew.ensures.alone told) (c.fill_copy.ensures.runs told) in
          runs_wider tmp both s0 s2 (λ n is. inl is) (spares_on tmp s0 s1 s2 c.make_anew.ensures.kept.frame (c.make_anew.ensures.spares told) filled);
    }

pub returns-clause-spares : goal.returns-clause-spares
returns-clause-spares g c =
    let tmp = one_name c.args.temporary.now in
    let both = two_names c.args.temporary.now c.args.backup.now in
    let s0 : Scene = g.D.World.scene c.args.desk.now in
    let s1 : Scene = g.D.World.scene c.make_anew.new.desk in
    let s2 : Scene = g.D.World.scene c.fill_copy.new.desk in
    let s3 : Scene = g.D.World.scene c.take_name.new.desk in
    record {
      spares = λ told.
          let filled = runs_file c.args.temporary.now s1 s2 (c.in_ok-make_anew.ensures.alone told) (c.fill_copy.ensures.runs told) in
          let copied = runs_wider tmp both s0 s2 (λ n is. inl is) (spares_on tmp s0 s1 s2 c.make_anew.ensures.kept.frame (c.make_anew.ensures.spares told) filled) in
          spares_on both s0 s2 s3 (frames s0 s1 s2 c.make_anew.ensures.kept.frame c.fill_copy.ensures.kept.frame) copied (c.take_name.ensures.spares told);
    }

pub fill_copy-requires-clause-there : goal.fill_copy-requires-clause-there
fill_copy-requires-clause-there g c told =
    let s0 : Scene = g.D.World.scene c.args.desk.now in
    let s1 : Scene = g.D.World.scene c.make_anew.new.desk in
    ap (λ (o : Option (List ℕ)). is_some o) (content_spared (one_name c.args.temporary.now) c.args.name.now s0.folder s1.folder c.requires.names.differ (c.make_anew.ensures.spares told).now) ∙ c.requires.there told

pub take_name-requires-clause-there : goal.take_name-requires-clause-there
take_name-requires-clause-there g c told =
    let s0 : Scene = g.D.World.scene c.args.desk.now in
    let s1 : Scene = g.D.World.scene c.make_anew.new.desk in
    let s2 : Scene = g.D.World.scene c.fill_copy.new.desk in
    let had = some_content s0.folder c.args.name.now (c.requires.there told) in
    let same = content_spared (one_name c.args.temporary.now) c.args.name.now s0.folder s1.folder c.requires.names.differ (c.make_anew.ensures.spares told).now in
    synced_there c.args.temporary.now had.0 s2.folder (c.in_ok-fill_copy.ensures.ok told had.0 (same ∙ had.1))

pub returns-clause-ok : goal.returns-clause-ok
returns-clause-ok g c =
    let s0 : Scene = g.D.World.scene c.args.desk.now in
    let s1 : Scene = g.D.World.scene c.make_anew.new.desk in
    let s2 : Scene = g.D.World.scene c.fill_copy.new.desk in
    let s3 : Scene = g.D.World.scene c.take_name.new.desk in
    ok_leads (IsTrue g.D.World.tells.folder → (bytes : List ℕ) → IsSynced c.args.temporary.now bytes s2.folder → IsSettled c.args.backup.now bytes s3.folder)
    (CopiesBytes g.D.World.tells.folder c.args.name.now c.args.backup.now s0 s3) c.take_name.result
    (λ takes. record {
      settled = λ told old is.
          let same = content_spared (one_name c.args.temporary.now) c.args.name.now s0.folder s1.folder c.requires.names.differ (c.make_anew.ensures.spares told).now in
          takes told old (c.in_ok-fill_copy.ensures.ok told old (same ∙ is));
    })
    c.take_name.ensures.ok

pub returns-in_err-make_anew-clause-takes : goal.returns-in_err-make_anew-clause-takes
returns-in_err-make_anew-clause-takes g c =
    let s0 : Scene = g.D.World.scene c.args.desk.now in
    let s1 : Scene = g.D.World.scene c.make_anew.new.desk in
    record { takes = λ told old is. takes_others (one_name c.args.temporary.now) c.args.backup.now old s0 s1 (λ e. c.requires.names.differ_backup (sym e)) (c.make_anew.ensures.spares told) }

pub returns-in_err-fill_copy-clause-takes : goal.returns-in_err-fill_copy-clause-takes
returns-in_err-fill_copy-clause-takes g c =
    let tmp = one_name c.args.temporary.now in
    let s0 : Scene = g.D.World.scene c.args.desk.now in
    let s1 : Scene = g.D.World.scene c.make_anew.new.desk in
    let s2 : Scene = g.D.World.scene c.fill_copy.new.desk in
    record {
      takes = λ told old is.
          let filled = runs_file c.args.temporary.now s1 s2 (c.in_ok-make_anew.ensures.alone told) (c.fill_copy.ensures.runs told) in
          takes_others tmp c.args.backup.now old s0 s2 (λ e. c.requires.names.differ_backup (sym e)) (spares_on tmp s0 s1 s2 c.make_anew.ensures.kept.frame (c.make_anew.ensures.spares told) filled);
    }

pub returns-clause-takes : goal.returns-clause-takes
returns-clause-takes g c =
    let tmp = one_name c.args.temporary.now in
    let s0 : Scene = g.D.World.scene c.args.desk.now in
    let s1 : Scene = g.D.World.scene c.make_anew.new.desk in
    let s2 : Scene = g.D.World.scene c.fill_copy.new.desk in
    let s3 : Scene = g.D.World.scene c.take_name.new.desk in
    record {
      takes = λ told old is.
          let filled = runs_file c.args.temporary.now s1 s2 (c.in_ok-make_anew.ensures.alone told) (c.fill_copy.ensures.runs told) in
          let same = content_spared (one_name c.args.temporary.now) c.args.name.now s0.folder s1.folder c.requires.names.differ (c.make_anew.ensures.spares told).now in
          takes_on c.args.backup.now old s0 s2 s3 (frames s0 s1 s2 c.make_anew.ensures.kept.frame c.fill_copy.ensures.kept.frame)
          (takes_others tmp c.args.backup.now old s0 s2 (λ e. c.requires.names.differ_backup (sym e)) (spares_on tmp s0 s1 s2 c.make_anew.ensures.kept.frame (c.make_anew.ensures.spares told) filled))
          (c.take_name.ensures.takes told old (c.in_ok-fill_copy.ensures.ok told old (same ∙ is)));
    }

pub returns-clause-aside : goal.returns-clause-aside
returns-clause-aside g c =
    let s3 : Scene = g.D.World.scene c.take_name.new.desk in
    ok_leads (IsTrue g.D.World.tells.folder → IsGone c.args.temporary.now s3.folder) (LeavesNone g.D.World.tells.folder c.args.temporary.now s3) c.take_name.result
    (λ gone. record { gone = gone }) c.take_name.ensures.gone

pub returns-in_err-fill_copy-clause-kept : goal.returns-in_err-fill_copy-clause-kept
returns-in_err-fill_copy-clause-kept g c = going.GoesOn-any c.from_residual-in_err-fill_copy.result _ c.from_residual-in_err-fill_copy.ensures.1 refl (going.GoesOn-then g.met.D.Desk.stays_on (λ is. absurd (cc)) c.in_ok-make_anew.ensures.kept c.in_err-fill_copy.ensures.kept)

pub returns-clause-kept : goal.returns-clause-kept
returns-clause-kept g c = going.GoesOn-then g.met.D.Desk.stays_on (λ is. absurd (cc)) (going.GoesOn-then g.met.D.Desk.stays_on (λ is. absurd (cc)) c.in_ok-make_anew.ensures.kept c.in_ok-fill_copy.ensures.kept) c.take_name.ensures.kept

pub returns-in_err-make_anew-clause-anew : goal.returns-in_err-make_anew-clause-anew
returns-in_err-make_anew-clause-anew g c = record { runs = λ told. c.make_anew.ensures.renews told }

pub returns-in_err-fill_copy-clause-anew : goal.returns-in_err-fill_copy-clause-anew
returns-in_err-fill_copy-clause-anew g c =
    let s0 : Scene = g.D.World.scene c.args.desk.now in
    let s1 : Scene = g.D.World.scene c.make_anew.new.desk in
    let s2 : Scene = g.D.World.scene c.fill_copy.new.desk in
    record {
      runs = λ told. renews_filled c.args.temporary.now s0 s1 s2 c.make_anew.ensures.kept.frame (c.make_anew.ensures.renews told) (c.in_ok-make_anew.ensures.anew told) (c.fill_copy.ensures.runs told);
    }

pub returns-clause-anew : goal.returns-clause-anew
returns-clause-anew g c =
    let s0 : Scene = g.D.World.scene c.args.desk.now in
    let s1 : Scene = g.D.World.scene c.make_anew.new.desk in
    let s2 : Scene = g.D.World.scene c.fill_copy.new.desk in
    let s3 : Scene = g.D.World.scene c.take_name.new.desk in
    record {
      runs = λ told.
          renews_taken c.args.temporary.now s0 s1 s2 c.make_anew.ensures.kept.frame (c.make_anew.ensures.renews told) s3 c.fill_copy.ensures.kept.frame (c.in_ok-make_anew.ensures.anew told)
          (c.fill_copy.ensures.runs told) (c.take_name.ensures.leads told);
    }

pub returns-in_err-make_anew-clause-modes : goal.returns-in_err-make_anew-clause-modes
returns-in_err-make_anew-clause-modes g c = makes_any (mode_in (g.D.World.scene c.args.desk.now).folder c.args.name.now) c.make_anew.ensures.modes

pub returns-in_err-fill_copy-clause-modes : goal.returns-in_err-fill_copy-clause-modes
returns-in_err-fill_copy-clause-modes g c =
    let s0 : Scene = g.D.World.scene c.args.desk.now in
    makes_spared g.D.World.tells.folder (one_name c.args.temporary.now) c.args.name.now s0 (g.D.World.scene c.make_anew.new.desk) (g.D.World.scene c.fill_copy.new.desk) c.requires.names.differ c.make_anew.ensures.kept.frame
    (makes_any (mode_in s0.folder c.args.name.now) c.make_anew.ensures.modes) c.make_anew.ensures.spares c.fill_copy.ensures.modes

pub returns-clause-modes : goal.returns-clause-modes
returns-clause-modes g c =
    let told = g.D.World.tells.folder in
    let name = c.args.name.now in
    let s0 : Scene = g.D.World.scene c.args.desk.now in
    let s1 : Scene = g.D.World.scene c.make_anew.new.desk in
    let s2 : Scene = g.D.World.scene c.fill_copy.new.desk in
    makes_then (frames s0 s1 s2 c.make_anew.ensures.kept.frame c.fill_copy.ensures.kept.frame)
    (makes_spared told (one_name c.args.temporary.now) name s0 s1 s2 c.requires.names.differ c.make_anew.ensures.kept.frame (makes_any (mode_in s0.folder name) c.make_anew.ensures.modes) c.make_anew.ensures.spares c.fill_copy.ensures.modes)
    (makes_as (mode_in s2.folder c.args.temporary.now) (mode_in s0.folder name)
    (λ is. c.in_ok-fill_copy.ensures.mode.same is
    (ap (λ (o : Option (List ℕ)). is_some o) (content_spared (one_name c.args.temporary.now) c.args.name.now s0.folder s1.folder c.requires.names.differ (c.make_anew.ensures.spares is).now) ∙ c.requires.there is)
    ∙ mode_spared (one_name c.args.temporary.now) name s0.folder s1.folder c.requires.names.differ (c.make_anew.ensures.spares is).now)
    c.take_name.ensures.modes)

pub returns-clause-mode : goal.returns-clause-mode
returns-clause-mode g c =
    let told = g.D.World.tells.folder in
    let name = c.args.name.now in
    let temporary = c.args.temporary.now in
    let backup = c.args.backup.now in
    let s0 : Scene = g.D.World.scene c.args.desk.now in
    let s1 : Scene = g.D.World.scene c.make_anew.new.desk in
    let s2 : Scene = g.D.World.scene c.fill_copy.new.desk in
    let s3 : Scene = g.D.World.scene c.take_name.new.desk in
    ok_leads (TakesMode told temporary backup s2 s3) (CopiesMode told name backup s0 s3) c.take_name.result
    (λ takes. record {
      file = λ is. mode_spared (two_names temporary backup) name s0.folder s3.folder (λ both. elim both [ inl e ↦ c.requires.names.differ e | inr e ↦ c.requires.names.differ_name e ]) ((returns-clause-spares g c).spares is).now;
      copy = λ is.
          let same = content_spared (one_name temporary) name s0.folder s1.folder c.requires.names.differ (c.make_anew.ensures.spares is).now in
          let had = some_content s0.folder name (c.requires.there is) in
          takes.same is (synced_there temporary had.0 s2.folder (c.in_ok-fill_copy.ensures.ok is had.0 (same ∙ had.1)))
          ∙ c.in_ok-fill_copy.ensures.mode.same is (ap (λ (o : Option (List ℕ)). is_some o) same ∙ c.requires.there is)
          ∙ mode_spared (one_name temporary) name s0.folder s1.folder c.requires.names.differ (c.make_anew.ensures.spares is).now;
    })
    c.take_name.ensures.mode

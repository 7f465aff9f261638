-- `discard` at each of its ends.
use Rattle.std.proofs.Common.{◌≡◌, ◌++◌, ℕ, arith, Bool, List, Ok, Err, OnOk, OnErr, IfErr, IsErr, IsTrue, refl, sym, ap, subst, ◌∙◌}
use Rattle.vs_faults.specs.Faults.{HasCause, HasRisen}
use Rattle.vs_host.specs.Disk.{Disk}
use Rattle.vs_host.specs.declared.names.Names.{Names}
use Rattle.vs_host.specs.World.{Tells, Scene}
use Rattle.vs_pair.specs.Acts.{Acts}
use Rattle.vs_disk.specs.Runs.{CallsAtMost, NoneFails}
use Rattle.vs_pair.specs.Steps.{IsFresh}
use Rattle.vs_modes.specs.declared.error.ModeErr.{ModeErr}
use Rattle.vs_modes.specs.declared.error.ModeErr.TheVariants as refusal
use Rattle.vs_modes.specs.Discard.{Discards, RefusesDiscard, HasDiscarded, RunsDiscard, discard_line, is_any_there}
use Rattle.vs_modes.specs.Modes.{Ended}
use Rattle.vs_modes.specs.Output.{WritesPart, Outputs, NoWriteFails}
use Rattle.vs_disk.proofs.Quiet.{calls_within}
use Rattle.vs_modes.proofs.OutputLaws.{unwritten_runs}
use Rattle.vs_modes.proofs.Phases.{acts_proceed, acts_ready, mode_refused, mode_idle, mode_written}
use Rattle.vs_modes.proofs.Removing.{discards_none}

module _ (tells : Tells) (names : Names) where
  pub discard_idle : (scene : Scene) → RunsDiscard tells names scene scene (Err refusal.NoMemory)
  discard_idle scene = record {
    runs = mode_idle (Discards names) (λ done bytes. bytes ≡ discard_line (is_any_there names scene)) RefusesDiscard tells 6 scene (discards_none names scene.folder) tt;
    discarded = refl;
  }

  pub discard_failed : (old new : Scene) → Acts tells (Discards names) old new → CallsAtMost tells old new 5 → HasRisen old.folder_faults new.folder_faults → RunsDiscard tells names old new (Err refusal.FolderFailed)
  discard_failed old new acts calls risen = record {
    runs = mode_refused (Discards names) (λ done bytes. bytes ≡ discard_line (is_any_there names old)) RefusesDiscard tells 6 old new refusal.FolderFailed (λ is. cc) (λ is. risen) (λ not. absurd (not refl)) acts.later acts.frame
        (acts_proceed tells (Discards names) old new acts) (calls_within tells old new 5 6 (omega arith) calls) (λ told. unwritten_runs (Discards names) old new (acts.runs told)) (λ told. tt);
    discarded = tt;
  }

  has_discarded : (old new : Scene) (result : Ended (Unit {0})) → IfErr result (λ why. why ≡ refusal.OutputFailed) → (IsTrue tells.folder → IsFresh names new.folder) → HasDiscarded names tells result old new
  has_discarded old new (Ok done) failed fresh = fresh
  has_discarded old new (Err why) failed fresh = subst (λ (e : ModeErr). HasDiscarded names tells (Err e) old new) (sym failed) fresh

  pub discard_written : (old mid new : Scene) (found : Bool) (bytes : List ℕ) (result : Ended (Unit {0})) → (IsTrue tells.folder → found ≡ is_any_there names old) → bytes ≡ discard_line found → Acts tells (Discards names) old mid → NoneFails tells old mid → CallsAtMost tells old mid 5
      → (IsTrue tells.folder → IsFresh names mid.folder) → Outputs tells mid new → CallsAtMost tells mid new 1 → HasCause mid.out_faults new.out_faults (IsErr result) → OnOk result (NoWriteFails tells mid new) → IfErr result (λ why. why ≡ refusal.OutputFailed)
      → OnOk result (IsTrue tells.output → new.output ≡ mid.output ++ bytes) → OnErr result (IsTrue tells.output → WritesPart bytes mid.output new.output) → RunsDiscard tells names old new result
  discard_written old mid new found bytes result value is acts quiet calls fresh outputs one cause none failed ok err = record {
    runs = mode_written (Discards names) (λ done bs. bs ≡ discard_line (is_any_there names old)) RefusesDiscard tells 5 old mid new bytes result (λ told. is ∙ ap discard_line (value told)) (acts_ready tells (Discards names) 5 old mid acts quiet calls)
        outputs one cause none failed ok err;
    discarded = has_discarded old new result failed (λ told. subst (λ (d : Disk). IsFresh names d) (sym (ap (λ (s : Scene). s.folder) outputs.frame)) (fresh told));
  }

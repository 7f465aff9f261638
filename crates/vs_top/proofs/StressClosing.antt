-- The end of the stress mode: the summary, the line with it, and the removal.
use Rattle.std.proofs.Common.{◌≡◌, ℕ, ◌≤◌, ◌<◌, ◌++◌, Bool, true, if◌then◌else◌, List, [], length, take, IsTrue, refl, sym, ap, subst, ◌∙◌, arith}
use Rattle.vs_faults.specs.Faults.{HasRisen}
use Rattle.vs_host.specs.Trace.{WroteOutput}
use Rattle.vs_host.specs.World.{Tells, Scene, ChangesOutput}
use Rattle.vs_disk.specs.Runs.{FailsLast, Quiet}
use Rattle.vs_edit.specs.declared.store.StoreErr.{StoreErr}
use Rattle.vs_edit.specs.declared.store.StoreErr.TheVariants as store
use Rattle.vs_machine.specs.declared.command.Mark.{Mark}
use Rattle.vs_safety.specs.Texts.{Sync}
use Rattle.vs_safety.specs.Safety.{IsAdded}
use Rattle.vs_safety.specs.History.{syncs_of}
use Rattle.vs_session.specs.declared.session.Session.{Session}
use Rattle.vs_session.specs.declared.ending.End.TheVariants as end
use Rattle.vs_session.specs.declared.summary.Summary.{Summary}
use Rattle.vs_session.specs.Session.{SessionState}
use Rattle.vs_session.specs.Calls.{Finishes}
use Rattle.vs_session.specs.Fits.{Fits}
use Rattle.vs_session.specs.Summary.{summary_of}
use Rattle.vs_stress.specs.Arguments.{summary_line}
use Rattle.vs_stress.specs.Commands.{stress_commands}
use Rattle.vs_top.specs.Ending.{store_ending}
use Rattle.vs_top.specs.History.{Past}
use Rattle.vs_top.specs.Promise.{RunsStress}
use Rattle.vs_top.specs.Stress.{TellsStress, stress_history, stress_line, stress_state}
use Rattle.vs_top.specs.StressTurns.{IsStressTurn}
use Rattle.vs_top.specs.declared.ending.Ending.TheVariants as ending
use Rattle.vs_top.proofs.StressEnds.{HasSummed, line_cut, no_memory_then, no_summary, removal_fails, stress_ends}

-- the line is not empty
pub line_some : (count lines changes syncs : ℕ) (digest : List ℕ) → 0 < length (summary_line count lines changes syncs digest)
line_some count lines changes syncs digest = omega arith

module _ (OfHost : Scene → Type 0) (tells : Tells) (count : ℕ) (old now new : Scene) (session after : Session) (marks : List Mark) (clean : Bool) (turn : IsStressTurn OfHost tells old now session marks clean (stress_commands count)) (summed : HasSummed tells now new session after) where
  -- there was no memory
  pub close_no_memory : (IsTrue tells.folder → Quiet now new) → RunsStress OfHost tells count old new ending.NoMemory marks
  close_no_memory quiet = no_memory_then OfHost tells old now session marks clean (stress_commands count) turn new after summed count refl quiet

  -- the summary failed
  pub close_fails : (error : StoreErr) → (error ≡ store.Failed → HasRisen now.folder_faults new.folder_faults) → (IsTrue tells.folder → FailsLast now new) → (IsTrue tells.folder → (error ≡ store.Failed → ⊥) → Quiet now new)
      → RunsStress OfHost tells count old new (store_ending error) marks
  close_fails store.NoMemory failed last none = close_no_memory (λ told. none told (λ is. absurd (cc)))
  close_fails store.Failed failed last none = no_summary OfHost tells old now session marks clean (stress_commands count) turn new after summed count refl (failed refl) last

  -- the line was made
  module _ (quiet : IsTrue tells.folder → Quiet now new) (summary : Summary) (is : IsTrue tells.folder → (state : SessionState) (syncs : List Sync) → Fits session now.folder state syncs → summary ≡ summary_of state syncs)
      (line : List ℕ) (made : line ≡ summary_line count summary.lines summary.changes summary.syncs summary.digest) where
    some : 0 < length line
    some = subst (λ (l : List ℕ). 0 < length l) (sym made) (line_some count summary.lines summary.changes summary.syncs summary.digest)

    line_is : (told : TellsStress tells) → line ≡ stress_line count old (turn.told told).0
    line_is told =
        let past : Past = (turn.told told).0 in
        made ∙ ap (λ (s : Summary). summary_line count s.lines s.changes s.syncs s.digest) (is told.folder (stress_state old past) (syncs_of (stress_history old past)) (turn.told told).2.fits)

    -- it was not written whole
    pub close_cut : (mid : Scene) → ChangesOutput new mid → (IsTrue tells.folder → IsAdded WroteOutput [] new mid) → (IsTrue tells.output → (n : ℕ) × (mid.output ≡ new.output ++ take n line)) → HasRisen new.out_faults mid.out_faults
        → RunsStress OfHost tells count old mid ending.OutputFault marks
    close_cut mid frame added wrote rose = line_cut OfHost tells old now session marks clean (stress_commands count) turn new after summed count refl quiet line some line_is mid frame added wrote rose

    module _ (mid last : Scene) (frame : ChangesOutput new mid) (added : IsTrue tells.folder → IsAdded WroteOutput [] new mid) (wrote : IsTrue tells.output → mid.output ≡ new.output ++ line) (calm : mid.out_faults ≡ new.out_faults)
        (ok : Bool) (finishes : Finishes tells after mid last end.Quit ok) where
      -- the removal failed
      pub close_left : HasRisen mid.folder_faults last.folder_faults → RunsStress OfHost tells count old last ending.FolderFault marks
      close_left rose = removal_fails OfHost tells old now session marks clean (stress_commands count) turn new after summed count refl quiet line some line_is mid last frame added wrote calm ok finishes rose

      -- all was done
      pub close_ends : ok ≡ true → RunsStress OfHost tells count old last (if clean then ending.Done else ending.WithErrors) marks
      close_ends done = stress_ends OfHost tells old now session marks clean (stress_commands count) turn new after summed count refl quiet line some line_is mid last frame added wrote calm ok finishes done

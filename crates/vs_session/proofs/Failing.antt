-- Which calls of a command failed, over calls that follow one another.
use Rattle.std.proofs.Common.{◌≡◌, ◌≤◌, ℕ, true, false, List, IsTrue, refl, sym, ◌∙◌, arith}
use Rattle.std.proofs.lemmas.Bool.{true≢false}
use Rattle.vs_host.specs.World.{Scene, Tells}
use Rattle.vs_host.specs.Trace.{Snapshot}
use Rattle.vs_host.specs.declared.names.Names.{Names}
use Rattle.vs_disk.specs.Runs.{FailsLast, HasNoFault, Quiet}
use Rattle.vs_disk.proofs.Quiet.{last_then, quiet_then}
use Rattle.vs_disk.proofs.Runs.{fails_none, goes_none, goes_weaker, quiet_none}
use Rattle.vs_backup.specs.Desks.{StopsAtFault}
use Rattle.vs_backup.specs.Writing.{BecomesWritten}
use Rattle.vs_desk.specs.Counts.{NoneAbove}
use Rattle.vs_desk.specs.PageLaws.{above_then}
use Rattle.vs_excmd.specs.Request.{Instruction}
use Rattle.vs_session.specs.Session.{SessionState, Ended, has_written, is_fault, puts_back}
use Rattle.vs_session.specs.Failures.{FailsOnce, StopsWriting}

-- where no call failed, no count is above that now
pub above_quiet : (old new : Scene) → Quiet old new → NoneAbove old new
above_quiet old new quiet = record {
  later = omega (arith, quiet.folder);
  moments = goes_weaker (HasNoFault old) (λ m. m.folder_faults ≤ new.folder_faults) (λ (m : Snapshot) none. omega (arith, none.folder, quiet.folder)) old.trace new.trace quiet.moments;
}

-- the clock was read
pub quiet_clock : (old : Scene) (answers : List ℕ) → Quiet old (record old { answers = answers })
quiet_clock old answers = record { moments = goes_none (HasNoFault old) old.trace; script = refl; out = refl; folder = refl }

-- a file that becomes written after calls that did not fail
pub written_after : (name bytes : List ℕ) (old mid new : Scene) → Quiet old mid → BecomesWritten name bytes mid new → BecomesWritten name bytes old new
written_after name bytes old mid new quiet file = record { written = file.written; moment = file.moment; quiet = quiet_then old mid file.written quiet file.quiet; holds = file.holds; later = file.later }

module _ (names : Names) (state : SessionState) (instruction : Instruction) (ended : Ended) where
  -- a command that did not write the file
  pub once_unwritten : (old new : Scene) → has_written state instruction ended ≡ false → FailsLast old new → (is_fault ended.mark.outcome ≡ false → Quiet old new) → FailsOnce names state instruction ended old new
  once_unwritten old new unwritten last none = record {
    writes = λ is. absurd (true≢false (sym is ∙ unwritten));
    refused = λ _ _. record { stopped = new; last = last; none = none; back_last = fails_none new; back_none = λ _. quiet_none new };
    last = λ _ _. last;
    none = λ _ _ calm. none calm;
  }

  -- one that began to write it with a backup, and did not
  pub once_refused : (old new : Scene) → puts_back state instruction ended ≡ true → has_written state instruction ended ≡ false → StopsWriting (is_fault ended.mark.outcome) old new → FailsOnce names state instruction ended old new
  once_refused old new backed unwritten stops = record {
    writes = λ is. absurd (true≢false (sym is ∙ unwritten));
    refused = λ _ _. stops;
    last = λ _ none. absurd (true≢false (sym backed ∙ none));
    none = λ _ none. absurd (true≢false (sym backed ∙ none));
  }

  pub once_stops : (tells : Tells) (old new : Scene) → IsTrue tells.folder → has_written state instruction ended ≡ false → StopsAtFault tells (is_fault ended.mark.outcome ≡ true) old new
      → FailsOnce names state instruction ended old new
  once_stops tells old new told unwritten stops =
      once_unwritten old new unwritten (stops.last told) (λ calm. stops.none told (λ fault. true≢false (sym fault ∙ calm)))

  -- calls before it that did not fail
  pub once_after : (old mid new : Scene) → Quiet old mid → FailsOnce names state instruction ended mid new → FailsOnce names state instruction ended old new
  once_after old mid new quiet once = record {
    writes = λ is.
        let first = once.writes is in
        record {
          wrote = first.wrote;
          file = written_after names.file _ old mid first.wrote quiet first.file;
          above = above_then old mid first.wrote (above_quiet old mid quiet) first.above;
          calls = first.calls;
          last = first.last;
          none = first.none;
          unstored = first.unstored;
        };
    refused = λ unwritten backed.
        let stops = once.refused unwritten backed in
        record {
          stopped = stops.stopped;
          last = last_then old mid stops.stopped quiet stops.last;
          none = λ calm. quiet_then old mid stops.stopped quiet (stops.none calm);
          back_last = stops.back_last;
          back_none = stops.back_none;
        };
    last = λ unwritten alone. last_then old mid new quiet (once.last unwritten alone);
    none = λ unwritten alone calm. quiet_then old mid new quiet (once.none unwritten alone calm);
  }

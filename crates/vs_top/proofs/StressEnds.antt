-- The opening and the end of the stress mode, and what it answered where it stops.
use Rattle.std.proofs.Common.{◌≡◌, inl, inr, ℕ, ◌≤◌, ◌<◌, ◌+◌, Bool, true, false, not, if◌then◌else◌, List, [], ◌∷◌, ◌++◌, length, take, map, All, None, IsTrue, Ok, Err, IsErrAnd, refl, sym, ap, subst, ◌∙◌, append_assoc, append-nil, arith}
use Rattle.std.specs.declared.result.Result.{Result}
use Rattle.std.proofs.lemmas.List.{length-append, take_all}
use Rattle.vs_faults.specs.Faults.{HasRisen}
use Rattle.vs_faults.proofs.Causes.{risen_after}
use Rattle.vs_host.specs.Disk.{Disk}
use Rattle.vs_host.specs.Names.{names_of_file}
use Rattle.vs_host.specs.Trace.{WroteOutput, Snapshot, Each, GoesOn, most_faults}
use Rattle.vs_host.specs.World.{Tells, Scene, ChangesOutput, ReadsFolder, snapshot_of}
use Rattle.vs_host.specs.declared.names.Names.{Names}
use Rattle.vs_disk.specs.Faults.{HasCounts, NeverFalls}
use Rattle.vs_disk.specs.Names.{SameAt}
use Rattle.vs_disk.specs.Runs.{FailsLast, HasNoFault, Inside, Looks, Quiet}
use Rattle.vs_disk.proofs.Runs.{Each-append, Each-weaker, goes_then, goes_weaker}
use Rattle.vs_disk.proofs.Others.{same_then}
use Rattle.vs_pair.specs.Acts.{JustReads}
use Rattle.vs_pair.specs.Pair.{is_foreign}
use Rattle.vs_pair.specs.Steps.{BothMoved, IsFresh}
use Rattle.vs_excmd.specs.Request.{Instruction}
use Rattle.vs_machine.specs.declared.command.Mark.{Mark}
use Rattle.vs_text.specs.Documents.{Document}
use Rattle.vs_safety.specs.Texts.{Sync, IsBetween, Recovers, RecoversOrNone, recoverable}
use Rattle.vs_safety.specs.Turns.{NotBegun, Turn, after_turns, opened}
use Rattle.vs_safety.specs.History.{syncs_of}
use Rattle.vs_safety.specs.Safety.{IsAdded, Spares, Works, Writes}
use Rattle.vs_safety.specs.Causes.{IsCounted, RoseLast, folder_count, newest_count, output_count}
use Rattle.vs_safety.proofs.Causes.{counted_on, rose_at, rose_last}
use Rattle.vs_safety.proofs.Texts.{between_recovers}
use Rattle.vs_paged.proofs.SyncLemmas.{fits_between}
use Rattle.vs_session.specs.declared.session.Session.{Session}
use Rattle.vs_session.specs.declared.ending.End.TheVariants as end
use Rattle.vs_session.specs.Session.{SessionState}
use Rattle.vs_session.specs.Calls.{Finishes}
use Rattle.vs_session.specs.Fits.{Fits, names_of}
use Rattle.vs_session.specs.Made.{LeavesNoneMade, StaysMoved}
use Rattle.vs_stress.specs.Commands.{stress_commands}
use Rattle.vs_top.specs.Ending.{ending_in}
use Rattle.vs_top.specs.History.{commands_then, Past, any_error}
use Rattle.vs_top.specs.Promise.{HasStress, RunsStress, row}
use Rattle.vs_top.specs.Run.{Did, FaultHasCause, IsTimed, OnlyFolder, counts_of, opened_file}
use Rattle.vs_top.specs.Stress.{TellsStress, HasStressed, IsBeforeLine, IsStressMoment, IsStressSafe, ReadsText, StressEnds, SumsThen, WritesThen, stress_history, stress_line, stress_name, stress_state, stress_document, stress_turns}
use Rattle.vs_top.specs.StressCalls.{HasRunTo, StressCalls}
use Rattle.vs_top.specs.StressTurns.{IsStressTurn, StressTold}
use Rattle.vs_top.specs.Turns.{KeepsOpenFile}
use Rattle.vs_top.specs.declared.ending.Ending.{Ending}
use Rattle.vs_top.specs.declared.ending.Ending.TheVariants as ending
use Rattle.vs_top.proofs.Counting.{all_counted, causes_on, only_folder, only_output, only_then}
use Rattle.vs_top.proofs.Pushes.{flip_clean}
use Rattle.vs_top.proofs.Readers.{own_still, own_then, own_told}
use Rattle.vs_top.proofs.StressSteps.{commands_are, inside_any, stress_syncs}

-- ---- what is known, as the end of it

abbrev names : Names
names = names_of_file stress_name

abbrev pub did_of : Past → Did
did_of past = record { past = past; closing = NotBegun }

pub at_moment : (start : Scene) (document : Document) (turns : List Turn) (line : List ℕ) (m : Snapshot) → IsBeforeLine names start document turns m → IsStressMoment names start document turns line m
at_moment start document turns line m is = record { spared = is.spared; recovers = elim is.recovers [ inl opening ↦ inl opening | inr command ↦ inr (inl command) ] }

all_times : (old new : Scene) (marks : List Mark) → new.answers ≡ old.answers ++ map (λ mark. mark.at) marks → IsTimed old new marks
all_times old new marks is = record { more = []; one = omega arith; is = is ∙ sym (append-nil (old.answers ++ map (λ mark. mark.at) marks)) }

-- no snapshot has a count above the one now
newest_most : (start now : Scene) (moments : List Snapshot) → now.trace ≡ moments ++ start.trace → start.folder_faults ≤ now.folder_faults → most_faults now.trace ≤ now.folder_faults → newest_count folder_count start moments ≤ now.folder_faults
newest_most start now [] added later most = later
newest_most start now (m ∷ ms) added later most = omega (arith, most, ap most_faults added)

earlier_most : (start now : Scene) (earlier moments : List Snapshot) → Each (HasNoFault now) earlier → newest_count folder_count start moments ≤ now.folder_faults → newest_count folder_count start (earlier ++ moments) ≤ now.folder_faults
earlier_most start now [] moments each least = least
earlier_most start now (m ∷ ms) moments each least = omega (arith, each.0.folder)

-- the last call failed, and none before it
rose_after : (start now new : Scene) (moments : List Snapshot) → now.trace ≡ moments ++ start.trace → start.folder_faults ≤ now.folder_faults → most_faults now.trace ≤ now.folder_faults → FailsLast now new → HasRisen now.folder_faults new.folder_faults
    → RoseLast folder_count start new
rose_after start now new moments added later most fails rose = record {
  last = fails.last;
  earlier = fails.earlier ++ moments;
  one = fails.one;
  is = fails.is ∙ ap (λ (ms : List Snapshot). fails.last ++ ms) (ap (λ (ms : List Snapshot). fails.earlier ++ ms) added ∙ sym (append_assoc fails.earlier moments start.trace));
  rose = risen_after (earlier_most start now fails.earlier moments fails.quiet (newest_most start now moments added later most)) rose;
}

-- What asking a session for its summary did.
pub record HasSummed (tells : Tells) (now new : Scene) (session after : Session) : Type 0 where
  pub frame : ReadsFolder now new
  pub later : now.folder_faults ≤ new.folder_faults
  pub looks : IsTrue tells.folder → Looks now new
  pub reads : IsTrue tells.folder → JustReads now new
  pub counts : IsTrue tells.folder → NeverFalls now new
  pub counted : IsTrue tells.folder → most_faults now.trace ≤ now.folder_faults
  pub names : names_of after ≡ names_of session
  pub fits : IsTrue tells.folder → (state : SessionState) (syncs : List Sync) → Fits session now.folder state syncs → Fits after new.folder state syncs

module _ (OfHost : Scene → Type 0) (tells : Tells) (old now : Scene) (session : Session) (marks : List Mark) (clean : Bool) (commands : List Instruction) (turn : IsStressTurn OfHost tells old now session marks clean commands) where
  first_are : (told : TellsStress tells) (count : ℕ) (rest : List Instruction) → stress_commands count ≡ commands ++ rest → stress_commands count ≡ commands_then (turn.told told).0 rest
  first_are told count rest is = is ∙ sym (ap (λ (l : List Instruction). l ++ rest) (turn.told told).1) ∙ sym (commands_are (turn.told told).0 rest)

  moments_now : (told : TellsStress tells) (line : List ℕ) → let here = turn.told told in Each (IsStressMoment names old (stress_document old) (stress_turns old here.0) line) here.2.moments
  moments_now told line =
      let here = turn.told told in
      let turns = stress_turns old here.0 in
      Each-weaker (IsBeforeLine names old (stress_document old) turns) (IsStressMoment names old (stress_document old) turns line) (λ m is. at_moment old (stress_document old) turns line m is) here.2.moments here.2.safe

  safe_now : (told : TellsStress tells) (line : List ℕ) → let here = turn.told told in IsStressSafe names old now (stress_document old) (stress_turns old here.0) line
  safe_now told line =
      let here = turn.told told in record { moments = here.2.moments; added = here.2.added; safe = moments_now told line; spared = here.2.spared }

  -- the run stops before it writes the line
  pub stops : (count : ℕ) (end : Ending) → (told : TellsStress tells) → (row end).stressed (HasRunTo OfHost old (turn.told told).0) count old now marks (did_of (turn.told told).0) → (row end).last old now → HasStress OfHost count old now end marks
  stops count end told answered last =
      let here = turn.told told in
      record {
        did = did_of here.0;
        kept = here.2.kept;
        answered = answered;
        safe = λ free. safe_now told (stress_line count old here.0);
        last = last;
        calls = here.2.calls;
      }

  -- there is no memory
  pub no_memory : (count : ℕ) (rest : List Instruction) → stress_commands count ≡ commands ++ rest → RunsStress OfHost tells count old now ending.NoMemory marks
  no_memory count rest is = record {
    told = λ told.
        let here = turn.told told in
        stops count ending.NoMemory told
        (record {
          rest = rest;
          first = first_are told count rest is;
          output = here.2.output;
          closing = refl;
          kept = inr (record { ended = now; ran = here.2.ran; since = inl refl; swap = (session, turn.keeps.names, here.2.fits) });
          cleared = here.2.cleared;
        }) tt;
    swap = λ told same. absurd (cc);
    barred = λ told has. absurd (turn.keeps.free told has);
    file = λ told. tt;
    script = turn.script;
    counts = turn.keeps.counts;
    causes = turn.keeps.causes;
    times = λ told. all_times old now marks (turn.times told);
  }

  -- ---- the summary, for which the text was read

  module _ (seen : Scene) (after : Session) (summed : HasSummed tells now seen session after) where
    same_folder : seen.folder ≡ now.folder
    same_folder = ap (λ (s : Scene). s.folder) summed.frame

    text_read : IsTrue tells.folder → ReadsText now seen
    text_read told = record { looks = summed.looks told; reads = summed.reads told }

    keeps_seen : KeepsOpenFile tells stress_name old seen after marks
    keeps_seen = record {
      free = turn.keeps.free;
      file = turn.keeps.file;
      names = summed.names ∙ turn.keeps.names;
      counts = only_then (counts_of old) (counts_of now) (counts_of seen) turn.keeps.counts
          (record { script = ap (λ (s : Scene). s.script_faults) summed.frame; output = ap (λ (s : Scene). s.out_faults) summed.frame; later = summed.later });
      causes = causes_on (counts_of old) (counts_of now) (counts_of seen) marks summed.later turn.keeps.causes;
    }

    script_seen : seen.script ≡ old.script
    script_seen = ap (λ (s : Scene). s.script) summed.frame ∙ turn.script

    times_seen : IsTrue tells.clock → seen.answers ≡ old.answers ++ map (λ mark. mark.at) marks
    times_seen told = ap (λ (s : Scene). s.answers) summed.frame ∙ turn.times told

    module _ (told : TellsStress tells) where
      abbrev past : Past
      past = (turn.told told).0

      abbrev here : StressTold OfHost old now session marks clean past
      here = (turn.told told).2

      abbrev turns : List Turn
      turns = stress_turns old past

      abbrev syncs : List Sync
      syncs = syncs_of (stress_history old past)

      -- the line as the commands have it
      abbrev told_line : ℕ → List ℕ
      told_line count = stress_line count old past

      fits_seen : Fits after seen.folder (stress_state old past) syncs
      fits_seen = summed.fits told.folder _ _ here.fits

      output_seen : seen.output ≡ old.output
      output_seen = ap (λ (s : Scene). s.output) summed.frame ∙ here.output

      answers_seen : length seen.answers ≡ length old.answers + length turns
      answers_seen = ap (λ (s : Scene). length s.answers) summed.frame ∙ here.answers

      spared_seen : SameAt (is_foreign names) old.folder seen.folder
      spared_seen = subst (λ (d : Disk). SameAt (is_foreign names) old.folder d) (sym same_folder) here.spared

      cleared_seen : LeavesNoneMade old.folder seen.folder
      cleared_seen = subst (λ (d : Disk). LeavesNoneMade old.folder d) (sym same_folder) here.cleared

      moved_seen : BothMoved names seen.folder
      moved_seen = subst (λ (d : Disk). BothMoved names d) (sym same_folder) here.here

      counted_seen : IsCounted output_count old seen
      counted_seen =
          counted_on output_count old now seen
          (goes_weaker (HasCounts now seen) (λ m. m.out_faults ≡ now.out_faults) (λ m counts. counts.out) now.trace seen.trace (summed.counts told.folder).moments)
          (ap (λ (s : Scene). s.out_faults) summed.frame) here.counted

      recovers_now : Recovers names (recoverable (after_turns (opened (stress_document old)) turns)) now.folder
      recovers_now =
          let between : IsBetween names syncs now.folder = subst (λ (n : Names). IsBetween n syncs now.folder) turn.keeps.names (fits_between session.text now.folder _ _ here.fits.stands.text) in
          subst (λ (ss : List Sync). Recovers names (recoverable ss) now.folder) (sym (stress_syncs old past [])) (between_recovers names syncs now.folder between)

      recovers_seen : Recovers names (recoverable (after_turns (opened (stress_document old)) turns)) seen.folder
      recovers_seen = subst (λ (d : Disk). Recovers names (recoverable (after_turns (opened (stress_document old)) turns)) d) (sym same_folder) recovers_now

      -- a moment of the summary
      moment_seen : (line : List ℕ) (m : Snapshot) → Inside now (λ d. d ≡ now.folder) m → IsStressMoment names old (stress_document old) turns line m
      moment_seen line m inside = record {
        spared = subst (λ (d : Disk). SameAt (is_foreign names) old.folder d) (sym inside.folder) here.spared;
        recovers = inr (inr (inl (record {
          answered = inside.answered ∙ here.answers;
          written = (0, inside.output ∙ here.output ∙ sym (append-nil old.output));
          recovers = subst (λ (d : Disk). Recovers names (recoverable (after_turns (opened (stress_document old)) turns)) d) (sym inside.folder) recovers_now;
        })));
      }

      abbrev read_moments : List Snapshot
      read_moments = (summed.looks told.folder).moments.added

      added_seen : seen.trace ≡ (read_moments ++ here.moments) ++ old.trace
      added_seen = (summed.looks told.folder).moments.is ∙ ap (λ (ms : List Snapshot). read_moments ++ ms) here.added ∙ sym (append_assoc read_moments here.moments old.trace)

      moments_seen : (line : List ℕ) → Each (IsStressMoment names old (stress_document old) turns line) (read_moments ++ here.moments)
      moments_seen line =
          Each-append (IsStressMoment names old (stress_document old) turns line) read_moments here.moments
          (Each-weaker (Inside now (λ d. d ≡ now.folder)) (IsStressMoment names old (stress_document old) turns line) (moment_seen line) read_moments (summed.looks told.folder).moments.each)
          (moments_now told line)

      safe_seen : (line : List ℕ) → IsStressSafe names old seen (stress_document old) turns line
      safe_seen line = record { moments = read_moments ++ here.moments; added = added_seen; safe = moments_seen line; spared = spared_seen }

      -- calls that left the folder, after this
      calls_after : (from new : Scene) → from.folder ≡ now.folder → StressCalls old from → GoesOn (λ m. m.folder ≡ from.folder) from.trace new.trace → new.folder ≡ from.folder → StressCalls old new
      calls_after from new same calls goes folder = record {
        moved = goes_then (λ m. length old.answers < m.answered → BothMoved names m.folder) old.trace from.trace new.trace calls.moved
            (goes_weaker (λ m. m.folder ≡ from.folder) (λ m. length old.answers < m.answered → BothMoved names m.folder)
            (λ m is later. subst (λ (d : Disk). BothMoved names d) (sym (is ∙ same)) here.here) from.trace new.trace goes);
        readers = own_then old from new calls.readers (own_still from new goes folder);
      }

      calls_seen : StressCalls old seen
      calls_seen =
          calls_after now seen refl here.calls
          (goes_weaker (Inside now (λ d. d ≡ now.folder)) (λ m. m.folder ≡ now.folder) (λ m inside. inside.folder) now.trace seen.trace (summed.looks told.folder).moments) same_folder

      stops_seen : (count : ℕ) (end : Ending) → (row end).stressed (HasRunTo OfHost old past) count old seen marks (did_of past) → (row end).last old seen → HasStress OfHost count old seen end marks
      stops_seen count end answered last =
          record { did = did_of past; kept = here.kept; answered = answered; safe = λ free. safe_seen (told_line count); last = last; calls = calls_seen }

    -- there is no memory for it
    pub no_memory_then : (count : ℕ) → commands ≡ stress_commands count → (IsTrue tells.folder → Quiet now seen) → RunsStress OfHost tells count old seen ending.NoMemory marks
    no_memory_then count all quiet = record {
      told = λ told.
          stops_seen told count ending.NoMemory
          (record {
            rest = [];
            first = first_are told count [] (sym all ∙ sym (append-nil commands));
            output = output_seen told;
            closing = refl;
            kept = inr (record {
              ended = now;
              ran = (here told).ran;
              since = inr (refl, text_read told.folder, quiet told.folder);
              swap = (after, keeps_seen.names, fits_seen told);
            });
            cleared = cleared_seen told;
          }) tt;
      swap = λ told same. absurd (cc);
      barred = λ told has. absurd (turn.keeps.free told has);
      file = λ told. tt;
      script = script_seen;
      counts = keeps_seen.counts;
      causes = keeps_seen.causes;
      times = λ told. all_times old seen marks (times_seen told);
    }

    -- it failed
    pub no_summary : (count : ℕ) → commands ≡ stress_commands count → HasRisen now.folder_faults seen.folder_faults → (IsTrue tells.folder → FailsLast now seen) → RunsStress OfHost tells count old seen ending.FolderFault marks
    no_summary count all rose last = record {
      told = λ told.
          stops_seen told count ending.FolderFault
          (inr (inl (record {
            all = (turn.told told).1 ∙ all;
            ended = now;
            ran = (here told).ran;
            closes = record { text = text_read told.folder; last = last told.folder };
            output = output_seen told ∙ sym (append-nil old.output);
            cleared = cleared_seen told;
            moved = moved_seen told;
          })))
          (rose_after old now seen (here told).moments (here told).added turn.keeps.counts.later (summed.counted told.folder) (last told.folder) rose);
      swap = λ told same. absurd (cc);
      barred = λ told has. absurd (turn.keeps.free told has);
      file = λ told. tt;
      script = script_seen;
      counts = (risen_after turn.keeps.counts.later rose, keeps_seen.counts);
      causes = keeps_seen.causes;
      times = λ told. all_times old seen marks (times_seen told);
    }

    -- ---- the line

    module _ (count : ℕ) (all : commands ≡ stress_commands count) (quiet : IsTrue tells.folder → Quiet now seen) (line : List ℕ) (some : 0 < length line)
        (line_is : (told : TellsStress tells) → line ≡ stress_line count old (turn.told told).0) where
      -- what is known of the folder after the write of the line, or of a part of it
      put_safe : (new : Scene) → ChangesOutput seen new → (IsTrue tells.folder → IsAdded WroteOutput [] seen new) → (told : TellsStress tells) → (n : ℕ) → new.output ≡ old.output ++ take n (told_line told count)
          → IsStressSafe names old new (stress_document old) (turns told) (told_line told count)
      put_safe new frame added told n output =
          let folder : new.folder ≡ seen.folder = ap (λ (s : Scene). s.folder) frame in
          let spared = subst (λ (d : Disk). SameAt (is_foreign names) old.folder d) (sym folder) (spared_seen told) in
          let last : Snapshot = snapshot_of new WroteOutput [] in
          let moment : IsStressMoment names old (stress_document old) (turns told) (told_line told count) last = record {
            spared = spared;
            recovers = inr (inr (inl (record {
              answered = ap (λ (s : Scene). length s.answers) frame ∙ answers_seen told;
              written = (n, output);
              recovers = subst (λ (d : Disk). Recovers names (recoverable (after_turns (opened (stress_document old)) (turns told))) d) (sym folder) (recovers_seen told);
            })));
          } in
          elim (added told.folder) [
            | inl told_here ↦ record {
              moments = last ∷ (read_moments told ++ (here told).moments);
              added = told_here ∙ ap (λ (ms : List Snapshot). last ∷ ms) (added_seen told);
              safe = (moment, moments_seen told (told_line told count));
              spared = spared;
            }
            | inr left ↦ record { moments = read_moments told ++ (here told).moments; added = left.trace ∙ added_seen told; safe = moments_seen told (told_line told count); spared = spared }
          ]

      -- under the names under which files are made it leaves none
      cleared_by : (new : Scene) → new.folder ≡ seen.folder → (told : TellsStress tells) → LeavesNoneMade old.folder new.folder
      cleared_by new same told = subst (λ (d : Disk). LeavesNoneMade old.folder d) (sym same) (cleared_seen told)

      moved_by : (new : Scene) → new.folder ≡ seen.folder → (told : TellsStress tells) → BothMoved names new.folder
      moved_by new same told = subst (λ (d : Disk). BothMoved names d) (sym same) (moved_seen told)

      -- and of the calls
      put_calls : (new : Scene) → ChangesOutput seen new → (IsTrue tells.folder → IsAdded WroteOutput [] seen new) → (told : TellsStress tells) → StressCalls old new
      put_calls new frame added told =
          let folder : new.folder ≡ seen.folder = ap (λ (s : Scene). s.folder) frame in
          calls_after told seen new same_folder (calls_seen told)
          (elim (added told.folder) [
            | inl told_here ↦ record { added = snapshot_of new WroteOutput [] ∷ []; is = told_here; each = (folder, tt) }
            | inr left ↦ record { added = []; is = left.trace; each = tt }
          ]) folder

      -- the first n bytes of it
      put_writes : (new : Scene) → ChangesOutput seen new → (IsTrue tells.folder → IsAdded WroteOutput [] seen new) → (told : TellsStress tells) → (n : ℕ) → new.output ≡ seen.output ++ take n (told_line told count)
          → Writes n (told_line told count) seen new
      put_writes new frame added told n output = record { output = output; folder = ap (λ (s : Scene). s.folder) frame; faults = ap (λ (s : Scene). s.folder_faults) frame; added = added told.folder }

      -- after the summary
      sums_then : (P : Scene → Scene → Type 0) (new : Scene) → IsTrue tells.folder → P seen new → SumsThen P now new
      sums_then P new told is = record { summed = seen; text = text_read told; none = quiet told; after = is }

      -- a part of it was written
      pub line_cut : (new : Scene) → ChangesOutput seen new → (IsTrue tells.folder → IsAdded WroteOutput [] seen new) → (IsTrue tells.output → (n : ℕ) × (new.output ≡ seen.output ++ take n line)) → HasRisen seen.out_faults new.out_faults
          → RunsStress OfHost tells count old new ending.OutputFault marks
      line_cut new frame added wrote rose =
          let only = only_output seen new frame in
          let before = keeps_seen.counts in
          record {
            told = λ told.
                let cut = wrote told.output in
                let wrote_now : new.output ≡ seen.output ++ take cut.0 (told_line told count) = cut.1 ∙ ap (λ (l : List ℕ). seen.output ++ take cut.0 l) (line_is told) in
                let output : new.output ≡ old.output ++ take cut.0 (told_line told count) = wrote_now ∙ ap (λ (l : List ℕ). l ++ take cut.0 (told_line told count)) (output_seen told) in
                record {
                  did = did_of (past told);
                  kept = (here told).kept;
                  answered = (
                    cut.0,
                    record {
                      all = (turn.told told).1 ∙ all;
                      ended = now;
                      ran = (here told).ran;
                      closes = sums_then (Writes cut.0 (told_line told count)) new told.folder (put_writes new frame added told cut.0 wrote_now);
                      output = output;
                      cleared = cleared_by new (ap (λ (s : Scene). s.folder) frame) told;
                      moved = moved_by new (ap (λ (s : Scene). s.folder) frame) told;
                    },
                  );
                  safe = λ free. put_safe new frame added told cut.0 output;
                  last = rose_at output_count old seen new WroteOutput [] (added told.folder) rose (counted_seen told);
                  calls = put_calls new frame added told;
                };
            swap = λ told same. absurd (cc);
            barred = λ told has. absurd (turn.keeps.free told has);
            file = turn.keeps.file;
            script = ap (λ (s : Scene). s.script) frame ∙ script_seen;
            counts = (
              subst (λ (k : ℕ). HasRisen k new.out_faults) before.output rose,
              record { script = only.script ∙ before.script; output = refl; later = omega (arith, only.later, before.later) },
            );
            causes = causes_on (counts_of old) (counts_of seen) (counts_of new) marks (omega (arith, ap (λ (s : Scene). s.folder_faults) frame)) keeps_seen.causes;
            times = λ told. all_times old new marks (ap (λ (s : Scene). s.answers) frame ∙ times_seen told);
          }

      -- it was written, and the swap files are removed
      module _ (mid new : Scene) (frame : ChangesOutput seen mid) (added : IsTrue tells.folder → IsAdded WroteOutput [] seen mid) (wrote : IsTrue tells.output → mid.output ≡ seen.output ++ line) (calm : mid.out_faults ≡ seen.out_faults)
          (ok : Bool) (finishes : Finishes tells after mid new end.Quit ok) where
        only_mid : OnlyFolder (counts_of old) (counts_of new)
        only_mid =
            let first : OnlyFolder (counts_of seen) (counts_of mid) = record { script = ap (λ (s : Scene). s.script_faults) frame; output = calm; later = omega (arith, ap (λ (s : Scene). s.folder_faults) frame) } in
            only_then (counts_of old) (counts_of mid) (counts_of new) (only_then (counts_of old) (counts_of seen) (counts_of mid) keeps_seen.counts first) (only_folder mid new finishes.frame finishes.cause.later)

        causes_new : All (FaultHasCause (counts_of old) (counts_of new)) marks
        causes_new = causes_on (counts_of old) (counts_of seen) (counts_of new) marks (omega (arith, ap (λ (s : Scene). s.folder_faults) frame, finishes.cause.later)) keeps_seen.causes

        times_new : IsTrue tells.clock → IsTimed old new marks
        times_new told = all_times old new marks (ap (λ (s : Scene). s.answers) finishes.frame ∙ ap (λ (s : Scene). s.answers) frame ∙ times_seen told)

        script_new : new.script ≡ old.script
        script_new = ap (λ (s : Scene). s.script) finishes.frame ∙ ap (λ (s : Scene). s.script) frame ∙ script_seen

        module _ (told : TellsStress tells) where
          abbrev line_told : List ℕ
          line_told = told_line told count

          all_line : take (length line_told) line_told ≡ line_told
          all_line = take_all (length line_told) line_told (omega arith)

          mid_now : mid.output ≡ seen.output ++ line_told
          mid_now = wrote told.output ∙ ap (λ (l : List ℕ). seen.output ++ l) (line_is told)

          mid_output : mid.output ≡ old.output ++ line_told
          mid_output = mid_now ∙ ap (λ (l : List ℕ). l ++ line_told) (output_seen told)

          mid_safe : IsStressSafe names old mid (stress_document old) (turns told) line_told
          mid_safe = put_safe mid frame added told (length line_told) (mid_output ∙ ap (λ (l : List ℕ). old.output ++ l) (sym all_line))

          works : Works names None (RecoversOrNone names (recoverable (syncs told))) mid new
          works =
              subst (λ (n : Names). Works n None (RecoversOrNone n (recoverable (syncs told))) mid new) keeps_seen.names
              (finishes.quit refl told.folder _ (syncs told) (subst (λ (d : Disk). Fits after d (stress_state old (past told)) (syncs told)) (sym (ap (λ (s : Scene). s.folder) frame)) (fits_seen told))).works

          -- a moment of the removal
          abbrev OfRemoval : Snapshot → Type 0
          OfRemoval m = Inside new (Spares names None (RecoversOrNone names (recoverable (syncs told))) mid.folder) m

          removal : (m : Snapshot) → OfRemoval m → IsStressMoment names old (stress_document old) (turns told) line_told m
          removal m inside = record {
            spared = same_then (is_foreign names) old.folder mid.folder m.folder mid_safe.spared inside.folder.spared;
            recovers = inr (inr (inr (record {
              answered = inside.answered ∙ ap (λ (s : Scene). length s.answers) finishes.frame ∙ ap (λ (s : Scene). length s.answers) frame ∙ answers_seen told;
              written = inside.output ∙ works.output ∙ mid_output;
              recovers = subst (λ (ss : List Sync). RecoversOrNone names (recoverable ss) m.folder) (sym (stress_syncs old (past told) [])) inside.folder.folder;
            })));
          }

          end_safe : IsStressSafe names old new (stress_document old) (turns told) line_told
          end_safe =
              let was = mid_safe in
              record {
                moments = works.moments.added ++ was.moments;
                added = works.moments.is ∙ ap (λ (ms : List Snapshot). works.moments.added ++ ms) was.added ∙ sym (append_assoc works.moments.added was.moments old.trace);
                safe = Each-append (IsStressMoment names old (stress_document old) (turns told) line_told) works.moments.added was.moments
                    (Each-weaker OfRemoval (IsStressMoment names old (stress_document old) (turns told) line_told) removal works.moments.added works.moments.each) was.safe;
                spared = same_then (is_foreign names) old.folder mid.folder new.folder was.spared works.spared;
              }

          same_mid : mid.folder ≡ seen.folder
          same_mid = ap (λ (s : Scene). s.folder) frame

          moved_end : GoesOn (λ m. BothMoved names m.folder) mid.trace new.trace × BothMoved names new.folder
          moved_end = subst (λ (n : Names). StaysMoved n mid new) keeps_seen.names (finishes.moved told.folder) (moved_by mid same_mid told)

          end_calls : StressCalls old new
          end_calls =
              let was = put_calls mid frame added told in
              record {
                moved = goes_then (λ m. length old.answers < m.answered → BothMoved names m.folder) old.trace mid.trace new.trace was.moved
                    (goes_weaker (λ m. BothMoved names m.folder) (λ m. length old.answers < m.answered → BothMoved names m.folder) (λ m moved later. moved) mid.trace new.trace moved_end.0);
                readers = own_then old mid new was.readers (own_told tells mid new finishes.modes told.folder);
              }

          stressed : (P : Scene → Scene → Type 0) → P mid new → HasStressed (HasRunTo OfHost old (past told)) (SumsThen (WritesThen P line_told)) count old new (did_of (past told)) line_told
          stressed P removal = record {
            all = (turn.told told).1 ∙ all;
            ended = now;
            ran = (here told).ran;
            closes = sums_then (WritesThen P line_told) new told.folder (record {
              told = mid;
              wrote = put_writes mid frame added told (length line_told) (mid_now ∙ ap (λ (l : List ℕ). seen.output ++ l) (sym all_line));
              moments = inside_any (Spares names None (RecoversOrNone names (recoverable (syncs told))) mid.folder) new mid.trace new.trace works.moments;
              removal = removal;
            });
            output = works.output ∙ mid_output;
            cleared = λ made gone. finishes.cleared told.folder made (cleared_by mid same_mid told made gone);
            moved = moved_end.1;
          }

          counted : IsCounted folder_count old mid
          counted = elim (added told.folder) [
            | inl told_here ↦ (all_counted old seen mid told_here (read_moments told ++ (here told).moments) (added_seen told)).folder
            | inr left ↦ absurd (omega (arith, some, ap (λ (l : List ℕ). length l) left.output, ap (λ (l : List ℕ). length l) (wrote told.output), length-append seen.output line))
          ]

        -- the removal failed
        pub removal_fails : HasRisen mid.folder_faults new.folder_faults → RunsStress OfHost tells count old new ending.FolderFault marks
        removal_fails rose = record {
          told = λ told. record {
            did = did_of (past told);
            kept = (here told).kept;
            answered = inr (inr (stressed told FailsLast (finishes.last told.folder)));
            safe = λ free. end_safe told;
            last = rose_last folder_count old mid new (λ m no_fault. no_fault.folder) (finishes.last told.folder) rose (counted told);
            calls = end_calls told;
          };
          swap = λ told same. absurd (cc);
          barred = λ told has. absurd (turn.keeps.free told has);
          file = λ told. tt;
          script = script_new;
          counts = (risen_after (omega (arith, keeps_seen.counts.later, ap (λ (s : Scene). s.folder_faults) frame)) rose, only_mid);
          causes = causes_new;
          times = times_new;
        }

        -- all is done
        pub stress_ends : ok ≡ true → RunsStress OfHost tells count old new (if clean then ending.Done else ending.WithErrors) marks
        stress_ends done = by_clean clean (λ told. (here told).errors)
          where
            ends_as : (b : Bool) → ((told : TellsStress tells) → b ≡ not (any_error (opened_file old stress_name).state (past told))) → (told : TellsStress tells)
                → StressEnds (HasRunTo OfHost old (past told)) (not b) count old new (did_of (past told))
            ends_as b errors told = record {
              stressed = stressed told Quiet ((finishes.none done).quiet told.folder);
              errors_are = flip_clean b _ (errors told);
              gone = subst (λ (n : Names). IsFresh n new.folder) keeps_seen.names (finishes.gone done refl told.folder);
            }

            by_clean : (b : Bool) → ((told : TellsStress tells) → b ≡ not (any_error (opened_file old stress_name).state (past told)))
                → RunsStress OfHost tells count old new (if b then ending.Done else ending.WithErrors) marks
            by_clean true errors = record {
              told = λ told. record { did = did_of (past told); kept = (here told).kept; answered = ends_as true errors told; safe = λ free. end_safe told; last = tt; calls = end_calls told };
              swap = λ told same. absurd (cc);
              barred = λ told has. absurd (turn.keeps.free told has);
              file = turn.keeps.file;
              script = script_new;
              counts = only_mid;
              causes = causes_new;
              times = times_new;
            }
            by_clean false errors = record {
              told = λ told. record { did = did_of (past told); kept = (here told).kept; answered = ends_as false errors told; safe = λ free. end_safe told; last = tt; calls = end_calls told };
              swap = λ told same. absurd (cc);
              barred = λ told has. absurd (turn.keeps.free told has);
              file = turn.keeps.file;
              script = script_new;
              counts = only_mid;
              causes = causes_new;
              times = times_new;
            }

-- the ending that `?` hands on
pub stress_ending : (OfHost : Scene → Type 0) (tells : Tells) (count : ℕ) (old new : Scene) (marks : List Mark) (r : Result Ending Ending) (one last : Ending) → IsErrAnd r (λ e. e ≡ one) → one ≡ last → RunsStress OfHost tells count old new last marks
    → RunsStress OfHost tells count old new (ending_in r) marks
stress_ending OfHost tells count old new marks (Ok e) one last is same runs = absurd is
stress_ending OfHost tells count old new marks (Err e) one last is same runs = subst (λ (x : Ending). RunsStress OfHost tells count old new x marks) (sym (is ∙ same)) runs

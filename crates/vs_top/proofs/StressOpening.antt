-- The opening of the stress mode, and what comes of it where it fails.
use Rattle.std.proofs.Common.{◌≡◌, ◌⊎◌, inl, inr, ℕ, ◌<◌, true, List, [], length, IsTrue, refl, sym, ap, ◌∙◌, append-nil, arith}
use Rattle.std.proofs.lemmas.List.Elements.{All-nil}
use Rattle.std.specs.Prelude.{⊤}
use Rattle.vs_faults.specs.Faults.{HasRisen, IsQuiet}
use Rattle.vs_host.specs.Names.{names_of_file}
use Rattle.vs_host.specs.Trace.{Snapshot}
use Rattle.vs_host.specs.World.{Tells, Scene, HasNewest, content_of}
use Rattle.vs_host.specs.declared.names.Names.{Names}
use Rattle.vs_disk.specs.Runs.{Inside}
use Rattle.vs_disk.proofs.Runs.{Each-weaker, goes_weaker}
use Rattle.vs_pair.specs.Acts.{Acts}
use Rattle.vs_pair.specs.Steps.{BothMoved}
use Rattle.vs_machine.specs.declared.command.Mark.{Mark}
use Rattle.vs_safety.specs.Turns.{opened}
use Rattle.vs_safety.specs.Causes.{folder_count, output_count}
use Rattle.vs_safety.proofs.Causes.{counted_none, counted_on, rose_last}
use Rattle.vs_session.specs.declared.session.Session.{Session}
use Rattle.vs_session.specs.declared.open.OpenErr.{OpenErr}
use Rattle.vs_session.specs.declared.open.OpenErr.TheVariants as opening
use Rattle.vs_session.specs.Open.{IsTooLarge, OnlyLooks}
use Rattle.vs_session.specs.Fits.{Fits, HasSwap, Opens, names_of}
use Rattle.vs_session.specs.Made.{LeavesNoneMade}
use Rattle.vs_session.proofs.Cleared.{cleared_same}
use Rattle.vs_stress.specs.Commands.{stress_commands}
use Rattle.vs_top.specs.Ending.{open_ending}
use Rattle.vs_top.specs.Promise.{HasStress, RunsStress, row}
use Rattle.vs_top.specs.Run.{FileFits, FaultHasCause, counts_of, opened_file}
use Rattle.vs_top.specs.Stress.{TellsStress, IsBeforeLine, IsStressMoment, stress_line, stress_name, stress_document}
use Rattle.vs_top.specs.StressCalls.{HasRunTo, StressCalls}
use Rattle.vs_top.specs.StressTurns.{IsStressTurn}
use Rattle.vs_top.specs.declared.ending.Ending.{Ending}
use Rattle.vs_top.specs.declared.ending.Ending.TheVariants as ending
use Rattle.vs_top.proofs.Counting.{only_folder}
use Rattle.vs_top.proofs.Edits.{only_looked}
use Rattle.vs_top.proofs.Opening.{did_none, kept_none, no_causes, no_times}
use Rattle.vs_top.proofs.Readers.{own_told}
use Rattle.vs_top.proofs.StressEnds.{at_moment}

abbrev names : Names
names = names_of_file stress_name

module _ (OfHost : Scene → Type 0) (tells : Tells) (old new : Scene) (acts : Acts tells (Opens stress_name) old new) (of_host : OfHost new) where
  before : (free : HasSwap names old.folder → ⊥) → (m : Snapshot) → Inside old (Opens stress_name old.folder) m → IsBeforeLine names old (stress_document old) [] m
  before free m inside = record { spared = inside.folder.spared; recovers = inl (record { answered = inside.answered; written = inside.output; recovers = inside.folder.safe free }) }

  -- no command has begun at any moment, so that nothing is said of the names under which its swap files are made
  calls : TellsStress tells → StressCalls old new
  calls told = record {
    moved = goes_weaker (Inside old (Opens stress_name old.folder)) (λ m. length old.answers < m.answered → BothMoved names m.folder)
        (λ m inside later. absurd (omega (arith, inside.answered, later))) old.trace new.trace (acts.runs told.folder).moments;
    readers = own_told tells old new acts.modes told.folder;
  }

  -- it was not opened
  module _ (count : ℕ) (marks : List Mark) (none : marks ≡ []) where
    stress_none : (end : Ending) → TellsStress tells → (row end).stressed (HasRunTo OfHost old []) count old new marks did_none → (row end).last old new → HasStress OfHost count old new end marks
    stress_none end told answered last = record {
      did = did_none;
      kept = kept_none stress_name old marks none;
      answered = answered;
      safe = λ free.
          let runs = acts.runs told.folder in
          record {
            moments = runs.moments.added;
            added = runs.moments.is;
            safe = Each-weaker (Inside old (Opens stress_name old.folder)) (IsStressMoment names old (stress_document old) [] (stress_line count old [])) (λ m inside. at_moment old (stress_document old) [] (stress_line count old []) m (before free m inside)) runs.moments.added runs.moments.each;
            spared = runs.now.spared;
          };
      last = last;
      calls = calls told;
    }

    output_same : new.output ≡ old.output
    output_same = ap (λ (s : Scene). s.output) acts.frame

    all_quiet : new.folder_faults ≡ old.folder_faults → counts_of new ≡ counts_of old
    all_quiet quiet = ap counts_of acts.frame ∙ ap (λ n. record (counts_of old) { folder = n }) quiet

    pub stress_open_fails : (error : OpenErr) → (error ≡ opening.Failed → HasRisen old.folder_faults new.folder_faults) → IsQuiet old.folder_faults new.folder_faults (error ≡ opening.Failed)
        → ((size : ℕ) → error ≡ opening.TextLimit size → IsTooLarge tells size (content_of old stress_name)) → (error ≡ opening.SwapFound → IsTrue tells.folder → HasSwap names old.folder)
        → (IsTrue tells.folder → HasSwap names old.folder → (error ≡ opening.SwapFound) ⊎ (error ≡ opening.Failed) ⊎ (error ≡ opening.NoMemory))
        → (IsTrue tells.folder → HasSwap names old.folder → OnlyLooks tells old new) → ((error ≡ opening.Failed → ⊥) → OnlyLooks tells old new) → RunsStress OfHost tells count old new (open_ending error) marks
    stress_open_fails opening.SwapFound failed quiet limit swap barred barred_looks looks = record {
      told = λ told. stress_none ending.SwapFound told (record { none = none; output = output_same }) ((looks (λ is. absurd (cc))).runs told.folder);
      swap = λ told is. swap refl told;
      barred = λ told has. only_looked tells old new ending.SwapFound marks (inl refl) none (barred_looks told has) told;
      file = λ told. tt;
      script = ap (λ (s : Scene). s.script) acts.frame;
      counts = all_quiet (quiet (λ is. absurd (cc)));
      causes = no_causes (counts_of old) (counts_of new) marks none;
      times = λ told. no_times old new marks none (ap (λ (s : Scene). s.answers) acts.frame);
    }
    stress_open_fails opening.Failed failed quiet limit swap barred barred_looks looks = record {
      told = λ told. stress_none ending.FolderFault told (inl (record { none = none; output = output_same }, (acts.runs told.folder).now))
          (rose_last folder_count old old new (λ m no_fault. no_fault.folder) (acts.last told.folder) (failed refl) (counted_none folder_count old));
      swap = λ told is. absurd (cc);
      barred = λ told has. only_looked tells old new ending.FolderFault marks (inr (inr refl)) none (barred_looks told has) told;
      file = λ told. tt;
      script = ap (λ (s : Scene). s.script) acts.frame;
      counts = (failed refl, only_folder old new acts.frame acts.later);
      causes = no_causes (counts_of old) (counts_of new) marks none;
      times = λ told. no_times old new marks none (ap (λ (s : Scene). s.answers) acts.frame);
    }
    stress_open_fails opening.NoMemory failed quiet limit swap barred barred_looks looks = record {
      told = λ told. stress_none ending.NoMemory told (record { rest = stress_commands count; first = refl; output = output_same; closing = refl; kept = inl (record { none = refl; looks = (looks (λ is. absurd (cc))).runs told.folder; quiet = quiet (λ is. absurd (cc)) }); cleared = cleared_same old.folder new.folder ((looks (λ is. absurd (cc))).runs told.folder).now }) tt;
      swap = λ told is. absurd (cc);
      barred = λ told has. only_looked tells old new ending.NoMemory marks (inr (inl refl)) none (barred_looks told has) told;
      file = λ told. tt;
      script = ap (λ (s : Scene). s.script) acts.frame;
      counts = only_folder old new acts.frame acts.later;
      causes = no_causes (counts_of old) (counts_of new) marks none;
      times = λ told. no_times old new marks none (ap (λ (s : Scene). s.answers) acts.frame);
    }
    stress_open_fails (opening.TextLimit size) failed quiet limit swap barred barred_looks looks = record {
      told = λ told. stress_none (ending.TextLimit size) told (record { none = none; output = output_same }) ((looks (λ is. absurd (cc))).runs told.folder);
      swap = λ told is. absurd (cc);
      barred = λ told has. elim (barred told has) [ inl is ↦ absurd (cc) | inr more ↦ elim more [ inl is ↦ absurd (cc) | inr is ↦ absurd (cc) ] ];
      file = λ told. (limit size refl).passes told;
      script = ap (λ (s : Scene). s.script) acts.frame;
      counts = all_quiet (quiet (λ is. absurd (cc)));
      causes = no_causes (counts_of old) (counts_of new) marks none;
      times = λ told. no_times old new marks none (ap (λ (s : Scene). s.answers) acts.frame);
    }

  -- it was opened
  pub stress_opened : (session : Session) → names_of session ≡ names → (IsTrue tells.folder → HasSwap names old.folder → ⊥) → (IsTrue tells.folder → FileFits (content_of old stress_name))
      → (IsTrue tells.folder → Fits session new.folder (opened_file old stress_name).state (opened (stress_document old))) → (IsTrue tells.folder → HasNewest new) → new.folder_faults ≡ old.folder_faults
      → (IsTrue tells.folder → LeavesNoneMade old.folder new.folder) → (IsTrue tells.folder → BothMoved names new.folder) → IsStressTurn OfHost tells old new session [] true []
  stress_opened session same free file fits newest none cleared moved = record {
    told = λ told.
        let runs = acts.runs told.folder in (
          [],
          refl,
          record {
            kept = record { marks_are = refl; are_answered = tt };
            errors = refl;
            fits = fits told.folder;
            moments = runs.moments.added;
            added = runs.moments.is;
            safe = Each-weaker (Inside old (Opens stress_name old.folder)) (IsBeforeLine names old (stress_document old) []) (before (free told.folder)) runs.moments.added runs.moments.each;
            spared = runs.now.spared;
            ran = (
              record {
                of_host = of_host;
                newest = newest told.folder;
                clock = ap (λ (s : Scene). s.answers) acts.frame ∙ sym (append-nil old.answers);
                output = ap (λ (s : Scene). s.output) acts.frame;
                moments = goes_weaker (Inside old (Opens stress_name old.folder)) (Inside new (λ folder. ⊤))
                    (λ m inside. record {
                      output = inside.output ∙ sym (ap (λ (s : Scene). s.output) acts.frame);
                      answered = inside.answered ∙ sym (ap (λ (s : Scene). length s.answers) acts.frame);
                      script_faults = inside.script_faults ∙ sym (ap (λ (s : Scene). s.script_faults) acts.frame);
                      out_faults = inside.out_faults ∙ sym (ap (λ (s : Scene). s.out_faults) acts.frame);
                      folder = tt;
                    }) old.trace new.trace runs.moments;
              },
              record { last = acts.last told.folder; none = none; cleared = cleared told.folder; moved = moved told.folder; readers = own_told tells old new acts.modes told.folder },
            );
            calls = calls told;
            cleared = cleared told.folder;
            here = moved told.folder;
            output = ap (λ (s : Scene). s.output) acts.frame;
            answers = omega (arith, ap (λ (s : Scene). length s.answers) acts.frame);
            counted = counted_on output_count old old new
                (record {
                  added = runs.moments.added;
                  is = runs.moments.is;
                  each = Each-weaker (Inside old (Opens stress_name old.folder)) (λ m. m.out_faults ≡ old.out_faults) (λ m inside. inside.out_faults) runs.moments.added runs.moments.each;
                })
                (ap (λ (s : Scene). s.out_faults) acts.frame) (counted_none output_count old);
          },
        );
    keeps = record { free = free; file = file; names = same; counts = only_folder old new acts.frame acts.later; causes = All-nil (FaultHasCause (counts_of old) (counts_of new)) };
    script = ap (λ (s : Scene). s.script) acts.frame;
    times = λ told. ap (λ (s : Scene). s.answers) acts.frame ∙ sym (append-nil old.answers);
  }

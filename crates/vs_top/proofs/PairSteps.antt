-- What is known of a run of two sessions after each kind of answer, or where the run ends in it.
use Rattle.std.proofs.Common.{◌≡◌, inl, ℕ, ◌<◌, Bool, true, false, not, ◌&&◌, ◌||◌, List, [], ◌∷◌, ◌++◌, length, Option, Some, None, refl, sym, ap, subst, ◌∙◌}
use Rattle.vs_host.specs.Disk.{Disk}
use Rattle.vs_host.specs.Names.{names_of_file}
use Rattle.vs_host.specs.World.{Tells, Scene}
use Rattle.vs_host.specs.declared.names.Names.{Names}
use Rattle.vs_pair.specs.Steps.{IsFresh}
use Rattle.vs_excmd.specs.Request.{Instruction}
use Rattle.vs_family.specs.declared.which.Which.{Which}
use Rattle.vs_family.specs.declared.which.Which.TheVariants as which
use Rattle.vs_machine.specs.Machine.{is_done}
use Rattle.vs_machine.specs.Replies.{Answer as Reply}
use Rattle.vs_machine.specs.declared.command.Mark.{Mark}
use Rattle.vs_safety.specs.Texts.{RecoversOrNone, recoverable}
use Rattle.vs_safety.specs.Turns.{last_turn}
use Rattle.vs_safety.specs.Safety.{Looks, Stepped, Works}
use Rattle.vs_safety.specs.History.{History, syncs_of}
use Rattle.vs_safety.specs.Causes.{folder_count}
use Rattle.vs_safety.proofs.Causes.{rose_last}
use Rattle.vs_safety.proofs.Replies.{wrote_none}
use Rattle.vs_tagged.specs.Tagged.{WritesTagged}
use Rattle.vs_both.specs.Beside.{of_others}
use Rattle.vs_both.specs.Both.{Running, with_turn}
use Rattle.vs_both.proofs.Both.{both_look}
use Rattle.vs_session.specs.declared.ending.End.{End}
use Rattle.vs_session.specs.declared.ending.End.TheVariants as end
use Rattle.vs_session.specs.declared.session.Session.{Session}
use Rattle.vs_session.specs.Calls.{Finishes}
use Rattle.vs_session.specs.Modes.{KeepsReaders}
use Rattle.vs_session.specs.Fits.{Answers, Fits, SameFile, StepsIn, names_of}
use Rattle.vs_session.specs.Session.{SessionState, Ended, accepts_quit, reply_of, state_after, sync_in, turn_of}
use Rattle.vs_multi.specs.declared.multi.Multi.{Multi}
use Rattle.vs_multi.specs.Multi.{other, session_of}
use Rattle.vs_multi.specs.Sessions.{Stays}
use Rattle.vs_top.specs.Run.{TellsRun}
use Rattle.vs_top.specs.Tags.{tagged_for}
use Rattle.vs_top.specs.Turns.{AreCounted}
use Rattle.vs_top.specs.History.{CommandRun}
use Rattle.vs_top.specs.PairHistory as history
use Rattle.vs_top.specs.PairHistory.{Answered, Left, AfterQuit, OfNone, Preserved, BothFiles, MayAnswer, WasSynced, file_for, has_error, marks_of_both, reply_after, stage_of, state_for}
use Rattle.vs_top.specs.PairScript.{IsTranscript, Source, Transcript, answers_of, taking}
use Rattle.vs_top.specs.PairPromise.{HasFailed, HasRunBoth, MakesReadableBoth, files_in, party_for}
use Rattle.vs_top.specs.PairTurns.{AsksEnd, AsksFor, HasCommand, IsInState, ToldPair, last_answer}
use Rattle.vs_top.specs.Readers.{MakesOwn}
use Rattle.vs_top.specs.declared.ending.Ending.TheVariants as ending
use Rattle.vs_top.proofs.Closing.{fresh_image, line_of}
use Rattle.vs_top.proofs.Pushes.{and_not}
use Rattle.vs_top.proofs.PairReaders.{both_own}
use Rattle.vs_top.proofs.PairStages.{others_look}
use Rattle.vs_top.proofs.Readers.{own_looks, own_told}
use Rattle.vs_top.proofs.PairAnswers.{Carried, KeepsFit, KeptUnder, cut_both, failed_both, in_state_none, in_state_on, running_of, whole_both}
use Rattle.vs_top.proofs.PairCarried.{carried_after, carried_command, carried_none, carried_quit, carried_sync, ended_some, none_some, preserved_some, quit_some, quit_under}

or_false : (a : Bool) → (a || false) ≡ a
or_false true = refl
or_false false = refl

or_true : (a : Bool) → (a || true) ≡ true
or_true true = refl
or_true false = refl

-- what holds of a session and of the other one holds of both
pub both_cases : (P : Which → Type 0) (session : Which) → P session → P (other session) → (each : Which) → P each
both_cases P which.One own next which.One = own
both_cases P which.One own next which.Two = next
both_cases P which.Two own next which.One = next
both_cases P which.Two own next which.Two = own

-- where the folder is as it was, each session fits it
pub stays_same : (tells : Tells) (session : Option Session) (old new : Disk) → new ≡ old → KeepsFit tells session old new
stays_same tells None old new same = tt
stays_same tells (Some s) old new same = λ told state syncs fits. subst (λ (d : Disk). Fits s d state syncs) (sym same) fits

stays_then : (tells : Tells) (session : Option Session) (old mid new : Disk) → KeepsFit tells session old mid → new ≡ mid → KeepsFit tells session old new
stays_then tells session old mid new stays same = subst (λ (d : Disk). KeepsFit tells session old d) (sym same) stays

-- a session that stays fits the folder
pub fit_stays : (tells : Tells) (session : Option Session) (old new : Scene) → Stays tells session old new → KeepsFit tells session old.folder new.folder
fit_stays tells None old new stays = tt
fit_stays tells (Some s) old new stays = stays.fits

module _ (tells : Tells) (told : TellsRun tells) (one two : List ℕ) (old now : Scene) (multi : Multi) (marks : List Mark) (clean : Bool) (transcript : Transcript)
    (here : ToldPair one two old now multi marks clean transcript) where
  abbrev files : BothFiles
  files = files_in old one two

  abbrev answers : history.AnswerList
  answers = answers_of transcript

  -- ---- calls that only looked

  pub told_looks : (new : Scene) (multi' : Multi) → Looks now new → AreCounted old new
      → ((session : Which) → IsInState (file_for session files) (session_of session multi') (state_for session files answers) (stage_of session files answers) new.folder)
      → ToldPair one two old new multi' marks clean transcript
  told_looks new multi' looks counted in_state = record {
    beside = here.beside;
    settled = here.settled;
    read = here.read;
    may = here.may;
    kept = here.kept;
    synced = here.synced;
    errors = here.errors;
    output = looks.output ∙ here.output;
    both = both_look (party_for which.One files) (party_for which.Two files) old now (stage_of which.One files answers) (stage_of which.Two files answers) here.both new looks;
    in_state = in_state;
    counted = counted;
    others = others_look one two old now new here.others looks;
    readers = both_own files answers old now new here.readers (own_looks now new looks);
  }

  -- ---- an answer that is no command's

  module _ (source : Source) (Failed : Type 0) (new : Scene) where
    in_state_said : (reply : List ℕ) → WritesTagged tells reply Failed now new → (session : Which)
        → IsInState (file_for session files) (session_of session multi) (state_for session files answers) (with_turn (stage_of session files answers) (of_others reply)) new.folder
    in_state_said reply puts session =
        in_state_on tells told.folder (file_for session files) (session_of session multi) (state_for session files answers) (stage_of session files answers) now.folder new.folder reply
        (stays_same tells (session_of session multi) now.folder new.folder (ap (λ (s : Scene). s.folder) puts.frame)) (here.in_state session)

    may_none : MayAnswer files (OfNone ∷ answers)
    may_none = record { one = here.may.one; two = here.may.two; quits = (tt, here.may.quits) }

    pub said_none : IsTranscript old.script (taking source OfNone ∷ transcript) → WritesTagged tells (reply_after files answers OfNone) Failed now new → ¬ Failed
        → ToldPair one two old new multi marks false (taking source OfNone ∷ transcript)
    said_none read puts calm =
        whole_both tells told one two old now now multi marks clean transcript here source OfNone read may_none marks here.kept (carried_none one two old now multi marks clean transcript here)
        tt Failed new puts calm none_some multi false (ap not (sym (or_true (has_error files answers)))) (in_state_said (reply_after files answers OfNone) puts)

    pub cut_none : IsTranscript old.script (taking source OfNone ∷ transcript) → WritesTagged tells (reply_after files answers OfNone) Failed now new → Failed
        → HasRunBoth one two old new ending.OutputFault marks
    cut_none read puts failed =
        cut_both tells told one two old now now multi marks clean transcript here source OfNone read may_none marks here.kept (carried_none one two old now multi marks clean transcript here)
        tt Failed new puts failed

    may_after : (session : Which) → MayAnswer files (AfterQuit session ∷ answers)
    may_after session = record { one = here.may.one; two = here.may.two; quits = (tt, here.may.quits) }

    pub said_after : (session : Which) → IsTranscript old.script (taking source (AfterQuit session) ∷ transcript) → WritesTagged tells (reply_after files answers (AfterQuit session)) Failed now new → ¬ Failed
        → ToldPair one two old new multi marks false (taking source (AfterQuit session) ∷ transcript)
    said_after session read puts calm =
        whole_both tells told one two old now now multi marks clean transcript here source (AfterQuit session) read (may_after session) marks here.kept
        (carried_after one two old now multi marks clean transcript here session) tt Failed new puts calm (ended_some session) multi false (ap not (sym (or_true (has_error files answers))))
        (in_state_said (reply_after files answers (AfterQuit session)) puts)

    pub cut_after : (session : Which) → IsTranscript old.script (taking source (AfterQuit session) ∷ transcript) → WritesTagged tells (reply_after files answers (AfterQuit session)) Failed now new → Failed
        → HasRunBoth one two old new ending.OutputFault marks
    cut_after session read puts failed =
        cut_both tells told one two old now now multi marks clean transcript here source (AfterQuit session) read (may_after session) marks here.kept
        (carried_after one two old now multi marks clean transcript here session) tt Failed new puts failed

  -- ---- what the other session sees of an answer to one

  abbrev Seen : Which → history.PairAnswer → Type 0
  Seen session answer =
      (stage_of (other session) files (answer ∷ answers) ≡ with_turn (stage_of (other session) files answers) (of_others (reply_after files answers answer)))
      × (state_for (other session) files (answer ∷ answers) ≡ state_for (other session) files answers)

  seen_command : (session : Which) (run : CommandRun) → Seen session (Answered session run)
  seen_command which.One run = (refl, refl)
  seen_command which.Two run = (refl, refl)

  seen_last : (how : End) (session : Which) (quit : Instruction) (synced : Bool) → Seen session (last_answer how session quit synced)
  seen_last end.Sync which.One quit synced = (refl, refl)
  seen_last end.Sync which.Two quit synced = (refl, refl)
  seen_last end.Quit which.One quit synced = (refl, refl)
  seen_last end.Quit which.Two quit synced = (refl, refl)

  in_other : (session : Which) (answer : history.PairAnswer) (multi' : Multi) (folder : Disk) → Seen session answer → session_of (other session) multi' ≡ session_of (other session) multi
      → KeepsFit tells (session_of (other session) multi) now.folder folder
      → IsInState (file_for (other session) files) (session_of (other session) multi') (state_for (other session) files (answer ∷ answers)) (stage_of (other session) files (answer ∷ answers)) folder
  in_other session answer multi' folder seen same stays =
      let next : Which = other session in
      let base = in_state_on tells told.folder (file_for next files) (session_of next multi) (state_for next files answers) (stage_of next files answers) now.folder folder (reply_after files answers answer) stays (here.in_state next) in
      subst (λ (s : Option Session). IsInState (file_for next files) s (state_for next files (answer ∷ answers)) (stage_of next files (answer ∷ answers)) folder) (sym same)
      (subst (λ (s : SessionState). IsInState (file_for next files) (session_of next multi) s (stage_of next files (answer ∷ answers)) folder) (sym seen.1)
      (subst (λ (s : Rattle.vs_both.specs.Both.PartyStage). IsInState (file_for next files) (session_of next multi) (state_for next files answers) s folder) (sym seen.0) base))

  -- ---- a session that is open

  module _ (session : Which) (s : Session) (is_open : session_of session multi ≡ Some s) where
    pub running : (past : History) × (stage_of session files answers ≡ Running past) × (names_of s ≡ names_of_file (file_for session files).name)
        × Fits s now.folder (state_for session files answers) (syncs_of past)
    running =
        running_of (file_for session files) s (state_for session files answers) (stage_of session files answers) now.folder
        (subst (λ (o : Option Session). IsInState (file_for session files) o (state_for session files answers) (stage_of session files answers) now.folder) is_open (here.in_state session))

    -- ---- its end

    module _ (how : End) (source : Source) (quit : Instruction) (asks : AsksEnd session how old.script transcript source (state_for session files answers) quit) (mid : Scene) where
      abbrev names : Names
      names = (party_for session files).names

      syncs_stepped : (how : End) (done : Bool) → how ≡ end.Sync → Finishes tells s now mid how done → Stepped names (syncs_of running.0) (last_turn (sync_in (state_for session files answers) done)) now mid
      syncs_stepped how done is finishes =
          subst (λ (n : Names). Stepped n (syncs_of running.0) (last_turn (sync_in (state_for session files answers) done)) now mid) running.2
          (finishes.sync is told.folder (state_for session files answers) (syncs_of running.0) running.3)

      removes : (how : End) (done : Bool) → how ≡ end.Quit → Finishes tells s now mid how done → Works names None (RecoversOrNone names (recoverable (syncs_of running.0))) now mid
      removes how done is finishes =
          subst (λ (n : Names). Works n None (RecoversOrNone n (recoverable (syncs_of running.0))) now mid) running.2
          (finishes.quit is told.folder (state_for session files answers) (syncs_of running.0) running.3).works

      own_end : {how : End} {done : Bool} → Finishes tells s now mid how done → MakesOwn now mid
      own_end finishes = own_told tells now mid finishes.modes told.folder

      carried_end : (how : End) → Finishes tells s now mid how true → Carried one two old now mid answers (last_answer how session quit true)
      carried_end end.Sync finishes =
          carried_sync one two old now multi marks clean transcript here mid (ap (λ (x : Scene). x.out_faults) finishes.frame) running.0 true session running.1 (own_end finishes) (syncs_stepped end.Sync true refl finishes)
      carried_end end.Quit finishes =
          carried_quit one two old now multi marks clean transcript here mid running.0 quit (ap (λ (x : Scene). x.out_faults) finishes.frame) session running.1 (own_end finishes) (removes end.Quit true refl finishes)
          (fresh_image names mid.folder (subst (λ (n : Names). IsFresh n mid.folder) running.2 (finishes.gone refl refl told.folder)))

      kept_end : (how : End) → Finishes tells s now mid how false → KeptUnder one two old mid answers (last_answer how session quit false)
      kept_end end.Sync finishes =
          (carried_sync one two old now multi marks clean transcript here mid (ap (λ (x : Scene). x.out_faults) finishes.frame) running.0 false session running.1 (own_end finishes) (syncs_stepped end.Sync false refl finishes)).cut
          mid [] (wrote_none mid) (reply_after files answers (Preserved session false), refl)
      kept_end end.Quit finishes =
          quit_under one two old now multi marks clean transcript here mid running.0 quit session running.1 (removes end.Quit false refl finishes) mid [] (wrote_none mid)
          (reply_after files answers (Left session quit), refl) (inl (record { folder = refl; output = refl; trace = refl }))

      others_end : (how : End) (done : Bool) → Finishes tells s now mid how done → Rattle.vs_top.specs.PairPromise.LeavesOthers one two old mid
      others_end end.Sync done finishes =
          (carried_sync one two old now multi marks clean transcript here mid (ap (λ (x : Scene). x.out_faults) finishes.frame) running.0 done session running.1 (own_end finishes) (syncs_stepped end.Sync done refl finishes)).others
      others_end end.Quit done finishes = worked session (removes end.Quit done refl finishes)
        where
          worked : (which : Which) → Works (party_for which files).names None (RecoversOrNone (party_for which files).names (recoverable (syncs_of running.0))) now mid → Rattle.vs_top.specs.PairPromise.LeavesOthers one two old mid
          worked which.One works =
              Rattle.vs_top.proofs.PairStages.others_worked one two old now mid here.others (party_for which.One files) here.beside.first (Rattle.vs_top.proofs.PairStages.outside_one one two) here.settled None _ works
          worked which.Two works =
              Rattle.vs_top.proofs.PairStages.others_worked one two old now mid here.others (party_for which.Two files) here.beside.second (Rattle.vs_top.proofs.PairStages.outside_two one two) here.settled None _ works

      readers_end : (how : End) (done : Bool) → Finishes tells s now mid how done → MakesReadableBoth files (last_answer how session quit done ∷ answers) old mid
      readers_end end.Sync done finishes = both_own files answers old now mid here.readers (own_end finishes)
      readers_end end.Quit done finishes = both_own files answers old now mid here.readers (own_end finishes)

      may_end : (how : End) (synced : Bool) → Rattle.vs_top.specs.PairTurns.MayEnd how (state_for session files answers) quit → MayAnswer files (last_answer how session quit synced ∷ answers)
      may_end end.Sync synced may = record { one = here.may.one; two = here.may.two; quits = (tt, here.may.quits) }
      may_end end.Quit synced may = record { one = here.may.one; two = here.may.two; quits = (may, here.may.quits) }

      marks_end : (how : End) (synced : Bool) → marks ≡ marks_of_both (last_answer how session quit synced ∷ answers)
      marks_end end.Sync synced = here.kept
      marks_end end.Quit synced = here.kept

      errors_end : (how : End) (synced : Bool) → clean ≡ not (has_error files (last_answer how session quit synced ∷ answers))
      errors_end end.Sync synced = here.errors ∙ ap not (sym (or_false (has_error files answers)))
      errors_end end.Quit synced = here.errors ∙ ap not (sym (or_false (has_error files answers)))

      was_synced : (how : End) → WasSynced (last_answer how session quit true)
      was_synced end.Sync = refl
      was_synced end.Quit = tt

      has_failed : (how : End) → HasFailed (last_answer how session quit false)
      has_failed end.Sync = refl
      has_failed end.Quit = tt

      line_some : (how : End) → 0 < length (reply_after files answers (last_answer how session quit true))
      line_some end.Sync = preserved_some session
      line_some end.Quit = quit_some session

      -- it failed
      pub end_fails : Finishes tells s now mid how false → HasRunBoth one two old mid ending.FolderFault marks
      end_fails finishes =
          failed_both tells told one two old now mid multi marks clean transcript here source (last_answer how session quit false) (asks.read false) (may_end how false asks.may) (marks_end how false) (has_failed how)
          (ap (λ (x : Scene). x.output) finishes.frame) (others_end how false finishes) (readers_end how false finishes) (kept_end how finishes)
          (rose_last folder_count old now mid (λ m none. none.folder) (finishes.last told.folder) (finishes.cause.risen refl) here.counted.folder)

      line_tagged : (how : End) → tagged_for session (line_of how) ≡ reply_after files answers (last_answer how session quit true)
      line_tagged end.Sync = refl
      line_tagged end.Quit = refl

      module _ (finishes : Finishes tells s now mid how true) (bytes : List ℕ) (line : bytes ≡ line_of how) (Failed : Type 0) (new : Scene) (puts : WritesTagged tells (tagged_for session bytes) Failed mid new) where
        puts_line : WritesTagged tells (reply_after files answers (last_answer how session quit true)) Failed mid new
        puts_line = subst (λ (l : List ℕ). WritesTagged tells l Failed mid new) (ap (tagged_for session) line ∙ line_tagged how) puts

        pub end_cut : Failed → HasRunBoth one two old new ending.OutputFault marks
        end_cut failed =
            cut_both tells told one two old now mid multi marks clean transcript here source (last_answer how session quit true) (asks.read true) (may_end how true asks.may) marks (marks_end how true) (carried_end how finishes)
            (was_synced how) Failed new puts_line failed

        pub end_whole : ¬ Failed → (multi' : Multi) → session_of session multi' ≡ None → session_of (other session) multi' ≡ session_of (other session) multi
            → KeepsFit tells (session_of (other session) multi) now.folder mid.folder → ToldPair one two old new multi' marks clean (taking source (last_answer how session quit true) ∷ transcript)
        end_whole calm multi' gone same stays =
            let answer : history.PairAnswer = last_answer how session quit true in
            whole_both tells told one two old now mid multi marks clean transcript here source answer (asks.read true) (may_end how true asks.may) marks (marks_end how true) (carried_end how finishes)
            (was_synced how) Failed new puts_line calm (line_some how) multi' clean (errors_end how true)
            (both_cases (λ w. IsInState (file_for w files) (session_of w multi') (state_for w files (answer ∷ answers)) (stage_of w files (answer ∷ answers)) new.folder) session
            (in_state_none (file_for session files) (session_of session multi') (state_for session files (answer ∷ answers)) (stage_of session files (answer ∷ answers)) new.folder gone)
            (in_other session answer multi' new.folder (seen_last how session quit true) same
            (stays_then tells (session_of (other session) multi) now.folder mid.folder new.folder stays (ap (λ (x : Scene). x.folder) puts.frame))))

    -- ---- its command

    module _ (source : Source) (command : Instruction) (asks : AsksFor session old.script transcript source command) (after : Session) (multi' : Multi) (is_after : session_of session multi' ≡ Some after)
        (same : session_of (other session) multi' ≡ session_of (other session) multi) (stepped : Scene) (frame : StepsIn now stepped) (stays : KeepsFit tells (session_of (other session) multi) now.folder stepped.folder) where
      -- it was an accepted quit
      pub quit_told : (after ≡ s) → stepped.trace ≡ now.trace → stepped.folder ≡ now.folder → stepped.folder_faults ≡ now.folder_faults → ToldPair one two old stepped multi' marks clean transcript
      quit_told kept trace folder faults =
          told_looks stepped multi' (record {
            moments = record { added = []; is = trace; each = tt };
            output = ap (λ (x : Scene). x.output) frame;
            folder = folder;
            faults = faults;
          })
          (record {
            script = record { moments = here.counted.script.moments; added = trace ∙ here.counted.script.added; newest = here.counted.script.newest ∙ sym (ap (λ (x : Scene). x.script_faults) frame) };
            output = record { moments = here.counted.output.moments; added = trace ∙ here.counted.output.added; newest = here.counted.output.newest ∙ sym (ap (λ (x : Scene). x.out_faults) frame) };
            folder = record { moments = here.counted.folder.moments; added = trace ∙ here.counted.folder.added; newest = here.counted.folder.newest ∙ sym faults };
          })
          (both_cases (λ w. IsInState (file_for w files) (session_of w multi') (state_for w files answers) (stage_of w files answers) stepped.folder) session
          (as_it_was session (is_after ∙ ap (λ (x : Session). Some x) kept ∙ sym is_open)) (as_it_was (other session) same))
        where
          as_it_was : (w : Which) → session_of w multi' ≡ session_of w multi → IsInState (file_for w files) (session_of w multi') (state_for w files answers) (stage_of w files answers) stepped.folder
          as_it_was w is =
              subst (λ (o : Option Session). IsInState (file_for w files) o (state_for w files answers) (stage_of w files answers) stepped.folder) (sym is)
              (subst (λ (d : Disk). IsInState (file_for w files) (session_of w multi) (state_for w files answers) (stage_of w files answers) d) (sym folder) (here.in_state w))

      module _ (mark : Mark) (reply : Reply) (file : SameFile s after)
          (step : Answers (state_for session files answers) (syncs_of running.0) command s after mark reply now stepped) where
        abbrev run : CommandRun
        run = record { instruction = command; ended = step.ended }

        abbrev answer : history.PairAnswer
        answer = Answered session run

        step_own : Stepped (party_for session files).names (syncs_of running.0) (turn_of (state_for session files answers) command step.ended) now stepped
        step_own = subst (λ (n : Names). Stepped n (syncs_of running.0) (turn_of (state_for session files answers) command step.ended) now stepped) running.2 step.stepped

        keeps_own : KeepsReaders (file_for session files).name command now stepped
        keeps_own = subst (λ (n : Names). KeepsReaders n.file command now stepped) running.2 step.modes

        may_step : (w : Which) → w ≡ session → MayAnswer files (Answered w (record { instruction = command; ended = step.ended }) ∷ answers)
        may_step which.One is = record {
          one = (
            subst (λ (x : Which). accepts_quit (state_for x files answers) command ≡ false) (sym is) step.not_quit,
            subst (λ (x : Which). Rattle.vs_session.specs.Session.HasFound (state_for x files answers) command step.ended) (sym is) step.found,
            here.may.one,
          );
          two = here.may.two;
          quits = (tt, here.may.quits);
        }
        may_step which.Two is = record {
          one = here.may.one;
          two = (
            subst (λ (x : Which). accepts_quit (state_for x files answers) command ≡ false) (sym is) step.not_quit,
            subst (λ (x : Which). Rattle.vs_session.specs.Session.HasFound (state_for x files answers) command step.ended) (sym is) step.found,
            here.may.two,
          );
          quits = (tt, here.may.quits);
        }

        module _ (marks' : List Mark) (kept : marks' ≡ marks ++ mark ∷ []) (some : 0 < length reply.bytes) (Failed : Type 0) (new : Scene) (puts : WritesTagged tells (tagged_for session reply.bytes) Failed stepped new) where
          marks_step : marks' ≡ marks_of_both (answer ∷ answers)
          marks_step = kept ∙ ap (λ (l : List Mark). l ++ mark ∷ []) here.kept ∙ ap (λ (m : Mark). marks_of_both answers ++ m ∷ []) (sym step.mark_is)

          bytes_are : tagged_for session reply.bytes ≡ reply_after files answers answer
          bytes_are = ap (λ (r : Reply). tagged_for session r.bytes) step.reply_is

          puts_reply : WritesTagged tells (reply_after files answers answer) Failed stepped new
          puts_reply = subst (λ (l : List ℕ). WritesTagged tells l Failed stepped new) bytes_are puts

          reply_some : 0 < length (reply_after files answers answer)
          reply_some =
              subst (λ (l : List ℕ). 0 < length l) bytes_are
              (Rattle.vs_tagged.proofs.Lines.tagged_some (Rattle.vs_top.specs.Tags.prefix_of session) reply.bytes some)

          carried : Carried one two old now stepped answers answer
          carried = carried_command one two old now multi marks clean transcript here stepped (ap (λ (x : Scene). x.out_faults) frame) running.0 command step.ended session running.1 step_own keeps_own reply_some

          pub step_cut : Failed → HasRunBoth one two old new ending.OutputFault marks'
          step_cut failed =
              cut_both tells told one two old now stepped multi marks clean transcript here source answer (asks answer (inl (step.ended, refl))) (may_step session refl) marks' marks_step carried tt Failed new puts_reply failed

          own_after : (w : Which) → w ≡ session → (p : History) → stage_of w files answers ≡ Running p → (names_of after ≡ names_of_file (file_for w files).name)
              → Fits after new.folder (state_after (state_for w files answers) command step.ended) (Rattle.vs_session.specs.Session.syncs_after (state_for w files answers) command step.ended (syncs_of p))
              → IsInState (file_for w files) (Some after) (state_for w files (Answered w run ∷ answers)) (stage_of w files (Answered w run ∷ answers)) new.folder
          own_after which.One is p stage named fits =
              subst (λ (g : Rattle.vs_both.specs.Both.PartyStage). IsInState (file_for which.One files) (Some after) (state_for which.One files (Answered which.One run ∷ answers))
              (with_turn g (history.turn_for which.One files answers (Answered which.One run))) new.folder) (sym stage) (named, fits)
          own_after which.Two is p stage named fits =
              subst (λ (g : Rattle.vs_both.specs.Both.PartyStage). IsInState (file_for which.Two files) (Some after) (state_for which.Two files (Answered which.Two run ∷ answers))
              (with_turn g (history.turn_for which.Two files answers (Answered which.Two run))) new.folder) (sym stage) (named, fits)

          pub step_whole : ¬ Failed → (clean' : Bool) → clean' ≡ (clean && (is_done mark.outcome && not reply.is_error)) → HasCommand session one two old new multi' marks' clean' transcript source command
          step_whole calm clean' cleans = record {
            answer = answer;
            answers = inl (step.ended, refl);
            stays = subst (λ (o : Option Session). Rattle.vs_top.specs.PairTurns.StaysOpen answer o) (sym is_after) tt;
            told = whole_both tells told one two old now stepped multi marks clean transcript here source answer (asks answer (inl (step.ended, refl))) (may_step session refl) marks' marks_step carried tt Failed new puts_reply calm reply_some
                multi' clean' errors
                (both_cases (λ w. IsInState (file_for w files) (session_of w multi') (state_for w files (answer ∷ answers)) (stage_of w files (answer ∷ answers)) new.folder) session
                (subst (λ (o : Option Session). IsInState (file_for session files) o (state_for session files (answer ∷ answers)) (stage_of session files (answer ∷ answers)) new.folder) (sym is_after)
                (own_after session refl running.0 running.1 (file.names ∙ running.2)
                (subst (λ (d : Disk). Fits after d (state_after (state_for session files answers) command step.ended) (Rattle.vs_session.specs.Session.syncs_after (state_for session files answers) command step.ended (syncs_of running.0))) (sym (ap (λ (x : Scene). x.folder) puts.frame)) step.fits)))
                (in_other session answer multi' new.folder (seen_command session run) same
                (stays_then tells (session_of (other session) multi) now.folder stepped.folder new.folder stays (ap (λ (x : Scene). x.folder) puts.frame))));
          }
            where
              errors : clean' ≡ not (has_error files (answer ∷ answers))
              errors =
                  cleans ∙ ap (λ (m : Mark). clean && (is_done m.outcome && not reply.is_error)) (sym step.mark_is)
                  ∙ ap (λ (b : Bool). b && (is_done step.ended.mark.outcome && not reply.is_error)) here.errors
                  ∙ and_not (has_error files answers) (is_done step.ended.mark.outcome) reply.is_error
                  ∙ ap (λ (r : Reply). not (has_error files answers || (not (is_done step.ended.mark.outcome) || r.is_error))) step.reply_is

-- The answers of a run of two sessions: what was done for an answer leads to what is known after it, or to the end of the run.
use Rattle.std.proofs.Common.{◌≡◌, inr, ℕ, ◌<◌, Bool, not, List, ◌∷◌, ◌++◌, length, take, Option, Some, None, IsTrue, refl, sym, ap, ◌∙◌, append_assoc}
use Rattle.std.specs.Prelude.{IfSome}
use Rattle.vs_host.specs.Disk.{Disk}
use Rattle.vs_host.specs.Names.{names_of_file}
use Rattle.vs_host.specs.Trace.{Snapshot}
use Rattle.vs_host.specs.World.{Tells, Scene}
use Rattle.vs_family.specs.declared.which.Which.{Which}
use Rattle.vs_family.specs.declared.which.Which.TheVariants as which
use Rattle.vs_machine.specs.declared.command.Mark.{Mark}
use Rattle.vs_safety.specs.Safety.{IsFirstPart, Looks, Wrote}
use Rattle.vs_safety.specs.History.{History, Replied, syncs_of}
use Rattle.vs_safety.specs.Causes.{IsCounted, RoseLast, folder_count, output_count}
use Rattle.vs_safety.proofs.Causes.{rose_last}
use Rattle.vs_tagged.specs.Tagged.{WritesTagged}
use Rattle.vs_both.specs.Both.{PartyStage, Running, Gone, BothGo, BothKept, with_turn}
use Rattle.vs_both.specs.Beside.{of_others}
use Rattle.vs_both.proofs.Both.{both_look, both_stop}
use Rattle.vs_session.specs.declared.session.Session.{Session}
use Rattle.vs_session.specs.Session.{SessionState}
use Rattle.vs_session.specs.Opened.{Opened}
use Rattle.vs_session.specs.Fits.{Fits, names_of}
use Rattle.vs_multi.specs.declared.multi.Multi.{Multi}
use Rattle.vs_multi.specs.Multi.{session_of}
use Rattle.vs_session.specs.Calls.{KeepsState}
use Rattle.vs_top.specs.Run.{TellsRun}
use Rattle.vs_top.specs.PairHistory.{PairAnswer, AnswerList, BothFiles, MayAnswer, WasSynced, closing_under, file_for}
use Rattle.vs_top.specs.PairHistory.{has_error, marks_of_both, reply_after, stage_of, stage_under, state_for, written_both}
use Rattle.vs_top.specs.PairScript.{IsTranscript, Source, Transcript, answers_of, taking}
use Rattle.vs_top.specs.PairPromise.{AllWhole, HasFailed, HasRunBoth, KeepsPromise, LastCut, LastFailed, LeavesOthers, MakesReadableBoth, files_in, party_for, row_both}
use Rattle.vs_top.specs.PairTurns.{IsInState, ToldPair}
use Rattle.vs_top.specs.declared.ending.Ending.{Ending}
use Rattle.vs_top.specs.declared.ending.Ending.TheVariants as ending
use Rattle.vs_top.proofs.PairReaders.{both_own}
use Rattle.vs_top.proofs.PairStages.{counted_quiet, kept_as, others_look, others_wrote, wrote_some}
use Rattle.vs_top.proofs.Readers.{own_looks, own_wrote}

-- both sessions keep their promises while an answer is under way
abbrev pub KeptUnder : List ℕ → List ℕ → Scene → Scene → AnswerList → PairAnswer → Type 0
KeptUnder one two old new answers answer =
    KeepsPromise (party_for which.One (files_in old one two)) old (stage_under which.One (files_in old one two) answers answer) (closing_under which.One answer) new
    × KeepsPromise (party_for which.Two (files_in old one two)) old (stage_under which.Two (files_in old one two) answers answer) (closing_under which.Two answer) new

-- What was done for an answer, up to its first byte.
pub record Carried (one two : List ℕ) (old now ended : Scene) (answers : AnswerList) (answer : PairAnswer) : Type 0 where
  pub output : ended.output ≡ now.output
  pub newer : List Snapshot
  pub added : ended.trace ≡ newer ++ now.trace
  pub counted : IsCounted output_count old ended
  pub others : LeavesOthers one two old ended
  pub readers : MakesReadableBoth (files_in old one two) (answer ∷ answers) old ended
  -- with its last byte both go on
  pub go : (new : Scene) → Replied (reply_after (files_in old one two) answers answer) ended new
      → BothGo (party_for which.One (files_in old one two)) (party_for which.Two (files_in old one two)) old
      (stage_of which.One (files_in old one two) (answer ∷ answers)) (stage_of which.Two (files_in old one two) (answer ∷ answers)) new
  -- and before that both keep their promises
  pub cut : (new : Scene) (written : List ℕ) → Wrote written ended new → IsFirstPart written (reply_after (files_in old one two) answers answer)
      → KeptUnder one two old new answers answer

-- a part of some bytes is as many first bytes
pub part_taken : (part whole : List ℕ) → IsFirstPart part whole → (count : ℕ) × (part ≡ take count whole)
part_taken part whole is = (length part, sym (ap (take (length part)) is.1 ∙ Rattle.std.proofs.Math.Seq.take-append_seam part is.0))

module _ (tells : Tells) (told : TellsRun tells) (one two : List ℕ) (old now ended : Scene) (multi : Multi) (marks : List Mark) (clean : Bool) (transcript : Transcript)
    (here : ToldPair one two old now multi marks clean transcript) where
  abbrev files : BothFiles
  files = files_in old one two

  abbrev answers : AnswerList
  answers = answers_of transcript

  -- where the run stops between two answers
  pub stopped_both : (end : Ending) → (row_both end).answered files old now marks (record { transcript = transcript; reach = AllWhole }) → (row_both end).last old now → HasRunBoth one two old now end marks
  stopped_both end ends failed =
      let kept : BothKept (party_for which.One files) (party_for which.Two files) old (stage_of which.One files answers) (stage_of which.Two files answers) now =
      both_stop (party_for which.One files) (party_for which.Two files) old now (stage_of which.One files answers) (stage_of which.Two files answers) here.both in
      record {
        did = record { transcript = transcript; reach = AllWhole };
        read = here.read;
        may = here.may;
        kept = here.kept;
        wrote = (here.output, here.synced);
        ends = ends;
        first = λ free. kept_as (party_for which.One files) old (stage_of which.One files answers) now kept.first_kept;
        second = λ free. kept_as (party_for which.Two files) old (stage_of which.Two files answers) now kept.second_kept;
        others = here.others;
        readers = here.readers;
        failed = failed;
        left = λ is. absurd (cc);
      }

  -- where it stops after calls that only looked
  pub stopped_after : (new : Scene) → Looks now new → (end : Ending) → (row_both end).answered files old new marks (record { transcript = transcript; reach = AllWhole }) → (row_both end).last old new → HasRunBoth one two old new end marks
  stopped_after new looks end ends failed =
      let going = both_look (party_for which.One files) (party_for which.Two files) old now (stage_of which.One files answers) (stage_of which.Two files answers) here.both new looks in
      let kept : BothKept (party_for which.One files) (party_for which.Two files) old (stage_of which.One files answers) (stage_of which.Two files answers) new =
      both_stop (party_for which.One files) (party_for which.Two files) old new (stage_of which.One files answers) (stage_of which.Two files answers) going in
      record {
        did = record { transcript = transcript; reach = AllWhole };
        read = here.read;
        may = here.may;
        kept = here.kept;
        wrote = (looks.output ∙ here.output, here.synced);
        ends = ends;
        first = λ free. kept_as (party_for which.One files) old (stage_of which.One files answers) new kept.first_kept;
        second = λ free. kept_as (party_for which.Two files) old (stage_of which.Two files answers) new kept.second_kept;
        others = others_look one two old now new here.others looks;
        readers = both_own files answers old now new here.readers (own_looks now new looks);
        failed = failed;
        left = λ is. absurd (cc);
      }

  -- the work for an answer failed, so that it was not begun
  pub failed_both : (source : Source) (answer : PairAnswer) → IsTranscript old.script (taking source answer ∷ transcript) → MayAnswer files (answer ∷ answers) → marks ≡ marks_of_both (answer ∷ answers)
      → HasFailed answer → ended.output ≡ now.output → LeavesOthers one two old ended → MakesReadableBoth files (answer ∷ answers) old ended → KeptUnder one two old ended answers answer → RoseLast folder_count old ended
      → HasRunBoth one two old ended ending.FolderFault marks
  failed_both source answer read may kept failed output others readers safe rose = record {
    did = record { transcript = taking source answer ∷ transcript; reach = LastFailed };
    read = read;
    may = may;
    kept = kept;
    wrote = (output ∙ here.output, failed, here.synced);
    ends = inr refl;
    first = λ free. safe.0;
    second = λ free. safe.1;
    others = others;
    readers = readers;
    failed = rose;
    left = λ is. absurd (cc);
  }

  module _ (source : Source) (answer : PairAnswer) (read : IsTranscript old.script (taking source answer ∷ transcript)) (may : MayAnswer files (answer ∷ answers))
      (marks' : List Mark) (kept : marks' ≡ marks_of_both (answer ∷ answers)) (carried : Carried one two old now ended answers answer) where
    abbrev reply : List ℕ
    reply = reply_after files answers answer

    output_ended : ended.output ≡ old.output ++ written_both files answers
    output_ended = carried.output ∙ here.output

    module _ (synced : WasSynced answer) (Failed : Type 0) (new : Scene) (puts : WritesTagged tells reply Failed ended new) where
      -- it was written in part
      pub cut_both : Failed → HasRunBoth one two old new ending.OutputFault marks'
      cut_both failed =
          let part = puts.part told.folder told.output in
          let safe = carried.cut new part.0 part.2 part.1 in
          let some = part_taken part.0 reply part.1 in
          record {
            did = record { transcript = taking source answer ∷ transcript; reach = LastCut };
            read = read;
            may = may;
            kept = kept;
            wrote = (
              some.0,
              part.2.output ∙ ap (λ (l : List ℕ). l ++ part.0) output_ended ∙ append_assoc old.output (written_both files answers) part.0
                  ∙ ap (λ (l : List ℕ). old.output ++ (written_both files answers ++ l)) some.1,
              (synced, here.synced),
            );
            ends = tt;
            first = λ free. safe.0;
            second = λ free. safe.1;
            others = others_wrote one two old ended new carried.others part.0 part.2;
            readers = both_own files (answer ∷ answers) old ended new carried.readers (own_wrote ended new part.0 part.2);
            failed = rose_last output_count old ended new (λ m none. none.out) (puts.last told.folder) (puts.cause.risen failed) carried.counted;
            left = λ is. absurd (cc);
          }

      -- it is whole
      pub whole_both : ¬ Failed → 0 < length reply → (multi' : Multi) (clean' : Bool) → clean' ≡ not (has_error files (answer ∷ answers))
          → ((session : Which) → IsInState (file_for session files) (session_of session multi') (state_for session files (answer ∷ answers)) (stage_of session files (answer ∷ answers)) new.folder)
          → ToldPair one two old new multi' marks' clean' (taking source answer ∷ transcript)
      whole_both calm some multi' clean' errors in_state =
          let wrote = puts.wrote told.folder told.output calm in
          record {
            beside = here.beside;
            settled = here.settled;
            read = read;
            may = may;
            kept = kept;
            synced = (synced, here.synced);
            errors = errors;
            output = wrote.output ∙ ap (λ (l : List ℕ). l ++ reply) output_ended ∙ append_assoc old.output (written_both files answers) reply;
            both = carried.go new (record { some = some; wrote = wrote });
            in_state = in_state;
            counted = counted_quiet old ended new (carried.newer ++ here.counted.script.moments)
                (carried.added ∙ ap (λ (l : List Snapshot). carried.newer ++ l) here.counted.script.added ∙ sym (append_assoc carried.newer here.counted.script.moments old.trace))
                (puts.none told.folder calm) (wrote_some reply ended new some wrote);
            others = others_wrote one two old ended new carried.others reply wrote;
            readers = both_own files (answer ∷ answers) old ended new carried.readers (own_wrote ended new reply wrote);
          }

-- ---- the states of the sessions

-- a session that has not ended fits another folder in each state in which it fits this one
abbrev pub KeepsFit : Tells → Option Session → Disk → Disk → Type 0
KeepsFit tells session old new = IfSome session (λ s. KeepsState tells s s old new)

-- of one that has no part in an answer
pub in_state_on : (tells : Tells) (folder : IsTrue tells.folder) (file : Opened) (session : Option Session) (state : SessionState) (stage : PartyStage) (old new : Disk) (line : List ℕ) → KeepsFit tells session old new
    → IsInState file session state stage old → IsInState file session state (with_turn stage (of_others line)) new
in_state_on tells folder file None state stage old new line stays was = tt
in_state_on tells folder file (Some s) state (Running past) old new line stays was = (was.0, stays folder state (syncs_of past) was.1)
in_state_on tells folder file (Some s) state (Gone past) old new line stays was = absurd was

-- of one that is open: it is running
pub running_of : (file : Opened) (session : Session) (state : SessionState) (stage : PartyStage) (folder : Disk) → IsInState file (Some session) state stage folder
    → (past : History) × (stage ≡ Running past) × (names_of session ≡ names_of_file file.name) × Fits session folder state (syncs_of past)
running_of file session state (Running past) folder is = (past, refl, is.0, is.1)
running_of file session state (Gone past) folder is = absurd is

-- one that has ended is in no state
pub in_state_none : (file : Opened) (session : Option Session) (state : SessionState) (stage : PartyStage) (folder : Disk) → session ≡ None → IsInState file session state stage folder
in_state_none file None state stage folder is = tt
in_state_none file (Some s) state stage folder is = absurd (cc)

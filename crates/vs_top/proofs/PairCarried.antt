-- What was done for each kind of answer of a run of two sessions: a command, a last sync, an accepted quit, or nothing.
use Rattle.std.proofs.Common.{◌≡◌, ◌⊎◌, inr, ℕ, ◌<◌, Bool, List, [], ◌∷◌, ◌++◌, length, Option, None, refl}
use Rattle.std.specs.Prelude.{codes}
use Rattle.vs_host.specs.Disk.{Disk}
use Rattle.vs_host.specs.World.{Scene, LeavesTrace}
use Rattle.vs_host.specs.declared.names.Names.{Names}
use Rattle.vs_excmd.specs.Request.{Instruction}
use Rattle.vs_family.specs.declared.which.Which.{Which}
use Rattle.vs_family.specs.declared.which.Which.TheVariants as which
use Rattle.vs_machine.specs.declared.command.Mark.{Mark}
use Rattle.vs_safety.specs.FileWork.{FileWork}
use Rattle.vs_safety.specs.Texts.{NoneLeft, Sync, RecoversOrNone, recoverable}
use Rattle.vs_safety.specs.Turns.{Turn, last_turn, preserved_line, quit_line, with_begun}
use Rattle.vs_safety.specs.Safety.{IsFirstPart, IsUnderWay, Stepped, Works, Wrote}
use Rattle.vs_safety.specs.History.{History, Replied, syncs_of}
use Rattle.vs_both.specs.Both.{PartyStage, Running, BothGo}
use Rattle.vs_both.specs.Beside.{Party}
use Rattle.vs_both.proofs.Both.{beside_swapped, both_replied, both_reply_cut, both_swapped}
use Rattle.vs_session.specs.Modes.{KeepsReaders}
use Rattle.vs_session.specs.Session.{Ended, sync_in, turn_of}
use Rattle.vs_multi.specs.declared.multi.Multi.{Multi}
use Rattle.vs_tagged.proofs.Lines.{tagged_some}
use Rattle.vs_top.specs.Tags.{prefix_of, session_ended, tagged_for}
use Rattle.vs_top.specs.PairHistory as history
use Rattle.vs_top.specs.PairHistory.{Answered, Left, AfterQuit, OfNone, Preserved, BothFiles, file_for, reply_after, stage_of, state_for}
use Rattle.vs_top.specs.PairScript.{Transcript, answers_of}
use Rattle.vs_top.specs.PairPromise.{MakesReadableBoth, files_in, party_for}
use Rattle.vs_top.specs.PairTurns.{ToldPair}
use Rattle.vs_top.specs.Readers.{MakesOwn}
use Rattle.vs_top.proofs.Counting.{counted_works}
use Rattle.vs_top.proofs.Opening.{ends_some}
use Rattle.vs_top.proofs.PairStages.{kept_as, others_worked, outside_one, outside_two, quit_cut, quit_whole, turn_cut, turn_whole}
use Rattle.vs_top.proofs.PairAnswers.{Carried, KeptUnder}
use Rattle.vs_top.proofs.PairReaders.{both_command, both_own}

-- the same turn with its reply as it is written
with_reply : (names : Names) (syncs : List Sync) (turn : Turn) (reply : List ℕ) (old new : Scene) → Stepped names syncs turn old new → Stepped names syncs (record turn { reply = reply }) old new
with_reply names syncs turn reply old new stepped = record {
  found = stepped.found;
  works = stepped.works;
  wrote = stepped.wrote;
  whole = stepped.whole;
  flag = stepped.flag;
  cause = stepped.cause;
  between = stepped.between;
}

pub preserved_some : (session : Which) → 0 < length (tagged_for session preserved_line)
preserved_some session = tagged_some (prefix_of session) preserved_line (ends_some (codes "File preserved"))

pub quit_some : (session : Which) → 0 < length (tagged_for session quit_line)
quit_some session = tagged_some (prefix_of session) quit_line (ends_some (codes "quit"))

pub ended_some : (session : Which) → 0 < length (tagged_for session session_ended)
ended_some session = tagged_some (prefix_of session) session_ended (ends_some (codes "session ended"))

pub none_some : 0 < length Rattle.vs_top.specs.Tags.no_session
none_some = tagged_some (codes "0:") (codes "no session" ++ 10 ∷ []) (ends_some (codes "no session"))

module _ (one two : List ℕ) (old now : Scene) (multi : Multi) (marks : List Mark) (clean : Bool) (transcript : Transcript) (here : ToldPair one two old now multi marks clean transcript) where
  abbrev files : BothFiles
  files = files_in old one two

  abbrev answers : history.AnswerList
  answers = answers_of transcript

  abbrev first : Party
  first = party_for which.One files

  abbrev second : Party
  second = party_for which.Two files

  abbrev stage_one : PartyStage
  stage_one = stage_of which.One files answers

  abbrev stage_two : PartyStage
  stage_two = stage_of which.Two files answers

  both_back : BothGo second first old stage_two stage_one now
  both_back = both_swapped first second old now stage_one stage_two here.both

  -- ---- nothing was done

  pub carried_none : Carried one two old now now answers OfNone
  carried_none = record {
    output = refl;
    newer = [];
    added = refl;
    counted = here.counted.output;
    others = here.others;
    readers = here.readers;
    go = λ new replied. both_replied first second old now stage_one stage_two here.both (reply_after files answers OfNone) new replied;
    cut = λ new written wrote part.
        let kept = both_reply_cut first second old now stage_one stage_two here.both (reply_after files answers OfNone) written new none_some wrote part in
        (kept_as first old (stage_of which.One files (OfNone ∷ answers)) new kept.first_kept, kept_as second old (stage_of which.Two files (OfNone ∷ answers)) new kept.second_kept);
  }

  pub carried_after : (session : Which) → Carried one two old now now answers (AfterQuit session)
  carried_after session = record {
    output = refl;
    newer = [];
    added = refl;
    counted = here.counted.output;
    others = here.others;
    readers = here.readers;
    go = λ new replied. both_replied first second old now stage_one stage_two here.both (reply_after files answers (AfterQuit session)) new replied;
    cut = λ new written wrote part.
        let kept = both_reply_cut first second old now stage_one stage_two here.both (reply_after files answers (AfterQuit session)) written new (ended_some session) wrote part in (
          kept_as first old (stage_of which.One files (AfterQuit session ∷ answers)) new kept.first_kept,
          kept_as second old (stage_of which.Two files (AfterQuit session ∷ answers)) new kept.second_kept,
        );
  }

  -- ---- work of a session

  module _ (ended : Scene) (out_same : ended.out_faults ≡ now.out_faults) (write : Option FileWork) (P : Disk → Type 0) where
    worked_one : (answer : history.PairAnswer) → MakesReadableBoth files (answer ∷ answers) old ended → Works first.names write P now ended
        → ((new : Scene) → Replied (reply_after files answers answer) ended new → BothGo first second old (stage_of which.One files (answer ∷ answers)) (stage_of which.Two files (answer ∷ answers)) new)
        → ((new : Scene) (written : List ℕ) → Wrote written ended new → IsFirstPart written (reply_after files answers answer) → KeptUnder one two old new answers answer)
        → Carried one two old now ended answers answer
    worked_one answer readers works go cut = record {
      output = works.output;
      newer = works.moments.added;
      added = works.moments.is;
      counted = counted_works first.names write P old now ended out_same works here.counted.output;
      others = others_worked one two old now ended here.others first here.beside.first (outside_one one two) here.settled write P works;
      readers = readers;
      go = go;
      cut = cut;
    }

    worked_two : (answer : history.PairAnswer) → MakesReadableBoth files (answer ∷ answers) old ended → Works second.names write P now ended
        → ((new : Scene) → Replied (reply_after files answers answer) ended new → BothGo first second old (stage_of which.One files (answer ∷ answers)) (stage_of which.Two files (answer ∷ answers)) new)
        → ((new : Scene) (written : List ℕ) → Wrote written ended new → IsFirstPart written (reply_after files answers answer) → KeptUnder one two old new answers answer)
        → Carried one two old now ended answers answer
    worked_two answer readers works go cut = record {
      output = works.output;
      newer = works.moments.added;
      added = works.moments.is;
      counted = counted_works second.names write P old now ended out_same works here.counted.output;
      others = others_worked one two old now ended here.others second here.beside.second (outside_two one two) here.settled write P works;
      readers = readers;
      go = go;
      cut = cut;
    }

  -- ---- a turn of a session: a command, or the last sync

  module _ (ended : Scene) (out_same : ended.out_faults ≡ now.out_faults) (past : History) (command : Instruction) (how : Ended) where
    pub carried_command : (session : Which) → stage_of session files answers ≡ Running past
        → Stepped (party_for session files).names (syncs_of past) (turn_of (state_for session files answers) command how) now ended
        → KeepsReaders (file_for session files).name command now ended
        → 0 < length (reply_after files answers (Answered session (record { instruction = command; ended = how })))
        → Carried one two old now ended answers (Answered session (record { instruction = command; ended = how }))
    carried_command which.One is stepped keeps some =
        let answer : history.PairAnswer = Answered which.One (record { instruction = command; ended = how }) in
        let turn : Turn = record (turn_of (state_for which.One files answers) command how) { reply = reply_after files answers answer } in
        let own : Stepped first.names (syncs_of past) turn now ended = with_reply first.names (syncs_of past) (turn_of (state_for which.One files answers) command how) (reply_after files answers answer) now ended stepped in
        worked_one ended out_same turn.write (IsUnderWay first.names (with_begun turn.sync (syncs_of past)) turn.write) answer
        (both_command files answers old now ended here.readers command how stepped.found which.One keeps) own.works
        (λ new replied. turn_whole first second here.beside old now stage_one stage_two past is here.both turn ended own new replied)
        (λ new written wrote part. turn_cut first second here.beside old now stage_one stage_two past is here.both turn ended own new written some wrote part)
    carried_command which.Two is stepped keeps some =
        let answer : history.PairAnswer = Answered which.Two (record { instruction = command; ended = how }) in
        let turn : Turn = record (turn_of (state_for which.Two files answers) command how) { reply = reply_after files answers answer } in
        let own : Stepped second.names (syncs_of past) turn now ended = with_reply second.names (syncs_of past) (turn_of (state_for which.Two files answers) command how) (reply_after files answers answer) now ended stepped in
        let back = beside_swapped first second here.beside in
        worked_two ended out_same turn.write (IsUnderWay second.names (with_begun turn.sync (syncs_of past)) turn.write) answer
        (both_command files answers old now ended here.readers command how stepped.found which.Two keeps) own.works
        (λ new replied. both_swapped second first old new (stage_of which.Two files (answer ∷ answers)) (stage_of which.One files (answer ∷ answers))
        (turn_whole second first back old now stage_two stage_one past is both_back turn ended own new replied))
        (λ new written wrote part. let kept = turn_cut second first back old now stage_two stage_one past is both_back turn ended own new written some wrote part in (kept.1, kept.0))

  module _ (ended : Scene) (out_same : ended.out_faults ≡ now.out_faults) (past : History) (synced : Bool) where
    pub carried_sync : (session : Which) → stage_of session files answers ≡ Running past → MakesOwn now ended
        → Stepped (party_for session files).names (syncs_of past) (last_turn (sync_in (state_for session files answers) synced)) now ended
        → Carried one two old now ended answers (Preserved session synced)
    carried_sync which.One is own_made stepped =
        let answer : history.PairAnswer = Preserved which.One synced in
        let turn : Turn = record (last_turn (sync_in (state_for which.One files answers) synced)) { reply = reply_after files answers answer } in
        let own : Stepped first.names (syncs_of past) turn now ended = with_reply first.names (syncs_of past) (last_turn (sync_in (state_for which.One files answers) synced)) (reply_after files answers answer) now ended stepped in
        worked_one ended out_same turn.write (IsUnderWay first.names (with_begun turn.sync (syncs_of past)) turn.write) answer
        (both_own files answers old now ended here.readers own_made) own.works
        (λ new replied. turn_whole first second here.beside old now stage_one stage_two past is here.both turn ended own new replied)
        (λ new written wrote part. turn_cut first second here.beside old now stage_one stage_two past is here.both turn ended own new written (preserved_some which.One) wrote part)
    carried_sync which.Two is own_made stepped =
        let answer : history.PairAnswer = Preserved which.Two synced in
        let turn : Turn = record (last_turn (sync_in (state_for which.Two files answers) synced)) { reply = reply_after files answers answer } in
        let own : Stepped second.names (syncs_of past) turn now ended = with_reply second.names (syncs_of past) (last_turn (sync_in (state_for which.Two files answers) synced)) (reply_after files answers answer) now ended stepped in
        let back = beside_swapped first second here.beside in
        worked_two ended out_same turn.write (IsUnderWay second.names (with_begun turn.sync (syncs_of past)) turn.write) answer
        (both_own files answers old now ended here.readers own_made) own.works
        (λ new replied. both_swapped second first old new (stage_of which.Two files (answer ∷ answers)) (stage_of which.One files (answer ∷ answers))
        (turn_whole second first back old now stage_two stage_one past is both_back turn ended own new replied))
        (λ new written wrote part. let kept = turn_cut second first back old now stage_two stage_one past is both_back turn ended own new written (preserved_some which.Two) wrote part in (kept.1, kept.0))

  -- ---- an accepted quit

  module _ (ended : Scene) (past : History) (command : Instruction) where
    -- the removal of the swap files, done or failed
    pub quit_under : (session : Which) → stage_of session files answers ≡ Running past
        → Works (party_for session files).names None (RecoversOrNone (party_for session files).names (recoverable (syncs_of past))) now ended
        → (new : Scene) (written : List ℕ) → Wrote written ended new → IsFirstPart written (reply_after files answers (Left session command))
        → LeavesTrace ended new ⊎ NoneLeft (party_for session files).names ended.folder → KeptUnder one two old new answers (Left session command)
    quit_under which.One is works new written wrote part either =
        quit_cut first second here.beside old now stage_one stage_two past is here.both ended works new written (quit_some which.One) wrote part either
    quit_under which.Two is works new written wrote part either =
        let kept = quit_cut second first (beside_swapped first second here.beside) old now stage_two stage_one past is both_back ended works new written (quit_some which.Two) wrote part either in
        (kept.1, kept.0)

    pub carried_quit : (out_same : ended.out_faults ≡ now.out_faults) (session : Which) → stage_of session files answers ≡ Running past → MakesOwn now ended
        → Works (party_for session files).names None (RecoversOrNone (party_for session files).names (recoverable (syncs_of past))) now ended
        → NoneLeft (party_for session files).names ended.folder → Carried one two old now ended answers (Left session command)
    carried_quit out_same which.One is own_made works none =
        worked_one ended out_same None (RecoversOrNone first.names (recoverable (syncs_of past))) (Left which.One command)
        (both_own files answers old now ended here.readers own_made) works
        (λ new replied. quit_whole first second here.beside old now stage_one stage_two past is here.both ended works new none replied)
        (λ new written wrote part. quit_under which.One is works new written wrote part (inr none))
    carried_quit out_same which.Two is own_made works none =
        worked_two ended out_same None (RecoversOrNone second.names (recoverable (syncs_of past))) (Left which.Two command)
        (both_own files answers old now ended here.readers own_made) works
        (λ new replied. both_swapped second first old new (stage_of which.Two files (Left which.Two command ∷ answers)) (stage_of which.One files (Left which.Two command ∷ answers))
        (quit_whole second first (beside_swapped first second here.beside) old now stage_two stage_one past is both_back ended works new none replied))
        (λ new written wrote part. quit_under which.Two is works new written wrote part (inr none))

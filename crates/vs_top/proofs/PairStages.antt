-- An answer of a run of two sessions, from the work for it to its last byte: where both sessions stand then, and what each promises where the
-- answer is cut short.
use Rattle.std.proofs.Common.{◌≡◌, ◌≢◌, ◌⊎◌, ℕ, ◌<◌, Bool, not, List, [], ◌∷◌, ◌++◌, length, Option, Some, None, sym, ap, subst, ◌∙◌, append_assoc, arith}
use Rattle.std.proofs.lemmas.List.{length-append}
use Rattle.vs_host.specs.Disk.{Disk, Name}
use Rattle.vs_host.specs.Trace.{Snapshot, GoesOn}
use Rattle.vs_host.specs.World.{Scene, LeavesTrace}
use Rattle.vs_host.specs.declared.names.Names.{Names}
use Rattle.vs_disk.specs.Names.{SameAt}
use Rattle.vs_disk.specs.Runs.{HasNoFault, Inside, Quiet}
use Rattle.vs_disk.proofs.Others.{same_then}
use Rattle.vs_disk.proofs.Runs.{goes_then, goes_weaker}
use Rattle.vs_pair.specs.Pair.{is_foreign}
use Rattle.vs_pair.proofs.MadeFiles.{same_weaker}
use Rattle.vs_safety.specs.Writes.{AreIn, State, outside}
use Rattle.vs_safety.specs.FileWork.{FileWork, EditedFile, UndoFile, BothFiles, AvoidsFiles, Keeps}
use Rattle.vs_safety.specs.Texts.{NoneLeft, RecoversOrNone, recoverable}
use Rattle.vs_safety.specs.Turns.{Turn, NotBegun, Quits}
use Rattle.vs_safety.specs.Safety.{IsFirstPart, IsWriting, Looks, Spares, Stepped, Works, Wrote}
use Rattle.vs_safety.specs.History.{History, After, Replied, syncs_of}
use Rattle.vs_both.specs.Beside.{AreBeside, HasFamily, Party, of_others}
use Rattle.vs_both.specs.Both.{PartyStage, Running, Gone, BothGo, HasKept, with_turn}
use Rattle.vs_both.proofs.Both.{both_answered, both_cut, both_quit, both_quit_cut}
use Rattle.vs_family.specs.Family.{is_of_family}
use Rattle.vs_top.specs.PairHistory.{gone}
use Rattle.vs_top.specs.PairPromise.{AreOfNeither, KeepsPromise, LeavesOthers}
use Rattle.vs_top.specs.Turns.{AreCounted}

-- ---- one session

-- a promise that was kept where nothing had begun to close
pub kept_as : (party : Party) (start : Scene) (stage : PartyStage) (now : Scene) → HasKept party start stage now → KeepsPromise party start stage NotBegun now
kept_as party start (Running past) now kept = kept
kept_as party start (Gone past) now kept = kept

-- ---- one session carries out a command, or ends

module _ (self other : Party) (are : AreBeside self other) (start now : Scene) (stage second : PartyStage) (past : History) (is : stage ≡ Running past) (both : BothGo self other start stage second now) where
  both_running : BothGo self other start (Running past) second now
  both_running = subst (λ (s : PartyStage). BothGo self other start s second now) is both

  module _ (turn : Turn) (ended : Scene) (stepped : Stepped self.names (syncs_of past) turn now ended) where
    pub turn_whole : (new : Scene) → Replied turn.reply ended new → BothGo self other start (with_turn stage turn) (with_turn second (of_others turn.reply)) new
    turn_whole new replied =
        subst (λ (s : PartyStage). BothGo self other start (with_turn s turn) (with_turn second (of_others turn.reply)) new) (sym is)
        (both_answered self other are start now past second both_running turn ended stepped new replied)

    pub turn_cut : (new : Scene) (written : List ℕ) → 0 < length turn.reply → Wrote written ended new → IsFirstPart written turn.reply
        → KeepsPromise self start (with_turn stage turn) NotBegun new × KeepsPromise other start (with_turn second (of_others turn.reply)) NotBegun new
    turn_cut new written some wrote part =
        let kept = both_cut self other are start now past second both_running turn ended stepped written new some wrote part in (
          subst (λ (s : PartyStage). KeepsPromise self start (with_turn s turn) NotBegun new) (sym is) (kept_as self start (Running (After past turn)) new kept.first_kept),
          kept_as other start (with_turn second (of_others turn.reply)) new kept.second_kept,
        )

  module _ (ended : Scene) (works : Works self.names None (RecoversOrNone self.names (recoverable (syncs_of past))) now ended) where
    pub quit_whole : (new : Scene) → NoneLeft self.names ended.folder → Replied self.line ended new → BothGo self other start (gone stage) (with_turn second (of_others self.line)) new
    quit_whole new none replied =
        subst (λ (s : PartyStage). BothGo self other start (gone s) (with_turn second (of_others self.line)) new) (sym is)
        (both_quit self other are start now past second both_running ended works new none replied)

    pub quit_cut : (new : Scene) (written : List ℕ) → 0 < length self.line → Wrote written ended new → IsFirstPart written self.line → LeavesTrace ended new ⊎ NoneLeft self.names ended.folder
        → KeepsPromise self start stage Quits new × KeepsPromise other start (with_turn second (of_others self.line)) NotBegun new
    quit_cut new written some wrote part either =
        let kept = both_quit_cut self other are start now past second both_running ended works written new some wrote part either in (
          subst (λ (s : PartyStage). KeepsPromise self start s Quits new) (sym is) kept.0,
          kept_as other start (with_turn second (of_others self.line)) new kept.1,
        )

-- ---- the names of neither family

avoids_in : (names : Names) (work : FileWork) (wide inside : Name → Bool) → AreIn wide inside → AvoidsFiles names work wide → AvoidsFiles names work inside
avoids_in names (EditedFile write) wide inside are avoids = λ name is works. avoids name (are name is) works
avoids_in names (UndoFile undo) wide inside are avoids = λ name is works. avoids name (are name is) works
avoids_in names (BothFiles write undo) wide inside are avoids = ((λ name is works. avoids.0 name (are name is) works), (λ name is works. avoids.1 name (are name is) works))

-- work of a session leaves them as they were at the start, where nothing was pending
left_since : (party : Party) (has : HasFamily party) (write : Option FileWork) (inside : Name → Bool) (start old new : Disk) → AreIn (outside party.family) inside → start.pending ≡ []
    → SameAt inside start old → Keeps party.names write old new → SameAt inside start new
left_since party has None inside start old new are settled was keeps =
    same_then inside start old new was (same_weaker (is_foreign party.names) inside old new (λ name is. has.pair name (are name is)) keeps)
left_since party has (Some (EditedFile write)) inside start old new are settled was keeps =
    keeps.settled inside start (λ name is. has.pair name (are name is)) (avoids_in party.names (EditedFile write) (outside party.family) inside are (has.files (EditedFile write))) settled was
left_since party has (Some (UndoFile undo)) inside start old new are settled was keeps =
    same_then inside start old new was
    (keeps inside (λ name is. has.pair name (are name is)) (avoids_in party.names (UndoFile undo) (outside party.family) inside are (has.files (UndoFile undo))))
left_since party has (Some (BothFiles write undo)) inside start old new are settled was keeps =
    keeps.settled inside start (λ name is. has.pair name (are name is)) (avoids_in party.names (BothFiles write undo) (outside party.family) inside are (has.files (BothFiles write undo))) settled was

module _ (one two : List ℕ) (old now new : Scene) (left : LeavesOthers one two old now) where
  same_moment : (inside : Name → Bool) → SameAt inside old.folder now.folder → (m : Snapshot) → m.folder ≡ now.folder → SameAt inside old.folder m.folder
  same_moment inside same m is = subst (λ (d : Disk). SameAt inside old.folder d) (sym is) same

  -- calls that left the folder
  others_still : GoesOn (λ m. m.folder ≡ now.folder) now.trace new.trace → new.folder ≡ now.folder → LeavesOthers one two old new
  others_still moments folder = λ inside neither.
      let was = left inside neither in (
        goes_then (λ m. SameAt inside old.folder m.folder) old.trace now.trace new.trace was.0
            (goes_weaker (λ m. m.folder ≡ now.folder) (λ m. SameAt inside old.folder m.folder) (same_moment inside was.1) now.trace new.trace moments),
        subst (λ (d : Disk). SameAt inside old.folder d) (sym folder) was.1,
      )

  pub others_look : Looks now new → LeavesOthers one two old new
  others_look looks = others_still (goes_weaker (λ m. (m.output ≡ now.output) × (m.folder ≡ now.folder)) (λ m. m.folder ≡ now.folder) (λ m is. is.1) now.trace new.trace looks.moments) looks.folder

  pub others_wrote : (bytes : List ℕ) → Wrote bytes now new → LeavesOthers one two old new
  others_wrote bytes wrote = others_still (goes_weaker (IsWriting now new) (λ m. m.folder ≡ now.folder) (λ m is. ap (λ (s : State). s.folder) is.state) now.trace new.trace wrote.moments) wrote.folder

  -- work of a session whose family is one of the two
  module _ (party : Party) (has : HasFamily party) (within : (inside : Name → Bool) → AreOfNeither one two inside → AreIn (outside party.family) inside) (settled : old.folder.pending ≡ [])
      (write : Option FileWork) (P : Disk → Type 0) (works : Works party.names write P now new) where
    pub others_worked : LeavesOthers one two old new
    others_worked = λ inside neither.
        let was = left inside neither in
        let are = within inside neither in (
          goes_then (λ m. SameAt inside old.folder m.folder) old.trace now.trace new.trace was.0
              (goes_weaker (Inside new (Spares party.names write P now.folder)) (λ m. SameAt inside old.folder m.folder)
              (λ m at. left_since party has write inside old.folder now.folder m.folder are settled was.1 at.folder.spared) now.trace new.trace works.moments),
          left_since party has write inside old.folder now.folder new.folder are settled was.1 works.spared,
        )

pub outside_one : (one two : List ℕ) (inside : Name → Bool) → AreOfNeither one two inside → AreIn (outside (is_of_family one)) inside
outside_one one two inside neither = λ name is. ap not (neither name is).0

pub outside_two : (one two : List ℕ) (inside : Name → Bool) → AreOfNeither one two inside → AreIn (outside (is_of_family two)) inside
outside_two one two inside neither = λ name is. ap not (neither name is).1

-- ---- the counts after a reply

-- the newest snapshot of calls of which none failed has the counts as they are
pub counted_quiet : (old ended new : Scene) (older : List Snapshot) → ended.trace ≡ older ++ old.trace → Quiet ended new → ended.trace ≢ new.trace → AreCounted old new
counted_quiet old ended new older added quiet more = by quiet.moments.added quiet.moments.is quiet.moments.each
  where
    by : (moments : List Snapshot) → new.trace ≡ moments ++ ended.trace → Rattle.vs_host.specs.Trace.Each (HasNoFault ended) moments → AreCounted old new
    by [] is each = absurd (more (sym is))
    by (m ∷ ms) is each =
        let all : new.trace ≡ (m ∷ (ms ++ older)) ++ old.trace = is ∙ ap (λ (l : List Snapshot). m ∷ (ms ++ l)) added ∙ ap (λ (l : List Snapshot). m ∷ l) (sym (append_assoc ms older old.trace)) in
        record {
          script = record { moments = m ∷ (ms ++ older); added = all; newest = each.0.script ∙ sym quiet.script };
          output = record { moments = m ∷ (ms ++ older); added = all; newest = each.0.out ∙ sym quiet.out };
          folder = record { moments = m ∷ (ms ++ older); added = all; newest = each.0.folder ∙ sym quiet.folder };
        }

-- bytes that were written have a snapshot
pub wrote_some : (bytes : List ℕ) (old new : Scene) → 0 < length bytes → Wrote bytes old new → old.trace ≢ new.trace
wrote_some bytes old new some wrote same =
    let first = wrote.whole some in
    let newer : List Snapshot = first.1.newer in
    let rest : List Snapshot = first.0 ∷ first.1.older in
    omega (
      arith,
      ap (λ (l : List Snapshot). length l) same,
      ap (λ (l : List Snapshot). length l) wrote.moments.is,
      length-append wrote.moments.added old.trace,
      ap (λ (l : List Snapshot). length l) first.1.is,
      length-append newer rest,
    )

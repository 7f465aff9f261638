-- The calls of a run between its replies: what is known of them goes on with the trace, and each command adds its own.
use Rattle.std.proofs.Common.{◌≡◌, inl, inr, ℕ, ◌<◌, ◌≤◌, List, [], ◌∷◌, ◌++◌, Option, length, refl, sym, ◌∙◌, ap, subst, arith, append_assoc}
use Rattle.vs_host.specs.Disk.{Disk, Name}
use Rattle.vs_host.specs.Names.{names_of_file}
use Rattle.vs_host.specs.Trace.{WroteOutput, Snapshot, Each, GoesOn}
use Rattle.vs_host.specs.World.{Scene, IsRecorded, ChangesScript, snapshot_of}
use Rattle.vs_host.specs.declared.names.Names.{Names}
use Rattle.vs_disk.specs.Runs.{Inside}
use Rattle.vs_disk.proofs.Runs.{Each-append, Each-weaker, goes_weaker}
use Rattle.vs_pair.specs.Steps.{BothMoved}
use Rattle.vs_script.specs.Reads.{IsAsBefore, ReadsAll}
use Rattle.vs_safety.specs.FileWork.{FileWork}
use Rattle.vs_safety.specs.Safety.{IsAdded, IsFirstPart, Looks, Spares, Works}
use Rattle.vs_safety.specs.Stretches.{IsShorter}
use Rattle.vs_safety.specs.Turns.{Closing, NotBegun}
use Rattle.vs_safety.specs.Writes.{State, state_in, state_now}
use Rattle.vs_safety.proofs.SoFar.{parts_shorter}
use Rattle.vs_session.specs.Opened.{Opened}
use Rattle.vs_session.specs.Made.{LeavesNoneBut, LeavesNoneMade, StaysMoved}
use Rattle.vs_top.specs.History.{CommandRun, Past, state_of, written}
use Rattle.vs_top.specs.Calls.{StillSince, IsNearEnd, MovedSince, OpensClean, SomeLeft, StepCalls, ClosingCalls, CallsAsMarked, CallsSoFar, long_at}
use Rattle.vs_top.specs.Readers.{MakesOwn, MakesReadable}
use Rattle.vs_top.proofs.Readers.{readable_command, readable_looks, readable_near, readable_own, readable_still}

-- ---- the names under which files are made

-- a folder that is as it was
clear_to : (left : Name → Type 0) (start : Scene) (old new : Disk) → LeavesNoneBut left start.folder old → new ≡ old → LeavesNoneBut left start.folder new
clear_to left start old new clear same = subst (λ (d : Disk). LeavesNoneBut left start.folder d) (sym same) clear

moved_same : (names : Names) (old new : Disk) → BothMoved names old → new ≡ old → BothMoved names new
moved_same names old new moved same = subst (λ (d : Disk). BothMoved names d) (sym same) moved

module _ (names : Names) (n : ℕ) (start : Scene) where
  -- the output is shorter yet
  shorter_moved : (moments : List Snapshot) → Each (IsShorter n) moments → Each (λ m. n ≤ length m.output → BothMoved names m.folder) moments
  shorter_moved moments shorter = Each-weaker (IsShorter n) (λ m. n ≤ length m.output → BothMoved names m.folder) (λ m short long. absurd (omega (arith, short, long))) moments shorter

  moved_unopened : (new : Scene) (moments : List Snapshot) → new.trace ≡ moments ++ start.trace → Each (IsShorter n) moments → length new.output < n → MovedSince names n start new
  moved_unopened new moments added shorter short = record { moments = moments; added = added; each = shorter_moved moments shorter; here = λ long. absurd (omega (arith, short, long)) }

  moved_opened : (new : Scene) (moments : List Snapshot) → new.trace ≡ moments ++ start.trace → Each (IsShorter n) moments → BothMoved names new.folder → MovedSince names n start new
  moved_opened new moments added shorter moved = record { moments = moments; added = added; each = shorter_moved moments shorter; here = λ long. moved }

  -- the trace goes on
  moved_on : (now new : Scene) → MovedSince names n start now → GoesOn (λ m. BothMoved names m.folder) now.trace new.trace → BothMoved names new.folder → MovedSince names n start new
  moved_on now new was goes here = record {
    moments = goes.added ++ was.moments;
    added = goes.is ∙ ap (λ (ms : List Snapshot). goes.added ++ ms) was.added ∙ sym (append_assoc goes.added was.moments start.trace);
    each = Each-append (λ m. n ≤ length m.output → BothMoved names m.folder) goes.added was.moments
        (Each-weaker (λ m. BothMoved names m.folder) (λ m. n ≤ length m.output → BothMoved names m.folder) (λ m moved long. moved) goes.added goes.each) was.each;
    here = λ long. here;
  }

  -- by calls that left the folder
  moved_still : (now new : Scene) → MovedSince names n start now → BothMoved names now.folder → GoesOn (λ m. state_in m ≡ state_now now) now.trace new.trace → state_now new ≡ state_now now → MovedSince names n start new
  moved_still now new was moved goes same =
      moved_on now new was
      (goes_weaker (λ m. state_in m ≡ state_now now) (λ m. BothMoved names m.folder) (λ m is. moved_same names now.folder m.folder moved (ap (λ (s : State). s.folder) is)) now.trace new.trace goes)
      (moved_same names now.folder new.folder moved (ap (λ (s : State). s.folder) same))

  moved_near : (ended new : Scene) → MovedSince names n start ended → BothMoved names ended.folder → IsNearEnd ended new → MovedSince names n start new
  moved_near ended new was moved near = moved_still ended new was moved (record { added = near.last; is = near.is; each = near.each }) near.state

-- ---- the trace goes on

-- by calls that left the folder and its count
still_on : (n : ℕ) (start now new : Scene) → StillSince n start now → GoesOn (λ m. state_in m ≡ state_now now) now.trace new.trace → state_now new ≡ state_now now → StillSince n start new
still_on n start now new was goes same = record {
  moments = goes.added ++ was.moments;
  added = goes.is ∙ ap (λ (ms : List Snapshot). goes.added ++ ms) was.added ∙ sym (append_assoc goes.added was.moments start.trace);
  first = was.first;
  begins = record {
    newer = goes.added ++ was.begins.newer;
    older = was.begins.older;
    is = ap (λ (ms : List Snapshot). goes.added ++ ms) was.begins.is ∙ sym (append_assoc goes.added was.begins.newer (was.first ∷ was.begins.older));
    reached = was.begins.reached;
    not_before = was.begins.not_before;
  };
  still = Each-append (λ m. state_in m ≡ state_in was.first) goes.added was.begins.newer
      (Each-weaker (λ m. state_in m ≡ state_now now) (λ m. state_in m ≡ state_in was.first) (λ m is. is ∙ was.state) goes.added goes.each) was.still;
  state = same ∙ was.state;
}

pub calls_on : (file : Opened) (start now new : Scene) (past : Past) → CallsSoFar file start now past → GoesOn (λ m. state_in m ≡ state_now now) now.trace new.trace → state_now new ≡ state_now now → CallsSoFar file start new past
calls_on file start now new past was goes same =
    let farther : (end : Scene) (newer : List Snapshot) → end.trace ≡ newer ++ new.trace → end.trace ≡ (newer ++ goes.added) ++ now.trace = λ end newer is.
    is ∙ ap (λ (ms : List Snapshot). newer ++ ms) goes.is ∙ sym (append_assoc newer goes.added now.trace) in
    record {
      still = still_on (long_at file start past) start now new was.still goes same;
      opening = λ end newer is. was.opening end (newer ++ goes.added) (farther end newer is);
      commands = λ end newer is. was.commands end (newer ++ goes.added) (farther end newer is);
      cleared = clear_to (SomeLeft file past) start now.folder new.folder was.cleared (ap (λ (s : State). s.folder) same);
      moved = moved_still (names_of_file file.name) (long_at file start []) start now new was.moved was.here goes same;
      here = moved_same (names_of_file file.name) now.folder new.folder was.here (ap (λ (s : State). s.folder) same);
      readers = readable_still file.name past start now new was.readers goes same;
    }

-- by reads of the script that succeeded
pub calls_read : (file : Opened) (start now new : Scene) (past : Past) → CallsSoFar file start now past → ChangesScript now new → ReadsAll now new → CallsSoFar file start new past
calls_read file start now new past was frame reads =
    calls_on file start now new past was
    (goes_weaker (IsAsBefore now) (λ m. state_in m ≡ state_now now) (λ m is. λ i. record { folder = is.folder i; faults = is.folder_faults i }) now.trace new.trace reads)
    (ap state_now frame)

-- ---- moments before a reply

-- work on the folder, as it begins where the output is shorter
pub shorter_by : (names : Names) (write : Option FileWork) (P : Disk → Type 0) (now ended : Scene) (works : Works names write P now ended) (n : ℕ) → length now.output < n → Each (IsShorter n) works.moments.added
shorter_by names write P now ended works n lt =
    Each-weaker (Inside ended (Spares names write P now.folder)) (IsShorter n) (λ m inside. omega (arith, lt, ap (λ (l : List ℕ). length l) (inside.output ∙ works.output))) works.moments.added works.moments.each

-- and all before it
pub shorter_on : (names : Names) (write : Option FileWork) (P : Disk → Type 0) (now ended : Scene) (works : Works names write P now ended) (n : ℕ) → length now.output < n
    → (moments : List Snapshot) → Each (λ m. IsFirstPart m.output now.output) moments → Each (IsShorter n) (works.moments.added ++ moments)
shorter_on names write P now ended works n lt moments parts =
    Each-append (IsShorter n) works.moments.added moments (shorter_by names write P now ended works n lt) (parts_shorter n now.output moments lt parts)

-- ---- the end of the run

pub near_now : (now : Scene) → IsNearEnd now now
near_now now = record { last = []; one = omega arith; is = refl; each = tt; state = refl }

-- one write of the output
pub near_end : (ended new : Scene) → IsAdded WroteOutput [] ended new → new.folder ≡ ended.folder → new.folder_faults ≡ ended.folder_faults → IsNearEnd ended new
near_end ended new (inl told) folder faults = record { last = snapshot_of new WroteOutput [] ∷ []; one = omega arith; is = told; each = ((λ i. record { folder = folder i; faults = faults i }), tt); state = λ i. record { folder = folder i; faults = faults i } }
near_end ended new (inr left) folder faults = record { last = []; one = omega arith; is = left.trace; each = tt; state = λ i. record { folder = folder i; faults = faults i } }

module _ (file : Opened) (start : Scene) where
  -- nothing was written
  pub calls_unopened : (new : Scene) → MakesOwn start new → new.output ≡ start.output → 0 < length (written file []) → (moments : List Snapshot) → new.trace ≡ moments ++ start.trace → Each (IsShorter (long_at file start [])) moments → CallsAsMarked file start new (record { past = []; closing = NotBegun })
  calls_unopened new own same some moments added shorter = record {
    opening = λ long. absurd (omega (arith, long, ap (λ (l : List ℕ). length l) same, some));
    commands = tt;
    closing = λ other. absurd (other refl);
    cleared = λ long. absurd (omega (arith, long, ap (λ (l : List ℕ). length l) same, some));
    moved = moved_unopened (names_of_file file.name) (long_at file start []) start new moments added shorter (omega (arith, ap (λ (l : List ℕ). length l) same, some));
    readers = λ allowed owner found. own allowed owner;
  }

  -- the file was opened, and of the opening reply a part was written
  pub calls_opened : (opened new : Scene) → OpensClean (names_of_file file.name) start opened → IsNearEnd opened new → (moments : List Snapshot) → opened.trace ≡ moments ++ start.trace → Each (IsShorter (long_at file start [])) moments → CallsAsMarked file start new (record { past = []; closing = NotBegun })
  calls_opened opened new clean near moments added shorter = record {
    opening = λ long. record { opened = opened; clean = clean; ends = inr near };
    commands = tt;
    closing = λ other. absurd (other refl);
    cleared = λ long. clear_to (SomeLeft file []) start opened.folder new.folder (λ made out gone. clean.cleared made gone) (ap (λ (s : State). s.folder) near.state);
    moved = moved_near (names_of_file file.name) (long_at file start []) start opened new (moved_opened (names_of_file file.name) (long_at file start []) start opened moments added shorter clean.moved) clean.moved near;
    readers = readable_near file.name [] start opened new (λ allowed owner found. clean.readers allowed owner) near;
  }

  -- it stopped between two commands
  pub calls_stop : (now new : Scene) (past : Past) → CallsSoFar file start now past → Looks now new → CallsAsMarked file start new (record { past = past; closing = NotBegun })
  calls_stop now new past was looks = record {
    opening = λ long. was.opening new looks.moments.added looks.moments.is;
    commands = was.commands new looks.moments.added looks.moments.is;
    closing = λ other. absurd (other refl);
    cleared = λ long. clear_to (SomeLeft file past) start now.folder new.folder was.cleared looks.folder;
    moved = moved_on (names_of_file file.name) (long_at file start []) start now new was.moved
        (goes_weaker (λ m. (m.output ≡ now.output) × (m.folder ≡ now.folder)) (λ m. BothMoved (names_of_file file.name) m.folder) (λ m same. moved_same (names_of_file file.name) now.folder m.folder was.here same.1) now.trace new.trace looks.moments)
        (moved_same (names_of_file file.name) now.folder new.folder was.here looks.folder);
    readers = readable_looks file.name past start now new was.readers looks;
  }

  -- it closed, of which no call failed but the last one
  pub calls_close : (now ended new : Scene) (past : Past) (closing : Closing) → CallsSoFar file start now past → ClosingCalls now ended → LeavesNoneMade now.folder ended.folder → StaysMoved (names_of_file file.name) now ended → (closing ≡ NotBegun → ⊥)
      → IsNearEnd ended new
      → CallsAsMarked file start new (record { past = past; closing = closing })
  calls_close now ended new past closing was calls clears moves closed near =
      let fails = calls.fails in
      let newer : List Snapshot = near.last ++ (fails.last ++ fails.earlier) in
      let is : new.trace ≡ newer ++ now.trace =
      near.is ∙ ap (λ (ms : List Snapshot). near.last ++ ms) (fails.is ∙ sym (append_assoc fails.last fails.earlier now.trace)) ∙ sym (append_assoc near.last (fails.last ++ fails.earlier) now.trace) in
      record {
        opening = λ long. was.opening new newer is;
        commands = was.commands new newer is;
        closing = λ other. record { asked = now; ended = ended; begins = was.still; holds = calls; ends = inr near };
        cleared = λ long. clear_to (SomeLeft file past) start ended.folder new.folder (λ made out gone. clears made (was.cleared made out gone)) (ap (λ (s : State). s.folder) near.state);
        moved =
            let moved = moves was.here in
            moved_near (names_of_file file.name) (long_at file start []) start ended new (moved_on (names_of_file file.name) (long_at file start []) start now ended was.moved moved.0 moved.1) moved.1 near;
        readers = readable_near file.name past start ended new (readable_own file.name past start now ended was.readers calls.readers) near;
      }

  -- ---- the run goes on

  -- the opening reply was written
  pub calls_first : (opened now : Scene) → OpensClean (names_of_file file.name) start opened → IsRecorded WroteOutput [] opened now → now.folder ≡ opened.folder → now.folder_faults ≡ opened.folder_faults
      → long_at file start [] ≤ length now.output → (moments : List Snapshot) → opened.trace ≡ moments ++ start.trace → Each (IsShorter (long_at file start [])) moments → CallsSoFar file start now []
  calls_first opened now clean told folder faults long moments added shorter =
      let m : Snapshot = snapshot_of now WroteOutput [] in
      record {
        still = record {
          moments = m ∷ moments;
          added = told ∙ ap (λ (ms : List Snapshot). m ∷ ms) added;
          first = m;
          begins = record { newer = []; older = moments; is = refl; reached = long; not_before = shorter };
          still = tt;
          state = refl;
        };
        opening = λ end newer is. record {
          opened = opened;
          clean = clean;
          ends = inl (record {
            write = m;
            later = newer;
            is = is ∙ ap (λ (ms : List Snapshot). newer ++ ms) told;
            reached = long;
            state = λ i. record { folder = folder i; faults = faults i };
          });
        };
        commands = λ end newer is. tt;
        cleared = clear_to (SomeLeft file []) start opened.folder now.folder (λ made out gone. clean.cleared made gone) folder;
        moved = moved_still (names_of_file file.name) (long_at file start []) start opened now (moved_opened (names_of_file file.name) (long_at file start []) start opened moments added shorter clean.moved) clean.moved
            (record { added = m ∷ []; is = told; each = ((λ i. record { folder = folder i; faults = faults i }), tt) }) (λ i. record { folder = folder i; faults = faults i });
        here = moved_same (names_of_file file.name) opened.folder now.folder clean.moved folder;
        readers = readable_still file.name [] start opened now (λ allowed owner found. clean.readers allowed owner)
            (record { added = m ∷ []; is = told; each = ((λ i. record { folder = folder i; faults = faults i }), tt) }) (λ i. record { folder = folder i; faults = faults i });
      }

  module _ (past : Past) (last : CommandRun) (asked ended now : Scene) (was : CallsSoFar file start asked past) (calls : StepCalls (names_of_file file.name) (state_of file.state past) last asked ended)
      (steps : List Snapshot) (stepped : ended.trace ≡ steps ++ asked.trace) where
    clear_ended : LeavesNoneBut (SomeLeft file (last ∷ past)) start.folder ended.folder
    clear_ended made out gone = calls.cleared.left made (λ left. out (inl left)) (was.cleared made (λ left. out (inr left)) gone)

    moved_ended : GoesOn (λ m. BothMoved (names_of_file file.name) m.folder) asked.trace ended.trace × BothMoved (names_of_file file.name) ended.folder
    moved_ended = calls.cleared.moved was.here

    moved_since : MovedSince (names_of_file file.name) (long_at file start []) start ended
    moved_since = moved_on (names_of_file file.name) (long_at file start []) start asked ended was.moved moved_ended.0 moved_ended.1

    readable_ended : MakesReadable file.name (last ∷ past) start ended
    readable_ended = readable_command file.name past last start asked ended was.readers calls.found calls.readers

    -- the reply to a command was written in part
    pub calls_cut : IsNearEnd ended now → CallsAsMarked file start now (record { past = last ∷ past; closing = NotBegun })
    calls_cut near =
        let is : now.trace ≡ (near.last ++ steps) ++ asked.trace = near.is ∙ ap (λ (ms : List Snapshot). near.last ++ ms) stepped ∙ sym (append_assoc near.last steps asked.trace) in
        record {
          opening = λ long. was.opening now (near.last ++ steps) is;
          commands = (record { asked = asked; ended = ended; begins = was.still; holds = calls; ends = inr near }, was.commands now (near.last ++ steps) is);
          closing = λ other. absurd (other refl);
          cleared = λ long. clear_to (SomeLeft file (last ∷ past)) start ended.folder now.folder clear_ended (ap (λ (s : State). s.folder) near.state);
          moved = moved_near (names_of_file file.name) (long_at file start []) start ended now moved_since moved_ended.1 near;
          readers = readable_near file.name (last ∷ past) start ended now readable_ended near;
        }

    -- it was written
    pub calls_next : IsRecorded WroteOutput [] ended now → now.folder ≡ ended.folder → now.folder_faults ≡ ended.folder_faults → long_at file start (last ∷ past) ≤ length now.output
        → (moments : List Snapshot) → ended.trace ≡ moments ++ start.trace → Each (IsShorter (long_at file start (last ∷ past))) moments → CallsSoFar file start now (last ∷ past)
    calls_next told folder faults long moments added shorter =
        let m : Snapshot = snapshot_of now WroteOutput [] in
        let farther : (end : Scene) (newer : List Snapshot) → end.trace ≡ newer ++ now.trace → end.trace ≡ (newer ++ m ∷ steps) ++ asked.trace = λ end newer is.
        is ∙ ap (λ (ms : List Snapshot). newer ++ ms) (told ∙ ap (λ (ms : List Snapshot). m ∷ ms) stepped) ∙ sym (append_assoc newer (m ∷ steps) asked.trace) in
        record {
          still = record {
            moments = m ∷ moments;
            added = told ∙ ap (λ (ms : List Snapshot). m ∷ ms) added;
            first = m;
            begins = record { newer = []; older = moments; is = refl; reached = long; not_before = shorter };
            still = tt;
            state = refl;
          };
          opening = λ end newer is. was.opening end (newer ++ m ∷ steps) (farther end newer is);
          commands = λ end newer is. (
            record {
              asked = asked;
              ended = ended;
              begins = was.still;
              holds = calls;
              ends = inl (record {
                write = m;
                later = newer;
                is = is ∙ ap (λ (ms : List Snapshot). newer ++ ms) told;
                reached = long;
                state = λ i. record { folder = folder i; faults = faults i };
              });
            },
            was.commands end (newer ++ m ∷ steps) (farther end newer is),
          );
          cleared = clear_to (SomeLeft file (last ∷ past)) start ended.folder now.folder clear_ended folder;
          moved = moved_still (names_of_file file.name) (long_at file start []) start ended now moved_since moved_ended.1
              (record { added = m ∷ []; is = told; each = ((λ i. record { folder = folder i; faults = faults i }), tt) }) (λ i. record { folder = folder i; faults = faults i });
          here = moved_same (names_of_file file.name) ended.folder now.folder moved_ended.1 folder;
          readers = readable_still file.name (last ∷ past) start ended now readable_ended
              (record { added = m ∷ []; is = told; each = ((λ i. record { folder = folder i; faults = faults i }), tt) }) (λ i. record { folder = folder i; faults = faults i });
        }

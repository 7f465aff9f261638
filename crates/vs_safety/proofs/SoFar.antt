-- A run between two commands: what stands in the folder, and that each moment so far is one that the promise allows, whatever comes next.
use Rattle.std.proofs.Common.{◌≡◌, inl, inr, Bool, ℕ, ◌+◌, ◌<◌, ◌≤◌, List, [], ◌∷◌, ◌++◌, length, length-append, true, refl, sym, ◌∙◌, ap, subst, arith, append_assoc}
use Rattle.std.specs.Prelude.{None, IfSome}
use Rattle.std.proofs.lemmas.Bool.{cases_lt}
use Rattle.vs_faults.specs.Faults.{HasRisen}
use Rattle.vs_host.specs.Disk.{Disk, Name}
use Rattle.vs_host.specs.Trace.{Snapshot, Each}
use Rattle.vs_host.specs.World.{Scene}
use Rattle.vs_host.specs.declared.names.Names.{Names}
use Rattle.vs_disk.specs.Names.{SameAt}
use Rattle.vs_disk.specs.Runs.{Inside}
use Rattle.vs_disk.proofs.Runs.{Each-append, Each-weaker, goes_then, goes_weaker}
use Rattle.vs_text.specs.Documents.{Document}
use Rattle.vs_pair.proofs.MadeFiles.{same_weaker}
use Rattle.vs_safety.specs.Texts.{Sync, recoverable, Recovers, RecoversOrNone, IsFlag, IsBetween}
use Rattle.vs_safety.specs.Writes.{State, state_in, state_now}
use Rattle.vs_safety.specs.FileWork.{HasLeft, IsFoundIn, KeepsAmong}
use Rattle.vs_safety.specs.Turns.{Turn, with_begun, with_sync, with_next, opened, replies, EndsAfter, KeepsUndo, SparesOthers, next_of, next_write, IsWholeNext}
use Rattle.vs_safety.specs.Stretches.{IsFirst, IsShorter, IsEnd, EachTurn, HasStretch, KeepsSince, BeginsAsAtStart}
use Rattle.vs_safety.specs.Safety.{IsFirstPart, opened_at, IsKept, IsWriting, Looks, SteppedAmong, SparesAmong, IsUnderWay}
use Rattle.vs_safety.specs.History.{History, Open, After, opened_document, opening_reply, syncs_of, written_by, turns_then, replied_at, BeginsAmong, HasBegunAmong, Replied, CameTo, WaitsAmong}
use Rattle.vs_safety.proofs.Texts.{begun_within, ended_within, between_recovers, or_none, recovers_more}
use Rattle.vs_safety.proofs.UndoFiles.{undo_moment, undo_end, undo_under_way, undo_ended, undo_next, undo_none}
use Rattle.vs_safety.proofs.Splits.{spared_front}
use Rattle.vs_safety.proofs.Moments.{part_same, part_of, part_then, part_long, first_in, with_older, opens_stays, keeps_same, spared_step, whole_found, written_found}
use Rattle.vs_safety.proofs.Replies.{first_writing}
use Rattle.vs_safety.proofs.Histories.{then_is, syncs_are, place_is}

-- the first of these commands begins in this folder, and its reply is not empty
abbrev pub IsNext : List Turn → Disk → Type 0
IsNext [] folder = Unit {0}
IsNext (turn ∷ rest) folder = (0 < length turn.reply) × IfSome turn.write (λ work. IsFoundIn work folder)

-- What stands in the folder after the turns of a history.
pub record Stands (others : Name → Bool) (names : Names) (start : Disk) (past : History) (folder : Disk) : Type 0 where
  pub settled : start.pending ≡ []
  pub between : IsBetween names (syncs_of past) folder
  pub spared : SparesOthers others names (turns_then past []) start folder
  pub foreign : others names.undo ≡ true
  pub undo : KeepsUndo names start (turns_then past []) [] folder

-- ---- a moment at which the replies of a history are whole

module _ (others : Name → Bool) (names : Names) (start : Scene) (past : History) (all : List Snapshot) (rest : List Turn) (m : Snapshot) (le : replied_at start past ≤ length m.output) where
  abbrev Kept : List Turn → Type 0
  Kept turns = IsKept others names start all (opened_document past) (opening_reply past) turns m

  kept_running : EndsAfter (length m.output) (replied_at start past) rest → Recovers names (recoverable (with_next (syncs_of past) rest)) m.folder
      → SparesOthers others names (turns_then past [] ++ next_of rest) start.folder m.folder → KeepsSince others names all (replied_at start past) (next_write rest) m.folder
      → KeepsUndo names start.folder (turns_then past []) rest m.folder → IsWholeNext names rest m.folder → Kept (turns_then past rest)
  kept_running next recovers spared keeps undo whole =
      let place : opened_at start (opening_reply past) + length (replies (turns_then past [])) ≡ replied_at start past = place_is start past in
      record {
        before = λ below. absurd (omega (arith, below, le, place));
        spared = λ below. absurd (omega (arith, below, le, place));
        running = λ at. record {
          first = turns_then past [];
          rest = rest;
          split = record { turns_are = then_is past rest; whole = omega (arith, place, le); next = subst (λ (k : ℕ). EndsAfter (length m.output) k rest) (sym place) next };
          recovers = subst (λ (syncs : List Sync). Recovers names (recoverable (with_next syncs rest)) m.folder) (sym (syncs_are past [])) recovers;
          spared = spared;
          keeps = subst (λ (k : ℕ). KeepsSince others names all k (next_write rest) m.folder) (sym place) keeps;
          undo = undo;
          whole = whole;
        };
      }

-- nothing has changed since the last of them
kept_still : (others : Name → Bool) (names : Names) (start : Scene) (past : History) (all : List Snapshot) (rest : List Turn) (m since : Snapshot) → length m.output ≡ replied_at start past → Stands others names start.folder past m.folder → IsNext rest m.folder
    → IsFirst (replied_at start past) all since → since.folder ≡ m.folder → IsKept others names start all (opened_document past) (opening_reply past) (turns_then past rest) m
kept_still others names start past all [] m since long stands next begins same =
    kept_running others names start past all [] m (omega (arith, long)) tt (between_recovers names (syncs_of past) m.folder stands.between)
    (spared_front others names (turns_then past []) [] start.folder m.folder stands.spared)
    (record { since = since; begins = begins; keeps = keeps_same others names None since.folder m.folder (sym same) }) stands.undo tt
kept_still others names start past all (turn ∷ rest) m since long stands next begins same =
    kept_running others names start past all (turn ∷ rest) m (omega (arith, long)) (omega (arith, long, next.0))
    (recovers_more names _ _ m.folder (begun_within turn.sync (syncs_of past)) (between_recovers names (syncs_of past) m.folder stands.between))
    (spared_front others names (turns_then past []) (turn ∷ []) start.folder m.folder stands.spared)
    (record { since = since; begins = begins; keeps = keeps_same others names turn.write since.folder m.folder (sym same) })
    (undo_next names start.folder turn (turns_then past []) m.folder stands.undo) (whole_found names turn.write m.folder next.1)

-- the next command is under way
pub kept_part : (others : Name → Bool) (names : Names) (start : Scene) (past : History) (all : List Snapshot) (turn : Turn) (rest : List Turn) (m since : Snapshot) → replied_at start past ≤ length m.output → length m.output < replied_at start past + length turn.reply
    → Stands others names start.folder past since.folder → IfSome turn.write (λ work. IsFoundIn work since.folder) → IsFirst (replied_at start past) all since
    → SparesAmong others names turn.write (IsUnderWay names (with_begun turn.sync (syncs_of past)) turn.write) since.folder m.folder
    → IsKept others names start all (opened_document past) (opening_reply past) (turns_then past (turn ∷ rest)) m
kept_part others names start past all turn rest m since le lt stands found begins spares =
    kept_running others names start past all (turn ∷ rest) m le lt spares.folder.recovers
    (spared_step others names turn (turns_then past []) start.folder since.folder m.folder stands.settled stands.spared spares.spared)
    (record { since = since; begins = begins; keeps = spares.spared })
    (undo_under_way names start.folder turn (turns_then past []) since.folder m.folder stands.undo (undo_moment names others turn.write since.folder m.folder stands.foreign found spares.spared spares.folder.whole))
    spares.folder.whole

-- ---- the history goes on

stands_after : (others : Name → Bool) (names : Names) (start : Disk) (past : History) (turn : Turn) (old new : Scene) → Stands others names start past old.folder → SteppedAmong others names (syncs_of past) turn old new → Stands others names start (After past turn) new.folder
stands_after others names start past turn old new stands stepped =
    let turns : List Turn = turns_then past [] in
    let found : IfSome turn.write (λ work. IsFoundIn work old.folder) = written_found names turn.write turn.done turn.failed (state_now old) (state_now new) stepped.wrote in
    record {
      settled = stands.settled;
      between = stepped.between;
      spared = subst (λ (ts : List Turn). SparesOthers others names ts start new.folder) (sym (then_is past (turn ∷ [])))
          (spared_step others names turn turns start old.folder new.folder stands.settled stands.spared stepped.works.spared);
      foreign = stands.foreign;
      undo = subst (λ (ts : List Turn). KeepsUndo names start ts [] new.folder) (sym (then_is past (turn ∷ [])))
          (undo_ended names start turn turns new.folder
          (undo_under_way names start turn turns old.folder new.folder stands.undo (undo_moment names others turn.write old.folder new.folder stands.foreign found stepped.works.spared stepped.whole))
          (undo_end names turn (state_now old) (state_now new) stepped.wrote));
    }

-- What is known of a run with this history, where its last reply is whole and only looks came since.
pub record SoFar (others : Name → Bool) (names : Names) (start : Scene) (past : History) (now : Scene) : Type 0 where
  pub moments : List Snapshot
  pub added : now.trace ≡ moments ++ start.trace
  pub parts : Each (λ m. IsFirstPart m.output now.output) moments
  pub output : now.output ≡ start.output ++ written_by past
  pub long : length now.output ≡ replied_at start past
  -- the snapshot of the last reply
  pub here : Snapshot
  pub begins : IsFirst (replied_at start past) moments here
  pub state : state_in here ≡ state_now now
  pub at_start : RecoversOrNone names (opened_document past ∷ []) start.folder
  pub stands : Stands others names start.folder past now.folder
  pub opens : BeginsAsAtStart others start.folder moments (opened_at start (opening_reply past))
  -- whatever comes next, in a longer trace
  pub kept : (all newer : List Snapshot) (rest : List Turn) → all ≡ newer ++ moments → IsNext rest now.folder
      → Each (IsKept others names start all (opened_document past) (opening_reply past) (turns_then past rest)) moments
  pub stretches : (all newer : List Snapshot) (new : Scene) (rest : List Turn) → all ≡ newer ++ moments → EachTurn (HasStretch others names all new) (replied_at start past) rest
      → EachTurn (HasStretch others names all new) (opened_at start (opening_reply past)) (turns_then past rest)

parts_on : (one other : List ℕ) (moments : List Snapshot) → IsFirstPart one other → Each (λ m. IsFirstPart m.output one) moments → Each (λ m. IsFirstPart m.output other) moments
parts_on one other moments part parts = Each-weaker (λ m. IsFirstPart m.output one) (λ m. IsFirstPart m.output other) (λ m first. part_then m.output one other first part) moments parts

pub parts_shorter : (n : ℕ) (output : List ℕ) (moments : List Snapshot) → length output < n → Each (λ m. IsFirstPart m.output output) moments → Each (IsShorter n) moments
parts_shorter n output moments lt parts = Each-weaker (λ m. IsFirstPart m.output output) (IsShorter n) (λ m first. omega (arith, lt, part_long m.output output first)) moments parts

module _ (others : Name → Bool) (names : Names) (start : Scene) (past : History) where
  -- calls that only look
  pub looks_on : (now new : Scene) → SoFar others names start past now → Looks now new → SoFar others names start past new
  looks_on now new so_far looks =
      let newest : List Snapshot = looks.moments.added in
      let older : List Snapshot = so_far.moments in
      let Still : Snapshot → Type 0 = λ m. (m.output ≡ now.output) × (m.folder ≡ now.folder) in
      let here_folder : so_far.here.folder ≡ now.folder = ap (λ (s : State). s.folder) so_far.state in
      record {
        moments = newest ++ older;
        added = looks.moments.is ∙ ap (λ (ms : List Snapshot). newest ++ ms) so_far.added ∙ sym (append_assoc newest older start.trace);
        parts = Each-append (λ m. IsFirstPart m.output new.output) newest older
            (Each-weaker Still (λ m. IsFirstPart m.output new.output) (λ m still. part_of m.output new.output (looks.output ∙ sym still.0)) newest looks.moments.each)
            (parts_on now.output new.output older (part_of now.output new.output looks.output) so_far.parts);
        output = looks.output ∙ so_far.output;
        long = ap (λ (l : List ℕ). length l) looks.output ∙ so_far.long;
        here = so_far.here;
        begins = first_in (replied_at start past) (newest ++ older) newest older so_far.here refl so_far.begins;
        state = so_far.state ∙ (λ i. record { folder = sym looks.folder i; faults = sym looks.faults i });
        at_start = so_far.at_start;
        stands = subst (λ (d : Disk). Stands others names start.folder past d) (sym looks.folder) so_far.stands;
        opens = opens_stays others start.folder older newest _ so_far.opens;
        kept = λ all newer rest are next.
            let Kept : Snapshot → Type 0 = IsKept others names start all (opened_document past) (opening_reply past) (turns_then past rest) in
            let farther : all ≡ (newer ++ newest) ++ older = are ∙ sym (append_assoc newer newest older) in
            Each-append Kept newest older
            (Each-weaker Still Kept
            (λ m still. kept_still others names start past all rest m so_far.here (ap (λ (l : List ℕ). length l) still.0 ∙ so_far.long)
            (subst (λ (d : Disk). Stands others names start.folder past d) (sym still.1) so_far.stands) (subst (λ (d : Disk). IsNext rest d) (looks.folder ∙ sym still.1) next)
            (first_in (replied_at start past) all (newer ++ newest) older so_far.here farther so_far.begins) (here_folder ∙ sym still.1))
            newest looks.moments.each)
            (so_far.kept all (newer ++ newest) rest farther (subst (λ (d : Disk). IsNext rest d) looks.folder next));
        stretches = λ all newer end rest are each. so_far.stretches all (newer ++ newest) end rest (are ∙ sym (append_assoc newer newest older)) each;
      }

  module _ (turn : Turn) (now ended : Scene) (so_far : SoFar others names start past now) (stepped : SteppedAmong others names (syncs_of past) turn now ended) where
    abbrev older : List Snapshot
    older = so_far.moments

    abbrev steps : List Snapshot
    steps = stepped.works.moments.added

    here_folder : so_far.here.folder ≡ now.folder
    here_folder = ap (λ (s : State). s.folder) so_far.state

    pub found_now : IfSome turn.write (λ work. IsFoundIn work now.folder)
    found_now = written_found names turn.write turn.done turn.failed (state_now now) (state_now ended) stepped.wrote

    long_ended : length ended.output ≡ replied_at start past
    long_ended = ap (λ (l : List ℕ). length l) stepped.works.output ∙ so_far.long

    -- a moment of it
    pub kept_step : (all newer : List Snapshot) (rest : List Turn) (m : Snapshot) → all ≡ newer ++ older → replied_at start past ≤ length m.output → length m.output < replied_at start past + length turn.reply
        → SparesAmong others names turn.write (IsUnderWay names (with_begun turn.sync (syncs_of past)) turn.write) now.folder m.folder
        → IsKept others names start all (opened_document past) (opening_reply past) (turns_then past (turn ∷ rest)) m
    kept_step all newer rest m are le lt spares =
        kept_part others names start past all turn rest m so_far.here le lt (subst (λ (d : Disk). Stands others names start.folder past d) (sym here_folder) so_far.stands)
        (subst (λ (d : Disk). IfSome turn.write (λ work. IsFoundIn work d)) (sym here_folder) found_now)
        (first_in (replied_at start past) all newer older so_far.here are so_far.begins)
        (subst (λ (d : Disk). SparesAmong others names turn.write (IsUnderWay names (with_begun turn.sync (syncs_of past)) turn.write) d m.folder) (sym here_folder) spares)

    -- its own moments
    pub kept_steps : (all newer : List Snapshot) (rest : List Turn) → all ≡ newer ++ older → 0 < length turn.reply → Each (IsKept others names start all (opened_document past) (opening_reply past) (turns_then past (turn ∷ rest))) steps
    kept_steps all newer rest are some =
        Each-weaker (Inside ended (SparesAmong others names turn.write (IsUnderWay names (with_begun turn.sync (syncs_of past)) turn.write) now.folder)) (IsKept others names start all (opened_document past) (opening_reply past) (turns_then past (turn ∷ rest)))
        (λ m inside. let long : length m.output ≡ replied_at start past = ap (λ (l : List ℕ). length l) inside.output ∙ long_ended in
        kept_step all newer rest m are (omega (arith, long)) (omega (arith, long, some)) inside.folder)
        steps stepped.works.moments.each

    pub steps_parts : (output : List ℕ) → IsFirstPart ended.output output → Each (λ m. IsFirstPart m.output output) (steps ++ older)
    steps_parts output part =
        Each-append (λ m. IsFirstPart m.output output) steps older
        (Each-weaker (Inside ended (SparesAmong others names turn.write (IsUnderWay names (with_begun turn.sync (syncs_of past)) turn.write) now.folder)) (λ m. IsFirstPart m.output output)
        (λ m inside. part_then m.output ended.output output (part_of m.output ended.output (sym inside.output)) part) steps stepped.works.moments.each)
        (parts_on now.output output older (part_then now.output ended.output output (part_of now.output ended.output stepped.works.output) part) so_far.parts)

    pub steps_added : ended.trace ≡ (steps ++ older) ++ start.trace
    steps_added = stepped.works.moments.is ∙ ap (λ (ms : List Snapshot). steps ++ ms) so_far.added ∙ sym (append_assoc steps older start.trace)

    -- its stretch, where the folder at its end is as the command left it
    pub stretch_is : (all newer : List Snapshot) (new : Scene) (last : State) → all ≡ newer ++ older → state_now ended ≡ last → IsEnd (replied_at start past + length turn.reply) all new last
        → HasStretch others names all new (replied_at start past) (replied_at start past + length turn.reply) turn
    stretch_is all newer new last are same ends =
        let Stretch : State → State → Type 0 = λ first end.
        IfSome turn.found (λ found. found ≡ first.folder) × IfSome turn.sync (λ sync. IsFlag names turn.done first.folder end.folder sync.acknowledged)
        × IfSome turn.write (λ work. HasLeft names work turn.done turn.failed first end) × KeepsAmong others names turn.write first.folder end.folder × (turn.failed ≡ true → HasRisen first.faults end.faults) in
        let here : Stretch (state_in so_far.here) last = subst (λ (first : State). Stretch first last) (sym so_far.state)
        (subst (λ (end : State). Stretch (state_now now) end) same (stepped.found, stepped.flag, stepped.wrote, stepped.works.spared, stepped.cause)) in
        record {
          first = so_far.here;
          last = last;
          begins = first_in (replied_at start past) all newer older so_far.here are so_far.begins;
          ends = ends;
          found = here.0;
          flag = here.1;
          wrote = here.2;
          keeps = here.3;
          cause = here.4;
        }

    -- as the command left the folder
    left : (d : Disk) → d ≡ ended.folder → SparesAmong others names turn.write (IsUnderWay names (with_begun turn.sync (syncs_of past)) turn.write) now.folder d
    left d same = subst (λ (d : Disk). SparesAmong others names turn.write (IsUnderWay names (with_begun turn.sync (syncs_of past)) turn.write) now.folder d) (sym same) (record {
      folder = record {
        recovers = recovers_more names _ _ ended.folder (ended_within turn.sync (syncs_of past)) (between_recovers names (with_sync turn.sync (syncs_of past)) ended.folder stepped.between);
        whole = stepped.whole;
      };
      spared = stepped.works.spared;
    })

    -- a moment of its reply, before it is whole
    pub kept_reply : (all newer : List Snapshot) (rest : List Turn) (new : Scene) (m : Snapshot) → all ≡ newer ++ older → IsWriting ended new m → length m.output < replied_at start past + length turn.reply
        → IsKept others names start all (opened_document past) (opening_reply past) (turns_then past (turn ∷ rest)) m
    kept_reply all newer rest new m are writing lt =
        kept_step all newer rest m are (omega (arith, long_ended, part_long ended.output m.output writing.begun)) lt (left m.folder (ap (λ (s : State). s.folder) writing.state))

    -- its reply is whole
    module _ (new : Scene) (replied : Replied turn.reply ended new) where
      abbrev newest : List Snapshot
      newest = replied.wrote.moments.added

      abbrev place : ℕ
      place = replied_at start past + length turn.reply

      abbrev here_now : Snapshot
      here_now = (replied.wrote.whole replied.some).0

      long_new : length new.output ≡ place
      long_new = ap (λ (l : List ℕ). length l) replied.wrote.output ∙ length-append ended.output turn.reply ∙ ap (λ (n : ℕ). n + length turn.reply) long_ended

      begins_new : IsFirst place (newest ++ (steps ++ older)) here_now
      begins_new = with_older place newest (steps ++ older) here_now
          (parts_shorter place ended.output (steps ++ older) (omega (arith, long_ended, replied.some)) (steps_parts ended.output (part_same ended.output)))
          (subst (λ (n : ℕ). IsFirst n newest here_now) long_new (replied.wrote.whole replied.some).1)

      same_state : state_in here_now ≡ state_now ended
      same_state = (first_writing ended new turn.reply replied.wrote replied.some).state

      stands_new : Stands others names start.folder (After past turn) ended.folder
      stands_new = stands_after others names start.folder past turn now ended so_far.stands stepped

      farther : (all newer : List Snapshot) → all ≡ newer ++ (newest ++ (steps ++ older)) → all ≡ (newer ++ (newest ++ steps)) ++ older
      farther all newer are = are ∙ ap (λ (ms : List Snapshot). newer ++ ms) (sym (append_assoc newest steps older)) ∙ sym (append_assoc newer (newest ++ steps) older)

      -- a moment of its reply
      kept_replied : (all newer : List Snapshot) (rest : List Turn) → all ≡ newer ++ (newest ++ (steps ++ older)) → IsNext rest new.folder → (m : Snapshot) → IsWriting ended new m
          → IsKept others names start all (opened_document past) (opening_reply past) (turns_then past (turn ∷ rest)) m
      kept_replied all newer rest are next m writing =
          let folder : m.folder ≡ ended.folder = ap (λ (s : State). s.folder) writing.state in
          elim (cases_lt (length m.output) place) [
            | inl lt ↦ kept_reply all (newer ++ (newest ++ steps)) rest new m (farther all newer are) writing lt
            | inr ge ↦ kept_still others names start (After past turn) all rest m here_now (omega (arith, ge, long_new, part_long m.output new.output writing.output))
                (subst (λ (d : Disk). Stands others names start.folder (After past turn) d) (sym folder) stands_new) (subst (λ (d : Disk). IsNext rest d) (replied.wrote.folder ∙ sym folder) next)
                (first_in place all newer (newest ++ (steps ++ older)) here_now are begins_new) (ap (λ (s : State). s.folder) same_state ∙ sym folder)
          ]

      pub answers_on : SoFar others names start (After past turn) new
      answers_on = record {
        moments = newest ++ (steps ++ older);
        added = replied.wrote.moments.is ∙ ap (λ (ms : List Snapshot). newest ++ ms) steps_added ∙ sym (append_assoc newest (steps ++ older) start.trace);
        parts = Each-append (λ m. IsFirstPart m.output new.output) newest (steps ++ older)
            (Each-weaker (IsWriting ended new) (λ m. IsFirstPart m.output new.output) (λ m writing. writing.output) newest replied.wrote.moments.each)
            (steps_parts new.output (turn.reply, replied.wrote.output));
        output = replied.wrote.output ∙ ap (λ (l : List ℕ). l ++ turn.reply) (stepped.works.output ∙ so_far.output) ∙ append_assoc start.output (written_by past) turn.reply;
        long = long_new;
        here = here_now;
        begins = begins_new;
        state = same_state ∙ (λ i. record { folder = sym replied.wrote.folder i; faults = sym replied.wrote.faults i });
        at_start = so_far.at_start;
        stands = subst (λ (d : Disk). Stands others names start.folder (After past turn) d) (sym replied.wrote.folder) stands_new;
        opens = subst (λ (ms : List Snapshot). BeginsAsAtStart others start.folder ms (opened_at start (opening_reply past))) (append_assoc newest steps older)
            (opens_stays others start.folder older (newest ++ steps) _ so_far.opens);
        kept = λ all newer rest are next.
            let Kept : Snapshot → Type 0 = IsKept others names start all (opened_document past) (opening_reply past) (turns_then past (turn ∷ rest)) in
            Each-append Kept newest (steps ++ older)
            (Each-weaker (IsWriting ended new) Kept (kept_replied all newer rest are next) newest replied.wrote.moments.each)
            (Each-append Kept steps older (kept_steps all (newer ++ (newest ++ steps)) rest (farther all newer are) replied.some)
            (so_far.kept all (newer ++ (newest ++ steps)) (turn ∷ rest) (farther all newer are) (replied.some, found_now)));
        stretches = λ all newer last rest are each.
            so_far.stretches all (newer ++ (newest ++ steps)) last (turn ∷ rest) (farther all newer are)
            (stretch_is all (newer ++ (newest ++ steps)) last (state_in here_now) (farther all newer are) (sym same_state) (inl (here_now, first_in place all newer (newest ++ (steps ++ older)) here_now are begins_new, refl)), each);
      }

-- ---- the opening

module _ (others : Name → Bool) (names : Names) (document : Document) (opening : List ℕ) (start now : Scene) where
  -- a moment before the opening reply is whole
  pub kept_before : (all : List Snapshot) (turns : List Turn) (m : Snapshot) → length m.output < opened_at start opening → RecoversOrNone names (document ∷ []) m.folder → SameAt others start.folder m.folder
      → IsKept others names start all document opening turns m
  kept_before all turns m lt recovers spared = record { before = λ below. recovers; spared = λ below. spared; running = λ le. absurd (omega (arith, lt, le)) }

  module _ (opens : BeginsAmong others names document start now) where
    abbrev looked : List Snapshot
    looked = opens.works.moments.added

    pub kept_opening : (all : List Snapshot) (turns : List Turn) → 0 < length opening → Each (IsKept others names start all document opening turns) looked
    kept_opening all turns some =
        Each-weaker (Inside now (SparesAmong others names None (RecoversOrNone names (document ∷ [])) start.folder)) (IsKept others names start all document opening turns)
        (λ m inside. kept_before all turns m (omega (arith, some, ap (λ (l : List ℕ). length l) (inside.output ∙ opens.works.output))) inside.folder.folder inside.folder.spared)
        looked opens.works.moments.each

    pub opening_parts : (output : List ℕ) → IsFirstPart now.output output → Each (λ m. IsFirstPart m.output output) looked
    opening_parts output part =
        Each-weaker (Inside now (SparesAmong others names None (RecoversOrNone names (document ∷ [])) start.folder)) (λ m. IsFirstPart m.output output)
        (λ m inside. part_then m.output now.output output (part_of m.output now.output (sym inside.output)) part) looked opens.works.moments.each

  spared_none : (new : Disk) → SameAt others start.folder new → SparesOthers others names [] start.folder new
  spared_none new same inside foreign all = same_weaker others inside start.folder new foreign same

  -- a moment of the opening reply, before it is whole
  pub kept_begun : (all : List Snapshot) (turns : List Turn) (new : Scene) (m : Snapshot) → HasBegunAmong others names document start now → IsWriting now new m → length m.output < opened_at start opening
      → IsKept others names start all document opening turns m
  kept_begun all turns new m has writing lt =
      let folder : now.folder ≡ m.folder = sym (ap (λ (s : State). s.folder) writing.state) in
      kept_before all turns m lt
      (subst (λ (d : Disk). RecoversOrNone names (document ∷ []) d) folder (or_none names (document ∷ []) now.folder (between_recovers names (opened document) now.folder has.between)))
      (subst (λ (d : Disk). SameAt others start.folder d) folder has.begins.works.spared)

  -- and where it is
  module _ (new : Scene) (has : HasBegunAmong others names document start now) (replied : Replied opening now new) where
    abbrev answer : List Snapshot
    answer = replied.wrote.moments.added

    abbrev before : List Snapshot
    before = looked has.begins

    abbrev open_here : Snapshot
    open_here = (replied.wrote.whole replied.some).0

    open_output : new.output ≡ start.output ++ opening
    open_output = replied.wrote.output ∙ ap (λ (l : List ℕ). l ++ opening) has.begins.works.output

    open_long : length new.output ≡ opened_at start opening
    open_long = ap (λ (l : List ℕ). length l) open_output ∙ length-append start.output opening

    open_begins : IsFirst (opened_at start opening) (answer ++ before) open_here
    open_begins = with_older (opened_at start opening) answer before open_here
        (parts_shorter (opened_at start opening) now.output before (omega (arith, replied.some, ap (λ (l : List ℕ). length l) has.begins.works.output)) (opening_parts has.begins now.output (part_same now.output)))
        (subst (λ (n : ℕ). IsFirst n answer open_here) open_long (replied.wrote.whole replied.some).1)

    open_state : state_in open_here ≡ state_now now
    open_state = (first_writing now new opening replied.wrote replied.some).state

    open_stands : Stands others names start.folder (Open document opening) now.folder
    open_stands = record {
      settled = has.begins.settled;
      between = has.between;
      spared = spared_none now.folder has.begins.works.spared;
      foreign = has.foreign;
      undo = undo_none others names start.folder now.folder has.foreign has.begins.works.spared;
    }

    kept_opened : (all newer : List Snapshot) (rest : List Turn) → all ≡ newer ++ (answer ++ before) → IsNext rest new.folder → (m : Snapshot) → IsWriting now new m → IsKept others names start all document opening rest m
    kept_opened all newer rest are next m writing =
        let folder : m.folder ≡ now.folder = ap (λ (s : State). s.folder) writing.state in
        elim (cases_lt (length m.output) (opened_at start opening)) [
          | inl lt ↦ kept_begun all rest new m has writing lt
          | inr ge ↦ kept_still others names start (Open document opening) all rest m open_here (omega (arith, ge, open_long, part_long m.output new.output writing.output))
              (subst (λ (d : Disk). Stands others names start.folder (Open document opening) d) (sym folder) open_stands) (subst (λ (d : Disk). IsNext rest d) (replied.wrote.folder ∙ sym folder) next)
              (first_in (opened_at start opening) all newer (answer ++ before) open_here are open_begins) (ap (λ (s : State). s.folder) open_state ∙ sym folder)
        ]

    opening_on : SoFar others names start (Open document opening) new
    opening_on = record {
      moments = answer ++ before;
      added = replied.wrote.moments.is ∙ ap (λ (ms : List Snapshot). answer ++ ms) has.begins.works.moments.is ∙ sym (append_assoc answer before start.trace);
      parts = Each-append (λ m. IsFirstPart m.output new.output) answer before
          (Each-weaker (IsWriting now new) (λ m. IsFirstPart m.output new.output) (λ m writing. writing.output) answer replied.wrote.moments.each)
          (opening_parts has.begins new.output (opening, replied.wrote.output));
      output = open_output;
      long = open_long;
      here = open_here;
      begins = open_begins;
      state = open_state ∙ (λ i. record { folder = sym replied.wrote.folder i; faults = sym replied.wrote.faults i });
      at_start = has.begins.at_start;
      stands = subst (λ (d : Disk). Stands others names start.folder (Open document opening) d) (sym replied.wrote.folder) open_stands;
      opens = record {
        first = open_here;
        begins = open_begins;
        same = subst (λ (d : Disk). SameAt others start.folder d) (sym (ap (λ (s : State). s.folder) open_state)) has.begins.works.spared;
      };
      kept = λ all newer rest are next.
          Each-append (IsKept others names start all document opening rest) answer before
          (Each-weaker (IsWriting now new) (IsKept others names start all document opening rest) (kept_opened all newer rest are next) answer replied.wrote.moments.each)
          (kept_opening has.begins all rest replied.some);
      stretches = λ all newer last rest are each. each;
    }

-- ---- all of it, by the history

pub so_far : (others : Name → Bool) (names : Names) (start : Scene) (past : History) (now : Scene) → CameTo others names start past now → SoFar others names start past now
so_far others names start (Open document opening) now came = opening_on others names document opening start came.0 now came.1 came.2
so_far others names start (After past turn) now came =
    let last = came.2 in
    answers_on others names start past turn last.asked last.ended (looks_on others names start past came.0 last.asked (so_far others names start past came.0 came.1) last.looks) last.stepped now last.replied

pub so_far_now : (others : Name → Bool) (names : Names) (start : Scene) (past : History) (now : Scene) → WaitsAmong others names start past now → SoFar others names start past now
so_far_now others names start past now waits = looks_on others names start past waits.found now (so_far others names start past waits.found waits.came) waits.looks

-- ---- the run goes on

looks_none : (now : Scene) → Looks now now
looks_none now = record { moments = record { added = []; is = refl; each = tt }; output = refl; folder = refl; faults = refl }

-- it looks
pub waits_on : (others : Name → Bool) (names : Names) (start : Scene) (past : History) (now new : Scene) → WaitsAmong others names start past now → Looks now new → WaitsAmong others names start past new
waits_on others names start past now new waits looks =
    let Still : Scene → Snapshot → Type 0 = λ s m. (m.output ≡ s.output) × (m.folder ≡ s.folder) in
    record {
      found = waits.found;
      came = waits.came;
      looks = record {
        moments = goes_then (Still waits.found) waits.found.trace now.trace new.trace waits.looks.moments
            (goes_weaker (Still now) (Still waits.found) (λ m still. (still.0 ∙ waits.looks.output, still.1 ∙ waits.looks.folder)) now.trace new.trace looks.moments);
        output = looks.output ∙ waits.looks.output;
        folder = looks.folder ∙ waits.looks.folder;
        faults = looks.faults ∙ waits.looks.faults;
      };
    }

-- it has opened its file
pub waits_first : (others : Name → Bool) (names : Names) (start : Scene) (document : Document) (opening : List ℕ) (mid now : Scene) → HasBegunAmong others names document start mid → Replied opening mid now → WaitsAmong others names start (Open document opening) now
waits_first others names start document opening mid now has replied = record { found = now; came = (mid, has, replied); looks = looks_none now }

-- it has answered a command
pub waits_next : (others : Name → Bool) (names : Names) (start : Scene) (past : History) (turn : Turn) (now ended new : Scene) → WaitsAmong others names start past now → SteppedAmong others names (syncs_of past) turn now ended → Replied turn.reply ended new
    → WaitsAmong others names start (After past turn) new
waits_next others names start past turn now ended new waits stepped replied = record {
  found = new;
  came = (waits.found, waits.came, record { asked = now; ended = ended; looks = waits.looks; stepped = stepped; replied = replied });
  looks = looks_none new;
}

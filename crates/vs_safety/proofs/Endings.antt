-- How a run ends: in its opening, between two commands, in a command or its reply, or by an accepted quit, each with the promise that it keeps.
use Rattle.std.proofs.Common.{◌≡◌, ◌⊎◌, inl, inr, Bool, ℕ, ◌+◌, ◌<◌, ◌≤◌, List, [], ◌∷◌, ◌++◌, length, length-append, refl, sym, ◌∙◌, ap, subst, arith, append_assoc}
use Rattle.std.specs.Prelude.{None}
use Rattle.std.proofs.lemmas.List.{append-nil}
use Rattle.std.proofs.lemmas.Bool.{cases_lt}
use Rattle.vs_host.specs.Disk.{Disk, Name}
use Rattle.vs_host.specs.Trace.{Snapshot, Each}
use Rattle.vs_host.specs.World.{Scene, LeavesTrace}
use Rattle.vs_host.specs.declared.names.Names.{Names}
use Rattle.vs_disk.specs.Names.{SameAt}
use Rattle.vs_disk.specs.Runs.{Inside}
use Rattle.vs_disk.proofs.Runs.{Each-append, Each-weaker}
use Rattle.vs_disk.proofs.Others.{same_then}
use Rattle.vs_text.specs.Documents.{Document}
use Rattle.vs_pair.proofs.MadeFiles.{same_weaker}
use Rattle.vs_safety.specs.Texts.{Sync, recoverable, RecoversOrNone, NoneLeft}
use Rattle.vs_safety.specs.Writes.{State, state_now}
use Rattle.vs_safety.specs.Turns.{Turn, Closing, NotBegun, LastSync, Quits, with_begun, with_closing, opened, replies, behind, last_turn}
use Rattle.vs_safety.specs.Stretches.{IsFirst, IsShorter, EachTurn, HasStretch}
use Rattle.vs_safety.specs.Safety.{IsFirstPart, opened_at, IsKept, IsSafe, IsCrashSafeAmong, SparesAmong, WorksAmong, IsWriting, Wrote, SteppedAmong, IsUnderWay}
use Rattle.vs_safety.specs.History.{History, Open, After, opened_document, opening_reply, syncs_of, written_by, turns_then, replied_at, ran_of, BeginsAmong, HasBegunAmong, Replied, WaitsAmong}
use Rattle.vs_safety.proofs.Texts.{or_none, between_recovers}
use Rattle.vs_safety.proofs.UndoFiles.{undo_spared}
use Rattle.vs_safety.proofs.Moments.{part_of, part_then, part_long, first_in, opens_stays, each_both}
use Rattle.vs_safety.proofs.Histories.{then_is, syncs_are, written_are, replied_is, place_is, quit_turns}
use Rattle.vs_safety.proofs.Replies.{part_whole}
use Rattle.vs_safety.proofs.SoFar.{IsNext, SoFar, parts_shorter, found_now, kept_steps, kept_reply, steps_parts, stretch_is, answers_on, kept_before, kept_opening, opening_parts, so_far, so_far_now}

-- an output that may lack the end of what is written next
cut_part : (now new written tail : List ℕ) → new ≡ now ++ written → IsFirstPart written tail → IsFirstPart new (now ++ tail)
cut_part now new written tail is part = (part.0, ap (λ (l : List ℕ). now ++ l) part.1 ∙ sym (append_assoc now written part.0) ∙ ap (λ (l : List ℕ). l ++ part.0) (sym is))

-- ---- the opening

module _ (others : Name → Bool) (names : Names) (line : List ℕ) (document : Document) (opening : List ℕ) (start now : Scene) (opens : BeginsAmong others names document start now) where
  -- its reply is not whole
  opening_stops : (new : Scene) (newest : List Snapshot) (written : List ℕ) → new.trace ≡ newest ++ now.trace → new.output ≡ now.output ++ written → IsFirstPart written opening → length new.output < opened_at start opening
      → 0 < length opening → Each (λ m. IsFirstPart m.output new.output × RecoversOrNone names (document ∷ []) m.folder × SameAt others start.folder m.folder) newest → IsCrashSafeAmong others names line start new (ran_of (Open document opening) NotBegun)
  opening_stops new newest written added output part lt some each =
      let all : List Snapshot = newest ++ opens.works.moments.added in
      let Moment : Snapshot → Type 0 = IsSafe others names start new all (ran_of (Open document opening) NotBegun) in
      record {
        moments = all;
        added = added ∙ ap (λ (ms : List Snapshot). newest ++ ms) opens.works.moments.is ∙ sym (append_assoc newest opens.works.moments.added start.trace);
        at_start = opens.at_start;
        opens = λ le. absurd (omega (arith, le, lt));
        safe = Each-append Moment newest opens.works.moments.added
            (Each-weaker (λ m. IsFirstPart m.output new.output × RecoversOrNone names (document ∷ []) m.folder × SameAt others start.folder m.folder) Moment
            (λ m one. record {
              output = one.0;
              kept = inl (kept_before others names document opening start now all [] m (omega (arith, lt, part_long m.output new.output one.0)) one.1 one.2);
              gone = λ quits. absurd (cc);
            })
            newest each)
            (Each-weaker (λ m. IsFirstPart m.output new.output × IsKept others names start all document opening [] m) Moment (λ m one. record { output = one.0; kept = inl one.1; gone = λ quits. absurd (cc) }) opens.works.moments.added
            (each_both (λ m. IsFirstPart m.output new.output) (IsKept others names start all document opening []) opens.works.moments.added
            (opening_parts others names document opening start now opens new.output (written, output)) (kept_opening others names document opening start now opens all [] some)));
        output = part_then new.output (now.output ++ opening) _ (cut_part now.output new.output written opening output part)
            ([], ap (λ (l : List ℕ). start.output ++ l) (append-nil (opening ++ []) ∙ append-nil opening) ∙ ap (λ (l : List ℕ). l ++ opening) (sym opens.works.output) ∙ sym (append-nil (now.output ++ opening)));
        stretches = tt;
      }

  pub not_opened : 0 < length opening → IsCrashSafeAmong others names line start now (ran_of (Open document opening) NotBegun)
  not_opened some = opening_stops now [] [] refl (sym (append-nil now.output)) (opening, refl) (omega (arith, some, ap (λ (l : List ℕ). length l) opens.works.output)) some tt

-- ---- after it

-- The end of a run whose replies so far are those of a history: what is left of its output is `tail`, of which some bytes were written.
module _ (others : Name → Bool) (names : Names) (line : List ℕ) (start : Scene) (past : History) (now new : Scene) (so_far : SoFar others names start past now) (newest : List Snapshot) (rest turns : List Turn) (closing : Closing) where
  abbrev all : List Snapshot
  all = newest ++ so_far.moments

  abbrev Moment : Snapshot → Type 0
  Moment = IsSafe others names start new all (record { document = opened_document past; opening = opening_reply past; turns = turns; closing = closing })

  ends_so : new.trace ≡ newest ++ now.trace → with_closing turns closing ≡ turns_then past rest → IsNext rest now.folder → (written tail : List ℕ) → replies rest ++ behind line closing ≡ tail → IsFirstPart written tail → new.output ≡ now.output ++ written
      → Each Moment newest → EachTurn (HasStretch others names all new) (replied_at start past) rest
      → IsCrashSafeAmong others names line start new (record { document = opened_document past; opening = opening_reply past; turns = turns; closing = closing })
  ends_so added are next written tail tail_is part output safe stretches = record {
    moments = all;
    added = added ∙ ap (λ (ms : List Snapshot). newest ++ ms) so_far.added ∙ sym (append_assoc newest so_far.moments start.trace);
    at_start = so_far.at_start;
    opens = λ le. opens_stays others start.folder so_far.moments newest _ so_far.opens;
    safe = Each-append Moment newest so_far.moments safe (older so_far.moments so_far.parts (so_far.kept all newest rest refl next));
    output = part_then new.output (now.output ++ tail) _ (cut_part now.output new.output written tail output part) ([], whole ∙ sym (append-nil (now.output ++ tail)));
    stretches = subst (λ (ts : List Turn). EachTurn (HasStretch others names all new) (opened_at start (opening_reply past)) ts) (sym are) (so_far.stretches all newest new rest refl stretches);
  }
    where
      whole : start.output ++ ((opening_reply past ++ replies (with_closing turns closing)) ++ behind line closing) ≡ now.output ++ tail
      whole =
          ap (λ (ts : List Turn). start.output ++ ((opening_reply past ++ replies ts) ++ behind line closing)) are
          ∙ ap (λ (l : List ℕ). start.output ++ (l ++ behind line closing)) (written_are past rest)
          ∙ ap (λ (l : List ℕ). start.output ++ l) (append_assoc (written_by past) (replies rest) (behind line closing))
          ∙ ap (λ (l : List ℕ). start.output ++ (written_by past ++ l)) tail_is
          ∙ sym (append_assoc start.output (written_by past) tail) ∙ ap (λ (l : List ℕ). l ++ tail) (sym so_far.output)

      -- where it quits, all replies are whole
      no_later : closing ≡ Quits → replied_at start past ≤ opened_at start (opening_reply past) + length (replies turns)
      no_later quits = omega (arith, ap (λ (ts : List Turn). length (replies ts)) (sym (quit_turns turns closing quits) ∙ are), replied_is start past rest)

      older : (moments : List Snapshot) → Each (λ m. IsFirstPart m.output now.output) moments → Each (IsKept others names start all (opened_document past) (opening_reply past) (turns_then past rest)) moments → Each Moment moments
      older [] parts kept = tt
      older (m ∷ ms) parts kept = (
        record {
          output = part_then m.output now.output new.output parts.0 (written, output);
          kept = inl (subst (λ (ts : List Turn). IsKept others names start all (opened_document past) (opening_reply past) ts m) (sym are) kept.0);
          gone = λ quits more. absurd (omega (arith, more, no_later quits, part_long m.output now.output parts.0, so_far.long));
        },
        older ms parts.1 kept.1,
      )

-- between two commands
pub stops_here : (others : Name → Bool) (names : Names) (line : List ℕ) (start : Scene) (past : History) (now : Scene) → SoFar others names start past now → (turns : List Turn) (closing : Closing) → with_closing turns closing ≡ turns_then past [] → ((l : List ℕ) → behind l closing ≡ [])
    → IsCrashSafeAmong others names line start now (record { document = opened_document past; opening = opening_reply past; turns = turns; closing = closing })
stops_here others names line start past now so_far turns closing are none =
    ends_so others names line start past now now so_far [] [] turns closing refl are tt [] [] (none line) ([], refl) (sym (append-nil now.output)) tt tt

-- in a command, or in its reply
module _ (others : Name → Bool) (names : Names) (line : List ℕ) (start : Scene) (past : History) (now ended : Scene) (so_far : SoFar others names start past now) (turn : Turn) (some : 0 < length turn.reply) (stepped : SteppedAmong others names (syncs_of past) turn now ended)
    (turns : List Turn) (closing : Closing) (are : with_closing turns closing ≡ turns_then past (turn ∷ [])) (none : (l : List ℕ) → behind l closing ≡ []) where
  abbrev steps : List Snapshot
  steps = stepped.works.moments.added

  abbrev Whole : Scene → Type 0
  Whole new = IsCrashSafeAmong others names line start new (record { document = opened_document past; opening = opening_reply past; turns = turns; closing = closing })

  long_ended : length ended.output ≡ replied_at start past
  long_ended = ap (λ (l : List ℕ). length l) stepped.works.output ∙ so_far.long

  -- a moment at which it is under way
  begun : (all : List Snapshot) (new : Scene) (m : Snapshot) → IsFirstPart m.output new.output → IsKept others names start all (opened_document past) (opening_reply past) (turns_then past (turn ∷ [])) m
      → IsSafe others names start new all (record { document = opened_document past; opening = opening_reply past; turns = turns; closing = closing }) m
  begun all new m first kept = record {
    output = first;
    kept = inl (subst (λ (ts : List Turn). IsKept others names start all (opened_document past) (opening_reply past) ts m) (sym are) kept);
    gone = λ quits. absurd (let no : length (behind (0 ∷ []) closing) ≡ 1 = ap (λ (c : Closing). length (behind (0 ∷ []) c)) quits in omega (arith, no, ap (λ (l : List ℕ). length l) (none (0 ∷ []))));
  }

  -- these bytes of its reply were written, and not all
  module _ (new : Scene) (written : List ℕ) (wrote : Wrote written ended new) (part : IsFirstPart written turn.reply) (lt : length new.output < replied_at start past + length turn.reply) where
    abbrev part_moments : List Snapshot
    part_moments = wrote.moments.added

    abbrev all_cut : List Snapshot
    all_cut = (part_moments ++ steps) ++ so_far.moments

    abbrev CutMoment : Snapshot → Type 0
    CutMoment = IsSafe others names start new all_cut (record { document = opened_document past; opening = opening_reply past; turns = turns; closing = closing })

    abbrev CutKept : Snapshot → Type 0
    CutKept = IsKept others names start all_cut (opened_document past) (opening_reply past) (turns_then past (turn ∷ []))

    abbrev CutStepping : Snapshot → Type 0
    CutStepping = Inside ended (SparesAmong others names turn.write (IsUnderWay names (with_begun turn.sync (syncs_of past)) turn.write) now.folder)

    grown : IsFirstPart ended.output new.output
    grown = (written, wrote.output)

    all_shorter : Each (IsShorter (replied_at start past + length turn.reply)) all_cut
    all_shorter = subst (λ (ms : List Snapshot). Each (IsShorter (replied_at start past + length turn.reply)) ms) (sym (append_assoc part_moments steps so_far.moments))
        (parts_shorter (replied_at start past + length turn.reply) new.output (part_moments ++ (steps ++ so_far.moments)) lt
        (Each-append (λ m. IsFirstPart m.output new.output) part_moments (steps ++ so_far.moments)
        (Each-weaker (IsWriting ended new) (λ m. IsFirstPart m.output new.output) (λ m writing. writing.output) part_moments wrote.moments.each)
        (steps_parts others names start past turn now ended so_far stepped new.output grown)))

    cut : Whole new
    cut =
        ends_so others names line start past now new so_far (part_moments ++ steps) (turn ∷ []) turns closing
        (wrote.moments.is ∙ ap (λ (ms : List Snapshot). part_moments ++ ms) stepped.works.moments.is ∙ sym (append_assoc part_moments steps now.trace)) are (some, found_now others names start past turn now ended so_far stepped) written turn.reply
        (ap (λ (l : List ℕ). (turn.reply ++ []) ++ l) (none line) ∙ append-nil (turn.reply ++ []) ∙ append-nil turn.reply) part (wrote.output ∙ ap (λ (l : List ℕ). l ++ written) stepped.works.output)
        (Each-append CutMoment part_moments steps
        (Each-weaker (IsWriting ended new) CutMoment
        (λ m writing. begun all_cut new m writing.output
        (kept_reply others names start past turn now ended so_far stepped all_cut (part_moments ++ steps) [] new m refl writing (omega (arith, lt, part_long m.output new.output writing.output)))) part_moments wrote.moments.each)
        (Each-weaker (λ m. CutStepping m × CutKept m) CutMoment (λ m one. begun all_cut new m (part_then m.output ended.output new.output (part_of m.output ended.output (sym one.0.output)) grown) one.1) steps
        (each_both CutStepping CutKept steps stepped.works.moments.each (kept_steps others names start past turn now ended so_far stepped all_cut (part_moments ++ steps) [] refl some)))) (
          stretch_is others names start past turn now ended so_far stepped all_cut (part_moments ++ steps) new (state_now new) refl (λ i. record { folder = sym wrote.folder i; faults = sym wrote.faults i })
              (inr (all_shorter, refl)),
          tt,
        )

  pub stops_in : (new : Scene) (written : List ℕ) → Wrote written ended new → IsFirstPart written turn.reply → Whole new
  stops_in new written wrote part = elim (cases_lt (length written) (length turn.reply)) [
    | inl lt ↦ cut new written wrote part (omega (arith, lt, long_ended, ap (λ (l : List ℕ). length l) wrote.output, length-append ended.output written))
    | inr le ↦
        let replied : Replied turn.reply ended new = record { some = some; wrote = subst (λ (l : List ℕ). Wrote l ended new) (part_whole written turn.reply part le) wrote } in
        stops_here others names line start (After past turn) new (answers_on others names start past turn now ended so_far stepped new replied) turns closing are none
  ]

-- in the opening reply
module _ (others : Name → Bool) (names : Names) (line : List ℕ) (document : Document) (opening : List ℕ) (start now : Scene) (has : HasBegunAmong others names document start now) where
  pub opening_cut : (new : Scene) (written : List ℕ) → 0 < length opening → Wrote written now new → IsFirstPart written opening → IsCrashSafeAmong others names line start new (ran_of (Open document opening) NotBegun)
  opening_cut new written some wrote part = elim (cases_lt (length written) (length opening)) [
    | inl lt ↦
        let short : length new.output < opened_at start opening = omega (arith, lt, ap (λ (l : List ℕ). length l) has.begins.works.output, ap (λ (l : List ℕ). length l) wrote.output, length-append now.output written) in
        opening_stops others names line document opening start now has.begins new wrote.moments.added written wrote.moments.is wrote.output part short some
        (Each-weaker (IsWriting now new) (λ m. IsFirstPart m.output new.output × RecoversOrNone names (document ∷ []) m.folder × SameAt others start.folder m.folder)
        (λ m writing. let folder : now.folder ≡ m.folder = sym (ap (λ (s : State). s.folder) writing.state) in (
          writing.output,
          subst (λ (d : Disk). RecoversOrNone names (document ∷ []) d) folder (or_none names (document ∷ []) now.folder (between_recovers names (opened document) now.folder has.between)),
          subst (λ (d : Disk). SameAt others start.folder d) folder has.begins.works.spared,
        ))
        wrote.moments.added wrote.moments.each)
    | inr le ↦
        let replied : Replied opening now new = record { some = some; wrote = subst (λ (l : List ℕ). Wrote l now new) (part_whole written opening part le) wrote } in
        stops_here others names line start (Open document opening) new (so_far others names start (Open document opening) new (now, has, replied)) [] NotBegun refl (λ l. refl)
  ]

-- ---- an accepted quit

module _ (others : Name → Bool) (names : Names) (line : List ℕ) (start : Scene) (past : History) (now mid : Scene) (so_far : SoFar others names start past now) (works : WorksAmong others names None (RecoversOrNone names (recoverable (syncs_of past))) now mid) where
  abbrev removals : List Snapshot
  removals = works.moments.added

  module _ (all newest : List Snapshot) (are : all ≡ newest ++ so_far.moments) (new : Scene) where
    -- a folder in which the swap files are being removed
    left_at : (m : Snapshot) → IsFirstPart m.output new.output → replied_at start past ≤ length m.output → RecoversOrNone names (recoverable (syncs_of past)) m.folder → SameAt others now.folder m.folder
        → (replied_at start past < length m.output → NoneLeft names m.folder) → IsSafe others names start new all (ran_of past Quits) m
    left_at m part le recovers same gone = record {
      output = part;
      kept = inr (record {
        quits = refl;
        whole = omega (arith, le, place_is start past);
        recovers = subst (λ (syncs : List Sync). RecoversOrNone names (recoverable syncs) m.folder) (sym (syncs_are past [])) recovers;
        spared = λ inside foreign avoid. same_then inside start.folder now.folder m.folder (so_far.stands.spared inside foreign avoid) (same_weaker others inside now.folder m.folder foreign same);
        keeps = record {
          since = so_far.here;
          begins = subst (λ (k : ℕ). IsFirst k all so_far.here) (sym (place_is start past)) (first_in (replied_at start past) all newest so_far.moments so_far.here are so_far.begins);
          keeps = subst (λ (d : Disk). SameAt others d m.folder) (sym (ap (λ (s : State). s.folder) so_far.state)) same;
        };
        undo = undo_spared others names start.folder now.folder m.folder (turns_then past []) so_far.stands.foreign same so_far.stands.undo;
      });
      gone = λ quits more. gone (omega (arith, more, place_is start past));
    }

    left_each : IsFirstPart mid.output new.output → Each (IsSafe others names start new all (ran_of past Quits)) removals
    left_each part = Each-weaker (Inside mid (SparesAmong others names None (RecoversOrNone names (recoverable (syncs_of past))) now.folder)) (IsSafe others names start new all (ran_of past Quits))
        (λ m inside. let long : length m.output ≡ replied_at start past = ap (λ (l : List ℕ). length l) (inside.output ∙ works.output) ∙ so_far.long in
        left_at m (part_then m.output mid.output new.output (part_of m.output mid.output (sym inside.output)) part) (omega (arith, long)) inside.folder.folder inside.folder.spared (λ more. absurd (omega (arith, more, long))))
        removals works.moments.each

  -- of the last line these bytes were written, or nothing was called any more
  module _ (new : Scene) (written : List ℕ) (wrote : Wrote written mid new) (part : IsFirstPart written line) where
    abbrev line_moments : List Snapshot
    line_moments = wrote.moments.added

    abbrev all_left : List Snapshot
    all_left = (line_moments ++ removals) ++ so_far.moments

    abbrev LeftMoment : Snapshot → Type 0
    LeftMoment = IsSafe others names start new all_left (ran_of past Quits)

    ends_with : Each LeftMoment line_moments → IsCrashSafeAmong others names line start new (ran_of past Quits)
    ends_with safe = ends_so others names line start past now new so_far (line_moments ++ removals) [] (turns_then past []) Quits
        (wrote.moments.is ∙ ap (λ (ms : List Snapshot). line_moments ++ ms) works.moments.is ∙ sym (append_assoc line_moments removals now.trace)) refl tt written line refl part
        (wrote.output ∙ ap (λ (l : List ℕ). l ++ written) works.output)
        (Each-append LeftMoment line_moments removals safe (left_each all_left (line_moments ++ removals) refl new (written, wrote.output))) tt

    -- the swap files are gone
    gone_at : NoneLeft names mid.folder → (m : Snapshot) → IsWriting mid new m → LeftMoment m
    gone_at gone m writing =
        let folder : mid.folder ≡ m.folder = sym (ap (λ (s : State). s.folder) writing.state) in
        let none : NoneLeft names m.folder = subst (λ (d : Disk). NoneLeft names d) folder gone in
        left_at all_left (line_moments ++ removals) refl new m writing.output (omega (arith, so_far.long, ap (λ (l : List ℕ). length l) works.output, part_long mid.output m.output writing.begun)) (λ image whole. inl (none image whole))
        (subst (λ (d : Disk). SameAt others now.folder d) folder works.spared) (λ more. none)

    none_added : (moments : List Snapshot) → new.trace ≡ moments ++ mid.trace → new.trace ≡ mid.trace → Each LeftMoment moments
    none_added [] is same = tt
    none_added (m ∷ moments) is same = absurd (omega (arith, ap (λ (ms : List Snapshot). length ms) (sym is ∙ same), length-append moments mid.trace))

    pub quits_in : LeavesTrace mid new ⊎ NoneLeft names mid.folder → IsCrashSafeAmong others names line start new (ran_of past Quits)
    quits_in either = ends_with (elim either [
      | inl left ↦ none_added line_moments wrote.moments.is left.trace
      | inr gone ↦ Each-weaker (IsWriting mid new) LeftMoment (gone_at gone) line_moments wrote.moments.each
    ])

-- ---- of a history

module _ (others : Name → Bool) (names : Names) (line : List ℕ) (start : Scene) (past : History) (now : Scene) (waits : WaitsAmong others names start past now) where
  here_now : SoFar others names start past now
  here_now = so_far_now others names start past now waits

  pub stopped : IsCrashSafeAmong others names line start now (ran_of past NotBegun)
  stopped = stops_here others names line start past now here_now (turns_then past []) NotBegun refl (λ l. refl)

  pub cut_turn : (ended new : Scene) (turn : Turn) (written : List ℕ) → 0 < length turn.reply → SteppedAmong others names (syncs_of past) turn now ended → Wrote written ended new → IsFirstPart written turn.reply
      → IsCrashSafeAmong others names line start new (ran_of (After past turn) NotBegun)
  cut_turn ended new turn written some stepped wrote part = stops_in others names line start past now ended here_now turn some stepped (turns_then past (turn ∷ [])) NotBegun refl (λ l. refl) new written wrote part

  pub cut_sync : (ended new : Scene) (sync : Sync) (written : List ℕ) → SteppedAmong others names (syncs_of past) (last_turn sync) now ended → Wrote written ended new → IsFirstPart written (last_turn sync).reply
      → IsCrashSafeAmong others names line start new (ran_of past (LastSync sync))
  cut_sync ended new sync written stepped wrote part =
      stops_in others names line start past now ended here_now (last_turn sync) (omega arith) stepped (turns_then past []) (LastSync sync) (sym (then_is past (last_turn sync ∷ []))) (λ l. refl) new written wrote part

  pub quits : (mid new : Scene) (written : List ℕ) → WorksAmong others names None (RecoversOrNone names (recoverable (syncs_of past))) now mid → Wrote written mid new → IsFirstPart written line
      → LeavesTrace mid new ⊎ NoneLeft names mid.folder → IsCrashSafeAmong others names line start new (ran_of past Quits)
  quits mid new written works wrote part either = quits_in others names line start past now mid here_now works new written wrote part either

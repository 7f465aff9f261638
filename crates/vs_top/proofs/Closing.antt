-- How a run closes: the last sync or the removal, and the last line, each with what it answers and the promise.
use Rattle.std.proofs.Common.{◌≡◌, ◌⊎◌, inl, inr, ℕ, ◌≤◌, ◌+◌, Bool, true, false, not, if◌then◌else◌, List, [], ◌∷◌, ◌++◌, length, take, All, Option, None, IsTrue, IsErrAnd, Ok, Err, refl, sym, ap, subst, ◌∙◌, append_assoc, arith}
use Rattle.std.proofs.lemmas.List.{take_all}
use Rattle.vs_faults.specs.Faults.{HasRisen}
use Rattle.vs_faults.proofs.Causes.{risen_after}
use Rattle.vs_host.specs.Disk.{Disk, Name, IsImage, IsImageOf}
use Rattle.vs_host.specs.Names.{names_of_file}
use Rattle.vs_host.specs.Trace.{WroteOutput, Snapshot}
use Rattle.vs_host.specs.World.{Tells, Scene, ChangesOutput, LeavesTrace, snapshot_of}
use Rattle.vs_host.specs.declared.names.Names.{Names}
use Rattle.vs_pair.specs.Pair.{Image, NoneThere, Rises, is_foreign}
use Rattle.vs_pair.specs.Steps.{IsAbsent, IsFresh}
use Rattle.vs_script.specs.Ahead.{script_limit}
use Rattle.vs_machine.specs.declared.command.Mark.{Mark}
use Rattle.vs_safety.specs.Texts.{Sync, RecoversOrNone, recoverable}
use Rattle.vs_safety.specs.Turns.{Closing, NotBegun, LastSync, Quits, last_turn, preserved_line, quit_line}
use Rattle.vs_safety.specs.Safety.{IsCrashSafe, IsFirstPart, IsAdded, Works, Writes, Wrote, Stepped}
use Rattle.vs_safety.specs.History.{History, syncs_of}
use Rattle.vs_safety.specs.Writes.{State}
use Rattle.vs_safety.specs.Causes.{IsCounted, output_count, folder_count}
use Rattle.vs_safety.proofs.SoFar.{SoFar, so_far_now}
use Rattle.vs_safety.proofs.Replies.{first_part, wrote_none, wrote_one}
use Rattle.vs_safety.proofs.Endings.{cut_sync, quits}
use Rattle.vs_safety.proofs.Causes.{rose_at, rose_last}
use Rattle.vs_session.specs.declared.session.Session.{Session}
use Rattle.vs_session.specs.declared.ending.End.{End}
use Rattle.vs_session.specs.declared.ending.End.TheVariants as end
use Rattle.vs_session.specs.Session.{SessionState, sync_in}
use Rattle.vs_session.specs.Opened.{Opened}
use Rattle.vs_session.specs.Calls.{Finishes}
use Rattle.vs_session.specs.Fits.{HasSyncs, HasSwap}
use Rattle.vs_session.specs.Made.{StaysMoved}
use Rattle.vs_top.specs.History.{Past, history_of, state_of, written}
use Rattle.vs_top.specs.Promise.{HasRun, RunsEdit}
use Rattle.vs_top.specs.Run.{TellsRun, Did, KeepsMarks, HasNoFaultSince, HasRisenSince, KeepsSwap, Closes, AnswersAll, counts_of, OnlyFolder, FaultHasCause, IsTimed, opened_file, ran_of, closing_line}
use Rattle.vs_top.specs.Calls.{CallsAsMarked, ClosingCalls}
use Rattle.vs_top.specs.Turns.{Told, KeepsOpenFile, StopsAt, IsAtClose}
use Rattle.vs_top.specs.declared.ending.Ending.{Ending}
use Rattle.vs_top.specs.Ending.{ending_in}
use Rattle.std.specs.declared.result.Result.{Result}
use Rattle.vs_top.specs.declared.ending.Ending.TheVariants as ending
use Rattle.vs_top.proofs.Pushes.{flip_clean}
use Rattle.vs_top.proofs.Calls.{calls_close, near_end, near_now}
use Rattle.vs_top.proofs.Readers.{own_told}
use Rattle.vs_top.proofs.Turning.{since_reply}
use Rattle.vs_top.proofs.Counting.{only_then, only_folder, only_output, causes_on, counted_works}

absent_image : (name : Name) (disk : Disk) → IsAbsent name disk → (image : Image) → IsImage disk image → image name ≡ None
absent_image name disk absent image whole = subst (λ (o : Option ℕ). IsImageOf disk o (image name)) (absent whole.0) (whole.1 name)

pub fresh_image : (names : Names) (disk : Disk) → IsFresh names disk → (image : Image) → IsImage disk image → NoneThere names image
fresh_image names disk fresh image whole = (absent_image names.swp disk fresh.no_swp image whole, absent_image names.swo disk fresh.no_swo image whole)

-- how it closed
abbrev closing_of : End → Bool → SessionState → Closing
closing_of end.Sync ok state = LastSync (sync_in state ok)
closing_of end.Quit ok state = Quits

-- the last line
abbrev pub line_of : End → List ℕ
line_of end.Sync = preserved_line
line_of end.Quit = quit_line

pub line_by : (how : End) (bytes : List ℕ) → (how ≡ end.Sync → bytes ≡ preserved_line) → (how ≡ end.Quit → bytes ≡ quit_line) → bytes ≡ line_of how
line_by end.Sync bytes sync quit = sync refl
line_by end.Quit bytes sync quit = quit refl

line_is : (how : End) (ok : Bool) (state : SessionState) → line_of how ≡ closing_line (closing_of how ok state)
line_is end.Sync ok state = refl
line_is end.Quit ok state = refl

by_clean : (clean : Bool) (name : List ℕ) (old new : Scene) (marks : List Mark) (did : Did) → KeepsMarks (opened_file old name) marks did.past → AnswersAll (not clean) (opened_file old name) old new did
    → KeepsSwap (opened_file old name) did new.folder → ((HasSwap (names_of_file name) old.folder → ⊥) → IsCrashSafe (names_of_file name) old new (ran_of name old did)) → CallsAsMarked (opened_file old name) old new did
    → HasRun name old new (if clean then ending.Done else ending.WithErrors) marks
by_clean true name old new marks did kept answered left safe calls = record { did = did; kept = kept; answered = answered; safe = safe; left = left; last = tt; calls = calls }
by_clean false name old new marks did kept answered left safe calls = record { did = did; kept = kept; answered = answered; safe = safe; left = left; last = tt; calls = calls }

module _ (tells : Tells) (name : List ℕ) (old now mid : Scene) (session : Session) (marks : List Mark) (clean : Bool) (told : TellsRun tells) (keeps : KeepsOpenFile tells name old now session marks)
    (past : Past) (here : Told name old now session marks clean past) where
  abbrev names : Names
  names = names_of_file name

  abbrev file : Opened
  file = opened_file old name

  abbrev state : SessionState
  state = state_of file.state past

  abbrev history : History
  history = history_of file past

  abbrev syncs : List Sync
  syncs = syncs_of history

  abbrev did : End → Bool → Did
  did how ok = record { past = past; closing = closing_of how ok state }

  closes : (how : End) (ok : Bool) → StopsAt how file old now past → (new : Scene) → new.script ≡ now.script → Closes ok file old new (did how ok)
  closes end.Sync ok stops new script = inl (record { all = stops.0; ended = script ∙ stops.1; closing = refl })
  closes end.Quit ok stops new script = inr (record { quit = stops.0; rest = stops.1; before = stops.2; accepted = stops.3; closing = refl })

  so_far : SoFar (is_foreign names) names old history now
  so_far = so_far_now (is_foreign names) names old history now here.waits

  -- what the trace has more
  pub more_mid : (how : End) (ok : Bool) → Finishes tells session now mid how ok → (newer : List Snapshot) × (mid.trace ≡ newer ++ now.trace)
  more_mid how ok finishes =
      let last = finishes.last told.folder in
      (last.last ++ last.earlier, last.is ∙ sym (append_assoc last.last last.earlier now.trace))

  more_new : (how : End) (ok : Bool) (new : Scene) → Finishes tells session now mid how ok → IsAdded WroteOutput [] mid new → (newer : List Snapshot) × (new.trace ≡ newer ++ now.trace)
  more_new how ok new finishes added =
      let more = more_mid how ok finishes in
      elim added [
        | inl told_here ↦ (snapshot_of new WroteOutput [] ∷ more.0, told_here ∙ ap (λ (ms : List Snapshot). snapshot_of new WroteOutput [] ∷ ms) more.1)
        | inr left ↦ (more.0, left.trace ∙ more.1)
      ]

  same_faults : so_far.here.folder_faults ≡ now.folder_faults
  same_faults = ap (λ (s : State). s.faults) so_far.state

  -- and no call has failed
  no_fault : (how : End) (new : Scene) (newer : List Snapshot) → new.trace ≡ newer ++ now.trace → new.folder_faults ≡ mid.folder_faults → Finishes tells session now mid how true → HasNoFaultSince file old new (did how true)
  no_fault how new newer is faults finishes = since_reply names old history now new so_far newer is (λ m. new.folder_faults ≡ m.folder_faults) (faults ∙ (finishes.none refl).faults ∙ sym same_faults)

  -- and the last sync was made
  risen : (how : End) (new : Scene) (newer : List Snapshot) → new.trace ≡ newer ++ now.trace → new.folder ≡ mid.folder → Finishes tells session now mid how true
      → HasRisenSince (closing_of how true state) (opened_file old name) old new (did how true)
  risen end.Sync new newer is folder finishes =
      let here_folder : so_far.here.folder ≡ now.folder = ap (λ (s : State). s.folder) so_far.state in
      since_reply names old history now new so_far newer is (λ m. Rises names m.folder new.folder)
      (subst (λ (d : Disk). Rises names so_far.here.folder d) (sym folder)
      (subst (λ (d : Disk). Rises names d mid.folder) (sym here_folder)
      (subst (λ (n : Names). Rises n now.folder mid.folder) keeps.names (finishes.rises refl refl told.folder))))
  risen end.Quit new newer is folder finishes = tt

  stepping : (ok : Bool) → Finishes tells session now mid end.Sync ok → Stepped names syncs (last_turn (sync_in state ok)) now mid
  stepping ok finishes = subst (λ (n : Names). Stepped n syncs (last_turn (sync_in state ok)) now mid) keeps.names (finishes.sync refl told.folder state syncs here.fits)

  -- some session fits the folder after the last sync, or an accepted quit has removed the swap files
  left : (how : End) (ok : Bool) (new : Scene) → new.folder ≡ mid.folder → Finishes tells session now mid how ok → KeepsSwap (opened_file old name) (did how ok) new.folder
  left end.Sync ok new folder finishes =
      subst (λ (d : Disk). HasSyncs names (sync_in state ok ∷ syncs) d) (sym folder)
      (subst (λ (n : Names). HasSyncs n (sync_in state ok ∷ syncs) mid.folder) keeps.names (finishes.fits refl told.folder state syncs here.fits))
  left end.Quit ok new folder finishes = tt

  removal : (ok : Bool) → Finishes tells session now mid end.Quit ok → Works names None (RecoversOrNone names (recoverable syncs)) now mid
  removal ok finishes = subst (λ (n : Names). Works n None (RecoversOrNone n (recoverable syncs)) now mid) keeps.names (finishes.quit refl told.folder state syncs here.fits).works

  -- these bytes of the last line were written
  ends_safe : (how : End) (ok : Bool) (new : Scene) (written : List ℕ) → Finishes tells session now mid how ok → Wrote written mid new → IsFirstPart written (line_of how) → LeavesTrace mid new ⊎ (ok ≡ true) → IsCrashSafe names old new (ran_of name old (did how ok))
  ends_safe end.Sync ok new written finishes wrote part either = cut_sync (is_foreign names) names quit_line old history now here.waits mid new (sync_in state ok) written (stepping ok finishes) wrote part
  ends_safe end.Quit ok new written finishes wrote part either = quits (is_foreign names) names quit_line old history now here.waits mid new written (removal ok finishes) wrote part (elim either [
    | inl left ↦ inl left
    | inr done ↦ inr (fresh_image names mid.folder (subst (λ (k : Names). IsFresh k mid.folder) keeps.names (finishes.gone done refl told.folder)))
  ])

  -- by one write of n bytes
  ends_written : (how : End) (new : Scene) (n : ℕ) → Finishes tells session now mid how true → Writes n (line_of how) mid new → IsCrashSafe names old new (ran_of name old (did how true))
  ends_written how new n finishes writes = ends_safe how true new (take n (line_of how)) finishes (wrote_one mid new n (line_of how) writes) (first_part n (line_of how)) (inr refl)

  -- the count of the output up to the last line
  counted : (how : End) → Finishes tells session now mid how true → IsCounted output_count old mid
  counted end.Sync finishes =
      counted_works names None _ old now mid (ap (λ (s : Scene). s.out_faults) finishes.frame)
      (stepping true finishes).works here.counted.output
  counted end.Quit finishes = counted_works names None _ old now mid (ap (λ (s : Scene). s.out_faults) finishes.frame) (removal true finishes) here.counted.output

  mid_output : (how : End) (ok : Bool) → Finishes tells session now mid how ok → mid.output ≡ old.output ++ written file past
  mid_output how ok finishes = ap (λ (s : Scene). s.output) finishes.frame ∙ so_far.output

  closed_by : (how : End) (ok : Bool) → closing_of how ok state ≡ NotBegun → ⊥
  closed_by end.Sync ok is = cc
  closed_by end.Quit ok is = cc

  -- no file stands under a name under which a swap file is made
  moves : {ok : Bool} (how : End) → Finishes tells session now mid how ok → StaysMoved names now mid
  moves how finishes = subst (λ (n : Names). StaysMoved n now mid) keeps.names (finishes.moved told.folder)

  closing_calls : {ok : Bool} {how : End} → Finishes tells session now mid how ok → ClosingCalls now mid
  closing_calls finishes = record { fails = finishes.last told.folder; readers = own_told tells now mid finishes.modes told.folder }

  pub run_fails : (how : End) → StopsAt how file old now past → Finishes tells session now mid how false → HasRisen now.folder_faults mid.folder_faults → HasRun name old mid ending.FolderFault marks
  run_fails how stops finishes rose = record {
    did = did how false;
    kept = here.kept;
    answered = inr (record { closes = closes how false stops mid (ap (λ (s : Scene). s.script) finishes.frame); output = mid_output how false finishes });
    safe = λ free. ends_safe how false mid [] finishes (wrote_none mid) (line_of how, refl) (inl (record { folder = refl; output = refl; trace = refl }));
    left = inr (left how false mid refl finishes);
    last = rose_last folder_count old now mid (λ m none. none.folder) (finishes.last told.folder) rose here.counted.folder;
    calls = calls_close file old now mid mid past (closing_of how false state) here.calls (closing_calls finishes) (finishes.cleared told.folder) (moves how finishes) (closed_by how false) (near_now mid);
  }

  pub run_cut : (how : End) (new : Scene) (n : ℕ) → StopsAt how file old now past → Finishes tells session now mid how true
      → Writes n (closing_line (closing_of how true state)) mid new → new.script ≡ mid.script → HasRisen mid.out_faults new.out_faults → HasRun name old new ending.OutputFault marks
  run_cut how new n stops finishes writes script rose = record {
    did = did how true;
    kept = here.kept;
    answered = inr (record {
      closes = closes how true stops new (script ∙ ap (λ (s : Scene). s.script) finishes.frame);
      count = n;
      no_fault = no_fault how new (more_new how true new finishes writes.added).0 (more_new how true new finishes writes.added).1 writes.faults finishes;
      risen = risen how new (more_new how true new finishes writes.added).0 (more_new how true new finishes writes.added).1 writes.folder finishes;
      output = writes.output ∙ ap (λ (l : List ℕ). l ++ take n (closing_line (closing_of how true state))) (mid_output how true finishes) ∙ append_assoc old.output (written file past) (take n (closing_line (closing_of how true state)));
    });
    safe = λ free. ends_written how new n finishes (subst (λ (l : List ℕ). Writes n l mid new) (sym (line_is how true state)) writes);
    left = left how true new writes.folder finishes;
    last = rose_at output_count old mid new WroteOutput [] writes.added rose (counted how finishes);
    calls = calls_close file old now mid new past (closing_of how true state) here.calls (closing_calls finishes) (finishes.cleared told.folder) (moves how finishes) (closed_by how true) (near_end mid new writes.added writes.folder writes.faults);
  }

  all_answered : (how : End) (new : Scene) → StopsAt how file old now past → Finishes tells session now mid how true → new.output ≡ mid.output ++ closing_line (closing_of how true state) → new.script ≡ mid.script
      → new.folder_faults ≡ mid.folder_faults → new.folder ≡ mid.folder → IsAdded WroteOutput [] mid new → AnswersAll (not clean) (opened_file old name) old new (did how true)
  all_answered how new stops finishes output script faults folder added = record {
    closes = closes how true stops new (script ∙ ap (λ (s : Scene). s.script) finishes.frame);
    no_fault = no_fault how new (more_new how true new finishes added).0 (more_new how true new finishes added).1 faults finishes;
    risen = risen how new (more_new how true new finishes added).0 (more_new how true new finishes added).1 folder finishes;
    output = output ∙ ap (λ (l : List ℕ). l ++ closing_line (closing_of how true state)) (mid_output how true finishes) ∙ append_assoc old.output (written file past) (closing_line (closing_of how true state));
    errors_are = flip_clean clean _ here.errors;
  }

  pub run_ends : (how : End) (new : Scene) → StopsAt how file old now past → Finishes tells session now mid how true
      → Writes (length (closing_line (closing_of how true state))) (closing_line (closing_of how true state)) mid new → new.script ≡ mid.script → HasRun name old new (if clean then ending.Done else ending.WithErrors) marks
  run_ends how new stops finishes writes script =
      let line : List ℕ = closing_line (closing_of how true state) in
      by_clean clean name old new marks (did how true) here.kept
      (all_answered how new stops finishes (writes.output ∙ ap (λ (l : List ℕ). mid.output ++ l) (take_all (length line) line (omega arith))) script writes.faults writes.folder writes.added)
      (left how true new writes.folder finishes)
      (λ free. ends_written how new (length line) finishes (subst (λ (l : List ℕ). Writes (length line) l mid new) (sym (line_is how true state)) writes))
      (calls_close file old now mid new past (closing_of how true state) here.calls (closing_calls finishes) (finishes.cleared told.folder) (moves how finishes) (closed_by how true) (near_end mid new writes.added writes.folder writes.faults))

-- ---- over any host

module _ (tells : Tells) (name : List ℕ) (old now mid : Scene) (session : Session) (marks : List Mark) (how : End) (clean : Bool) (at : IsAtClose tells name old now session marks how clean) where
  times_on : (new : Scene) → new.answers ≡ now.answers → IsTrue tells.clock → IsTimed old new marks
  times_on new same told = let was = at.times told in record { more = was.more; one = was.one; is = same ∙ was.is }

  -- the last sync or the removal failed
  pub close_fails : Finishes tells session now mid how false → HasRisen now.folder_faults mid.folder_faults → RunsEdit tells name old mid ending.FolderFault marks
  close_fails finishes rose =
      let only : OnlyFolder (counts_of now) (counts_of mid) = only_folder now mid finishes.frame finishes.cause.later in
      record {
        told = λ told. let here = at.told told in run_fails tells name old now mid session marks clean told at.keeps here.0 here.1 how here.2 finishes rose;
        swap = λ told is. absurd (cc);
        barred = λ told has. absurd (at.keeps.free told has);
        file = λ told. tt;
        taken = λ told. omega (arith, at.taken told, ap (λ (s : Scene). length s.script) finishes.frame);
        counts = (risen_after at.keeps.counts.later rose, only_then (counts_of old) (counts_of now) (counts_of mid) at.keeps.counts only);
        causes = causes_on (counts_of old) (counts_of now) (counts_of mid) marks finishes.cause.later at.keeps.causes;
        times = times_on mid (ap (λ (s : Scene). s.answers) finishes.frame);
      }

  -- the last line was written in part
  pub close_cut : (new : Scene) → Finishes tells session now mid how true → ChangesOutput mid new
      → (IsTrue tells.output → (n : ℕ) × (new.output ≡ mid.output ++ take n (line_of how))) → (IsTrue tells.folder → IsAdded WroteOutput [] mid new) → HasRisen mid.out_faults new.out_faults
      → RunsEdit tells name old new ending.OutputFault marks
  close_cut new finishes frame wrote added rose =
      let only : OnlyFolder (counts_of old) (counts_of mid) = only_then (counts_of old) (counts_of now) (counts_of mid) at.keeps.counts (only_folder now mid finishes.frame finishes.cause.later) in
      let after : OnlyFolder (counts_of mid) (record (counts_of new) { output = mid.out_faults }) = only_output mid new frame in
      let faults : new.folder_faults ≡ mid.folder_faults = ap (λ (s : Scene). s.folder_faults) frame in
      record {
        told = λ told.
            let here = at.told told in
            let cut = wrote told.output in
            run_cut tells name old now mid session marks clean told at.keeps here.0 here.1 how new cut.0 here.2 finishes
            (record { output = cut.1 ∙ ap (λ (l : List ℕ). mid.output ++ take cut.0 l) (line_is how true _); folder = ap (λ (s : Scene). s.folder) frame; faults = faults; added = added told.folder })
            (ap (λ (s : Scene). s.script) frame) rose;
        swap = λ told is. absurd (cc);
        barred = λ told has. absurd (at.keeps.free told has);
        file = at.keeps.file;
        taken = λ told. omega (arith, at.taken told, ap (λ (s : Scene). length s.script) finishes.frame, ap (λ (s : Scene). length s.script) frame);
        counts = (
          subst (λ (k : ℕ). HasRisen k new.out_faults) only.output rose,
          record { script = after.script ∙ only.script; output = refl; later = omega (arith, only.later, faults) },
        );
        causes = causes_on (counts_of old) (counts_of now) (counts_of new) marks (omega (arith, finishes.cause.later, faults)) at.keeps.causes;
        times = times_on new (ap (λ (s : Scene). s.answers) frame ∙ ap (λ (s : Scene). s.answers) finishes.frame);
      }

  -- and whole
  pub close_ends : (new : Scene) → Finishes tells session now mid how true → ChangesOutput mid new
      → (IsTrue tells.output → new.output ≡ mid.output ++ line_of how) → (IsTrue tells.folder → IsAdded WroteOutput [] mid new) → new.out_faults ≡ mid.out_faults
      → RunsEdit tells name old new (if clean then ending.Done else ending.WithErrors) marks
  close_ends new finishes frame wrote added quiet =
      let faults : new.folder_faults ≡ mid.folder_faults = ap (λ (s : Scene). s.folder_faults) frame in
      let only : OnlyFolder (counts_of old) (counts_of mid) = only_then (counts_of old) (counts_of now) (counts_of mid) at.keeps.counts (only_folder now mid finishes.frame finishes.cause.later) in
      by_ending clean
      (record { script = ap (λ (s : Scene). s.script_faults) frame ∙ only.script; output = quiet ∙ only.output; later = omega (arith, only.later, faults) })
      (λ told.
      let here = at.told told in
      let line : List ℕ = closing_line (closing_of how true (state_of (opened_file old name).state here.0)) in
      run_ends tells name old now mid session marks clean told at.keeps here.0 here.1 how new here.2 finishes
      (record {
        output = wrote told.output ∙ ap (λ (l : List ℕ). mid.output ++ l) (line_is how true _ ∙ sym (take_all (length line) line (omega arith)));
        folder = ap (λ (s : Scene). s.folder) frame;
        faults = faults;
        added = added told.folder;
      })
      (ap (λ (s : Scene). s.script) frame))
      (λ told. omega (arith, at.taken told, ap (λ (s : Scene). length s.script) finishes.frame, ap (λ (s : Scene). length s.script) frame))
      (causes_on (counts_of old) (counts_of now) (counts_of new) marks (omega (arith, finishes.cause.later, faults)) at.keeps.causes)
      (times_on new (ap (λ (s : Scene). s.answers) frame ∙ ap (λ (s : Scene). s.answers) finishes.frame))
    where
      by_ending : (clean : Bool) → OnlyFolder (counts_of old) (counts_of new) → (TellsRun tells → HasRun name old new (if clean then ending.Done else ending.WithErrors) marks)
          → (IsTrue tells.script → length old.script ≤ length new.script + script_limit) → All (FaultHasCause (counts_of old) (counts_of new)) marks → (IsTrue tells.clock → IsTimed old new marks)
          → RunsEdit tells name old new (if clean then ending.Done else ending.WithErrors) marks
      by_ending true counts told taken causes times =
          record { told = told; swap = λ folder is. absurd (cc); barred = λ told has. absurd (at.keeps.free told has); file = at.keeps.file; taken = taken; counts = counts; causes = causes; times = times }
      by_ending false counts told taken causes times =
          record { told = told; swap = λ folder is. absurd (cc); barred = λ told has. absurd (at.keeps.free told has); file = at.keeps.file; taken = taken; counts = counts; causes = causes; times = times }

-- the ending that `?` hands on
pub at_ending : (tells : Tells) (name : List ℕ) (old new : Scene) (marks : List Mark) (r : Result Ending Ending) (one end : Ending) → IsErrAnd r (λ e. e ≡ one) → one ≡ end → RunsEdit tells name old new end marks
    → RunsEdit tells name old new (ending_in r) marks
at_ending tells name old new marks (Ok e) one end is same runs = absurd is
at_ending tells name old new marks (Err e) one end is same runs = subst (λ (x : Ending). RunsEdit tells name old new x marks) (sym (is ∙ same)) runs

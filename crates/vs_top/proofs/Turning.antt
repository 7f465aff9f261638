-- One turn of a run: a read of the script, a step and its reply, and what the run answered where it stops in one of these.
use Rattle.std.proofs.Common.{◌≡◌, inr, ℕ, ◌+◌, Bool, List, [], ◌∷◌, ◌++◌, length, take, map, IsTrue, OnOk, Result, Ok, Err, refl, sym, ap, subst, ◌∙◌, append_assoc, append-nil, arith}
use Rattle.std.proofs.lemmas.List.{length-append}
use Rattle.std.proofs.Math.Seq.{take-append_seam}
use Rattle.vs_faults.specs.Faults.{HasRisen}
use Rattle.vs_host.specs.Disk.{Disk}
use Rattle.vs_host.specs.Names.{names_of_file}
use Rattle.vs_host.specs.Trace.{Snapshot, Each}
use Rattle.vs_host.specs.World.{Tells, Scene, ChangesScript}
use Rattle.vs_host.specs.declared.names.Names.{Names}
use Rattle.vs_disk.proofs.Runs.{Each-append, Each-weaker}
use Rattle.vs_excmd.specs.Request.{Instruction}
use Rattle.vs_excmd.specs.declared.request.Request.{Request}
use Rattle.vs_script.specs.Ahead.{Ahead, HasSeen, CountsTaken, KeepsTrack, Stops, script_limit}
use Rattle.vs_script.specs.Reads.{IsAsBefore, IsRead, ReadsOn, ReadsScript}
use Rattle.vs_script.specs.Requests.{TakesRequest, whole_commands}
use Rattle.vs_script.specs.declared.reader.ScriptErr.{ScriptErr}
use Rattle.vs_script.specs.declared.reader.ScriptErr.TheVariants as script_error
use Rattle.vs_machine.specs.declared.command.Mark.{Mark}
use Rattle.vs_pair.specs.Pair.{is_foreign}
use Rattle.vs_safety.specs.Turns.{NotBegun, quit_line}
use Rattle.vs_safety.specs.Safety.{IsCrashSafe, Looks}
use Rattle.vs_safety.specs.History.{History, Waits, replied_at, syncs_of, written_by}
use Rattle.vs_safety.specs.Stretches.{IsFirst}
use Rattle.vs_safety.specs.Writes.{state_in, state_now}
use Rattle.vs_safety.specs.Causes.{newest_count, IsCounted, RoseLast, script_count}
use Rattle.vs_safety.proofs.Moments.{first_in}
use Rattle.vs_safety.proofs.SoFar.{SoFar, so_far_now, waits_on}
use Rattle.vs_safety.proofs.Endings.{stopped}
use Rattle.vs_session.specs.declared.session.Session.{Session}
use Rattle.vs_session.specs.Opened.{Opened}
use Rattle.vs_session.specs.Fits.{Fits, names_of}
use Rattle.vs_top.specs.Ending.{script_ending}
use Rattle.vs_top.specs.History.{Past, commands_then, history_of, state_of}
use Rattle.vs_top.specs.Promise.{HasRun, RunsEdit}
use Rattle.vs_top.specs.Run.{TellsRun, Did, HasAnswered, HasSince, KeepsSwap, counts_of, IsTimed, opened_file, ran_of}
use Rattle.vs_top.specs.Calls.{CallsAsMarked}
use Rattle.vs_top.specs.Turns.{Told, KeepsOpenFile}
use Rattle.vs_top.specs.declared.ending.Ending.TheVariants as ending
use Rattle.vs_top.proofs.Calls.{calls_stop}
use Rattle.vs_top.proofs.Counting.{only_script, causes_on}
use Rattle.vs_top.proofs.Reading.{fresh_reader, HasRead, read_on, read_within, were_read, stops_run, counts_on, few_taken}

-- ---- a read of the script

read_moment : (now : Scene) (m : Snapshot) → IsAsBefore now m → (m.output ≡ now.output) × (m.folder ≡ now.folder)
read_moment now m is = (is.output, is.folder)

-- whatever it answers, it only looks
pub reads_look : (now new : Scene) → ChangesScript now new → ReadsOn now new → Looks now new
reads_look now new frame reads = record {
  moments = record {
    added = reads.last ++ reads.earlier;
    is = reads.is ∙ sym (append_assoc reads.last reads.earlier now.trace);
    each = Each-append (λ m. (m.output ≡ now.output) × (m.folder ≡ now.folder)) reads.last reads.earlier
        (Each-weaker (IsRead now) (λ m. (m.output ≡ now.output) × (m.folder ≡ now.folder)) (λ m is. (is.1, is.0)) reads.last reads.last_is)
        (Each-weaker (IsAsBefore now) (λ m. (m.output ≡ now.output) × (m.folder ≡ now.folder)) (read_moment now) reads.earlier reads.earlier_are);
  };
  output = ap (λ (s : Scene). s.output) frame;
  folder = ap (λ (s : Scene). s.folder) frame;
  faults = ap (λ (s : Scene). s.folder_faults) frame;
}

newest_read : (old : Scene) (n : ℕ) (moments older : List Snapshot) → Each (λ m. m.script_faults ≡ n) moments → newest_count script_count old older ≡ n → newest_count script_count old (moments ++ older) ≡ n
newest_read old n [] older each is = is
newest_read old n (m ∷ ms) older each is = each.0

-- and where it failed, that was the last call
pub rose_reading : (old now new : Scene) → ReadsOn now new → HasRisen now.script_faults new.script_faults → IsCounted script_count old now → RoseLast script_count old new
rose_reading old now new reads rose counted = record {
  last = reads.last;
  earlier = reads.earlier ++ counted.moments;
  one = reads.one;
  is = reads.is ∙ ap (λ (ms : List Snapshot). reads.last ++ ms) (ap (λ (ms : List Snapshot). reads.earlier ++ ms) counted.added ∙ sym (append_assoc reads.earlier counted.moments old.trace));
  rose = subst (λ (n : ℕ). HasRisen n new.script_faults) (sym (newest_read old now.script_faults reads.earlier counted.moments
      (Each-weaker (IsAsBefore now) (λ m. m.script_faults ≡ now.script_faults) (λ m is. is.script_faults) reads.earlier reads.earlier_are) counted.newest)) rose;
}

-- ---- what is known at each turn

pub record IsTurn (tells : Tells) (name : List ℕ) (old now : Scene) (session : Session) (fresh reader : Ahead) (marks : List Mark) (clean : Bool) : Type 0 where
  pub told : TellsRun tells → (past : Past) × Told name old now session marks clean past × HasRead fresh reader old now (commands_then past)
  pub keeps : KeepsOpenFile tells name old now session marks
  pub counts : IsTrue tells.script → CountsTaken fresh reader old now
  pub times : IsTrue tells.clock → now.answers ≡ old.answers ++ map (λ mark. mark.at) marks

no_more : (now : Scene) (old : List ℕ) (marks : List Mark) → now.answers ≡ old ++ map (λ mark. mark.at) marks → now.answers ≡ (old ++ map (λ mark. mark.at) marks) ++ []
no_more now old marks is = is ∙ sym (append-nil (old ++ map (λ mark. mark.at) marks))

-- ---- what holds of the snapshot of the last reply

pub since_reply : (names : Names) (start : Scene) (past : History) (now new : Scene) (so_far : SoFar (is_foreign names) names start past now) (newer : List Snapshot) → new.trace ≡ newer ++ now.trace → (P : Snapshot → Type 0) → P so_far.here
    → HasSince (length start.output + length (written_by past)) start new P
since_reply names start past now new so_far newer added P has = record {
  moments = newer ++ so_far.moments;
  added = added ∙ ap (λ (ms : List Snapshot). newer ++ ms) so_far.added ∙ sym (append_assoc newer so_far.moments start.trace);
  first = so_far.here;
  begins = subst (λ (n : ℕ). IsFirst n (newer ++ so_far.moments) so_far.here) (sym so_far.long ∙ ap (λ (l : List ℕ). length l) so_far.output ∙ length-append start.output (written_by past))
      (first_in (replied_at start past) (newer ++ so_far.moments) newer so_far.moments so_far.here refl so_far.begins);
  has = has;
}

-- ---- the run stops after a read

module _ {T : Type 0} {result : Result T ScriptErr} (tells : Tells) (name : List ℕ) (old now read : Scene) (session : Session) (fresh reader reader' : Ahead) (marks : List Mark) (clean : Bool) (new : fresh ≡ fresh_reader)
    (reads : ReadsScript tells result now read) (track : KeepsTrack tells result reader reader' now read) where
  module _ (told : TellsRun tells) (past : Past) (here : Told name old now session marks clean past) (had : HasRead fresh reader old now (commands_then past)) (same : names_of session ≡ names_of_file name) where
    abbrev file : Opened
    file = opened_file old name

    abbrev did : Did
    did = record { past = past; closing = NotBegun }

    waits : Waits (names_of_file name) old (history_of file past) read
    waits = waits_on (is_foreign (names_of_file name)) (names_of_file name) old (history_of file past) now read here.waits (reads_look now read reads.frame (reads.last told.folder))

    safe : IsCrashSafe (names_of_file name) old read (ran_of name old did)
    safe = stopped (is_foreign (names_of_file name)) (names_of_file name) quit_line old (history_of file past) read waits

    answered : HasAnswered file old read did
    answered =
        let so_far = so_far_now (is_foreign (names_of_file name)) (names_of_file name) old (history_of file past) read waits in
        record { output = so_far.output; closing = refl; stays = since_reply (names_of_file name) old (history_of file past) read read so_far [] refl (λ m. state_now read ≡ state_in m) (sym so_far.state) }

    calls : CallsAsMarked file old read did
    calls = calls_stop file old now read past here.calls (reads_look now read reads.frame (reads.last told.folder))

    -- the session still fits the folder
    left : KeepsSwap file did read.folder
    left = (session, same, subst (λ (d : Disk). Fits session d (state_of file.state past) (syncs_of (history_of file past))) (sym (ap (λ (s : Scene). s.folder) reads.frame)) here.fits)

    run_fails : Stops script_error.Failed whole_commands [] reader reader' now read → HasRisen now.script_faults read.script_faults → HasRun name old read ending.ScriptFault marks
    run_fails stop rose =
        let found = stops_run script_error.Failed old now read fresh reader reader' (commands_then past) new had stop in
        record {
          did = did;
          kept = here.kept;
          answered = record { taken = found.taken; script = found.script ∙ ap (λ (l : List ℕ). found.taken ++ l) (sym found.is_left); commands = found.whole; answered = answered };
          safe = λ free. safe;
          left = left;
          last = rose_reading old now read (reads.last told.folder) rose here.counted.script;
          calls = calls;
        }

    run_too_long : Stops script_error.TooLong whole_commands [] reader reader' now read → HasRun name old read ending.ScriptTooLong marks
    run_too_long stop =
        let found = stops_run script_error.TooLong old now read fresh reader reader' (commands_then past) new had stop in
        let long : length found.taken ≡ script_limit = sym found.count ∙ found.is_left.2 in
        let size : length old.script ≡ length found.taken + length found.left = ap (λ (l : List ℕ). length l) found.script ∙ length-append found.taken found.left in
        let front : take script_limit old.script ≡ found.taken =
        ap (λ (l : List ℕ). take script_limit l) found.script ∙ ap (λ n. take n (found.taken ++ found.left)) (sym long) ∙ take-append_seam found.taken found.left in
        record {
          did = did;
          kept = here.kept;
          answered = record { longer = omega (arith, long, found.is_left.0, size); commands = found.whole ∙ ap whole_commands (sym front); answered = answered };
          safe = λ free. safe;
          left = left;
          last = tt;
          calls = calls;
        }

    run_no_memory : (request : Request) (taken : TakesRequest request reader reader' now read) → HasSeen reader' read → CountsTaken fresh reader' old read → HasRun name old read ending.NoMemory marks
    run_no_memory request taken seen counts =
        let next : List Instruction → List Instruction = λ rest. commands_then past (taken.first ∷ rest) in
        let has : HasRead fresh reader' old read next = read_on fresh reader reader' old now read (commands_then past) request had taken in
        let within = read_within fresh reader' old read next new has seen counts track.limit in
        record {
          did = did;
          kept = here.kept;
          answered = inr (record {
            next = taken.first;
            rest = within.0;
            first = within.1;
            read = were_read fresh reader' old read past taken.first reader'.ended refl new has seen;
            answered = answered;
          });
          safe = λ free. safe;
          left = (refl, inr left);
          last = tt;
          calls = calls;
        }

  module _ (turn : IsTurn tells name old now session fresh reader marks clean) where
    times : IsTrue tells.clock → IsTimed old read marks
    times told = record { more = []; one = omega arith; is = ap (λ (s : Scene). s.answers) reads.frame ∙ turn.times told ∙ sym (append-nil (old.answers ++ map (λ mark. mark.at) marks)) }

    -- the reader stopped
    pub reader_stopped : (error : ScriptErr) → result ≡ Err error → (IsTrue tells.script → Stops error whole_commands [] reader reader' now read)
        → RunsEdit tells name old read (script_ending error) marks
    reader_stopped script_error.Failed was stops =
        let only = only_script now read reads.frame in
        let before = turn.keeps.counts in
        record {
          told = λ told. let here = turn.told told in run_fails told here.0 here.1 here.2 turn.keeps.names (stops told.script) (reads.cause.risen was);
          swap = λ told is. absurd (cc);
          barred = λ told has. absurd (turn.keeps.free told has);
          file = turn.keeps.file;
          taken = λ told.
              let stop = stops told in
              few_taken fresh reader' old read new
              (counts_on fresh reader reader' old now read (turn.counts told)
              (omega (arith, stop.count, ap (λ (l : List ℕ). length l) stop.script, length-append stop.fresh stop.left, ap (λ (l : List ℕ). length l) stop.is_left))) track.limit;
          counts = (
            subst (λ (k : ℕ). HasRisen k read.script_faults) before.script (reads.cause.risen was),
            record { script = refl; output = only.output ∙ before.output; later = omega (arith, only.later, before.later) },
          );
          causes = causes_on (counts_of old) (counts_of now) (counts_of read) marks only.later turn.keeps.causes;
          times = times;
        }
    reader_stopped script_error.TooLong was stops =
        let only = only_script now read reads.frame in
        let before = turn.keeps.counts in
        record {
          told = λ told. let here = turn.told told in run_too_long told here.0 here.1 here.2 turn.keeps.names (stops told.script);
          swap = λ told is. absurd (cc);
          barred = λ told has. absurd (turn.keeps.free told has);
          file = turn.keeps.file;
          taken = λ told.
              let stop = stops told in
              omega (
                arith,
                ap (λ (a : Ahead). a.taken) new,
                turn.counts told,
                stop.count,
                ap (λ (l : List ℕ). length l) stop.script,
                length-append stop.fresh stop.left,
                stop.is_left.1,
                stop.is_left.2,
              );
          counts = record { script = reads.quiet (λ is. absurd (cc)) ∙ before.script; output = only.output ∙ before.output; later = omega (arith, only.later, before.later) };
          causes = causes_on (counts_of old) (counts_of now) (counts_of read) marks only.later turn.keeps.causes;
          times = times;
        }

    -- there was no memory for a mark
    pub no_memory_left : {x : T} (request : Request) → result ≡ Ok x → (IsTrue tells.script → TakesRequest request reader reader' now read) → RunsEdit tells name old read ending.NoMemory marks
    no_memory_left request was taken =
        let counts : IsTrue tells.script → CountsTaken reader reader' now read = subst (λ r. OnOk r (IsTrue tells.script → CountsTaken reader reader' now read)) was track.counts in
        let only = only_script now read reads.frame in
        let before = turn.keeps.counts in
        record {
          told = λ told.
              let here = turn.told told in
              run_no_memory told here.0 here.1 here.2 turn.keeps.names request (taken told.script) (track.ended told.script) (counts_on fresh reader reader' old now read (turn.counts told.script) (counts told.script));
          swap = λ told is. absurd (cc);
          barred = λ told has. absurd (turn.keeps.free told has);
          file = λ told. tt;
          taken = λ told. few_taken fresh reader' old read new (counts_on fresh reader reader' old now read (turn.counts told) (counts told)) track.limit;
          counts = record { script = reads.quiet (λ is. absurd (cc)) ∙ before.script; output = only.output ∙ before.output; later = omega (arith, only.later, before.later) };
          causes = causes_on (counts_of old) (counts_of now) (counts_of read) marks only.later turn.keeps.causes;
          times = times;
        }

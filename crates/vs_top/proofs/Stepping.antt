-- A command of a run: the step and its reply, whole or cut short, and an accepted quit.
use Rattle.std.proofs.Common.{◌≡◌, inl, ℕ, ◌≤◌, ◌<◌, ◌+◌, Bool, true, not, ◌&&◌, ◌||◌, List, [], ◌∷◌, ◌++◌, length, take, map, All, IsTrue, Ok, refl, sym, ap, subst, ◌∙◌, append_assoc, append-nil, arith}
use Rattle.std.proofs.lemmas.List.{length-append, take_all}
use Rattle.std.proofs.lemmas.List.Elements.{All-nil, All-cons, All-append}
use Rattle.std.proofs.Math.Seq.{take-append-add}
use Rattle.vs_faults.specs.Faults.{HasRisen}
use Rattle.vs_faults.proofs.Causes.{risen_before, risen_after}
use Rattle.vs_host.specs.Disk.{Disk}
use Rattle.vs_host.specs.Names.{names_of_file}
use Rattle.vs_host.specs.Trace.{WroteOutput, Snapshot}
use Rattle.vs_host.specs.World.{Tells, Scene, ChangesOutput}
use Rattle.vs_host.specs.declared.names.Names.{Names}
use Rattle.vs_excmd.specs.Request.{Instruction, IsRequest}
use Rattle.vs_excmd.specs.declared.request.Request.{Request}
use Rattle.vs_script.specs.Ahead.{Ahead, CountsTaken, KeepsTrack, script_limit}
use Rattle.vs_script.specs.Reads.{ReadsScript}
use Rattle.vs_script.specs.Requests.{TakesRequest, TakesNone}
use Rattle.vs_machine.specs.Machine.{is_done}
use Rattle.vs_machine.specs.Replies.{Answer}
use Rattle.vs_machine.specs.declared.command.Mark.{Mark}
use Rattle.vs_pair.specs.Pair.{is_foreign}
use Rattle.vs_safety.specs.Texts.{Sync}
use Rattle.vs_safety.specs.Turns.{Turn, NotBegun, quit_line}
use Rattle.vs_safety.specs.Safety.{IsAdded, Looks, Writes, Stepped}
use Rattle.vs_safety.specs.History.{History, Waits, syncs_of}
use Rattle.vs_safety.specs.Causes.{output_count}
use Rattle.vs_safety.proofs.Replies.{first_part, recorded, replied_one, wrote_one}
use Rattle.vs_safety.proofs.SoFar.{so_far_now, waits_next, waits_on}
use Rattle.vs_safety.proofs.Endings.{cut_turn}
use Rattle.vs_safety.proofs.Causes.{rose_at}
use Rattle.vs_session.specs.declared.session.Session.{Session}
use Rattle.vs_session.specs.declared.session.Step.{Step}
use Rattle.vs_session.specs.declared.session.Step.TheVariants as step
use Rattle.vs_session.specs.declared.ending.End.TheVariants as end
use Rattle.vs_session.specs.Session.{SessionState, is_fault, accepts_quit, state_after, syncs_after, turn_of}
use Rattle.vs_session.specs.Opened.{Opened}
use Rattle.vs_session.specs.Failures.{FailsOnce}
use Rattle.vs_session.specs.Made.{ClearsMade}
use Rattle.vs_session.specs.Modes.{KeepsMode, KeepsReaders}
use Rattle.vs_session.specs.Wholeness.{StaysWhole}
use Rattle.vs_session.specs.Fits.{Answers, Fits, StepsIn, names_of}
use Rattle.vs_top.specs.History.{CommandRun, Past, any_error, commands_then, history_of, marks_of, state_of, written}
use Rattle.vs_top.specs.Promise.{HasRun, RunsEdit}
use Rattle.vs_top.specs.Run.{TellsRun, KeepsMarks, counts_of, OnlyFolder, FaultHasCause, commands_within, opened_file}
use Rattle.vs_top.specs.Calls.{CallsSoFar, StepCalls}
use Rattle.vs_top.specs.Turns.{Told, KeepsOpenFile, IsAtClose}
use Rattle.vs_top.specs.declared.ending.Ending.TheVariants as ending
use Rattle.vs_top.proofs.Pushes.{and_not, map_push}
use Rattle.vs_top.proofs.Calls.{calls_cut, calls_next, calls_on, calls_read, near_end, shorter_on}
use Rattle.vs_top.proofs.Counting.{only_then, only_output, only_script, causes_on, counted_works, counted_reads, all_counted}
use Rattle.vs_top.proofs.Turning.{reads_look, IsTurn}
use Rattle.vs_top.proofs.Reading.{fresh_reader, HasRead, read_on, read_in, read_within, done_is_all, all_ahead, counts_on, few_taken}

-- What a step did that was answered, over any host.
pub record HasStepped (tells : Tells) (read stepped : Scene) (session after : Session) (request : Request) (mark : Mark) (reply : Answer) : Type 0 where
  pub step : IsTrue tells.folder → (state : SessionState) (syncs : List Sync) (instruction : Instruction) → Fits session read.folder state syncs → IsRequest request instruction
      → Answers state syncs instruction session after mark reply read stepped
  pub frame : StepsIn read stepped
  pub later : read.folder_faults ≤ stepped.folder_faults
  pub risen : is_fault mark.outcome ≡ true → HasRisen read.folder_faults stepped.folder_faults
  pub names : names_of after ≡ names_of session
  pub clock : IsTrue tells.clock → stepped.answers ≡ read.answers ++ mark.at ∷ []

module _ {T : Type 0} {x : T} (tells : Tells) (name : List ℕ) (old now read stepped : Scene) (session session' : Session) (fresh reader reader' : Ahead) (marks : List Mark) (clean : Bool) (request : Request) (mark : Mark) (reply : Answer)
    (reads : ReadsScript tells (Ok x) now read) (track : KeepsTrack tells (Ok x) reader reader' now read)
    (step : HasStepped tells read stepped session session' request mark reply) (some : 0 < length reply.bytes) where
  module _ (told : TellsRun tells) (past : Past) (here : Told name old now session marks clean past) (had : HasRead fresh reader old now (commands_then past)) (keeps : names_of session ≡ names_of_file name)
      (taken : TakesRequest request reader reader' now read) where
    abbrev names : Names
    names = names_of_file name

    abbrev file : Opened
    file = opened_file old name

    abbrev state : SessionState
    state = state_of file.state past

    abbrev history : History
    history = history_of file past

    waits : Waits names old history read
    waits = waits_on (is_foreign names) names old history now read here.waits (reads_look now read reads.frame (reads.last told.folder))

    answers : Answers state (syncs_of history) taken.first session session' mark reply read stepped
    answers = step.step told.folder state (syncs_of history) taken.first (subst (λ (d : Disk). Fits session d state (syncs_of history)) (sym (ap (λ (s : Scene). s.folder) reads.frame)) here.fits) taken.meant

    abbrev turn : Turn
    turn = turn_of state taken.first answers.ended

    abbrev last : CommandRun
    last = record { instruction = taken.first; ended = answers.ended }

    abbrev past' : Past
    past' = last ∷ past

    same_bytes : reply.bytes ≡ turn.reply
    same_bytes = ap (λ (a : Answer). a.bytes) answers.reply_is

    some_turn : 0 < length turn.reply
    some_turn = omega (arith, some, ap (λ (l : List ℕ). length l) same_bytes)

    stepping : Stepped names (syncs_of history) turn read stepped
    stepping = subst (λ (n : Names). Stepped n (syncs_of history) turn read stepped) keeps answers.stepped

    calls_read_now : CallsSoFar file old read past
    calls_read_now = calls_read file old now read past here.calls reads.frame (reads.all told.folder)

    calls_stepped : StepCalls names state last read stepped
    calls_stepped = record {
      found = stepping.found;
      fails = subst (λ (n : Names). FailsOnce n state taken.first answers.ended read stepped) keeps answers.calls;
      whole = subst (λ (n : Names). StaysWhole n state taken.first answers.ended read stepped) keeps answers.whole;
      cleared = subst (λ (n : Names). ClearsMade n state taken.first answers.ended read stepped) keeps answers.cleared;
      readers = subst (λ (n : Names). KeepsReaders n.file taken.first read stepped) keeps answers.modes;
      mode = subst (λ (n : Names). KeepsMode n.file state taken.first answers.ended read stepped) keeps answers.mode;
    }

    kept_now : (marks' : List Mark) → marks' ≡ marks ++ mark ∷ [] → KeepsMarks file marks' past'
    kept_now marks' kept = record {
      marks_are = kept ∙ ap (λ (l : List Mark). l ++ mark ∷ []) here.kept.marks_are ∙ ap (λ (m : Mark). marks_of past ++ m ∷ []) (sym answers.mark_is);
      are_answered = (answers.not_quit, answers.found, here.kept.are_answered);
    }

    fits_on : (new : Scene) → new.folder ≡ stepped.folder → Fits session' new.folder (state_of file.state past') (syncs_of (history_of file past'))
    fits_on new same = subst (λ (d : Disk). Fits session' d (state_of file.state past') (syncs_of (history_of file past'))) (sym same) answers.fits

    stepped_output : stepped.output ≡ old.output ++ written file past
    stepped_output = stepping.works.output ∙ (so_far_now (is_foreign names) names old history read waits).output

    -- the reply was written in part
    run_cut : (new : Scene) (n : ℕ) (marks' : List Mark) → marks' ≡ marks ++ mark ∷ [] → Writes n reply.bytes stepped new → HasRisen stepped.out_faults new.out_faults
        → (rest : List Instruction) × (commands_within old.script ≡ commands_then past' rest) → HasRun name old new ending.OutputFault marks'
    run_cut new n marks' kept writes rose within =
        let writes' : Writes n turn.reply stepped new = subst (λ (l : List ℕ). Writes n l stepped new) same_bytes writes in
        let front : List ℕ = written file past in
        record {
          did = record { past = past'; closing = NotBegun };
          kept = kept_now marks' kept;
          answered = inl (record {
            first = within;
            closing = refl;
            count = length front + n;
            output = writes'.output ∙ ap (λ (l : List ℕ). l ++ take n turn.reply) stepped_output ∙ append_assoc old.output front (take n turn.reply)
                ∙ ap (λ (l : List ℕ). old.output ++ l) (sym (take-append-add front turn.reply n));
            whole = omega arith;
          });
          safe = λ free. cut_turn (is_foreign names) names quit_line old history read waits stepped new turn (take n turn.reply) some_turn stepping (wrote_one stepped new n turn.reply writes') (first_part n turn.reply);
          left = (session', step.names ∙ keeps, fits_on new writes.folder);
          last = rose_at output_count old stepped new WroteOutput [] writes.added rose
              (counted_works names turn.write _ old read stepped (ap (λ (s : Scene). s.out_faults) step.frame) stepping.works
              (counted_reads old now read reads.frame (reads.quiet (λ is. cc)) (reads.all told.folder) here.counted).output);
          calls = calls_cut file old past last read stepped new calls_read_now calls_stepped stepping.works.moments.added stepping.works.moments.is (near_end stepped new writes.added writes.folder writes.faults);
        }

    whole_reply : (new : Scene) → Writes (length reply.bytes) reply.bytes stepped new → length old.output + length (written file past ++ turn.reply) ≤ length new.output
    whole_reply new writes = omega (
      arith,
      ap (λ (l : List ℕ). length l) (writes.output ∙ ap (λ (l : List ℕ). stepped.output ++ l) (take_all (length reply.bytes) reply.bytes (omega arith))),
      length-append stepped.output reply.bytes,
      ap (λ (l : List ℕ). length l) stepped_output,
      length-append old.output (written file past),
      length-append (written file past) turn.reply,
      ap (λ (l : List ℕ). length l) same_bytes,
    )

    -- it is whole
    told_on : (new : Scene) (marks' : List Mark) (one : Bool) → marks' ≡ marks ++ mark ∷ [] → (writes : Writes (length reply.bytes) reply.bytes stepped new) → one ≡ (is_done mark.outcome && not reply.is_error)
        → Told name old new session' marks' (clean && one) past'
    told_on new marks' one kept writes cleans =
        let writes' : Writes (length turn.reply) turn.reply stepped new = subst (λ (l : List ℕ). Writes (length l) l stepped new) same_bytes writes in
        let so_far = so_far_now (is_foreign names) names old history read waits in
        let long : length old.output + length (written file past ++ turn.reply) ≤ length new.output = whole_reply new writes in
        let before : length read.output < length old.output + length (written file past ++ turn.reply) =
        omega (arith, some_turn, ap (λ (l : List ℕ). length l) so_far.output, length-append old.output (written file past), length-append (written file past) turn.reply) in
        record {
          kept = kept_now marks' kept;
          errors = ap (λ (b : Bool). clean && b) (cleans ∙ ap (λ (m : Mark). is_done m.outcome && not reply.is_error) (sym answers.mark_is))
              ∙ ap (λ (b : Bool). b && (is_done answers.ended.mark.outcome && not reply.is_error)) here.errors ∙ and_not (any_error file.state past) (is_done answers.ended.mark.outcome) reply.is_error
              ∙ ap (λ (a : Answer). not (any_error file.state past || (not (is_done answers.ended.mark.outcome) || a.is_error))) answers.reply_is;
          fits = fits_on new writes.folder;
          waits = waits_next (is_foreign names) names old history turn read stepped new waits stepping (replied_one turn.reply stepped new some_turn writes');
          counted = all_counted old stepped new (recorded turn.reply stepped new some_turn writes') (stepping.works.moments.added ++ so_far.moments)
              (stepping.works.moments.is ∙ ap (λ (ms : List Snapshot). stepping.works.moments.added ++ ms) so_far.added ∙ sym (append_assoc stepping.works.moments.added so_far.moments old.trace));
          calls = calls_next file old past last read stepped new calls_read_now calls_stepped stepping.works.moments.added stepping.works.moments.is (recorded turn.reply stepped new some_turn writes') writes.folder writes.faults long
              (stepping.works.moments.added ++ so_far.moments)
              (stepping.works.moments.is ∙ ap (λ (ms : List Snapshot). stepping.works.moments.added ++ ms) so_far.added ∙ sym (append_assoc stepping.works.moments.added so_far.moments old.trace))
              (shorter_on names turn.write _ read stepped stepping.works (length old.output + length (written file past ++ turn.reply)) before so_far.moments so_far.parts);
        }

  module _ (new : Scene) (marks' : List Mark) (kept : marks' ≡ marks ++ mark ∷ []) (fresh_is : fresh ≡ fresh_reader) (taken : IsTrue tells.script → TakesRequest request reader reader' now read) (frame : ChangesOutput stepped new)
      (added : IsTrue tells.folder → IsAdded WroteOutput [] stepped new) (turn : IsTurn tells name old now session fresh reader marks clean) where
    script_same : new.script ≡ read.script
    script_same = ap (λ (s : Scene). s.script) frame ∙ ap (λ (s : Scene). s.script) step.frame

    counts_now : IsTrue tells.script → CountsTaken fresh reader' old read
    counts_now told = counts_on fresh reader reader' old now read (turn.counts told) (track.counts told)

    faults : new.folder_faults ≡ stepped.folder_faults
    faults = ap (λ (s : Scene). s.folder_faults) frame

    only_stepped : OnlyFolder (counts_of old) (counts_of stepped)
    only_stepped =
        let before = turn.keeps.counts in
        let script = only_script now read reads.frame in
        record {
          script = ap (λ (s : Scene). s.script_faults) step.frame ∙ reads.quiet (λ is. cc) ∙ before.script;
          output = ap (λ (s : Scene). s.out_faults) step.frame ∙ script.output ∙ before.output;
          later = omega (arith, step.later, script.later, before.later);
        }

    causes_now : All (FaultHasCause (counts_of old) (counts_of new)) marks'
    causes_now =
        let before = turn.keeps.counts in
        let script = only_script now read reads.frame in
        subst (λ (l : List Mark). All (FaultHasCause (counts_of old) (counts_of new)) l) (sym kept)
        (All-append (FaultHasCause (counts_of old) (counts_of new)) marks (mark ∷ [])
        (causes_on (counts_of old) (counts_of now) (counts_of new) marks (omega (arith, script.later, step.later, faults)) turn.keeps.causes)
        (All-cons (FaultHasCause (counts_of old) (counts_of new)) mark [] (λ is. risen_after (omega (arith, before.later, script.later)) (risen_before (step.risen is) (omega (arith, faults)))) (All-nil (FaultHasCause (counts_of old) (counts_of new)))))

    times_now : IsTrue tells.clock → new.answers ≡ old.answers ++ map (λ mark. mark.at) marks'
    times_now told =
        ap (λ (s : Scene). s.answers) frame ∙ step.clock told ∙ ap (λ (l : List ℕ). l ++ mark.at ∷ []) (ap (λ (s : Scene). s.answers) reads.frame ∙ turn.times told)
        ∙ append_assoc old.answers (map (λ mark. mark.at) marks) (mark.at ∷ []) ∙ ap (λ (l : List ℕ). old.answers ++ l) (sym (map_push (λ (m : Mark). m.at) marks mark))
        ∙ ap (λ (l : List Mark). old.answers ++ map (λ mark. mark.at) l) (sym kept)

    taken_now : IsTrue tells.script → length old.script ≤ length new.script + script_limit
    taken_now told = omega (arith, few_taken fresh reader' old read fresh_is (counts_now told) track.limit, ap (λ (l : List ℕ). length l) script_same)

    writes_of : (n : ℕ) → new.output ≡ stepped.output ++ take n reply.bytes → TellsRun tells → Writes n reply.bytes stepped new
    writes_of n output told = record { output = output; folder = ap (λ (s : Scene). s.folder) frame; faults = faults; added = added told.folder }

    pub cut_reply : (IsTrue tells.output → (n : ℕ) × (new.output ≡ stepped.output ++ take n reply.bytes)) → HasRisen stepped.out_faults new.out_faults → RunsEdit tells name old new ending.OutputFault marks'
    cut_reply wrote rose =
        let only = only_output stepped new frame in
        record {
          told = λ told.
              let here = turn.told told in
              let cut = wrote told.output in
              let t = taken told.script in
              let within = read_within fresh reader' old read (λ rest. commands_then here.0 (t.first ∷ rest)) fresh_is (read_on fresh reader reader' old now read (commands_then here.0) request here.2 t) (track.ended told.script) (counts_now told.script) track.limit in
              run_cut told here.0 here.1 here.2 turn.keeps.names t new cut.0 marks' kept (writes_of cut.0 cut.1 told) rose within;
          swap = λ told is. absurd (cc);
          barred = λ told has. absurd (turn.keeps.free told has);
          file = turn.keeps.file;
          taken = taken_now;
          counts = (
            subst (λ (k : ℕ). HasRisen k new.out_faults) only_stepped.output rose,
            record { script = only.script ∙ only_stepped.script; output = refl; later = omega (arith, only.later, only_stepped.later) },
          );
          causes = causes_now;
          times = λ told. record { more = []; one = omega arith; is = times_now told ∙ sym (append-nil (old.answers ++ map (λ mark. mark.at) marks')) };
        }

    pub next_turn : (one : Bool) → (IsTrue tells.output → new.output ≡ stepped.output ++ reply.bytes) → new.out_faults ≡ stepped.out_faults → one ≡ (is_done mark.outcome && not reply.is_error)
        → IsTurn tells name old new session' fresh reader' marks' (clean && one)
    next_turn one wrote quiet cleans = record {
      told = λ told.
          let here = turn.told told in
          let t = taken told.script in
          let writes = writes_of (length reply.bytes) (wrote told.output ∙ ap (λ (l : List ℕ). stepped.output ++ l) (sym (take_all (length reply.bytes) reply.bytes (omega arith)))) told in (
            past' told here.0 here.1 here.2 turn.keeps.names t,
            told_on told here.0 here.1 here.2 turn.keeps.names t new marks' one kept writes cleans,
            read_in fresh reader' old read new (λ rest. commands_then here.0 (t.first ∷ rest)) (read_on fresh reader reader' old now read (commands_then here.0) request here.2 t) script_same,
          );
      keeps = record {
        free = turn.keeps.free;
        file = turn.keeps.file;
        names = step.names ∙ turn.keeps.names;
        counts = record {
          script = ap (λ (s : Scene). s.script_faults) frame ∙ only_stepped.script;
          output = quiet ∙ only_stepped.output;
          later = omega (arith, faults, only_stepped.later);
        };
        causes = causes_now;
      };
      counts = λ told. omega (arith, counts_now told, ap (λ (l : List ℕ). length l) script_same);
      times = times_now;
    }

-- ---- where a run begins to close

-- what is known after a read that succeeded
told_read : {T : Type 0} {x : T} (tells : Tells) (name : List ℕ) (old now read : Scene) (session : Session) (marks : List Mark) (clean : Bool) → ReadsScript tells (Ok x) now read
    → TellsRun tells → (past : Past) → Told name old now session marks clean past → Told name old read session marks clean past
told_read tells name old now read session marks clean reads told past here = record {
  kept = here.kept;
  errors = here.errors;
  fits = subst (λ (d : Disk). Fits session d (state_of (opened_file old name).state past) (syncs_of (history_of (opened_file old name) past))) (sym (ap (λ (s : Scene). s.folder) reads.frame)) here.fits;
  waits = waits_on (is_foreign (names_of_file name)) (names_of_file name) old (history_of (opened_file old name) past) now read here.waits (reads_look now read reads.frame (reads.last told.folder));
  counted = counted_reads old now read reads.frame (reads.quiet (λ is. cc)) (reads.all told.folder) here.counted;
  calls = calls_read (opened_file old name) old now read past here.calls reads.frame (reads.all told.folder);
}

keeps_read : {T : Type 0} {x : T} (tells : Tells) (name : List ℕ) (old now read : Scene) (session : Session) (marks : List Mark) → ReadsScript tells (Ok x) now read
    → KeepsOpenFile tells name old now session marks → KeepsOpenFile tells name old read session marks
keeps_read tells name old now read session marks reads keeps =
    let only = only_script now read reads.frame in
    record {
      free = keeps.free;
      file = keeps.file;
      names = keeps.names;
      counts = record { script = reads.quiet (λ is. cc) ∙ keeps.counts.script; output = only.output ∙ keeps.counts.output; later = omega (arith, only.later, keeps.counts.later) };
      causes = causes_on (counts_of old) (counts_of now) (counts_of read) marks only.later keeps.causes;
    }

-- an accepted quit changes nothing that is told
told_same : (name : List ℕ) (old read stepped : Scene) (session session' : Session) (marks : List Mark) (clean : Bool) (past : Past) → Told name old read session marks clean past → session' ≡ session
    → stepped.trace ≡ read.trace → stepped.folder ≡ read.folder → stepped.folder_faults ≡ read.folder_faults → StepsIn read stepped → Told name old stepped session' marks clean past
told_same name old read stepped session session' marks clean past here same trace folder faults frame =
    let looks : Looks read stepped = record {
      moments = record { added = []; is = trace; each = tt };
      output = ap (λ (s : Scene). s.output) frame;
      folder = folder;
      faults = faults;
    } in
    let state : SessionState = state_of (opened_file old name).state past in
    let history : History = history_of (opened_file old name) past in
    record {
      kept = here.kept;
      errors = here.errors;
      fits = subst (λ (x : Session). Fits x stepped.folder state (syncs_of history)) (sym same) (subst (λ (d : Disk). Fits session d state (syncs_of history)) (sym folder) here.fits);
      waits = waits_on (is_foreign (names_of_file name)) (names_of_file name) old history read stepped here.waits looks;
      counted = record {
        script = record { moments = here.counted.script.moments; added = trace ∙ here.counted.script.added; newest = here.counted.script.newest ∙ sym (ap (λ (s : Scene). s.script_faults) frame) };
        output = record { moments = here.counted.output.moments; added = trace ∙ here.counted.output.added; newest = here.counted.output.newest ∙ sym (ap (λ (s : Scene). s.out_faults) frame) };
        folder = record { moments = here.counted.folder.moments; added = trace ∙ here.counted.folder.added; newest = here.counted.folder.newest ∙ sym faults };
      };
      calls = calls_on (opened_file old name) old read stepped past here.calls (record { added = []; is = trace; each = tt }) (λ i. record { folder = folder i; faults = faults i });
    }

-- at the script's end
pub at_end : {T : Type 0} {x : T} (tells : Tells) (name : List ℕ) (old now read : Scene) (session : Session) (fresh reader reader' : Ahead) (marks : List Mark) (clean : Bool) → fresh ≡ fresh_reader
    → ReadsScript tells (Ok x) now read → KeepsTrack tells (Ok x) reader reader' now read → (IsTrue tells.script → TakesNone reader reader' now read) → IsTurn tells name old now session fresh reader marks clean → IsAtClose tells name old read session marks end.Sync clean
at_end tells name old now read session fresh reader reader' marks clean new reads track none turn = record {
  told = λ told.
      let here = turn.told told in
      (here.0, told_read tells name old now read session marks clean reads told here.0 here.1, (done_is_all old now read fresh reader reader' (commands_then here.0) new here.2 (none told.script), (none told.script).script));
  keeps = keeps_read tells name old now read session marks reads turn.keeps;
  taken = λ told. few_taken fresh reader' old read new (counts_on fresh reader reader' old now read (turn.counts told) (track.counts told)) track.limit;
  times = λ told. record { more = []; one = omega arith; is = ap (λ (s : Scene). s.answers) reads.frame ∙ turn.times told ∙ sym (append-nil (old.answers ++ map (λ mark. mark.at) marks)) };
}

-- at an accepted quit
pub at_quit : {T : Type 0} {x : T} (tells : Tells) (name : List ℕ) (old now read stepped : Scene) (session session' : Session) (fresh reader reader' : Ahead) (marks : List Mark) (clean : Bool) (request : Request) → fresh ≡ fresh_reader
    → ReadsScript tells (Ok x) now read → KeepsTrack tells (Ok x) reader reader' now read
    → (IsTrue tells.script → TakesRequest request reader reader' now read) → IsTurn tells name old now session fresh reader marks clean
    → (IsTrue tells.folder → (state : SessionState) (syncs : List Sync) (instruction : Instruction) → Fits session read.folder state syncs → IsRequest request instruction
    → (accepts_quit state instruction ≡ true) × (session' ≡ session) × (stepped.trace ≡ read.trace) × (stepped.folder ≡ read.folder) × (stepped.folder_faults ≡ read.folder_faults))
    → StepsIn read stepped → read.folder_faults ≤ stepped.folder_faults → names_of session' ≡ names_of session → (IsTrue tells.clock → (at : ℕ) × (stepped.answers ≡ read.answers ++ at ∷ []))
    → IsAtClose tells name old stepped session' marks end.Quit clean
at_quit tells name old now read stepped session session' fresh reader reader' marks clean request new reads track taken turn step frame later names clock =
    let keeps = keeps_read tells name old now read session marks reads turn.keeps in
    record {
      told = λ told.
          let here = turn.told told in
          let t = taken told.script in
          let there = told_read tells name old now read session marks clean reads told here.0 here.1 in
          let done = step told.folder _ _ t.first there.fits t.meant in (
            here.0,
            told_same name old read stepped session session' marks clean here.0 there done.1 done.2 done.3 done.4 frame,
            (t.first, _, sym (all_ahead old fresh new) ∙ here.2.ahead ∙ ap (commands_then here.0) t.ahead, done.0),
          );
      keeps = record {
        free = keeps.free;
        file = keeps.file;
        names = names ∙ keeps.names;
        counts = only_then (counts_of old) (counts_of read) (counts_of stepped) keeps.counts (record { script = ap (λ (s : Scene). s.script_faults) frame; output = ap (λ (s : Scene). s.out_faults) frame; later = later });
        causes = causes_on (counts_of old) (counts_of read) (counts_of stepped) marks later keeps.causes;
      };
      taken = λ told. omega (arith, few_taken fresh reader' old read new (counts_on fresh reader reader' old now read (turn.counts told) (track.counts told)) track.limit, ap (λ (s : Scene). length s.script) frame);
      times = λ told.
          let at = clock told in
          record { more = at.0 ∷ []; one = omega arith; is = at.1 ∙ ap (λ (l : List ℕ). l ++ at.0 ∷ []) (ap (λ (s : Scene). s.answers) reads.frame ∙ turn.times told) };
    }

-- a step that gave no answer was an accepted quit
pub quit_step : (s : Step) (P : Step → Type 0) → ((m : Mark) (r : Answer) → s ≡ step.Answer m r → ⊥) → P s → P step.Quit
quit_step (step.Answer m r) P none p = absurd (none m r refl)
quit_step step.Quit P none p = p

-- an answered step and its reply leave the session in some state
pub fits_after : (state : SessionState) (syncs : List Sync) (instruction : Instruction) (session session' : Session) (mark : Mark) (reply : Answer) (read stepped new : Scene) → ChangesOutput stepped new
    → Answers state syncs instruction session session' mark reply read stepped → (state : SessionState) × (syncs : List Sync) × Fits session' new.folder state syncs
fits_after state syncs instruction session session' mark reply read stepped new frame answers = (
  state_after state instruction answers.ended,
  syncs_after state instruction answers.ended syncs,
  subst (λ (d : Disk). Fits session' d (state_after state instruction answers.ended) (syncs_after state instruction answers.ended syncs))
      (sym (ap (λ (s : Scene). s.folder) frame)) answers.fits,
)

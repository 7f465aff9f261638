-- A command of the stress mode: what it leaves of what is known between two of them.
use Rattle.std.proofs.Common.{◌≡◌, inl, inr, ℕ, ◌<◌, ◌+◌, Bool, true, false, not, ◌&&◌, ◌||◌, if◌then◌else◌, List, [], ◌∷◌, ◌++◌, length, map, Option, Some, None, Ok, IsTrue, refl, sym, ap, subst, ◌∙◌, append_assoc, arith}
use Rattle.std.specs.Prelude.{⊤}
use Rattle.std.proofs.lemmas.Bool.{true≢false}
use Rattle.std.proofs.lemmas.List.{length-append}
use Rattle.std.proofs.lemmas.List.Elements.{All-nil, All-cons, All-append}
use Rattle.vs_faults.proofs.Causes.{risen_after}
use Rattle.vs_host.specs.Disk.{Disk}
use Rattle.vs_host.specs.Names.{names_of_file}
use Rattle.vs_host.specs.Trace.{Snapshot, Each, GoesOn}
use Rattle.vs_host.specs.World.{Tells, Scene, HasNewest}
use Rattle.vs_host.specs.declared.names.Names.{Names}
use Rattle.vs_disk.specs.Runs.{Inside}
use Rattle.vs_disk.proofs.Runs.{Each-append, Each-weaker, goes_then, goes_weaker}
use Rattle.vs_disk.proofs.Others.{same_then}
use Rattle.vs_pair.specs.Pair.{is_foreign}
use Rattle.vs_pair.specs.Steps.{BothMoved}
use Rattle.vs_exparse.specs.Command.Command.{Write as WriteFile, WriteUndo}
use Rattle.vs_excmd.specs.Request.{Instruction, IsRequest}
use Rattle.vs_excmd.specs.declared.request.Request.{Request}
use Rattle.vs_machine.specs.Machine.{is_done}
use Rattle.vs_machine.specs.Replies.{Answer}
use Rattle.vs_machine.specs.declared.command.Mark.{Mark}
use Rattle.vs_machine.specs.declared.command.Outcome.{Outcome}
use Rattle.vs_machine.specs.declared.command.Outcome.TheVariants as outcome
use Rattle.vs_text.specs.Documents.{Document}
use Rattle.vs_safety.specs.Texts.{Sync, Recovers, recoverable}
use Rattle.vs_safety.specs.Turns.{Turn, with_begun, after_turns, opened}
use Rattle.vs_safety.specs.History.{syncs_of, turns_then}
use Rattle.vs_safety.specs.FileWork.{FileWork}
use Rattle.vs_safety.specs.Safety.{IsUnderWay, Spares, Stepped, Works}
use Rattle.vs_safety.proofs.Histories.{then_is}
use Rattle.vs_session.specs.declared.session.Session.{Session}
use Rattle.vs_session.specs.Session.{SessionState, Ended, is_write, is_wundo, lacks_name, stores_both, turn_of, undo_work, write_work, writes_files}
use Rattle.vs_session.specs.Failures.{FailsOnce}
use Rattle.vs_session.specs.Wholeness.{StaysWhole}
use Rattle.vs_session.specs.Fits.{Answers}
use Rattle.vs_session.specs.Made.{ClearsMade, IsLeftBy, LeavesNoneBut, LeavesNoneMade}
use Rattle.vs_session.specs.Modes.{KeepsMode, KeepsReaders}
use Rattle.vs_top.specs.History.{Past, any_error, commands_then, marks_of}
use Rattle.vs_top.specs.Run.{counts_of, FaultHasCause, opened_file}
use Rattle.vs_top.specs.Stress.{TellsStress, IsBeforeLine, stress_history, stress_name, stress_state, stress_document, stress_turns}
use Rattle.vs_top.specs.StressCalls.{HasRunTo, StressCalls}
use Rattle.vs_top.specs.StressTurns.{IsStressTurn, StressTold}
use Rattle.vs_top.proofs.Counting.{causes_on, counted_works}
use Rattle.vs_top.proofs.Pushes.{and_not, map_push}
use Rattle.vs_top.proofs.Readers.{own_then}
use Rattle.vs_top.proofs.Stepping.{HasStepped}

-- the syncs of its turns are those of its history
pub stress_syncs : (old : Scene) (past : Past) (rest : List Turn) → after_turns (opened (stress_document old)) (turns_then (stress_history old past) rest) ≡ after_turns (syncs_of (stress_history old past)) rest
stress_syncs old [] rest = refl
stress_syncs old (last ∷ past) rest = stress_syncs old past (turn_of (stress_state old past) last.instruction last.ended ∷ rest)

-- calls that worked on the folder alone did so whatever it had
pub inside_any : (P : Disk → Type 0) (start : Scene) (old new : List Snapshot) → GoesOn (Inside start P) old new → GoesOn (Inside start (λ folder. ⊤)) old new
inside_any P start =
    goes_weaker (Inside start P) (Inside start (λ folder. ⊤))
    (λ m inside. record { output = inside.output; answered = inside.answered; script_faults = inside.script_faults; out_faults = inside.out_faults; folder = tt })

-- the moments so far, with one command more
pub moment_on : (names : Names) (start : Scene) (document : Document) (turns : List Turn) (turn : Turn) (m : Snapshot) → IsBeforeLine names start document turns m → IsBeforeLine names start document (turns ++ turn ∷ []) m
moment_on names start document turns turn m is = record {
  spared = is.spared;
  recovers = elim is.recovers [
    | inl opening ↦ inl opening
    | inr at ↦ inr (record {
      first = at.first;
      turn = at.turn;
      rest = at.rest ++ turn ∷ [];
      turns_are = ap (λ (ts : List Turn). ts ++ turn ∷ []) at.turns_are ∙ append_assoc at.first (at.turn ∷ at.rest) (turn ∷ []);
      answered = at.answered;
      written = at.written;
      recovers = at.recovers;
    })
  ];
}

-- the commands in their order
pub commands_are : (past : Past) (rest : List Instruction) → commands_then past rest ≡ commands_then past [] ++ rest
commands_are past rest = appended past [] rest
  where
    appended : (past : Past) (more rest : List Instruction) → commands_then past (more ++ rest) ≡ commands_then past more ++ rest
    appended [] more rest = refl
    appended (last ∷ past) more rest = appended past (last.instruction ∷ more) rest

-- a command that writes no other file
no_work : (state : SessionState) (found : Disk) (acknowledged lacks : Bool) (parsed : _) → writes_files parsed ≡ false
    → (if (is_write parsed && acknowledged) && not lacks then Some (write_work state found) else undo_work state found parsed) ≡ None
no_work state found acknowledged lacks (Ok (WriteFile bang)) plain = absurd (true≢false plain)
no_work state found acknowledged lacks (Ok WriteUndo) plain = absurd (true≢false plain)
no_work state found acknowledged lacks parsed plain = refl

pub writes_none : (state : SessionState) (instruction : Instruction) (ended : Ended) → writes_files instruction.parsed ≡ false → (turn_of state instruction ended).write ≡ None
writes_none state instruction ended plain = no_work state ended.found ended.acknowledged (lacks_name state.options.write state.name ended.found) instruction.parsed plain

-- nor does it leave a file under a name under which files are made
no_write : (parsed : _) → writes_files parsed ≡ false → is_write parsed ≡ false
no_write (Ok (WriteFile bang)) plain = absurd (true≢false plain)
no_write parsed plain = refl

no_store : (parsed : _) → writes_files parsed ≡ false → is_wundo parsed ≡ false
no_store (Ok WriteUndo) plain = absurd (true≢false plain)
no_store parsed plain = refl

none_both : (state : SessionState) (instruction : Instruction) (ended : Ended) → writes_files instruction.parsed ≡ false → stores_both state instruction ended ≡ false
none_both state instruction ended plain =
    ap (λ (w : Bool). ((w && ended.acknowledged) && not (lacks_name state.options.write state.name ended.found)) && state.options.undofile) (no_write instruction.parsed plain)

none_left : (o : Outcome) (names : Names) (state : SessionState) (instruction : Instruction) (found old new : Disk) → writes_files instruction.parsed ≡ false → (o ≡ outcome.NoUndo → ⊥)
    → LeavesNoneBut (IsLeftBy o names state instruction found) old new → LeavesNoneMade old new
none_left outcome.Done names state instruction found old new plain stored but made gone = but made (λ never. never) gone
none_left outcome.NoMemory names state instruction found old new plain stored but made gone = but made (λ never. never) gone
none_left outcome.Fault names state instruction found old new plain stored but made gone =
    but made (λ left. elim left [ inl writes ↦ true≢false (sym writes.0 ∙ no_write instruction.parsed plain) | inr stores ↦ true≢false (sym stores.0 ∙ no_store instruction.parsed plain) ]) gone
none_left outcome.NoUndo names state instruction found old new plain stored but made gone = absurd (stored refl)

module _ (OfHost : Scene → Type 0) (tells : Tells) (old now new : Scene) (session after : Session) (marks : List Mark) (clean : Bool) (request : Request) (mark : Mark) (reply : Answer) (instruction : Instruction) (commands : List Instruction)
    (step : HasStepped tells now new session after request mark reply) (newest : IsTrue tells.folder → HasNewest new) (of_host : OfHost new) (meant : IsRequest request instruction) (plain : writes_files instruction.parsed ≡ false) (turn : IsStressTurn OfHost tells old now session marks clean commands) where
  module _ (told : TellsStress tells) (past : Past) (here : StressTold OfHost old now session marks clean past) where
    abbrev names : Names
    names = names_of_file stress_name

    abbrev state : SessionState
    state = stress_state old past

    abbrev turns : List Turn
    turns = stress_turns old past

    abbrev syncs : List Sync
    syncs = syncs_of (stress_history old past)

    answers : Answers state syncs instruction session after mark reply now new
    answers = step.step told.folder state syncs instruction here.fits meant

    abbrev one : Turn
    one = turn_of state instruction answers.ended

    stepped : Stepped names syncs one now new
    stepped = subst (λ (n : Names). Stepped n syncs one now new) turn.keeps.names answers.stepped

    works : Works names None (IsUnderWay names (with_begun one.sync syncs) None) now new
    works = subst (λ (w : Option FileWork). Works names w (IsUnderWay names (with_begun one.sync syncs) w) now new) (writes_none state instruction answers.ended plain) stepped.works

    abbrev past' : Past
    past' = record { instruction = instruction; ended = answers.ended } ∷ past

    turns_are : stress_turns old past' ≡ turns ++ one ∷ []
    turns_are = then_is (stress_history old past) (one ∷ [])

    long_now : length new.answers ≡ length old.answers + (length turns + 1)
    long_now =
        let at : List ℕ = mark.at ∷ [] in
        omega (arith, ap (λ (l : List ℕ). length l) (step.clock told.clock), length-append now.answers at, here.answers)

    moment_here : (m : Snapshot) → Inside new (Spares names None (IsUnderWay names (with_begun one.sync syncs) None) now.folder) m → IsBeforeLine names old (stress_document old) (turns ++ one ∷ []) m
    moment_here m inside = record {
      spared = same_then (is_foreign names) old.folder now.folder m.folder here.spared inside.folder.spared;
      recovers = inr (record {
        first = turns;
        turn = one;
        rest = [];
        turns_are = refl;
        answered = inside.answered ∙ long_now;
        written = inside.output ∙ works.output ∙ here.output;
        recovers = subst (λ (ss : List Sync). Recovers names (recoverable (with_begun one.sync ss)) m.folder) (sym (stress_syncs old past [])) inside.folder.folder.recovers;
      });
    }

    abbrev newer : List Snapshot
    newer = works.moments.added

    abbrev moments : List Snapshot
    moments = newer ++ here.moments

    added : new.trace ≡ moments ++ old.trace
    added = works.moments.is ∙ ap (λ (ms : List Snapshot). newer ++ ms) here.added ∙ sym (append_assoc newer here.moments old.trace)

    safe : Each (IsBeforeLine names old (stress_document old) (turns ++ one ∷ [])) moments
    safe =
        let each : List Turn → Snapshot → Type 0 = λ ts. IsBeforeLine names old (stress_document old) ts in
        Each-append (each (turns ++ one ∷ [])) newer here.moments
        (Each-weaker (Inside new (Spares names None (IsUnderWay names (with_begun one.sync syncs) None) now.folder)) (each (turns ++ one ∷ [])) moment_here newer works.moments.each)
        (Each-weaker (each turns) (each (turns ++ one ∷ [])) (λ m is. moment_on names old (stress_document old) turns one m is) here.moments here.safe)

    clears : ClearsMade names state instruction answers.ended now new
    clears = subst (λ (n : Names). ClearsMade n state instruction answers.ended now new) turn.keeps.names answers.cleared

    clear_here : LeavesNoneMade now.folder new.folder
    clear_here =
        none_left answers.ended.mark.outcome names state instruction answers.ended.found now.folder new.folder plain
        (λ unstored. true≢false (sym (answers.found.unstored unstored) ∙ none_both state instruction answers.ended plain)) clears.left

    reads : KeepsReaders names.file instruction now new
    reads = subst (λ (n : Names). KeepsReaders n.file instruction now new) turn.keeps.names answers.modes

    ran : HasRunTo OfHost old past' new
    ran = (
      now,
      here.ran,
      record {
        of_host = of_host;
        newest = newest told.folder;
        clock = step.clock told.clock ∙ ap (λ (m : Mark). now.answers ++ m.at ∷ []) (sym answers.mark_is);
        output = works.output;
        moments = inside_any (Spares names None (IsUnderWay names (with_begun one.sync syncs) None) now.folder) new now.trace new.trace works.moments;
      },
      record {
        calls = record {
          found = stepped.found;
          fails = subst (λ (n : Names). FailsOnce n state instruction answers.ended now new) turn.keeps.names answers.calls;
          whole = subst (λ (n : Names). StaysWhole n state instruction answers.ended now new) turn.keeps.names answers.whole;
          cleared = clears;
          readers = reads;
          mode = subst (λ (n : Names). KeepsMode n.file state instruction answers.ended now new) turn.keeps.names answers.mode;
        };
        flag = stepped.flag;
        cause = record { later = step.later; risen = stepped.cause };
      },
    )

    calls : StressCalls old new
    calls = record {
      moved = goes_then (λ m. length old.answers < m.answered → BothMoved names m.folder) old.trace now.trace new.trace here.calls.moved
          (goes_weaker (λ m. BothMoved names m.folder) (λ m. length old.answers < m.answered → BothMoved names m.folder) (λ m moved later. moved) now.trace new.trace (clears.moved here.here).0);
      readers = own_then old now new here.calls.readers (λ allowed owner. reads.each allowed owner (λ writes. absurd (true≢false (sym writes ∙ plain))));
    }

    told_on : StressTold OfHost old new after (marks ++ mark ∷ []) (clean && (is_done mark.outcome && not reply.is_error)) past'
    told_on =
        let one_turn : List Turn = one ∷ [] in
        let errors : Bool = any_error (opened_file old stress_name).state past in
        record {
          kept = record {
            marks_are = ap (λ (l : List Mark). l ++ mark ∷ []) here.kept.marks_are ∙ ap (λ (m : Mark). marks_of past ++ m ∷ []) (sym answers.mark_is);
            are_answered = (answers.not_quit, answers.found, here.kept.are_answered);
          };
          errors = ap (λ (b : Bool). clean && b) (ap (λ (m : Mark). is_done m.outcome && not reply.is_error) (sym answers.mark_is)) ∙ ap (λ (b : Bool). b && (is_done answers.ended.mark.outcome && not reply.is_error)) here.errors
              ∙ and_not errors (is_done answers.ended.mark.outcome) reply.is_error
              ∙ ap (λ (a : Answer). not (errors || (not (is_done answers.ended.mark.outcome) || a.is_error))) answers.reply_is;
          fits = answers.fits;
          moments = moments;
          added = added;
          safe = subst (λ (ts : List Turn). Each (IsBeforeLine names old (stress_document old) ts) moments) (sym turns_are) safe;
          spared = same_then (is_foreign names) old.folder now.folder new.folder here.spared works.spared;
          ran = ran;
          calls = calls;
          cleared = λ made gone. clear_here made (here.cleared made gone);
          here = (clears.moved here.here).1;
          output = works.output ∙ here.output;
          answers = omega (arith, long_now, ap (λ (ts : List Turn). length ts) turns_are, length-append turns one_turn);
          counted = counted_works names None _ old now new (ap (λ (s : Scene). s.out_faults) step.frame) works here.counted;
        }

  -- over any host
  pub turn_on : IsStressTurn OfHost tells old new after (marks ++ mark ∷ []) (clean && (is_done mark.outcome && not reply.is_error)) (commands ++ instruction ∷ [])
  turn_on =
      let before = turn.keeps.counts in
      record {
        told = λ told.
            let was = turn.told told in (
              past' told was.0 was.2,
              commands_are was.0 (instruction ∷ []) ∙ ap (λ (l : List Instruction). l ++ instruction ∷ []) was.1,
              told_on told was.0 was.2,
            );
        keeps = record {
          free = turn.keeps.free;
          file = turn.keeps.file;
          names = step.names ∙ turn.keeps.names;
          counts = record {
            script = ap (λ (s : Scene). s.script_faults) step.frame ∙ before.script;
            output = ap (λ (s : Scene). s.out_faults) step.frame ∙ before.output;
            later = omega (arith, before.later, step.later);
          };
          causes = All-append (FaultHasCause (counts_of old) (counts_of new)) marks (mark ∷ [])
              (causes_on (counts_of old) (counts_of now) (counts_of new) marks step.later turn.keeps.causes)
              (All-cons (FaultHasCause (counts_of old) (counts_of new)) mark [] (λ is. risen_after before.later (step.risen is)) (All-nil (FaultHasCause (counts_of old) (counts_of new))));
        };
        script = ap (λ (s : Scene). s.script) step.frame ∙ turn.script;
        times = λ told.
            step.clock told ∙ ap (λ (l : List ℕ). l ++ mark.at ∷ []) (turn.times told) ∙ append_assoc old.answers (map (λ (m : Mark). m.at) marks) (mark.at ∷ [])
            ∙ ap (λ (l : List ℕ). old.answers ++ l) (sym (map_push (λ (m : Mark). m.at) marks mark));
      }

-- The course of two sessions over the lines of their script, one turn of its loop after the other.
use Rattle.std.proofs.Common.{◌≡◌, inl, inr, ℕ, ◌+◌, ◌≤◌, true, false, ◌&&◌, List, [], ◌∷◌, ◌++◌, length, take, IsTrue, Result, Ok, Err, refl, sym, ap, subst, ◌∙◌, arith}
use Rattle.std.specs.Prelude.{is_none}
use Rattle.std.proofs.lemmas.List.{length-append}
use Rattle.std.proofs.Math.Seq.{take-append_seam}
use Rattle.vs_faults.specs.Faults.{HasRisen}
use Rattle.vs_host.specs.Disk.{Disk}
use Rattle.vs_host.specs.World.{Tells, Scene}
use Rattle.vs_script.specs.Ahead.{Ahead, CountsTaken, HasSeen, KeepsTrack, Kept, ReadsLine, Stops, script_limit, whole_lines}
use Rattle.vs_script.specs.Reads.{ReadsScript}
use Rattle.vs_script.specs.declared.reader.ScriptErr.{ScriptErr}
use Rattle.vs_script.specs.declared.reader.ScriptErr.TheVariants as script_error
use Rattle.vs_family.specs.declared.which.Which.TheVariants as which
use Rattle.vs_machine.specs.declared.command.Mark.{Mark}
use Rattle.vs_multi.specs.Multi.{session_of}
use Rattle.vs_top.specs.Ending.{script_ending}
use Rattle.vs_top.specs.Run.{TellsRun}
use Rattle.vs_top.specs.PairHistory.{file_for, stage_of, state_for}
use Rattle.vs_top.specs.PairScript.{Comes, Line, OnlyLines, ScriptEnd, Transcript, answers_of, lines_then}
use Rattle.vs_top.specs.PairPromise.{AllWhole, EndsPair, HasRunBoth, files_in, row_both}
use Rattle.vs_top.specs.PairTurns.{HasNext, IsInState, ArePlaced, KeepsPair, ToldPair}
use Rattle.vs_top.specs.declared.pair.Sessions.{Sessions}
use Rattle.vs_top.specs.declared.ending.Ending.{Ending}
use Rattle.vs_top.specs.declared.ending.Ending.TheVariants as ending
use Rattle.vs_top.proofs.Counting.{counted_reads}
use Rattle.vs_top.proofs.Reading.{counts_on, few_taken, fresh_reader}
use Rattle.vs_top.proofs.Turning.{reads_look, rose_reading}
use Rattle.vs_top.proofs.PairAnswers.{stopped_after}
use Rattle.vs_top.proofs.PairKeeps.{ends_long, ends_script, keeps_read}
use Rattle.vs_top.proofs.PairReads.{HasLines, lines_first, lines_in, lines_on, lines_stopped, not_over_by, over_by}
use Rattle.vs_top.proofs.PairSteps.{told_looks}
use Rattle.vs_top.proofs.PairTakes.{item}

-- What is known before each line, over a host that tells.
pub record AtLine (one two : List ℕ) (old now : Scene) (pair : Sessions) (marks : List Mark) (reader : Ahead) (transcript : Transcript) : Type 0 where
  pub told : ToldPair one two old now pair.multi marks pair.clean transcript
  pub placed : ArePlaced pair transcript
  pub only : OnlyLines transcript
  pub has : HasLines reader old now (lines_then transcript)

module _ {T : Type 0} {x : T} (tells : Tells) (told : TellsRun tells) (one two : List ℕ) (old now read : Scene) (pair : Sessions) (marks : List Mark) (reader reader' : Ahead) (transcript : Transcript)
    (here : AtLine one two old now pair marks reader transcript) (reads : ReadsScript tells (Ok x) now read) where
  -- after a read that succeeded
  pub told_line : ToldPair one two old read pair.multi marks pair.clean transcript
  told_line =
      told_looks tells told one two old now pair.multi marks pair.clean transcript here.told read pair.multi (reads_look now read reads.frame (reads.last told.folder))
      (counted_reads old now read reads.frame (reads.quiet (λ is. cc)) (reads.all told.folder) here.told.counted)
      (λ session. subst (λ (d : Disk). IsInState (file_for session (files_in old one two)) (session_of session pair.multi) (state_for session (files_in old one two) (answers_of transcript)) (stage_of session (files_in old one two) (answers_of transcript)) d)
      (sym (ap (λ (s : Scene). s.folder) reads.frame)) (here.told.in_state session))

  -- the next line comes
  pub line_comes : (kept : Kept) (line : ReadsLine true kept reader reader' now read) → (is_none pair.multi.one && is_none pair.multi.two) ≡ false → HasSeen reader' read → CountsTaken fresh_reader reader' old read
      → reader'.taken ≤ script_limit → Comes old.script transcript (Line line.line)
  line_comes kept line some_open seen counts limit =
      let first = lines_first reader' old read (λ rest. lines_then transcript (line.line ∷ rest)) (lines_on reader reader' old now read (lines_then transcript) kept here.has line) seen counts limit in
      (here.only, not_over_by pair transcript here.placed some_open, (first.0, first.1))

-- ---- the script is at its end, or cannot be read on

module _ (tells : Tells) (told : TellsRun tells) (one two : List ℕ) (old now read : Scene) (pair : Sessions) (marks : List Mark) (reader reader' : Ahead) (transcript : Transcript)
    (here : AtLine one two old now pair marks reader transcript) where
  -- all lines were taken
  pub lines_all : (kept : Kept) → ReadsLine false kept reader reader' now read → Comes old.script transcript (ScriptEnd which.One)
  lines_all kept line = (here.only, inr (sym (here.has.ahead ∙ ap (lines_then transcript) line.ahead.1)))

  -- both sessions have quit
  pub lines_over : (is_none pair.multi.one && is_none pair.multi.two) ≡ true → Comes old.script transcript (ScriptEnd which.One)
  lines_over over = (here.only, inl (over_by pair transcript here.placed over))

  module _ {T : Type 0} {result : Result T ScriptErr} (reads : ReadsScript tells result now read) where
    stopped_reading : (end : Ending) → (row_both end).answered (files_in old one two) old read marks (record { transcript = transcript; reach = AllWhole }) → (row_both end).last old read → HasRunBoth one two old read end marks
    stopped_reading end ends failed = stopped_after tells told one two old now now pair.multi marks pair.clean transcript here.told read (reads_look now read reads.frame (reads.last told.folder)) end ends failed

    pub fails_reading : Stops script_error.Failed whole_lines [] reader reader' now read → HasRisen now.script_faults read.script_faults → HasRunBoth one two old read ending.ScriptFault marks
    fails_reading stop rose =
        let found = lines_stopped script_error.Failed old now read reader reader' (lines_then transcript) here.has stop in
        stopped_reading ending.ScriptFault
        (found.taken, found.script ∙ ap (λ (l : List ℕ). found.taken ++ l) (sym found.is_left), record { lines = found.whole; only = here.only; whole = refl })
        (rose_reading old now read (reads.last told.folder) rose here.told.counted.script)

    pub long_reading : Stops script_error.TooLong whole_lines [] reader reader' now read → HasRunBoth one two old read ending.ScriptTooLong marks
    long_reading stop =
        let found = lines_stopped script_error.TooLong old now read reader reader' (lines_then transcript) here.has stop in
        let long : length found.taken ≡ script_limit = sym found.count ∙ found.is_left.2 in
        let size : length old.script ≡ length found.taken + length found.left = ap (λ (l : List ℕ). length l) found.script ∙ length-append found.taken found.left in
        let front : take script_limit old.script ≡ found.taken =
        ap (λ (l : List ℕ). take script_limit l) found.script ∙ ap (λ n. take n (found.taken ++ found.left)) (sym long) ∙ take-append_seam found.taken found.left in
        stopped_reading ending.ScriptTooLong (omega (arith, long, found.is_left.0, size), record { lines = found.whole ∙ ap whole_lines (sym front); only = here.only; whole = refl }) tt

-- the line that was read is answered
pub at_next : (one two : List ℕ) (old now read new : Scene) (pair pair' : Sessions) (marks marks' : List Mark) (reader reader' : Ahead) (transcript : Transcript) (kept : Kept) → AtLine one two old now pair marks reader transcript
    → (line : ReadsLine true kept reader reader' now read) → new.script ≡ read.script → (next : HasNext one two old new pair' marks' transcript (Line line.line))
    → AtLine one two old new pair' marks' reader' (item (Line line.line) next.0 ∷ transcript)
at_next one two old now read new pair pair' marks marks' reader reader' transcript kept here line script next = record {
  told = next.2;
  placed = next.1;
  only = (tt, here.only);
  has = lines_in reader' old read new (λ rest. lines_then transcript (line.line ∷ rest)) (lines_on reader reader' old now read (lines_then transcript) kept here.has line) script;
}

-- ---- over any host

pub reading_ends : {T : Type 0} {result : Result T ScriptErr} (tells : Tells) (one two : List ℕ) (old now read : Scene) (most : ℕ) (marks : List Mark) (reader reader' : Ahead) → most ≤ 2 → KeepsPair tells one two old now most marks
    → ReadsScript tells result now read → KeepsTrack tells result reader reader' now read → (IsTrue tells.script → CountsTaken fresh_reader reader old now) → (error : ScriptErr) → result ≡ Err error
    → (IsTrue tells.script → Stops error whole_lines [] reader reader' now read) → EndsPair tells one two old read (script_ending error) marks
reading_ends tells one two old now read most marks reader reader' few keeps reads track counts script_error.Failed was stops =
    ends_script tells one two old now most marks keeps few read reads.frame (reads.cause.risen was)
    (λ told.
    let stop = stops told in
    few_taken fresh_reader reader' old read refl
    (counts_on fresh_reader reader reader' old now read (counts told)
    (omega (arith, stop.count, ap (λ (l : List ℕ). length l) stop.script, length-append stop.fresh stop.left, ap (λ (l : List ℕ). length l) stop.is_left))) track.limit)
reading_ends tells one two old now read most marks reader reader' few keeps reads track counts script_error.TooLong was stops =
    ends_long tells one two old now most marks keeps few read reads.frame (reads.quiet (λ is. absurd (cc)))
    (λ told. let stop = stops told in omega (arith, counts told, stop.count, ap (λ (l : List ℕ). length l) stop.script, length-append stop.fresh stop.left, stop.is_left.1, stop.is_left.2))

pub reading_keeps : {T : Type 0} {x : T} (tells : Tells) (one two : List ℕ) (old now read : Scene) (most : ℕ) (marks : List Mark) (reader reader' : Ahead) → KeepsPair tells one two old now most marks
    → ReadsScript tells (Ok x) now read → KeepsTrack tells (Ok x) reader reader' now read → (IsTrue tells.script → CountsTaken fresh_reader reader old now) → KeepsPair tells one two old read most marks
reading_keeps tells one two old now read most marks reader reader' keeps reads track counts =
    keeps_read tells one two old now most marks keeps read reads.frame (reads.quiet (λ is. cc))
    (λ told. few_taken fresh_reader reader' old read refl (counts_on fresh_reader reader reader' old now read (counts told) (track.counts told)) track.limit)

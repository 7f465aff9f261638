-- The loop over the lines of the script of two sessions: what each turn keeps, and what is known where the loop ends.
use Rattle.std.proofs.Common.{◌≡◌, ℕ, ◌+◌, ◌<◌, Bool, true, false, ◌&&◌, List, [], ◌∷◌, length, take, IsTrue, Result, Ok, Err, refl, sym, ap, subst, ◌∙◌, arith}
use Rattle.std.specs.Prelude.{MatchResult, is_none}
use Rattle.vs_host.specs.World.{Tells, Scene}
use Rattle.vs_exparse.specs.Bytes.{max_line_bytes}
use Rattle.vs_script.specs.Ahead.{Ahead, CountsTaken, HasSeen, KeepsTrack, Kept, ReadsLine, Stops, bytes_left, script_limit, whole_lines}
use Rattle.vs_script.specs.Reads.{ReadsScript}
use Rattle.vs_script.specs.declared.reader.ScriptErr.{ScriptErr}
use Rattle.vs_script.specs.declared.reader.ScriptErr.TheVariants as script_error
use Rattle.vs_machine.specs.declared.command.Mark.{Mark}
use Rattle.vs_top.specs.Ending.{script_ending}
use Rattle.vs_top.specs.Run.{TellsRun}
use Rattle.vs_top.specs.PairScript.{Comes, Line, Transcript}
use Rattle.vs_top.specs.PairPromise.{EndsPair, HasRunBoth}
use Rattle.vs_top.specs.PairTurns.{HasNext, TookLines, ArePlaced, AreUsable, KeepsPair, ToldPair, sessions_ended}
use Rattle.vs_top.specs.declared.pair.Sessions.{Sessions}
use Rattle.vs_top.specs.declared.ending.Ending.{Ending}
use Rattle.vs_top.proofs.Reading.{counts_on, fresh_reader, fresh_seen}
use Rattle.vs_top.proofs.PairEnds.{usable_read}
use Rattle.vs_top.proofs.PairKeeps.{ended_few}
use Rattle.vs_top.proofs.PairLines.{AtLine, at_next, fails_reading, line_comes, lines_all, lines_over, long_reading, reading_ends, reading_keeps, told_line}
use Rattle.vs_top.proofs.PairReads.{lines_start}
use Rattle.vs_top.proofs.PairRoom.{usable_fewer}
use Rattle.vs_top.proofs.PairTakes.{item}

-- What is known before each line of a run that began with these sessions, where the lines up to it were answered.
pub record IsCourse (tells : Tells) (start now : Scene) (first pair : Sessions) (begun marks : List Mark) (reader : Ahead) : Type 0 where
  pub told : TellsRun tells → (one two : List ℕ) (old : Scene) → start.script ≡ old.script → ArePlaced first [] → ToldPair one two old start first.multi begun first.clean []
      → (transcript : Transcript) × AtLine one two old now pair marks reader transcript
  pub keeps : (one two : List ℕ) (old : Scene) → start.script ≡ old.script → KeepsPair tells one two old start (sessions_ended first.multi) begun → KeepsPair tells one two old now (sessions_ended pair.multi) marks
  pub seen : IsTrue tells.script → HasSeen reader now
  pub counts : IsTrue tells.script → CountsTaken fresh_reader reader start now
  pub usable : AreUsable tells pair (bytes_left reader + 2) now

-- before the first one
pub course_start : (tells : Tells) (now : Scene) (pair : Sessions) (marks : List Mark) (reader : Ahead) → reader ≡ fresh_reader → AreUsable tells pair (script_limit + 2) now → IsCourse tells now now pair pair marks marks reader
course_start tells now pair marks reader fresh usable = subst (λ (r : Ahead). IsCourse tells now now pair pair marks marks r) (sym fresh) (record {
  told = λ told one two old same placed here. ([], record { told = here; placed = placed; only = tt; has = lines_start old now same });
  keeps = λ one two old same keeps. keeps;
  seen = λ told. fresh_seen now fresh_reader refl;
  counts = λ told. refl;
  usable = usable_fewer tells pair (script_limit + 2) (bytes_left fresh_reader + 2) now (omega arith) usable;
})

module _ (tells : Tells) (start now : Scene) (first pair : Sessions) (begun marks : List Mark) (reader : Ahead) (course : IsCourse tells start now first pair begun marks reader) where
  counts_from : (old : Scene) → start.script ≡ old.script → IsTrue tells.script → CountsTaken fresh_reader reader old now
  counts_from old same told = omega (arith, course.counts told, ap (λ (l : List ℕ). length l) same)

  -- both sessions have quit
  pub over_taken : (is_none pair.multi.one && is_none pair.multi.two) ≡ true → TellsRun tells → (one two : List ℕ) (old : Scene) → start.script ≡ old.script → ArePlaced first [] → ToldPair one two old start first.multi begun first.clean []
      → TookLines one two old now pair marks
  over_taken over told one two old same placed here =
      let was = course.told told one two old same placed here in
      (was.0, lines_over tells told one two old now now pair marks reader reader was.0 was.1 over, was.1.placed, was.1.told)

  pub over_usable : AreUsable tells pair 2 now
  over_usable = usable_fewer tells pair (bytes_left reader + 2) 2 now (omega arith) course.usable

  -- ---- a read that failed

  module _ (read : Scene) (reader' : Ahead) where
    stopped_told : {result : Result Bool ScriptErr} (error : ScriptErr) → ReadsScript tells result now read → result ≡ Err error → Stops error whole_lines [] reader reader' now read → (told : TellsRun tells)
        → (one two : List ℕ) (old : Scene) (transcript : Transcript) → AtLine one two old now pair marks reader transcript → HasRunBoth one two old read (script_ending error) marks
    stopped_told script_error.Failed reads was stop told one two old transcript here =
        fails_reading tells told one two old now read pair marks reader reader' transcript here reads stop (reads.cause.risen was)
    stopped_told script_error.TooLong reads was stop told one two old transcript here = long_reading tells told one two old now read pair marks reader reader' transcript here reads stop

    pub stops_told : {result : Result Bool ScriptErr} (error : ScriptErr) → ReadsScript tells result now read → result ≡ Err error → (IsTrue tells.script → Stops error whole_lines [] reader reader' now read) → TellsRun tells
        → (one two : List ℕ) (old : Scene) → start.script ≡ old.script → ArePlaced first [] → ToldPair one two old start first.multi begun first.clean [] → HasRunBoth one two old read (script_ending error) marks
    stops_told error reads was stops told one two old same placed here =
        let at = course.told told one two old same placed here in
        stopped_told error reads was (stops told.script) told one two old at.0 at.1

    pub stops_ends : {result : Result Bool ScriptErr} (error : ScriptErr) → ReadsScript tells result now read → KeepsTrack tells result reader reader' now read → result ≡ Err error
        → (IsTrue tells.script → Stops error whole_lines [] reader reader' now read) → (one two : List ℕ) (old : Scene) → start.script ≡ old.script → KeepsPair tells one two old start (sessions_ended first.multi) begun
        → EndsPair tells one two old read (script_ending error) marks
    stops_ends error reads track was stops one two old same keeps =
        reading_ends tells one two old now read (sessions_ended pair.multi) marks reader reader' (ended_few pair.multi) (course.keeps one two old same keeps) reads track (counts_from old same) error was stops

  -- ---- a read that succeeded

  module _ (found : Bool) (read : Scene) (reader' : Ahead) (reads : ReadsScript tells (Ok found) now read) (track : KeepsTrack tells (Ok found) reader reader' now read) where
    read_keeps : (one two : List ℕ) (old : Scene) → start.script ≡ old.script → KeepsPair tells one two old start (sessions_ended first.multi) begun → KeepsPair tells one two old read (sessions_ended pair.multi) marks
    read_keeps one two old same keeps =
        reading_keeps tells one two old now read (sessions_ended pair.multi) marks reader reader' (course.keeps one two old same keeps) reads track (counts_from old same)

    read_told : TellsRun tells → (one two : List ℕ) (old : Scene) (transcript : Transcript) → AtLine one two old now pair marks reader transcript → ToldPair one two old read pair.multi marks pair.clean transcript
    read_told told one two old transcript here = told_line tells told one two old now read pair marks reader reader' transcript here reads

    usable_after : AreUsable tells pair (bytes_left reader + 2) read
    usable_after = usable_read tells pair (bytes_left reader + 2) now read reads.frame course.usable

    -- there was no line more
    module _ (none : found ≡ false) (kept : Kept) (line : IsTrue tells.script → ReadsLine found kept reader reader' now read) where
      pub all_taken : TellsRun tells → (one two : List ℕ) (old : Scene) → start.script ≡ old.script → ArePlaced first [] → ToldPair one two old start first.multi begun first.clean [] → TookLines one two old read pair marks
      all_taken told one two old same placed here =
          let was = course.told told one two old same placed here in (
            was.0,
            lines_all tells told one two old now read pair marks reader reader' was.0 was.1 kept (subst (λ (b : Bool). ReadsLine b kept reader reader' now read) none (line told.script)),
            was.1.placed,
            read_told told one two old was.0 was.1,
          )

      pub all_usable : AreUsable tells pair 2 read
      all_usable = usable_fewer tells pair (bytes_left reader + 2) 2 read (omega arith) usable_after

      pub all_keeps : (one two : List ℕ) (old : Scene) → start.script ≡ old.script → KeepsPair tells one two old start (sessions_ended first.multi) begun → KeepsPair tells one two old read (sessions_ended pair.multi) marks
      all_keeps = read_keeps

    -- there was one, and it was taken
    module _ (some : found ≡ true) (kept : Kept) (line : IsTrue tells.script → ReadsLine found kept reader reader' now read) (some_open : (is_none pair.multi.one && is_none pair.multi.two) ≡ false) (fewer : bytes_left reader' < bytes_left reader)
        (room : kept.room ≡ max_line_bytes + 3) (bytes : List ℕ) (bytes_are : bytes ≡ kept.bytes) where
      pub line_usable : AreUsable tells pair ((bytes_left reader' + 2) + 1) read
      line_usable = usable_fewer tells pair (bytes_left reader + 2) ((bytes_left reader' + 2) + 1) read (omega arith) usable_after

      found_line : TellsRun tells → ReadsLine true kept reader reader' now read
      found_line told = subst (λ (b : Bool). ReadsLine b kept reader reader' now read) some (line told.script)

      module _ (r : Result (Unit {0}) Ending) (new : Scene) (pair' : Sessions) (marks' : List Mark)
          (answered : TellsRun tells → (one two : List ℕ) (old : Scene) (transcript : Transcript) (whole : List ℕ) → ArePlaced pair transcript → ToldPair one two old read pair.multi marks pair.clean transcript
          → Comes old.script transcript (Line whole) → bytes ≡ take (max_line_bytes + 3) whole → MatchResult r (λ _. HasNext one two old new pair' marks' transcript (Line whole)) (λ e. HasRunBoth one two old new e marks')) where
        line_told : (told : TellsRun tells) (one two : List ℕ) (old : Scene) → start.script ≡ old.script → (transcript : Transcript) → AtLine one two old now pair marks reader transcript
            → MatchResult r (λ _. HasNext one two old new pair' marks' transcript (Line (found_line told).line)) (λ e. HasRunBoth one two old new e marks')
        line_told told one two old same transcript here =
            let read_line = found_line told in
            let comes : Comes old.script transcript (Line read_line.line) =
            line_comes tells told one two old now read pair marks reader reader' transcript here reads kept read_line some_open (track.ended told.script)
            (counts_on fresh_reader reader reader' old now read (counts_from old same told.script) (track.counts told.script)) track.limit in
            answered told one two old transcript read_line.line here.placed (read_told told one two old transcript here) comes (bytes_are ∙ read_line.is_kept ∙ ap (λ (n : ℕ). take n read_line.line) room)

        pub line_cut : (e : Ending) → r ≡ Err e → TellsRun tells → (one two : List ℕ) (old : Scene) → start.script ≡ old.script → ArePlaced first [] → ToldPair one two old start first.multi begun first.clean []
            → HasRunBoth one two old new e marks'
        line_cut e is told one two old same placed here =
            let was = course.told told one two old same placed here in
            subst (λ (x : Result (Unit {0}) Ending). MatchResult x (λ _. HasNext one two old new pair' marks' was.0 (Line (found_line told).line)) (λ e. HasRunBoth one two old new e marks')) is
            (line_told told one two old same was.0 was.1)

        pub line_ends : (e : Ending) → r ≡ Err e
            → ((one two : List ℕ) (old : Scene) → KeepsPair tells one two old read (sessions_ended pair.multi) marks
            → MatchResult r (λ _. KeepsPair tells one two old new (sessions_ended pair'.multi) marks') (λ e. EndsPair tells one two old new e marks'))
            → (one two : List ℕ) (old : Scene) → start.script ≡ old.script → KeepsPair tells one two old start (sessions_ended first.multi) begun → EndsPair tells one two old new e marks'
        line_ends e is kept_by one two old same keeps =
            subst (λ (x : Result (Unit {0}) Ending). MatchResult x (λ _. KeepsPair tells one two old new (sessions_ended pair'.multi) marks') (λ e. EndsPair tells one two old new e marks')) is
            (kept_by one two old (read_keeps one two old same keeps))

        pub course_next : r ≡ Ok tt → new.script ≡ read.script
            → ((one two : List ℕ) (old : Scene) → KeepsPair tells one two old read (sessions_ended pair.multi) marks
            → MatchResult r (λ _. KeepsPair tells one two old new (sessions_ended pair'.multi) marks') (λ e. EndsPair tells one two old new e marks'))
            → AreUsable tells pair' (bytes_left reader' + 2) new → IsCourse tells start new first pair' begun marks' reader'
        course_next is script kept_by usable = record {
          told = λ told one two old same placed here.
              let was = course.told told one two old same placed here in
              let next : HasNext one two old new pair' marks' was.0 (Line (found_line told).line) =
              subst (λ (x : Result (Unit {0}) Ending). MatchResult x (λ _. HasNext one two old new pair' marks' was.0 (Line (found_line told).line)) (λ e. HasRunBoth one two old new e marks')) is
              (line_told told one two old same was.0 was.1) in
              (item (Line (found_line told).line) next.0 ∷ was.0, at_next one two old now read new pair pair' marks marks' reader reader' was.0 kept was.1 (found_line told) script next);
          keeps = λ one two old same keeps.
              subst (λ (x : Result (Unit {0}) Ending). MatchResult x (λ _. KeepsPair tells one two old new (sessions_ended pair'.multi) marks') (λ e. EndsPair tells one two old new e marks')) is
              (kept_by one two old (read_keeps one two old same keeps));
          seen = λ told is_ended. script ∙ track.ended told is_ended;
          counts = λ told. omega (arith, counts_on fresh_reader reader reader' start now read (course.counts told) (track.counts told), ap (λ (l : List ℕ). length l) script);
          usable = usable;
        }

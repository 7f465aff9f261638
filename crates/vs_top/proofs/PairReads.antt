-- Two sessions take the lines of one script: what was read is the lines of their transcript.
use Rattle.std.proofs.Common.{◌≡◌, inl, inr, ℕ, ◌+◌, ◌-◌, ◌<◌, ◌≤◌, Bool, true, false, ◌&&◌, List, [], ◌∷◌, ◌++◌, length, take, Option, Some, None, refl, sym, ap, ◌∙◌, arith}
use Rattle.std.proofs.lemmas.Bool.{and_from}
use Rattle.std.specs.Prelude.{is_none}
use Rattle.std.proofs.lemmas.Bool.Decides.{leb_tells}
use Rattle.std.proofs.Math.Seq.{take-append-add}
use Rattle.vs_host.specs.World.{Scene}
use Rattle.vs_text.specs.Text.{lines_of}
use Rattle.vs_script.specs.Ahead.{Ahead, CountsTaken, GoesOn, HasSeen, IsLeft, Kept, ReadsLine, Stops, lines_ahead, script_limit, whole_lines}
use Rattle.vs_script.specs.declared.feed.CommandFeed.{CommandFeed}
use Rattle.vs_script.specs.declared.reader.ScriptErr.{ScriptErr}
use Rattle.vs_script.proofs.Going.{goes_on_by, goes_on_in, goes_on_start, goes_on_twice, stops_by, stops_then}
use Rattle.vs_family.specs.declared.which.Which.TheVariants as which
use Rattle.vs_session.specs.declared.session.Session.{Session}
use Rattle.vs_top.specs.PairScript.{AreOver, Over, FeedPlace, Reads, Transcript, script_lines, feed_place}
use Rattle.vs_top.specs.PairTurns.{ArePlaced, FeedStandsAt}
use Rattle.vs_top.specs.declared.pair.Sessions.{Sessions}
use Rattle.vs_top.proofs.Reading.{fresh_reader, not_ended}

-- What a reader has read: `done` puts the lines that were read before others, and of what the reader took nothing else is known to be one.
pub record HasLines (reader : Ahead) (start now : Scene) (done : List (List ℕ) → List (List ℕ)) : Type 0 where
  pub ahead : lines_of start.script ≡ done (lines_ahead reader now)
  pub going : reader.ended ≡ false → GoesOn whole_lines (λ bytes. done (whole_lines bytes)) fresh_reader reader start now

-- nothing yet
pub lines_start : (start now : Scene) → now.script ≡ start.script → HasLines fresh_reader start now (λ rest. rest)
lines_start start now same = record {
  ahead = ap (λ (l : List ℕ). lines_of l) (sym same);
  going = λ going. goes_on_in whole_lines (λ bytes. whole_lines bytes) fresh_reader fresh_reader start start now (goes_on_start whole_lines fresh_reader start going) same;
}

-- one line more
pub lines_on : (reader reader' : Ahead) (start now between : Scene) (done : List (List ℕ) → List (List ℕ)) (kept : Kept) → HasLines reader start now done → (reads : ReadsLine true kept reader reader' now between)
    → HasLines reader' start between (λ rest. done (reads.line ∷ rest))
lines_on reader reader' start now between done kept has reads = record {
  ahead = has.ahead ∙ ap done reads.ahead;
  going = λ open_after.
      let step = (reads.whole open_after).1 in
      goes_on_twice whole_lines (λ bytes. done (whole_lines bytes)) (λ bytes. done (reads.line ∷ whole_lines bytes)) fresh_reader reader reader' start now between (has.going step.open_before)
      (goes_on_by done whole_lines (λ bytes. reads.line ∷ whole_lines bytes) reader reader' now between step);
}

-- in another scene with the same script
pub lines_in : (reader : Ahead) (start now scene : Scene) (done : List (List ℕ) → List (List ℕ)) → HasLines reader start now done → scene.script ≡ now.script → HasLines reader start scene done
lines_in reader start now scene done has same = record {
  ahead = has.ahead ∙ ap (λ (l : List ℕ). done (lines_of (reader.bytes ++ l))) (sym same);
  going = λ open_after. goes_on_in whole_lines (λ bytes. done (whole_lines bytes)) fresh_reader reader start now scene (has.going open_after) same;
}

-- what was read so far are first lines of the script within its limit
pub lines_first : (reader : Ahead) (start now : Scene) (done : List (List ℕ) → List (List ℕ)) → HasLines reader start now done → HasSeen reader now → CountsTaken fresh_reader reader start now → reader.taken ≤ script_limit
    → (rest : List (List ℕ)) × (script_lines start.script ≡ done rest)
lines_first reader start now done has seen counts limit = elim (leb_tells (length start.script) script_limit) [
  | inl small ↦ (lines_ahead reader now, rw small.0 has.ahead)
  | inr large ↦
      let some : 0 < length now.script = omega (arith, large.1, counts, limit) in
      let going = has.going (not_ended reader now reader.ended refl seen some) in
      let more : ℕ = script_limit - length going.fresh in
      let size : reader.taken ≡ length going.fresh = going.count ∙ omega arith in
      let sum : script_limit ≡ length going.fresh + more = omega (arith, size, limit) in
      let front : take script_limit start.script ≡ going.fresh ++ take more now.script =
      ap (λ (l : List ℕ). take script_limit l) going.script ∙ ap (λ k. take k (going.fresh ++ now.script)) sum ∙ take-append-add going.fresh now.script more in
      (whole_lines (reader.bytes ++ take more now.script), rw large.0 (ap whole_lines front ∙ going.each (take more now.script)))
]

-- where a reader stops, the lines that were answered are those that were whole in what it took
pub record StoppedLines (error : ScriptErr) (old after : Scene) (reader' : Ahead) (done : List (List ℕ) → List (List ℕ)) : Type 0 where
  pub taken : List ℕ
  pub left : List ℕ
  pub is_left : IsLeft error left reader' after
  pub script : old.script ≡ taken ++ left
  pub count : reader'.taken ≡ length taken
  pub whole : done [] ≡ whole_lines taken

pub lines_stopped : (error : ScriptErr) (old now after : Scene) (reader reader' : Ahead) (done : List (List ℕ) → List (List ℕ)) → HasLines reader old now done → Stops error whole_lines [] reader reader' now after
    → StoppedLines error old after reader' done
lines_stopped error old now after reader reader' done has stop =
    let stops = stops_then error whole_lines (λ bytes. done (whole_lines bytes)) (done []) fresh_reader reader reader' old now after (has.going stop.open_before)
    (stops_by done error whole_lines [] reader reader' now after stop) in
    let zero : 0 + length stops.fresh ≡ length stops.fresh = omega arith in
    record {
      taken = stops.fresh;
      left = stops.left;
      is_left = stops.is_left;
      script = stops.script;
      count = stops.count ∙ zero;
      whole = sym stops.value_is;
    }

-- ---- the places

placed_over : (session : Option Session) (feed : CommandFeed) (place : FeedPlace) → FeedStandsAt session feed place → is_none session ≡ true → place ≡ Over
placed_over None feed Over stands none = refl
placed_over None feed (Reads reading) stands none = absurd stands
placed_over (Some s) feed place stands none = absurd (cc)

over_none : (session : Option Session) (feed : CommandFeed) (place : FeedPlace) → FeedStandsAt session feed place → place ≡ Over → is_none session ≡ true
over_none None feed place stands over = refl
over_none (Some s) feed Over stands over = absurd stands
over_none (Some s) feed (Reads reading) stands over = absurd (cc)

and_left : (a b : Bool) → (a && b) ≡ true → a ≡ true
and_left true b is = refl
and_left false b is = absurd (cc)

and_right : (a b : Bool) → (a && b) ≡ true → b ≡ true
and_right true b is = is
and_right false b is = absurd (cc)

-- both sessions have ended where the run says so
pub over_by : (pair : Sessions) (transcript : Transcript) → ArePlaced pair transcript → (is_none pair.multi.one && is_none pair.multi.two) ≡ true → AreOver transcript
over_by pair transcript placed is = (
  placed_over pair.multi.one pair.one (feed_place which.One transcript) (placed which.One) (and_left (is_none pair.multi.one) (is_none pair.multi.two) is),
  placed_over pair.multi.two pair.two (feed_place which.Two transcript) (placed which.Two) (and_right (is_none pair.multi.one) (is_none pair.multi.two) is),
)

pub not_over_by : (pair : Sessions) (transcript : Transcript) → ArePlaced pair transcript → (is_none pair.multi.one && is_none pair.multi.two) ≡ false → ¬ AreOver transcript
not_over_by pair transcript placed is over =
    let both = and_from (is_none pair.multi.one) (is_none pair.multi.two)
    (over_none pair.multi.one pair.one (feed_place which.One transcript) (placed which.One) over.0)
    (over_none pair.multi.two pair.two (feed_place which.Two transcript) (placed which.Two) over.1) in
    Rattle.std.proofs.lemmas.Bool.true≢false (sym both ∙ is)

-- What a store, its marks and what was done so far are, while nested commands are carried out.
use Rattle.std.specs.Prelude.{ℕ, Bool, false, ◌≡◌, ◌+◌, ◌-◌, ◌<◌, ◌≤◌, ◌^◌, ⊤, if◌then◌else◌, nat_lt, List, ◌++◌, All, length, take, drop, Option, Some}
use Rattle.std.specs.Prelude.{None, Result, Ok, Err}
use Rattle.vs_edit.specs.declared.store.LineStore.{Ghosts}
use Rattle.vs_text.specs.Text.{bytes_of}
use Rattle.vs_text.specs.Limits.{IsShort}
use Rattle.vs_text.specs.declared.TheConstants.{MAX_LINES, MAX_TEXT_BYTES}
use Rattle.vs_edit.specs.Splices.{splice, cut_out}
use Rattle.vs_exparse.specs.Command.{Command}
use Rattle.vs_exparse.specs.declared.command.ExErr.{ExErr}
use Rattle.vs_excmd.specs.declared.answer.Plan.{Plan}
use Rattle.vs_excmd.specs.declared.answer.Plan.TheVariants as plan
use Rattle.vs_excmd.specs.declared.answer.PlanErr.{PlanErr}
use Rattle.vs_excmd.specs.declared.answer.PlanErr.TheVariants as error
use Rattle.vs_excmd.specs.declared.place.Place.{Place}
use Rattle.vs_excmd.specs.Answer.{effect_of}
use Rattle.vs_excmd.specs.Change.{Effect, before, lines_in, size_of}
use Rattle.vs_marks.specs.Marks.{IsSound, lines_of, marks_after}
use Rattle.vs_marks.specs.declared.marks.Marks.{Marks}
use Rattle.vs_global.specs.declared.run.Run.{Run}
use Rattle.vs_global.specs.declared.run.Untouched.{Untouched}
use Rattle.vs_global.specs.Global.{Marked, all_marked, carried_out, come_to, is_E486, places}

-- The answer is what was found at some place, or that there was no memory, or that the store failed.
abbrev pub Finds : Result (Place × Effect) ExErr → Result Plan PlanErr → Type 0
Finds meant (Ok plan) = (place : Place) × (meant ≡ Ok (place, effect_of plan))
Finds meant (Err (error.Ex e)) = meant ≡ Err e
Finds meant (Err error.NoMemory) = ⊤
Finds meant (Err error.Failed) = ⊤

-- ---- moves

-- the lines from a span to its destination, once they have changed places
abbrev pub moved_between : List (List ℕ) → Place → List (List ℕ)
moved_between text place =
    let span = place.lines in
    if nat_lt place.to (before span) then lines_in text span ++ cut_out text place.to (before span - place.to)
    else cut_out text span.last (place.to - span.last) ++ lines_in text span

-- the marked lines after lines were moved
abbrev pub lines_moved : Place → List ℕ → List ℕ
lines_moved place lines = marks_after (come_to place) 0 (size_of place.lines) (marks_after (before place.lines) (size_of place.lines) 0 lines)

-- ---- marks

-- Marks have room for a splice.
pub record HasLead (marks : Marks) : Type 0 where
  pub low : 2 ^ 25 ≤ marks.lead
  pub high : marks.lead < 2 ^ 59

-- A splice or two change the lead by so much at most.
pub record NearLead (old new : Marks) : Type 0 where
  pub low : old.lead ≤ new.lead + 2 ^ 24
  pub high : new.lead ≤ old.lead + 2 ^ 24

-- ---- what no splice has touched

-- So many lines at the front and at the end of two texts are the same.
pub record SameEnds (lo tail : ℕ) (start now : List (List ℕ)) : Type 0 where
  pub in_start : lo + tail ≤ length start
  pub in_now : lo + tail ≤ length now
  pub front : take lo now ≡ take lo start
  pub back : drop (length now - tail) now ≡ drop (length start - tail) start

-- One text has come of another by splices that left this untouched; it is the same where there was none.
abbrev pub Covers : Option Untouched → List (List ℕ) → List (List ℕ) → Type 0
Covers None start now = start ≡ now
Covers (Some made) start now = SameEnds made.lo made.tail start now

-- The untouched lines stand in texts with these numbers of lines.
abbrev pub StaysWithin : Option Untouched → ℕ → ℕ → Type 0
StaysWithin None start now = start ≡ now
StaysWithin (Some made) start now = (made.lo + made.tail ≤ start) × (made.lo + made.tail ≤ now)

-- Untouched lines that stood within texts with these numbers of lines go on to do so.
abbrev pub KeepsEnds : Option Untouched → ℕ → Option Untouched → ℕ → Type 0
KeepsEnds made lines later_made later_lines = (start : ℕ) → StaysWithin made start lines → StaysWithin later_made start later_lines

-- The text of a store has come of another so.
abbrev pub WasText : {S : Type 0} → Ghosts S → S → Option Untouched → List (List ℕ) → Type 0
WasText g view made start = (now : List (List ℕ)) × (g.shows view).present.Is now × Covers made start now

-- Lines are to come in the place of others in a text with so many lines, which has room for them.
pub record HasPlace (lines top old : ℕ) (new : List (List ℕ)) : Type 0 where
  pub within : top + old ≤ lines
  pub few_lines : lines + length new ≤ MAX_LINES + old
  pub short_lines : All IsShort new

-- A text with so many lines, of which that of a store has come, may be changed as planned.
abbrev pub AllowsFrom : {S : Type 0} → Ghosts S → S → ℕ → Option Untouched → Plan → Type 0
AllowsFrom g view lines made plan.NoChange = ⊤
AllowsFrom g view lines made (plan.Splice top old new cursor) =
    HasPlace lines top old new.items
    × ((start : List (List ℕ)) → lines ≡ length start → WasText g view made start → bytes_of (splice start top old new.items) ≤ MAX_TEXT_BYTES)

-- ---- one command after the other

-- The store may be used, and the marks are those of a text with as many lines.
pub record IsReady {S : Type 0} (g : Ghosts S) (view : S) (marks : Marks) : Type 0 where
  pub valid : g.valid view
  pub sound : IsSound marks
  pub count : marks.lines ≡ (g.shows view).present.lines

-- The store, the marks and what was done so far are at this point.
pub record IsAt {S : Type 0} (g : Ghosts S) (view : S) (marks : Marks) (run : Run) (at : Marked) : Type 0 where
  pub text : (g.shows view).present.Is at.text
  pub marked : lines_of marks ≡ places 0 at.marks
  pub size : length at.marks ≡ length at.text
  pub made : run.made ≡ at.made
  pub cursor : run.cursor ≡ at.cursor

-- These are the numbers of marked lines of a text.
pub record HasMarks (text : List (List ℕ)) (lines : List ℕ) : Type 0 where
  pub marks : List Bool
  pub size : length marks ≡ length text
  pub are : lines ≡ places 0 marks

-- These are the numbers of the lines of a text that are marked, as it is meant.
pub record AreMarked (meant : Result (List Bool) ExErr) (text : List (List ℕ)) (lines : List ℕ) : Type 0 where
  pub has : HasMarks text lines
  pub is : meant ≡ Ok has.marks

-- What had come of a text goes on to do so.
abbrev pub StillCovers : Marked → Marked → Type 0
StillCovers old new = (start : List (List ℕ)) → Covers old.made start old.text → Covers new.made start new.text

-- The command comes to this point from another.
pub record CarriedTo {S : Type 0} (g : Ghosts S) (command : Command) (from : Marked) (view : S) (marks : Marks) (run : Run) : Type 0 where
  pub after : Marked
  pub is : carried_out command from ≡ Ok after
  pub at : IsAt g view marks run after
  pub covers : StillCovers from after

-- An error is the one that is meant, or that there was no memory, or that the store failed.
abbrev pub IsRefused : {X : Type 0} → Result X ExErr → PlanErr → Type 0
IsRefused meant (error.Ex e) = meant ≡ Err e
IsRefused meant error.NoMemory = ⊤
IsRefused meant error.Failed = ⊤

-- From each point at which they were, the command at this line leads to the one at which they are, or is refused so.
abbrev pub Carries : {S : Type 0} → Ghosts S → Command → ℕ → S → Marks → Run → S → Marks → Run → Type 0
Carries g command line view marks run later_view later_marks later_run =
    (at : Marked) → IsAt g view marks run at → CarriedTo g command (record at { cursor = line + 1 }) later_view later_marks later_run

-- A command at a line is refused with this error, as the definition refuses it.
abbrev pub Refuses : {S : Type 0} → Ghosts S → Command → ℕ → S → Marks → Run → PlanErr → Type 0
Refuses g command line view marks run error =
    (at : Marked) → IsAt g view marks run at → IsRefused (carried_out command (record at { cursor = line + 1 })) error

-- an error that is not E486
abbrev pub IsOther : PlanErr → Type 0
IsOther (error.Ex e) = is_E486 e ≡ false
IsOther error.NoMemory = ⊤
IsOther error.Failed = ⊤

-- After some turns there is this point, from which as many turns as are left lead where all of them lead from the first.
pub record Reaches {S : Type 0} (g : Ghosts S) (command : Command) (count left : ℕ) (start : Marked) (view : S) (marks : Marks) (run : Run) : Type 0 where
  pub now : Marked
  pub at : IsAt g view marks run now
  pub rest : all_marked left command now ≡ all_marked count command start
  pub covers : StillCovers start now

-- All turns lead to this point.
pub record Ends {S : Type 0} (g : Ghosts S) (command : Command) (count : ℕ) (start : Marked) (view : S) (marks : Marks) (run : Run) : Type 0 where
  pub after : Marked
  pub is : all_marked count command start ≡ Ok after
  pub at : IsAt g view marks run after
  pub covers : StillCovers start after

-- The meaning of the commands of the text: what each does with its block, a text and a cursor.
use Rattle.std.specs.Prelude.{ℕ, Bool, true, false, ◌-◌, List, length, None, Result, Ok}
use Rattle.vs_exparse.specs.Command.{Command}
use Rattle.vs_exparse.specs.Command.Command.{Append, Insert, Change, Delete, Move, CopyTo, T, Join, Substitute, Print, Number, Equals, Undo, Redo, Earlier}
use Rattle.vs_exparse.specs.Command.Command.{Later, UndoList, Write, Preserve, Quit, Set, WriteUndo, ReadUndo, Global}
use Rattle.vs_exparse.specs.Nested.{nested_meaning}
use Rattle.vs_exparse.specs.declared.command.ExErr.{ExErr}
use Rattle.vs_excmd.specs.declared.place.Place.{Place}
use Rattle.vs_excmd.specs.Errors.{on}
use Rattle.vs_excmd.specs.Place.{place_of}
use Rattle.vs_excmd.specs.Change.{Effect, before, size_of, deleted, exchanged, moved, copied, bounded}
use Rattle.vs_excmd.specs.Join.{addresses_of, joined}
use Rattle.vs_excmd.specs.Substitute.{substituted}

-- what a command does at its place, before the limits of a text are looked at
abbrev pub effect : Command → List (List ℕ) → List (List ℕ) → Place → Result Effect ExErr
effect (Append range) block text place = Ok (exchanged (length text) place.lines.last 0 block)
effect (Insert range) block text place = Ok (exchanged (length text) (place.lines.last - 1) 0 block)
effect (Change range) block text place = Ok (exchanged (length text) (before place.lines) (size_of place.lines) block)
effect (Delete range count) block text place = Ok (deleted (length text) (before place.lines) (size_of place.lines))
effect (Move range to) block text place = Ok (moved text place)
effect (CopyTo range to) block text place = Ok (copied text place)
effect (T range to) block text place = Ok (copied text place)
effect (Join range bang count) block text place = Ok (joined bang (addresses_of range count) text place.lines)
effect (Substitute range pattern replacement all) block text place = substituted pattern replacement all text place.lines
effect (Print range count) block text place = Ok None
effect (Number range count) block text place = Ok None
effect (Equals range) block text place = Ok None
effect (Undo number) block text place = Ok None
effect Redo block text place = Ok None
effect (Earlier by writes) block text place = Ok None
effect (Later by writes) block text place = Ok None
effect UndoList block text place = Ok None
effect (Write bang) block text place = Ok None
effect Preserve block text place = Ok None
effect (Quit bang) block text place = Ok None
effect (Set setting) block text place = Ok None
effect WriteUndo block text place = Ok None
effect ReadUndo block text place = Ok None
effect (Global range invert pattern nested) block text place = Ok None

-- The meaning of a command of the text: an error, no change, or a change. E493, E16 and E134 come of its place, and before
-- all others; then E486, LineTooLong and TextFull.
abbrev pub planned : Command → List (List ℕ) → List (List ℕ) → ℕ → Result Effect ExErr
planned command block text cursor = on (place_of command (length text) cursor) (λ place. bounded text (effect command block text place))

-- the commands of the text that have a meaning of their own
abbrev pub changes_text : Command → Bool
changes_text (Append range) = true
changes_text (Insert range) = true
changes_text (Change range) = true
changes_text (Delete range count) = true
changes_text (Move range to) = true
changes_text (CopyTo range to) = true
changes_text (T range to) = true
changes_text (Join range bang count) = true
changes_text (Substitute range pattern replacement all) = true
changes_text (Print range count) = false
changes_text (Number range count) = false
changes_text (Equals range) = false
changes_text (Undo number) = false
changes_text Redo = false
changes_text (Earlier by writes) = false
changes_text (Later by writes) = false
changes_text UndoList = false
changes_text (Write bang) = false
changes_text Preserve = false
changes_text (Quit bang) = false
changes_text (Set setting) = false
changes_text WriteUndo = false
changes_text ReadUndo = false
changes_text (Global range invert pattern nested) = false

-- the commands of the text: those, and the global commands that carry one of them out
abbrev pub is_text_command : Command → Bool
is_text_command (Global range invert pattern nested) = changes_text (nested_meaning nested)
is_text_command command = changes_text command

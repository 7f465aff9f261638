-- Commands as they were written, with their bytes as lists.
use Rattle.std.specs.Prelude.{ℕ, Bool, true, false, List, Option, Some, None, Result, Ok, Err, ◌≤◌, IfSome}
use Rattle.vs_exparse.specs.declared.command.Address.{Address}
use Rattle.vs_exparse.specs.declared.command.Range.{Range}
use Rattle.vs_exparse.specs.declared.command.Setting.{Setting}
use Rattle.vs_exparse.specs.declared.command.ExErr.{ExErr}
use Rattle.vs_exparse.specs.declared.command.Command as borrowed
use Rattle.vs_exparse.specs.declared.command.Command.TheVariants as code
use Rattle.vs_exparse.specs.declared.command.Parsed.{Parsed}
use Rattle.vs_exparse.specs.declared.command.Parsed.TheVariants as parsed

-- a command, in the order of the table of names
pub data Command : Type 0 where
  Append : Range → Command
  Insert : Range → Command
  Change : Range → Command
  Delete : Range → Option ℕ → Command
  Move : Range → Address → Command
  CopyTo : Range → Address → Command
  T : Range → Address → Command
  Join : Range → Bool → Option ℕ → Command
  Substitute : Range → List ℕ → List ℕ → Bool → Command
  Print : Range → Option ℕ → Command
  Number : Range → Option ℕ → Command
  Equals : Range → Command
  Undo : Option ℕ → Command
  Redo : Command
  Earlier : ℕ → Bool → Command
  Later : ℕ → Bool → Command
  UndoList : Command
  Write : Bool → Command
  Preserve : Command
  Quit : Bool → Command
  Set : Setting → Command
  WriteUndo : Command
  ReadUndo : Command
  Global : Range → Bool → List ℕ → List ℕ → Command

-- the command that one which borrows from its line stands for
abbrev pub command_of : borrowed.Command → Command
command_of (code.Append range) = Append range
command_of (code.Insert range) = Insert range
command_of (code.Change range) = Change range
command_of (code.Delete range count) = Delete range count
command_of (code.Move range to) = Move range to
command_of (code.CopyTo range to) = CopyTo range to
command_of (code.T range to) = T range to
command_of (code.Join range bang count) = Join range bang count
command_of (code.Substitute range pattern replacement all) = Substitute range pattern.now replacement.now all
command_of (code.Print range count) = Print range count
command_of (code.Number range count) = Number range count
command_of (code.Equals range) = Equals range
command_of (code.Undo number) = Undo number
command_of code.Redo = Redo
command_of (code.Earlier by writes) = Earlier by writes
command_of (code.Later by writes) = Later by writes
command_of code.UndoList = UndoList
command_of (code.Write bang) = Write bang
command_of code.Preserve = Preserve
command_of (code.Quit bang) = Quit bang
command_of (code.Set setting) = Set setting
command_of code.WriteUndo = WriteUndo
command_of code.ReadUndo = ReadUndo
command_of (code.Global range invert pattern nested) = Global range invert pattern.now nested.now

-- what `parse` answered: no command, a command, or an error
abbrev pub answer_of : Result Parsed ExErr → Result (Option Command) ExErr
answer_of (Err error) = Err error
answer_of (Ok parsed.Nothing) = Ok None
answer_of (Ok (parsed.Command command)) = Ok (Some (command_of command))

abbrev pub result_of : Result borrowed.Command ExErr → Result Command ExErr
result_of (Err error) = Err error
result_of (Ok command) = Ok (command_of command)

-- a count that was given is at least 1
abbrev pub HasCount : Option ℕ → Type 0
HasCount count = IfSome count (λ n. 1 ≤ n)

-- whether the lines after a command belong to it, up to a dot
abbrev pub wants_block : Command → Bool
wants_block (Append range) = true
wants_block (Insert range) = true
wants_block (Change range) = true
wants_block (Delete range count) = false
wants_block (Move range to) = false
wants_block (CopyTo range to) = false
wants_block (T range to) = false
wants_block (Join range bang count) = false
wants_block (Substitute range pattern replacement all) = false
wants_block (Print range count) = false
wants_block (Number range count) = false
wants_block (Equals range) = false
wants_block (Undo number) = false
wants_block Redo = false
wants_block (Earlier by writes) = false
wants_block (Later by writes) = false
wants_block UndoList = false
wants_block (Write bang) = false
wants_block Preserve = false
wants_block (Quit bang) = false
wants_block (Set setting) = false
wants_block WriteUndo = false
wants_block ReadUndo = false
wants_block (Global range invert pattern nested) = false

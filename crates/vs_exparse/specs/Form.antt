-- What holds of the arguments of each command that was read.
use Rattle.std.specs.Prelude.{◌≤◌, IsTrue, ⊤}
use Rattle.vs_exparse.specs.Argument.{max_levels}
use Rattle.vs_exparse.specs.Command.{Command, HasCount}
use Rattle.vs_exparse.specs.Command.Command.{Append, Insert, Change, Delete, Move, CopyTo, T, Join, Substitute, Print, Number, Equals, Undo, Redo, Earlier}
use Rattle.vs_exparse.specs.Command.Command.{Later, UndoList, Write, Preserve, Quit, Set, WriteUndo, ReadUndo, Global}
use Rattle.vs_exparse.specs.Nested.{IsNestedLine}
use Rattle.vs_exparse.specs.Pieces.{is_pattern, is_replacement}
use Rattle.vs_exparse.specs.declared.command.Setting.{Setting}
use Rattle.vs_exparse.specs.declared.command.Setting.TheVariants as set

-- the value of an option is one that it may have
abbrev pub HasSettingForm : Setting → Type 0
HasSettingForm (set.Backup on) = ⊤
HasSettingForm (set.WriteBackup on) = ⊤
HasSettingForm (set.UndoFile on) = ⊤
HasSettingForm set.CopyYes = ⊤
HasSettingForm set.CopyNo = ⊤
HasSettingForm set.CopyAuto = ⊤
HasSettingForm set.Unix = ⊤
HasSettingForm set.Dos = ⊤
HasSettingForm (set.UndoLevels levels) = (1 ≤ levels) × (levels ≤ max_levels)

-- what holds of the arguments of each command that was read
abbrev pub HasForm : Command → Type 0
HasForm (Append range) = ⊤
HasForm (Insert range) = ⊤
HasForm (Change range) = ⊤
HasForm (Delete range count) = HasCount count
HasForm (Move range to) = ⊤
HasForm (CopyTo range to) = ⊤
HasForm (T range to) = ⊤
HasForm (Join range bang count) = HasCount count
HasForm (Substitute range pattern replacement all) = IsTrue (is_pattern pattern) × IsTrue (is_replacement replacement)
HasForm (Print range count) = HasCount count
HasForm (Number range count) = HasCount count
HasForm (Equals range) = ⊤
HasForm (Undo number) = ⊤
HasForm Redo = ⊤
HasForm (Earlier by writes) = 1 ≤ by
HasForm (Later by writes) = 1 ≤ by
HasForm UndoList = ⊤
HasForm (Write bang) = ⊤
HasForm Preserve = ⊤
HasForm (Quit bang) = ⊤
HasForm (Set setting) = HasSettingForm setting
HasForm WriteUndo = ⊤
HasForm ReadUndo = ⊤
HasForm (Global range invert pattern nested) = IsTrue (is_pattern pattern) × IsNestedLine nested

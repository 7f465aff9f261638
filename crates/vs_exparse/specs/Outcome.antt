-- What each command takes as its argument.
use Rattle.std.specs.Prelude.{ℕ, Bool, true, List, [], ◌∷◌, Option, Some, None, option_map}
use Rattle.vs_exparse.specs.Argument.{no_argument_errors, number_in, count_errors, change_errors, destination_of, destination_errors, in_writes, steps_of}
use Rattle.vs_exparse.specs.Argument.{steps_errors, pattern_of, replacement_of, replaces_all, substitute_errors, setting_of, set_errors}
use Rattle.vs_exparse.specs.Command.{Command}
use Rattle.vs_exparse.specs.Command.Command.{Append, Insert, Change, Delete, Move, CopyTo, T, Join, Substitute, Print, Number, Equals, Undo, Redo, Earlier}
use Rattle.vs_exparse.specs.Command.Command.{Later, UndoList, Write, Preserve, Quit, Set, WriteUndo, ReadUndo}
use Rattle.vs_exparse.specs.declared.command.Address.{Address}
use Rattle.vs_exparse.specs.declared.command.Range.{Range}
use Rattle.vs_exparse.specs.declared.command.ExErr.{ExErr}
use Rattle.vs_exparse.specs.declared.command.ExErr.TheVariants.{E147}
use Rattle.vs_exparse.specs.declared.words.Word.{Word}
use Rattle.vs_exparse.specs.declared.words.Word.TheVariants as word

-- the errors of an argument, in their order, and the command where none of them comes
pub record Outcome : Type 0 where
  pub errors : List (ExErr × Bool)
  pub command : Option Command

abbrev pub without_argument : Command → List ℕ → Outcome
without_argument command argument = record { errors = no_argument_errors argument; command = Some command }

abbrev pub with_count : (Option ℕ → Command) → List ℕ → Outcome
with_count command argument = record { errors = count_errors argument; command = Some (command (number_in argument)) }

abbrev pub with_change_number : (Option ℕ → Command) → List ℕ → Outcome
with_change_number command argument = record { errors = change_errors argument; command = Some (command (number_in argument)) }

abbrev pub with_destination : (Address → Command) → List ℕ → Outcome
with_destination command argument = record { errors = destination_errors argument; command = option_map command (destination_of argument) }

abbrev pub with_steps : (ℕ → Bool → Command) → List ℕ → Outcome
with_steps command argument = record { errors = steps_errors argument; command = Some (command (steps_of argument) (in_writes argument)) }

abbrev pub with_substitution : Range → List ℕ → Outcome
with_substitution range argument = record {
  errors = substitute_errors argument;
  command = Some (Substitute range (pattern_of argument) (replacement_of argument) (replaces_all argument));
}

abbrev pub with_setting : List ℕ → Outcome
with_setting argument = record { errors = set_errors argument; command = option_map Set (setting_of argument) }

-- a command that is never read
abbrev pub refused_by : ExErr → List ℕ → Outcome
refused_by error argument = record { errors = (error, true) ∷ []; command = None }

-- What each word takes as its argument, but for those of the global command. Inside of one, they are refused.
abbrev pub single_outcome : Word → Range → Bool → List ℕ → Outcome
single_outcome word.Append range bang = without_argument (Append range)
single_outcome word.Insert range bang = without_argument (Insert range)
single_outcome word.Change range bang = without_argument (Change range)
single_outcome word.Delete range bang = with_count (Delete range)
single_outcome word.Move range bang = with_destination (Move range)
single_outcome word.Copy range bang = with_destination (CopyTo range)
single_outcome word.T range bang = with_destination (T range)
single_outcome word.Join range bang = with_count (Join range bang)
single_outcome word.Substitute range bang = with_substitution range
single_outcome word.Print range bang = with_count (Print range)
single_outcome word.Number range bang = with_count (Number range)
single_outcome word.Equals range bang = without_argument (Equals range)
single_outcome word.Undo range bang = with_change_number Undo
single_outcome word.Redo range bang = without_argument Redo
single_outcome word.Earlier range bang = with_steps Earlier
single_outcome word.Later range bang = with_steps Later
single_outcome word.UndoList range bang = without_argument UndoList
single_outcome word.Write range bang = without_argument (Write bang)
single_outcome word.Preserve range bang = without_argument Preserve
single_outcome word.Quit range bang = without_argument (Quit bang)
single_outcome word.Set range bang = with_setting
single_outcome word.WriteUndo range bang = without_argument WriteUndo
single_outcome word.ReadUndo range bang = without_argument ReadUndo
single_outcome word.Global range bang = refused_by E147
single_outcome word.VGlobal range bang = refused_by E147

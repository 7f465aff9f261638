-- The lines that a global command carries out: a command line inside of another.
use Rattle.std.specs.Prelude.{ℕ, Bool, true, false, ◌≡◌, not, if◌then◌else◌, List, [], ◌∷◌, ◌++◌, codes, Option, Some, None, is_some, unwrap_or, IsTrue}
use Rattle.vs_exparse.specs.Bytes.{begins, is_empty}
use Rattle.vs_exparse.specs.Command.{Command, wants_block}
use Rattle.vs_exparse.specs.Command.Command.{Delete, Move, CopyTo, T, Join, Substitute, Print, Number}
use Rattle.vs_exparse.specs.Errors.{first_error}
use Rattle.vs_exparse.specs.Names.{rule_of}
use Rattle.vs_exparse.specs.Outcome.{single_outcome}
use Rattle.vs_exparse.specs.Parts.{Parts, parts_of, start_of}
use Rattle.vs_exparse.specs.Rules.{outcome_by, rule_errors}
use Rattle.vs_exparse.specs.declared.command.ExErr.{ExErr}
use Rattle.vs_exparse.specs.declared.command.ExErr.TheVariants.{E147, NotNested}
use Rattle.vs_exparse.specs.declared.command.Range.TheVariants as range
use Rattle.vs_exparse.specs.declared.words.Rule.{Rule}
use Rattle.vs_exparse.specs.declared.words.Word.{Word}
use Rattle.vs_exparse.specs.declared.words.Word.TheVariants as word

-- which lines a global command takes: true for those that do not match. Any other word has none.
abbrev pub inverted : Word → Bool → Option Bool
inverted word.Global bang = Some bang
inverted word.VGlobal bang = Some true
inverted word bang = None

-- the words that may stand inside of a global command
abbrev pub is_nested_word : Word → Bool
is_nested_word word.Delete = true
is_nested_word word.Move = true
is_nested_word word.Copy = true
is_nested_word word.T = true
is_nested_word word.Join = true
is_nested_word word.Substitute = true
is_nested_word word.Print = true
is_nested_word word.Number = true
is_nested_word word = false

abbrev pub names_global : Option Rule → Bool
names_global None = false
names_global (Some rule) = is_some (inverted rule.word false)

-- a known command that may not stand there
abbrev pub names_other : Option Rule → Bool
names_other None = false
names_other (Some rule) = not (is_nested_word rule.word)

-- the errors of a nested word; one that is unknown has its own
abbrev pub nesting_errors : List ℕ → List (ExErr × Bool)
nesting_errors word =
    (E147, names_global (rule_of word))
    ∷ (NotNested, names_other (rule_of word))
    ∷ []

-- the errors of what a command by itself takes as its argument
abbrev pub single_errors : Parts → List (ExErr × Bool)
single_errors parts = (outcome_by single_outcome (rule_of parts.word) parts).errors

abbrev pub single_command : Parts → Option Command
single_command parts = (outcome_by single_outcome (rule_of parts.word) parts).command

-- the errors of a nested line with these parts, in their order
abbrev pub nested_parts_errors : Parts → List (ExErr × Bool)
nested_parts_errors parts = nesting_errors parts.word ++ (rule_errors parts ++ single_errors parts)

-- Nothing after the first blanks and colons is no error. A comment may not stand there.
abbrev pub nested_errors_at : List ℕ → List (ExErr × Bool)
nested_errors_at start =
    if is_empty start then []
    else (NotNested, begins (codes "\"") start) ∷ nested_parts_errors (parts_of start)

abbrev pub nested_errors : List ℕ → List (ExErr × Bool)
nested_errors nested = nested_errors_at (start_of nested)

-- `p` of the current line
abbrev pub print_here : Command
print_here = Print range.Absent None

-- Nothing after the first blanks and colons prints the current line.
abbrev pub nested_command_at : List ℕ → Option Command
nested_command_at start = if is_empty start then Some print_here else single_command (parts_of start)

abbrev pub nested_command : List ℕ → Option Command
nested_command nested = nested_command_at (start_of nested)

-- the command that a nested line stands for; one that is refused prints
abbrev pub nested_meaning : List ℕ → Command
nested_meaning nested = unwrap_or (nested_command nested) print_here

-- a nested line that is not refused
abbrev pub IsNestedLine : List ℕ → Type 0
IsNestedLine nested = first_error (nested_errors nested) ≡ None

-- the commands that a global command carries out
abbrev pub is_nested : Command → Bool
is_nested (Delete range count) = true
is_nested (Move range to) = true
is_nested (CopyTo range to) = true
is_nested (T range to) = true
is_nested (Join range bang count) = true
is_nested (Substitute range pattern replacement all) = true
is_nested (Print range count) = true
is_nested (Number range count) = true
is_nested command = false

-- A command is one of those, and so takes no block.
pub record IsNested (command : Command) : Type 0 where
  pub kept : IsTrue (is_nested command)
  pub no_block : wants_block command ≡ false

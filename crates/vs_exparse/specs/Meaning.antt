-- What a command line means: no command, a command, or the first error of its order.
use Rattle.std.specs.Prelude.{ℕ, Bool, true, false, ◌≡◌, ◌&&◌, ◌||◌, not, if◌then◌else◌, nat_lt, List, ◌∷◌, ◌++◌, length, codes, Option, Some, None}
use Rattle.std.specs.Prelude.{is_none, Result, Ok, Err, IsTrue}
use Rattle.vs_exparse.specs.Bytes.{max_line_bytes, begins, is_empty}
use Rattle.vs_exparse.specs.Errors.{first_error, refused_or}
use Rattle.vs_exparse.specs.Names.{rule_of}
use Rattle.vs_exparse.specs.Parts.{start_of, Parts, parts_of}
use Rattle.vs_exparse.specs.Command.{Command, command_of}
use Rattle.vs_exparse.specs.Global.{outcome_of}
use Rattle.vs_exparse.specs.Rules.{outcome_by, rule_errors}
use Rattle.vs_exparse.specs.declared.command.ExErr.{ExErr}
use Rattle.vs_exparse.specs.declared.command.ExErr.TheVariants.{LineTooLong}
use Rattle.vs_exparse.specs.declared.command.Parsed.{Parsed}
use Rattle.vs_exparse.specs.declared.command.Parsed.TheVariants as parsed

-- the errors of a command line, in their order
abbrev pub errors_of : Bool → Parts → List (ExErr × Bool)
errors_of too_long parts = (LineTooLong, too_long) ∷ (rule_errors parts ++ (outcome_by outcome_of (rule_of parts.word) parts).errors)

-- the command of a line that has no error
abbrev pub command_from : Parts → Option Command
command_from parts = (outcome_by outcome_of (rule_of parts.word) parts).command

-- nothing stands after the first blanks and colons, or a comment does
abbrev pub is_no_command_at : List ℕ → Bool
is_no_command_at start = is_empty start || begins (codes "\"") start

abbrev pub first_error_at : Bool → List ℕ → Option ExErr
first_error_at too_long start = if is_no_command_at start then None else first_error (errors_of too_long (parts_of start))

abbrev pub is_too_long : List ℕ → Bool
is_too_long line = nat_lt max_line_bytes (length line)

-- whether a line is no command, why it is refused, and whether it is a command that is not refused
abbrev pub is_no_command : List ℕ → Bool
is_no_command line = is_no_command_at (start_of line)

abbrev pub first_error_of : List ℕ → Option ExErr
first_error_of line = first_error_at (is_too_long line) (start_of line)

abbrev pub command_in : List ℕ → Option Command
command_in line = command_from (parts_of (start_of line))

abbrev pub is_allowed : List ℕ → Bool
is_allowed line = not (is_no_command line) && is_none (first_error_of line)

-- what a line means: no command, a command or an error
abbrev pub meaning_at : Bool → List ℕ → Result (Option Command) ExErr
meaning_at too_long start =
    if is_no_command_at start then Ok None
    else refused_or (first_error_at too_long start) (command_from (parts_of start))

abbrev pub meaning_of : List ℕ → Result (Option Command) ExErr
meaning_of line = meaning_at (is_too_long line) (start_of line)

-- An answer is Nothing for a line that is no command, else its first error, and else its command.
abbrev pub Means : Bool → Option ExErr → Option Command → Result Parsed ExErr → Type 0
Means nothing error command (Ok parsed.Nothing) = IsTrue nothing × (error ≡ None)
Means nothing error command (Ok (parsed.Command found)) = (nothing ≡ false) × (error ≡ None) × (command ≡ Some (command_of found))
Means nothing error command (Err found) = (nothing ≡ false) × (error ≡ Some found)

-- whether an answer is a command
abbrev pub is_command : Result Parsed ExErr → Bool
is_command (Ok parsed.Nothing) = false
is_command (Ok (parsed.Command command)) = true
is_command (Err error) = false

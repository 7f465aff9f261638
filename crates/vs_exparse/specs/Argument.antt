-- The arguments of commands: what each form says, and its errors in their order.
use Rattle.std.specs.Prelude.{ℕ, Bool, true, false, ◌==◌, ◌&&◌, ◌||◌, ◌-◌, not, if◌then◌else◌, nat_eq, nat_le, List, [], ◌∷◌, ◌++◌, length, take, drop}
use Rattle.std.specs.Prelude.{codes, bytes_eq, Option, Some, None, is_none, is_some, find, option_map}
use Rattle.std.specs.List.{list_all, ends_with}
use Rattle.std.specs.Option.{option_or}
use Rattle.vs_exparse.specs.Bytes.{is_digit, is_letter, is_blank, run, skip, begins, number_of, is_empty}
use Rattle.vs_exparse.specs.Pieces.{field_of, after_field, is_pattern, is_replacement}
use Rattle.vs_exparse.specs.Range.{address_of}
use Rattle.vs_exparse.specs.declared.command.Address.{Address}
use Rattle.vs_exparse.specs.declared.command.Setting.{Setting}
use Rattle.vs_exparse.specs.declared.command.Setting.TheVariants as set
use Rattle.vs_exparse.specs.declared.command.ExErr.{ExErr}
use Rattle.vs_exparse.specs.declared.command.ExErr.TheVariants.{E14, E471, E474, E488, E518, E939, PatternForm}

-- no argument
abbrev pub no_argument_errors : List ℕ → List (ExErr × Bool)
no_argument_errors argument = (E488, not (is_empty argument)) ∷ []

-- a number, or nothing
abbrev pub number_in : List ℕ → Option ℕ
number_in argument = if is_empty argument then None else Some (number_of argument)

-- a count is a number of at least 1, or nothing
abbrev pub count_errors : List ℕ → List (ExErr × Bool)
count_errors argument =
    (E488, not (list_all is_digit argument))
    ∷ (E939, not (is_empty argument) && (number_of argument == 0))
    ∷ []

-- the number of a change, or nothing
abbrev pub change_errors : List ℕ → List (ExErr × Bool)
change_errors argument = (E474, not (list_all is_digit argument)) ∷ []

-- an address, and nothing after it but blanks
abbrev pub destination_of : List ℕ → Option Address
destination_of argument = (address_of argument).value

abbrev pub destination_errors : List ℕ → List (ExErr × Bool)
destination_errors argument =
    (E14, is_none (destination_of argument))
    ∷ (E488, not (is_empty (skip is_blank (address_of argument).rest)))
    ∷ []

-- A number of steps of at least 1, or nothing, which is 1. An `f` after the number counts in writes.
abbrev pub in_writes : List ℕ → Bool
in_writes argument = ends_with nat_eq argument (codes "f")

abbrev pub steps_digits : List ℕ → List ℕ
steps_digits argument = if in_writes argument then take (length argument - 1) argument else argument

abbrev pub steps_of : List ℕ → ℕ
steps_of argument = if is_empty argument then 1 else number_of (steps_digits argument)

abbrev pub steps_errors : List ℕ → List (ExErr × Bool)
steps_errors argument = (E474, not (list_all is_digit (steps_digits argument)) || (steps_of argument == 0)) ∷ []

-- A substitution is `/\V`, a pattern, a slash, a replacement, a slash, and a flag. What is missing at its end is empty.
abbrev pub pattern_of : List ℕ → List ℕ
pattern_of argument = field_of (drop 3 argument)

abbrev pub replacement_of : List ℕ → List ℕ
replacement_of argument = field_of (after_field (drop 3 argument))

abbrev pub flags_of : List ℕ → List ℕ
flags_of argument = after_field (after_field (drop 3 argument))

-- whether all matches of a line are replaced
abbrev pub replaces_all : List ℕ → Bool
replaces_all argument = bytes_eq (flags_of argument) (codes "g")

-- what stands after the pattern and its slash
abbrev pub nested_of : List ℕ → List ℕ
nested_of argument = after_field (drop 3 argument)

-- the errors of `/\V` and a pattern
abbrev pub pattern_errors : List ℕ → List (ExErr × Bool)
pattern_errors argument =
    (PatternForm, not (begins (codes "/\\V") argument))
    ∷ (PatternForm, not (is_pattern (pattern_of argument)))
    ∷ []

-- the errors of a replacement and its flag
abbrev pub replacement_errors : List ℕ → List (ExErr × Bool)
replacement_errors argument =
    (PatternForm, not (is_replacement (replacement_of argument)))
    ∷ (E488, not (is_empty (flags_of argument) || replaces_all argument))
    ∷ []

abbrev pub substitute_errors : List ℕ → List (ExErr × Bool)
substitute_errors argument = pattern_errors argument ++ replacement_errors argument

-- what `set` takes: two ways to write it, and the setting
pub record SetRow : Type 0 where
  pub long : List ℕ
  pub short : List ℕ
  pub setting : Setting

abbrev pub row : List ℕ → List ℕ → Setting → SetRow
row long short setting = record { long = long; short = short; setting = setting }

-- the options that are on or off
abbrev pub switches : List SetRow
switches =
    row (codes "backup") (codes "bk") (set.Backup true)
    ∷ row (codes "nobackup") (codes "nobk") (set.Backup false)
    ∷ row (codes "writebackup") (codes "wb") (set.WriteBackup true)
    ∷ row (codes "nowritebackup") (codes "nowb") (set.WriteBackup false)
    ∷ row (codes "undofile") (codes "udf") (set.UndoFile true)
    ∷ row (codes "noundofile") (codes "noudf") (set.UndoFile false)
    ∷ []

-- the option that has a value
abbrev pub values : List SetRow
values =
    row (codes "backupcopy=yes") (codes "bkc=yes") set.CopyYes
    ∷ row (codes "backupcopy=no") (codes "bkc=no") set.CopyNo
    ∷ row (codes "backupcopy=auto") (codes "bkc=auto") set.CopyAuto
    ∷ row (codes "fileformat=unix") (codes "ff=unix") set.Unix
    ∷ row (codes "fileformat=dos") (codes "ff=dos") set.Dos
    ∷ []

-- the greatest number of changes that are kept
abbrev pub max_levels : ℕ
max_levels = 1000000

-- one to seven digits that say how many changes are kept
abbrev pub is_levels : List ℕ → Bool
is_levels digits = list_all is_digit digits && nat_le (length digits) 7 && nat_le 1 (number_of digits) && nat_le (number_of digits) max_levels

abbrev pub levels_in : List ℕ → Option Setting
levels_in digits = if is_levels digits then Some (set.UndoLevels (number_of digits)) else None

-- the option that has a number
abbrev pub levels_of : List ℕ → Option Setting
levels_of argument =
    if begins (codes "undolevels=") argument then levels_in (drop 11 argument)
    else (if begins (codes "ul=") argument then levels_in (drop 3 argument) else None)

abbrev pub is_either : List ℕ → List ℕ → List ℕ → Bool
is_either text long short = bytes_eq text long || bytes_eq text short

abbrev pub setting_in : List SetRow → List ℕ → Option Setting
setting_in rows text = option_map (λ row. row.setting) (find (λ row. is_either text row.long row.short) rows)

abbrev pub setting_of : List ℕ → Option Setting
setting_of argument = option_or (option_or (setting_in switches argument) (setting_in values argument)) (levels_of argument)

-- an option by its name, which is the longest run of letters
abbrev pub is_option : List ℕ → Bool
is_option name =
    is_some (setting_in switches name) || is_either name (codes "backupcopy") (codes "bkc") || is_either name (codes "undolevels") (codes "ul")
    || is_either name (codes "fileformat") (codes "ff")

abbrev pub set_errors : List ℕ → List (ExErr × Bool)
set_errors argument =
    (E471, is_empty argument)
    ∷ (E518, not (is_option (run is_letter argument)))
    ∷ (E474, is_none (setting_of argument))
    ∷ []

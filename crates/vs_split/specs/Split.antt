-- The commands of the script of two sessions, in the order in which they are complete.
use Rattle.std.specs.Prelude.{ℕ, List, [], ◌∷◌, Option, Some, None}
use Rattle.vs_excmd.specs.Request.{Instruction}
use Rattle.vs_script.specs.Feed.{Reading, Between, ended_last, takes}
use Rattle.vs_split.specs.Tags.{LineOf, LineOfNone, if_same, tag_of}
use Rattle.vs_family.specs.declared.which.Which.{Which}
use Rattle.vs_family.specs.declared.which.Which.TheVariants.{One, Two}

-- what is answered: a command of a session, or a line of none
pub data ScriptPart : Type 0 where
  CommandOf : Which → Instruction → ScriptPart
  NoSession : ScriptPart

-- a command that was ended, if one was, before these
abbrev pub with_ended : Which → Option Instruction → List ScriptPart → List ScriptPart
with_ended which None items = items
with_ended which (Some command) items = CommandOf which command ∷ items

-- What is answered where both scripts are read from here on: each command stands where its last line does. At the end blocks that are
-- open end as this says, that of the first session first.
abbrev pub items_by : (Reading → Option Instruction) → Reading → Reading → List (List ℕ) → List ScriptPart
items_by ends one two [] = with_ended One (ends one) (with_ended Two (ends two) [])
items_by ends one two (line ∷ lines) = elim (tag_of line) [
  | LineOf whose own ↦ if_same One whose
      (with_ended One (takes one own).ended (items_by ends (takes one own).reading two lines))
      (with_ended Two (takes two own).ended (items_by ends one (takes two own).reading lines))
  | LineOfNone ↦ NoSession ∷ items_by ends one two lines
]

-- what is answered to the lines of a script
abbrev pub items_of : List (List ℕ) → List ScriptPart
items_of lines = items_by ended_last Between Between lines

-- what is whole in the first lines of a script, whatever follows
abbrev pub whole_items_of : List (List ℕ) → List ScriptPart
whole_items_of lines = items_by (λ reading. None) Between Between lines

-- the command of an item before those of this session, where it is one of them
abbrev pub command_for : Which → ScriptPart → List Instruction → List Instruction
command_for which (CommandOf whose command) commands = if_same which whose (command ∷ commands) commands
command_for which NoSession commands = commands

-- the commands of one session among them
abbrev pub commands_for : Which → List ScriptPart → List Instruction
commands_for which [] = []
commands_for which (item ∷ items) = command_for which item (commands_for which items)

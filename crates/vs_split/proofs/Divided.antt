-- A line goes to one session: what it ends there is a command of that session, and of the other nothing changes.
use Rattle.std.proofs.Common.{◌≡◌, ℕ, List, [], ◌∷◌, Option, Some, None, refl, sym, ◌∙◌, ap}
use Rattle.vs_exparse.specs.Command.{Command}
use Rattle.vs_excmd.specs.Request.{Instruction}
use Rattle.vs_script.specs.Feed.{Reading, Between, ended_last, takes}
use Rattle.vs_script.specs.Script.{at_end, commands_of, not_yet, whole_of}
use Rattle.vs_script.proofs.Commands.{at_last, before, commands_at, none_whole, one_line}
use Rattle.vs_family.specs.declared.which.Which.{Which}
use Rattle.vs_family.specs.declared.which.Which.TheVariants.{One, Two}
use Rattle.vs_split.specs.Split.{ScriptPart, NoSession, commands_for, items_by, items_of, whole_items_of, with_ended}
use Rattle.vs_split.specs.Tags.{Tag, LineOf, LineOfNone, if_same, line_for, lines_for, tag_of}

ended_own : (ended : Option Instruction) (items : List ScriptPart) → commands_for One (with_ended One ended items) ≡ before ended (commands_for One items)
ended_own None items = refl
ended_own (Some command) items = refl

ended_own_two : (ended : Option Instruction) (items : List ScriptPart) → commands_for Two (with_ended Two ended items) ≡ before ended (commands_for Two items)
ended_own_two None items = refl
ended_own_two (Some command) items = refl

ended_other : (ended : Option Instruction) (items : List ScriptPart) → commands_for One (with_ended Two ended items) ≡ commands_for One items
ended_other None items = refl
ended_other (Some command) items = refl

ended_other_two : (ended : Option Instruction) (items : List ScriptPart) → commands_for Two (with_ended One ended items) ≡ commands_for Two items
ended_other_two None items = refl
ended_other_two (Some command) items = refl

-- where blocks that are open at the end become these commands
module _ (unended : Command → List (List ℕ) → List Instruction) (ends : Reading → Option Instruction) (last : (reading : Reading) → commands_at unended reading [] ≡ before (ends reading) []) where
  abbrev after_tag : List (List ℕ) → Reading → Reading → Tag → List ScriptPart
  after_tag lines one two tag = elim tag [
    | LineOf whose own ↦ if_same One whose
        (with_ended One (takes one own).ended (items_by ends (takes one own).reading two lines))
        (with_ended Two (takes two own).ended (items_by ends one (takes two own).reading lines))
    | LineOfNone ↦ NoSession ∷ items_by ends one two lines
  ]

  abbrev FirstIs : List (List ℕ) → Type 0
  FirstIs lines = (one two : Reading) → commands_for One (items_by ends one two lines) ≡ commands_at unended one (lines_for One lines)

  abbrev SecondIs : List (List ℕ) → Type 0
  SecondIs lines = (one two : Reading) → commands_for Two (items_by ends one two lines) ≡ commands_at unended two (lines_for Two lines)

  first_tag : (lines : List (List ℕ)) (one two : Reading) → FirstIs lines → (tag : Tag) → commands_for One (after_tag lines one two tag) ≡ commands_at unended one (line_for One tag (lines_for One lines))
  first_tag lines one two rest (LineOf One own) =
      ended_own (takes one own).ended (items_by ends (takes one own).reading two lines) ∙ ap (before (takes one own).ended) (rest (takes one own).reading two)
      ∙ sym (one_line unended one own (lines_for One lines))
  first_tag lines one two rest (LineOf Two own) = ended_other (takes two own).ended (items_by ends one (takes two own).reading lines) ∙ rest one (takes two own).reading
  first_tag lines one two rest LineOfNone = rest one two

  second_tag : (lines : List (List ℕ)) (one two : Reading) → SecondIs lines → (tag : Tag) → commands_for Two (after_tag lines one two tag) ≡ commands_at unended two (line_for Two tag (lines_for Two lines))
  second_tag lines one two rest (LineOf One own) = ended_other_two (takes one own).ended (items_by ends (takes one own).reading two lines) ∙ rest (takes one own).reading two
  second_tag lines one two rest (LineOf Two own) =
      ended_own_two (takes two own).ended (items_by ends one (takes two own).reading lines) ∙ ap (before (takes two own).ended) (rest one (takes two own).reading)
      ∙ sym (one_line unended two own (lines_for Two lines))
  second_tag lines one two rest LineOfNone = rest one two

  first_commands : (lines : List (List ℕ)) → FirstIs lines
  first_commands [] one two = ended_own (ends one) (with_ended Two (ends two) []) ∙ ap (before (ends one)) (ended_other (ends two) []) ∙ sym (last one)
  first_commands (line ∷ lines) one two = first_tag lines one two (first_commands lines) (tag_of line)

  second_commands : (lines : List (List ℕ)) → SecondIs lines
  second_commands [] one two = ended_other_two (ends one) (with_ended Two (ends two) []) ∙ ended_own_two (ends two) [] ∙ sym (last two)
  second_commands (line ∷ lines) one two = second_tag lines one two (second_commands lines) (tag_of line)

  pub divided_by : (which : Which) (lines : List (List ℕ)) → commands_for which (items_by ends Between Between lines) ≡ commands_at unended Between (lines_for which lines)
  divided_by One lines = first_commands lines Between Between
  divided_by Two lines = second_commands lines Between Between

pub divided : (which : Which) (lines : List (List ℕ)) → commands_for which (items_of lines) ≡ commands_of (lines_for which lines)
divided which lines = divided_by at_end ended_last at_last which lines

none_last : (reading : Reading) → commands_at not_yet reading [] ≡ before None []
none_last reading = none_whole reading

pub whole_divided : (which : Which) (lines : List (List ℕ)) → commands_for which (whole_items_of lines) ≡ whole_of (lines_for which lines)
whole_divided which lines = divided_by not_yet (λ reading. None) none_last which lines

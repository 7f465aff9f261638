-- The commands that may be nested are those of the words that may be.
use Rattle.std.proofs.Common.{◌≡◌, ℕ, Bool, true, false, not, is_some, List, [], ◌∷◌, Option, Some, None, option_map, Result, Ok, Err, IfOk, refl, subst}
use Rattle.vs_exparse.specs.Command.{Command, command_of, result_of}
use Rattle.vs_exparse.specs.Command.Command.{Delete, Move, CopyTo, T, Join, Substitute, Print, Number}
use Rattle.vs_exparse.specs.Argument.{number_in, destination_of, pattern_of, replacement_of, replaces_all}
use Rattle.vs_exparse.specs.Errors.{Answers, first_error}
use Rattle.vs_exparse.specs.Nested.{IsNested, inverted, is_nested_word, names_global, names_other}
use Rattle.vs_exparse.specs.Outcome.{single_outcome}
use Rattle.vs_exparse.specs.declared.command.Address.{Address}
use Rattle.vs_exparse.specs.declared.command.Command as borrowed
use Rattle.vs_exparse.specs.declared.command.ExErr.{ExErr}
use Rattle.vs_exparse.specs.declared.command.ExErr.TheVariants.{E147, NotNested}
use Rattle.vs_exparse.specs.declared.command.Range.{Range}
use Rattle.vs_exparse.specs.declared.words.Rule.{Rule}
use Rattle.vs_exparse.specs.declared.words.Word.{Word}
use Rattle.vs_exparse.specs.declared.words.Word.TheVariants as word

second-allowed : (first second : Bool) → first_error ((E147, first) ∷ (NotNested, not second) ∷ []) ≡ None → second ≡ true
second-allowed true second none = cc
second-allowed false true none = refl
second-allowed false false none = cc

-- a word that is not refused as a nested one may be nested
pub may-nest : (found : Option Rule) (rule : Rule) → found ≡ Some rule → first_error ((E147, names_global found) ∷ (NotNested, names_other found) ∷ []) ≡ None →
    is_nested_word rule.word ≡ true
may-nest found rule is none =
    second-allowed (is_some (inverted rule.word false)) (is_nested_word rule.word)
    (subst (λ rules. first_error ((E147, names_global rules) ∷ (NotNested, names_other rules) ∷ []) ≡ None) is none)

known : (one command : Command) → Some one ≡ Some command → IsNested one → IsNested command
known one command same kept = let equal : one ≡ command = cc in subst (λ other. IsNested other) equal kept

placed : (made : Address → Command) (to : Option Address) (command : Command) → option_map made to ≡ Some command → ((address : Address) → IsNested (made address)) →
    IsNested command
placed made None command same each = cc
placed made (Some address) command same each = known (made address) command same (each address)

pub nested : (one : Word) (range : Range) (bang : Bool) (argument : List ℕ) (command : Command) → is_nested_word one ≡ true →
    (single_outcome one range bang argument).command ≡ Some command → IsNested command
nested word.Delete range bang argument command is same = known (Delete range (number_in argument)) command same (record { kept = refl; no_block = refl })
nested word.Move range bang argument command is same = placed (Move range) (destination_of argument) command same (λ to. record { kept = refl; no_block = refl })
nested word.Copy range bang argument command is same = placed (CopyTo range) (destination_of argument) command same (λ to. record { kept = refl; no_block = refl })
nested word.T range bang argument command is same = placed (T range) (destination_of argument) command same (λ to. record { kept = refl; no_block = refl })
nested word.Join range bang argument command is same = known (Join range bang (number_in argument)) command same (record { kept = refl; no_block = refl })
nested word.Substitute range bang argument command is same =
    known (Substitute range (pattern_of argument) (replacement_of argument) (replaces_all argument)) command same (record { kept = refl; no_block = refl })
nested word.Print range bang argument command is same = known (Print range (number_in argument)) command same (record { kept = refl; no_block = refl })
nested word.Number range bang argument command is same = known (Number range (number_in argument)) command same (record { kept = refl; no_block = refl })
nested other range bang argument command is same = cc

-- so is what such a word's argument comes to
pub kept : (one : Word) (range : Range) (bang : Bool) (argument : List ℕ) (result : Result borrowed.Command ExErr) → is_nested_word one ≡ true →
    Answers (single_outcome one range bang argument).errors (single_outcome one range bang argument).command (result_of result) →
    IfOk result (λ command. IsNested (command_of command))
kept one range bang argument (Ok command) is answers = nested one range bang argument (command_of command) is answers.1
kept one range bang argument (Err error) is answers = tt

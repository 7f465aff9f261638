-- What a line's word allows around it, and what its argument comes to.
use Rattle.std.specs.Prelude.{ℕ, Bool, false, ◌&&◌, not, List, [], ◌∷◌, Option, Some, None, is_none}
use Rattle.vs_exparse.specs.Names.{rule_of}
use Rattle.vs_exparse.specs.Outcome.{Outcome}
use Rattle.vs_exparse.specs.Parts.{Parts}
use Rattle.vs_exparse.specs.Range.{is_given}
use Rattle.vs_exparse.specs.declared.command.ExErr.{ExErr}
use Rattle.vs_exparse.specs.declared.command.ExErr.TheVariants.{E477, E481, E492}
use Rattle.vs_exparse.specs.declared.command.Range.{Range}
use Rattle.vs_exparse.specs.declared.words.Rule.{Rule}
use Rattle.vs_exparse.specs.declared.words.Word.{Word}

abbrev pub takes_range : Option Rule → Bool
takes_range None = false
takes_range (Some rule) = rule.range

abbrev pub takes_bang : Option Rule → Bool
takes_bang None = false
takes_bang (Some rule) = rule.bang

-- the errors of a line's word, in their order
abbrev pub rule_errors : Parts → List (ExErr × Bool)
rule_errors parts =
    (E492, is_none (rule_of parts.word))
    ∷ (E481, is_given parts.range && not (takes_range (rule_of parts.word)))
    ∷ (E477, parts.bang && not (takes_bang (rule_of parts.word)))
    ∷ []

-- what the argument comes to, where this is what each word takes
abbrev pub outcome_by : (Word → Range → Bool → List ℕ → Outcome) → Option Rule → Parts → Outcome
outcome_by takes None parts = record { errors = []; command = None }
outcome_by takes (Some rule) parts = takes rule.word parts.range parts.bang parts.argument

-- What the global commands take as their argument, and so what each word takes.
use Rattle.std.specs.Prelude.{ℕ, Bool, List, ◌++◌, Option, Some, None}
use Rattle.vs_exparse.specs.Argument.{pattern_of, nested_of, pattern_errors}
use Rattle.vs_exparse.specs.Command.Command.{Global}
use Rattle.vs_exparse.specs.Nested.{inverted, nested_errors}
use Rattle.vs_exparse.specs.Outcome.{Outcome, single_outcome}
use Rattle.vs_exparse.specs.declared.command.Range.{Range}
use Rattle.vs_exparse.specs.declared.words.Word.{Word}

-- `/\V`, a pattern, a slash and a nested line. Where no slash ends the pattern, the nested line is empty.
abbrev pub with_nested : Range → Bool → List ℕ → Outcome
with_nested range invert argument = record {
  errors = pattern_errors argument ++ nested_errors (nested_of argument);
  command = Some (Global range invert (pattern_of argument) (nested_of argument));
}

-- a global command, or one by itself
abbrev pub outcome_with : Option Bool → Word → Range → Bool → List ℕ → Outcome
outcome_with None word range bang = single_outcome word range bang
outcome_with (Some invert) word range bang = with_nested range invert

-- what each word takes as its argument
abbrev pub outcome_of : Word → Range → Bool → List ℕ → Outcome
outcome_of word range bang = outcome_with (inverted word bang) word range bang

-- Answers by two lists of errors, one after the other: the first error of the first list, or what the second one answers.
use Rattle.std.proofs.Common.{◌≡◌, ◌∙◌, subst, sym, Bool, true, false, List, [], ◌∷◌, ◌++◌, Option, Some, None, Result, Ok, Err, refl}
use Rattle.vs_exparse.specs.Command.{Command}
use Rattle.vs_exparse.specs.Errors.{Answers, first_error}
use Rattle.vs_exparse.specs.Outcome.{Outcome}
use Rattle.vs_exparse.specs.Parts.{Parts}
use Rattle.vs_exparse.specs.Rules.{outcome_by}
use Rattle.vs_exparse.specs.declared.command.ExErr.{ExErr}
use Rattle.vs_exparse.specs.declared.command.Range.{Range}
use Rattle.vs_exparse.specs.declared.words.Rule.{Rule}
use Rattle.vs_exparse.specs.declared.words.Word.{Word}
use Rattle.std.proofs.Common.{ℕ}

first-more : (errors more : List (ExErr × Bool)) (error : ExErr) → first_error errors ≡ Some error → first_error (errors ++ more) ≡ Some error
first-more [] more error first = cc
first-more ((other, true) ∷ errors) more error first = first
first-more ((other, false) ∷ errors) more error first = first-more errors more error first

pub first-rest : (errors more : List (ExErr × Bool)) → first_error errors ≡ None → first_error (errors ++ more) ≡ first_error more
first-rest [] more first = refl
first-rest ((other, true) ∷ errors) more first = cc
first-rest ((other, false) ∷ errors) more first = first-rest errors more first

pub refused : {X : Type 0} (errors more : List (ExErr × Bool)) (value : Option X) (result : Result X ExErr) (error : ExErr) → result ≡ Err error →
    first_error errors ≡ Some error → Answers (errors ++ more) value result
refused errors more value result error is first = subst (λ r. Answers (errors ++ more) value r) (sym is) (first-more errors more error first)

pub refused-by : {X : Type 0} (errors : List (ExErr × Bool)) (value : Option X) (result : Result X ExErr) (error : ExErr) → result ≡ Err error →
    first_error errors ≡ Some error → Answers errors value result
refused-by errors value result error is first = subst (λ r. Answers errors value r) (sym is) first

pub passed : {X : Type 0} (errors more : List (ExErr × Bool)) (value : Option X) (result : Result X ExErr) → first_error errors ≡ None →
    Answers more value result → Answers (errors ++ more) value result
passed errors more value (Ok x) first rest = (first-rest errors more first ∙ rest.0, rest.1)
passed errors more value (Err error) first rest = first-rest errors more first ∙ rest

-- what a word's rule says of its line
pub by-rule : (takes : Word → Range → Bool → List ℕ → Outcome) (found : Option Rule) (rule : Rule) (parts : Parts) (result : Result Command ExErr) → found ≡ Some rule →
    Answers (takes rule.word parts.range parts.bang parts.argument).errors (takes rule.word parts.range parts.bang parts.argument).command result →
    Answers (outcome_by takes found parts).errors (outcome_by takes found parts).command result
by-rule takes found rule parts result is answers =
    subst (λ rules. Answers (outcome_by takes rules parts).errors (outcome_by takes rules parts).command result) (sym is) answers

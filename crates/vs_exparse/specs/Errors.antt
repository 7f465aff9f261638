-- Errors in their order, each with the test that it comes at.
use Rattle.std.specs.Prelude.{◌≡◌, Bool, if◌then◌else◌, List, [], ◌∷◌, Option, Some, None, Result, Ok, Err, MatchResult}
use Rattle.vs_exparse.specs.declared.command.ExErr.{ExErr}

-- the first error whose test holds
abbrev pub first_error : List (ExErr × Bool) → Option ExErr
first_error [] = None
first_error (error ∷ errors) = if error.1 then Some error.0 else first_error errors

-- an error in place of a value, where there is one
abbrev pub refused_or : {X : Type 0} → Option ExErr → X → Result X ExErr
refused_or None x = Ok x
refused_or (Some error) x = Err error

-- The result is this value where no test holds, and else the first error whose test does.
abbrev pub Answers : {X : Type 0} → List (ExErr × Bool) → Option X → Result X ExErr → Type 0
Answers errors value result = MatchResult result (λ x. (first_error errors ≡ None) × (value ≡ Some x)) (λ error. first_error errors ≡ Some error)

-- Answers that are an error of a command, or more.
use Rattle.std.specs.Prelude.{Bool, true, false, Option, Some, None, Result, Ok, Err}
use Rattle.vs_exparse.specs.declared.command.ExErr.{ExErr}
use Rattle.vs_exparse.specs.declared.command.ExErr.TheVariants.{E16}

-- an answer where a test holds, and else an error
abbrev pub check : {X : Type 0} → Bool → ExErr → Result X ExErr → Result X ExErr
check true error answer = answer
check false error answer = Err error

-- what comes of an answer that is no error
abbrev pub on : {X Y : Type 0} → Result X ExErr → (X → Result Y ExErr) → Result Y ExErr
on (Ok x) f = f x
on (Err error) f = Err error

-- the value, or E16 where there is none
abbrev pub or_E16 : {X : Type 0} → Option X → Result X ExErr
or_E16 None = Err E16
or_E16 (Some x) = Ok x

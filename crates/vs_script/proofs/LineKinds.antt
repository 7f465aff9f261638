-- What a line is follows from what it means, and that from the bytes that are kept of it.
use Rattle.std.proofs.Common.{◌≡◌, ◌∙◌, ℕ, Bool, true, false, List, [], ◌∷◌, refl, sym, ap, Option, Some, None, Ok, Err, IfOk, IfSome}
use Rattle.std.specs.declared.result.Result.{Result}
use Rattle.std.proofs.lemmas.Bool.{true≢false}
use Rattle.vs_exparse.specs.Command.{Command, answer_of, command_of, wants_block}
use Rattle.vs_exparse.specs.Form.{HasForm}
use Rattle.vs_exparse.specs.Meaning.{meaning_of}
use Rattle.vs_exparse.specs.declared.command.Command as borrowed
use Rattle.vs_exparse.specs.declared.command.ExErr.{ExErr}
use Rattle.vs_exparse.specs.declared.command.Parsed.{Parsed}
use Rattle.vs_exparse.specs.declared.command.Parsed.TheVariants as parsed
use Rattle.vs_exparse.proofs.FirstBytes.{first-bytes}
use Rattle.vs_script.specs.Ahead.{MeanSame, kept_of}
use Rattle.vs_script.specs.Script.{NoCommand, Alone, Head, kind_from, kind_of, is_alone, is_dot}

-- the bytes that are kept of a line say what it is
kind_of-kept : (line : List ℕ) → kind_of (kept_of line) ≡ kind_of line
unfolding kind_of
kind_of-kept line = ap kind_from (first-bytes line)

is_dot-kept : (line : List ℕ) → is_dot (kept_of line) ≡ is_dot line
is_dot-kept [] = refl
is_dot-kept (byte ∷ []) = refl
is_dot-kept (byte ∷ next ∷ rest) = refl

-- so lines that have these bytes alike are the same
pub kind_of-same : (line other : List ℕ) → MeanSame line other → kind_of line ≡ kind_of other
kind_of-same line other same = sym (kind_of-kept line) ∙ ap kind_of same ∙ kind_of-kept other

pub is_dot-same : (line other : List ℕ) → MeanSame line other → is_dot line ≡ is_dot other
is_dot-same line other same = sym (is_dot-kept line) ∙ ap is_dot same ∙ is_dot-kept other

kind_by : (line : List ℕ) (answer : Result (Option Command) ExErr) → answer ≡ meaning_of line → kind_of line ≡ kind_from answer
unfolding kind_of
kind_by line answer is = ap kind_from (sym is)

-- what a parser's answer says
pub said_nothing : (line : List ℕ) (r : Result Parsed ExErr) (found : Parsed) → answer_of r ≡ meaning_of line → r ≡ Ok found → found ≡ parsed.Nothing → kind_of line ≡ NoCommand
said_nothing line r found meaning is nothing = kind_by line (Ok None) (sym (ap answer_of (is ∙ ap Ok nothing)) ∙ meaning)

pub said_command : (line : List ℕ) (r : Result Parsed ExErr) (found : Parsed) (command : borrowed.Command) → answer_of r ≡ meaning_of line → r ≡ Ok found → found ≡ parsed.Command command
    → kind_of line ≡ kind_from (Ok (Some (command_of command)))
said_command line r found command meaning is said = kind_by line (Ok (Some (command_of command))) (sym (ap answer_of (is ∙ ap Ok said)) ∙ meaning)

pub said_error : (line : List ℕ) (r : Result Parsed ExErr) (error : ExErr) → answer_of r ≡ meaning_of line → r ≡ Err error → kind_of line ≡ Alone (Err error)
said_error line r error meaning is = kind_by line (Err error) (sym (ap answer_of is) ∙ meaning)

pub said_form : (r : Result Parsed ExErr) (found : Parsed) (command : borrowed.Command) → IfOk (answer_of r) (λ said. IfSome said HasForm) → r ≡ Ok found → found ≡ parsed.Command command
    → HasForm (command_of command)
said_form r found command form is said = rw (is, said) at form

pub kind_head : (command : Command) → wants_block command ≡ true → kind_from (Ok (Some command)) ≡ Head command
kind_head command wants = rw wants refl

pub kind_alone : (command : Command) → wants_block command ≡ false → kind_from (Ok (Some command)) ≡ Alone (Ok command)
kind_alone command wants = rw wants refl

-- a command by itself wants no block
pub alone_wants_none : (command : Command) (wants : Bool) → wants_block command ≡ wants → is_alone (kind_from (Ok (Some command))) ≡ true → wants_block command ≡ false
alone_wants_none command false wants is = wants
alone_wants_none command true wants is = absurd (true≢false (sym (rw wants at is)))

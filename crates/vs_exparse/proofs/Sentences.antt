-- An answer that means what a line says is Nothing, a command or an error just where the line says so.
use Rattle.std.proofs.Common.{ℕ, List, subst, ◌≡◌, ◌↔◌, ◌∙◌, ◌&&◌, Bool, not, if◌then◌else◌, Option, Some, None, is_none, Result, Ok, Err, IsTrue, refl, ap, sym}
use Rattle.vs_exparse.specs.Command.{Command, answer_of}
use Rattle.vs_exparse.specs.Errors.{refused_or}
use Rattle.vs_exparse.specs.Meaning.{Means, is_command, is_no_command_at, first_error_at, command_from, is_too_long, is_no_command, first_error_of, command_in}
use Rattle.vs_exparse.specs.Parts.{start_of, parts_of}
use Rattle.vs_exparse.specs.declared.command.ExErr.{ExErr}
use Rattle.vs_exparse.specs.declared.command.Parsed.{Parsed}
use Rattle.vs_exparse.specs.declared.command.Parsed.TheVariants as parsed

pub allowed : (none : Bool) (error : Option ExErr) (named : Option Command) (result : Result Parsed ExErr) → Means none error named result →
    IsTrue (is_command result) ↔ IsTrue (not none && is_none error)
allowed none error named (Ok parsed.Nothing) means = (λ is. cc, λ is. rw means.0 at is)
allowed none error named (Ok (parsed.Command found)) means = (λ is. rw (means.0, means.1) refl, λ is. refl)
allowed none error named (Err found) means = (λ is. cc, λ is. rw (means.0, means.1) at is)

pub refused : (none : Bool) (error : Option ExErr) (named : Option Command) (result : Result Parsed ExErr) → Means none error named result →
    (wanted : ExErr) → (result ≡ Err wanted) ↔ (error ≡ Some wanted)
refused none error named (Ok parsed.Nothing) means wanted = let no_error = means.1 in (λ same. cc, λ same. cc)
refused none error named (Ok (parsed.Command found)) means wanted = let no_error = means.1 in (λ same. cc, λ same. cc)
refused none error named (Err found) means wanted =
    let is_found = means.1 in (
      λ same. let equal : found ≡ wanted = cc in is_found ∙ ap (λ (e : ExErr). Some e) equal,
      λ same. let both : Some found ≡ Some wanted = sym is_found ∙ same in let equal : found ≡ wanted = cc in ap (λ (e : ExErr). Err e) equal,
    )

pub meaning : (none : Bool) (error : Option ExErr) (named : Option Command) (result : Result Parsed ExErr) → Means none error named result →
    answer_of result ≡ (if none then Ok None else refused_or error named)
meaning none error named (Ok parsed.Nothing) means = rw means.0 refl
meaning none error named (Ok (parsed.Command found)) means = rw (means.0, means.1, means.2) refl
meaning none error named (Err found) means = rw (means.0, means.1) refl

-- what the start of a line means is what the line means
pub of-start : (line start : List ℕ) (too_long : Bool) (result : Result Parsed ExErr) → start ≡ start_of line → too_long ≡ is_too_long line →
    Means (is_no_command_at start) (first_error_at too_long start) (command_from (parts_of start)) result →
    Means (is_no_command line) (first_error_of line) (command_in line) result
of-start line start too_long result start_is long_is means =
    let At : List ℕ → Bool → Type 0 = λ from long. Means (is_no_command_at from) (first_error_at long from) (command_from (parts_of from)) result in
    subst (λ (from : List ℕ). At from (is_too_long line)) start_is (subst (λ (long : Bool). At start long) long_is means)

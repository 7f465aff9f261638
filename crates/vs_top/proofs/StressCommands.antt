-- The commands of the stress mode write no other file and end no session, and those that were answered are its first ones.
use Rattle.std.proofs.Common.{◌≡◌, inl, inr, ℕ, zero, suc, ◌≤◌, ◌+◌, ◌%◌, Bool, true, false, List, [], ◌∷◌, ◌++◌, refl, sym, ap, ◌∙◌, append_assoc, append-nil, subst, Ok, Err, IsErrAnd, arith}
use Rattle.std.proofs.lemmas.Bool.Decides.{leb_tells}
use Rattle.vs_exparse.specs.Command.{result_of}
use Rattle.vs_exparse.specs.Meaning.{meaning_of}
use Rattle.vs_excmd.specs.Request.{Instruction, IsRequest}
use Rattle.vs_excmd.specs.declared.request.Request.{Request}
use Rattle.vs_session.specs.Session.{quits, writes_files}
use Rattle.vs_host.specs.World.{Tells, Scene}
use Rattle.vs_machine.specs.declared.command.Mark.{Mark}
use Rattle.vs_session.specs.declared.session.Session.{Session}
use Rattle.vs_top.specs.StressTurns.{IsStressTurn, StopsStress}
use Rattle.vs_top.specs.declared.ending.Ending.{Ending}
use Rattle.vs_top.specs.declared.ending.Ending.TheVariants as ending
use Rattle.std.specs.Prelude.{IfErr, IfOk}
use Rattle.std.specs.declared.result.Result.{Result}
use Rattle.vs_stress.specs.Commands.{generated, generated_to, line_by, parsed_of, preserves, stress_commands}

no_write : (rest : ℕ) → writes_files (parsed_of (meaning_of (line_by rest))) ≡ false
no_write zero = refl
no_write (suc zero) = refl
no_write (suc (suc zero)) = refl
no_write (suc (suc (suc rest))) = refl

no_quit : (rest : ℕ) (saved : Bool) → quits (parsed_of (meaning_of (line_by rest))) saved ≡ false
no_quit zero saved = refl
no_quit (suc zero) saved = refl
no_quit (suc (suc zero)) saved = refl
no_quit (suc (suc (suc rest))) saved = refl

-- a command with a number
pub plain : (number : ℕ) → writes_files (generated number).parsed ≡ false
plain number = no_write (number % 4)

pub writes_nothing : (number : ℕ) (request : Request) → IsRequest request (generated number) → writes_files (result_of request.parsed) ≡ false
writes_nothing number request is = ap writes_files is.parsed ∙ plain number

pub goes_on : (number : ℕ) (request : Request) → IsRequest request (generated number) → (saved : Bool) → quits (result_of request.parsed) saved ≡ false
goes_on number request is saved = ap (λ p. quits p saved) is.parsed ∙ no_quit (number % 4) saved

pub last_writes_nothing : (request : Request) → IsRequest request preserves → writes_files (result_of request.parsed) ≡ false
last_writes_nothing request is = ap writes_files is.parsed

pub last_goes_on : (request : Request) → IsRequest request preserves → (saved : Bool) → quits (result_of request.parsed) saved ≡ false
last_goes_on request is saved = ap (λ p. quits p saved) is.parsed

-- one command more
pub next_commands : (n : ℕ) → generated_to n ++ generated (n + 1) ∷ [] ≡ generated_to (n + 1)
next_commands n =
    let is : suc n ≡ n + 1 = omega arith in
    subst (λ (m : ℕ). generated_to n ++ generated m ∷ [] ≡ generated_to m) is refl

-- the first commands
pub first_commands : (k n : ℕ) → k ≤ n → (rest : List Instruction) × (generated_to n ≡ generated_to k ++ rest)
first_commands k zero le =
    let is : k ≡ zero = omega (arith, le) in ([], ap generated_to (sym is) ∙ sym (append-nil (generated_to k)))
first_commands k (suc n) le = elim (leb_tells k n) [
  | inl less ↦
      let more = first_commands k n less.1 in (
        more.0 ++ generated (suc n) ∷ [],
        ap (λ (l : List Instruction). l ++ generated (suc n) ∷ []) more.1 ∙ append_assoc (generated_to k) more.0 (generated (suc n) ∷ []),
      )
  | inr greater ↦
      let is : k ≡ suc n = omega (arith, le, greater.1) in ([], ap generated_to (sym is) ∙ sym (append-nil (generated_to k)))
]

pub first_stress : (k n : ℕ) → k ≤ n → (rest : List Instruction) × (stress_commands n ≡ generated_to k ++ rest)
first_stress k n le =
    let more = first_commands k n le in (
      more.0 ++ preserves ∷ [],
      ap (λ (l : List Instruction). l ++ preserves ∷ []) more.1 ∙ append_assoc (generated_to k) more.0 (preserves ∷ []),
    )

-- there was no memory for a command, and all is as before it
pub stops_here : (OfHost : Scene → Type 0) (tells : Tells) (count : ℕ) (old now new : Scene) (session after : Session) (marks more : List Mark) (clean : Bool) (commands rest : List Instruction) → stress_commands count ≡ commands ++ rest
    → more ≡ marks → after ≡ session → new ≡ now → IsStressTurn OfHost tells old now session marks clean commands → StopsStress OfHost tells count old new after more
stops_here OfHost tells count old now new session after marks more clean commands rest first same_marks same_session same_scene turn = record {
  commands = commands;
  rest = rest;
  first = first;
  clean = clean;
  turn = subst (λ (s : Scene). IsStressTurn OfHost tells old s after more clean commands) (sym same_scene)
      (subst (λ (x : Session). IsStressTurn OfHost tells old now x more clean commands) (sym same_session) (subst (λ (l : List Mark). IsStressTurn OfHost tells old now session l clean commands) (sym same_marks) turn));
}

-- the ending that `?` hands on
pub stops_as : (P : Type 0) (r : Result Bool Ending) (one : Ending) → IsErrAnd r (λ e. e ≡ one) → one ≡ ending.NoMemory → P → IfErr r (λ e. (e ≡ ending.NoMemory) × P)
stops_as P (Ok clean) one is same p = tt
stops_as P (Err e) one is same p = (is ∙ same, p)

-- the last command was answered
pub answered_all : (OfHost : Scene → Type 0) (tells : Tells) (count : ℕ) (start now new : Scene) (first session after : Session) (marks more : List Mark) (clean : Bool) (number : ℕ) → number ≡ count → (request : Request) → IsRequest request preserves
    → ((old : Scene) → IsStressTurn OfHost tells old start first [] true [] → IsStressTurn OfHost tells old now session marks clean (generated_to number)) → (r : Result Bool Ending)
    → IfOk r (λ b. (old : Scene) (commands : List Instruction) (instruction : Instruction) → IsRequest request instruction → IsStressTurn OfHost tells old now session marks clean commands
    → IsStressTurn OfHost tells old new after more b (commands ++ instruction ∷ []))
    → IfOk r (λ b. (old : Scene) → IsStressTurn OfHost tells old start first [] true [] → IsStressTurn OfHost tells old new after more b (stress_commands count))
answered_all OfHost tells count start now new first session after marks more clean number all request is turn (Ok b) ok = λ old at.
    ok old (generated_to count) preserves is (subst (λ (n : ℕ). IsStressTurn OfHost tells old now session marks clean (generated_to n)) all (turn old at))
answered_all OfHost tells count start now new first session after marks more clean number all request is turn (Err e) ok = tt

-- there was no memory for it
pub stopped_last : (OfHost : Scene → Type 0) (tells : Tells) (count : ℕ) (start now new : Scene) (first session after : Session) (marks more : List Mark) (clean : Bool) (number : ℕ) → number ≡ count
    → ((old : Scene) → IsStressTurn OfHost tells old start first [] true [] → IsStressTurn OfHost tells old now session marks clean (generated_to number)) → (r : Result Bool Ending)
    → IfErr r (λ e. (e ≡ ending.NoMemory) × (more ≡ marks) × (after ≡ session) × (new ≡ now))
    → IfErr r (λ e. (e ≡ ending.NoMemory) × ((old : Scene) → IsStressTurn OfHost tells old start first [] true [] → StopsStress OfHost tells count old new after more))
stopped_last OfHost tells count start now new first session after marks more clean number all turn (Ok b) err = tt
stopped_last OfHost tells count start now new first session after marks more clean number all turn (Err e) err = (
  err.0,
  λ old at.
      stops_here OfHost tells count old now new session after marks more clean (generated_to count) (preserves ∷ []) refl err.1 err.2 err.3 (subst (λ (n : ℕ). IsStressTurn OfHost tells old now session marks clean (generated_to n)) all (turn old at)),
)

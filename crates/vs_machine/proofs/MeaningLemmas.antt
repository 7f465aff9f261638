-- What each command comes to, by its kind.
use Rattle.std.proofs.Common.{◌≡◌, ℕ, List, true, Option, None, Some, Ok, Err, Result, refl, sym, ap, subst, ◌∙◌}
use Rattle.std.specs.Prelude.{IfSome}
use Rattle.vs_exparse.specs.Command.{Command, HasCount, result_of}
use Rattle.vs_exparse.specs.Form.{HasForm}
use Rattle.vs_exparse.specs.Nested.{is_nested}
use Rattle.vs_exparse.specs.Command.Command.{Append, Insert, Change, Delete, Move, CopyTo, T, Join, Substitute, Print, Number, Equals, Undo, Redo, Earlier, Later, UndoList, Write, Preserve, Quit, Set, WriteUndo, ReadUndo, Global}
use Rattle.vs_exparse.specs.declared.command.ExErr.{ExErr}
use Rattle.vs_exparse.specs.declared.command.Command as borrowed
use Rattle.vs_excmd.specs.Answer.{Answers, effect_of}
use Rattle.vs_excmd.specs.Change as effects
use Rattle.vs_excmd.specs.Change.{Effect}
use Rattle.vs_excmd.specs.declared.answer.Plan.{Plan}
use Rattle.vs_excmd.specs.declared.answer.Plan.TheVariants as splice
use Rattle.vs_excmd.specs.Meaning.{changes_text, planned}
use Rattle.vs_excmd.specs.declared.answer.PlanErr.{PlanErr}
use Rattle.vs_excmd.specs.declared.answer.PlanErr.TheVariants as plan
use Rattle.vs_machine.specs.Machine.{State, changing, meaning_in, meaning_of}
use Rattle.vs_machine.specs.Machine.Meaning.{Changed, Refused}
use Rattle.vs_machine.specs.Shown.{showing_of}
use Rattle.vs_machine.specs.declared.show.Showing.{Showing}

-- a command of the text
pub meaning_of_change : (state : State) (command : Command) (lines : List (List ℕ)) → changes_text command ≡ true
    → changing (planned command lines state.text state.cursor) ≡ meaning_in state command lines
meaning_of_change state (Append range) lines is = refl
meaning_of_change state (Insert range) lines is = refl
meaning_of_change state (Change range) lines is = refl
meaning_of_change state (Delete range count) lines is = refl
meaning_of_change state (Move range to) lines is = refl
meaning_of_change state (CopyTo range to) lines is = refl
meaning_of_change state (T range to) lines is = refl
meaning_of_change state (Join range bang count) lines is = refl
meaning_of_change state (Substitute range pattern replacement all) lines is = refl
meaning_of_change state (Print range count) lines is = absurd (cc)
meaning_of_change state (Number range count) lines is = absurd (cc)
meaning_of_change state (Equals range) lines is = absurd (cc)
meaning_of_change state (Undo number) lines is = absurd (cc)
meaning_of_change state Redo lines is = absurd (cc)
meaning_of_change state (Earlier by writes) lines is = absurd (cc)
meaning_of_change state (Later by writes) lines is = absurd (cc)
meaning_of_change state UndoList lines is = absurd (cc)
meaning_of_change state (Write bang) lines is = absurd (cc)
meaning_of_change state Preserve lines is = absurd (cc)
meaning_of_change state (Quit bang) lines is = absurd (cc)
meaning_of_change state (Set setting) lines is = absurd (cc)
meaning_of_change state WriteUndo lines is = absurd (cc)
meaning_of_change state ReadUndo lines is = absurd (cc)
meaning_of_change state (Global range invert pattern nested) lines is = absurd (cc)

-- the count of a command that shows lines
pub showing-count : (command : Command) (showing : Showing) → HasForm command → showing_of command ≡ Some showing → HasCount showing.count
showing-count (Print range count) showing form is = subst (λ (o : Option Showing). IfSome o (λ s. HasCount s.count)) is form
showing-count (Number range count) showing form is = subst (λ (o : Option Showing). IfSome o (λ s. HasCount s.count)) is form
showing-count command showing form is = absurd (cc)

-- a command that is carried out at many lines, and shows none, changes the text
pub nested-changes : (command : Command) → is_nested command ≡ true → showing_of command ≡ None → changes_text command ≡ true
nested-changes (Delete range count) nested none = refl
nested-changes (Move range to) nested none = refl
nested-changes (CopyTo range to) nested none = refl
nested-changes (T range to) nested none = refl
nested-changes (Join range bang count) nested none = refl
nested-changes (Substitute range pattern replacement all) nested none = refl
nested-changes (Print range count) nested none = absurd (cc)
nested-changes (Number range count) nested none = absurd (cc)
nested-changes command nested none = absurd (cc)

-- an error of a line
pub meaning_of_error : (state : State) (parsed : Result borrowed.Command ExErr) (meant : Result Command ExErr) (error : ExErr) (lines : List (List ℕ))
    → parsed ≡ Err error → result_of parsed ≡ meant → Refused error ≡ meaning_of state meant lines
meaning_of_error state parsed meant error lines is same = ap (λ m. meaning_of state m lines) (ap result_of (sym is) ∙ same)

-- an error of a command of the text
pub meaning_of_refused : (meant : Result Effect ExErr) (found : PlanErr) (error : ExErr) → Answers meant (Err found) → found ≡ plan.Ex error → Refused error ≡ changing meant
meaning_of_refused meant (plan.Ex found) error is same = let one : found ≡ error = cc in ap Refused (sym one) ∙ sym (ap changing is)
meaning_of_refused meant plan.NoMemory error is same = absurd (cc)
meaning_of_refused meant plan.Failed error is same = absurd (cc)

-- what was planned
pub meaning_of_plan : (plan_at : ℕ → Result Effect ExErr) (found : Plan) (line cursor : ℕ) → plan_at line ≡ Ok (effect_of found) → line ≡ cursor
    → changing (Ok (effect_of found)) ≡ changing (plan_at cursor)
meaning_of_plan plan_at found line cursor planned same = sym (ap changing (ap plan_at (sym same) ∙ planned))

-- a splice that was planned
pub meaning_of_splice : (found : Plan) (change : effects.Change) {new : _} → found ≡ splice.Splice change.top change.old new change.cursor → change.new ≡ new.items
    → Changed change ≡ changing (Ok (effect_of found))
meaning_of_splice found change {new} is put =
    ap (λ (lines : List (List ℕ)). Changed (record { top = change.top; old = change.old; new = lines; cursor = change.cursor })) put
    ∙ sym (ap (λ (p : Plan). changing (Ok (effect_of p))) is)

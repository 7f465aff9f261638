-- What an answer about a command of the text says.
use Rattle.std.specs.Prelude.{ℕ, ◌≡◌, ◌≤◌, ◌+◌, ◌⊎◌, ⊤, List, Some, None, Result, Ok, Err, IfErr}
use Rattle.vs_edit.specs.State.{TextState, AllowsSplice}
use Rattle.vs_edit.specs.declared.store.StoreErr.{StoreErr}
use Rattle.vs_edit.specs.declared.store.StoreErr.TheVariants as store
use Rattle.vs_exparse.specs.declared.command.ExErr.{ExErr}
use Rattle.vs_exparse.specs.declared.command.ExErr.TheVariants as ex
use Rattle.vs_excmd.specs.declared.answer.Plan.{Plan}
use Rattle.vs_excmd.specs.declared.answer.Plan.TheVariants as plan
use Rattle.vs_excmd.specs.declared.answer.PlanErr.{PlanErr}
use Rattle.vs_excmd.specs.declared.answer.PlanErr.TheVariants as error
use Rattle.vs_excmd.specs.declared.place.Place.{Place}
use Rattle.vs_excmd.specs.Change.{Effect, bounded}

-- the change of the text that a plan is
abbrev pub effect_of : Plan → Effect
effect_of plan.NoChange = None
effect_of (plan.Splice top old new cursor) = Some (record { top = top; old = old; new = new.items; cursor = cursor })

-- The answer says what is meant, or that there was no memory, or that the store failed.
abbrev pub Answers : Result Effect ExErr → Result Plan PlanErr → Type 0
Answers meant (Ok plan) = meant ≡ Ok (effect_of plan)
Answers meant (Err (error.Ex e)) = meant ≡ Err e
Answers meant (Err error.NoMemory) = ⊤
Answers meant (Err error.Failed) = ⊤

-- an error that does not come of a command's place
abbrev pub IsAfterPlace : ExErr → Type 0
IsAfterPlace error = (error ≡ ex.E486) ⊎ ((error ≡ ex.LineTooLong) ⊎ (error ≡ ex.TextFull))

-- An error that comes after the place of a command was found.
abbrev pub IsLate : PlanErr → Type 0
IsLate (error.Ex e) = IsAfterPlace e
IsLate error.NoMemory = ⊤
IsLate error.Failed = ⊤

-- The answer is the error of a command's place, or none that could come of a place.
abbrev pub IsPlaced : Result Place ExErr → Result Plan PlanErr → Type 0
IsPlaced (Err e) answer = answer ≡ Err (error.Ex e)
IsPlaced (Ok place) answer = IfErr answer IsLate

-- A text may be spliced as planned.
abbrev pub Allows : TextState → Plan → Type 0
Allows text plan.NoChange = ⊤
Allows text (plan.Splice top old new cursor) = AllowsSplice text top old new.items

-- why a plan failed, where a store did
abbrev pub plan_error : StoreErr → PlanErr
plan_error store.NoMemory = error.NoMemory
plan_error store.Failed = error.Failed

-- The answer says an effect whose limits are still to be looked at, or the error that comes of it.
abbrev pub Leads : List (List ℕ) → Result Effect ExErr → Result Plan PlanErr → Type 0
Leads text meant (Ok plan) = meant ≡ Ok (effect_of plan)
Leads text meant (Err error) = Answers (bounded text meant) (Err error)

-- A plan's splice lies within a text with this number of lines.
abbrev pub LiesIn : ℕ → Plan → Type 0
LiesIn lines plan.NoChange = ⊤
LiesIn lines (plan.Splice top old new cursor) = top + old ≤ lines

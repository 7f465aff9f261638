-- What a nested command comes to.
use Rattle.std.proofs.Common.{◌≡◌, [], ◌∷◌, ◌∙◌, ℕ, zero, suc, ◌-◌, ◌<◌, ◌+◌, ◌≤◌, Bool, false, List, length, if◌then◌else◌, Some, None, Result, Ok, Err, ap, sym, subst, refl, arith}
use Rattle.vs_edit.specs.Splices.{splice}
use Rattle.vs_edit.proofs.SpliceLemmas.{length-splice}
use Rattle.vs_exparse.specs.Command.{Command}
use Rattle.vs_exparse.specs.declared.command.ExErr.{ExErr}
use Rattle.vs_exparse.specs.declared.command.ExErr.TheVariants.{E486}
use Rattle.vs_excmd.specs.declared.answer.Plan.{Plan}
use Rattle.vs_excmd.specs.declared.answer.Plan.TheVariants as plan
use Rattle.vs_excmd.specs.declared.answer.PlanErr.{PlanErr}
use Rattle.vs_excmd.specs.declared.answer.PlanErr.TheVariants as error
use Rattle.vs_excmd.specs.declared.place.Place.{Place}
use Rattle.vs_excmd.specs.Answer.{Answers, effect_of}
use Rattle.vs_excmd.specs.Change.{Change, Effect, bounded}
use Rattle.vs_excmd.specs.Errors.{on}
use Rattle.vs_excmd.specs.Meaning.{effect, planned}
use Rattle.vs_excmd.specs.Place.{place_of}
use Rattle.vs_marks.specs.Marks.{lines_of, marks_after}
use Rattle.vs_global.specs.Global.{Marked, all_marked, carried_out, is_E486, changed_by, first_mark, next_marked, taken_at, without_first, exchanged_marks, found, is_move, marks_by, places, unless_E486}
use Rattle.vs_global.specs.Carry.{Ends, Finds, IsAt, IsRefused, Reaches}
use Rattle.vs_edit.specs.declared.store.LineStore.{Ghosts}
use Rattle.vs_marks.specs.declared.marks.Marks.{Marks}
use Rattle.vs_global.specs.declared.run.Run.{Run}
use Rattle.vs_global.proofs.PlacesLemmas.{places-exchanged, length-exchanged, first-none, first-some, length-without}

-- what is planned has a place
ok-place : (r : Result Place ExErr) (f : Place → Result Effect ExErr) (change : Effect) → on r f ≡ Ok change → (place : Place) × (r ≡ Ok place)
ok-place (Ok place) f change is = (place, refl)
ok-place (Err e) f change is = cc

err-found : (r : Result Place ExErr) (f : Place → Result Effect ExErr) (e : ExErr) → on r f ≡ Err e
    → on {Y = Place × Effect} r (λ p. on {Y = Place × Effect} (on r f) (λ change. Ok (p, change))) ≡ Err e
err-found (Ok place) f e is = ap (λ (r : Result Effect ExErr). on {Y = Place × Effect} r (λ change. Ok (place, change))) is
err-found (Err other) f e is = ap (λ (r : Result Effect ExErr). on {Y = Place × Effect} r (λ change. Err e)) is

found-place : (r : Result Place ExErr) (meant : Result Effect ExErr) (place : Place) (change : Effect) → r ≡ Ok place → meant ≡ Ok change
    → on {Y = Place × Effect} r (λ p. on {Y = Place × Effect} meant (λ e. Ok (p, e))) ≡ Ok (place, change)
found-place r meant place change is answers = rw (is, answers) refl

pub finds-plan : (command : Command) (text : List (List ℕ)) (cursor : ℕ) (answer : Result Plan PlanErr) → Answers (planned command [] text cursor) answer
    → Finds (found command text cursor) answer
finds-plan command text cursor (Ok plan) is =
    let place = ok-place (place_of command (length text) cursor) (λ place. bounded text (effect command [] text place)) (effect_of plan) is in
    (place.0, found-place (place_of command (length text) cursor) (planned command [] text cursor) place.0 (effect_of plan) place.1 is)
finds-plan command text cursor (Err (error.Ex e)) is = err-found (place_of command (length text) cursor) (λ place. bounded text (effect command [] text place)) e is
finds-plan command text cursor (Err error.NoMemory) is = tt
finds-plan command text cursor (Err error.Failed) is = tt

pub came : (command : Command) (at : Marked) (a b : Result (Place × Effect) ExErr) → a ≡ b → unless_E486 at (on a (λ found. Ok (changed_by command at found.0 found.1))) ≡ unless_E486 at (on b (λ found. Ok (changed_by command at found.0 found.1)))
came command at a b is = ap (λ (r : Result (Place × Effect) ExErr). unless_E486 at (on r (λ found. Ok (changed_by command at found.0 found.1)))) is

pub unmatched : (command : Command) (at : Marked) (e : PlanErr) → e ≡ error.Ex E486 → Finds (found command at.text at.cursor) (Err e) → carried_out command at ≡ Ok at
unmatched command at e is finds =
    let err : found command at.text at.cursor ≡ Err E486 = subst (λ (e : PlanErr). Finds (found command at.text at.cursor) (Err e)) is finds in
    came command at (found command at.text at.cursor) (Err E486) err

pub unchanged : (command : Command) (at : Marked) (place : Place) (planned : Plan) → planned ≡ plan.NoChange → found command at.text at.cursor ≡ Ok (place, effect_of planned) → carried_out command at ≡ Ok at
unchanged command at place planned is finds =
    let none : found command at.text at.cursor ≡ Ok (place, None) = finds ∙ ap (λ (p : Plan). Ok (place, effect_of p)) is in
    came command at (found command at.text at.cursor) (Ok (place, None)) none

pub changed : (command : Command) (at : Marked) (place : Place) (planned : Plan) (change : Change) → effect_of planned ≡ Some change
    → found command at.text at.cursor ≡ Ok (place, effect_of planned) → carried_out command at ≡ Ok (changed_by command at place (Some change))
changed command at place planned change is finds =
    let some : found command at.text at.cursor ≡ Ok (place, Some change) = finds ∙ ap (λ (e : Effect). Ok (place, e)) is in
    came command at (found command at.text at.cursor) (Ok (place, Some change)) some

-- the marks of a command that makes one splice
pub single-marks : (command : Command) (marks : List Bool) (place : Place) (change : Change) → is_move command ≡ false → marks_by command marks place change ≡ exchanged_marks marks change.top change.old (length change.new)
single-marks command marks place change single = rw single refl

pub marks-carried : (command : Command) (marks : List Bool) (place : Place) (change : Change) (lines now : List ℕ) → is_move command ≡ false → change.top + change.old ≤ length marks
    → lines ≡ places 0 marks → now ≡ marks_after change.top change.old (length change.new) lines → now ≡ places 0 (marks_by command marks place change)
marks-carried command marks place change lines now single within is after =
    after ∙ ap (marks_after change.top change.old (length change.new)) is ∙ sym (places-exchanged marks change.top change.old (length change.new) within)
    ∙ ap (places 0) (sym (single-marks command marks place change single))

pub size-carried : (command : Command) (marks : List Bool) (text : List (List ℕ)) (place : Place) (change : Change) → is_move command ≡ false → change.top + change.old ≤ length text
    → length marks ≡ length text → length (marks_by command marks place change) ≡ length (splice text change.top change.old change.new)
size-carried command marks text place change single within same =
    let size : length (marks_by command marks place change) ≡ length (exchanged_marks marks change.top change.old (length change.new)) = ap (λ (l : List Bool). length l) (single-marks command marks place change single) in
    omega (arith, within, same, size, length-exchanged marks change.top change.old (length change.new) (omega (arith, within, same)), length-splice text change.top change.old within change.new)

-- one line more
pub one-more : (command : Command) (k : ℕ) (at : Marked) (line : ℕ) (after : Marked) → first_mark at.marks ≡ Some line → carried_out command (taken_at at line) ≡ Ok after
    → all_marked (suc k) command at ≡ all_marked k command after
one-more command k at line after first is =
    ap (next_marked command (all_marked k command) at) first ∙ ap (λ (r : Result Marked ExErr). on r (all_marked k command)) is

pub one-refused : (command : Command) (k : ℕ) (at : Marked) (line : ℕ) (e : PlanErr) → first_mark at.marks ≡ Some line → IsRefused (carried_out command (taken_at at line)) e
    → IsRefused (all_marked (suc k) command at) e
one-refused command k at line (error.Ex e) first is =
    ap (next_marked command (all_marked k command) at) first ∙ ap (λ (r : Result Marked ExErr). on r (all_marked k command)) is
one-refused command k at line error.NoMemory first is = tt
one-refused command k at line error.Failed first is = tt

-- no line is left
pub none-left : (command : Command) (k : ℕ) (at : Marked) → first_mark at.marks ≡ None → all_marked k command at ≡ Ok at
none-left command zero at first = refl
none-left command (suc k) at first = ap (next_marked command (all_marked k command) at) first

pub turns : (count turn : ℕ) → turn < count → count - turn ≡ suc (count - (turn + 1))
turns count turn below = omega arith

-- The first marked line has lost its mark.
pub record IsNext {S : Type 0} (g : Ghosts S) (view : S) (marks : Marks) (run : Run) (now : Marked) (line : ℕ) : Type 0 where
  pub first : first_mark now.marks ≡ Some line
  pub at : IsAt g view marks run (record now { marks = without_first now.marks })

pub next : {S : Type 0} (g : Ghosts S) (view : S) (marks after : Marks) (run : Run) (now : Marked) (line : ℕ) → IsAt g view marks run now → lines_of marks ≡ line ∷ lines_of after
    → IsNext g view after run now line
next g view marks after run now line at is =
    let found = first-some 0 line (lines_of after) now.marks (sym at.marked ∙ is) in
    let same : line - 0 ≡ line = omega arith in
    record {
      first = found.0 ∙ ap (λ (n : ℕ). Some n) same;
      at = record { text = at.text; marked = sym found.2; size = length-without now.marks ∙ at.size; made = at.made; cursor = at.cursor };
    }

pub ended : {S : Type 0} (g : Ghosts S) (command : Command) (count left : ℕ) (start : Marked) (view : S) (marks after : Marks) (run : Run) → Reaches g command count left start view marks run
    → lines_of marks ≡ [] → lines_of after ≡ lines_of marks → Ends g command count start view after run
ended g command count left start view marks after run reached none same =
    let now = reached.now in
    let at = reached.at in
    record {
      after = now;
      is = sym reached.rest ∙ none-left command left now (first-none 0 now.marks (sym at.marked ∙ none));
      at = record { text = at.text; marked = same ∙ at.marked; size = at.size; made = at.made; cursor = at.cursor };
      covers = reached.covers;
    }

-- what is carried out, by what was found
pub carried-still : (command : Command) (at : Marked) (place : Place) → found command at.text at.cursor ≡ Ok (place, None) → carried_out command at ≡ Ok at
carried-still command at place is = came command at (found command at.text at.cursor) (Ok (place, None)) is

pub carried-change : (command : Command) (at : Marked) (place : Place) (change : Change) → found command at.text at.cursor ≡ Ok (place, Some change)
    → carried_out command at ≡ Ok (changed_by command at place (Some change))
carried-change command at place change is = came command at (found command at.text at.cursor) (Ok (place, Some change)) is

pub carried-err : (command : Command) (at : Marked) (error : ExErr) → found command at.text at.cursor ≡ Err error → is_E486 error ≡ false → carried_out command at ≡ Err error
carried-err command at error is other = came command at (found command at.text at.cursor) (Err error) is ∙ ap (λ (b : Bool). if b then Ok at else Err error) other

-- The whole of a global command, by its parts.
use Rattle.std.proofs.Common.{◌≡◌, ◌∙◌, ℕ, ◌-◌, Bool, not, List, length, Option, Some, None, Result, Ok, Err, refl, ap, sym, subst, arith}
use Rattle.vs_text.specs.Text.{bytes_of}
use Rattle.vs_edit.specs.Splices.{splice, cut_out}
use Rattle.vs_edit.specs.Calls.{Continues}
use Rattle.vs_edit.specs.State.{SameText, TextState}
use Rattle.vs_edit.specs.declared.store.LineStore.{Ghosts}
use Rattle.vs_exparse.specs.Bytes.{is_empty}
use Rattle.vs_exparse.specs.Command.{Command}
use Rattle.vs_exparse.specs.Pieces.{literal_of}
use Rattle.vs_exparse.specs.declared.command.ExErr.{ExErr}
use Rattle.vs_exparse.specs.declared.command.ExErr.TheVariants.{E486}
use Rattle.vs_exparse.specs.declared.command.Range.{Range}
use Rattle.vs_excmd.specs.declared.answer.Plan.{Plan}
use Rattle.vs_excmd.specs.declared.answer.PlanErr.{PlanErr}
use Rattle.vs_excmd.specs.declared.answer.PlanErr.TheVariants as error
use Rattle.vs_excmd.specs.declared.answer.Plan.TheVariants as plan
use Rattle.vs_excmd.specs.declared.place.Span.{Span}
use Rattle.vs_excmd.specs.Answer.{Allows, Answers}
use Rattle.vs_excmd.specs.Errors.{check, on}
use Rattle.vs_excmd.specs.Searched.{searched}
use Rattle.vs_global.specs.declared.run.Untouched.{Untouched}
use Rattle.vs_marks.specs.Marks.{lines_of}
use Rattle.vs_marks.specs.declared.marks.Marks.{Marks}
use Rattle.vs_global.specs.Carry.{AllowsFrom, IsAt, IsRefused, SameEnds, WasText}
use Rattle.vs_global.specs.Global.{Marked, all_marked, changed_at, first_marked, marked_by, places, taken_marks, whole_by, whole_change}
use Rattle.vs_global.proofs.WholeLemmas.{whole}

-- ---- the one splice

pub whole-value : (made : Untouched) (start now new : List (List ℕ)) (lines between cursor : ℕ) → lines ≡ length start → between ≡ length now - made.tail - made.lo
    → new ≡ cut_out now made.lo between → Some (record { top = made.lo; old = lines - made.tail - made.lo; new = new; cursor = cursor }) ≡ whole_by start now cursor (Some made)
whole-value made start now new lines between cursor lines_is between_is new_is =
    ap (λ (n : ℕ). Some (record { top = made.lo; old = n - made.tail - made.lo; new = new; cursor = cursor })) lines_is
    ∙ ap (λ (l : List (List ℕ)). Some (record { top = made.lo; old = length start - made.tail - made.lo; new = l; cursor = cursor }))
    (new_is ∙ ap (cut_out now made.lo) between_is)

pub whole-bytes : (made : Untouched) (start now new : List (List ℕ)) (lines between : ℕ) → lines ≡ length start → between ≡ length now - made.tail - made.lo
    → new ≡ cut_out now made.lo between → SameEnds made.lo made.tail start now → bytes_of (splice start made.lo (lines - made.tail - made.lo) new) ≡ bytes_of now
whole-bytes made start now new lines between lines_is between_is new_is same =
    ap (λ (n : ℕ). bytes_of (splice start made.lo (n - made.tail - made.lo) new)) lines_is
    ∙ ap (λ (l : List (List ℕ)). bytes_of (splice start made.lo (length start - made.tail - made.lo) l)) (new_is ∙ ap (cut_out now made.lo) between_is)
    ∙ ap bytes_of (whole made.lo made.tail start now same)

-- ---- all marked lines

pub changed-ends : (n : ℕ) (command : Command) (text : List (List ℕ)) (cursor : ℕ) (marks : List Bool) (after : Marked) → n ≡ length (places 0 marks)
    → all_marked n command (first_marked text cursor marks) ≡ Ok after → changed_at command text cursor marks ≡ Ok (whole_change text after)
changed-ends n command text cursor marks after count is =
    ap (λ (k : ℕ). on (all_marked k command (first_marked text cursor marks)) (λ a. Ok (whole_change text a))) (sym count)
    ∙ ap (λ (r : Result Marked ExErr). on r (λ a. Ok (whole_change text a))) is

refused-by : (command : Command) (text : List (List ℕ)) (cursor : ℕ) (marks : List Bool) (e : PlanErr)
    → IsRefused (all_marked (length (places 0 marks)) command (first_marked text cursor marks)) e → Answers (changed_at command text cursor marks) (Err e)
refused-by command text cursor marks (error.Ex e) is = ap (λ (r : Result Marked ExErr). on r (λ a. Ok (whole_change text a))) is
refused-by command text cursor marks error.NoMemory is = tt
refused-by command text cursor marks error.Failed is = tt

pub changed-refused : (n : ℕ) (command : Command) (text : List (List ℕ)) (cursor : ℕ) (marks : List Bool) (e : PlanErr) → n ≡ length (places 0 marks)
    → IsRefused (all_marked n command (first_marked text cursor marks)) e → Answers (changed_at command text cursor marks) (Err e)
changed-refused n command text cursor marks e count is =
    refused-by command text cursor marks e (subst (λ (k : ℕ). IsRefused (all_marked k command (first_marked text cursor marks)) e) count is)

-- ---- the search

pub not-searched : (written : Range) (invert : Bool) (pattern : List ℕ) (text : List (List ℕ)) (cursor : ℕ) (e : ExErr)
    → searched written (length text) cursor ≡ Err e → marked_by written invert pattern text cursor ≡ Err e
not-searched written invert pattern text cursor e is =
    ap (λ (r : Result Span ExErr). on r (λ span.
    let marks = taken_marks invert (literal_of pattern) text span in check (not (is_empty (places 0 marks))) E486 (Ok marks))) is

pub searched-by : (written : Range) (invert : Bool) (pattern : List ℕ) (text : List (List ℕ)) (cursor : ℕ) (span : Span) (none : Bool)
    → searched written (length text) cursor ≡ Ok span → is_empty (places 0 (taken_marks invert (literal_of pattern) text span)) ≡ none
    → marked_by written invert pattern text cursor ≡ check (not none) E486 (Ok (taken_marks invert (literal_of pattern) text span))
searched-by written invert pattern text cursor span none is empty =
    ap (λ (r : Result Span ExErr). on r (λ s.
    let marks = taken_marks invert (literal_of pattern) text s in check (not (is_empty (places 0 marks))) E486 (Ok marks))) is
    ∙ ap (λ (b : Bool). check (not b) E486 (Ok (taken_marks invert (literal_of pattern) text span))) empty

-- an error of the search is the whole's
pub search-refused : (marked : Result (List Bool) ExErr) (command : Command) (text : List (List ℕ)) (cursor : ℕ) (e : PlanErr)
    → IsRefused marked e → Answers (on marked (changed_at command text cursor)) (Err e)
search-refused marked command text cursor (error.Ex e) is = ap (λ (r : Result (List Bool) ExErr). on r (changed_at command text cursor)) is
search-refused marked command text cursor error.NoMemory is = tt
search-refused marked command text cursor error.Failed is = tt

-- ---- the same text

pub allows-same : (old new : TextState) (change : Plan) → new.lines ≡ old.lines → ((text : List (List ℕ)) → new.Is text → old.Is text) → Allows old change → Allows new change
allows-same old new plan.NoChange lines same allows = tt
allows-same old new (plan.Splice top count put cursor) lines same allows = record {
  within = omega (arith, lines, allows.within);
  few_lines = omega (arith, lines, allows.few_lines);
  short_lines = allows.short_lines;
  few_bytes = λ text is. allows.few_bytes text (same text is);
}

-- what may come of a text may come of the one that a store had
pub allowed-from : {S : Type 0} (g : Ghosts S) (view : S) (before : TextState) (lines : ℕ) (made : Option Untouched) (change : Plan) → before.lines ≡ lines
    → ((start : List (List ℕ)) → before.Is start → (lines ≡ length start) × WasText g view made start) → AllowsFrom g view lines made change → Allows before change
allowed-from g view before lines made plan.NoChange count was allows = tt
allowed-from g view before lines made (plan.Splice top old new cursor) count was allows = record {
  within = omega (arith, count, allows.0.within);
  few_lines = omega (arith, count, allows.0.few_lines);
  short_lines = allows.0.short_lines;
  few_bytes = λ start is. let here = was start is in allows.1 start here.0 here.1;
}

-- before the first command
pub first-at : {S : Type 0} (g : Ghosts S) (view : S) (marks : Marks) (text : List (List ℕ)) (cursor : ℕ) (bits : List Bool) → (g.shows view).present.Is text
    → lines_of marks ≡ places 0 bits → length bits ≡ length text → IsAt g view marks (record { made = None; cursor = cursor }) (first_marked text cursor bits)
first-at g view marks text cursor bits has are size = record { text = has; marked = are; size = size; made = refl; cursor = refl }

-- what is known of a store while it is lent is known of it afterwards
pub lent-back : {S : Type 0} (g : Ghosts S) (view now after : S) → after ≡ now → g.valid now → g.stays view now
    → SameText (g.shows view).committed (g.shows now).committed → Continues g view after
lent-back {S} g view now after ends valid stays committed =
    subst (λ (s : S). Continues g view s) (sym ends) (record { valid = valid; stays = stays; committed = committed })

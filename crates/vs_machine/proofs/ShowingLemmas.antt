-- What is shown at lines grows by what is shown at one line more.
use Rattle.std.proofs.Common.{◌≡◌, ◌∙◌, ℕ, Bool, None, suc, ◌+◌, ◌<◌, List, [], ◌∷◌, ◌++◌, Result, Ok, Err, length, take, drop, get_or, refl, ap, sym, subst, drop-cons}
use Rattle.std.proofs.lemmas.List.{take_more, flat_map_more, take-append-drop}
use Rattle.vs_text.specs.Text.{file_of}
use Rattle.vs_edit.specs.State.{SameText}
use Rattle.vs_edit.specs.declared.store.LineStore.{Ghosts}
use Rattle.vs_exparse.specs.declared.command.ExErr.{ExErr}
use Rattle.vs_excmd.specs.declared.answer.PlanErr.{PlanErr}
use Rattle.vs_excmd.specs.declared.answer.PlanErr.TheVariants as plan
use Rattle.vs_excmd.specs.declared.place.Span.{Span}
use Rattle.vs_excmd.specs.Errors.{on}
use Rattle.vs_global.specs.Carry.{AreMarked, IsRefused}
use Rattle.vs_undo.specs.History.{IsHistory}
use Rattle.vs_undo.specs.declared.keep.Keep.{Keep}
use Rattle.vs_undo.specs.declared.parts.Parts.{Parts}
use Rattle.vs_machine.specs.Answers.{AnswersAs, HasShown}
use Rattle.vs_machine.specs.Machine.{State, printing_all}
use Rattle.vs_machine.specs.Machine.Meaning.{Refused}
use Rattle.vs_machine.specs.Replies.{Answer, prints}
use Rattle.vs_machine.specs.Shown.{last_shown, shown_at, shown_by, shown_in, shown_lines}
use Rattle.vs_machine.proofs.AnswerLemmas.{as_meant}
use Rattle.vs_machine.specs.declared.searching.Output.{Output}
use Rattle.vs_machine.specs.declared.show.Showing.{Showing}

alone : (r : Result (List Span) ExErr) → r ≡ on r (λ spans. Ok spans)
alone (Ok spans) = refl
alone (Err error) = refl

regroup : (first : Result Span ExErr) (spans rest : Result (List Span) ExErr)
    → on first (λ s. on (on spans (λ ss. on rest (λ ts. Ok (ss ++ ts)))) (λ ss. Ok (s ∷ ss))) ≡ on (on first (λ s. on spans (λ ss. Ok (s ∷ ss)))) (λ ss. on rest (λ ts. Ok (ss ++ ts)))
regroup (Err error) spans rest = refl
regroup (Ok s) (Err error) rest = refl
regroup (Ok s) (Ok ss) (Err error) = refl
regroup (Ok s) (Ok ss) (Ok ts) = refl

-- lines, and then others
shown-append : (showing : Showing) (lines : ℕ) (taken more : List ℕ)
    → shown_at showing lines (taken ++ more) ≡ on (shown_at showing lines taken) (λ ss. on (shown_at showing lines more) (λ ts. Ok (ss ++ ts)))
shown-append showing lines [] more = alone (shown_at showing lines more)
shown-append showing lines (line ∷ taken) more =
    ap (λ (r : Result (List Span) ExErr). on (shown_by showing lines (line + 1)) (λ s. on r (λ ss. Ok (s ∷ ss)))) (shown-append showing lines taken more)
    ∙ regroup (shown_by showing lines (line + 1)) (shown_at showing lines taken) (shown_at showing lines more)

shown-then : (showing : Showing) (lines : ℕ) (taken more : List ℕ) (spans : List Span) → shown_at showing lines taken ≡ Ok spans
    → shown_at showing lines (taken ++ more) ≡ on (shown_at showing lines more) (λ ts. Ok (spans ++ ts))
shown-then showing lines taken more spans are = shown-append showing lines taken more ∙ ap (λ (r : Result (List Span) ExErr). on r (λ ss. on (shown_at showing lines more) (λ ts. Ok (ss ++ ts)))) are

shown-more : (showing : Showing) (lines : ℕ) (taken : List ℕ) (i : ℕ) (spans : List Span) (span : Span) → i < length taken → shown_at showing lines (take i taken) ≡ Ok spans
    → shown_by showing lines (get_or taken i 0 + 1) ≡ Ok span → shown_at showing lines (take (i + 1) taken) ≡ Ok (spans ++ span ∷ [])
shown-more showing lines taken i spans span below are is =
    ap (shown_at showing lines) (take_more taken i 0 below) ∙ shown-then showing lines (take i taken) (get_or taken i 0 ∷ []) spans are
    ∙ ap (λ (r : Result Span ExErr). on (on r (λ s. Ok (s ∷ []))) (λ ts. Ok (spans ++ ts))) is

last-more : (cursor : ℕ) (spans : List Span) (span : Span) → last_shown cursor (spans ++ span ∷ []) ≡ span.last
last-more cursor [] span = refl
last-more cursor (first ∷ spans) span = last-more first.last spans span

-- one line more was shown
pub show-more : {S : Type 0} (g : Ghosts S) (store : S) (showing : Showing) (lines cursor : ℕ) (taken : List ℕ) (i line : ℕ) (old new : Output) (span : Span) → i < length taken
    → line ≡ get_or taken i 0 → HasShown g store showing (shown_at showing lines (take i taken)) cursor old → shown_by showing lines (line + 1) ≡ Ok span
    → ((text : List (List ℕ)) → (g.shows store).present.Is text → new.bytes.items ≡ old.bytes.items ++ file_of (shown_lines showing.numbers text span)) → new.cursor ≡ span.last
    → HasShown g store showing (shown_at showing lines (take (i + 1) taken)) cursor new
show-more g store showing lines cursor taken i line old new span below line_is had is bytes cursor_is = record {
  spans = had.spans ++ span ∷ [];
  are = shown-more showing lines taken i had.spans span below had.are (ap (λ (k : ℕ). shown_by showing lines (k + 1)) (sym line_is) ∙ is);
  bytes = λ text has. bytes text has ∙ ap (λ (b : List ℕ). b ++ file_of (shown_lines showing.numbers text span)) (had.bytes text has)
      ∙ flat_map_more (λ (s : Span). file_of (shown_lines showing.numbers text s)) [] had.spans span;
  last = cursor_is ∙ sym (last-more cursor had.spans span);
}

split-at : (taken : List ℕ) (i : ℕ) → i < length taken → taken ≡ take i taken ++ (get_or taken i 0 ∷ drop (suc i) taken)
split-at taken i below = sym (take-append-drop i taken) ∙ ap (λ (l : List ℕ). take i taken ++ l) (drop-cons taken i 0 below)

refused-then : (showing : Showing) (lines : ℕ) (before after : List ℕ) (line : ℕ) (spans : List Span) (e : PlanErr) → shown_at showing lines before ≡ Ok spans
    → IsRefused (shown_by showing lines (line + 1)) e → IsRefused (shown_at showing lines (before ++ (line ∷ after))) e
refused-then showing lines before after line spans (plan.Ex error) are is =
    shown-then showing lines before (line ∷ after) spans are
    ∙ ap (λ (r : Result Span ExErr). on (on r (λ s. on (shown_at showing lines after) (λ ss. Ok (s ∷ ss)))) (λ ts. Ok (spans ++ ts))) is
refused-then showing lines before after line spans plan.NoMemory are is = tt
refused-then showing lines before after line spans plan.Failed are is = tt

-- an error at a line is that of all
pub refused-at : {S : Type 0} (g : Ghosts S) (store : S) (showing : Showing) (lines cursor : ℕ) (taken : List ℕ) (i line : ℕ) (old : Output) (e : PlanErr) → i < length taken
    → line ≡ get_or taken i 0 → HasShown g store showing (shown_at showing lines (take i taken)) cursor old → IsRefused (shown_by showing lines (line + 1)) e
    → IsRefused (shown_at showing lines taken) e
refused-at g store showing lines cursor taken i line old e below line_is had is =
    subst (λ (l : List ℕ). IsRefused (shown_at showing lines l) e) (sym (split-at taken i below))
    (refused-then showing lines (take i taken) (drop (suc i) taken) (get_or taken i 0) had.spans e had.are (subst (λ (k : ℕ). IsRefused (shown_by showing lines (k + 1)) e) line_is is))

-- an error of the search is that of all
pub search-refused : (showing : Showing) (text : List (List ℕ)) (marked : Result (List Bool) ExErr) (e : PlanErr) → IsRefused marked e → IsRefused (shown_in showing text marked) e
search-refused showing text marked (plan.Ex error) is = ap (shown_in showing text) is
search-refused showing text marked plan.NoMemory is = tt
search-refused showing text marked plan.Failed is = tt

-- what is shown at the lines of a search
in-as : (showing : Showing) (text : List (List ℕ)) (marked : Result (List Bool) ExErr) (taken : List ℕ) (lines : ℕ) → AreMarked marked text taken → lines ≡ length text
    → shown_in showing text marked ≡ shown_at showing lines taken
in-as showing text marked taken lines are count =
    ap (shown_in showing text) are.is ∙ ap (shown_at showing (length text)) (sym are.has.are) ∙ ap (λ (n : ℕ). shown_at showing n taken) (sym count)

pub shown-marked : {S : Type 0} (g : Ghosts S) (old new : S) (showing : Showing) (text : List (List ℕ)) (marked : Result (List Bool) ExErr) (taken : List ℕ) (lines cursor : ℕ) (output : Output)
    → SameText (g.shows old).present (g.shows new).present → AreMarked marked text taken → lines ≡ length text → HasShown g new showing (shown_at showing lines taken) cursor output
    → HasShown g old showing (shown_in showing text marked) cursor output
shown-marked g old new showing text marked taken lines cursor output same are count was = record {
  spans = was.spans;
  are = in-as showing text marked taken lines are count ∙ was.are;
  bytes = λ text has. was.bytes text (same.text text has);
  last = was.last;
}

pub marked-refused : (showing : Showing) (text : List (List ℕ)) (marked : Result (List Bool) ExErr) (taken : List ℕ) (lines : ℕ) (e : PlanErr) → AreMarked marked text taken → lines ≡ length text
    → IsRefused (shown_at showing lines taken) e → IsRefused (shown_in showing text marked) e
marked-refused showing text marked taken lines e are count is = subst (λ (r : Result (List Span) ExErr). IsRefused r e) (sym (in-as showing text marked taken lines are count)) is

-- the answer that prints what was shown
pub shown-answers : {S : Type 0} (g : Ghosts S) (state : State) (keep : Keep) (old new : S) (tree : Parts) (showing : Showing) (meant : Result (List Span) ExErr) (output : Output) (reply : Answer)
    → HasShown g old showing meant state.cursor output → reply ≡ prints output.bytes.items → (g.shows old).present.Is state.text → (g.shows new).present.Is state.text
    → IsHistory tree state.text state.history → (g.shows new).present.worked_by ≡ (g.shows old).present.worked_by
    → AnswersAs g state keep (printing_all (shown_lines showing.numbers state.text) state.cursor meant) (record { reply = reply; cursor = output.cursor; oldest = None }) old new tree
shown-answers g state keep old new tree showing meant output reply shown replied has now history same =
    as_meant (record {
      reply = replied ∙ ap prints (shown.bytes state.text has);
      after = record { text = now; history = history; cursor = shown.last };
      oldest = refl;
      works = same;
    }) (sym (ap (printing_all (shown_lines showing.numbers state.text) state.cursor) shown.are))

-- its error
pub printing-refused : (form : Span → List (List ℕ)) (cursor : ℕ) (meant : Result (List Span) ExErr) (error : PlanErr) (e : ExErr) → IsRefused meant error → error ≡ plan.Ex e
    → printing_all form cursor meant ≡ Refused e
printing-refused form cursor meant error e is same =
    let refused : meant ≡ Err e = subst (λ (p : PlanErr). IsRefused meant p) same is in ap (printing_all form cursor) refused

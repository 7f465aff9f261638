-- What an answer leaves of a store, its undo tree and a cursor.
use Rattle.std.proofs.Common.{◌≡◌, ◌≢◌, ◌+◌, ◌<◌, ◌≤◌, if◌then◌else◌, ℕ, List, length, true, false, Option, Some, None, unwrap_or, Result, Ok, Err, IfOk, OnOk, ap, sym, subst, ◌∙◌, arith, refl}
use Rattle.std.proofs.lemmas.Bool.{true≢false}
use Rattle.std.proofs.lemmas.Bool.Decides.{nat_tests}
use Rattle.vs_edit.specs.Splices.{IsSmallSplice}
use Rattle.vs_edit.specs.State.{SameText, TextState, WorksAtMost}
use Rattle.vs_edit.proofs.Steps.{works_none}
use Rattle.vs_edit.specs.declared.store.LineStore.{Ghosts}
use Rattle.vs_edit.specs.declared.store.StoreErr.{StoreErr}
use Rattle.vs_exparse.specs.Command.{Command}
use Rattle.vs_exparse.specs.declared.command.ExErr.{ExErr}
use Rattle.vs_excmd.specs.declared.answer.PlanErr.{PlanErr}
use Rattle.vs_excmd.specs.declared.answer.PlanErr.TheVariants as plan
use Rattle.vs_excmd.specs.Change.{Change, spliced}
use Rattle.vs_excmd.specs.Meaning.{changes_text, planned}
use Rattle.vs_excmd.specs.Request.{StandsFor}
use Rattle.vs_excmd.specs.declared.request.Block.{Block}
use Rattle.vs_undo.specs.History.{IsHistory, links_of}
use Rattle.vs_undo.specs.Forgetting.{history_kept, root_kept}
use Rattle.vs_undo.specs.declared.keep.Keep.{Keep}
use Rattle.vs_undo.specs.Moves.{HasStayed}
use Rattle.vs_undo.specs.declared.error.UndoErr.{UndoErr}
use Rattle.vs_undo.specs.declared.error.UndoErr.TheVariants.{NoMemory, NumbersFull, Failed}
use Rattle.vs_undo.specs.declared.TheConstants.{MAX_NUMBER}
use Rattle.vs_undo.specs.declared.parts.Parts.{Parts}
use Rattle.vs_machine.specs.Answers.{AnswersAs, IsIn, IsRefusal, WorksAs}
use Rattle.vs_machine.specs.Machine.{State, Meaning, changed_state, changing, is_used_up, meaning_in}
use Rattle.vs_machine.specs.Machine.Meaning.{Changed, Moved, Printed, Refused, Stayed, Unchanged}
use Rattle.vs_machine.specs.Replies.{Answer, change_line, refuses, says, undo_error_text}
use Rattle.vs_machine.proofs.MeaningLemmas.{meaning_of_change}
use Rattle.vs_machine.specs.declared.answering.Answered.{Answered}

-- the same meaning by another name
pub as_meant : {S : Type 0} {g : Ghosts S} {state : State} {keep : Keep} {a b : Meaning} {answered : Answered} {before store : S} {tree : Parts}
    → AnswersAs g state keep a answered before store tree → a ≡ b → AnswersAs g state keep b answered before store tree
as_meant {S} {g} {state} {keep} {a} {b} {answered} {before} {store} {tree} answers is = subst (λ (m : Meaning). AnswersAs g state keep m answered before store tree) is answers

-- no page was worked
pub unworked : (state : State) (meaning : Meaning) (most : ℕ) (old new : ℕ → ℕ) → new ≡ old → WorksAs state meaning most old new
unworked state (Refused error) most old new same = same
unworked state Unchanged most old new same = same
unworked state (Changed change) most old new same = (λ used. same, λ small. works_none most old new same)
unworked state (Moved number) most old new same = λ stays. same
unworked state (Stayed error) most old new same = same
unworked state (Printed bytes line) most old new same = same

-- what was worked after a store was read
works_read : (state : State) (meaning : Meaning) (old mid new : TextState) → SameText old mid → WorksAs state meaning mid.most mid.worked_by new.worked_by
    → WorksAs state meaning old.most old.worked_by new.worked_by
works_read state meaning old mid new same works =
    subst (λ (n : ℕ). WorksAs state meaning n old.worked_by new.worked_by) same.most (subst (λ (w : ℕ → ℕ). WorksAs state meaning mid.most w new.worked_by) same.worked_by works)

-- an answer after a store was read
pub after_reading : {S : Type 0} {g : Ghosts S} {state : State} {keep : Keep} {meaning : Meaning} {answered : Answered} {before mid store : S} {tree : Parts}
    → SameText (g.shows before).present (g.shows mid).present → AnswersAs g state keep meaning answered mid store tree → AnswersAs g state keep meaning answered before store tree
after_reading {g} {state} {meaning} {before} {mid} {store} same answers = record {
  reply = answers.reply;
  after = answers.after;
  oldest = answers.oldest;
  works = works_read state meaning (g.shows before).present (g.shows mid).present (g.shows store).present same answers.works;
}

-- the state stays where tree and text do
pub same_in : {S : Type 0} {g : Ghosts S} {old new : S} {tree tree' : Parts} {cursor : ℕ} {state : State} → HasStayed g tree tree' old new → IsIn g old tree cursor state → IsIn g new tree' cursor state
same_in {S} {g} {old} {new} {tree} {tree'} {cursor} {state} stayed is = record {
  text = stayed.text.text state.text is.text;
  history = subst (λ (p : Parts). IsHistory p state.text state.history) (sym stayed.tree) is.history;
  cursor = is.cursor;
}

-- the state stays where a store is only read
pub read_in : {S : Type 0} {g : Ghosts S} {old new : S} {tree : Parts} {cursor : ℕ} {state : State} → SameText (g.shows old).present (g.shows new).present → IsIn g old tree cursor state → IsIn g new tree cursor state
read_in {S} {g} {old} {new} {tree} {cursor} {state} same is = record { text = same.text state.text is.text; history = is.history; cursor = is.cursor }

-- what comes of a change or a move that was not made
pub not_made_answers : (r : Result Answered StoreErr) (P : Answered → Type 0) (error : UndoErr) (stays : Answered) → IfOk r (λ answered. answered ≡ stays)
    → OnOk r (error ≢ NoMemory) → OnOk r (error ≢ Failed) → (error ≢ NoMemory → error ≢ Failed → P stays) → IfOk r P
not_made_answers (Ok answered) P error stays is done held says = subst P (sym is) (says done held)
not_made_answers (Err cause) P error stays is done held says = tt

-- a change that was made
pub made : {S : Type 0} (g : Ghosts S) (state : State) (keep : Keep) (number lines oldest : ℕ) (root : Option ℕ) (change : Change) (reply : Answer) (old tree : Parts) (before store : S)
    → IsHistory old state.text state.history → old.last < MAX_NUMBER → number ≡ old.last + 1 → root ≡ root_kept keep (links_of old) → oldest ≡ unwrap_or root 0 → lines ≡ length (spliced state.text change)
    → reply ≡ says (change_line number lines) → (g.shows store).present.Is (spliced state.text change)
    → IsHistory tree (spliced state.text change) (history_kept (spliced state.text change) keep state.history)
    → (IsSmallSplice state.text change.top change.old change.new → WorksAtMost (g.shows before).present.most (g.shows before).present.worked_by (g.shows store).present.worked_by)
    → AnswersAs g state keep (Changed change) (record { reply = reply; cursor = change.cursor; oldest = Some oldest }) before store tree
made g state keep number lines oldest root change reply old tree before store was room numbered rooted oldest_is counted replied has is works =
    let last : old.last ≡ state.history.links.last = ap (λ (p : Parts). p.last) was.links in
    let free : is_used_up state ≡ false = grind (arith, nat_tests) in
    record {
      reply = replied ∙ (ap (λ n. says (change_line n lines)) (numbered ∙ ap (λ n. n + 1) last)
          ∙ (ap (λ n. says (change_line (state.history.links.last + 1) n)) counted
          ∙ sym (ap (λ b. if b then refuses (undo_error_text NumbersFull) else says (change_line (state.history.links.last + 1) (length (spliced state.text change)))) free)));
      after = subst (λ (s : State). IsIn g store tree change.cursor s) (sym (ap (λ b. if b then state else changed_state state keep change) free)) (record { text = has; history = is; cursor = refl });
      oldest = ap Some oldest_is ∙ ap (λ (r : Option ℕ). Some (unwrap_or r 0)) (rooted ∙ ap (root_kept keep) was.links)
          ∙ sym (ap (λ b. if b then None else Some (unwrap_or (root_kept keep state.history.links) 0)) free);
      works = (λ used. absurd (true≢false (sym used ∙ free)), works);
    }

-- a change for which there is no number
pub not_numbered : {S : Type 0} (g : Ghosts S) (state : State) (keep : Keep) (line : ℕ) (change : Change) (old tree : Parts) (before store : S) → IsHistory old state.text state.history
    → MAX_NUMBER ≤ old.last → IsIn g store tree line state → SameText (g.shows before).present (g.shows store).present
    → AnswersAs g state keep (Changed change) (record { reply = refuses (undo_error_text NumbersFull); cursor = line; oldest = None }) before store tree
not_numbered g state keep line change old tree before store was full is same =
    let last : old.last ≡ state.history.links.last = ap (λ (p : Parts). p.last) was.links in
    let used : is_used_up state ≡ true = grind (arith, nat_tests) in
    record {
      reply = sym (ap (λ b. if b then refuses (undo_error_text NumbersFull) else says (change_line (state.history.links.last + 1) (length (spliced state.text change)))) used);
      after = subst (λ (s : State). IsIn g store tree line s) (sym (ap (λ b. if b then state else changed_state state keep change) used)) is;
      oldest = sym (ap (λ b. if b then None else Some (unwrap_or (root_kept keep state.history.links) 0)) used);
      works = unworked state (Changed change) (g.shows before).present.most (g.shows before).present.worked_by (g.shows store).present.worked_by same.worked_by;
    }

-- an error of a command that was planned
pub refused_by : {S : Type 0} (g : Ghosts S) (state : State) (keep : Keep) (meaning : Meaning) (error : PlanErr) (line : ℕ) (answered : Answered) (before store : S) (tree : Parts)
    → IsRefusal error line answered → ((e : ExErr) → error ≡ plan.Ex e → meaning ≡ Refused e) → IsIn g store tree line state
    → SameText (g.shows before).present (g.shows store).present → AnswersAs g state keep meaning answered before store tree
refused_by g state keep meaning (plan.Ex e) line answered before store tree refusal means is same =
    as_meant (subst (λ (a : Answered). AnswersAs g state keep (Refused e) a before store tree) (sym refusal)
    (record { reply = refl; after = is; oldest = refl; works = same.worked_by })) (sym (means e refl))
refused_by g state keep meaning plan.NoMemory line answered before store tree refusal means is same = absurd refusal
refused_by g state keep meaning plan.Failed line answered before store tree refusal means is same = absurd refusal

-- an answer to what a command comes to is one to the command
pub to_move : {S : Type 0} (g : Ghosts S) (old new : S) (tree tree' : Parts) (line : ℕ) (keep : Keep) (r : Result Answered StoreErr) (meaning : State → Meaning) (command : Command)
    → ((state : State) (lines : List (List ℕ)) → meaning state ≡ meaning_in state command lines)
    → IfOk r (λ answered. (state : State) (keep : Keep) → IsIn g old tree line state → AnswersAs g state keep (meaning state) answered old new tree')
    → IfOk r (λ answered. (state : State) (lines : List (List ℕ)) → IsIn g old tree line state → AnswersAs g state keep (meaning_in state command lines) answered old new tree')
to_move g old new tree tree' line keep (Ok answered) meaning command says answers = λ state lines is. as_meant (answers state keep is) (says state lines)
to_move g old new tree tree' line keep (Err cause) meaning command says answers = tt

pub to_read : {S : Type 0} (g : Ghosts S) (old new : S) (line : ℕ) (tree : Parts) (keep : Keep) (r : Result Answered StoreErr) (meaning : State → Meaning) (command : Command)
    → ((state : State) (lines : List (List ℕ)) → meaning state ≡ meaning_in state command lines)
    → IfOk r (λ answered. (state : State) (keep : Keep) (tree : Parts) → IsIn g old tree line state → AnswersAs g state keep (meaning state) answered old new tree)
    → IfOk r (λ answered. (state : State) (lines : List (List ℕ)) → IsIn g old tree line state → AnswersAs g state keep (meaning_in state command lines) answered old new tree)
to_read g old new line tree keep (Ok answered) meaning command says answers = λ state lines is. as_meant (answers state keep tree is) (says state lines)
to_read g old new line tree keep (Err cause) meaning command says answers = tt

pub to_searched : {S : Type 0} (g : Ghosts S) (old new : S) (tree tree' : Parts) (line : ℕ) (keep : Keep) (r : Result Answered StoreErr) (meaning : State → Meaning) (command : Command)
    → ((state : State) (lines : List (List ℕ)) → meaning state ≡ meaning_in state command lines)
    → IfOk r (λ answered. (state : State) → IsIn g old tree line state → AnswersAs g state keep (meaning state) answered old new tree')
    → IfOk r (λ answered. (state : State) (lines : List (List ℕ)) → IsIn g old tree line state → AnswersAs g state keep (meaning_in state command lines) answered old new tree')
to_searched g old new tree tree' line keep (Ok answered) meaning command says answers = λ state lines is. as_meant (answers state is) (says state lines)
to_searched g old new tree tree' line keep (Err cause) meaning command says answers = tt

pub to_change : {S : Type 0} (g : Ghosts S) (old new : S) (tree tree' : Parts) (line : ℕ) (keep : Keep) (r : Result Answered StoreErr) (command : Command) (block : Block) → changes_text command ≡ true
    → IfOk r (λ answered. (state : State) (lines : List (List ℕ)) → IsIn g old tree line state → StandsFor block lines → AnswersAs g state keep (changing (planned command lines state.text state.cursor)) answered old new tree')
    → IfOk r (λ answered. (state : State) (lines : List (List ℕ)) → IsIn g old tree line state → StandsFor block lines → AnswersAs g state keep (meaning_in state command lines) answered old new tree')
to_change g old new tree tree' line keep (Ok answered) command block changes answers = λ state lines is stands. as_meant (answers state lines is stands) (meaning_of_change state command lines changes)
to_change g old new tree tree' line keep (Err cause) command block changes answers = tt

pub with_block : {S : Type 0} (g : Ghosts S) (old new : S) (tree tree' : Parts) (line : ℕ) (keep : Keep) (r : Result Answered StoreErr) (command : Command) (block : Block)
    → IfOk r (λ answered. (state : State) (lines : List (List ℕ)) → IsIn g old tree line state → AnswersAs g state keep (meaning_in state command lines) answered old new tree')
    → IfOk r (λ answered. (state : State) (lines : List (List ℕ)) → IsIn g old tree line state → StandsFor block lines → AnswersAs g state keep (meaning_in state command lines) answered old new tree')
with_block g old new tree tree' line keep (Ok answered) command block answers = λ state lines is stands. answers state lines is
with_block g old new tree tree' line keep (Err cause) command block answers = tt

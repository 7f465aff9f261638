-- Moves of the undo tree go where the machine says: the way of a state is the one way that it has.
use Rattle.std.proofs.Common.{◌≡◌, ◌≢◌, ℕ, ◌==◌, ◌&&◌, if◌then◌else◌, true, false, Result, Ok, Err, IfOk, IfErr, inl, inr, ap, sym, subst, ◌∙◌, arith}
use Rattle.std.proofs.lemmas.Bool.Decides.{nat_tests}
use Rattle.vs_edit.specs.State.{SameText}
use Rattle.vs_edit.specs.declared.store.LineStore.{Ghosts}
use Rattle.vs_undo.specs.declared.error.UndoErr.{UndoErr}
use Rattle.vs_undo.specs.declared.error.UndoErr.TheVariants.{AtOldest, AtNewest}
use Rattle.vs_undo.specs.declared.parts.Parts.{Parts}
use Rattle.vs_undo.specs.Errors.{IsMoveErr}
use Rattle.vs_undo.specs.History.{IsHistory, history_at}
use Rattle.vs_undo.specs.Moves.{HasMoved}
use Rattle.vs_undo.specs.Sound.{IsSound}
use Rattle.vs_undo.specs.Writes.{earlier_save, earlier_write, later_save, later_write, last_number, IsEarlierWrite, IsAtOldestWrite, IsLaterWrite, IsAtNewestWrite}
use Rattle.vs_undo.proofs.ShortWays.{way_is}
use Rattle.vs_machine.specs.Answers.{HasGone, IsWhy}
use Rattle.vs_machine.specs.Moves.{goal_of}
use Rattle.vs_undo.specs.Ways.{way_of}
use Rattle.vs_machine.specs.declared.moves.Move.{Move}
use Rattle.vs_machine.specs.declared.moves.Move.TheVariants.{EarlierWrites, LaterWrites}
use Rattle.vs_machine.proofs.LinkLemmas.{way-bare}

-- a move of the undo tree
pub gone : {S : Type 0} (g : Ghosts S) (old new : Parts) (before after : S) (goal : ℕ) → IsSound old → HasMoved g old new before after goal → HasGone g old new before after goal
gone g old new before after goal sound moved = λ text history has is.
    let done = moved.history text history has is in
    let way : moved.way ≡ way_of history.links.nodes goal = sym (ap (λ (p : Parts). way_of p.nodes goal) (sym is.links) ∙ (way-bare old.nodes goal ∙ way_is old.nodes goal moved.way sound.tree moved.is_way)) in
    (done.0, subst (λ w. IsHistory new (history.texts goal) (history_at w history)) way done.1)

pub all_gone : {S : Type 0} (g : Ghosts S) (old new : Parts) (before after : S) (r : Result ℕ UndoErr) → IsSound old → IfOk r (HasMoved g old new before after) → IfOk r (HasGone g old new before after)
all_gone g old new before after (Ok goal) sound moved = gone g old new before after goal sound moved
all_gone g old new before after (Err error) sound moved = tt

-- a move to the state that one is in leaves what the store shows
pub all_still : {S : Type 0} (g : Ghosts S) (old new : Parts) (before after : S) (r : Result ℕ UndoErr) → IfOk r (HasMoved g old new before after)
    → IfOk r (λ number. number ≡ old.current → SameText (g.shows before).present (g.shows after).present)
all_still g old new before after (Ok goal) moved = moved.still
all_still g old new before after (Err error) moved = tt

-- a test of two equations
both_not : (a b c d : ℕ) (error : UndoErr) (there goal : ℕ) → (a ≡ c → b ≢ d) → goal ≡ there → (if (a == c) && (b == d) then Err error else Ok there) ≡ Ok goal
both_not a b c d error there goal differ is =
    let no : ((a == c) && (b == d)) ≡ false = grind (arith, nat_tests, differ) in ap (λ t. if t then Err error else Ok there) no ∙ ap Ok (sym is)

both_are : (a b c d : ℕ) (error : UndoErr) (there : ℕ) → a ≡ c → b ≡ d → (if (a == c) && (b == d) then Err error else Ok there) ≡ Err error
both_are a b c d error there one two =
    let yes : ((a == c) && (b == d)) ≡ true = grind (arith, nat_tests) in ap (λ t. if t then Err error else Ok there) yes

pub at_earlier_write : (parts : Parts) (by goal : ℕ) → IsSound parts → IsEarlierWrite parts by goal → goal_of (EarlierWrites by) parts ≡ Ok goal
at_earlier_write parts by goal sound is =
    ap (λ way. if (earlier_save parts.nodes way by == 0) && (parts.current == 0) then Err AtOldest else Ok (earlier_write parts.nodes way by)) (way_is parts.nodes parts.current is.way sound.tree is.is_way)
    ∙ both_not (earlier_save parts.nodes is.way by) parts.current 0 0 AtOldest (earlier_write parts.nodes is.way by) goal is.moves is.is

pub at_oldest_write : (parts : Parts) (by : ℕ) → IsSound parts → IsAtOldestWrite parts by → goal_of (EarlierWrites by) parts ≡ Err AtOldest
at_oldest_write parts by sound is =
    ap (λ way. if (earlier_save parts.nodes way by == 0) && (parts.current == 0) then Err AtOldest else Ok (earlier_write parts.nodes way by)) (way_is parts.nodes parts.current is.way sound.tree is.is_way)
    ∙ both_are (earlier_save parts.nodes is.way by) parts.current 0 0 AtOldest (earlier_write parts.nodes is.way by) is.fewer is.oldest

pub at_later_write : (parts : Parts) (by goal : ℕ) → IsSound parts → IsLaterWrite parts by goal → goal_of (LaterWrites by) parts ≡ Ok goal
at_later_write parts by goal sound is =
    ap (λ way. if (later_save parts.nodes way by == 0) && (parts.current == last_number parts.nodes) then Err AtNewest else Ok (later_write parts.nodes way by)) (way_is parts.nodes parts.current is.way sound.tree is.is_way)
    ∙ both_not (later_save parts.nodes is.way by) parts.current 0 (last_number parts.nodes) AtNewest (later_write parts.nodes is.way by) goal is.moves is.is

pub at_newest_write : (parts : Parts) (by : ℕ) → IsSound parts → IsAtNewestWrite parts by → goal_of (LaterWrites by) parts ≡ Err AtNewest
at_newest_write parts by sound is =
    ap (λ way. if (later_save parts.nodes way by == 0) && (parts.current == last_number parts.nodes) then Err AtNewest else Ok (later_write parts.nodes way by)) (way_is parts.nodes parts.current is.way sound.tree is.is_way)
    ∙ both_are (later_save parts.nodes is.way by) parts.current 0 (last_number parts.nodes) AtNewest (later_write parts.nodes is.way by) is.fewer is.newest

-- what a move by writes says of where it leads, by its name
pub reached : {step known : Move} (parts : Parts) (r : Result ℕ UndoErr) (Is : ℕ → Type 0) → step ≡ known → ((goal : ℕ) → Is goal → goal_of known parts ≡ Ok goal) → IfOk r Is
    → IfOk r (λ number. goal_of step parts ≡ Ok number)
reached parts (Ok goal) Is same says is = ap (λ s. goal_of s parts) same ∙ says goal is
reached parts (Err error) Is same says is = tt

pub why : {step known : Move} (parts : Parts) (r : Result ℕ UndoErr) (refusal : UndoErr) (Holds : Type 0) → step ≡ known → (Holds → goal_of known parts ≡ Err refusal)
    → IfErr r (IsMoveErr refusal Holds) → IfErr r (IsWhy (goal_of step parts))
why parts (Ok number) refusal Holds same says err = tt
why parts (Err error) refusal Holds same says err =
    elim err [ inl is ↦ inl (ap (λ s. goal_of s parts) same ∙ (says is.1 ∙ ap Err (sym is.0))) | inr other ↦ inr other ]

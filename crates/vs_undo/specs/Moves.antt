-- What a call asks of a tree and a store with its current text, and what it leaves of them.
use Rattle.std.specs.Prelude.{ℕ, ◌≡◌, ◌+◌, ◌≤◌, List, [], ◌∷◌, length, max, Some, Result, IfOk, IsErrOf, OnErr}
use Rattle.vs_edit.specs.Calls.{StopsAtFault}
use Rattle.vs_edit.specs.Splices.{splice}
use Rattle.vs_edit.specs.State.{SameText, IsSpliced}
use Rattle.vs_edit.specs.declared.store.LineStore.{Ghosts}
use Rattle.vs_entries.specs.Entries.{splice_back}
use Rattle.vs_undo.specs.declared.error.UndoErr.{UndoErr}
use Rattle.vs_undo.specs.declared.error.UndoErr.TheVariants.{Failed}
use Rattle.vs_undo.specs.declared.keep.Keep.{Keep}
use Rattle.vs_undo.specs.declared.parts.Parts.{Parts}
use Rattle.vs_undo.specs.declared.parts.Node.{Node}
use Rattle.vs_undo.specs.Ways.{node_at, IsWayOf}
use Rattle.vs_undo.specs.Turns.{exchanged}
use Rattle.vs_undo.specs.Forgetting.{tree_kept, history_kept}
use Rattle.vs_undo.specs.History.{links_of, moved, history_at, History, IsHistory, FitsCount, FitsText}

-- The store shows the text of the current state, which is committed, and the entries of the tree fit it.
pub record IsReady {S : Type 0} (g : Ghosts S) (tree : Parts) (store : S) : Type 0 where
  pub valid : g.valid store
  pub committed : SameText (g.shows store).present (g.shows store).committed
  pub counts : FitsCount tree (max 1 (g.shows store).present.lines)
  pub texts : (text : List (List ℕ)) → (g.shows store).present.Is text → FitsText tree text

-- The tree has moved to a state: each state on the way to it is the child last used of its parent, nothing else of the history
-- has changed, the store shows the text of that state, and the entries of each change are those that lead on from there. Where that
-- is the state that it was in, the store shows what it showed.
pub record HasMoved {S : Type 0} (g : Ghosts S) (old new : Parts) (before after : S) (number : ℕ) : Type 0 where
  pub way : List ℕ
  pub is_way : IsWayOf old.nodes number way
  pub links : links_of new ≡ moved way (links_of old)
  pub history : (text : List (List ℕ)) (history : History) → (g.shows before).present.Is text → IsHistory old text history
      → (g.shows after).present.Is (history.texts number) × IsHistory new (history.texts number) (history_at way history)
  pub entries : (text : List (List ℕ)) (history : History) → (g.shows before).present.Is text → IsHistory old text history
      → (from : List ℕ) → IsWayOf old.nodes old.current from
      → (k : ℕ) (was now : Node) → node_at old.nodes k ≡ Some was → node_at new.nodes k ≡ Some now → now.entries ≡ exchanged from way history.texts was
  pub still : number ≡ old.current → SameText (g.shows before).present (g.shows after).present

-- The tree has one more change, with the entry that leads back, and has forgotten the oldest states as far as this says: the new state
-- is the current one, and the store shows the spliced text.
pub record HasChanged {S : Type 0} (g : Ghosts S) (old new : Parts) (before after : S) (top count : ℕ) (lines : List (List ℕ)) (keep : Keep) : Type 0 where
  pub links : links_of new ≡ (tree_kept [] keep (links_of old)).tree
  pub parts : (text : List (List ℕ)) → (g.shows before).present.Is text → new ≡ (tree_kept (splice_back text top count (length lines) ∷ []) keep old).tree
  pub current : new.current ≡ old.last + 1
  pub few : length new.nodes ≤ keep.levels
  pub spliced : IsSpliced (g.shows before).present top count lines (g.shows after).present
  pub history : (text : List (List ℕ)) (history : History) → (g.shows before).present.Is text → IsHistory old text history
      → IsHistory new (splice text top count lines) (history_kept (splice text top count lines) keep history)

-- Tree and text are as before.
pub record HasStayed {S : Type 0} (g : Ghosts S) (old new : Parts) (before after : S) : Type 0 where
  pub tree : new ≡ old
  pub text : SameText (g.shows before).present (g.shows after).present

-- Tree and store are ready for the next call, over the same borrows. After an error both are as before, and this one comes only from the store.
pub record IsAtomic {S X E : Type 0} (g : Ghosts S) (old new : Parts) (before after : S) (failed : E) (result : Result X E) : Type 0 where
  pub stayed : OnErr result (HasStayed g old new before after)
  pub ready : IsReady g new after
  pub stays : g.stays before after
  pub cause : StopsAtFault g (IsErrOf result failed) before after

-- The tree has moved to the state whose number was given, or nothing has changed.
pub record IsMove {S : Type 0} (g : Ghosts S) (old new : Parts) (before after : S) (result : Result ℕ UndoErr) : Type 0 where
  pub moved : IfOk result (HasMoved g old new before after)
  pub atomic : IsAtomic g old new before after Failed result

-- A store that has just committed its text, gone back to the committed one, or kept both, shows one text, and what was ready before is so again.
use Rattle.std.proofs.Common.{◌≡◌, ℕ, List, max, Result, Ok, Err, IsErrAnd, OnErr, sym, ap, subst, ◌∙◌}
use Rattle.vs_faults.proofs.OneCause.{one_as}
use Rattle.vs_edit.proofs.Steps.{SameText-trans}
use Rattle.vs_edit.specs.State.{SameText, TextState}
use Rattle.vs_edit.specs.declared.store.LineStore.{Ghosts}
use Rattle.vs_undo.specs.History.{FitsCount, FitsText}
use Rattle.vs_undo.specs.Moves.{HasMoved, HasStayed, IsAtomic, IsMove, IsReady}
use Rattle.vs_undo.specs.declared.error.UndoErr.{UndoErr}
use Rattle.vs_undo.specs.declared.error.UndoErr.TheVariants.{Failed}
use Rattle.vs_undo.specs.declared.parts.Parts.{Parts}

-- what a store shows and what it has committed, both of which are a text that it had
pub settled : {had present committed : TextState} → SameText had present → SameText had committed → ((text : List (List ℕ)) → present.Is text → (was : List (List ℕ)) × had.Is was)
    → ((a b : List (List ℕ)) → present.Is a → present.Is b → a ≡ b) → SameText present committed
settled {committed} shown kept told one = record {
  text = λ text has. let was = told text has in subst (λ t. committed.Is t) (one was.0 text (shown.text was.0 was.1) has) (kept.text was.0 was.1);
  lines = kept.lines ∙ sym shown.lines;
  bytes = kept.bytes ∙ sym shown.bytes;
  worked_by = kept.worked_by ∙ sym shown.worked_by;
  most = kept.most ∙ sym shown.most;
}

-- what holds anyway holds after an error
pub on_err : {T E A : Type 0} (r : Result T E) → A → OnErr r A
on_err (Ok x) a = tt
on_err (Err e) a = a

-- a store that shows both its texts as before
pub stayed : {S : Type 0} (g : Ghosts S) (tree : Parts) (before after : S) → IsReady g tree before → SameText (g.shows before).present (g.shows after).present
    → SameText (g.shows before).committed (g.shows after).committed → g.valid after
    → ((text : List (List ℕ)) → (g.shows after).present.Is text → (was : List (List ℕ)) × (g.shows before).present.Is was)
    → ((a b : List (List ℕ)) → (g.shows after).present.Is a → (g.shows after).present.Is b → a ≡ b) → IsReady g tree after
stayed g tree before after ready present committed valid told one = record {
  valid = valid;
  committed = settled present (SameText-trans ready.committed committed) told one;
  counts = subst (λ n. FitsCount tree (max 1 n)) (sym present.lines) ready.counts;
  texts = λ text has. let was = told text has in subst (λ t. FitsText tree t) (one was.0 text (present.text was.0 was.1) has) (ready.texts was.0 was.1);
}

-- the store went back, by way of one that it passed through
pub gone_back : {S : Type 0} (g : Ghosts S) (tree : Parts) (before mid after : S) → IsReady g tree before → SameText (g.shows before).committed (g.shows mid).committed
    → SameText (g.shows mid).committed (g.shows after).present → SameText (g.shows mid).committed (g.shows after).committed → g.valid after
    → ((text : List (List ℕ)) → (g.shows after).present.Is text → (was : List (List ℕ)) × (g.shows before).present.Is was)
    → ((a b : List (List ℕ)) → (g.shows after).present.Is a → (g.shows after).present.Is b → a ≡ b) → IsReady g tree after
gone_back g tree before mid after ready on present committed valid told one =
    stayed g tree before after ready (SameText-trans ready.committed (SameText-trans on present)) (SameText-trans on committed) valid told one

-- a move, by what the call left that made it, of a tree that is seen as its parts
module _ {S X : Type 0} {g : Ghosts S} {parts seen new : Parts} {before after : S} (same : parts ≡ seen) where
  pub moved : {x : X} {number : ℕ} → HasMoved g parts new before after number → IsAtomic g parts new before after Failed (Ok x) → IsMove g seen new before after (Ok number)
  moved {number} has is = record {
    moved = subst (λ (p : Parts). HasMoved g p new before after number) same has;
    atomic = record { stayed = tt; ready = is.ready; stays = is.stays; cause = one_as is.cause (λ failed. absurd (cc)) (λ failed. absurd (cc)) };
  }

  pub not_moved : {error : UndoErr} (r : Result ℕ UndoErr) → IsErrAnd r (λ e. e ≡ error) → IsAtomic {X = X} g parts new before after Failed (Err error) → IsMove g seen new before after r
  not_moved (Ok number) gives is = absurd gives
  not_moved {error = error} (Err e) gives is = record {
    moved = tt;
    atomic = record {
      stayed = subst (λ (p : Parts). HasStayed g p new before after) same is.stayed;
      ready = is.ready;
      stays = is.stays;
      cause = one_as is.cause (λ failed. let of : e ≡ Failed = cc in ap Err (sym gives ∙ of)) (λ failed. let of : error ≡ Failed = cc in ap Err (gives ∙ of));
    };
  }

-- A push adds a change, and then forgets: each of the two keeps what the other asks.
use Rattle.std.proofs.Common.{◌≡◌, ℕ, ◌+◌, ◌<◌, ◌≤◌, List, [], ◌∷◌, length, sym, ap, subst, ◌∙◌, arith}
use Rattle.vs_entries.specs.declared.entry.Entry.{Entry}
use Rattle.vs_entries.specs.Entries.{Leads, LeadsCount}
use Rattle.vs_undo.specs.declared.TheConstants.{MAX_NUMBER}
use Rattle.vs_undo.specs.declared.parts.Parts.{Parts}
use Rattle.vs_undo.specs.Forgetting.{forgotten, history_forgotten, IsFresh, Remainder}
use Rattle.vs_undo.specs.History.{IsHistory, FitsCount, FitsText, History, history_pushed, pushed}
use Rattle.vs_undo.specs.Meetings.{IsSettled}
use Rattle.vs_undo.specs.Sound.{IsSound}
use Rattle.vs_undo.proofs.ForgetLemmas.{forgotten_few, forgotten_fresh, forgotten_save, forgotten_stays, forgotten_settled, forgotten_history, forgotten_count, forgotten_text, whole_kept}
use Rattle.vs_undo.proofs.SettledLemmas.{pushed_settled}
use Rattle.vs_undo.proofs.PushLemmas.{last_save_after, pushed_fresh, pushed_history, pushed_count, pushed_last, pushed_text}

pub fresh_after : (back : Entry) (time : ℕ) (old grown : Parts) → IsSound old → old.last < MAX_NUMBER → grown ≡ pushed (back ∷ []) time old → IsFresh grown
fresh_after back time old grown sound room is = subst IsFresh (sym is) (pushed_fresh (back ∷ []) time old sound room (omega arith))

pub settled_after : (back : Entry) (time : ℕ) (old grown : Parts) → IsSound old → grown ≡ pushed (back ∷ []) time old → IsSettled old → IsSettled grown
settled_after back time old grown sound is settled = subst (λ (p : Parts). IsSettled p) (sym is) (pushed_settled (back ∷ []) time old sound settled)

module _ (back : Entry) (time levels : ℕ) (old grown new : Parts) (root : ℕ) (sound : IsSound old) (room : old.last < MAX_NUMBER) (some : 1 ≤ levels)
    (is : grown ≡ pushed (back ∷ []) time old) (left : forgotten levels grown ≡ record { tree = new; root = root }) where
  abbrev after : Parts
  after = pushed (back ∷ []) time old

  fresh : IsFresh after
  fresh = pushed_fresh (back ∷ []) time old sound room (omega arith)

  all : record { tree = new; root = root } ≡ forgotten levels after
  all = sym left ∙ ap (forgotten levels) is

  tree_is : new ≡ (forgotten levels (pushed (back ∷ []) time old)).tree
  tree_is = ap (λ (r : Remainder). r.tree) all

  pub sound_left : IsSound new
  sound_left = subst (λ (p : Parts). IsSound p) (sym tree_is) (forgotten_fresh levels some after fresh).sound

  pub settled_left : IsSettled old → IsSettled new
  settled_left settled = subst (λ (p : Parts). IsSettled p) (sym tree_is) (forgotten_settled levels some after fresh (pushed_settled (back ∷ []) time old sound settled))

  pub current_left : new.current ≡ old.last + 1
  current_left = ap (λ (p : Parts). p.current) tree_is ∙ (forgotten_stays levels some after fresh).0

  -- numbers go on from the last ones
  pub last_left : (new.last ≡ old.last + 1) × (new.last_save ≡ old.last_save)
  last_left = (
    ap (λ (p : Parts). p.last) tree_is ∙ (forgotten_stays levels some after fresh).1,
    ap (λ (p : Parts). p.last_save) tree_is ∙ (forgotten_save levels some after fresh ∙ last_save_after (back ∷ []) time old sound),
  )

  pub few_left : length new.nodes ≤ levels
  few_left = subst (λ (p : Parts). length p.nodes ≤ levels) (sym tree_is) (forgotten_few levels some after fresh)

  pub whole_left : old.last < levels → new ≡ pushed (back ∷ []) time old
  whole_left most = tree_is ∙ ap (λ (r : Remainder). r.tree) (whole_kept levels after fresh.sound (omega (arith, most, pushed_last (back ∷ []) time old sound)))

  pub history_left : (before text : List (List ℕ)) (history : History) → IsHistory old before history → Leads back text before → IsHistory new text (history_forgotten levels (history_pushed text time history))
  history_left before text history has leads =
      subst (λ (p : Parts). IsHistory p text (history_forgotten levels (history_pushed text time history))) (sym tree_is)
      (forgotten_history levels some after fresh text (history_pushed text time history) (pushed_history back time old sound before text history has leads))

  pub count_left : (before lines : ℕ) → FitsCount old before → LeadsCount back lines before → FitsCount new lines
  count_left before lines fits leads = subst (λ (p : Parts). FitsCount p lines) (sym tree_is) (forgotten_count levels some after fresh lines (pushed_count back time old sound before lines fits leads))

  pub text_left : (before text : List (List ℕ)) → FitsText old before → Leads back text before → FitsText new text
  text_left before text fits leads = subst (λ (p : Parts). FitsText p text) (sym tree_is) (forgotten_text levels some after fresh text (pushed_text back time old sound before text fits leads))

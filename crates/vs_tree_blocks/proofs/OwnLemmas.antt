-- An edit in memory leaves a block as it is written where it was: no mark comes, and the header is written anew.
use Rattle.std.proofs.Common.{◌≡◌, ℕ, List, length, take, insert, remove, true, Ok, All, refl, sym, subst}
use Rattle.std.proofs.lemmas.List.Elements.{All-take}
use Rattle.vs_data.specs.declared.DataView.{DataView}
use Rattle.vs_data.specs.Blocks.{KeepsFrame, is_as_written, marks_in, put_in, view_in}
use Rattle.vs_data.proofs.Written.{All-insert, All-put_in, All-remove, marks_written, written_after}

-- the bytes of a block with its header, before and after an edit
pub record IsStep (old new : List ℕ) (before after : DataView) : Type 0 where
  pub old_is : view_in old ≡ Ok before
  pub new_is : view_in new ≡ Ok after
  pub frame : KeepsFrame old new after
  pub end : after.text_end ≡ before.text_end
  pub size : length new ≡ length old

module _ (old new : List ℕ) (before after : DataView) (s : IsStep old new before after) (was : is_as_written old ≡ true) where
  abbrev none : List ℕ → Type 0
  none marks = All (λ mark. mark ≡ 0) marks

  stays : (marks : List ℕ) → marks_in new ≡ marks → none marks → is_as_written new ≡ true
  stays marks is zero = written_after old new before after was s.old_is s.new_is s.frame s.end s.size (subst none (sym is) zero)

  pub own_inserted : (at : ℕ) → marks_in new ≡ insert (marks_in old) at 0 → is_as_written new ≡ true
  own_inserted at is = stays (insert (marks_in old) at 0) is (All-insert (λ mark. mark ≡ 0) (marks_in old) at 0 (marks_written old was) refl)

  pub own_removed : (at : ℕ) → marks_in new ≡ remove (marks_in old) at → is_as_written new ≡ true
  own_removed at is = stays (remove (marks_in old) at) is (All-remove (λ mark. mark ≡ 0) (marks_in old) at (marks_written old was))

  pub own_taken : (from : ℕ) → marks_in new ≡ take from (marks_in old) → is_as_written new ≡ true
  own_taken from is = stays (take from (marks_in old)) is (All-take (λ mark. mark ≡ 0) from (marks_in old) (marks_written old was))

  pub own_joined : (at : ℕ) (more : List ℕ) → is_as_written more ≡ true → marks_in new ≡ put_in (marks_in old) at (marks_in more) → is_as_written new ≡ true
  own_joined at more also is =
      stays (put_in (marks_in old) at (marks_in more)) is (All-put_in (λ mark. mark ≡ 0) (marks_in old) (marks_in more) at (marks_written old was) (marks_written more also))

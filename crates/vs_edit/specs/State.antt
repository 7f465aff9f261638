-- What a store of one text shows, and what each of its calls keeps.
use Rattle.std.specs.Prelude.{◌≡◌, ◌≢◌, ◌+◌, ◌≤◌, ℕ, List, All, length}
use Rattle.vs_text.specs.Text.{bytes_of}
use Rattle.vs_text.specs.Limits.{IsShort}
use Rattle.vs_text.specs.declared.TheConstants.{MAX_LINES, MAX_TEXT_BYTES}
use Rattle.vs_edit.specs.Splices.{IsSmallSplice, splice}

-- A text as a store shows it: which one it is, where the store tells that, and the number of its lines and of its bytes, with
-- one byte for each line end. A store over pages shows their work, too, where it tells: for each number of a page the commit that
-- worked it last, where the next commit counts for what was worked since the last one; and how many pages a small splice works at
-- most.
pub record TextState : Type 1 where
  pub Is : List (List ℕ) → Type 0
  pub lines : ℕ
  pub bytes : ℕ
  pub worked_by : ℕ → ℕ
  pub most : ℕ

-- The text as it is now and as it was last committed, and how often what the store stands on has failed.
pub record StoreState : Type 1 where
  pub present : TextState
  pub committed : TextState
  pub faults : ℕ

-- What is shown is the text that was shown before, and no page was worked.
pub record SameText (old new : TextState) : Type 0 where
  pub text : (text : List (List ℕ)) → old.Is text → new.Is text
  pub lines : new.lines ≡ old.lines
  pub bytes : new.bytes ≡ old.bytes
  pub worked_by : new.worked_by ≡ old.worked_by
  pub most : new.most ≡ old.most

-- At most so many different pages were worked.
pub record WorksAtMost (most : ℕ) (old new : ℕ → ℕ) : Type 0 where
  pub names : List ℕ
  pub few : length names ≤ most
  pub others : (page : ℕ) → All (λ name. name ≢ page) names → new page ≡ old page

-- What is shown is the text that was shown before, with these lines in the place of `count` lines from line `top` on. A small splice
-- works no more pages than it may.
pub record IsSpliced (old : TextState) (top count : ℕ) (inserted : List (List ℕ)) (new : TextState) : Type 0 where
  pub text : (text : List (List ℕ)) → old.Is text → new.Is (splice text top count inserted)
  pub lines : new.lines + count ≡ old.lines + length inserted
  pub works : (text : List (List ℕ)) → old.Is text → IsSmallSplice text top count inserted → WorksAtMost old.most old.worked_by new.worked_by

-- There are `count` lines from line `top` on, and with these lines in their place the text is within its limits.
pub record AllowsSplice (old : TextState) (top count : ℕ) (inserted : List (List ℕ)) : Type 0 where
  pub within : top + count ≤ old.lines
  pub few_lines : old.lines + length inserted ≤ MAX_LINES + count
  pub short_lines : All IsShort inserted
  pub few_bytes : (text : List (List ℕ)) → old.Is text → bytes_of (splice text top count inserted) ≤ MAX_TEXT_BYTES

-- The store is valid, over the same borrows, and what was committed stays.
pub record KeepsCommitted {S : Type 0} (shows : S → StoreState) (IsValid : S → Type 0) (Stays : S → S → Type 0) (old new : S) : Type 0 where
  pub valid : IsValid new
  pub stays : Stays old new
  pub committed : SameText (shows old).committed (shows new).committed

-- The store is valid, over the same borrows, and both texts stay.
pub record KeepsTexts {S : Type 0} (shows : S → StoreState) (IsValid : S → Type 0) (Stays : S → S → Type 0) (old new : S) : Type 0 where
  pub valid : IsValid new
  pub stays : Stays old new
  pub present : SameText (shows old).present (shows new).present
  pub committed : SameText (shows old).committed (shows new).committed

-- Changes that are taken back.
use Rattle.std.proofs.Common.{◌≡◌, ◌∙◌, ℕ, ◌-◌, Bool, IsTrue, [], length, drop, arith}
use Rattle.vs_pages.specs.State.{PageState, history_of, KeepsCommitted}
use Rattle.vs_pages.proofs.Steps.{back_to}

-- what is shown after changes that were taken back
pub history_back : {S : Type 0} {tells : Bool} {shows : S → PageState} {IsValid : S → Type 0} {Stays : S → S → Type 0} {a b : S} (c : S) (mark : ℕ) → KeepsCommitted tells shows IsValid Stays a b → mark ≡ length (shows a).before
    → (IsTrue tells → history_of (shows c) ≡ drop (length (shows b).before - mark) (history_of (shows b))) → IsTrue tells → history_of (shows c) ≡ history_of (shows a)
history_back {shows} {a} {b} c mark kept start back told = let grown = kept.grown told in back_to (shows a) (shows b) (shows c) mark grown.0 start grown.1 (back told)

pub Continues-back : {S : Type 0} {tells : Bool} {shows : S → PageState} {IsValid : S → Type 0} {Stays : S → S → Type 0} {a b : S} (c : S) (mark : ℕ) → ((p q r : S) → Stays p q → Stays q r → Stays p r)
    → KeepsCommitted tells shows IsValid Stays a b → mark ≡ length (shows a).before → IsValid c → Stays b c → (IsTrue tells → (shows c).committed ≡ (shows b).committed) → (IsTrue tells → (shows c).commits ≡ (shows b).commits) → length (shows c).before ≡ mark
    → (IsTrue tells → history_of (shows c) ≡ drop (length (shows b).before - mark) (history_of (shows b))) → KeepsCommitted tells shows IsValid Stays a c
Continues-back {shows} {a} {b} c mark on kept start valid stays committed commits count back = record {
  valid = valid;
  stays = on a b c kept.stays stays;
  committed = λ told. committed told ∙ kept.committed told;
  commits = λ told. commits told ∙ kept.commits told;
  longer = omega (arith, count, start);
  grown = λ told. ([], history_back c mark kept start back told);
}

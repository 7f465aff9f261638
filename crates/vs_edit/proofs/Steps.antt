-- What calls one after the other keep. The laws `stays_itself` and `stays_on` of the store are passed as `itself` and `on`.
use Rattle.std.proofs.Common.{◌≡◌, ◌∙◌, ℕ, List, [], ap, refl, arith}
use Rattle.vs_edit.specs.State.{TextState, StoreState, SameText, IsSpliced, KeepsCommitted, KeepsTexts, WorksAtMost}

pub SameText-refl : {a : TextState} → SameText a a
SameText-refl = record { text = λ text is. is; lines = refl; bytes = refl; worked_by = refl; most = refl }

pub SameText-trans : {a b c : TextState} → SameText a b → SameText b c → SameText a c
SameText-trans first second = record {
  text = λ text is. second.text text (first.text text is);
  lines = second.lines ∙ first.lines;
  bytes = second.bytes ∙ first.bytes;
  worked_by = second.worked_by ∙ first.worked_by;
  most = second.most ∙ first.most;
}

-- no call
pub Continues-none : {S : Type 0} {shows : S → StoreState} {IsValid : S → Type 0} {Stays : S → S → Type 0} {a : S} → ((p : S) → Stays p p)
    → IsValid a → KeepsCommitted shows IsValid Stays a a
Continues-none {a} itself valid = record { valid = valid; stays = itself a; committed = SameText-refl }

pub OnlyReads-none : {S : Type 0} {shows : S → StoreState} {IsValid : S → Type 0} {Stays : S → S → Type 0} {a : S} → ((p : S) → Stays p p)
    → IsValid a → KeepsTexts shows IsValid Stays a a
OnlyReads-none {a} itself valid = record { valid = valid; stays = itself a; present = SameText-refl; committed = SameText-refl }

-- two calls
pub Continues-trans : {S : Type 0} {shows : S → StoreState} {IsValid : S → Type 0} {Stays : S → S → Type 0} {a b c : S}
    → ((p q r : S) → Stays p q → Stays q r → Stays p r) → KeepsCommitted shows IsValid Stays a b → KeepsCommitted shows IsValid Stays b c → KeepsCommitted shows IsValid Stays a c
Continues-trans {a} {b} {c} on first second = record {
  valid = second.valid;
  stays = on a b c first.stays second.stays;
  committed = SameText-trans first.committed second.committed;
}

pub OnlyReads-trans : {S : Type 0} {shows : S → StoreState} {IsValid : S → Type 0} {Stays : S → S → Type 0} {a b c : S}
    → ((p q r : S) → Stays p q → Stays q r → Stays p r) → KeepsTexts shows IsValid Stays a b → KeepsTexts shows IsValid Stays b c → KeepsTexts shows IsValid Stays a c
OnlyReads-trans {a} {b} {c} on first second = record {
  valid = second.valid;
  stays = on a b c first.stays second.stays;
  present = SameText-trans first.present second.present;
  committed = SameText-trans first.committed second.committed;
}

-- a call that only reads goes on
pub OnlyReads-continues : {S : Type 0} {shows : S → StoreState} {IsValid : S → Type 0} {Stays : S → S → Type 0} {a b : S}
    → KeepsTexts shows IsValid Stays a b → KeepsCommitted shows IsValid Stays a b
OnlyReads-continues reads = record { valid = reads.valid; stays = reads.stays; committed = reads.committed }

-- no page was worked
pub works_none : (most : ℕ) (old new : ℕ → ℕ) → new ≡ old → WorksAtMost most old new
works_none most old new same = record { names = []; few = omega arith; others = λ page apart. ap (λ (f : ℕ → ℕ). f page) same }

-- the same numbers before and after
pub works_as : {most more : ℕ} {a b c d : ℕ → ℕ} → more ≡ most → b ≡ a → d ≡ c → WorksAtMost more b c → WorksAtMost most a d
works_as {most} {more} {a} {b} {c} {d} is before after works = record {
  names = works.names;
  few = omega (arith, works.few, is);
  others = λ page apart. ap (λ (f : ℕ → ℕ). f page) after ∙ works.others page apart ∙ ap (λ (f : ℕ → ℕ). f page) before;
}

-- a splice of what was read
pub IsSpliced-after : {a b c : TextState} {top count : ℕ} {inserted : List (List ℕ)} → SameText a b → IsSpliced b top count inserted c → IsSpliced a top count inserted c
IsSpliced-after same spliced = record {
  text = λ text is. spliced.text text (same.text text is);
  lines = omega (arith, spliced.lines, same.lines);
  works = λ text is small. works_as same.most same.worked_by refl (spliced.works text (same.text text is) small);
}

-- Runs of bytes, one byte at a time.
use Rattle.std.proofs.Common.{◌≡◌, ℕ, List, [], ◌∷◌, Bool, true, false, refl, one-add}
use Rattle.vs_exparse.specs.Bytes.{run, skip}

pub run-more : (p : ℕ → Bool) (byte : ℕ) (line : List ℕ) → p byte ≡ true → run p (byte ∷ line) ≡ byte ∷ run p line
run-more p byte line is = rw (is, one-add) refl

pub skip-more : (p : ℕ → Bool) (byte : ℕ) (line : List ℕ) → p byte ≡ true → skip p (byte ∷ line) ≡ skip p line
skip-more p byte line is = rw (is, one-add) refl

pub run-none : (p : ℕ → Bool) (byte : ℕ) (line : List ℕ) → p byte ≡ false → run p (byte ∷ line) ≡ []
run-none p byte line not_so = rw not_so refl

pub skip-none : (p : ℕ → Bool) (byte : ℕ) (line : List ℕ) → p byte ≡ false → skip p (byte ∷ line) ≡ byte ∷ line
skip-none p byte line not_so = rw not_so refl

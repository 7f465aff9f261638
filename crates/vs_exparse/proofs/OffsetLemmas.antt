-- The offsets at the front of a line are its first sign with the digits after it, and then those of what is left.
use Rattle.std.proofs.Common.{ℤ, pos, neg_ℤ, ◌≤ℤ◌, not, get_or, drop, length, length-drop, ◌≡◌, ◌<◌, ◌≤◌, ℕ, List, [], ◌∷◌, Bool, true, false, refl, arith}
use Rattle.std.proofs.lemmas.Bool.Decides.{nat_tests}
use Rattle.vs_exparse.specs.Bytes.{max_number, is_digit, is_sign, run, skip, is_empty, begins_with}
use Rattle.vs_exparse.specs.Range.{Terms, terms_of, offsets_of, offset_of, GoesOn}
use Rattle.vs_exparse.proofs.RunsLemmas.{run-more, skip-more, run-none, skip-none}

not-empty : {X : Type 0} (x : X) (xs : List X) → is_empty (x ∷ xs) ≡ false
not-empty x xs = grind (arith, nat_tests)

pub sign-no-digit : (byte : ℕ) → is_sign byte ≡ true → is_digit byte ≡ false
sign-no-digit byte sign = grind (arith, nat_tests)

-- the digits at the front, and the offsets after them
abbrev split : List ℕ → Terms
split line = record { digits = run is_digit line; signed = (offsets_of (skip is_digit line)).value; rest = (offsets_of (skip is_digit line)).rest }

split-by : (byte : ℕ) (line : List ℕ) (d s : Bool) → is_digit byte ≡ d → is_sign byte ≡ s → terms_of line ≡ split line → terms_of (byte ∷ line) ≡ split (byte ∷ line)
split-by byte line true s digit sign before =
    rw (run-more is_digit byte line digit, skip-more is_digit byte line digit, digit, before) refl
split-by byte line false true digit sign before =
    rw (run-none is_digit byte line digit, skip-none is_digit byte line digit, digit, sign) refl
split-by byte line false false digit sign before =
    rw (run-none is_digit byte line digit, skip-none is_digit byte line digit, digit, sign) refl

pub terms-split : (line : List ℕ) → terms_of line ≡ split line
terms-split [] = refl
terms-split (byte ∷ line) = split-by byte line (is_digit byte) (is_sign byte) refl refl (terms-split line)

pub offsets-step : (sign : ℕ) (line : List ℕ) → is_sign sign ≡ true →
    offsets_of (sign ∷ line) ≡ record { value = (sign, run is_digit line) ∷ (offsets_of (skip is_digit line)).value; rest = (offsets_of (skip is_digit line)).rest }
offsets-step sign line is =
    rw (sign-no-digit sign is, is, terms-split line) refl

end-by : (byte : ℕ) (line : List ℕ) (d : Bool) → is_digit byte ≡ d → is_sign byte ≡ false → offsets_of (byte ∷ line) ≡ record { value = []; rest = byte ∷ line }
end-by byte line true digit not_sign = rw (digit, not-empty byte (terms_of line).digits) refl
end-by byte line false digit not_sign = rw digit (rw not_sign refl)

pub offsets-end : (byte : ℕ) (line : List ℕ) → is_sign byte ≡ false → offsets_of (byte ∷ line) ≡ record { value = []; rest = byte ∷ line }
offsets-end byte line not_sign = end-by byte line (is_digit byte) refl not_sign

any-by : (byte : ℕ) (line : List ℕ) (s : Bool) → is_sign byte ≡ s → is_sign byte ≡ not (is_empty (offsets_of (byte ∷ line)).value)
any-by byte line true sign =
    rw (offsets-step byte line sign, sign, not-empty (byte, run is_digit line) (offsets_of (skip is_digit line)).value) refl
any-by byte line false sign = rw (offsets-end byte line sign, sign) refl

-- whether a sign stands at the front
pub offsets-any : (line : List ℕ) → begins_with is_sign line ≡ not (is_empty (offsets_of line).value)
offsets-any [] = refl
offsets-any (byte ∷ line) = any-by byte line (is_sign byte) refl

pub offsets-none : (line : List ℕ) → begins_with is_sign line ≡ false → offsets_of line ≡ record { value = []; rest = line }
offsets-none [] not_signed = refl
offsets-none (byte ∷ line) not_signed = offsets-end byte line not_signed

-- one offset, and those after it
pub offsets-on : (line : List ℕ) → begins_with is_sign line ≡ true → offsets_of line ≡ record {
  value = (get_or line 0 0, run is_digit (drop 1 line)) ∷ (offsets_of (skip is_digit (drop 1 line))).value;
  rest = (offsets_of (skip is_digit (drop 1 line))).rest;
}
offsets-on [] signed = cc
offsets-on (byte ∷ line) signed = offsets-step byte line signed

length-skip : (p : ℕ → Bool) (line : List ℕ) → length (skip p line) ≤ length line
length-skip p line = omega (arith, length-drop {A = ℕ})

pub goes-on : (line digits rest : List ℕ) (number : ℤ) → begins_with is_sign line ≡ true → digits ≡ run is_digit (drop 1 line) → rest ≡ skip is_digit (drop 1 line) →
    number ≡ offset_of (get_or line 0 0, digits) → neg_ℤ (pos max_number) ≤ℤ number → number ≤ℤ pos max_number → length rest < length line → GoesOn line number rest
goes-on line digits rest number signed digits_are rest_is number_is low high shorter = record {
  sum = rw (offsets-on line signed, rest_is, number_is, digits_are) refl;
  rest_is = rw (offsets-on line signed, rest_is) refl;
  shorter = shorter;
  low = low;
  high = high;
}

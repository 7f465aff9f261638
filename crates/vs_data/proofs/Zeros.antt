-- Where the first zero byte stands says whether there is none.
use Rattle.std.proofs.Common.{◌≡◌, ℕ, List, Bool, true, false, not, ◌==◌, Some, None, get_or, refl, sym, ap, ◌∙◌, arith}
use Rattle.std.specs.Prelude.{is_some}
use Rattle.std.specs.declared.option.Option.{Option}
use Rattle.std.specs.List.{list_all}
use Rattle.std.proofs.lemmas.List.{get_or_default}
use Rattle.std.proofs.lemmas.List.Folds.{list_all_at}
use Rattle.std.proofs.lemmas.List.Sums.{list_all-from_AllPass}
use Rattle.memchr.specs.Find.{IsFirstByte, is_byte}

not_so : (b : Bool) → (b ≡ true → ⊥) → not b ≡ true
not_so true h = absurd (h refl)
not_so false h = refl

not_back : (a b : Bool) → not a ≡ b → a ≡ not b
not_back true b e = ap (λ (x : Bool). not x) e
not_back false b e = ap (λ (x : Bool). not x) e

none_is_zero : (bytes : List ℕ) (place : Option ℕ) → IsFirstByte (is_byte 0) bytes place → not (is_some place) ≡ list_all (λ byte. not (byte == 0)) bytes
none_is_zero bytes None nowhere =
    sym (list_all-from_AllPass (λ byte. not (byte == 0)) bytes
    (λ k d below. not_so (get_or bytes k d == 0) (λ zero. nowhere k (omega arith) below (ap (λ byte. byte == 0) (get_or_default bytes k 0 d below) ∙ zero))))
none_is_zero bytes (Some k) is = sym (list_all_at (λ byte. not (byte == 0)) bytes k 0 is.0.high (ap (λ b. not b) is.1))

-- whether there is none, as a search for the first one says
pub no_zero_found : (bytes : List ℕ) (place : Option ℕ) (none : Bool) → IsFirstByte (is_byte 0) bytes place → is_some place ≡ not none → none ≡ list_all (λ byte. not (byte == 0)) bytes
no_zero_found bytes place none is says = not_back none (is_some place) (sym says) ∙ none_is_zero bytes place is

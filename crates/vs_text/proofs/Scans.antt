-- What a piece adds to a scan.
use Rattle.std.proofs.Common.{◌≡◌, ◌++◌, false, ℕ, List, Option, Some, None, refl, sym, ap, ◌∙◌}
use Rattle.std.specs.Option.{option_or}
use Rattle.vs_text.specs.Documents.{last_byte}
use Rattle.vs_text.specs.Scan.{HasScanned, Scanning, ends_after}
use Rattle.vs_text.specs.declared.format.Format.{Format}
use Rattle.vs_text.specs.declared.format.Format.TheVariants.{Dos, Unix}
use Rattle.vs_text.proofs.Formats.{ends_after-append, ends_after-certain, is_unix, last_byte-append}

not_unix : (found : Option Format) → (found ≡ Some Unix → ⊥) → is_unix found ≡ false
not_unix None h = refl
not_unix (Some Dos) h = refl
not_unix (Some Unix) h = absurd (h refl)

-- a piece after which the format was certain already
pub HasScanned-certain : (old new : Scanning) (piece : List ℕ) → old.found ≡ Some Unix → new.found ≡ old.found → new.before ≡ last_byte old.before piece
    → (fed : List ℕ) → HasScanned old fed → HasScanned new (fed ++ piece)
HasScanned-certain old new piece certain found before = λ fed h. record {
  before = before ∙ (ap (λ (b : ℕ). last_byte b piece) h.before ∙ sym (last_byte-append 0 fed piece));
  found = found ∙ (certain ∙ sym (ends_after-certain 0 fed piece (sym h.found ∙ certain)));
}

-- a piece whose line ends decide
pub HasScanned-on : (old new : Scanning) (piece : List ℕ) → (old.found ≡ Some Unix → ⊥) → new.found ≡ option_or (ends_after old.before piece) old.found
    → new.before ≡ last_byte old.before piece → (fed : List ℕ) → HasScanned old fed → HasScanned new (fed ++ piece)
HasScanned-on old new piece not_certain found before = λ fed h. record {
  before = before ∙ (ap (λ (b : ℕ). last_byte b piece) h.before ∙ sym (last_byte-append 0 fed piece));
  found = found ∙ (ap (λ (b : ℕ). option_or (ends_after b piece) old.found) h.before
      ∙ (ap (λ (o : Option Format). option_or (ends_after (last_byte 0 fed) piece) o) h.found
      ∙ sym (ends_after-append 0 fed piece (sym (ap is_unix h.found) ∙ not_unix old.found not_certain))));
}

-- A line end is of unix or of dos by the byte before it, and a line that ended loses its last byte where that belongs to its end.
use Rattle.std.proofs.Common.{◌≡◌, ◌≢◌, ◌==◌, ◌&&◌, ◌||◌, not, suc, if◌then◌else◌, true, false, Bool, ℕ, ◌+◌, ◌≤◌, ◌<◌, List, [], ◌∷◌, ◌++◌, length, refl, sym, ap, subst, ◌∙◌, arith, inl, inr, Option, Some, None, unwrap_or, append_assoc, append-nil}
use Rattle.std.specs.List.{AllByRecursion}
use Rattle.std.specs.Option.{option_or}
use Rattle.std.proofs.lemmas.Bool.{ne_eqb}
use Rattle.std.proofs.lemmas.Bool.Decides.{eqb_tells}
use Rattle.std.proofs.lemmas.List.{take_at}
use Rattle.std.proofs.lemmas.List.Elements.{recursion_from_All, All-take}
use Rattle.vs_text.specs.Text.{lines_of, bytes_of, IsLine}
use Rattle.vs_text.specs.Documents.{LosesReturn, begins_with_end, format_of, has_end, has_unix_end, last_byte, lines_in, plain_ends}
use Rattle.vs_text.specs.declared.format.Format.{Format}
use Rattle.vs_text.specs.declared.format.Format.TheVariants.{Dos, Unix}
use Rattle.vs_text.specs.Scan.{ends_after}
use Rattle.vs_text.proofs.LineEnds.{lines_of-line, lines_of_last, bytes_of-lines_of}

by_recursion : (line : List ℕ) → IsLine line → AllByRecursion (λ byte. byte ≢ 10) line
by_recursion line h = recursion_from_All (λ byte. byte ≢ 10) line h

-- the front of a line is a line
pub IsLine-front : (line rest : List ℕ) → IsLine (line ++ rest) → IsLine line
IsLine-front line rest h = subst IsLine (take_at line rest (length line) refl) (All-take (λ byte. byte ≢ 10) (length line) (line ++ rest) h)

pub last_byte-append : (before : ℕ) (a b : List ℕ) → last_byte before (a ++ b) ≡ last_byte (last_byte before a) b
last_byte-append before [] b = refl
last_byte-append before (byte ∷ a) b = last_byte-append byte a b

pub has_end-append : (a b : List ℕ) → has_end (a ++ b) ≡ (has_end a || has_end b)
has_end-append [] b = refl
has_end-append (byte ∷ a) b = elim (eqb_tells byte 10) [
  | inl ten ↦ rw ten.0 refl
  | inr other ↦ rw other.0 (has_end-append a b)
]

-- whether one of the two first is, or the last
or_assoc : (a b c : Bool) → (a || (b || c)) ≡ ((a || b) || c)
or_assoc true b c = refl
or_assoc false b c = refl

pub has_unix_end-append : (before : ℕ) (a b : List ℕ) → has_unix_end before (a ++ b) ≡ (has_unix_end before a || has_unix_end (last_byte before a) b)
has_unix_end-append before [] b = refl
has_unix_end-append before (byte ∷ a) b =
    rw (has_unix_end-append byte a b) (or_assoc ((byte == 10) && not (before == 13)) (has_unix_end byte a) (has_unix_end (last_byte byte a) b))

no_end : (line : List ℕ) → AllByRecursion (λ byte. byte ≢ 10) line → has_end line ≡ false
no_end [] h = refl
no_end (byte ∷ line) h = rw (ne_eqb byte 10 h.0) (no_end line h.1)

no_unix_end : (before : ℕ) (line : List ℕ) → AllByRecursion (λ byte. byte ≢ 10) line → has_unix_end before line ≡ false
no_unix_end before [] h = refl
no_unix_end before (byte ∷ line) h = rw (ne_eqb byte 10 h.0) (no_unix_end byte line h.1)

-- a line has no line end
pub has_end-line : (line : List ℕ) → IsLine line → has_end line ≡ false
has_end-line line h = no_end line (by_recursion line h)

pub has_unix_end-line : (before : ℕ) (line : List ℕ) → IsLine line → has_unix_end before line ≡ false
has_unix_end-line before line h = no_unix_end before line (by_recursion line h)

-- a line that ended has one, before those of the rest
pub has_end-ended : (line rest : List ℕ) → has_end (line ++ 10 ∷ rest) ≡ true
has_end-ended [] rest = refl
has_end-ended (byte ∷ line) rest = elim (eqb_tells byte 10) [
  | inl ten ↦ rw ten.0 refl
  | inr other ↦ rw other.0 (has_end-ended line rest)
]

pub has_unix_end-ended : (before : ℕ) (line rest : List ℕ) → IsLine line
    → has_unix_end before (line ++ 10 ∷ rest) ≡ (not (last_byte before line == 13) || has_unix_end 10 rest)
has_unix_end-ended before line rest h = has_unix_end-append before line (10 ∷ rest) ∙ rw (has_unix_end-line before line h) refl

begins : (line rest : List ℕ) → AllByRecursion (λ byte. byte ≢ 10) line → begins_with_end rest ≡ false → begins_with_end (line ++ rest) ≡ false
begins [] rest h not_begun = not_begun
begins (byte ∷ line) rest h not_begun = ne_eqb byte 10 h.0

step : (byte : ℕ) (bytes : List ℕ) → begins_with_end bytes ≡ false → plain_ends (byte ∷ bytes) ≡ byte ∷ plain_ends bytes
step byte bytes not_begun = elim (eqb_tells byte 13) [
  | inl is ↦ rw (is.0, not_begun) refl
  | inr other ↦ rw other.0 refl
]

before : (line rest : List ℕ) → AllByRecursion (λ byte. byte ≢ 10) line → begins_with_end rest ≡ false → plain_ends (line ++ rest) ≡ line ++ plain_ends rest
before [] rest h not_begun = refl
before (byte ∷ line) rest h not_begun =
    step byte (line ++ rest) (begins line rest h.1 not_begun) ∙ ap (λ (bytes : List ℕ). byte ∷ bytes) (before line rest h.1 not_begun)

-- bytes of a line stay where no line end follows them
pub plain_ends-before : (line rest : List ℕ) → IsLine line → begins_with_end rest ≡ false → plain_ends (line ++ rest) ≡ line ++ plain_ends rest
plain_ends-before line rest h not_begun = before line rest (by_recursion line h) not_begun

other : (last : ℕ) (line rest : List ℕ) → AllByRecursion (λ byte. byte ≢ 10) line → last_byte last line ≢ 13 → plain_ends (line ++ rest) ≡ line ++ plain_ends rest
other last [] rest h kept = refl
other last (byte ∷ []) rest h kept = rw (ne_eqb byte 13 kept) refl
other last (byte ∷ next ∷ line) rest h kept =
    step byte ((next ∷ line) ++ rest) (ne_eqb next 10 h.1.0) ∙ ap (λ (bytes : List ℕ). byte ∷ bytes) (other byte (next ∷ line) rest h.1 kept)

-- or where their last one is not 13
pub plain_ends-other : (last : ℕ) (line rest : List ℕ) → IsLine line → last_byte last line ≢ 13 → plain_ends (line ++ rest) ≡ line ++ plain_ends rest
plain_ends-other last line rest h kept = other last line rest (by_recursion line h) kept

-- the byte 13 before a line end goes
pub plain_ends-cut : (line rest : List ℕ) → IsLine line → plain_ends (line ++ 13 ∷ 10 ∷ rest) ≡ line ++ 10 ∷ plain_ends rest
plain_ends-cut line rest h = plain_ends-before line (13 ∷ 10 ∷ rest) h refl

-- a line without an end stays as it is
pub plain_ends-line : (line : List ℕ) → IsLine line → plain_ends line ≡ line
plain_ends-line line h = ap plain_ends (sym (append-nil line)) ∙ (plain_ends-before line [] h refl ∙ append-nil line)

pub length-plain_ends : (bytes : List ℕ) → length (plain_ends bytes) ≤ length bytes
length-plain_ends [] = omega arith
length-plain_ends (byte ∷ bytes) = elim ((byte == 13) && begins_with_end bytes) as (λ (b : Bool). length (if b then plain_ends bytes else byte ∷ plain_ends bytes) ≤ suc (length bytes)) [
  | true ↦ omega (arith, length-plain_ends bytes)
  | false ↦ omega (arith, length-plain_ends bytes)
]

-- a line that ended loses the byte 13 at its end
pub plain_ends-ended : (line front rest : List ℕ) → IsLine line → LosesReturn line front → plain_ends (line ++ 10 ∷ rest) ≡ front ++ 10 ∷ plain_ends rest
plain_ends-ended line front rest h (inl is) =
    ap (λ (l : List ℕ). plain_ends (l ++ 10 ∷ rest)) is
    ∙ (ap plain_ends (append_assoc front (13 ∷ []) (10 ∷ rest)) ∙ plain_ends-cut front rest (IsLine-front front (13 ∷ []) (subst IsLine is h)))
plain_ends-ended line front rest h (inr same) = plain_ends-other 10 line (10 ∷ rest) h same.1 ∙ ap (λ (l : List ℕ). l ++ 10 ∷ plain_ends rest) same.0

-- what is left of a line is a line
pub IsLine-loses : (line front : List ℕ) → IsLine line → LosesReturn line front → IsLine front
IsLine-loses line front h (inl is) = IsLine-front front (13 ∷ []) (subst IsLine is h)
IsLine-loses line front h (inr same) = subst IsLine same.0 h

-- the first line of a dos file, and the others
pub lines_in-ended : (line front rest : List ℕ) → IsLine line → LosesReturn line front → lines_in Dos (line ++ 10 ∷ rest) ≡ front ∷ lines_in Dos rest
lines_in-ended line front rest h loses =
    ap lines_of (plain_ends-ended line front rest h loses) ∙ lines_of-line front (plain_ends rest) (IsLine-loses line front h loses)

-- one line without an end
pub lines_in_last : (format : Format) (line : List ℕ) → 0 < length line → IsLine line → lines_in format line ≡ line ∷ []
lines_in_last Unix line some h = lines_of_last line some h
lines_in_last Dos line some h = ap lines_of (plain_ends-line line h) ∙ lines_of_last line some h

pub lines_in-nil : (format : Format) → lines_in format [] ≡ []
lines_in-nil Unix = refl
lines_in-nil Dos = refl

-- the bytes of a text are those of its file, and at most one more
pub bytes_of-lines_in : (format : Format) (bytes : List ℕ) → bytes_of (lines_in format bytes) ≤ length bytes + 1
bytes_of-lines_in Unix bytes = bytes_of-lines_of bytes
bytes_of-lines_in Dos bytes = omega (arith, bytes_of-lines_of (plain_ends bytes), length-plain_ends bytes)

or_false : (b : Bool) → (b || false) ≡ b
or_false true = refl
or_false false = refl

-- the last of some bytes
pub last_byte-push : (before byte : ℕ) (bytes : List ℕ) → last_byte before (bytes ++ byte ∷ []) ≡ byte
last_byte-push before byte bytes = last_byte-append before bytes (byte ∷ [])

-- the front of a line that ends in byte 13
pub front_of : (before : ℕ) (line : List ℕ) → before ≢ 13 → last_byte before line ≡ 13 → (front : List ℕ) × (line ≡ front ++ 13 ∷ [])
front_of before [] other is = absurd (other is)
front_of before (byte ∷ []) other is = ([], ap (λ (b : ℕ). b ∷ []) is)
front_of before (byte ∷ next ∷ line) other is =
    let rest : (front : List ℕ) × (next ∷ line ≡ front ++ 13 ∷ []) = front_of 0 (next ∷ line) (λ (e : 0 ≡ 13). omega arith) is in
    (byte ∷ rest.0, ap (λ (bytes : List ℕ). byte ∷ bytes) rest.1)

told : (unix ended : Bool) → unwrap_or (if unix then Some Unix else if ended then Some Dos else None) Unix ≡ (if ended && not unix then Dos else Unix)
told true true = refl
told true false = refl
told false true = refl
told false false = refl

-- the format of bytes is that of their line ends, and unix where no line ended
pub format_of-ends : (bytes : List ℕ) → unwrap_or (ends_after 0 bytes) Unix ≡ format_of bytes
format_of-ends bytes = told (has_unix_end 0 bytes) (has_end bytes)

abbrev pub is_unix : Option Format → Bool
is_unix None = false
is_unix (Some Unix) = true
is_unix (Some Dos) = false

told_unix : (unix ended : Bool) → is_unix (if unix then Some Unix else if ended then Some Dos else None) ≡ unix
told_unix true ended = refl
told_unix false true = refl
told_unix false false = refl

never_dos : (ended unix more : Bool) → unix ≡ true → (if ended && not (unix || more) then Dos else Unix) ≡ Unix
never_dos true unix more is = rw is refl
never_dos false unix more is = refl

-- one line end of unix decides the format
pub format_of-certain : (fed more : List ℕ) → ends_after 0 fed ≡ Some Unix → format_of (fed ++ more) ≡ Unix
format_of-certain fed more is =
    let unix : has_unix_end 0 fed ≡ true = sym (told_unix (has_unix_end 0 fed) (has_end fed)) ∙ ap is_unix is in
    rw (has_unix_end-append 0 fed more) (never_dos (has_end (fed ++ more)) (has_unix_end 0 fed) (has_unix_end (last_byte 0 fed) more) unix)

both : (unix ended more_unix more_ended : Bool) → unix ≡ false
    → (if unix || more_unix then Some Unix else if ended || more_ended then Some Dos else None)
    ≡ option_or (if more_unix then Some Unix else if more_ended then Some Dos else None) (if unix then Some Unix else if ended then Some Dos else None)
both unix ended true more_ended is = rw is refl
both unix true false true is = rw is refl
both unix true false false is = rw is refl
both unix false false true is = rw is refl
both unix false false false is = rw is refl

-- the line ends of bytes and of those after them
pub ends_after-append : (before : ℕ) (a b : List ℕ) → is_unix (ends_after before a) ≡ false
    → ends_after before (a ++ b) ≡ option_or (ends_after (last_byte before a) b) (ends_after before a)
ends_after-append before a b is =
    let none : has_unix_end before a ≡ false = sym (told_unix (has_unix_end before a) (has_end a)) ∙ is in
    rw (has_unix_end-append before a b, has_end-append a b) (both (has_unix_end before a) (has_end a) (has_unix_end (last_byte before a) b) (has_end b) none)

-- one that is certain stays
pub ends_after-certain : (before : ℕ) (a b : List ℕ) → ends_after before a ≡ Some Unix → ends_after before (a ++ b) ≡ Some Unix
ends_after-certain before a b is =
    let unix : has_unix_end before a ≡ true = sym (told_unix (has_unix_end before a) (has_end a)) ∙ ap is_unix is in
    rw (has_unix_end-append before a b, unix) refl

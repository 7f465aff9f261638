-- What makes a line or a text too large, and when new lines fit.
use Rattle.std.proofs.Common.{◌≡◌, ◌<◌, ◌≤◌, ◌+◌, ◌-◌, ◌^◌, inl, inr, ℕ, List, [], ◌∷◌, length, drop, Bool, true, false, ◌&&◌, if◌then◌else◌, nat_le, min, All, refl, ap, sym, ◌∙◌, arith, Ok, Err, Some}
use Rattle.std.specs.List.{list_all}
use Rattle.std.proofs.lemmas.Bool.Decides.{nat_tests}
use Rattle.std.proofs.lemmas.List.Elements.{All-nil, All-cons, All-take, All-drop, All-head, All-tail}
use Rattle.vs_text.specs.Text.{bytes_of}
use Rattle.vs_text.specs.Limits.{IsShort}
use Rattle.vs_text.specs.declared.TheConstants.{MAX_LINES, MAX_LINE_BYTES, MAX_TEXT_BYTES}
use Rattle.vs_edit.specs.Splices.{splice, cut_out}
use Rattle.vs_edit.proofs.SpliceLemmas.{length-splice, length-cut_out, bytes_of-splice, bytes_of-splice_le, bytes_of-cut_out}
use Rattle.vs_exparse.specs.Bytes.{is_empty}
use Rattle.vs_exparse.specs.declared.command.ExErr.TheVariants.{LineTooLong, TextFull}
use Rattle.vs_excmd.specs.Errors.{check}
use Rattle.vs_excmd.specs.Change.{Change, before, bounded, copied, deleted, lines_in, size_of, spliced, exchanged, is_within, is_short}
use Rattle.vs_excmd.specs.declared.place.Place.{Place}
use Rattle.vs_excmd.specs.Request.{PassLimits}

and-first : (a b : Bool) → (a && b) ≡ true → a ≡ true
and-first true b both = refl
and-first false b both = both

and-second : (a b : Bool) → (a && b) ≡ true → b ≡ true
and-second true b both = both
and-second false b both = cc

pub short-all : (lines : List (List ℕ)) → All IsShort lines → list_all is_short lines ≡ true
short-all [] all = refl
short-all (line ∷ lines) all =
    let first : is_short line ≡ true = let short : length line ≤ MAX_LINE_BYTES = All-head IsShort line lines all in grind (arith, nat_tests) in
    rw (first, short-all lines (All-tail IsShort line lines all)) refl

short-line : (line : List ℕ) (rest : Bool) → (is_short line && rest) ≡ true → IsShort line
short-line line rest both = let short : is_short line ≡ true = and-first (is_short line) rest both in grind (arith, nat_tests)

pub short-from : (lines : List (List ℕ)) → list_all is_short lines ≡ true → All IsShort lines
short-from [] all = All-nil IsShort
short-from (line ∷ lines) all =
    All-cons IsShort line lines (short-line line (list_all is_short lines) all) (short-from lines (and-second (is_short line) (list_all is_short lines) all))

long-by : (lines : List (List ℕ)) (b : Bool) → list_all is_short lines ≡ b → ¬ All IsShort lines → list_all is_short lines ≡ false
long-by lines true is long = absurd (long (short-from lines is))
long-by lines false is long = is

pub not-within : (text : List (List ℕ)) → PassLimits text → is_within text ≡ false
not-within text (inl many) = grind (arith, nat_tests)
not-within text (inr large) = grind (arith, nat_tests)

pub too-much : (text new : List (List ℕ)) (top old : ℕ) → top + old ≤ length text → PassLimits new → is_within (splice text top old new) ≡ false
too-much text new top old within (inl many) = not-within (splice text top old new) (inl (omega (arith, length-splice text top old within new)))
too-much text new top old within (inr large) =
    not-within (splice text top old new) (inr (omega (arith, bytes_of-splice text new top old within, bytes_of-cut_out text top old within)))

pub refused-long : (text : List (List ℕ)) (change : Change) → list_all is_short change.new ≡ false → bounded text (Ok (Some change)) ≡ Err LineTooLong
refused-long text change long = ap (λ b. check b LineTooLong (check (is_within (spliced text change)) TextFull (Ok (Some change)))) long

pub refused-full : (text : List (List ℕ)) (change : Change) → list_all is_short change.new ≡ true → is_within (spliced text change) ≡ false → bounded text (Ok (Some change)) ≡ Err TextFull
refused-full text change short full =
    ap (λ b. check b LineTooLong (check (is_within (spliced text change)) TextFull (Ok (Some change)))) short ∙ ap (λ b. check b TextFull (Ok (Some change))) full

pub not_empty : {X : Type 0} (x : X) (xs : List X) → is_empty (x ∷ xs) ≡ false
not_empty x xs = grind (arith, nat_tests)

pub exchanged-lines : (lines top old : ℕ) (line : List ℕ) (kept : List (List ℕ)) →
    exchanged lines top old (line ∷ kept) ≡ Some (record { top = top; old = old; new = line ∷ kept; cursor = top + length (line ∷ kept) })
exchanged-lines lines top old line kept =
    ap (λ b. if b then deleted lines top old else Some (record { top = top; old = old; new = line ∷ kept; cursor = top + length (line ∷ kept) })) (not_empty line kept)

-- a block with a line that is too long
pub too-long : (text kept : List (List ℕ)) (lines top old : ℕ) → ¬ All IsShort kept → bounded text (Ok (exchanged lines top old kept)) ≡ Err LineTooLong
too-long text [] lines top old long = absurd (long (All-nil IsShort))
too-long text (line ∷ kept) lines top old long =
    ap (λ change. bounded text (Ok change)) (exchanged-lines lines top old line kept) ∙
    refused-long text (record { top = top; old = old; new = line ∷ kept; cursor = top + length (line ∷ kept) }) (long-by (line ∷ kept) (list_all is_short (line ∷ kept)) refl long)

-- a block that alone passes a limit
pub too-many : (text kept : List (List ℕ)) (lines top old : ℕ) → length text ≡ lines → top + old ≤ lines →
    All IsShort kept × PassLimits kept → bounded text (Ok (exchanged lines top old kept)) ≡ Err TextFull
too-many text [] lines top old same within (short, inl many) = absurd (omega arith)
too-many text [] lines top old same within (short, inr large) = absurd (omega arith)
too-many text (line ∷ kept) lines top old same within parts =
    let within' : top + old ≤ length text = omega arith in
    ap (λ change. bounded text (Ok change)) (exchanged-lines lines top old line kept) ∙
    refused-full text (record { top = top; old = old; new = line ∷ kept; cursor = top + length (line ∷ kept) })
    (short-all (line ∷ kept) parts.0) (too-much text (line ∷ kept) top old within' parts.1)

-- new lines that fit beside the whole text
pub fits-beside : (text new : List (List ℕ)) (top old more : ℕ) → top + old ≤ length text → length new ≤ MAX_LINES - (length text - old) → length text ≤ MAX_LINES →
    more ≡ min (bytes_of new) (2 ^ 64 - 1) → more ≤ MAX_TEXT_BYTES - bytes_of text → bytes_of text ≤ MAX_TEXT_BYTES → true ≡ is_within (splice text top old new)
fits-beside text new top old more within few whole counted room sound =
    let lines : length (splice text top old new) ≤ MAX_LINES = omega (arith, length-splice text top old within new) in
    let bytes : bytes_of (splice text top old new) ≤ MAX_TEXT_BYTES = omega (arith, bytes_of-splice_le text new top old within) in
    let first : nat_le (length (splice text top old new)) MAX_LINES ≡ true = grind (arith, nat_tests) in
    let second : nat_le (bytes_of (splice text top old new)) MAX_TEXT_BYTES ≡ true = grind (arith, nat_tests) in
    sym (rw (first, second) refl)

same-test : (more result text new gone : ℕ) → more ≡ min new (2 ^ 64 - 1) → result + gone ≡ text + new → gone ≤ text → text ≤ MAX_TEXT_BYTES →
    nat_le more (MAX_TEXT_BYTES - (text - gone)) ≡ nat_le result MAX_TEXT_BYTES
same-test more result text new gone counted sum less sound = grind (arith, nat_tests)

-- new lines that fit in the place of those that go
pub fits-instead : (text new : List (List ℕ)) (top old more gone : ℕ) → top + old ≤ length text → length new ≤ MAX_LINES - (length text - old) → length text ≤ MAX_LINES →
    more ≡ min (bytes_of new) (2 ^ 64 - 1) → gone ≡ bytes_of (cut_out text top old) → bytes_of text ≤ MAX_TEXT_BYTES →
    nat_le more (MAX_TEXT_BYTES - (bytes_of text - gone)) ≡ is_within (splice text top old new)
fits-instead text new top old more gone within few whole counted gone_is sound =
    let lines : length (splice text top old new) ≤ MAX_LINES = omega (arith, length-splice text top old within new) in
    let first : nat_le (length (splice text top old new)) MAX_LINES ≡ true = grind (arith, nat_tests) in
    let sum : bytes_of (splice text top old new) + gone ≡ bytes_of text + bytes_of new = omega (arith, bytes_of-splice text new top old within) in
    let less : gone ≤ bytes_of text = omega (arith, bytes_of-cut_out text top old within) in
    rw first (same-test more (bytes_of (splice text top old new)) (bytes_of text) (bytes_of new) gone counted sum less sound)

copied-test : (more result text new : ℕ) → more ≡ new → result ≡ text + new → text ≤ MAX_TEXT_BYTES → nat_le more (MAX_TEXT_BYTES - text) ≡ nat_le result MAX_TEXT_BYTES
copied-test more result text new counted sum sound = grind (arith, nat_tests)

-- copies of lines that fit beside the text
pub fits-copied : (text : List (List ℕ)) (top count to bytes : ℕ) → top + count ≤ length text → to ≤ length text → count ≤ MAX_LINES - length text → length text ≤ MAX_LINES →
    bytes ≡ bytes_of (cut_out text top count) → bytes_of text ≤ MAX_TEXT_BYTES → nat_le bytes (MAX_TEXT_BYTES - bytes_of text) ≡ is_within (splice text to 0 (cut_out text top count))
fits-copied text top count to bytes within to_within few whole counted sound =
    let new = cut_out text top count in
    let at : to + 0 ≤ length text = omega (arith, to_within) in
    let sum : bytes_of (splice text to 0 new) + 0 ≡ bytes_of text + bytes_of new = bytes_of-splice text new to 0 at in
    let lines : length (splice text to 0 new) ≤ MAX_LINES = omega (arith, length-splice text to 0 at new, length-cut_out text top count within) in
    let first : nat_le (length (splice text to 0 new)) MAX_LINES ≡ true = grind (arith, nat_tests) in
    rw first (copied-test bytes (bytes_of (splice text to 0 new)) (bytes_of text) (bytes_of new) counted (omega (arith, sum)) sound)

-- copies of lines of a text that there is room for once more
pub fits-twice : (text : List (List ℕ)) (top count to : ℕ) → top + count ≤ length text → to ≤ length text → count ≤ MAX_LINES - length text → length text ≤ MAX_LINES →
    bytes_of text ≤ MAX_TEXT_BYTES → bytes_of text ≤ MAX_TEXT_BYTES - bytes_of text → true ≡ is_within (splice text to 0 (cut_out text top count))
fits-twice text top count to within to_within few whole sound room =
    let bytes = bytes_of (cut_out text top count) in
    let less : bytes_of (cut_out text top count) ≤ MAX_TEXT_BYTES - bytes_of text = omega (arith, room, bytes_of-cut_out text top count within) in
    let test : nat_le bytes (MAX_TEXT_BYTES - bytes_of text) ≡ true = grind (arith, nat_tests) in
    sym test ∙ fits-copied text top count to bytes within to_within few whole refl sound

pub copied-many : (text : List (List ℕ)) (top count to : ℕ) → top + count ≤ length text → to ≤ length text → MAX_LINES - length text < count → length text ≤ MAX_LINES →
    false ≡ is_within (splice text to 0 (cut_out text top count))
copied-many text top count to within to_within many whole =
    let at : to + 0 ≤ length text = omega (arith, to_within) in
    sym (not-within (splice text to 0 (cut_out text top count)) (inl (omega (arith, length-splice text to 0 at (cut_out text top count), length-cut_out text top count within))))

-- the lines of a text within its limits are short where they are copied
pub copied-short : (text : List (List ℕ)) (top count : ℕ) → All IsShort text → list_all is_short (cut_out text top count) ≡ true
copied-short text top count all = short-all (cut_out text top count) (All-take IsShort count (drop top text) (All-drop IsShort top text all))

-- copies that do not fit
pub copied-full : (text : List (List ℕ)) (place : Place) → All IsShort text → false ≡ is_within (splice text place.to 0 (lines_in text place.lines)) →
    bounded text (Ok (copied text place)) ≡ Err TextFull
copied-full text place short full =
    refused-full text (record { top = place.to; old = 0; new = lines_in text place.lines; cursor = place.to + size_of place.lines })
    (copied-short text (before place.lines) (size_of place.lines) short) (sym full)

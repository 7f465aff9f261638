-- A page whose fields were filled one after the other: each field holds what it was filled with, since the fields lie apart, and every other place is as it was.
use Rattle.std.proofs.Common.{◌≡◌, ℕ, zero, suc, ◌+◌, ◌<◌, ◌≤◌, ◌⊎◌, Bool, true, false, ◌&&◌, ◌||◌, leb, List, [], ◌∷◌, ◌++◌, length, get_or, refl, sym, ap, ◌∙◌, arith, inl, inr}
use Rattle.vs_bytes.specs.Fields.{Little, field_at, with_field}
use Rattle.vs_bytes.proofs.FieldLaws.{field_at-with_field, field_at-with_field_apart, length-bytes_of, length-with_field}
use Rattle.vs_zero.specs.Layout.{Field, filled}
use Rattle.vs_zero.specs.Zero.{Content, number, text, with_contents}

-- ---- one field

-- one field more was filled
pub filled_next : {page now : List ℕ} (field : Field) (bytes before : List ℕ) → before ≡ page → now ≡ with_field before field.at bytes → now ≡ filled page field bytes
unfolding filled
filled_next field bytes before so_far step = step ∙ ap (λ (page : List ℕ). with_field page field.at bytes) so_far

-- the content stands within a page of this size, and within its field
pub record Fits (size : ℕ) (content : Content) : Type 0 where
  pub within : content.field.at + content.field.width ≤ size
  pub short : length content.bytes ≤ content.field.width

-- numbers and bytes fill their fields, and a text must not be longer
pub fits_number : {size : ℕ} (field : Field) (value : ℕ) → field.at + field.width ≤ size → Fits size (number field value)
fits_number field value inside = record { within = inside; short = omega (arith, length-bytes_of Little field.width value) }

pub fits_text : {size : ℕ} (field : Field) (bytes : List ℕ) → field.at + field.width ≤ size → length bytes ≤ field.width → Fits size (text field bytes)
fits_text field bytes inside small = record { within = inside; short = small }

-- a place lies before or after a field
abbrev pub is_apart : ℕ → ℕ → Field → Bool
is_apart place width field = leb (place + width) field.at || leb (field.at + field.width) place

apart : (place width : ℕ) (field : Field) → is_apart place width field ≡ true → (place + width ≤ field.at) ⊎ (field.at + field.width ≤ place)
apart place width field holds = grind (arith, holds)

length-filled : (size : ℕ) (page : List ℕ) (content : Content) → length page ≡ size → Fits size content → length (filled page content.field content.bytes) ≡ size
unfolding filled
length-filled size page content whole fits =
    length-with_field page content.field.at content.bytes (omega (arith, fits.within, fits.short)) ∙ whole

field_at-filled_apart : (size : ℕ) (page : List ℕ) (content : Content) (place width n : ℕ) → length page ≡ size → Fits size content
    → is_apart place width content.field ≡ true → n ≤ width → field_at (filled page content.field content.bytes) place n ≡ field_at page place n
unfolding filled
field_at-filled_apart size page content place width n whole fits far small =
    field_at-with_field_apart page content.field.at content.bytes place n (omega (arith, fits.within)) (
    elim (apart place width content.field far) [
      | inl before ↦ inl (omega arith)
      | inr behind ↦ inr (omega (arith, fits.short))
    ]
    )

-- ---- one field after the other

abbrev pub AllFit : ℕ → List Content → Type 0
AllFit size [] = Unit {0}
AllFit size (content ∷ contents) = Fits size content × AllFit size contents

pub AllFit-append : (size : ℕ) (first rest : List Content) → AllFit size first → AllFit size rest → AllFit size (first ++ rest)
AllFit-append size [] rest fit fits = fits
AllFit-append size (content ∷ first) rest fit fits = (fit.0, AllFit-append size first rest fit.1 fits)

abbrev pub are_apart : ℕ → ℕ → List Content → Bool
are_apart place width [] = true
are_apart place width (content ∷ contents) = is_apart place width content.field && are_apart place width contents

abbrev pub all_apart : List Content → Bool
all_apart [] = true
all_apart (content ∷ contents) = are_apart content.field.at content.field.width contents && all_apart contents

pub and_left : (a b : Bool) → (a && b) ≡ true → a ≡ true
and_left true b holds = refl
and_left false b holds = holds

pub and_right : (a b : Bool) → (a && b) ≡ true → b ≡ true
and_right true b holds = holds
and_right false b holds = cc

-- the page keeps its length
pub length-with_contents : (size : ℕ) (page : List ℕ) (contents : List Content) → length page ≡ size → AllFit size contents → length (with_contents page contents) ≡ size
length-with_contents size page [] whole fit = whole
length-with_contents size page (content ∷ contents) whole fit =
    length-with_contents size (filled page content.field content.bytes) contents (length-filled size page content whole fit.0) fit.1

-- a place that lies apart from all fields is as it was
pub field_at-with_contents_apart : (size : ℕ) (page : List ℕ) (contents : List Content) (place width n : ℕ) → length page ≡ size → AllFit size contents
    → are_apart place width contents ≡ true → n ≤ width → field_at (with_contents page contents) place n ≡ field_at page place n
field_at-with_contents_apart size page [] place width n whole fit far small = refl
field_at-with_contents_apart size page (content ∷ contents) place width n whole fit far small =
    let near = and_left (is_apart place width content.field) (are_apart place width contents) far in
    let rest = and_right (is_apart place width content.field) (are_apart place width contents) far in
    field_at-with_contents_apart size (filled page content.field content.bytes) contents place width n (length-filled size page content whole fit.0) fit.1 rest small
    ∙ field_at-filled_apart size page content place width n whole fit.0 near small

-- each field holds what it was filled with
pub field_at-with_contents : (size : ℕ) (page : List ℕ) (contents : List Content) (k n : ℕ) (content : Content) → length page ≡ size → AllFit size contents
    → all_apart contents ≡ true → k < length contents → content ≡ get_or contents k content → length content.bytes ≡ n
    → field_at (with_contents page contents) content.field.at n ≡ content.bytes
unfolding filled
field_at-with_contents size page [] k n content whole fit far inside is wide = absurd (omega arith)
field_at-with_contents size page (first ∷ contents) zero n content whole fit far inside is wide =
    let place : ℕ = first.field.at in
    let clear = and_left (are_apart place first.field.width contents) (all_apart contents) far in
    let small : length first.bytes ≤ first.field.width = fit.0.short in
    let room : place ≤ length page = omega (arith, fit.0.within) in
    rw is (
    field_at-with_contents_apart size (filled page first.field first.bytes) contents place first.field.width n
    (length-filled size page first whole fit.0) fit.1 clear (omega (arith, ap (λ (it : Content). length it.bytes) is))
    ∙ field_at-with_field page place first.bytes n room (sym (ap (λ (it : Content). length it.bytes) is) ∙ wide)
    )
field_at-with_contents size page (first ∷ contents) (suc k) n content whole fit far inside is wide =
    let rest = and_right (are_apart first.field.at first.field.width contents) (all_apart contents) far in
    field_at-with_contents size (filled page first.field first.bytes) contents k n content (length-filled size page first whole fit.0) fit.1 rest (omega arith) is wide

-- What a write of some bytes leaves around them, and what stands in their place: laws of fields.
use Rattle.std.proofs.Common.{◌≡◌, ℕ, ◌+◌, ◌-◌, ◌≤◌, List, [], ◌++◌, length, take, drop, refl, sym, ap, ◌∙◌, arith, inl, length-append}
use Rattle.std.proofs.lemmas.List.{append-nil, append_assoc, drop_at, drop-drop, length-take-le, take-append-drop, take_at, take-take}
use Rattle.std.proofs.Math.Seq.{take-add}
use Rattle.vs_bytes.specs.Fields.{field_at, with_field}
use Rattle.vs_bytes.proofs.FieldLaws.{drop-with_field, field_at-append_left, field_at-append_right, field_at-drop, field_at-take, field_at-with_field_apart, length-field_at, length-with_field, take-with_field}

-- all bytes stay but those from one place up to another
pub record Keeps (old new : List ℕ) (from to : ℕ) : Type 0 where
  pub same_length : length new ≡ length old
  pub before : take from new ≡ take from old
  pub after : drop to new ≡ drop to old

pub kept_by_write : (block : List ℕ) (at : ℕ) (field : List ℕ) (from to : ℕ) → at + length field ≤ length block → from ≤ at → at + length field ≤ to
    → Keeps block (with_field block at field) from to
kept_by_write block at field from to within low high =
    record {
      same_length = length-with_field block at field within;
      before = take-with_field block at field from (omega arith) low;
      after = drop-with_field block at field to (omega arith) high;
    }

pub kept_on : (old mid new : List ℕ) (from to : ℕ) → Keeps old mid from to → Keeps mid new from to → Keeps old new from to
kept_on old mid new from to a b =
    record { same_length = cc; before = b.before ∙ a.before; after = b.after ∙ a.after }

pub kept_in_more : (old new : List ℕ) (from to from' to' : ℕ) → Keeps old new from to → from' ≤ from → to ≤ to' → Keeps old new from' to'
kept_in_more old new from to from' to' h low high =
    let n : ℕ = to' - to in
    let past : to' ≡ to + n = omega arith in
    record {
      same_length = h.same_length;
      before = sym (take-take from' from new low) ∙ ap (take from') h.before ∙ take-take from' from old low;
      after = rw past (sym (drop-drop n to new) ∙ ap (drop n) h.after ∙ drop-drop n to old);
    }

-- a field on either side is as it was
pub field_before : (old new : List ℕ) (from to place width : ℕ) → Keeps old new from to → place + width ≤ from → field_at new place width ≡ field_at old place width
field_before old new from to place width h apart =
    sym (field_at-take new from place width apart) ∙ ap (λ (xs : List ℕ). field_at xs place width) h.before ∙ field_at-take old from place width apart

pub field_after : (old new : List ℕ) (from to place width : ℕ) → Keeps old new from to → to ≤ place → field_at new place width ≡ field_at old place width
field_after old new from to place width h apart =
    let n : ℕ = place - to in
    let past : place ≡ to + n = omega arith in
    rw past (sym (field_at-drop new to n width) ∙ ap (λ (xs : List ℕ). field_at xs n width) h.after ∙ field_at-drop old to n width)

-- a part of what was written
pub field_within : (block : List ℕ) (at : ℕ) (field : List ℕ) (place part width : ℕ) → at ≤ length block → place ≡ at + part → part + width ≤ length field
    → field_at (with_field block at field) place width ≡ field_at field part width
field_within block at field place part width within same inside =
    let front : List ℕ = take at block in
    let rest : List ℕ = drop (at + length field) block in
    let cut : length front ≡ at = length-take-le at block within in
    rw append_assoc (field_at-append_right front (field ++ rest) part width place (omega arith) ∙ field_at-append_left field rest part width inside)

-- a part of the bytes that were copied
pub field_moved : (block source : List ℕ) (start wide to place from width : ℕ) → to ≤ length block → start + wide ≤ length source
    → start ≤ from → from + width ≤ start + wide → place + start ≡ to + from
    → field_at (with_field block to (field_at source start wide)) place width ≡ field_at source from width
field_moved block source start wide to place from width within lies low high same =
    let part : ℕ = from - start in
    let whole : length (field_at source start wide) ≡ wide = length-field_at source start wide lies in
    let is : from ≡ start + part = omega arith in
    field_within block to (field_at source start wide) place part width within (omega arith) (omega arith)
    ∙ field_at-take (drop start source) wide part width (omega arith)
    ∙ field_at-drop source start part width
    ∙ ap (λ (n : ℕ). field_at source n width) (sym is)

-- two writes in a row, one after the other
pub joined_writes : (block : List ℕ) (at : ℕ) (first second : List ℕ) (next : ℕ) → at + length first + length second ≤ length block → next ≡ at + length first
    → with_field (with_field block at first) next second ≡ with_field block at (first ++ second)
joined_writes block at first second next within same =
    let front : List ℕ = take at block in
    let rest : List ℕ = drop (at + length first) block in
    let cut : length front ≡ at = length-take-le at block (omega arith) in
    let whole : length (front ++ first) ≡ next = omega (arith, length-append {A = ℕ}) in
    let ahead : take next ((front ++ first) ++ rest) ≡ front ++ first = take_at (front ++ first) rest next whole in
    let after : drop (next + length second) (with_field block at first) ≡ drop (next + length second) block =
    drop-with_field block at first (next + length second) (omega arith) (omega arith) in
    let wide : at + length (first ++ second) ≡ next + length second = omega (arith, length-append {A = ℕ}) in
    rw (ahead, after, wide) (ap (λ (xs : List ℕ). xs ++ drop (next + length second) block) (append_assoc front first second))

-- two writes in a row, the second right before the first
pub joined_writes_back : (block : List ℕ) (at : ℕ) (front back : List ℕ) (next : ℕ) → at + length front + length back ≤ length block → next ≡ at + length front
    → with_field (with_field block next back) at front ≡ with_field block at (front ++ back)
joined_writes_back block at front back next within same =
    let rest : List ℕ = drop (next + length back) block in
    let ahead : take at (with_field block next back) ≡ take at block = take-with_field block next back at (omega arith) (omega arith) in
    let cut : length (take next block) ≡ at + length front = length-take-le next block (omega arith) ∙ same in
    let after : drop (at + length front) (with_field block next back) ≡ back ++ rest = rw append_assoc (drop_at (take next block) (back ++ rest) (at + length front) cut) in
    let wide : at + length (front ++ back) ≡ next + length back = omega (arith, length-append {A = ℕ}) in
    rw (ahead, after, wide) (sym (append_assoc (take at block ++ front) back rest) ∙ ap (λ (xs : List ℕ). xs ++ rest) (append_assoc (take at block) front back))

-- the bytes copied to another place, all but as many of the first as are left
abbrev pub moved : List ℕ → ℕ → ℕ → ℕ → ℕ → List ℕ
moved block start wide to left = with_field block (to + left) (field_at block (start + left) (wide - left))

-- none of them at first
pub none_moved : (block : List ℕ) (start wide to : ℕ) → block ≡ moved block start wide to wide
none_moved block start wide to =
    let none : wide - wide ≡ 0 = omega arith in
    let nothing : field_at block (start + wide) (wide - wide) ≡ [] = rw none refl in
    let end : to + wide + 0 ≡ to + wide = omega arith in
    rw (nothing, append-nil, end) (sym (take-append-drop (to + wide) block))

-- those before them are copied upwards from where they still stand
pub more_moved : (block : List ℕ) (start wide to left count fewer : ℕ) → start ≤ to → to + wide ≤ length block → left ≤ wide → left ≡ fewer + count
    → with_field (moved block start wide to left) (to + fewer) (field_at (moved block start wide to left) (start + fewer) count) ≡ moved block start wide to fewer
more_moved block start wide to left count fewer upwards room some less =
    let back : List ℕ = field_at block (start + left) (wide - left) in
    let front : List ℕ = field_at block (start + fewer) count in
    let back_wide : length back ≡ wide - left = length-field_at block (start + left) (wide - left) (omega arith) in
    let front_wide : length front ≡ count = length-field_at block (start + fewer) count (omega arith) in
    let stands : field_at (moved block start wide to left) (start + fewer) count ≡ front =
    field_at-with_field_apart block (to + left) back (start + fewer) count (omega arith) (inl (omega arith)) in
    let next : start + left ≡ start + fewer + count = omega arith in
    let both : wide - fewer ≡ count + (wide - left) = omega arith in
    let joined : front ++ back ≡ field_at block (start + fewer) (wide - fewer) =
    rw (both, next, ← drop-drop count (start + fewer) block) (sym (take-add count (wide - left) (drop (start + fewer) block))) in
    rw stands (joined_writes_back block (to + fewer) front back (to + left) (omega arith) (omega arith) ∙ ap (with_field block (to + fewer)) joined)

-- all of them at the end
pub all_moved : (block : List ℕ) (start wide to : ℕ) → moved block start wide to 0 ≡ with_field block to (field_at block start wide)
all_moved block start wide to =
    let place : to + 0 ≡ to = omega arith in
    let from : start + 0 ≡ start = omega arith in
    let whole : wide - 0 ≡ wide = omega arith in
    rw (place, from, whole) refl

-- A line by its bytes alone, the zero byte among them, so that it is the same line wherever these bytes stand.
use Rattle.std.proofs.Common.{◌≡◌, ◌≢◌, ℕ, ◌+◌, ◌-◌, ◌/◌, ◌%◌, ◌^◌, ◌<◌, ◌≤◌, Bool, true, not, ◌&&◌, ◌==◌, nat_lt, List, [], ◌∷◌, ◌++◌, length, take, drop, slice_index, slice_range, refl, sym, ap, ◌∙◌, arith, length-append}
use Rattle.std.specs.List.{All, list_all}
use Rattle.std.proofs.lemmas.Bool.Decides.{nat_tests}
use Rattle.std.proofs.lemmas.List.{get_or-drop, get_or-take, get_or_at, take_at, take-take}
use Rattle.std.proofs.lemmas.List.Sums.{list_all-from_AllPass}
use Rattle.vs_bytes.specs.Fields.{field_at}
use Rattle.vs_bytes.proofs.FieldLaws.{length-field_at}
use Rattle.vs_data.specs.Blocks.{end_at, is_line, line_at, mark_at, start_at}

-- the bytes end in a zero byte and have no other
abbrev pub is_stored : List ℕ → Bool
is_stored bytes =
    (slice_index bytes (length bytes - 1) == 0) && list_all (λ byte. not (byte == 0)) (take (length bytes - 1) bytes)

line_bytes : (block : List ℕ) (start end : ℕ) → start < end → slice_range block start (end - 1) ≡ take (end - start - 1) (field_at block start (end - start))
line_bytes block start end order =
    let less : end - 1 - start ≡ end - start - 1 = omega arith in
    rw less (sym (take-take (end - start - 1) (end - start) (drop start block) (omega arith)))

last_byte : (block : List ℕ) (start end : ℕ) → start < end → slice_index block (end - 1) ≡ slice_index (field_at block start (end - start)) (end - start - 1)
last_byte block start end order =
    let place : start + (end - start - 1) ≡ end - 1 = omega arith in
    sym (get_or-take (end - start) (drop start block) (end - start - 1) 0 (omega arith) ∙ get_or-drop start block (end - start - 1) 0 ∙ ap (slice_index block) place)

pub line_by_bytes : (block : List ℕ) (start end : ℕ) → start < end → end ≤ length block
    → is_line block start end ≡ is_stored (field_at block start (end - start))
unfolding is_line
line_by_bytes block start end order within =
    let wide : length (field_at block start (end - start)) ≡ end - start = length-field_at block start (end - start) (omega arith) in
    let ordered : nat_lt start end ≡ true = grind (arith, nat_tests) in
    rw (ordered, wide, last_byte block start end order, line_bytes block start end order) refl

-- one block's line is another's: mark bit, bytes, and whether they are those of a line
pub record SameLine (old : List ℕ) (k : ℕ) (new : List ℕ) (j : ℕ) : Type 0 where
  pub mark : mark_at new j ≡ mark_at old k
  pub line : line_at new j ≡ line_at old k
  pub is : is_line new (start_at new j) (end_at new j) ≡ is_line old (start_at old k) (end_at old k)

pub same_line : (old : List ℕ) (k : ℕ) (new : List ℕ) (j : ℕ) → mark_at new j ≡ mark_at old k
    → start_at old k < end_at old k → end_at old k ≤ length old → end_at new j ≤ length new
    → start_at new j + end_at old k ≡ start_at old k + end_at new j
    → field_at new (start_at new j) (end_at old k - start_at old k) ≡ field_at old (start_at old k) (end_at old k - start_at old k)
    → SameLine old k new j
same_line old k new j mark order within within' moved bytes =
    let wide : end_at new j - start_at new j ≡ end_at old k - start_at old k = omega arith in
    let order' : start_at new j < end_at new j = omega arith in
    let bytes' : field_at new (start_at new j) (end_at new j - start_at new j) ≡ field_at old (start_at old k) (end_at old k - start_at old k) = rw wide bytes in
    record {
      mark = mark;
      line = line_bytes new (start_at new j) (end_at new j) order' ∙ rw (bytes', wide) (sym (line_bytes old (start_at old k) (end_at old k) order));
      is = line_by_bytes new (start_at new j) (end_at new j) order' within' ∙ ap is_stored bytes' ∙ sym (line_by_bytes old (start_at old k) (end_at old k) order within);
    }

-- a line with a zero byte after it
stored_line : (line : List ℕ) → All (λ byte. byte ≢ 0) line → is_stored (line ++ 0 ∷ []) ≡ true
stored_line line none =
    let long : length (line ++ 0 ∷ []) - 1 ≡ length line = omega (arith, length-append {A = ℕ}) in
    let last : slice_index (line ++ 0 ∷ []) (length line) ≡ 0 = get_or_at line 0 [] 0 (length line) refl in
    let front : take (length line) (line ++ 0 ∷ []) ≡ line = take_at line (0 ∷ []) (length line) refl in
    let all : list_all (λ byte. not (byte == 0)) line ≡ true =
    list_all-from_AllPass (λ (byte : ℕ). not (byte == 0)) line (λ i d within. (let no = none i d within in grind (arith, nat_tests))) in
    rw (long, last, front, all) refl

-- such bytes in a block
pub record IsLine (block : List ℕ) (j : ℕ) (stored : List ℕ) : Type 0 where
  pub line : line_at block j ≡ stored
  pub is : is_line block (start_at block j) (end_at block j) ≡ true

pub line_put : (block : List ℕ) (j : ℕ) (line : List ℕ) → All (λ byte. byte ≢ 0) line → end_at block j ≤ length block
    → start_at block j + (length line + 1) ≡ end_at block j
    → field_at block (start_at block j) (length line + 1) ≡ line ++ 0 ∷ []
    → IsLine block j line
line_put block j line none within size bytes =
    let start : ℕ = start_at block j in
    let end : ℕ = end_at block j in
    let order : start < end = omega arith in
    let wide : end - start ≡ length line + 1 = omega arith in
    let less : end - start - 1 ≡ length line = omega arith in
    record {
      line = line_bytes block start end order ∙ rw (less, wide, bytes) (take_at line (0 ∷ []) (length line) refl);
      is = line_by_bytes block start end order within ∙ rw (wide, bytes) (stored_line line none);
    }

-- an entry that is moved moves the start, and keeps the mark bit, as long as the start stays within its bits
pub record MovedStart (old new a b : ℕ) : Type 0 where
  pub start : new % 2 ^ 31 + a ≡ old % 2 ^ 31 + b
  pub mark : new / 2 ^ 31 ≡ old / 2 ^ 31

pub start_moves : (old new a b : ℕ) → new + a ≡ old + b → a ≤ old % 2 ^ 31 + b → old % 2 ^ 31 + b < 2 ^ 31 + a → MovedStart old new a b
start_moves old new a b moved low high = record { start = omega arith; mark = omega arith }

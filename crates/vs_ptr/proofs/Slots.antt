-- The slots of a block after a write to it: each write is one of whole slots, and leaves the header. The block has h bytes
-- before its slots of w bytes, and m slots before the place of the write.
use Rattle.std.proofs.Common.{◌≡◌, ℕ, suc, ◌+◌, ◌-◌, ◌*◌, ◌<◌, ◌≤◌, List, ◌++◌, length, take, drop, set, Some, refl, sym, ap, ◌∙◌, arith, inl, inr}
use Rattle.std.proofs.lemmas.List.{drop-drop, take_at, drop_at, length-take-le}
use borrow.Rule.Slice.PartMut.{put_mid, post_of}
use Rattle.std.specs.List.{copy_within}
use Rattle.std.specs.Prelude.{insert, remove, slice_get}
use Rattle.std.specs.Simd.{first_chunks}
use Rattle.vs_bytes.specs.Fields.{field_at, with_field}
use Rattle.vs_bytes.proofs.FieldLaws.{length-with_field, length-field_at, take-with_field, field_at-with_field, field_at-with_field_apart}
use Rattle.vs_ptr.specs.declared.PtrView.{PtrView}
use Rattle.vs_ptr.specs.Blocks.{slots_of}
use Rattle.vs_ptr.proofs.Headers.{IsHeader, slots_counted}
use Rattle.vs_ptr.proofs.Chunks.{first_chunks_same, take-first_chunks, drop-first_chunks, slice_get-first_chunks, first_chunks-insert, first_chunks-remove, first_chunks-set}

-- a copy within a list is a write of one of its fields
pub copy_within-is : (bytes : List ℕ) (from to at n : ℕ) → to - from ≡ n → from + n ≤ length bytes → copy_within bytes from to at ≡ with_field bytes at (field_at bytes from n)
copy_within-is bytes from to at n count within = rw (count, length-field_at bytes from n within) refl

-- a field of the slots is a field of the block
past : (h at width : ℕ) (bytes : List ℕ) → take width (drop at (drop h bytes)) ≡ field_at bytes (h + at) width
past h at width bytes = ap (take width) (drop-drop at h bytes)

-- n slots move up by one, and another is written below them
opened : (h w m n : ℕ) (block slot : List ℕ) → length slot ≡ w → h + w * (m + suc n) ≤ length block
    → first_chunks w (m + suc n) (drop h (with_field (copy_within block (h + w * m) (h + w * (m + n)) (h + w * m + w)) (h + w * m) slot))
    ≡ insert (first_chunks w (m + n) (drop h block)) m slot
opened h w m n block slot wide room =
    let up : List ℕ = field_at block (h + w * m) (w * n) in
    let moved : List ℕ = with_field block (h + w * m + w) up in
    let long : length up ≡ w * n = length-field_at block (h + w * m) (w * n) (omega arith) in
    let same : length moved ≡ length block = length-with_field block (h + w * m + w) up (omega arith) in
    let next : h + w * suc m ≡ h + w * m + w = omega arith in
    rw (copy_within-is block (h + w * m) (h + w * (m + n)) (h + w * m + w) (w * n) (omega arith) (omega arith))
    (first_chunks-insert w m n (drop h block) (drop h (with_field moved (h + w * m) slot)) slot
    (field_at-with_field_apart moved (h + w * m) slot h (w * m) (omega arith) (inl (omega arith)) ∙ field_at-with_field_apart block (h + w * m + w) up h (w * m) (omega arith) (inl (omega arith)))
    (past h (w * m) w _ ∙ field_at-with_field moved (h + w * m) slot w (omega arith) wide)
    (past h (w * suc m) (w * n) _ ∙ rw next (field_at-with_field_apart moved (h + w * m) slot (h + w * m + w) (w * n) (omega arith) (inr (omega arith)))
    ∙ field_at-with_field block (h + w * m + w) up (w * n) (omega arith) long ∙ sym (past h (w * m) (w * n) block)))

-- n slots move down by one, over the one below them
closed : (h w m n : ℕ) (block : List ℕ) → h + w * (m + suc n) ≤ length block
    → first_chunks w (m + n) (drop h (copy_within block (h + w * m + w) (h + w * (m + suc n)) (h + w * m)))
    ≡ remove (first_chunks w (m + suc n) (drop h block)) m
closed h w m n block room =
    let down : List ℕ = field_at block (h + w * m + w) (w * n) in
    let long : length down ≡ w * n = length-field_at block (h + w * m + w) (w * n) (omega arith) in
    let next : h + w * suc m ≡ h + w * m + w = omega arith in
    rw (copy_within-is block (h + w * m + w) (h + w * (m + suc n)) (h + w * m) (w * n) (omega arith) (omega arith))
    (first_chunks-remove w m n (drop h block) (drop h (with_field block (h + w * m) down))
    (field_at-with_field_apart block (h + w * m) down h (w * m) (omega arith) (inl (omega arith)))
    (past h (w * m) (w * n) _ ∙ field_at-with_field block (h + w * m) down (w * n) (omega arith) long
    ∙ ap (λ at. field_at block at (w * n)) (sym next) ∙ sym (past h (w * suc m) (w * n) block)))

-- a slot is written over
written : (h w m n : ℕ) (block slot : List ℕ) → length slot ≡ w → h + w * (m + suc n) ≤ length block
    → first_chunks w (m + suc n) (drop h (with_field block (h + w * m) slot)) ≡ set (first_chunks w (m + suc n) (drop h block)) m slot
written h w m n block slot wide room =
    first_chunks-set w m n (drop h block) (drop h (with_field block (h + w * m) slot)) slot
    (field_at-with_field_apart block (h + w * m) slot h (w * m) (omega arith) (inl (omega arith)))
    (past h (w * m) w _ ∙ field_at-with_field block (h + w * m) slot w (omega arith) wide)
    (past h (w * suc m) (w * n) _ ∙ field_at-with_field_apart block (h + w * m) slot (h + w * suc m) (w * n) (omega arith) (inr (omega arith)) ∙ sym (past h (w * suc m) (w * n) block))

-- a slot is put in
pub slots_opened : (h w count m n : ℕ) (block slot : List ℕ) → count ≡ m + n → length slot ≡ w → h + w * (count + 1) ≤ length block
    → first_chunks w (count + 1) (drop h (with_field (copy_within block (h + w * m) (h + w * count) (h + w * m + w)) (h + w * m) slot))
    ≡ insert (first_chunks w count (drop h block)) m slot
slots_opened h w count m n block slot split wide room =
    let more : count + 1 ≡ m + suc n = omega arith in
    rw (more, split) (opened h w m n block slot wide (rw more at room))

-- a slot is taken out
pub slots_closed : (h w count m n : ℕ) (block : List ℕ) → count ≡ m + suc n → h + w * count ≤ length block
    → first_chunks w (count - 1) (drop h (copy_within block (h + w * m + w) (h + w * count) (h + w * m)))
    ≡ remove (first_chunks w count (drop h block)) m
slots_closed h w count m n block split room =
    let less : count - 1 ≡ m + n = omega arith in
    rw (less, split) (closed h w m n block (rw split at room))

-- a slot is written over
pub slots_written : (h w count m n : ℕ) (block slot : List ℕ) → count ≡ m + suc n → length slot ≡ w → h + w * count ≤ length block
    → first_chunks w count (drop h (with_field block (h + w * m) slot)) ≡ set (first_chunks w count (drop h block)) m slot
slots_written h w count m n block slot split wide room = rw split (written h w m n block slot wide (rw split at room))

-- the slot at a place
pub slot_counted : (block : List ℕ) (view : PtrView) (at : ℕ) → IsHeader block view → at < view.count → slice_get (slots_of block) at ≡ Some (field_at block (8 + 32 * at) 32)
slot_counted block view at header within =
    let split : view.count ≡ at + suc (view.count - suc at) = omega arith in
    rw (slots_counted block view header, split) (slice_get-first_chunks 32 at (view.count - suc at) (drop 8 block) ∙ ap (λ slot. Some slot) (past 8 (32 * at) 32 block))

-- a copy leaves what stands before the place that it is copied to
pub take-copy_within : (bytes : List ℕ) (from to at n : ℕ) → from ≤ to → to ≤ length bytes → at ≤ length bytes → n ≤ at → take n (copy_within bytes from to at) ≡ take n bytes
take-copy_within bytes from to at n ordered within room before =
    rw (copy_within-is bytes from to at (to - from) refl (omega arith)) (take-with_field bytes at (field_at bytes from (to - from)) n room before)

-- n slots of a block are written over the first of another
pub slots_copied : (h w count m n : ℕ) (block other slots : List ℕ) → count ≡ m + n → h + w * count ≤ length block → h ≤ length other → slots ≡ field_at block (h + w * m) (w * n)
    → first_chunks w n (drop h (put_mid h (w * n) other slots)) ≡ drop m (first_chunks w count (drop h block))
slots_copied h w count m n block other slots split within whole copied =
    let room : h + w * (m + n) ≤ length block = rw split at within in
    let rest : List ℕ = post_of h (w * n) other in
    let long : length slots ≡ w * n = ap length copied ∙ length-field_at block (h + w * m) (w * n) (omega arith) in
    let front : take (w * n) (slots ++ rest) ≡ take (w * n) (drop (w * m) (drop h block)) = take_at slots rest (w * n) long ∙ copied ∙ sym (past h (w * m) (w * n) block) in
    rw (drop_at (take h other) (slots ++ rest) h (length-take-le h other whole), first_chunks_same w n (slots ++ rest) (drop (w * m) (drop h block)) front, split)
    (sym (drop-first_chunks w m n (drop h block)))

-- the first slots of those that are counted
pub slots_taken : (block : List ℕ) (view : PtrView) (count : ℕ) → IsHeader block view → count ≤ view.count → first_chunks 32 count (drop 8 block) ≡ take count (slots_of block)
slots_taken block view count header within =
    let split : view.count ≡ count + (view.count - count) = omega arith in
    rw (slots_counted block view header, split) (sym (take-first_chunks 32 count (view.count - count) (drop 8 block)))

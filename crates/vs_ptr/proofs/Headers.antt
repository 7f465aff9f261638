-- The header of a pointer block: that the block reads is a list of facts on its numbers, each of which a write keeps or sets.
use Rattle.std.proofs.Common.{◌≡◌, ℕ, ◌+◌, ◌*◌, ◌<◌, ◌≤◌, ◌^◌, ◌&&◌, Bool, true, false, cond, eqb, leb, List, length, take, drop, map, Some, Ok, Err, unwrap_or, [], refl, sym, ap, ◌∙◌, arith, inl, inr}
use Rattle.std.proofs.lemmas.List.{length-map}
use Rattle.std.proofs.lemmas.Bool.{leb-true, le-leb, eqb-true, eq-eqb}
use Rattle.std.specs.Simd.{first_chunks}
use Rattle.vs_bytes.specs.Fields.{Little, bytes_of, field_at, number_at, with_number}
use Rattle.vs_bytes.proofs.FieldLaws.{length-bytes_of, drop-with_field, field_at-take, length-with_number, number_at-with_number, number_at-with_number_apart}
use Rattle.vs_ptr.proofs.Chunks.{length-first_chunks}
use Rattle.vs_ptr.specs.declared.PtrView.{PtrView}
use Rattle.vs_ptr.specs.declared.PtrEntry.{PtrEntry}
use Rattle.vs_ptr.specs.Blocks.{entry_of, slots_of, entries_of, view_in, entries_in}

-- the block reads as this view
pub record IsHeader (block : List ℕ) (view : PtrView) : Type 0 where
  pub whole : 8 ≤ length block
  pub marked : number_at Little 2 block 0 ≡ 0x7074
  pub count : number_at Little 2 block 2 ≡ view.count
  pub most : number_at Little 2 block 4 ≡ view.most
  pub allowed : view.count ≤ view.most
  pub room : 8 + 32 * view.count ≤ length block

-- which tests passed where two nested tests end well
passed : {V E : Type 0} (a b c d : Bool) (v w : V) (e f : E) → cond (a && b) (cond (c && d) (Ok v) (Err e)) (Err f) ≡ Ok w
    → (a ≡ true) × (b ≡ true) × (c ≡ true) × (d ≡ true) × (v ≡ w)
passed true true true true v w e f h = (refl, refl, refl, refl, cc)
passed true true true false v w e f h = cc
passed true true false d v w e f h = cc
passed true false c d v w e f h = cc
passed false b c d v w e f h = cc

pub header_from_view : (block : List ℕ) (view : PtrView) → view_in block ≡ Ok view → IsHeader block view
unfolding view_in
header_from_view block view reads =
    let count = number_at Little 2 block 2 in
    let most = number_at Little 2 block 4 in
    let all = passed (leb 8 (length block)) (eqb (number_at Little 2 block 0) 0x7074) (leb count most) (leb (8 + 32 * count) (length block)) (record { count = count; most = most }) view _ _ reads in
    let same_count : count ≡ view.count = ap (λ (v : PtrView). v.count) all.4 in
    let same_most : most ≡ view.most = ap (λ (v : PtrView). v.most) all.4 in
    let allowed : count ≤ most = leb-true _ _ all.2 in
    let room : 8 + 32 * count ≤ length block = leb-true _ _ all.3 in
    record {
      whole = leb-true _ _ all.0;
      marked = eqb-true _ _ all.1;
      count = same_count;
      most = same_most;
      allowed = omega arith;
      room = omega arith;
    }

pub view_from_header : (block : List ℕ) (view : PtrView) → IsHeader block view → view_in block ≡ Ok view
unfolding view_in
view_from_header block view header =
    let a = le-leb 8 (length block) header.whole in
    let b = eq-eqb _ _ header.marked in
    let c = le-leb _ _ header.allowed in
    let d = le-leb _ _ header.room in
    rw (header.count, header.most, a, b, c, d) refl

-- a field of the header is the same in two blocks that have the same first bytes
pub same_in_header : (new old : List ℕ) (at width : ℕ) → take 8 new ≡ take 8 old → at + width ≤ 8 → field_at new at width ≡ field_at old at width
same_in_header new old at width same within =
    sym (field_at-take new 8 at width within) ∙ ap (λ front. field_at front at width) same ∙ field_at-take old 8 at width within

-- a block reads by its first bytes and its length
pub view_in-same : (new old : List ℕ) → take 8 new ≡ take 8 old → length new ≡ length old → view_in new ≡ view_in old
unfolding view_in
view_in-same new old same long =
    rw (long, same_in_header new old 0 2 same (omega arith), same_in_header new old 2 2 same (omega arith), same_in_header new old 4 2 same (omega arith)) refl

-- another count is written to the header
pub header_counted : (block : List ℕ) (view : PtrView) (count : ℕ) → IsHeader block view → count < 2 ^ 16 → count ≤ view.most → 8 + 32 * count ≤ length block
    → IsHeader (with_number Little 2 block 2 count) (record view { count = count })
header_counted block view count header fits allowed room =
    let whole = header.whole in
    let long = length-with_number Little 2 block 2 count (omega arith) in
    record {
      whole = rw long header.whole;
      marked = number_at-with_number_apart Little 2 block 2 count Little 2 0 (omega arith) (inl (omega arith)) ∙ header.marked;
      count = number_at-with_number Little 2 block 2 count (omega arith) fits;
      most = number_at-with_number_apart Little 2 block 2 count Little 2 4 (omega arith) (inr (omega arith)) ∙ header.most;
      allowed = allowed;
      room = rw long room;
    }

-- a whole header is written
pub header_written : (block : List ℕ) (most : ℕ) → 8 ≤ length block → most < 2 ^ 16
    → IsHeader (with_number Little 2 (with_number Little 2 (with_number Little 2 (with_number Little 2 block 0 0x7074) 2 0) 4 most) 6 0) (record { count = 0; most = most })
header_written block most whole fits =
    let a = with_number Little 2 block 0 0x7074 in
    let b = with_number Little 2 a 2 0 in
    let c = with_number Little 2 b 4 most in
    let d = with_number Little 2 c 6 0 in
    let a_long : length a ≡ length block = length-with_number Little 2 block 0 0x7074 (omega arith) in
    let b_long : length b ≡ length a = length-with_number Little 2 a 2 0 (omega arith) in
    let c_long : length c ≡ length b = length-with_number Little 2 b 4 most (omega arith) in
    let d_long : length d ≡ length c = length-with_number Little 2 c 6 0 (omega arith) in
    let past_unused = λ (place : ℕ) (before : place + 2 ≤ 6). number_at-with_number_apart Little 2 c 6 0 Little 2 place (omega arith) (inl before) in
    let past_most = λ (place : ℕ) (before : place + 2 ≤ 4). number_at-with_number_apart Little 2 b 4 most Little 2 place (omega arith) (inl before) in
    let past_count = number_at-with_number_apart Little 2 a 2 0 Little 2 0 (omega arith) (inl (omega arith)) in
    record {
      whole = omega arith;
      marked = past_unused 0 (omega arith) ∙ past_most 0 (omega arith) ∙ past_count ∙ number_at-with_number Little 2 block 0 0x7074 (omega arith) (omega arith);
      count = past_unused 2 (omega arith) ∙ past_most 2 (omega arith) ∙ number_at-with_number Little 2 a 2 0 (omega arith) (omega arith);
      most = past_unused 4 (omega arith) ∙ number_at-with_number Little 2 b 4 most (omega arith) fits;
      allowed = omega arith;
      room = omega arith;
    }

-- ---- the slots that a header counts

-- the slots of a block that reads
pub slots_counted : (block : List ℕ) (view : PtrView) → IsHeader block view → slots_of block ≡ first_chunks 32 view.count (drop 8 block)
unfolding slots_of
slots_counted block view header = ap (λ n. first_chunks 32 n (drop 8 block)) header.count

-- the slots where another count is written
pub slots_recounted : (block : List ℕ) (count : ℕ) → 4 ≤ length block → count < 2 ^ 16
    → slots_of (with_number Little 2 block 2 count) ≡ first_chunks 32 count (drop 8 block)
unfolding slots_of
slots_recounted block count whole fits =
    let end : 2 + length (bytes_of Little 2 count) ≤ 8 = omega (arith, length-bytes_of Little 2 count) in
    rw (number_at-with_number Little 2 block 2 count whole fits) (ap (first_chunks 32 count) (drop-with_field block 2 (bytes_of Little 2 count) 8 (omega arith) end))

-- the entries of a block that reads
pub entries_counted : (block : List ℕ) (view : PtrView) (slots : List (List ℕ)) → view_in block ≡ Ok view → slots_of block ≡ slots → entries_in block ≡ Some (map entry_of slots)
unfolding entries_in
entries_counted block view slots reads same = rw (reads, same) refl

pub entries_mapped : (block : List ℕ) (view : PtrView) → view_in block ≡ Ok view → entries_of block ≡ map entry_of (slots_of block)
entries_mapped block view reads = ap (λ o. unwrap_or o []) (entries_counted block view (slots_of block) reads refl)

-- the entries follow an edit of the slots
pub entries_edited : (old new : List ℕ) (view next : PtrView) (slots : List (List ℕ)) (edited : List PtrEntry → List PtrEntry)
    → view_in old ≡ Ok view → view_in new ≡ Ok next → slots_of new ≡ slots → map entry_of slots ≡ edited (map entry_of (slots_of old))
    → entries_in new ≡ Some (edited (entries_of old))
entries_edited old new view next slots edited before after same follows =
    entries_counted new next slots after same ∙ ap (λ entries. Some entries) (follows ∙ ap edited (sym (entries_mapped old view before)))

-- there are as many entries as the header counts
pub count_of_entries : (block : List ℕ) → length (map entry_of (slots_of block)) ≡ number_at Little 2 block 2
unfolding slots_of
count_of_entries block = length-map (slots_of block) entry_of ∙ length-first_chunks 32 (number_at Little 2 block 2) (drop 8 block)

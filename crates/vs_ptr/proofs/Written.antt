-- For a caller that holds a block as it is written for its entries: it stays so where an entry is written over another.
use Rattle.std.proofs.Common.{◌≡◌, ℕ, ◌+◌, ◌-◌, ◌*◌, ◌/◌, ◌<◌, List, length, map, replicate, set, true, Ok, refl, sym, ap, ◌∙◌, arith}
use Rattle.std.specs.Bool.{Decides}
use Rattle.std.proofs.lemmas.Bool.Decides.{Decides-and, Decides-eqb}
use Rattle.std.proofs.lemmas.List.{map-set}
use Rattle.std.proofs.lemmas.Slice.Eq.{bytes_eq-Decides, slice_eq-Decides}
use Rattle.vs_bytes.specs.Fields.{Little, number_at, with_field}
use Rattle.vs_bytes.proofs.FieldLaws.{length-with_field, take-with_field}
use Rattle.vs_ptr.specs.declared.PtrEntry.{PtrEntry}
use Rattle.vs_ptr.specs.declared.PtrView.{PtrView}
use Rattle.vs_ptr.specs.Blocks.{bytes_of_entry, is_block_of, slots_of, unused_of, view_in}
use Rattle.vs_ptr.proofs.Headers.{header_from_view, same_in_header}
use Rattle.vs_ptr.proofs.Writing.{slots_put, view_put}

-- what the test says
pub record IsBlockOf (entries : List PtrEntry) (block : List ℕ) : Type 0 where
  pub most : number_at Little 2 block 4 ≡ (length block - 8) / 32
  pub unused : unused_of block ≡ replicate 2 0
  pub slots : slots_of block ≡ map bytes_of_entry entries

tests : (entries : List PtrEntry) (block : List ℕ)
    → Decides (is_block_of entries block)
    ((number_at Little 2 block 4 ≡ (length block - 8) / 32) × ((unused_of block ≡ replicate 2 0) × (slots_of block ≡ map bytes_of_entry entries)))
tests entries block =
    Decides-and _ _ (Decides-eqb (number_at Little 2 block 4) ((length block - 8) / 32))
    (Decides-and _ _ (bytes_eq-Decides (unused_of block) (replicate 2 0)) (slice_eq-Decides bytes_eq-Decides (slots_of block) (map bytes_of_entry entries) _ refl))

pub block_says : (entries : List PtrEntry) (block : List ℕ) → is_block_of entries block ≡ true → IsBlockOf entries block
block_says entries block is = let t = (tests entries block).0 is in record { most = t.0; unused = t.1.0; slots = t.1.1 }

pub block_is : (entries : List PtrEntry) (block : List ℕ) → IsBlockOf entries block → is_block_of entries block ≡ true
block_is entries block b = (tests entries block).1 (b.most, (b.unused, b.slots))

-- the bytes of an entry are written over those of another
pub block_put : (entries : List PtrEntry) (block : List ℕ) (view : PtrView) (at : ℕ) (e : PtrEntry) → view_in block ≡ Ok view → at < view.count
    → length (bytes_of_entry e) ≡ 32 → is_block_of entries block ≡ true → is_block_of (set entries at e) (with_field block (8 + 32 * at) (bytes_of_entry e)) ≡ true
block_put entries block view at e reads within wide was =
    let b = block_says entries block was in
    let slot : List ℕ = bytes_of_entry e in
    let new : List ℕ = with_field block (8 + 32 * at) slot in
    let header = header_from_view block view reads in
    let room = header.room in
    let size : length new ≡ length block = length-with_field block (8 + 32 * at) slot (omega arith) in
    let front = take-with_field block (8 + 32 * at) slot 8 (omega arith) (omega arith) in
    let after = header_from_view new view (view_put block view at slot reads within wide) in
    block_is (set entries at e) new (record {
      most = after.most ∙ sym header.most ∙ b.most ∙ ap (λ n. (n - 8) / 32) (sym size);
      unused = same_in_header new block 6 2 front (omega arith) ∙ b.unused;
      slots = slots_put block view at slot reads within wide ∙ ap (λ slots. set slots at slot) b.slots ∙ sym (map-set bytes_of_entry entries at e);
    })

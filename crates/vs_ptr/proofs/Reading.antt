-- For a caller that holds a list of entries, or a view, of the same bytes: each tells the other.
use Rattle.std.proofs.Common.{◌≡◌, ℕ, List, [], length, Some, None, Ok, Err, unwrap_or, refl, sym, ap, ◌∙◌}
use Rattle.vs_ptr.specs.declared.PtrEntry.{PtrEntry}
use Rattle.vs_ptr.specs.declared.PtrView.{PtrView}
use Rattle.vs_ptr.specs.declared.PtrErr.{PtrErr}
use Rattle.vs_ptr.specs.Blocks.{slots_of, entries_of, view_in, entries_in}
use Rattle.vs_ptr.proofs.Headers.{header_from_view, entries_counted, entries_mapped, count_of_entries}

-- the list of a block that reads
pub entries_there : (block : List ℕ) (view : PtrView) → view_in block ≡ Ok view → entries_in block ≡ Some (entries_of block)
entries_there block view reads =
    entries_counted block view (slots_of block) reads refl ∙ ap (λ entries. Some entries) (sym (entries_mapped block view reads))

-- a block that is refused has no list
pub entries_refused : (block : List ℕ) (cause : PtrErr) → view_in block ≡ Err cause → entries_in block ≡ None
unfolding entries_in
entries_refused block cause refused = rw refused refl

-- the list that a block is known to be
pub entries_same : (block : List ℕ) (entries : List PtrEntry) → entries_in block ≡ Some entries → entries_of block ≡ entries
entries_same block entries is = ap (λ o. unwrap_or o []) is

-- the view counts the entries
pub length-entries_of : (block : List ℕ) (view : PtrView) → view_in block ≡ Ok view → length (entries_of block) ≡ view.count
length-entries_of block view reads =
    ap length (entries_mapped block view reads) ∙ count_of_entries block ∙ (header_from_view block view reads).count

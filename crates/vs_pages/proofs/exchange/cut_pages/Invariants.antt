use Rattle.std.proofs.Common.{◌≡◌, false, ◌*◌, ◌<◌, ℕ, None, Some, length, take, drop, slice_index_or}
use Rattle.std.specs.List.{All}
use Rattle.vs_pages.specs.Cells.{Kept, is_away}
use Rattle.vs_pages.specs.Table.{cell_of}
use Rattle.vs_pages.proofs.exchange.cut_pages.Given as goal

abbrev pub invariant-loop-i : goal.invariant-loop-i
invariant-loop-i l = record {
  len : length l.places.items ≡ l.i;
  here : All (λ place. is_away (cell_of place) ≡ false) l.places.items;
  pages : (j : ℕ) → j < l.i → cell_of (slice_index_or l.places.items j None) ≡ Some (Kept (take 4096 (drop (4096 * j) l.bytes)));
}

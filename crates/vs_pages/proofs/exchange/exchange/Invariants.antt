use Rattle.std.proofs.Common.{◌≡◌, ℕ, ◌+◌, ◌<◌, ◌≤◌, ◌⊎◌, length, get_or, None}
use Rattle.vs_pages.specs.Table.{cell_of, cells_of}
use Rattle.vs_pages.proofs.exchange.exchange.Given as goal

abbrev pub invariant-places : goal.invariant-places
invariant-places l = record {
  len : length l.pages.items ≡ length l.initial.pages.items;
  places : length l.table.places.items ≡ length l.initial.table.places.items;
  put : (j : ℕ) → j < l.i → cells_of l.table.places.items (l.at + j) ≡ cell_of (get_or l.initial.pages.items j None);
  was : (j : ℕ) → j < l.i → cell_of (get_or l.pages.items j None) ≡ cells_of l.initial.table.places.items (l.at + j);
  todo : (j : ℕ) → l.i ≤ j → get_or l.pages.items j None ≡ get_or l.initial.pages.items j None;
  rest : (k : ℕ) → (k < l.at) ⊎ (l.at + l.i ≤ k) → cells_of l.table.places.items k ≡ cells_of l.initial.table.places.items k;
}

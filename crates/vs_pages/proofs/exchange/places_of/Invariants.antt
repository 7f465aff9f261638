use Rattle.std.proofs.Common.{◌≡◌, false, None, Some, length, if◌then◌else◌}
use Rattle.std.specs.List.{All}
use Rattle.vs_pages.specs.Cells.{Blank, is_away}
use Rattle.vs_pages.specs.Table.{cell_of}
use Rattle.vs_pages.proofs.exchange.places_of.Given as goal

abbrev pub invariant-loop : goal.invariant-loop
invariant-loop l = record {
  len : length l.places.items ≡ l.counter;
  all : All (λ place. cell_of place ≡ (if l.zeros then Some Blank else None)) l.places.items;
  here : All (λ place. is_away (cell_of place) ≡ false) l.places.items;
}

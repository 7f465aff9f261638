use Rattle.std.proofs.Common.{◌≡◌, length}
use Rattle.vs_pages.specs.Maps.{numbers}
use Rattle.vs_pages.specs.Table.{last_in, noted}
use Rattle.vs_pages.proofs.history.note.Given as goal

abbrev pub invariant-loop-i : goal.invariant-loop-i
invariant-loop-i l = record {
  len : length l.last.items ≡ length l.initial.last.items;
  noted : last_in l.last.items ≡ noted (numbers l.at l.i) l.commit (last_in l.initial.last.items);
}

use Rattle.std.proofs.Common.{◌≡◌, ◌+◌, length}
use Rattle.vs_pages.specs.Table.{last_in}
use Rattle.vs_pages.proofs.memory.MemPages.extend_to.Given as goal

abbrev pub invariant-loop : goal.invariant-loop
invariant-loop l = record {
  table : l.self.table ≡ l.initial.self.table;
  log : l.self.log ≡ l.initial.self.log;
  used : l.self.used ≡ l.initial.self.used;
  count : l.self.commits ≡ l.initial.self.commits;
  longer : length l.self.last.items ≡ length l.initial.self.last.items + l.counter;
  last : last_in l.self.last.items ≡ last_in l.initial.self.last.items;
}

use Rattle.std.proofs.Common.{◌≡◌, ◌-◌, ◌≤◌, length, drop}
use Rattle.vs_pages.specs.Maps.{Map}
use Rattle.vs_pages.specs.State.{history_of}
use Rattle.vs_pages.specs.Memory.{commits_of, first_kept_of, state_under}
use Rattle.vs_pages.proofs.memory.MemPages.undo_to.Given as goal

abbrev pub invariant-changes : goal.invariant-changes
invariant-changes l = record {
  left : l.mark ≤ length l.self.log.items;
  fewer : length l.self.log.items ≤ length l.initial.self.log.items;
  history : (away : Map) → history_of (state_under away l.self) ≡ drop (length l.initial.self.log.items - length l.self.log.items) (history_of (state_under away l.initial.self));
  commits : commits_of l.self ≡ commits_of l.initial.self;
  committed : first_kept_of l.self ≡ first_kept_of l.initial.self;
}

abbrev pub decreases-changes : goal.decreases-changes
decreases-changes l = length l.self.log.items

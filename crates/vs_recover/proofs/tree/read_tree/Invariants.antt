use Rattle.std.proofs.Common.{◌≤◌, ℕ, ◌+◌, ◌-◌, List, length, IsTrue, Ok}
use Rattle.std.specs.Prelude.{min}
use Rattle.vs_recover.specs.declared.error.Fault.{Fault}
use Rattle.vs_recover.specs.declared.error.Fault.TheVariants.{Failed}
use Rattle.vs_recover.specs.Reading.{ReadsAtMost}
use Rattle.vs_swap.specs.Files.{pages_in}
use Rattle.vs_recover.specs.Files.{IsFile}
use Rattle.vs_recover.specs.Levels.{Stage, are_wide}
use Rattle.vs_recover.specs.Marks.{used_in, free_in}
use Rattle.vs_recover.proofs.tree.read_tree.Given as goal

abbrev pub invariant-levels : goal.invariant-levels
invariant-levels g l = record {
  stage : (file : List ℕ) → IsFile g.F.World.tells (g.F.World.scene l.fn.host) l.name file → Stage (pages_in file) (λ k. used_in l.marks k) l.level.items;
  wide : IsTrue (are_wide l.level.items);
  room : 1 + (length l.level.items + free_in l.marks) ≤ l.count;
  reading : ReadsAtMost g.F.World.tells {E = Fault} (Ok l.level) Failed (g.F.World.scene l.fn.host) (g.F.World.scene l.host) (l.count - (1 + (length l.level.items + free_in l.marks)));
}

abbrev pub decreases-levels : goal.decreases-levels
decreases-levels g l = free_in l.marks + min 1 (length l.level.items)

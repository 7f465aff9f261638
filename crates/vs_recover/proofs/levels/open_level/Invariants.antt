use Rattle.std.proofs.Common.{ℕ, List, Ok}
use Rattle.vs_recover.specs.declared.error.Fault.{Fault}
use Rattle.vs_recover.specs.declared.error.Fault.TheVariants.{Failed}
use Rattle.vs_recover.specs.Reading.{ReadsAtMost}
use Rattle.vs_swap.specs.Files.{pages_in, swap_format}
use Rattle.vs_recover.specs.Files.{IsFile}
use Rattle.vs_recover.specs.Levels.{points_at}
use Rattle.vs_recover.specs.Walks.{IsMarked}
use Rattle.vs_recover.proofs.ChainLaws.{So}
use Rattle.vs_recover.proofs.levels.open_level.Given as goal

abbrev pub invariant-loop-entry : goal.invariant-loop-entry
invariant-loop-entry g l = record {
  so : (file : List ℕ) → IsFile g.F.World.tells (g.F.World.scene l.fn.host) l.name file → So (λ e. points_at swap_format (pages_in file) e) l.fn.points.items l.others l.entry-index l.next.items;
  marked : IsMarked l.fn.marks l.marks l.next.items;
  reading : ReadsAtMost g.F.World.tells {E = Fault} (Ok l.next) Failed (g.F.World.scene l.fn.host) (g.F.World.scene l.host) l.entry-index;
}

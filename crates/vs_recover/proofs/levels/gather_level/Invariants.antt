use Rattle.std.proofs.Common.{◌≡◌, ℕ, List, Ok}
use Rattle.vs_recover.specs.declared.error.Fault.{Fault}
use Rattle.vs_recover.specs.declared.error.Fault.TheVariants.{Failed}
use Rattle.vs_recover.specs.Reading.{ReadsAtMost}
use Rattle.vs_swap.specs.Files.{pages_in, swap_format}
use Rattle.vs_recover.specs.Files.{IsFile, plain}
use Rattle.vs_recover.specs.Levels.{lines_at}
use Rattle.vs_recover.proofs.ChainLaws.{So}
use Rattle.vs_recover.proofs.levels.gather_level.Given as goal

abbrev pub invariant-loop-entry : goal.invariant-loop-entry
invariant-loop-entry g l = record {
  so : (file : List ℕ) → IsFile g.F.World.tells (g.F.World.scene l.fn.host) l.name file → So (λ e. plain (lines_at swap_format (pages_in file) e)) l.fn.first.text l.others l.entry-index l.lines.text;
  format : l.lines.format ≡ l.fn.first.format;
  reading : ReadsAtMost g.F.World.tells {E = Fault} (Ok l.lines) Failed (g.F.World.scene l.fn.host) (g.F.World.scene l.host) l.entry-index;
}

use Rattle.std.proofs.Common.{◌≡◌, ◌≤◌, ◌-◌, ℕ, List, drop, Ok}
use Rattle.vs_text.specs.Text.{lines_of}
use Rattle.vs_recover.specs.declared.error.Fault.{Fault}
use Rattle.vs_recover.specs.declared.error.Fault.TheVariants.{Failed}
use Rattle.vs_recover.specs.Files.{IsFile}
use Rattle.vs_recover.specs.Reading.{IsThere, ReadsAtMost}
use Rattle.vs_recover.specs.Original.{Follows, IsPlace, pieces_left, pieces_of}
use Rattle.vs_recover.proofs.original.Original.seek.Given as goal

abbrev pub invariant-loop : goal.invariant-loop
invariant-loop g l = record {
  place : IsPlace l.self;
  follows : IsThere g.F.World.tells (g.F.World.scene l.fn.host) l.name (λ file. Follows l.self file);
  there : (file : List ℕ) → IsFile g.F.World.tells (g.F.World.scene l.fn.host) l.name file → drop l.self.line (lines_of file) ≡ drop l.counter (lines_of file);
  len : l.self.len ≡ l.fn.self.len;
  left : pieces_left l.self ≤ pieces_of l.fn.self.len;
  reading : ReadsAtMost g.F.World.tells {E = Fault} (Ok l.line) Failed (g.F.World.scene l.fn.host) (g.F.World.scene l.host) (pieces_of l.fn.self.len - pieces_left l.self);
}

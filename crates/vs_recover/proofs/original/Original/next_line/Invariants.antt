use Rattle.std.proofs.Common.{◌≡◌, ◌≤◌, ◌-◌, ℕ, List, length, Ok}
use Rattle.vs_recover.specs.declared.error.Fault.{Fault}
use Rattle.vs_recover.specs.declared.error.Fault.TheVariants.{Failed}
use Rattle.vs_recover.specs.Files.{IsFile}
use Rattle.vs_recover.specs.Reading.{ReadsAtMost}
use Rattle.vs_recover.specs.Original.{IsPlace, pieces_left}
use Rattle.vs_recover.proofs.OriginalLaws.{IsBegun}
use Rattle.vs_recover.proofs.original.Original.next_line.Given as goal

abbrev pub invariant-pieces : goal.invariant-pieces
invariant-pieces g l = record {
  place : IsPlace l.self;
  len : l.self.len ≡ l.fn.self.len;
  line : l.self.line ≡ l.fn.self.line;
  kept : length l.into.items ≤ 1048578;
  begun : (file : List ℕ) → IsFile g.F.World.tells (g.F.World.scene l.fn.host) l.name file → IsBegun l.self file l.into.items;
  left : pieces_left l.self ≤ pieces_left l.fn.self;
  reading : ReadsAtMost g.F.World.tells {E = Fault} (Ok l.into) Failed (g.F.World.scene l.fn.host) (g.F.World.scene l.host) (pieces_left l.fn.self - pieces_left l.self);
}

abbrev pub decreases-pieces : goal.decreases-pieces
decreases-pieces g l = pieces_left l.self

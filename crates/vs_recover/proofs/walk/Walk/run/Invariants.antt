use Rattle.std.proofs.Common.{◌≡◌, ◌≤◌, ◌+◌, ◌-◌, ◌*◌, [], ◌∷◌, length, reverse, IsTrue, Ok}
use Rattle.vs_host.specs.World.{content_of}
use Rattle.vs_damaged.specs.Items.{Shows}
use Rattle.vs_damaged.specs.Salvage.{Damaged, first_pages}
use Rattle.vs_recover.specs.declared.error.Fault.{Fault}
use Rattle.vs_recover.specs.declared.error.Fault.TheVariants.{Failed}
use Rattle.vs_recover.specs.Marks.{free_in}
use Rattle.vs_recover.specs.Original.{IsOpened, pieces_in}
use Rattle.vs_recover.specs.Reading.{ReadsAtMost}
use Rattle.vs_recover.specs.WalkedEntries.{HasDamaged, HasTaken, IsWalk}
use Rattle.vs_recover.proofs.WalkedLaws.{IsOnWay, calls_left}
use Rattle.vs_recover.proofs.walk.Walk.run.Given as goal

abbrev pub invariant-entries : goal.invariant-entries
invariant-entries g l = record {
  walk : IsWalk l.self;
  size : l.self.size ≡ l.fn.self.size;
  pages : length l.self.marks ≡ length l.fn.self.marks;
  pieces : pieces_in l.self.original ≡ pieces_in l.fn.self.original;
  opened : IsTrue g.F.World.tells.folder → IsOpened (content_of (g.F.World.scene l.fn.host) l.name) l.self.original;
  way : (d : Damaged) → HasDamaged g.F.World.tells (g.F.World.scene l.fn.host) l.swap l.name l.fn.self.size d → HasTaken l.fn.self (first_pages ∷ []) → Shows d.format l.fn.self.shown [] → IsOnWay d (reverse l.fn.self.left.items) l.self;
  few : calls_left l.self (pieces_in l.fn.self.original) ≤ calls_left l.fn.self (pieces_in l.fn.self.original);
  reading : ReadsAtMost g.F.World.tells {E = Fault} (Ok l.self) Failed (g.F.World.scene l.fn.host) (g.F.World.scene l.host) (calls_left l.fn.self (pieces_in l.fn.self.original) - calls_left l.self (pieces_in l.fn.self.original));
}

abbrev pub decreases-entries : goal.decreases-entries
decreases-entries g l = length l.self.left.items + 1563 * free_in l.self.marks

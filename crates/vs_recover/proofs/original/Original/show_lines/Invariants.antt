use Rattle.std.proofs.Common.{◌≡◌, ◌≤◌, ◌-◌, ◌++◌, ℕ, List, length, drop, take, map, Ok}
use Rattle.vs_text.specs.declared.format.Format.{Format}
use Rattle.vs_text.specs.Text.{lines_of}
use Rattle.vs_damaged.specs.Items.{Item, Shows, original_item}
use Rattle.vs_recover.specs.declared.error.Fault.{Fault}
use Rattle.vs_recover.specs.declared.error.Fault.TheVariants.{Failed}
use Rattle.vs_recover.specs.Files.{IsFile}
use Rattle.vs_recover.specs.Reading.{IsThere, ReadsAtMost}
use Rattle.vs_recover.specs.Original.{Follows, IsPlace, pieces_left}
use Rattle.vs_recover.proofs.original.Original.show_lines.Given as goal

abbrev pub invariant-loop : goal.invariant-loop
invariant-loop g l = record {
  place : IsPlace l.self;
  follows : IsThere g.F.World.tells (g.F.World.scene l.fn.host) l.name (λ file. Follows l.self file);
  there : (file : List ℕ) → IsFile g.F.World.tells (g.F.World.scene l.fn.host) l.name file → drop l.self.line (lines_of file) ≡ drop l.counter (drop l.fn.self.line (lines_of file));
  enough : (file : List ℕ) → IsFile g.F.World.tells (g.F.World.scene l.fn.host) l.name file → l.counter ≤ length (drop l.fn.self.line (lines_of file));
  shows : (file : List ℕ) → IsFile g.F.World.tells (g.F.World.scene l.fn.host) l.name file → (format : Format) (items : List Item) → Shows format l.fn.shown items → Shows format l.shown (items ++ map (original_item format) (take l.counter (drop l.fn.self.line (lines_of file))));
  len : l.self.len ≡ l.fn.self.len;
  left : pieces_left l.self ≤ pieces_left l.fn.self;
  reading : ReadsAtMost g.F.World.tells {E = Fault} (Ok l.line) Failed (g.F.World.scene l.fn.host) (g.F.World.scene l.host) (pieces_left l.fn.self - pieces_left l.self);
}

-- The scan was fed the first bytes of the file.
use Rattle.std.proofs.Common.{◌≡◌, ◌≤◌, ◌-◌, ℕ, List, IfSome, IsTrue, length}
use Rattle.vs_host.specs.World.{ReadsFolder, content_of}
use Rattle.vs_disk.specs.Runs.{NoneFails}
use Rattle.vs_text.specs.Scan.{HasScanned}
use Rattle.vs_session.specs.Open.{OnlyLooks}
use Rattle.vs_session.specs.Pieces.{AreFirstOf, IsPieceOf}
use Rattle.vs_session.proofs.reading.find_format.Given as goal

abbrev pub invariant-pieces : goal.invariant-pieces
invariant-pieces g l = let before = g.H.World.scene l.fn.host in let now = g.H.World.scene l.host in record {
  read : List ℕ;
  scanned : HasScanned l.scan read;
  at : length read ≡ l.at;
  high : l.at ≤ l.pieces.size;
  size : l.pieces.size ≡ l.fn.pieces.size;
  first : IsTrue (g.H.World.tells).folder → IfSome (content_of before l.name) (λ file. AreFirstOf file read);
  at_hand : IsTrue (g.H.World.tells).folder → IfSome (content_of before l.name) (λ file. IsPieceOf file l.pieces);
  frame : ReadsFolder before now;
  looks : OnlyLooks g.H.World.tells before now;
  none : NoneFails g.H.World.tells before now;
}

abbrev pub decreases-pieces : goal.decreases-pieces
decreases-pieces g l = l.pieces.size - l.at

use Rattle.std.proofs.Common.{◌≡◌, ◌≤◌, IsTrue, Ok, ◌+◌, ◌-◌, length}
use Rattle.vs_text.specs.Text.{IsLine}
use Rattle.vs_script.specs.Reads.{ReadsScript}
use Rattle.vs_script.specs.Ahead.{CountsTaken, HasSeen, ReadsNoMore, bytes_left, script_limit}
use Rattle.vs_script.proofs.Taking.{InLine}
use Rattle.vs_script.proofs.reader.ScriptReader.next_line.Given as goal

abbrev pub invariant-pieces : goal.invariant-pieces
invariant-pieces g l = record {
  so_far : IsTrue (g.S.World.tells).script → InLine l.line l.initial.self l.self (g.S.World.scene l.initial.host) (g.S.World.scene l.host);
  line : IsLine l.line.bytes;
  room : l.line.room ≡ l.initial.line.room;
  ended : IsTrue (g.S.World.tells).script → HasSeen l.self (g.S.World.scene l.host);
  counts : IsTrue (g.S.World.tells).script → CountsTaken l.initial.self l.self (g.S.World.scene l.initial.host) (g.S.World.scene l.host);
  left : length l.line.bytes + bytes_left l.self ≤ bytes_left l.initial.self;
  reads : ReadsScript g.S.World.tells (Ok l.line) (g.S.World.scene l.initial.host) (g.S.World.scene l.host);
  calls : ReadsNoMore g.S.World.tells (Ok l.line) l.initial.self l.self (g.S.World.scene l.initial.host) (g.S.World.scene l.host);
}

abbrev pub decreases-pieces : goal.decreases-pieces
decreases-pieces g l = script_limit - l.self.taken

use Rattle.std.proofs.Common.{◌≤◌, ◌<◌, ◌⊎◌, IsTrue, Ok}
use Rattle.vs_script.specs.Reads.{ReadsScript}
use Rattle.vs_script.specs.Ahead.{CountsTaken, HasSeen, ReadsNoMore, bytes_left}
use Rattle.vs_script.specs.Feed.{Between, IsAt, IsReady}
use Rattle.vs_script.proofs.Commands.{InScript}
use Rattle.vs_script.proofs.reader.ScriptReader.next_request.Given as goal

abbrev pub invariant-lines : goal.invariant-lines
invariant-lines g l = record {
  so_far : IsTrue (g.S.World.tells).script → InScript l.feed l.initial.self l.self (g.S.World.scene l.initial.host) (g.S.World.scene l.host);
  ready : IsReady l.feed;
  begun : IsAt l.feed Between ⊎ (bytes_left l.self < bytes_left l.initial.self);
  ended : IsTrue (g.S.World.tells).script → HasSeen l.self (g.S.World.scene l.host);
  counts : IsTrue (g.S.World.tells).script → CountsTaken l.initial.self l.self (g.S.World.scene l.initial.host) (g.S.World.scene l.host);
  left : bytes_left l.self ≤ bytes_left l.initial.self;
  reads : ReadsScript g.S.World.tells (Ok l.line) (g.S.World.scene l.initial.host) (g.S.World.scene l.host);
  calls : ReadsNoMore g.S.World.tells (Ok l.line) l.initial.self l.self (g.S.World.scene l.initial.host) (g.S.World.scene l.host);
}

abbrev pub decreases-lines : goal.decreases-lines
decreases-lines g l = bytes_left l.self

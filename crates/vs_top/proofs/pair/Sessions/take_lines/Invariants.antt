use Rattle.std.proofs.Common.{◌≡◌, ◌+◌}
use Rattle.vs_exparse.specs.Bytes.{max_line_bytes}
use Rattle.vs_script.specs.Ahead.{bytes_left}
use Rattle.vs_top.proofs.PairCourse.{IsCourse}
use Rattle.vs_top.proofs.pair.Sessions.take_lines.Given as goal

abbrev pub invariant-lines : goal.invariant-lines
invariant-lines g l = record {
  course : IsCourse g.H.World.tells (g.H.World.scene l.fn.host) (g.H.World.scene l.host) l.fn.self l.self l.fn.marks.items l.marks.items l.reader;
  room : l.line.room ≡ max_line_bytes + 3;
}

abbrev pub decreases-lines : goal.decreases-lines
decreases-lines g l = bytes_left l.reader

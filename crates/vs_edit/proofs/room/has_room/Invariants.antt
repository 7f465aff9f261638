use Rattle.std.proofs.Common.{◌≡◌, ◌+◌, ◌-◌, ◌^◌, min, drop}
use Rattle.vs_text.specs.Text.{bytes_of}
use Rattle.vs_edit.proofs.room.has_room.Given as goal

abbrev pub invariant-loop-line : goal.invariant-loop-line
invariant-loop-line l =
    min (l.sum + bytes_of (drop l.line-index l.new)) (2 ^ 64 - 1) ≡ min (l.bytes + bytes_of l.new) (2 ^ 64 - 1)

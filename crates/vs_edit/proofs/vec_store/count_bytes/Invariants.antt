use Rattle.std.proofs.Common.{◌≡◌, ◌+◌, drop}
use Rattle.vs_text.specs.Text.{bytes_of}
use Rattle.vs_edit.proofs.vec_store.count_bytes.Given as goal

abbrev pub invariant-loop-line : goal.invariant-loop-line
invariant-loop-line l = l.bytes + bytes_of (drop l.line-index l.lines) ≡ bytes_of l.lines

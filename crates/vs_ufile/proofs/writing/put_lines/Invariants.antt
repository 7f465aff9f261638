use Rattle.std.proofs.Common.{take}
use Rattle.vs_ufile.specs.Format.{Each}
use Rattle.vs_ufile.specs.Writing.{line_written}
use Rattle.vs_ufile.specs.Writing.{Puts}
use Rattle.vs_ufile.proofs.writing.put_lines.Given as goal

abbrev pub invariant-lines : goal.invariant-lines
invariant-lines l = Puts (Each line_written (take l.line-index l.lines)) l.fn.out.items l.out.items

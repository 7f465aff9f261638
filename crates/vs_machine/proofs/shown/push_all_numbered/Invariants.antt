-- The lines before `from` are numbered.
use Rattle.std.proofs.Common.{◌≡◌, ◌≤◌, ◌++◌, length, take}
use Rattle.vs_text.specs.Text.{bytes_of, file_of, lines_of}
use Rattle.vs_machine.specs.Shown.{numbered}
use Rattle.vs_machine.proofs.shown.push_all_numbered.Given as goal

abbrev pub invariant-loop-i : goal.invariant-loop-i
invariant-loop-i l = let lines = lines_of l.lines in record {
  from : l.from ≡ bytes_of (take l.i lines);
  within : l.from ≤ length l.lines;
  into : l.into.items ≡ l.fn.into.items ++ file_of (numbered l.first (take l.i lines));
}

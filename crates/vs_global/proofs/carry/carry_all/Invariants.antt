-- What is left to do from here gives what the whole gives from the start.
use Rattle.std.proofs.Common.{◌≡◌, ◌≤◌, ◌+◌, ◌-◌, ◌*◌, ◌^◌}
use Rattle.vs_edit.specs.Calls.{Continues}
use Rattle.vs_exparse.specs.Command.{command_of}
use Rattle.vs_global.specs.Global.{Marked}
use Rattle.vs_global.specs.Carry.{IsAt, IsReady, KeepsEnds, Reaches}
use Rattle.vs_global.proofs.carry.carry_all.Given as goal

abbrev pub invariant-loop : goal.invariant-loop
invariant-loop g l = record {
  ready : IsReady g.S.LineStore l.view l.marks;
  low : 2 ^ 50 ≤ l.marks.lead + l.counter * 2 ^ 24;
  high : l.marks.lead ≤ 2 ^ 50 + l.counter * 2 ^ 24;
  reaches : (start : Marked) → IsAt g.S.LineStore l.fn.view l.fn.marks l.fn.run start
      → Reaches g.S.LineStore (command_of l.nested) l.count (l.count - l.counter) start l.view l.marks l.run;
  within : KeepsEnds l.fn.run.made (g.S.LineStore.shows l.fn.view).present.lines l.run.made (g.S.LineStore.shows l.view).present.lines;
  kept : Continues g.S.LineStore l.fn.view l.view;
  faults : (g.S.LineStore.shows l.view).faults ≡ (g.S.LineStore.shows l.fn.view).faults;
}

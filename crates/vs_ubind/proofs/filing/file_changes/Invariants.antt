use Rattle.std.proofs.Common.{◌≡◌, map, take}
use Rattle.vs_ufile.specs.Values.{change_of}
use Rattle.vs_ubind.specs.Unbound.{saved_change}
use Rattle.vs_ubind.proofs.filing.file_changes.Given as goal

abbrev pub invariant-nodes : goal.invariant-nodes
invariant-nodes l = map change_of l.filed.items ≡ map (saved_change l.save_next l.parts) (take l.i l.parts.nodes)

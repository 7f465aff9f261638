use Rattle.std.proofs.Common.{◌≡◌, map, take}
use Rattle.vs_ufile.specs.Values.{entry_of}
use Rattle.vs_ubind.specs.Meaning.{flagged}
use Rattle.vs_ubind.proofs.taking.take_flagged.Given as goal

abbrev pub invariant-entries : goal.invariant-entries
invariant-entries l = l.own.items ≡ take l.i (flagged l.flag (map entry_of l.entries))

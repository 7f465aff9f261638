use Rattle.std.proofs.Common.{◌≡◌, take}
use Rattle.vs_ubind.specs.Unbound.{flag_of}
use Rattle.vs_ubind.proofs.filing.flag_of.Given as goal

abbrev pub invariant-entries : goal.invariant-entries
invariant-entries l = l.flag ≡ flag_of (take l.entry-index l.entries)

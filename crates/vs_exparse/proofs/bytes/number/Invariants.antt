use Rattle.std.proofs.Common.{◌≡◌, ◌≤◌, take}
use Rattle.vs_exparse.specs.Bytes.{number_of, max_number}
use Rattle.vs_exparse.proofs.bytes.number.Given as goal

abbrev pub invariant-loop-digit : goal.invariant-loop-digit
invariant-loop-digit l = record { so_far : l.number ≡ number_of (take l.digit-index l.digits); small : l.number ≤ max_number }

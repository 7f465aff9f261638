use Rattle.std.specs.Prelude.{◌≡◌, []}
use Rattle.vs_play.proofs.given.host_of.Given as goal

abbrev pub invariant-loop-file : goal.invariant-loop-file
invariant-loop-file l = record {
  answers : l.host.answers ≡ [];
  log : l.host.log ≡ [];
}

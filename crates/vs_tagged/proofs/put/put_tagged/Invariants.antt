use Rattle.std.proofs.Common.{◌≡◌, ◌++◌, List, ℕ, length}
use Rattle.vs_tagged.specs.Tagged.{WritesTagged, tagged}
use Rattle.vs_tagged.proofs.put.put_tagged.Given as goal

abbrev pub invariant-lines : goal.invariant-lines
invariant-lines g l = record {
  done : List ℕ;
  is : tagged l.tag l.reply ≡ done ++ tagged l.tag l.rest;
  puts : WritesTagged g.O.World.tells done ⊥ (g.O.World.scene l.fn.host) (g.O.World.scene l.host);
}

abbrev pub decreases-lines : goal.decreases-lines
decreases-lines g l = length l.rest

-- What was shown so far are the lines at those that were gone over so far.
use Rattle.std.proofs.Common.{◌≡◌, ◌<◌, ℕ, List, length, take}
use Rattle.vs_edit.specs.Calls.{OnlyReads}
use Rattle.vs_machine.specs.Answers.{HasShown}
use Rattle.vs_machine.specs.Nearby.{AreOf}
use Rattle.vs_machine.specs.Shown.{shown_at}
use Rattle.vs_machine.proofs.searching.shown_at.Given as goal

abbrev pub invariant-loop-line : goal.invariant-loop-line
invariant-loop-line g l = let old = l.fn.store in record {
  shown : HasShown g.S.LineStore old l.showing (shown_at l.showing (g.S.LineStore.shows old).present.lines (take l.line-index l.taken)) l.cursor l.output;
  near : (text : List (List ℕ)) → (g.S.LineStore.shows old).present.Is text → AreOf text l.near;
  some : 0 < l.line-index → 0 < length l.output.bytes.items;
  kept : OnlyReads g.S.LineStore old l.store;
  faults : (g.S.LineStore.shows l.store).faults ≡ (g.S.LineStore.shows old).faults;
}

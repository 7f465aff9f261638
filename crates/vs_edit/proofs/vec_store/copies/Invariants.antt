use Rattle.std.proofs.Common.{◌≡◌, take}
use Rattle.vs_text.specs.Text.{IsText}
use Rattle.vs_edit.proofs.vec_store.copies.Given as goal

abbrev pub invariant-loop-line : goal.invariant-loop-line
invariant-loop-line l = record {
  copies : l.copies.items ≡ take l.line-index l.lines;
  text : IsText (take l.line-index l.lines);
}

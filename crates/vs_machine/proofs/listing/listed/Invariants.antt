use Rattle.std.proofs.Common.{◌≡◌, ◌++◌, ◌∷◌, [], take, map, codes}
use Rattle.vs_text.specs.Text.{file_of}
use Rattle.vs_machine.specs.Listing.{leaf_line}
use Rattle.vs_machine.proofs.listing.listed.Given as goal

abbrev pub invariant-loop-leaf : goal.invariant-loop-leaf
invariant-loop-leaf l = l.bytes.items ≡ (codes "number changes saved" ++ 10 ∷ []) ++ file_of (map leaf_line (take l.leaf-index l.leaves))

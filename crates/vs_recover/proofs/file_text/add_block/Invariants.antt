use Rattle.std.proofs.Common.{◌≡◌, ℕ, List, Some, length, take}
use Rattle.vs_data.specs.Blocks.{lines_in}
use Rattle.vs_recover.proofs.FileTextLaws.{Appended}
use Rattle.vs_recover.proofs.file_text.add_block.Given as goal

abbrev pub invariant-loop-at : goal.invariant-loop-at
invariant-loop-at l = record {
  added : (found : List (List ℕ)) → lines_in l.block ≡ Some found → Appended l.format l.fn.bytes.items l.bytes.items (take l.at found);
  kept : take (length l.fn.bytes.items) l.bytes.items ≡ l.fn.bytes.items;
}

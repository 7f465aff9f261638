use Rattle.std.proofs.Common.{◌≡◌, take}
use Rattle.std.specs.Prelude.{All}
use Rattle.vs_memory.specs.Memory.{fresh_memory}
use Rattle.vs_memory.specs.Images.{AreLeft, IsPut}
use Rattle.vs_memory.proofs.image.folder_image.Given as goal

abbrev pub invariant-loop-change : goal.invariant-loop-change
invariant-loop-change l = record {
  fresh : l.host ≡ record (fresh_memory l.fn.script.items) { base = l.host.base };
  left : AreLeft l.choice.keep l.folder.files.items l.kept l.host.base;
  put : All (IsPut l.kept l.host.base) (take l.change-index l.kept);
}

-- The files of a pair go on being as they were known, from call to call.
use Rattle.std.proofs.Common.{◌≡◌, refl, ◌∙◌, ap}
use Rattle.vs_host.specs.Trace.{Read}
use Rattle.vs_host.specs.World.{Tells, Scene, ReadsFolder}
use Rattle.vs_disk.proofs.Faults.{never_none, never_then}
use Rattle.vs_disk.proofs.Runs.{goes_none, goes_then, starts, looks_on, reads_change}
use Rattle.vs_pair.specs.declared.pair.SwapPair.{SwapPair}
use Rattle.vs_pair.specs.HeldLaws.{held_none, held_then}
use Rattle.vs_pair.specs.Lent.{KeepsFiles}
use Rattle.vs_pair.specs.Pair.{held_in}

pub keeps_none : (tells : Tells) (pair : SwapPair) (scene : Scene) → KeepsFiles tells pair pair scene scene
keeps_none tells pair scene = record {
  files = refl;
  held = λ told. held_none (held_in pair scene.folder);
  frame = refl;
  looks = λ told. starts (λ a b. b ≡ a) scene refl;
  reads = λ told. goes_none (λ m. m.kind ≡ Read) scene.trace;
  counts = λ told. never_none scene;
}

pub reads_then : (old mid new : Scene) → ReadsFolder old mid → ReadsFolder mid new → ReadsFolder old new
reads_then old mid new first second = second ∙ ap (λ (s : Scene). record s { folder_faults = new.folder_faults; trace = new.trace }) first

pub keeps_then : (tells : Tells) (a b c : SwapPair) (old mid new : Scene) → KeepsFiles tells a b old mid
    → KeepsFiles tells b c mid new → KeepsFiles tells a c old new
keeps_then tells a b c old mid new first second = record {
  files = second.files ∙ first.files;
  held = λ told. held_then (held_in a old.folder) (held_in b mid.folder) (held_in c new.folder) (first.held told) (second.held told);
  frame = reads_then old mid new first.frame second.frame;
  looks = λ told. looks_on old mid new (reads_change old mid first.frame) (first.looks told) (second.looks told);
  reads = λ told. goes_then (λ m. m.kind ≡ Read) old.trace mid.trace new.trace (first.reads told) (second.reads told);
  counts = λ told. never_then old mid new first.frame (first.counts told) (second.counts told);
}

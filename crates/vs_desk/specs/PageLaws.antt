-- The text and the folder of a desk go on from call to call.
use Rattle.std.proofs.Common.{◌≤◌, ℕ, Bool, List, refl, ◌∙◌, sym, subst, arith}
use Rattle.vs_host.specs.Disk.{Disk, Name}
use Rattle.vs_host.specs.Trace.{Snapshot}
use Rattle.vs_host.specs.World.{Scene}
use Rattle.vs_disk.proofs.Runs.{goes_none, goes_then, goes_weaker}
use Rattle.vs_pages.specs.State.{PageState}
use Rattle.vs_tree.specs.Texts.{HasText, Tells as TellsText}
use Rattle.vs_tree.specs.declared.tree.LineTree.{LineTree}
use Rattle.vs_pair.specs.HeldLaws.{held_none, held_then}
use Rattle.vs_pair.specs.Pair.{held_in, shown_in}
use Rattle.vs_pair.specs.declared.files.SwapFiles.{SwapFiles}
use Rattle.vs_pair.specs.declared.pair.SwapPair.{SwapPair}
use Rattle.vs_desk.specs.Counts.{NoneAbove}
use Rattle.vs_desk.specs.Pages.{IsSwapName, SamePages}

pub same_none : (told : Bool) (pair : SwapPair) (tree : LineTree) (disk : Disk) → SamePages told pair pair tree tree disk disk
same_none told pair tree disk = record { tree = refl; files = refl; shown = λ is. refl; held = λ is. held_none (held_in pair disk) }

pub same_then : (told : Bool) (p q r : SwapPair) (t u v : LineTree) (old mid new : Disk) → SamePages told p q t u old mid
    → SamePages told q r u v mid new → SamePages told p r t v old new
same_then told p q r t u v old mid new first second = record {
  tree = second.tree ∙ first.tree;
  files = second.files ∙ first.files;
  shown = λ is. second.shown is ∙ first.shown is;
  held = λ is. held_then (held_in p old) (held_in q mid) (held_in r new) (first.held is) (second.held is);
}

-- the same pages have the same text
pub same_text : (told : Bool) (p q : SwapPair) (t u : LineTree) (old new : Disk) (text : List (List ℕ)) → SamePages told p q t u old new
    → TellsText told (shown_in p old).present t.present text → TellsText told (shown_in q new).present u.present text
same_text told p q t u old new text same is = record {
  told = is.told;
  has = let S : PageState → Type 0 = λ s. HasText s.present u.present text in
      let T : LineTree → Type 0 = λ x. HasText (shown_in p old).present x.present text in
      subst S (sym (same.shown is.told)) (subst T (sym same.tree) is.has);
}

-- the text is read from the same files
pub same_reads : (told : Bool) (p q : SwapPair) (t u : LineTree) (old new : Disk) (name : Name) → SamePages told p q t u old new
    → IsSwapName q.files.names name → IsSwapName p.files.names name
same_reads told p q t u old new name same reads = subst (λ (f : SwapFiles). IsSwapName f.names name) same.files reads

pub above_none : (scene : Scene) → NoneAbove scene scene
above_none scene = record { later = omega arith; moments = goes_none (λ m. m.folder_faults ≤ scene.folder_faults) scene.trace }

pub above_then : (old mid new : Scene) → NoneAbove old mid → NoneAbove mid new → NoneAbove old new
above_then old mid new first second = record {
  later = omega (arith, first.later, second.later);
  moments = goes_then (λ m. m.folder_faults ≤ new.folder_faults) old.trace mid.trace new.trace
      (goes_weaker (λ m. m.folder_faults ≤ mid.folder_faults) (λ m. m.folder_faults ≤ new.folder_faults)
      (λ (m : Snapshot) le. omega (arith, le, second.later)) old.trace mid.trace first.moments) second.moments;
}

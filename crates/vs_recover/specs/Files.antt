-- A swap file as the folder has it, and what is found in it.
use Rattle.std.specs.Prelude.{◌≡◌, ℕ, Bool, IsTrue, List, map, true, false, Vec, Option, Some, None}
use Rattle.std.specs.declared.alloc.Global.{Global}
use Rattle.vs_pages.specs.Maps.{Map}
use Rattle.vs_text.specs.Text.{plain_line}
use Rattle.vs_text.specs.Documents.{Document}
use Rattle.vs_host.specs.World.{Tells, Scene, content_of}
use Rattle.vs_recover.specs.Levels.{chained, Reaches}

-- A folder that tells its files has this one under the name.
pub record IsFile (tells : Tells) (scene : Scene) (name file : List ℕ) : Type 0 where
  pub told : IsTrue tells.folder
  pub there : content_of scene name ≡ Some file

-- what was found is this list, or neither is there
abbrev pub Gives : {X : Type 0} → Option (List X) → Option (Vec X Global) → Type 0
Gives list None = list ≡ None
Gives list (Some found) = list ≡ Some found.items

-- lines of a swap file in their plain form
abbrev pub plain : Option (List (List ℕ)) → Option (List (List ℕ))
plain None = None
plain (Some lines) = Some (map plain_line lines)

-- A list with others after it, where those are there.
abbrev pub Extends : {X : Type 0} → Option (List X) → List X → List X → Bool → Type 0
Extends others old new false = others ≡ None
Extends others old new true = chained (Some old) others ≡ Some new

-- What a walk found has the plain form of the lines of the tree, or there is no tree.
abbrev pub Walked : Map → Option Document → Type 0
Walked pages None = (lines : List (List ℕ)) → Reaches pages lines → ⊥
Walked pages (Some found) = (lines : List (List ℕ)) × Reaches pages lines × (found.text ≡ map plain_line lines)

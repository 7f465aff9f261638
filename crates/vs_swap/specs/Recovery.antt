-- What is recovered from two swap files.
use Rattle.std.specs.Prelude.{◌⊎◌, ℕ, ◌<◌, ◌≤◌, List, Option, Some, None}
use Rattle.vs_text.specs.Documents.{Document}
use Rattle.vs_swap.specs.Files.{StandsFor}

-- the file is there and stands for this document
abbrev pub StandsIn : Option (List ℕ) → ℕ → Document → Type 0
StandsIn None generation document = ⊥
StandsIn (Some file) generation document = StandsFor file generation document

-- The first file stands for the document, and the other one for none with a greater generation.
pub record IsNewest (file other : Option (List ℕ)) (document : Document) : Type 0 where
  pub generation : ℕ
  pub stands : StandsIn file generation document
  pub no_newer : (g : ℕ) (others : Document) → StandsIn other g others → g ≤ generation

-- The second file stands for the document, and the first one for none with this generation or a greater one.
pub record IsNewer (file other : Option (List ℕ)) (document : Document) : Type 0 where
  pub generation : ℕ
  pub stands : StandsIn other generation document
  pub older : (g : ℕ) (others : Document) → StandsIn file g others → g < generation

-- The document is that of the one of two files that stands with the greater generation, and of the first at a tie.
abbrev pub Recovered : Option (List ℕ) → Option (List ℕ) → Document → Type 0
Recovered swp swo document = IsNewest swp swo document ⊎ IsNewer swp swo document

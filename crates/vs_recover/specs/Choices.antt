-- What is recovered of the two swap files, and which of them is salvaged where neither stands.
use Rattle.std.specs.Prelude.{◌≡◌, ◌≤◌, ◌⊎◌, ◌*◌, ◌&&◌, ℕ, Bool, true, false, nat_eq, nat_lt, nat_le, is_ok, if◌then◌else◌, List, length, take, drop}
use Rattle.std.specs.Prelude.{Option, Some, None, Result, Ok, Err}
use Rattle.vs_text.specs.Documents.{Document}
use Rattle.vs_zero.specs.declared.Pair.{Pair}
use Rattle.vs_zero.specs.declared.Zero.{Zero}
use Rattle.vs_zero.specs.declared.ZeroErr.{ZeroErr}
use Rattle.vs_zero.specs.declared.ZeroErr.TheVariants as refusal
use Rattle.vs_zero.specs.Zero.{reading_of}
use Rattle.vs_ptr.specs.Blocks.{view_in}
use Rattle.vs_recover.specs.declared.image.Opening.{Opening}
use Rattle.vs_recover.specs.declared.choices.Found.{Found}
use Rattle.vs_recover.specs.declared.choices.Found.TheVariants as found
use Rattle.vs_recover.specs.declared.roots.Root.{Root}
use Rattle.vs_recover.specs.declared.roots.Root.TheVariants as root
use Rattle.vs_recover.specs.declared.choices.Chosen.{Chosen}
use Rattle.vs_recover.specs.declared.choices.Chosen.TheVariants.{Text, Salvage}
use Rattle.vs_recover.specs.declared.choices.Swap.{Swap}
use Rattle.vs_recover.specs.declared.choices.Swap.TheVariants.{Swp, Swo}
use Rattle.vs_recover.specs.declared.error.RecErr.{RecErr}
use Rattle.vs_recover.specs.declared.error.RecErr.TheVariants as error
use Rattle.vs_recover.specs.declared.image.Image.{Image}
use Rattle.vs_recover.specs.declared.image.Image.TheVariants.{Standing}
use Rattle.vs_swap.specs.Recovery.{StandsIn, Recovered}

-- The file, where it is there, stands for no document.
abbrev pub StandsNowhere : Option (List ℕ) → Type 0
StandsNowhere file = (generation : ℕ) (document : Document) → StandsIn file generation document → ⊥

-- Neither file stands.
abbrev pub NoneStands : Option (List ℕ) → Option (List ℕ) → Type 0
NoneStands swp swo = StandsNowhere swp × StandsNowhere swo

-- The document that two files give, or that neither stands.
abbrev pub Recovers : Option (List ℕ) → Option (List ℕ) → Option Document → Type 0
Recovers swp swo (Some document) = Recovered swp swo document
Recovers swp swo None = NoneStands swp swo

-- The length of a file that is there, and what its page 0 reads as.
abbrev pub IsOpening : Option (List ℕ) → Option Opening → Type 0
IsOpening None None = Unit {0}
IsOpening None (Some opening) = ⊥
IsOpening (Some file) None = ⊥
IsOpening (Some file) (Some opening) = (opening.len ≡ length file) × (opening.zero ≡ reading_of (take 4096 file))

-- A size of pages that is read is from 1,048 to 50,000 bytes.
abbrev pub IsSized : Result Zero ZeroErr → Type 0
IsSized (Ok zero) = (1048 ≤ zero.page_size) × (zero.page_size ≤ 50000)
IsSized (Err why) = Unit {0}

-- The same of a file that may be missing.
abbrev pub AreSized : Option Opening → Type 0
AreSized None = Unit {0}
AreSized (Some opening) = IsSized opening.zero

-- the generation that the tag of a pair says
abbrev pub generation_said : Option Pair → Option ℕ
generation_said None = None
generation_said (Some pair) = Some pair.generation

-- the generation that a page 0 says, where pages have 4,096 bytes
abbrev pub generation_in : Zero → Option ℕ
generation_in fields = if nat_eq fields.page_size 4096 then generation_said fields.pair else None

-- the generation that a file has if it stands
abbrev pub generation_at : Result Zero ZeroErr → Option ℕ
generation_at (Ok fields) = generation_in fields
generation_at (Err why) = None

-- the generation that a file has if it is there and stands
abbrev pub generation_of : Option Opening → Option ℕ
generation_of None = None
generation_of (Some opening) = generation_at opening.zero

-- This is the generation of a file if it stands; without one it does not stand.
abbrev pub IsGeneration : Option (List ℕ) → Option ℕ → Type 0
IsGeneration file found = (generation : ℕ) (document : Document) → StandsIn file generation document → found ≡ Some generation

-- the second generation is the greater one
abbrev pub is_newer : Option ℕ → Option ℕ → Bool
is_newer first None = false
is_newer None (Some second) = true
is_newer (Some first) (Some second) = nat_lt first second

-- the document of a file that stands
abbrev pub text_of : Image → Option Document
text_of (Standing generation document) = Some document
text_of image = None

-- The document that a file stands for, or that it does not stand.
abbrev pub IsStanding : Option (List ℕ) → Option Document → Type 0
IsStanding file (Some document) = (generation : ℕ) × StandsIn file generation document
IsStanding file None = StandsNowhere file

-- The document of the first file where it stands, and else that of the second one. Or neither stands.
abbrev pub StandsInTurn : Option (List ℕ) → Option (List ℕ) → Option Document → Type 0
StandsInTurn first second (Some document) = IsStanding first (Some document) ⊎ (StandsNowhere first × IsStanding second (Some document))
StandsInTurn first second None = NoneStands first second

-- block 1 reads as a pointer block, where pages have this size
abbrev pub root_reads : List ℕ → ℕ → Bool
root_reads file size = nat_le (2 * size) (length file) && is_ok (view_in (take size (drop size file)))

-- the root of a file whose page 0 does not read
abbrev pub refused_root : ZeroErr → Root
refused_root refusal.Encrypted = root.Encrypted
refused_root why = root.Foreign

-- what page 0 and block 1 of a file read as
abbrev pub root_in : List ℕ → Result Zero ZeroErr → Root
root_in file (Ok zero) = if root_reads file zero.page_size then root.Tree else root.NoTree
root_in file (Err why) = refused_root why

-- what page 0 and block 1 of a file read as, where it is there
abbrev pub root_of : Option (List ℕ) → Root
root_of None = root.Absent
root_of (Some file) = root_in file (reading_of (take 4096 file))

-- The file to salvage: the first whose root reads. Else why there is none.
abbrev pub root_chosen : Root → Root → Result Swap RecErr
root_chosen root.Tree second = Ok Swp
root_chosen first root.Tree = Ok Swo
root_chosen root.Absent root.Absent = Err error.NoSwap
root_chosen root.Encrypted second = Err error.Encrypted
root_chosen first root.Encrypted = Err error.Encrypted
root_chosen root.NoTree second = Err error.NotTree
root_chosen first root.NoTree = Err error.NotTree
root_chosen first second = Err error.NotSwap

-- The document that two files give, or that neither stands and what page 0 and block 1 of both read as.
abbrev pub IsFound : Option (List ℕ) → Option (List ℕ) → Found → Type 0
IsFound swp swo (found.Text document) = Recovered swp swo document
IsFound swp swo (found.Roots roots) = NoneStands swp swo × (roots.swp ≡ root_of swp) × (roots.swo ≡ root_of swo)

-- Nothing is recovered, for this reason.
abbrev pub IsRefusal : Option (List ℕ) → Option (List ℕ) → RecErr → Type 0
IsRefusal swp swo error.Failed = Unit {0}
IsRefusal swp swo error.NoMemory = Unit {0}
IsRefusal swp swo why = NoneStands swp swo × (root_chosen (root_of swp) (root_of swo) ≡ Err why)

-- What is chosen of two files: the document that they give; else, where neither stands, the file to salvage; or why there is none.
abbrev pub IsChoice : Option (List ℕ) → Option (List ℕ) → Result Chosen RecErr → Type 0
IsChoice swp swo (Ok (Text document)) = Recovered swp swo document
IsChoice swp swo (Ok (Salvage which)) = NoneStands swp swo × (root_chosen (root_of swp) (root_of swo) ≡ Ok which)
IsChoice swp swo (Err why) = IsRefusal swp swo why

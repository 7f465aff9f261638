-- What is said of the opening of two files, one after the other.
use Rattle.std.specs.Prelude.{◌≡◌, ◌⊎◌, ◌&&◌, ℕ, Bool, List, [], ◌∷◌, Option, IfSome, IsSomeAnd, IsTrue, string_bytes}
use Rattle.vs_host.specs.Disk.{Disk, Name, content_in}
use Rattle.vs_host.specs.Names.{names_of_file}
use Rattle.vs_host.specs.World.{Tells, Scene, content_of}
use Rattle.vs_disk.specs.Names.{SameAt}
use Rattle.vs_pair.specs.Acts.{Acts}
use Rattle.vs_pair.specs.Pair.{is_foreign}
use Rattle.vs_text.specs.Documents.{document_of}
use Rattle.vs_text.specs.Limits.{IsWithinLimits}
use Rattle.vs_safety.specs.Texts.{RecoversOrNone}
use Rattle.vs_safety.specs.Turns as turns
use Rattle.vs_session.specs.Fits.{Fits, FitsUndo, HasOpened, HasSwap, IsSettled, Opens, generation_of, names_of}
use Rattle.vs_session.specs.Open.{IsTooLarge, OnlyLooks}
use Rattle.vs_session.specs.Opened.{document_of_file, opened}
use Rattle.vs_session.specs.declared.open.OpenErr.{OpenErr}
use Rattle.vs_session.specs.declared.open.OpenErr.TheVariants as opening
use Rattle.vs_session.specs.declared.session.Session.{Session}
use Rattle.vs_multi.specs.declared.multi.Multi.{Multi}
use Rattle.vs_multi.specs.Sessions.{AreOwn}

-- ---- before

-- The folder is settled for both names, and the files of their families are their own.
pub record AreSettled (one two : Name) (disk : Disk) : Type 0 where
  pub first : IsSettled (names_of_file one) disk
  pub second : IsSettled (names_of_file two) disk
  pub own : AreOwn one two disk

-- one of the four swap files is there
abbrev pub HasAnySwap : Name → Name → Disk → Type 0
HasAnySwap one two disk = HasSwap (names_of_file one) disk ⊎ HasSwap (names_of_file two) disk

-- a file that is there is not over the limits of a text
abbrev pub IsNotOver : Tells → Option (List ℕ) → Type 0
IsNotOver tells file = IsTrue tells.folder → IfSome file (λ bytes. ¬ (¬ IsWithinLimits ((document_of bytes).text)))

-- The number is what passed a limit of the first file; or of the second one, where the first is not over the limits.
abbrev pub IsEitherTooLarge : Tells → ℕ → Option (List ℕ) → Option (List ℕ) → Type 0
IsEitherTooLarge tells size one two = IsTooLarge tells size one ⊎ (IsNotOver tells one × IsTooLarge tells size two)

-- ---- meanwhile

-- neither a name of the one pair nor of the other
abbrev pub is_of_neither : Name → Name → Name → Bool
is_of_neither one two name = is_foreign (names_of_file one) name && is_foreign (names_of_file two) name

-- where the file of this name had no swap file, a stop leaves none, or the document of the file is recovered
abbrev pub RecoversOpened : Name → Disk → Disk → Type 0
RecoversOpened name old new =
    (HasSwap (names_of_file name) old → ⊥) → RecoversOrNone (names_of_file name) (document_of_file (content_in old name) ∷ []) new

-- While two files are opened: all names but those of both pairs are spared, and each of both documents is recovered, whatever a
-- stop leaves.
pub record OpensBoth (one two : Name) (old new : Disk) : Type 0 where
  pub spared : SameAt (is_of_neither one two) old new
  pub first : RecoversOpened one old new
  pub second : RecoversOpened two old new

-- ---- after

-- The session opened the file of this name as it was, and fits the folder.
pub record StandsOpen (tells : Tells) (name : Name) (old new : Scene) (session : Session) : Type 0 where
  pub fits : IsTrue tells.folder → let file = content_of old name in Fits session new.folder (opened name file).state (turns.opened (document_of_file file))
  pub file : IsTrue tells.folder → HasOpened (opened name (content_of old name)) session
  pub named : string_bytes session.name ≡ name
  pub names : names_of session ≡ names_of_file name
  pub generation : generation_of session ≡ 2
  pub undo : FitsUndo session

-- Both files were opened.
pub record BothStandOpen (tells : Tells) (one two : Name) (old new : Scene) (multi : Multi) : Type 0 where
  pub first : IsSomeAnd multi.one (StandsOpen tells one old new)
  pub second : IsSomeAnd multi.two (StandsOpen tells two old new)

-- The first file was not opened, for this reason: but where a call failed, the folder was only looked at.
pub record IsNotOpened (tells : Tells) (one : Name) (why : OpenErr) (old new : Scene) : Type 0 where
  pub acts : Acts tells (Opens one) old new
  pub looks : ¬ (why ≡ opening.Failed) → OnlyLooks tells old new

-- Not both files were opened: the first was not, or the second; then the swap files of the first stay.
abbrev pub AreNotOpened : Tells → Name → OpenErr → Scene → Scene → Type 0
AreNotOpened tells one why old new = IsNotOpened tells one why old new ⊎ ((session : Session) × StandsOpen tells one old new session)

-- What is said of the data of an undo file that is bound to a text.
use Rattle.std.specs.Prelude.{ℕ, ◌≡◌, ◌≢◌, List, length}
use Rattle.vs_text.specs.Text.{stored}
use Rattle.vs_edit.specs.declared.store.StoreErr.{StoreErr}
use Rattle.vs_edit.specs.declared.store.StoreErr.TheVariants as store
use Rattle.vs_undo.specs.declared.parts.Parts.{Parts}
use Rattle.vs_ufile.specs.Values as file
use Rattle.vs_outward.specs.Outward.{IsFirstMisfit}
use Rattle.vs_ubind.specs.declared.binding.BindErr.{BindErr}
use Rattle.vs_ubind.specs.declared.binding.BindErr.TheVariants.{DigestDiffers, LinesDiffer, EntryDoesNotFit, NoMemory, Failed}
use Rattle.vs_ubind.specs.Digest.{digest_of}
use Rattle.vs_ubind.specs.Meaning.{Means}

-- The data was made for a text with this digest and this number of stored lines.
pub record IsOfText (contents : file.History) (text : List (List ℕ)) : Type 0 where
  pub digest : contents.digest ≡ digest_of text
  pub lines : contents.lines ≡ length (stored text)

-- The data is refused at this text.
abbrev pub IsRefused : file.History → List (List ℕ) → BindErr → Type 0
IsRefused contents text (DigestDiffers file own) = (file ≡ contents.digest) × (own ≡ digest_of text) × (file ≢ own)
IsRefused contents text (LinesDiffer file own) = (contents.digest ≡ digest_of text) × (file ≡ contents.lines) × (own ≡ length (stored text)) × (file ≢ own)
IsRefused contents text (EntryDoesNotFit number) = IsOfText contents text × ((tree : Parts) → Means contents tree → IsFirstMisfit tree text number)
IsRefused contents text NoMemory = Unit {0}
IsRefused contents text Failed = Unit {0}

-- What a refusal carries of the file, and of the number of stored lines.
abbrev pub Carries : file.History → ℕ → BindErr → Type 0
Carries contents count (DigestDiffers file own) = (file ≡ contents.digest) × (file ≢ own)
Carries contents count (LinesDiffer file own) = (file ≡ contents.lines) × (own ≡ count) × (file ≢ own)
Carries contents count (EntryDoesNotFit number) = contents.lines ≡ count
Carries contents count NoMemory = Unit {0}
Carries contents count Failed = Unit {0}

-- the same cause
abbrev pub bind_err : StoreErr → BindErr
bind_err store.NoMemory = NoMemory
bind_err store.Failed = Failed

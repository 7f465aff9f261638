-- What one swap file is.
use Rattle.std.specs.Prelude.{◌≡◌, ◌≢◌, ℕ, Bool, true, false, List, [], ◌∷◌, take, Option, Some, None, Ok, Err}
use Rattle.vs_text.specs.declared.format.Format.{Format}
use Rattle.vs_text.specs.Documents.{Document}
use Rattle.vs_zero.specs.declared.Zero.{Zero}
use Rattle.vs_zero.specs.declared.ZeroErr.{ZeroErr}
use Rattle.vs_zero.specs.declared.ZeroErr.TheVariants as refusal
use Rattle.vs_zero.specs.Zero.{reading_of}
use Rattle.vs_recover.specs.declared.image.Image.{Image}
use Rattle.vs_recover.specs.declared.image.Image.TheVariants.{Standing, Open, Closed, Encrypted, NoSwapFile}
use Rattle.vs_swap.specs.Files.{StandsFor}

-- the text of lines in their plain form, where it is known whether the text has no lines
abbrev pub text_in : Bool → List (List ℕ) → Option (List (List ℕ))
text_in true ([] ∷ []) = Some []
text_in true lines = None
text_in false [] = None
text_in false (line ∷ lines) = Some (line ∷ lines)

-- a text as a document, where there is one
abbrev pub with_format : Format → Option (List (List ℕ)) → Option Document
with_format format None = None
with_format format (Some text) = Some (record { text = text; format = format })

-- what a file is whose page 0 does not read
abbrev pub refused_image : ZeroErr → Image
refused_image refusal.Closed = Closed
refused_image refusal.Encrypted = Encrypted
refused_image why = NoSwapFile

-- The file stands for no document.
abbrev pub StandsNot : List ℕ → Type 0
StandsNot file = (generation : ℕ) (document : Document) → StandsFor file generation document → ⊥

-- Page 0 reads, with this page size, and the file does not stand.
abbrev pub IsOpen : List ℕ → ℕ → Type 0
IsOpen file size = (zero : Zero) × (reading_of (take 4096 file) ≡ Ok zero) × (zero.page_size ≡ size) × StandsNot file

-- Page 0 does not read, and is neither that of a closed nor that of an encrypted file.
abbrev pub IsForeign : List ℕ → Type 0
IsForeign file = (why : ZeroErr) × (reading_of (take 4096 file) ≡ Err why) × (why ≢ refusal.Closed) × (why ≢ refusal.Encrypted)

-- The image is that of the file.
abbrev pub IsImage : List ℕ → Image → Type 0
IsImage file (Standing generation document) = StandsFor file generation document
IsImage file (Open size) = IsOpen file size
IsImage file Closed = reading_of (take 4096 file) ≡ Err refusal.Closed
IsImage file Encrypted = reading_of (take 4096 file) ≡ Err refusal.Encrypted
IsImage file NoSwapFile = IsForeign file

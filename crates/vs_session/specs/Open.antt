-- Why a file is not opened.
use Rattle.std.specs.Prelude.{◌≡◌, ◌<◌, ◌⊎◌, ℕ, List, IfSome, IsErrOf, IsTrue, IsSomeAnd, OnOk}
use Rattle.std.specs.declared.option.Option.{Option}
use Rattle.std.specs.declared.result.Result.{Result}
use Rattle.vs_faults.specs.Faults.{HasCause, IsQuiet}
use Rattle.vs_host.specs.World.{Tells, Scene, ReadsFolder}
use Rattle.vs_disk.specs.Runs.{NoneFails}
use Rattle.vs_pair.specs.Acts.{Acts}
use Rattle.vs_text.specs.Documents.{document_of}
use Rattle.vs_text.specs.Limits.{IsRefusal, IsWithinLimits}
use Rattle.vs_text.specs.declared.TheConstants.{MAX_LINE_BYTES}
use Rattle.vs_text.specs.declared.error.TextErr.{TextErr}
use Rattle.vs_text.specs.declared.error.TextErr.TheVariants as text
use Rattle.vs_paged.specs.Pages.{Opening}
use Rattle.vs_session.specs.declared.open.OpenErr.{OpenErr}
use Rattle.vs_session.specs.declared.open.OpenErr.TheVariants as opening

-- why a file was not opened, where its text passes a limit
abbrev pub open_error : TextErr → OpenErr
open_error (text.TextFull size) = opening.TextLimit size
open_error (text.LineTooLong size) = opening.TextLimit size
open_error text.NoMemory = opening.NoMemory

-- a text passes a limit, and this is the number that passed it
abbrev pub PassesLimit : List (List ℕ) → ℕ → Type 0
PassesLimit lines size = IsRefusal lines (text.LineTooLong size) ⊎ IsRefusal lines (text.TextFull size)

-- The text of a file passes a limit, and this is the number that passed it. It is above the least of the limits.
pub record IsTooLarge (tells : Tells) (size : ℕ) (file : Option (List ℕ)) : Type 0 where
  pub above : MAX_LINE_BYTES < size
  pub passes : IsTrue tells.folder → IsSomeAnd file (λ bytes. PassesLimit ((document_of bytes).text) size)

-- Where a file was read its text is within the limits, and where one was passed, this is the number that passed it.
pub record KeepsToLimits {T : Type 0} (tells : Tells) (result : Result T OpenErr) (file : Option (List ℕ)) : Type 0 where
  pub within : OnOk result (IsTrue tells.folder → IfSome file (λ bytes. IsWithinLimits ((document_of bytes).text)))
  pub limit : (size : ℕ) → IsErrOf result (opening.TextLimit size) → IsTooLarge tells size file

-- the folder was only looked at
abbrev pub OnlyLooks : Tells → Scene → Scene → Type 0
OnlyLooks tells old new = Acts tells (λ before after. after ≡ before) old new

-- The folder was only looked at, and no call failed where the answer is `Ok`. Its faults have risen where a call failed.
pub record IsLook {T E : Type 0} (tells : Tells) (result : Result T E) (Failed : Type 0) (old new : Scene) : Type 0 where
  pub frame : ReadsFolder old new
  pub looks : OnlyLooks tells old new
  pub none : OnOk result (NoneFails tells old new)
  pub cause : HasCause old.folder_faults new.folder_faults Failed

-- The folder was only looked at, by a function that may be refused for other reasons than a failed call. Then no fault was counted.
pub record IsReading {T : Type 0} (tells : Tells) (result : Result T OpenErr) (old new : Scene) : Type 0 where
  pub look : IsLook tells result (IsErrOf result opening.Failed) old new
  pub quiet : IsQuiet old.folder_faults new.folder_faults (IsErrOf result opening.Failed)

-- A text was read out of the folder into this one, which keeps its name. That is never refused for a swap file.
pub record ReadsInto {T : Type 0} (tells : Tells) (result : Result T OpenErr) (before after : Opening) (old new : Scene) : Type 0 where
  pub name : after.name ≡ before.name
  pub others : IsErrOf result opening.SwapFound → ⊥
  pub reading : IsReading tells result old new

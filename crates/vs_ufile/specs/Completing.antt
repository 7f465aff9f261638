-- Bytes are refused for their form at the place where they cease to be the beginning of an undo file: what stands in front of it can be
-- completed, and no completion has there what is refused.
use Rattle.std.specs.Prelude.{◌≡◌, ◌<◌, ◌≤◌, ◌^◌, ℕ, List, ◌++◌, length, take}
use Rattle.std.specs.List.{AllByRecursion}
use Rattle.vs_ufile.specs.declared.error.UfKind.{UfKind}
use Rattle.vs_ufile.specs.declared.error.UfKind.TheVariants.{DoubleNumber, NotUndo, NumberZero, Truncated}
use Rattle.vs_ufile.specs.declared.fault.Fault.{Fault}
use Rattle.vs_ufile.specs.Format.{HasForm}
use Rattle.vs_ufile.specs.Reading.{File}
use Rattle.vs_ufile.specs.Refusals.{file_part}

-- each number is one that a byte can be
abbrev pub AreBytes : List ℕ → Type 0
AreBytes = AllByRecursion (λ byte. byte < 256)

-- The bytes go on to what has the form of an undo file.
pub record CanBeCompleted (before : List ℕ) : Type 0 where
  pub after : List ℕ
  pub are_bytes : AreBytes after
  pub file : File
  pub form : HasForm file (before ++ after)

-- this holds of the bytes in front of the place where so many are left, and of those from it on
abbrev pub AtPlace : ℕ → (List ℕ → List ℕ → Type 0) → List ℕ → Type 0
AtPlace left holds bytes = (before rest : List ℕ) × (bytes ≡ before ++ rest) × (length rest ≡ left) × holds before rest

-- Where bytes are refused for their form, those in front of the place can be completed. After a file that gave each number to a change
-- none could begin; it has more bytes than are asked of here.
abbrev pub NoneIsLate : Type 0
NoneIsLate =
    (bytes : List ℕ) (fault : Fault) → length bytes < 2 ^ 39 → file_part.refusal bytes fault → AtPlace fault.left (λ before rest. CanBeCompleted before) bytes

-- What is refused with this kind at the front of some bytes is at the front of the others too: the same start, version, magic number,
-- or number of a change or of a write; or the others are no more, where a part is cut.
abbrev pub IsThereToo : UfKind → List ℕ → List ℕ → Type 0
IsThereToo Truncated rest after = length after ≤ length rest
IsThereToo NotUndo rest after = take 9 after ≡ take 9 rest
IsThereToo NumberZero rest after = take 4 after ≡ take 4 rest
IsThereToo DoubleNumber rest after = take 4 after ≡ take 4 rest
IsThereToo kind rest after = take 2 after ≡ take 2 rest

-- no undo file that begins with these bytes has after them what is refused with this kind
abbrev pub StandsInNone : UfKind → List ℕ → List ℕ → Type 0
StandsInNone kind before rest = (file : File) (after : List ℕ) → HasForm file (before ++ after) → ¬ IsThereToo kind rest after

-- Where bytes are refused for their form, no undo file that begins like them has at the place what is refused.
abbrev pub NoneIsEarly : Type 0
NoneIsEarly = (bytes : List ℕ) (fault : Fault) → file_part.refusal bytes fault → AtPlace fault.left (StandsInNone fault.kind) bytes

-- The bytes at the front of a file that tell whether it is an undo file of version 2.
use Rattle.std.specs.Prelude.{◌≡◌, ℕ, List, length, Result, Ok, Err}
use Rattle.vs_ufile.specs.declared.error.UfErr.{UfErr}
use Rattle.vs_ufile.specs.declared.fault.Fault.{Fault}
use Rattle.vs_ufile.specs.declared.fault.Stop.TheVariants.{At}
use Rattle.vs_ufile.specs.Decode.{IsRefused, error_of}
use Rattle.vs_ufile.specs.Reading.{◌>>=◌, Read, start, version}

-- start and version
unfoldable pub signature : Read ℕ
signature = start >>= λ _. version

-- The bytes begin with start and version, or are refused for the first of these that is not there.
abbrev pub IsSigned : {T : Type 0} → List ℕ → Result T UfErr → Type 0
IsSigned bytes (Ok done) = (version : ℕ) × (rest : List ℕ) × (signature bytes ≡ Ok (version, rest))
IsSigned bytes (Err error) = (fault : Fault) × (signature bytes ≡ Err fault) × (error ≡ error_of (length bytes) (At fault))

-- the bytes are no undo file, and this is their first fault
abbrev pub IsUnreadable : UfErr → List ℕ → Type 0
IsUnreadable error bytes = (fault : Fault) × IsRefused bytes fault × (error ≡ error_of (length bytes) (At fault))

-- Which refusal of a mode a refusal to recover is.
use Rattle.vs_recover.specs.declared.error.RecErr.{RecErr}
use Rattle.vs_recover.specs.declared.error.RecErr.TheVariants as error
use Rattle.vs_modes.specs.declared.error.ModeErr.{ModeErr}
use Rattle.vs_modes.specs.declared.error.ModeErr.TheVariants as refusal

-- why a mode is refused, where no text was recovered
abbrev pub refusal_of : RecErr → ModeErr
refusal_of error.NoSwap = refusal.NoSwap
refusal_of error.Encrypted = refusal.Encrypted
refusal_of error.NotSwap = refusal.NotSwap
refusal_of error.NotTree = refusal.NotSwap
refusal_of error.Failed = refusal.FolderFailed
refusal_of error.NoMemory = refusal.NoMemory

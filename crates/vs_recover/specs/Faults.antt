-- Faults as refusals.
use Rattle.vs_recover.specs.declared.error.Fault.{Fault}
use Rattle.vs_recover.specs.declared.error.Fault.TheVariants as fault
use Rattle.vs_recover.specs.declared.error.RecErr.{RecErr}
use Rattle.vs_recover.specs.declared.error.RecErr.TheVariants as error

-- the refusal that a fault is
abbrev pub error_of : Fault → RecErr
error_of fault.Failed = error.Failed
error_of fault.NoMemory = error.NoMemory

-- the refusal says nothing of the files
abbrev pub IsFault : RecErr → Type 0
IsFault error.Failed = Unit {0}
IsFault error.NoMemory = Unit {0}
IsFault why = ⊥

-- Why the data of an undo file is not read, by what stood in the way.
use Rattle.vs_ufile.specs.declared.error.UfErr.{UfErr}
use Rattle.vs_ufile.specs.declared.error.UfKind.{UfKind}
use Rattle.vs_ufile.specs.declared.error.UfKind.TheVariants as kind
use Rattle.vs_ubind.specs.declared.fetching.FetchErr.{FetchErr}
use Rattle.vs_ubind.specs.declared.fetching.FetchErr.TheVariants as fetched
use Rattle.vs_ubind.specs.declared.loading.LoadErr.{LoadErr}
use Rattle.vs_ubind.specs.declared.loading.LoadErr.TheVariants.{NoFile, Unreadable, Failed, NoMemory}

-- the same cause
abbrev pub unfetched : FetchErr → LoadErr
unfetched fetched.NoFile = NoFile
unfetched fetched.Failed = Failed
unfetched fetched.NoMemory = NoMemory

-- why no history was loaded, where the file could not be decoded
abbrev pub undecoded_by : UfKind → UfErr → LoadErr
undecoded_by kind.NoMemory error = NoMemory
undecoded_by other error = Unreadable error

-- a refusal of the bytes, unless memory ran out
abbrev pub undecoded : UfErr → LoadErr
undecoded error = undecoded_by error.kind error

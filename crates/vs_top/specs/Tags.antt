-- What the output has of each of two sessions: their lines, each after the prefix of its session.
use Rattle.std.specs.Prelude.{ℕ, List, ◌++◌, ◌∷◌, [], codes}
use Rattle.vs_tagged.specs.Tagged.{tagged}
use Rattle.vs_family.specs.declared.which.Which.{Which}
use Rattle.vs_family.specs.declared.which.Which.TheVariants as which

-- what stands before each line of a session
abbrev pub prefix_of : Which → List ℕ
prefix_of which.One = codes "1:"
prefix_of which.Two = codes "2:"

-- the bytes of a session as they are written: each of their lines after its prefix
abbrev pub tagged_for : Which → List ℕ → List ℕ
tagged_for session bytes = tagged (prefix_of session) bytes

-- what is answered to a line of a session that has quit
abbrev pub session_ended : List ℕ
session_ended = codes "session ended" ++ 10 ∷ []

-- what is answered to a line of neither session
abbrev pub no_session : List ℕ
no_session = tagged (codes "0:") (codes "no session" ++ 10 ∷ [])

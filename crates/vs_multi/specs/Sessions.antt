-- Sessions on files of one folder, and what a call on one of them leaves of another.
use Rattle.std.specs.Prelude.{Option, IfSome, IsTrue}
use Rattle.vs_host.specs.Disk.{Disk, Name}
use Rattle.vs_host.specs.World.{Tells, Scene}
use Rattle.vs_family.specs.Family.{is_of_family}
use Rattle.vs_both.specs.Beside.{GoesBeside, IsSetApart}
use Rattle.vs_session.specs.Calls.{FitsFolder, KeepsState}
use Rattle.vs_session.specs.Fits.{names_of}
use Rattle.vs_session.specs.declared.session.Session.{Session}

-- the name of a session's file
abbrev pub file_name_of : Session → Name
file_name_of session = (names_of session).file

-- the files of the families of these two names are their own
abbrev pub AreOwn : Name → Name → Disk → Type 0
AreOwn one two disk = IsSetApart (is_of_family one) disk × IsSetApart (is_of_family two) disk

-- a session fits the folder, where it was not finished
abbrev pub FitsWhere : Tells → Option Session → Disk → Type 0
FitsWhere tells session disk = IfSome session (λ s. FitsFolder tells s disk)

-- where neither was finished, the files of their families are their own
abbrev pub AreOwnWhere : Tells → Option Session → Option Session → Disk → Type 0
AreOwnWhere tells one two disk = IfSome one (λ first. IfSome two (λ second. IsTrue tells.folder → AreOwn (file_name_of first) (file_name_of second) disk))

-- What a call on the other session leaves of a session: at each moment the names of its family, so that it fits the folder in each state
-- in which it did, with the same syncs.
pub record LeavesSession (tells : Tells) (session : Session) (old new : Scene) : Type 0 where
  pub beside : IsTrue tells.folder → GoesBeside (is_of_family (file_name_of session)) old new
  pub fits : KeepsState tells session session old.folder new.folder

-- what it leaves of a session that may have been finished
abbrev pub Stays : Tells → Option Session → Scene → Scene → Type 0
Stays tells session old new = IfSome session (λ s. LeavesSession tells s old new)

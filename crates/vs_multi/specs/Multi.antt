-- Two sessions on two files in one folder, of which each may have been finished.
use Rattle.std.specs.Prelude.{Option}
use Rattle.vs_host.specs.Disk.{Disk}
use Rattle.vs_host.specs.World.{Tells}
use Rattle.vs_family.specs.declared.which.Which.{Which}
use Rattle.vs_family.specs.declared.which.Which.TheVariants.{One, Two}
use Rattle.vs_session.specs.declared.session.Session.{Session}
use Rattle.vs_multi.specs.declared.multi.Multi.{Multi}
use Rattle.vs_multi.specs.Sessions.{AreOwnWhere, FitsWhere}

-- the other session
abbrev pub other : Which → Which
other One = Two
other Two = One

-- a session, where it was not finished
abbrev pub session_of : Which → Multi → Option Session
session_of One multi = multi.one
session_of Two multi = multi.two

-- Each session that was not finished fits the folder.
pub record FitsBoth (tells : Tells) (multi : Multi) (disk : Disk) : Type 0 where
  pub first : FitsWhere tells multi.one disk
  pub second : FitsWhere tells multi.two disk
  pub own : AreOwnWhere tells multi.one multi.two disk

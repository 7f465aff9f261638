-- A session in a folder in which another one works: what each leaves of the other's names, and what a session sees of the other's work.
use Rattle.std.specs.Prelude.{◌≡◌, ℕ, Bool, true, false, ◌&&◌, List, ◌++◌, None}
use Rattle.vs_host.specs.Disk.{Disk, Name}
use Rattle.vs_host.specs.Trace.{GoesOn}
use Rattle.vs_host.specs.World.{Scene}
use Rattle.vs_host.specs.declared.names.Names.{Names}
use Rattle.vs_disk.specs.Names.{IsApart, SameAt}
use Rattle.vs_pair.specs.Pair.{is_foreign}
use Rattle.vs_safety.specs.Texts.{NoneLeft}
use Rattle.vs_safety.specs.Writes.{AreForeign, outside}
use Rattle.vs_safety.specs.FileWork.{FileWork, AvoidsFiles}
use Rattle.vs_safety.specs.Turns.{Turn, Quits}
use Rattle.vs_safety.specs.Safety.{IsFirstPart, IsCrashSafeAmong}
use Rattle.vs_safety.specs.History.{History, written_by, ran_of}

-- ---- names

-- One of two sessions in a folder: the names that go with its file, its family, which are all names that it may touch, and what it
-- writes for an accepted quit.
pub record Party : Type 0 where
  pub names : Names
  pub family : Name → Bool
  pub line : List ℕ

-- the names of its family that are not of its pair
abbrev pub others_of : Party → Name → Bool
others_of party name = party.family name && is_foreign party.names name

-- All that the session works on is of its family.
pub record HasFamily (party : Party) : Type 0 where
  pub pair : AreForeign party.names (outside party.family)
  pub files : (work : FileWork) → AvoidsFiles party.names work (outside party.family)
  pub undo : others_of party party.names.undo ≡ true

-- no name is of both families
abbrev pub ShareNone : Party → Party → Type 0
ShareNone one two = (name : Name) → one.family name ≡ true → two.family name ≡ false

-- Two sessions that have nothing to do with each other's names.
pub record AreBeside (one two : Party) : Type 0 where
  pub first : HasFamily one
  pub second : HasFamily two
  pub apart : ShareNone one two

-- No file has names on both sides of a family.
pub record IsSetApart (family : Name → Bool) (disk : Disk) : Type 0 where
  pub own : IsApart family disk
  pub others : IsApart (outside family) disk

-- The files of both families are their own.
pub record AreSetApart (one two : Party) (disk : Disk) : Type 0 where
  pub first : IsSetApart one.family disk
  pub second : IsSetApart two.family disk

-- ---- turns of another session

-- A command of another session, as this one sees it: it begins no sync and writes no file, and its reply stands in the output.
abbrev pub of_others : List ℕ → Turn
of_others reply = record { found = None; sync = None; write = None; done = true; failed = false; reply = reply }

-- ---- a session that has quit, while another one goes on

-- What others do between two scenes: the names of the family stay at each moment, and the output goes on.
pub record GoesBeside (family : Name → Bool) (old new : Scene) : Type 0 where
  pub moments : GoesOn (λ m. IsFirstPart old.output m.output × IsFirstPart m.output new.output × SameAt family old.folder m.folder) old.trace new.trace
  pub output : IsFirstPart old.output new.output
  pub folder : SameAt family old.folder new.folder

-- The session kept its promise to the end of its last line, which is whole. It left no swap file, and since then its names stay.
pub record HasQuit (party : Party) (start : Scene) (past : History) (now : Scene) : Type 0 where
  pub quit : Scene
  pub safe : IsCrashSafeAmong (others_of party) party.names party.line start quit (ran_of past Quits)
  pub whole : quit.output ≡ (start.output ++ written_by past) ++ party.line
  pub none : NoneLeft party.names quit.folder
  pub beside : GoesBeside party.family quit now

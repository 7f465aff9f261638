-- Two sessions in one folder: where each of them stands in the run.
use Rattle.vs_host.specs.World.{Scene}
use Rattle.vs_safety.specs.Turns.{Turn, NotBegun}
use Rattle.vs_safety.specs.Safety.{IsCrashSafeAmong}
use Rattle.vs_safety.specs.History.{History, After, WaitsAmong, ran_of}
use Rattle.vs_both.specs.Beside.{Party, AreSetApart, HasQuit, others_of}

-- Where a session stands that has this history: it goes on, or it has quit.
pub data PartyStage : Type 0 where
  Running : History → PartyStage
  Gone : History → PartyStage

-- the stage after one more reply of the run: a session that has quit takes no part in it
abbrev pub with_turn : PartyStage → Turn → PartyStage
with_turn (Running past) turn = Running (After past turn)
with_turn (Gone past) turn = Gone past

-- a session waits for its next command at this stage, or it has quit
abbrev pub WaitsAtStage : Party → Scene → PartyStage → Scene → Type 0
WaitsAtStage party start (Running past) now = WaitsAmong (others_of party) party.names start past now
WaitsAtStage party start (Gone past) now = HasQuit party start past now

-- a session that came to this stage kept its promise
abbrev pub HasKept : Party → Scene → PartyStage → Scene → Type 0
HasKept party start (Running past) now = IsCrashSafeAmong (others_of party) party.names party.line start now (ran_of past NotBegun)
HasKept party start (Gone past) now = HasQuit party start past now

-- Both sessions wait, each at its stage, and the files of both families are their own.
pub record BothGo (one two : Party) (start : Scene) (first second : PartyStage) (now : Scene) : Type 0 where
  pub first_at : WaitsAtStage one start first now
  pub second_at : WaitsAtStage two start second now
  pub apart : AreSetApart one two now.folder

-- The run stopped, and both kept their promises.
pub record BothKept (one two : Party) (start : Scene) (first second : PartyStage) (now : Scene) : Type 0 where
  pub first_kept : HasKept one start first now
  pub second_kept : HasKept two start second now

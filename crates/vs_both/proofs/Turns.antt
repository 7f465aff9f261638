-- Work of the other session is a command of this one that does nothing; and a session's own work is seen in the names of its family alone.
use Rattle.std.proofs.Common.{ℕ, Bool, List, Option, None, refl}
use Rattle.std.specs.Prelude.{Some}
use Rattle.std.proofs.lemmas.Bool.{false≢true}
use Rattle.vs_host.specs.Disk.{Disk, Name}
use Rattle.vs_host.specs.Trace.{Snapshot}
use Rattle.vs_host.specs.World.{Scene}
use Rattle.vs_host.specs.declared.names.Names.{Names}
use Rattle.vs_disk.specs.Names.{IsApart, SameAt}
use Rattle.vs_disk.specs.Runs.{Inside}
use Rattle.vs_disk.proofs.Others.{same_none}
use Rattle.vs_disk.proofs.Runs.{goes_none, goes_weaker}
use Rattle.vs_pair.specs.Pair.{is_foreign}
use Rattle.vs_pair.proofs.MadeFiles.{same_weaker}
use Rattle.vs_safety.specs.Writes.{AreIn}
use Rattle.vs_safety.specs.FileWork.{FileWork, EditedFile, UndoFile, BothFiles, Keeps, KeepsAmong}
use Rattle.vs_safety.specs.Texts.{Sync, IsBetween, recoverable}
use Rattle.vs_safety.specs.Turns.{Turn, with_begun}
use Rattle.vs_safety.specs.Safety.{IsUnderWay, SparesAmong, Stepped, SteppedAmong, Works, WorksAmong}
use Rattle.vs_safety.proofs.Texts.{between_recovers}
use Rattle.vs_both.specs.Beside.{Party, HasFamily, ShareNone, of_others, others_of}
use Rattle.vs_both.proofs.Names.{leaves_family, others_foreign, others_in_family}
use Rattle.vs_both.proofs.Images.{between_kept, recovers_kept}

-- ---- a session's own work, seen in fewer names

keeps_fewer : (others fewer : Name → Bool) (names : Names) (write : Option FileWork) (old new : Disk) → AreIn others fewer → KeepsAmong others names write old new → KeepsAmong fewer names write old new
keeps_fewer others fewer names None old new are keeps = same_weaker others fewer old new are keeps
keeps_fewer others fewer names (Some (EditedFile write)) old new are keeps = record {
  apart = λ inside there avoids apart. keeps.apart inside (λ name is. are name (there name is)) avoids apart;
  settled = λ inside start there avoids settled was. keeps.settled inside start (λ name is. are name (there name is)) avoids settled was;
}
keeps_fewer others fewer names (Some (UndoFile undo)) old new are keeps = λ inside there avoids. keeps inside (λ name is. are name (there name is)) avoids
keeps_fewer others fewer names (Some (BothFiles write undo)) old new are keeps = record {
  apart = λ inside there avoids apart. keeps.apart inside (λ name is. are name (there name is)) avoids apart;
  settled = λ inside start there avoids settled was. keeps.settled inside start (λ name is. are name (there name is)) avoids settled was;
}

module _ (others fewer : Name → Bool) (names : Names) (are : AreIn others fewer) (write : Option FileWork) (P : Disk → Type 0) (old new : Scene) where
  inside_fewer : (m : Snapshot) → Inside new (SparesAmong others names write P old.folder) m → Inside new (SparesAmong fewer names write P old.folder) m
  inside_fewer m inside = record {
    output = inside.output;
    answered = inside.answered;
    script_faults = inside.script_faults;
    out_faults = inside.out_faults;
    folder = record { folder = inside.folder.folder; spared = keeps_fewer others fewer names write old.folder m.folder are inside.folder.spared };
  }

  works_fewer : WorksAmong others names write P old new → WorksAmong fewer names write P old new
  works_fewer works = record {
    moments = goes_weaker (Inside new (SparesAmong others names write P old.folder)) (Inside new (SparesAmong fewer names write P old.folder)) inside_fewer old.trace new.trace works.moments;
    output = works.output;
    spared = keeps_fewer others fewer names write old.folder new.folder are works.spared;
  }

module _ (party : Party) where
  pub own_works : (write : Option FileWork) (P : Disk → Type 0) (old new : Scene) → Works party.names write P old new → WorksAmong (others_of party) party.names write P old new
  own_works write P old new works = works_fewer (is_foreign party.names) (others_of party) party.names (others_foreign party) write P old new works

  pub own_turn : (syncs : List Sync) (turn : Turn) (old new : Scene) → Stepped party.names syncs turn old new → SteppedAmong (others_of party) party.names syncs turn old new
  own_turn syncs turn old new stepped = record {
    found = stepped.found;
    works = own_works turn.write (IsUnderWay party.names (with_begun turn.sync syncs) turn.write) old new stepped.works;
    wrote = stepped.wrote;
    whole = stepped.whole;
    flag = stepped.flag;
    cause = stepped.cause;
    between = stepped.between;
  }

  others_same : (old new : Disk) → SameAt party.family old new → SameAt (others_of party) old new
  others_same old new same = same_weaker party.family (others_of party) old new (others_in_family party) same

-- ---- the other session's work

module _ (party other : Party) (has : HasFamily party) (other_has : HasFamily other) (apart : ShareNone party other) (write : Option FileWork) (Q : Disk → Type 0) (old new : Scene) (alone : IsApart party.family old.folder) where
  pub works_leave : (d : Disk) → Keeps other.names write old.folder d → SameAt party.family old.folder d
  works_leave d keeps = leaves_family party other other_has apart write old.folder d alone keeps

  module _ (P : Disk → Type 0) (kept : (d : Disk) → SameAt party.family old.folder d → P d) where
    spares : (d : Disk) → SparesAmong (is_foreign other.names) other.names write Q old.folder d → SparesAmong (others_of party) party.names None P old.folder d
    spares d other_spares = let same = works_leave d other_spares.spared in record { folder = kept d same; spared = others_same party old.folder d same }

    moment : (m : Snapshot) → Inside new (SparesAmong (is_foreign other.names) other.names write Q old.folder) m → Inside new (SparesAmong (others_of party) party.names None P old.folder) m
    moment m inside = record {
      output = inside.output;
      answered = inside.answered;
      script_faults = inside.script_faults;
      out_faults = inside.out_faults;
      folder = spares m.folder inside.folder;
    }

    pub foreign_works : Works other.names write Q old new → WorksAmong (others_of party) party.names None P old new
    foreign_works works = record {
      moments = goes_weaker (Inside new (SparesAmong (is_foreign other.names) other.names write Q old.folder)) (Inside new (SparesAmong (others_of party) party.names None P old.folder)) moment old.trace new.trace works.moments;
      output = works.output;
      spared = others_same party old.folder new.folder (works_leave new.folder works.spared);
    }

  pub foreign_turn : (syncs : List Sync) (reply : List ℕ) → IsBetween party.names syncs old.folder → Works other.names write Q old new → SteppedAmong (others_of party) party.names syncs (of_others reply) old new
  foreign_turn syncs reply between works = record {
    found = tt;
    works = foreign_works (IsUnderWay party.names syncs None)
        (λ d same. record { recovers = recovers_kept party has old.folder d same (recoverable syncs) (between_recovers party.names syncs old.folder between); whole = tt }) works;
    wrote = tt;
    whole = tt;
    flag = tt;
    cause = λ failed. absurd (false≢true failed);
    between = between_kept party has old.folder new.folder (works_leave new.folder works.spared) syncs between;
  }

-- a reply for which nobody works on the folder
pub idle_turn : (party : Party) (syncs : List Sync) (reply : List ℕ) (now : Scene) → IsBetween party.names syncs now.folder → SteppedAmong (others_of party) party.names syncs (of_others reply) now now
idle_turn party syncs reply now between = record {
  found = tt;
  works = record {
    moments = goes_none (Inside now (SparesAmong (others_of party) party.names None (IsUnderWay party.names syncs None) now.folder)) now.trace;
    output = refl;
    spared = same_none (others_of party) now.folder;
  };
  wrote = tt;
  whole = tt;
  flag = tt;
  cause = λ failed. absurd (false≢true failed);
  between = between;
}

-- A session that has quit: its promise is kept to its last line, and what others do since then leaves its names.
use Rattle.std.proofs.Common.{◌≡◌, inr, ℕ, List, ◌++◌, Option, None, sym, ◌∙◌, ap, subst}
use Rattle.vs_host.specs.Disk.{Disk}
use Rattle.vs_host.specs.Trace.{Snapshot}
use Rattle.vs_host.specs.World.{Scene}
use Rattle.vs_disk.specs.Names.{IsApart, SameAt}
use Rattle.vs_disk.specs.Runs.{Inside}
use Rattle.vs_disk.proofs.Others.{same_none, same_then}
use Rattle.vs_disk.proofs.Runs.{goes_none, goes_then, goes_weaker}
use Rattle.vs_pair.specs.Pair.{is_foreign}
use Rattle.vs_safety.specs.FileWork.{FileWork}
use Rattle.vs_safety.specs.Texts.{NoneLeft, RecoversOrNone, recoverable}
use Rattle.vs_safety.specs.Writes.{State}
use Rattle.vs_safety.specs.Safety.{IsFirstPart, IsWriting, Looks, SparesAmong, Works, Wrote}
use Rattle.vs_safety.specs.History.{History, Replied, WaitsAmong, syncs_of}
use Rattle.vs_safety.proofs.Moments.{part_of, part_same, part_then}
use Rattle.vs_safety.proofs.SoFar.{so_far_now}
use Rattle.vs_safety.proofs.Endings.{quits}
use Rattle.vs_both.specs.Beside.{Party, GoesBeside, HasFamily, HasQuit, ShareNone, others_of}
use Rattle.vs_both.proofs.Images.{none_kept}
use Rattle.vs_both.proofs.Turns.{own_works, works_leave}

-- ---- what others do

module _ (party : Party) where
  pub beside_none : (now : Scene) → GoesBeside party.family now now
  beside_none now = record {
    moments = goes_none (λ m. IsFirstPart now.output m.output × IsFirstPart m.output now.output × SameAt party.family now.folder m.folder) now.trace;
    output = part_same now.output;
    folder = same_none party.family now.folder;
  }

  pub beside_then : (old mid new : Scene) → GoesBeside party.family old mid → GoesBeside party.family mid new → GoesBeside party.family old new
  beside_then old mid new first second =
      let At : Scene → Scene → Snapshot → Type 0 = λ one two m. IsFirstPart one.output m.output × IsFirstPart m.output two.output × SameAt party.family one.folder m.folder in
      record {
        moments = goes_then (At old new) old.trace mid.trace new.trace
            (goes_weaker (At old mid) (At old new) (λ m at. (at.0, part_then m.output mid.output new.output at.1 second.output, at.2)) old.trace mid.trace first.moments)
            (goes_weaker (At mid new) (At old new) (λ m at. (part_then old.output mid.output m.output first.output at.0, at.1, same_then party.family old.folder mid.folder m.folder first.folder at.2)) mid.trace new.trace second.moments);
        output = part_then old.output mid.output new.output first.output second.output;
        folder = same_then party.family old.folder mid.folder new.folder first.folder second.folder;
      }

  same_by : (old new : Disk) → new ≡ old → SameAt party.family old new
  same_by old new is = subst (λ (d : Disk). SameAt party.family old d) (sym is) (same_none party.family old)

  pub beside_looks : (old new : Scene) → Looks old new → GoesBeside party.family old new
  beside_looks old new looks = record {
    moments = goes_weaker (λ m. (m.output ≡ old.output) × (m.folder ≡ old.folder)) (λ m. IsFirstPart old.output m.output × IsFirstPart m.output new.output × SameAt party.family old.folder m.folder)
        (λ m at. (part_of old.output m.output at.0, part_of m.output new.output (looks.output ∙ sym at.0), same_by old.folder m.folder at.1)) old.trace new.trace looks.moments;
    output = part_of old.output new.output looks.output;
    folder = same_by old.folder new.folder looks.folder;
  }

  pub beside_wrote : (bytes : List ℕ) (old new : Scene) → Wrote bytes old new → GoesBeside party.family old new
  beside_wrote bytes old new wrote = record {
    moments = goes_weaker (IsWriting old new) (λ m. IsFirstPart old.output m.output × IsFirstPart m.output new.output × SameAt party.family old.folder m.folder)
        (λ m at. (at.begun, at.output, same_by old.folder m.folder (ap (λ (s : State). s.folder) at.state))) old.trace new.trace wrote.moments;
    output = (bytes, wrote.output);
    folder = same_by old.folder new.folder wrote.folder;
  }

  pub beside_works : (other : Party) (write : Option FileWork) (Q : Disk → Type 0) (old new : Scene) → HasFamily party → HasFamily other → ShareNone party other → IsApart party.family old.folder → Works other.names write Q old new
      → GoesBeside party.family old new
  beside_works other write Q old new has other_has apart alone works =
      let leaves = works_leave party other has other_has apart write Q old new alone in
      record {
        moments = goes_weaker (Inside new (SparesAmong (is_foreign other.names) other.names write Q old.folder)) (λ m. IsFirstPart old.output m.output × IsFirstPart m.output new.output × SameAt party.family old.folder m.folder)
            (λ m inside. (part_of old.output m.output (inside.output ∙ works.output), part_of m.output new.output (sym inside.output), leaves m.folder inside.folder.spared)) old.trace new.trace works.moments;
        output = part_of old.output new.output works.output;
        folder = leaves new.folder works.spared;
      }

-- ---- the session

module _ (party : Party) (start : Scene) (past : History) where
  pub has_quit : (now mid new : Scene) → WaitsAmong (others_of party) party.names start past now → Works party.names None (RecoversOrNone party.names (recoverable (syncs_of past))) now mid → NoneLeft party.names mid.folder
      → Replied party.line mid new → HasQuit party start past new
  has_quit now mid new waits works none replied =
      let wrote = replied.wrote in
      let own = own_works party None (RecoversOrNone party.names (recoverable (syncs_of past))) now mid works in
      record {
        quit = new;
        safe = quits (others_of party) party.names party.line start past now waits mid new party.line own wrote (part_same party.line) (inr none);
        whole = wrote.output ∙ ap (λ (l : List ℕ). l ++ party.line) (works.output ∙ (so_far_now (others_of party) party.names start past now waits).output);
        none = subst (λ (d : Disk). NoneLeft party.names d) (sym wrote.folder) none;
        beside = beside_none party new;
      }

  pub quit_on : (now new : Scene) → HasQuit party start past now → GoesBeside party.family now new → HasQuit party start past new
  quit_on now new has beside = record {
    quit = has.quit;
    safe = has.safe;
    whole = has.whole;
    none = has.none;
    beside = beside_then party has.quit now new has.beside beside;
  }

  -- neither swap file is there
  pub none_since : (now : Scene) → HasFamily party → HasQuit party start past now → NoneLeft party.names now.folder
  none_since now has quit = none_kept party has quit.quit.folder now.folder quit.beside.folder quit.none

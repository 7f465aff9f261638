-- Two sessions open their files, one after the other: what each of them sees of both openings.
use Rattle.std.proofs.Common.{◌≡◌, Bool, [], ◌∷◌, length, Option, None, sym, ◌∙◌, ap}
use Rattle.vs_host.specs.Disk.{Disk, Name}
use Rattle.vs_host.specs.Trace.{Snapshot}
use Rattle.vs_host.specs.World.{Scene, ChangesFolder}
use Rattle.vs_host.specs.declared.names.Names.{Names}
use Rattle.vs_disk.specs.Names.{IsApart}
use Rattle.vs_disk.specs.Runs.{Inside}
use Rattle.vs_disk.proofs.Others.{same_then}
use Rattle.vs_disk.proofs.Runs.{goes_then, goes_weaker}
use Rattle.vs_text.specs.Documents.{Document}
use Rattle.vs_safety.specs.FileWork.{FileWork}
use Rattle.vs_safety.specs.Texts.{RecoversOrNone, IsBetween}
use Rattle.vs_safety.specs.Turns.{opened}
use Rattle.vs_safety.specs.Safety.{SparesAmong, Works, WorksAmong}
use Rattle.vs_safety.specs.History.{BeginsAmong, HasBegunAmong}
use Rattle.vs_safety.proofs.Texts.{or_none, between_recovers}
use Rattle.vs_both.specs.Beside.{Party, HasFamily, ShareNone, others_of}
use Rattle.vs_both.proofs.Images.{between_kept, or_none_kept}
use Rattle.vs_both.proofs.Turns.{foreign_works, own_works, works_leave}

-- work after work
module _ (others : Name → Bool) (names : Names) (P : Disk → Type 0) (old mid new : Scene) (frame : ChangesFolder mid new) (first : WorksAmong others names None P old mid) where
  first_inside : (m : Snapshot) → Inside mid (SparesAmong others names None P old.folder) m → Inside new (SparesAmong others names None P old.folder) m
  first_inside m inside = record {
    output = inside.output ∙ sym (ap (λ (s : Scene). s.output) frame);
    answered = inside.answered ∙ sym (ap (λ (s : Scene). length s.answers) frame);
    script_faults = inside.script_faults ∙ sym (ap (λ (s : Scene). s.script_faults) frame);
    out_faults = inside.out_faults ∙ sym (ap (λ (s : Scene). s.out_faults) frame);
    folder = inside.folder;
  }

  second_inside : (m : Snapshot) → Inside new (SparesAmong others names None P mid.folder) m → Inside new (SparesAmong others names None P old.folder) m
  second_inside m inside = record {
    output = inside.output;
    answered = inside.answered;
    script_faults = inside.script_faults;
    out_faults = inside.out_faults;
    folder = record { folder = inside.folder.folder; spared = same_then others old.folder mid.folder m.folder first.spared inside.folder.spared };
  }

  works_join : WorksAmong others names None P mid new → WorksAmong others names None P old new
  works_join second = record {
    moments = goes_then (Inside new (SparesAmong others names None P old.folder)) old.trace mid.trace new.trace
        (goes_weaker (Inside mid (SparesAmong others names None P old.folder)) (Inside new (SparesAmong others names None P old.folder)) first_inside old.trace mid.trace first.moments)
        (goes_weaker (Inside new (SparesAmong others names None P mid.folder)) (Inside new (SparesAmong others names None P old.folder)) second_inside mid.trace new.trace second.moments);
    output = second.output ∙ first.output;
    spared = same_then others old.folder mid.folder new.folder first.spared second.spared;
  }

module _ (party other : Party) (has : HasFamily party) (other_has : HasFamily other) (apart : ShareNone party other) (document : Document) (write : Option FileWork) (Q : Disk → Type 0) (start mid now : Scene) (frame : ChangesFolder mid now) where
  -- the session opened its file, and then the other one works
  module _ (begun : HasBegunAmong (others_of party) party.names document start mid) (alone : IsApart party.family mid.folder) (works : Works other.names write Q mid now) where
    pub begins_first : BeginsAmong (others_of party) party.names document start now
    begins_first = record {
      settled = begun.begins.settled;
      at_start = begun.begins.at_start;
      works = works_join (others_of party) party.names (RecoversOrNone party.names (document ∷ [])) start mid now frame begun.begins.works
          (foreign_works party other has other_has apart write Q mid now alone (RecoversOrNone party.names (document ∷ []))
          (λ d same. or_none_kept party has mid.folder d same (document ∷ []) (or_none party.names (document ∷ []) mid.folder (between_recovers party.names (opened document) mid.folder begun.between))) works);
    }

    pub begun_first : HasBegunAmong (others_of party) party.names document start now
    begun_first = record {
      begins = begins_first;
      foreign = begun.foreign;
      between = between_kept party has mid.folder now.folder (works_leave party other has other_has apart write Q mid now alone now.folder works.spared) (opened document) begun.between;
    }

  -- the other one works, and then the session opens its file
  pub begins_second : start.folder.pending ≡ [] → RecoversOrNone party.names (document ∷ []) start.folder → IsApart party.family start.folder → Works other.names write Q start mid
      → Works party.names None (RecoversOrNone party.names (document ∷ [])) mid now → BeginsAmong (others_of party) party.names document start now
  begins_second settled at_start alone works own = record {
    settled = settled;
    at_start = at_start;
    works = works_join (others_of party) party.names (RecoversOrNone party.names (document ∷ [])) start mid now frame
        (foreign_works party other has other_has apart write Q start mid alone (RecoversOrNone party.names (document ∷ [])) (λ d same. or_none_kept party has start.folder d same (document ∷ []) at_start) works)
        (own_works party None (RecoversOrNone party.names (document ∷ [])) mid now own);
  }

-- the first one's own opening
pub begins_own : (party : Party) (document : Document) (start now : Scene) → start.folder.pending ≡ [] → RecoversOrNone party.names (document ∷ []) start.folder → Works party.names None (RecoversOrNone party.names (document ∷ [])) start now
    → BeginsAmong (others_of party) party.names document start now
begins_own party document start now settled at_start works = record { settled = settled; at_start = at_start; works = own_works party None (RecoversOrNone party.names (document ∷ [])) start now works }

pub has_begun : (party : Party) (document : Document) (start now : Scene) → HasFamily party → BeginsAmong (others_of party) party.names document start now → IsBetween party.names (opened document) now.folder
    → HasBegunAmong (others_of party) party.names document start now
has_begun party document start now has begins between = record { begins = begins; foreign = has.undo; between = between }

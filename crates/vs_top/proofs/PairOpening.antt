-- Both files of a run of two sessions are opened, or not both; and both opening replies are written, or one of them in part.
use Rattle.std.proofs.Common.{◌≡◌, ◌⊎◌, inl, inr, ℕ, ◌<◌, Bool, true, false, not, ◌&&◌, List, [], ◌∷◌, ◌++◌, length, refl, sym, ap, subst, ◌∙◌, append-nil, arith}
use Rattle.std.proofs.lemmas.Bool.{and_from}
use Rattle.std.proofs.lemmas.List.{length-append}
use Rattle.vs_faults.specs.Faults.{HasRisen}
use Rattle.vs_host.specs.Disk.{Disk, IsFolder, Name}
use Rattle.vs_host.specs.Names.{names_of_file}
use Rattle.vs_host.specs.World.{Tells, Scene}
use Rattle.vs_disk.specs.Names.{SameAt}
use Rattle.vs_disk.specs.Runs.{Inside, Looks}
use Rattle.vs_disk.proofs.Hands.{apart_settled}
use Rattle.vs_disk.proofs.Runs.{goes_weaker}
use Rattle.vs_pair.specs.Acts.{Acts}
use Rattle.vs_pair.specs.Pair.{is_foreign}
use Rattle.vs_pair.proofs.MadeFiles.{same_weaker}
use Rattle.vs_family.specs.Family.{is_of_family}
use Rattle.vs_family.specs.declared.which.Which.TheVariants as which
use Rattle.vs_machine.specs.Replies.{opening_of}
use Rattle.vs_machine.specs.declared.command.Mark.{Mark}
use Rattle.vs_safety.specs.Writes.{AreIn, outside}
use Rattle.vs_safety.specs.Texts.{IsBetween, RecoversOrNone}
use Rattle.vs_safety.specs.Turns.{opened}
use Rattle.vs_safety.specs.History.{BeginsAmong}
use Rattle.vs_safety.specs.Causes.{folder_count, output_count}
use Rattle.vs_safety.proofs.Causes.{counted_none, counted_on, rose_last}
use Rattle.vs_safety.proofs.Endings.{not_opened}
use Rattle.vs_safety.proofs.Works.{works_from}
use Rattle.vs_paged.proofs.SyncLemmas.{fits_between}
use Rattle.vs_both.specs.Beside.{AreSetApart, AreBeside, HasFamily, Party, others_of}
use Rattle.vs_both.proofs.Names.{others_foreign, others_in_family, share_none}
use Rattle.vs_session.specs.declared.session.Session.{Session}
use Rattle.vs_session.specs.declared.open.OpenErr.{OpenErr}
use Rattle.vs_session.specs.declared.open.OpenErr.TheVariants as opening
use Rattle.vs_session.specs.Fits.{Opens}
use Rattle.vs_session.specs.Open.{OnlyLooks}
use Rattle.vs_multi.specs.Opening.{AreNotOpened, AreSettled, OpensBoth, StandsOpen, is_of_neither}
use Rattle.vs_tagged.proofs.Lines.{tagged_some}
use Rattle.vs_top.specs.Ending.{open_ending}
use Rattle.vs_top.specs.Run.{TellsRun}
use Rattle.vs_top.specs.Tags.{prefix_of}
use Rattle.vs_top.specs.Turns.{document_at}
use Rattle.vs_top.specs.PairHistory.{BothFiles, opening_for}
use Rattle.vs_top.specs.PairPromise.{BeforeOpening, Both, EitherHasSwap, HasRunBoth, IsJustOpened, LeavesOthers, OpensNone, files_in, party_for, row_both}
use Rattle.vs_top.specs.PairTurns.{ToldOpenPair}
use Rattle.vs_top.specs.declared.ending.Ending.{Ending}
use Rattle.vs_top.specs.declared.ending.Ending.TheVariants as ending
use Rattle.vs_top.proofs.Edits.{none_there, settled}
use Rattle.vs_top.proofs.Opening.{opening_some}
use Rattle.vs_top.proofs.PairStages.{outside_one, outside_two}
use Rattle.vs_top.proofs.Readers.{own_told}

-- ---- before

pub both_settled : (one two : Name) (disk : Disk) → disk.pending ≡ [] → IsFolder disk → AreSettled one two disk
both_settled one two disk none is_folder = record {
  first = settled (names_of_file one) disk none;
  second = settled (names_of_file two) disk none;
  own = (
    record { own = apart_settled (is_of_family one) disk none is_folder; others = apart_settled (outside (is_of_family one)) disk none is_folder },
    record { own = apart_settled (is_of_family two) disk none is_folder; others = apart_settled (outside (is_of_family two)) disk none is_folder },
  );
}

-- ---- the names

-- a name that is of neither family is of neither pair
neither_pair : (one two : Party) → HasFamily one → HasFamily two → (inside : Name → Bool) → AreIn (outside one.family) inside → AreIn (outside two.family) inside
    → AreIn (λ name. is_foreign one.names name && is_foreign two.names name) inside
neither_pair one two has_one has_two inside out_one out_two = λ name is.
    and_from (is_foreign one.names name) (is_foreign two.names name) (has_one.pair name (out_one name is)) (has_two.pair name (out_two name is))

-- the other names of a family are of neither pair
others_neither : (party other : Party) → AreBeside party other → AreIn (λ name. is_foreign party.names name && is_foreign other.names name) (others_of party)
others_neither party other are = λ name is.
    and_from (is_foreign party.names name) (is_foreign other.names name) (others_foreign party name is) (are.second.pair name (ap not (are.apart name (others_in_family party name is))))

others_neither_two : (party other : Party) → AreBeside party other → AreIn (λ name. is_foreign party.names name && is_foreign other.names name) (others_of other)
others_neither_two party other are = λ name is.
    and_from (is_foreign party.names name) (is_foreign other.names name)
    (are.first.pair name (ap not (share_none party other are.apart name (others_in_family other name is)))) (others_foreign other name is)

module _ (tells : Tells) (told : TellsRun tells) (one two : List ℕ) (old new : Scene) (pending : old.folder.pending ≡ []) (beside : AreBeside (party_for which.One (files_in old one two)) (party_for which.Two (files_in old one two)))
    (acts : Acts tells (OpensBoth one two) old new) where
  abbrev files : BothFiles
  files = files_in old one two

  abbrev first : Party
  first = party_for which.One files

  abbrev second : Party
  second = party_for which.Two files

  module _ (free : ¬ EitherHasSwap one two old.folder) where
    pub begins_one : BeginsAmong (others_of first) first.names (document_at old one) old new
    begins_one = record {
      settled = pending;
      at_start = λ image whole. inl (none_there first.names old.folder (settled first.names old.folder pending) (λ is. free (inl is)) image whole);
      works = works_from (others_of first) first.names (RecoversOrNone first.names (document_at old one ∷ [])) (OpensBoth one two) old old new refl refl refl acts.frame (acts.runs told.folder)
          (λ d opens. record { folder = opens.first (λ is. free (inl is)); spared = same_weaker (is_of_neither one two) (others_of first) old.folder d (others_neither first second beside) opens.spared });
    }

    pub begins_two : BeginsAmong (others_of second) second.names (document_at old two) old new
    begins_two = record {
      settled = pending;
      at_start = λ image whole. inl (none_there second.names old.folder (settled second.names old.folder pending) (λ is. free (inr is)) image whole);
      works = works_from (others_of second) second.names (RecoversOrNone second.names (document_at old two ∷ [])) (OpensBoth one two) old old new refl refl refl acts.frame (acts.runs told.folder)
          (λ d opens. record { folder = opens.second (λ is. free (inr is)); spared = same_weaker (is_of_neither one two) (others_of second) old.folder d (others_neither_two first second beside) opens.spared });
    }

  pub others_opened : LeavesOthers one two old new
  others_opened = λ inside neither.
      let are = neither_pair first second beside.first beside.second inside (outside_one one two inside neither) (outside_two one two inside neither) in
      let runs = acts.runs told.folder in (
        goes_weaker (Inside old (OpensBoth one two old.folder)) (λ m. SameAt inside old.folder m.folder)
            (λ m at. same_weaker (is_of_neither one two) inside old.folder m.folder are at.folder.spared) old.trace new.trace runs.moments,
        same_weaker (is_of_neither one two) inside old.folder new.folder are runs.now.spared,
      )

  -- ---- not both were opened

  some_one : 0 < length (opening_for which.One files)
  some_one = tagged_some (prefix_of which.One) (opening_of files.one.name files.one.found).bytes (opening_some files.one.name files.one.found)

  some_two : 0 < length (opening_for which.Two files)
  some_two = tagged_some (prefix_of which.Two) (opening_of files.two.name files.two.found).bytes (opening_some files.two.name files.two.found)

  some_both : 0 < length (opening_for which.One files ++ opening_for which.Two files)
  some_both = omega (arith, some_one, length-append (opening_for which.One files) (opening_for which.Two files))

  -- the run ends with nothing written
  module _ (marks : List Mark) (none : marks ≡ []) where
    abbrev did : Both
    did = record { transcript = []; reach = BeforeOpening }

    pub unopened : (end : Ending) → (row_both end).answered files old new marks did → (row_both end).last old new → (row_both end).left files.one old new → HasRunBoth one two old new end marks
    unopened end ends failed left = record {
      did = did;
      read = tt;
      may = record { one = tt; two = tt; quits = tt };
      kept = none;
      wrote = (refl, (0, ap (λ (s : Scene). s.output) acts.frame ∙ sym (append-nil old.output)));
      ends = ends;
      first = λ free. not_opened (others_of first) first.names first.line (document_at old one) (opening_for which.One files) old new (begins_one free) some_one;
      second = λ free.
          not_opened (others_of second) second.names second.line (document_at old two) (opening_for which.One files ++ opening_for which.Two files) old new (begins_two free) some_both;
      others = others_opened;
      readers = λ allowed owner found. own_told tells old new acts.modes told.folder allowed owner;
      failed = failed;
      left = λ is. left;
    }

    opens_none : OpensNone old new marks did
    opens_none = record { none = record { none = none; output = ap (λ (s : Scene). s.output) acts.frame }; did_none = refl }

    -- the first file was opened alone
    first_alone : (session : Session) → StandsOpen tells one old new session → IsJustOpened files.one new.folder
    first_alone session stands = (session, stands.names, stands.fits told.folder)

    -- it was not opened for want of memory or for its size, or the second was not
    left_by : (error : OpenErr) → ¬ (error ≡ opening.Failed) → AreNotOpened tells one error old new → Looks old new ⊎ IsJustOpened files.one new.folder
    left_by error other (inl none) = inl ((none.looks other).runs told.folder)
    left_by error other (inr alone) = inr (first_alone alone.0 alone.1)

    -- a call failed
    left_failed : AreNotOpened tells one opening.Failed old new → Opens one old.folder new.folder ⊎ IsJustOpened files.one new.folder
    left_failed (inl none) = inl (none.acts.runs told.folder).now
    left_failed (inr alone) = inr (first_alone alone.0 alone.1)

    pub run_unopened : (error : OpenErr) → (error ≡ opening.Failed → HasRisen old.folder_faults new.folder_faults) → (error ≡ opening.SwapFound → OnlyLooks tells old new) → AreNotOpened tells one error old new → HasRunBoth one two old new (open_ending error) marks
    run_unopened opening.SwapFound failed looks not_both = unopened ending.SwapFound opens_none ((looks refl).runs told.folder) (inl ((looks refl).runs told.folder))
    run_unopened opening.Failed failed looks not_both =
        unopened ending.FolderFault (inl opens_none) (rose_last folder_count old old new (λ m no_fault. no_fault.folder) (acts.last told.folder) (failed refl) (counted_none folder_count old)) (left_failed not_both)
    run_unopened opening.NoMemory failed looks not_both = unopened ending.NoMemory (inl opens_none) tt (left_by opening.NoMemory (λ is. absurd (cc)) not_both)
    run_unopened (opening.TextLimit size) failed looks not_both = unopened (ending.TextLimit size) opens_none tt (left_by (opening.TextLimit size) (λ is. absurd (cc)) not_both)

  -- ---- both were

  module _ (s t : Session) (one_stands : StandsOpen tells one old new s) (two_stands : StandsOpen tells two old new t) (free : ¬ EitherHasSwap one two old.folder) (own : AreSetApart first second new.folder) where
    between_one : IsBetween first.names (opened (document_at old one)) new.folder
    between_one = subst (λ n. IsBetween n (opened (document_at old one)) new.folder) one_stands.names (fits_between s.text new.folder _ _ (one_stands.fits told.folder).stands.text)

    between_two : IsBetween second.names (opened (document_at old two)) new.folder
    between_two = subst (λ n. IsBetween n (opened (document_at old two)) new.folder) two_stands.names (fits_between t.text new.folder _ _ (two_stands.fits told.folder).stands.text)

    pub told_opened : ToldOpenPair one two old new
    told_opened = record {
      beside = beside;
      settled = pending;
      apart = own;
      first = record { begins = begins_one free; foreign = beside.first.undo; between = between_one };
      second = record { begins = begins_two free; foreign = beside.second.undo; between = between_two };
      counted = counted_on output_count old old new
          (goes_weaker (Inside old (OpensBoth one two old.folder)) (λ m. m.out_faults ≡ old.out_faults) (λ m at. at.out_faults) old.trace new.trace (acts.runs told.folder).moments)
          (ap (λ (s : Scene). s.out_faults) acts.frame) (counted_none output_count old);
      others = others_opened;
      readers = own_told tells old new acts.modes told.folder;
    }

-- The opening of the file, and what comes of a run whose calls succeed.
use Rattle.std.proofs.Common.{◌≡◌, ◌⊎◌, inl, inr, ℕ, ◌≤◌, ◌+◌, true, false, List, [], ◌∷◌, length, get_or, All, Option, Some, None, IfSome, IsTrue, IsSome, refl, sym, ap, subst, ◌∙◌, arith}
use Rattle.std.specs.declared.option.Option.{Option}
use Rattle.std.proofs.lemmas.Bool.{true≢false}
use Rattle.std.proofs.lemmas.List.Elements.{All-nil}
use Rattle.vs_faults.specs.Faults.{HasRisen, IsQuiet}
use Rattle.vs_host.specs.Disk.{Disk, IsImage, content_in}
use Rattle.vs_host.specs.Names.{AreNames, names_of_file}
use Rattle.vs_host.specs.World.{Tells, Scene, content_of}
use Rattle.vs_host.specs.declared.names.Names.{Names}
use Rattle.vs_disk.proofs.Contents.{leads_nowhere}
use Rattle.vs_disk.specs.Runs.{Inside}
use Rattle.vs_disk.proofs.Runs.{Each-weaker}
use Rattle.vs_disk.proofs.Steps.{one_state}
use Rattle.vs_pair.specs.Steps.{BothMoved}
use Rattle.vs_safety.specs.Stretches.{IsShorter}
use Rattle.vs_pair.specs.Acts.{Acts}
use Rattle.vs_pair.specs.Pair.{Image, NoneThere, is_foreign}
use Rattle.vs_text.specs.Documents.{document_of}
use Rattle.vs_text.specs.Limits.{IsWithinLimits}
use Rattle.vs_machine.specs.declared.command.Mark.{Mark}
use Rattle.vs_machine.specs.declared.command.Outcome.{Outcome}
use Rattle.vs_machine.specs.declared.command.Outcome.TheVariants as outcome
use Rattle.vs_safety.specs.Texts.{RecoversOrNone, IsBetween}
use Rattle.vs_safety.specs.Turns.{opened, quit_line}
use Rattle.vs_safety.specs.Safety.{Works}
use Rattle.vs_safety.specs.Causes.{output_count, folder_count}
use Rattle.vs_safety.proofs.Works.{works_from}
use Rattle.vs_safety.specs.History.{Begins}
use Rattle.vs_safety.proofs.Endings.{not_opened}
use Rattle.vs_safety.proofs.UndoFiles.{undo_foreign}
use Rattle.vs_safety.proofs.Causes.{counted_none, rose_last}
use Rattle.vs_paged.proofs.SyncLemmas.{fits_between}
use Rattle.vs_session.specs.Session.{is_fault}
use Rattle.vs_session.specs.declared.session.Session.{Session}
use Rattle.vs_session.specs.declared.open.OpenErr.{OpenErr}
use Rattle.vs_session.specs.declared.open.OpenErr.TheVariants as opening
use Rattle.vs_session.specs.Open.{IsTooLarge, OnlyLooks}
use Rattle.vs_session.specs.Fits.{Fits, HasOpened, HasSwap, IsSettled, Opens, names_of}
use Rattle.vs_session.specs.Made.{LeavesNoneMade}
use Rattle.vs_session.proofs.Cleared.{cleared_same}
use Rattle.vs_top.specs.Ending.{open_ending}
use Rattle.vs_top.specs.Promise.{HasRun, RunsEdit, row}
use Rattle.vs_top.specs.Unhindered.{IsThrough, IsThroughMark, IsUnhindered}
use Rattle.vs_top.specs.Run.{TellsRun, counts_of, FaultHasCause, FileFits, EndsBarred, IsBarred, opened_file}
use Rattle.vs_top.specs.Turns.{document_at, opening_at, IsOpened}
use Rattle.vs_top.specs.declared.ending.Ending.{Ending}
use Rattle.vs_top.specs.declared.ending.Ending.TheVariants as ending
use Rattle.vs_top.proofs.Limits.{within_or_not, passes_no_limit}
use Rattle.vs_top.proofs.Calls.{calls_unopened}
use Rattle.vs_top.proofs.Readers.{own_told}
use Rattle.vs_top.proofs.Counting.{only_folder, counted_works}
use Rattle.vs_top.proofs.Closing.{fresh_image}
use Rattle.vs_top.proofs.Opening.{opening_some, did_none, kept_none, no_times, no_causes}

-- a folder in which nothing is pending
pub settled : (names : Names) (disk : Disk) → disk.pending ≡ [] → IsSettled names disk
settled names disk none = record {
  swp = λ gone lost. one_state disk none lost names.swp ∙ leads_nowhere disk names.swp gone;
  swo = λ gone lost. one_state disk none lost names.swo ∙ leads_nowhere disk names.swo gone;
}

none_of : (o : Option (List ℕ)) → (IsSome o → ⊥) → o ≡ None
none_of None free = refl
none_of (Some c) free = absurd (free refl)

pub none_there : (names : Names) (disk : Disk) → IsSettled names disk → (HasSwap names disk → ⊥) → (image : Image) → IsImage disk image → NoneThere names image
none_there names disk all free = fresh_image names disk (record {
  no_swp = all.swp (none_of (content_in disk names.swp) (λ is. free (inl is)));
  no_swo = all.swo (none_of (content_in disk names.swo) (λ is. free (inr is)));
})

-- a file whose text passes a limit is not opened
pub file_fits : (file : Option (List ℕ)) → IfSome file (λ bytes. ¬ IsWithinLimits ((document_of bytes).text) → false ≡ true) → FileFits file
file_fits None over = tt
file_fits (Some bytes) over = elim (within_or_not ((document_of bytes).text)) [
  | inl within ↦ within
  | inr not_within ↦ absurd (true≢false (sym (over not_within)))
]

-- the folder was only looked at
pub only_looked : (tells : Tells) (old new : Scene) (end : Ending) (marks : List Mark) → EndsBarred end → marks ≡ [] → OnlyLooks tells old new → IsTrue tells.folder → IsBarred old new end marks
only_looked tells old new end marks ended none looks told =
    record { ended = ended; answered = record { none = none; output = ap (λ (s : Scene). s.output) looks.frame }; looks = looks.runs told }

module _ (tells : Tells) (name : List ℕ) (old new : Scene) (pending : IsTrue tells.folder → old.folder.pending ≡ []) (acts : Acts tells (Opens name) old new) where
  at_start : TellsRun tells → (HasSwap (names_of_file name) old.folder → ⊥) → RecoversOrNone (names_of_file name) (document_at old name ∷ []) old.folder
  at_start told free image whole = inl (none_there (names_of_file name) old.folder (settled (names_of_file name) old.folder (pending told.folder)) free image whole)

  works : TellsRun tells → (HasSwap (names_of_file name) old.folder → ⊥) → Works (names_of_file name) None (RecoversOrNone (names_of_file name) (document_at old name ∷ [])) old new
  works told free = works_from (is_foreign (names_of_file name)) (names_of_file name) (RecoversOrNone (names_of_file name) (document_at old name ∷ [])) (Opens name) old old new refl refl refl acts.frame (acts.runs told.folder)
      (λ d opens. record { folder = opens.safe free; spared = opens.spared })

  begins : TellsRun tells → (HasSwap (names_of_file name) old.folder → ⊥) → Begins (names_of_file name) (document_at old name) old new
  begins told free = record { settled = pending told.folder; at_start = at_start told free; works = works told free }

  -- the file was not opened
  module _ (marks : List Mark) (none : marks ≡ []) where
    run_none : (end : Ending) → TellsRun tells → (row end).answered (opened_file old name) old new marks did_none → (row end).last old new → (row end).left (opened_file old name) old new did_none
        → HasRun name old new end marks
    run_none end told answered last left = record {
      did = did_none;
      kept = kept_none name old marks none;
      answered = answered;
      safe = λ free. not_opened (is_foreign (names_of_file name)) (names_of_file name) quit_line (document_at old name) (opening_at old name) old new (begins told free) (opening_some name (opened_file old name).found);
      left = left;
      last = last;
      calls =
          let runs = acts.runs told.folder in
          calls_unopened (opened_file old name) old new (own_told tells old new acts.modes told.folder) (ap (λ (s : Scene). s.output) acts.frame) (opening_some name (opened_file old name).found) runs.moments.added runs.moments.is
          (Each-weaker (Inside old (Opens name old.folder)) (IsShorter (length old.output + length (opening_at old name)))
          (λ m inside. let some = opening_some name (opened_file old name).found in omega (arith, some, ap (λ (l : List ℕ). length l) inside.output)) runs.moments.added runs.moments.each);
    }

    output_same : new.output ≡ old.output
    output_same = ap (λ (s : Scene). s.output) acts.frame

    script_long : (most : ℕ) → length old.script ≤ length new.script + most
    script_long most = omega (arith, ap (λ (s : Scene). length s.script) acts.frame)

    all_quiet : new.folder_faults ≡ old.folder_faults → counts_of new ≡ counts_of old
    all_quiet quiet = ap counts_of acts.frame ∙ ap (λ n. record (counts_of old) { folder = n }) quiet

    pub open_fails : (error : OpenErr) → (error ≡ opening.Failed → HasRisen old.folder_faults new.folder_faults) → IsQuiet old.folder_faults new.folder_faults (error ≡ opening.Failed)
        → ((size : ℕ) → error ≡ opening.TextLimit size → IsTooLarge tells size (content_of old name)) → (error ≡ opening.SwapFound → IsTrue tells.folder → HasSwap (names_of_file name) old.folder)
        → (IsTrue tells.folder → HasSwap (names_of_file name) old.folder → (error ≡ opening.SwapFound) ⊎ (error ≡ opening.Failed) ⊎ (error ≡ opening.NoMemory))
        → (IsTrue tells.folder → HasSwap (names_of_file name) old.folder → OnlyLooks tells old new) → ((error ≡ opening.Failed → ⊥) → OnlyLooks tells old new) → RunsEdit tells name old new (open_ending error) marks
    open_fails opening.SwapFound failed quiet limit swap barred barred_looks looks = record {
      told = λ told. run_none ending.SwapFound told (record { none = none; output = output_same }) ((looks (λ is. absurd (cc))).runs told.folder) tt;
      swap = λ told is. swap refl told;
      barred = λ told has. only_looked tells old new ending.SwapFound marks (inl refl) none (barred_looks told has) told;
      file = λ told. tt;
      taken = λ told. script_long 0;
      counts = all_quiet (quiet (λ is. absurd (cc)));
      causes = no_causes (counts_of old) (counts_of new) marks none;
      times = λ told. no_times old new marks none (ap (λ (s : Scene). s.answers) acts.frame);
    }
    open_fails opening.Failed failed quiet limit swap barred barred_looks looks = record {
      told = λ told. run_none ending.FolderFault told (inl (record { none = none; output = output_same }, (acts.runs told.folder).now)) (rose_last folder_count old old new (λ m no_fault. no_fault.folder) (acts.last told.folder) (failed refl) (counted_none folder_count old))
          (inl refl);
      swap = λ told is. absurd (cc);
      barred = λ told has. only_looked tells old new ending.FolderFault marks (inr (inr refl)) none (barred_looks told has) told;
      file = λ told. tt;
      taken = λ told. script_long _;
      counts = (failed refl, only_folder old new acts.frame acts.later);
      causes = no_causes (counts_of old) (counts_of new) marks none;
      times = λ told. no_times old new marks none (ap (λ (s : Scene). s.answers) acts.frame);
    }
    open_fails opening.NoMemory failed quiet limit swap barred barred_looks looks = record {
      told = λ told. let looked = (looks (λ is. absurd (cc))).runs told.folder in run_none ending.NoMemory told (inl (record { answered = record { none = none; output = output_same }; cleared = cleared_same old.folder new.folder looked.now })) tt (refl, inl looked);
      swap = λ told is. absurd (cc);
      barred = λ told has. only_looked tells old new ending.NoMemory marks (inr (inl refl)) none (barred_looks told has) told;
      file = λ told. tt;
      taken = λ told. script_long _;
      counts = only_folder old new acts.frame acts.later;
      causes = no_causes (counts_of old) (counts_of new) marks none;
      times = λ told. no_times old new marks none (ap (λ (s : Scene). s.answers) acts.frame);
    }
    open_fails (opening.TextLimit size) failed quiet limit swap barred barred_looks looks = record {
      told = λ told. run_none (ending.TextLimit size) told (record { none = none; output = output_same }) ((looks (λ is. absurd (cc))).runs told.folder) tt;
      swap = λ told is. absurd (cc);
      barred = λ told has. elim (barred told has) [ inl is ↦ absurd (cc) | inr more ↦ elim more [ inl is ↦ absurd (cc) | inr is ↦ absurd (cc) ] ];
      file = λ told. (limit size refl).passes told;
      taken = λ told. script_long 0;
      counts = all_quiet (quiet (λ is. absurd (cc)));
      causes = no_causes (counts_of old) (counts_of new) marks none;
      times = λ told. no_times old new marks none (ap (λ (s : Scene). s.answers) acts.frame);
    }

  -- it was opened
  pub is_opened : (session : Session) → names_of session ≡ names_of_file name → (IsTrue tells.folder → HasSwap (names_of_file name) old.folder → ⊥) → (IsTrue tells.folder → FileFits (content_of old name))
      → (IsTrue tells.folder → HasOpened (opened_file old name) session) → (IsTrue tells.folder → Fits session new.folder (opened_file old name).state (opened (document_at old name)))
      → new.folder_faults ≡ old.folder_faults → (IsTrue tells.folder → LeavesNoneMade old.folder new.folder) → (IsTrue tells.folder → BothMoved (names_of_file name) new.folder) → IsOpened tells name old new session
  is_opened session names free file has fits none cleared moved = record {
    told = λ told. record {
      file = has told.folder;
      fits = fits told.folder;
      begun = record {
        begins = begins told (free told.folder);
        foreign = undo_foreign (names_of_file name) (subst AreNames names (fits told.folder).stands.text.fit.named);
        between = subst (λ (n : Names). IsBetween n (opened (document_at old name)) new.folder) names (fits_between session.text new.folder _ _ (fits told.folder).stands.text);
      };
      counted = counted_works (names_of_file name) None _ old old new (ap (λ (s : Scene). s.out_faults) acts.frame) (works told (free told.folder)) (counted_none output_count old);
      clean = record { last = acts.last told.folder; none = none; cleared = cleared told.folder; moved = moved told.folder; readers = own_told tells old new acts.modes told.folder };
    };
    keeps = record { free = free; file = file; names = names; counts = only_folder old new acts.frame acts.later; causes = All-nil (FaultHasCause (counts_of old) (counts_of new)) };
    script = ap (λ (s : Scene). s.script) acts.frame;
    answers = ap (λ (s : Scene). s.answers) acts.frame;
  }

-- ---- the same run of a name that is the same
pub runs_same : (tells : Tells) (one other : List ℕ) (old new : Scene) (end end' : Ending) (marks marks' : List Mark) → one ≡ other → end' ≡ end → marks' ≡ marks
    → RunsEdit tells one old new end marks → RunsEdit tells other old new end' marks'
runs_same tells one other old new end end' marks marks' same ended kept runs =
    subst (λ (n : List ℕ). RunsEdit tells n old new end' marks') same
    (subst (λ (e : Ending). RunsEdit tells one old new e marks') (sym ended) (subst (λ (l : List Mark). RunsEdit tells one old new end l) (sym kept) runs))

-- an ending that is neither of a file with a swap file nor of a script that could not be read, where no call failed and the file is within its limits
pub through_row : (end : Ending) (old new : Scene) (file : Option (List ℕ)) → (row end).counts (counts_of old) (counts_of new) → (row end).file file → FileFits file → (HasRisen old.out_faults new.out_faults → ⊥)
    → (HasRisen old.folder_faults new.folder_faults → ⊥) → (end ≡ ending.SwapFound → ⊥) → (end ≡ ending.ScriptFault → ⊥) → (end ≡ ending.ScriptTooLong → ⊥) → IsThrough end
through_row ending.Done old new file counts is fits out folder swap script long = inl refl
through_row ending.WithErrors old new file counts is fits out folder swap script long = inr (inl refl)
through_row ending.Usage old new file counts is fits out folder swap script long = absurd counts
through_row ending.SwapFound old new file counts is fits out folder swap script long = absurd (swap refl)
through_row ending.NoSwap old new file counts is fits out folder swap script long = absurd counts
through_row ending.ScriptFault old new file counts is fits out folder swap script long = absurd (script refl)
through_row ending.OutputFault old new file counts is fits out folder swap script long = absurd (out counts.0)
through_row ending.FolderFault old new file counts is fits out folder swap script long = absurd (folder counts.0)
through_row ending.NoMemory old new file counts is fits out folder swap script long = inr (inr refl)
through_row ending.Encrypted old new file counts is fits out folder swap script long = absurd counts
through_row ending.NotSwap old new file counts is fits out folder swap script long = absurd counts
through_row ending.Salvaged old new file counts is fits out folder swap script long = absurd counts
through_row (ending.TextLimit size) old new file counts is fits out folder swap script long = absurd (passes_no_limit file size fits is)
through_row ending.ScriptTooLong old new file counts is fits out folder swap script long = absurd (long refl)

-- a run within all limits whose calls succeed comes to its end, or has no memory
pub through : (tells : Tells) (name : List ℕ) (old new : Scene) (end : Ending) (marks : List Mark) → RunsEdit tells name old new end marks → IsUnhindered tells name old new → IsThrough end
through tells name old new end marks runs free =
    through_row end old new (content_of old name) runs.counts (runs.file free.told.folder) free.file free.no_out_fault free.no_folder_fault (λ is. free.free (runs.swap free.told.folder is))
    (λ is. let same = subst (λ (e : Ending). RunsEdit tells name old new e marks) is runs in free.no_script_fault same.counts.0)
    (λ is. let same = subst (λ (e : Ending). RunsEdit tells name old new e marks) is runs in absurd (omega (arith, free.script, (same.told free.told).answered.longer)))

pub through_outcome : (o : Outcome) → (is_fault o ≡ true → ⊥) → (o ≡ outcome.Done) ⊎ (o ≡ outcome.NoMemory)
through_outcome outcome.Done no_fault = inl refl
through_outcome outcome.NoMemory no_fault = inr refl
through_outcome outcome.Fault no_fault = absurd (no_fault refl)
through_outcome outcome.NoUndo no_fault = absurd (no_fault refl)

pub through_marks : (tells : Tells) (name : List ℕ) (old new : Scene) (end : Ending) (marks : List Mark) → RunsEdit tells name old new end marks → IsUnhindered tells name old new → All IsThroughMark marks
through_marks tells name old new end marks runs free = λ k d within. through_outcome (get_or marks k d).outcome (λ is. free.no_folder_fault (runs.causes k d within is))

-- a run over a file is never one with other words
pub not_usage : (tells : Tells) (name : List ℕ) (old new : Scene) (end : Ending) (marks : List Mark) → RunsEdit tells name old new end marks → end ≡ ending.Usage → ⊥
not_usage tells name old new end marks runs is = subst (λ (e : Ending). (row e).counts (counts_of old) (counts_of new)) is runs.counts

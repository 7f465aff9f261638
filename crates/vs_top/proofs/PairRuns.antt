-- A run of two sessions up to the first line of its script: its opening fails, or there is no memory, or an opening reply is cut short, or both are whole.
use Rattle.std.proofs.Common.{◌≡◌, ◌⊎◌, inl, inr, ℕ, ◌<◌, ◌≤◌, ◌+◌, ◌^◌, true, false, List, [], ◌++◌, length, map, Option, Some, None, IsTrue, Result, Ok, Err, refl, sym, ap, subst, ◌∙◌, append-nil, arith, string_bytes}
use Rattle.std.specs.Prelude.{IfSome, IsErr, IsErrAnd, IsSomeAnd, is_none}
use Rattle.std.proofs.lemmas.List.{length-append}
use Rattle.std.proofs.lemmas.List.Elements.{All-nil}
use Rattle.vs_faults.specs.Faults.{HasRisen, IsQuiet}
use Rattle.vs_host.specs.Disk.{Disk, Name}
use Rattle.vs_host.specs.World.{Tells, Scene, content_of}
use Rattle.vs_host.specs.declared.names.Names.{Names}
use Rattle.vs_pair.specs.Acts.{Acts}
use Rattle.vs_text.specs.Documents.{document_of}
use Rattle.vs_text.specs.Limits.{IsWithinLimits}
use Rattle.vs_script.specs.Ahead.{script_limit}
use Rattle.vs_script.specs.Feed as feed
use Rattle.vs_script.specs.Feed.{Between}
use Rattle.vs_script.specs.declared.feed.CommandFeed.{CommandFeed}
use Rattle.vs_family.specs.Family.{is_of_family}
use Rattle.vs_family.specs.declared.which.Which.{Which}
use Rattle.vs_family.specs.declared.which.Which.TheVariants as which
use Rattle.vs_machine.specs.Replies.{opening_of}
use Rattle.vs_machine.specs.Replies.{Answer as Reply}
use Rattle.vs_machine.specs.declared.command.Mark.{Mark}
use Rattle.vs_safety.proofs.Endings.{not_opened}
use Rattle.vs_both.specs.Beside.{AreSetApart, AreBeside, IsSetApart, others_of}
use Rattle.vs_session.specs.declared.session.Session.{Session}
use Rattle.vs_session.specs.declared.open.OpenErr.{OpenErr}
use Rattle.vs_session.specs.declared.open.OpenErr.TheVariants as opening
use Rattle.vs_session.specs.Open.{OnlyLooks}
use Rattle.vs_multi.specs.declared.multi.Multi.{Multi}
use Rattle.vs_multi.specs.Multi.{FitsBoth}
use Rattle.vs_multi.specs.Opening.{AreNotOpened, BothStandOpen, IsEitherTooLarge, OpensBoth, StandsOpen}
use Rattle.vs_multi.specs.Sessions.{AreOwn, AreOwnWhere, file_name_of}
use Rattle.vs_tagged.specs.Tagged.{WritesTagged}
use Rattle.vs_tagged.proofs.Lines.{tagged_some}
use Rattle.vs_top.specs.Ending.{ending_in, open_ending}
use Rattle.vs_top.specs.Run.{TellsRun, FileFits, counts_of, FaultHasCause}
use Rattle.vs_top.specs.Tags.{prefix_of, tagged_for}
use Rattle.vs_top.specs.Turns.{document_at}
use Rattle.vs_top.specs.PairHistory.{BothFiles, opening_for}
use Rattle.vs_top.specs.PairScript.{Reads}
use Rattle.vs_top.specs.PairPromise.{BeforeOpening, EitherHasSwap, EitherPasses, EndsPair, HasRunBoth, IsMixed, IsTimedBoth, RunsPair, files_in, party_for}
use Rattle.vs_top.specs.PairTurns.{Greets, ArePlaced, AreUsable, KeepsPair, OpensPair, FeedStandsAt, TakesMore, ToldOpenPair, ToldPair, sessions_ended, greeting_of, one_ended}
use Rattle.vs_top.specs.declared.pair.Sessions.{Sessions}
use Rattle.vs_top.specs.declared.ending.Ending.{Ending}
use Rattle.vs_top.specs.declared.ending.Ending.TheVariants as ending
use Rattle.vs_top.proofs.Counting.{only_folder}
use Rattle.vs_top.proofs.Edits.{only_looked}
use Rattle.vs_top.proofs.Limits.{within_or_not}
use Rattle.vs_top.proofs.Opening.{no_causes, opening_some}
use Rattle.vs_top.proofs.PairGreets.{greet_cut_one, greet_cut_two, greeted, greeting_one, greeting_two}
use Rattle.vs_top.proofs.PairKeeps.{ends_cut, ends_memory, keeps_puts}
use Rattle.vs_top.proofs.PairOpening.{run_unopened, told_opened}

-- ---- not both files were opened

-- a file that is not over its limits
fits_not_over : (file : Option (List ℕ)) → IfSome file (λ bytes. ¬ (¬ IsWithinLimits ((document_of bytes).text))) → FileFits file
fits_not_over None not_over = tt
fits_not_over (Some bytes) not_over = elim (within_or_not ((document_of bytes).text)) [ inl within ↦ within | inr over ↦ absurd (not_over over) ]

-- the one that is too large
too_large : (tells : Tells) (size : ℕ) (one two : List ℕ) (old : Scene) → IsTrue tells.folder → IsEitherTooLarge tells size (content_of old one) (content_of old two) → EitherPasses size (content_of old one) (content_of old two)
too_large tells size one two old told (inl large) = inl (large.passes told)
too_large tells size one two old told (inr large) = inr (fits_not_over (content_of old one) (large.0 told), large.1.passes told)

module _ (tells : Tells) (one two : List ℕ) (old new : Scene) (pending : IsTrue tells.folder → old.folder.pending ≡ [])
    (beside : AreBeside (party_for which.One (files_in old one two)) (party_for which.Two (files_in old one two))) (acts : Acts tells (OpensBoth one two) old new) where
  timed_none : (most : ℕ) (marks : List Mark) → marks ≡ [] → IsTimedBoth most old new marks
  timed_none most marks none = record {
    quits = [];
    few = omega arith;
    times = [];
    is = ap (λ (s : Scene). s.answers) acts.frame ∙ sym (append-nil old.answers);
    mixed = subst (λ (l : List Mark). IsMixed (map (λ mark. mark.at) l) [] []) (sym none) refl;
  }

  script_long : (most : ℕ) → length old.script ≤ length new.script + most
  script_long most = omega (arith, ap (λ (s : Scene). length s.script) acts.frame)

  all_quiet : new.folder_faults ≡ old.folder_faults → counts_of new ≡ counts_of old
  all_quiet quiet = ap counts_of acts.frame ∙ ap (λ (n : ℕ). record (counts_of old) { folder = n }) quiet

  module _ (marks : List Mark) (none : marks ≡ []) where
    -- the run ends with the reason
    ends_unopened : (error : OpenErr) → (error ≡ opening.Failed → HasRisen old.folder_faults new.folder_faults) → IsQuiet old.folder_faults new.folder_faults (error ≡ opening.Failed)
        → ((size : ℕ) → error ≡ opening.TextLimit size → IsEitherTooLarge tells size (content_of old one) (content_of old two)) → (error ≡ opening.SwapFound → IsTrue tells.folder → EitherHasSwap one two old.folder)
        → (IsTrue tells.folder → EitherHasSwap one two old.folder → (error ≡ opening.SwapFound) ⊎ (error ≡ opening.Failed) ⊎ (error ≡ opening.NoMemory))
        → (IsTrue tells.folder → EitherHasSwap one two old.folder → OnlyLooks tells old new) → EndsPair tells one two old new (open_ending error) marks
    ends_unopened opening.SwapFound failed quiet limit swap barred barred_looks = record {
      swap = λ told is. swap refl told;
      barred = λ told has. only_looked tells old new ending.SwapFound marks (inl refl) none (barred_looks told has) told;
      files = λ told. tt;
      taken = λ told. script_long 0;
      counts = all_quiet (quiet (λ is. absurd (cc)));
      causes = no_causes (counts_of old) (counts_of new) marks none;
      times = λ told. timed_none 2 marks none;
    }
    ends_unopened opening.Failed failed quiet limit swap barred barred_looks = record {
      swap = λ told is. absurd (cc);
      barred = λ told has. only_looked tells old new ending.FolderFault marks (inr (inr refl)) none (barred_looks told has) told;
      files = λ told. tt;
      taken = λ told. script_long _;
      counts = (failed refl, only_folder old new acts.frame acts.later);
      causes = no_causes (counts_of old) (counts_of new) marks none;
      times = λ told. timed_none 2 marks none;
    }
    ends_unopened opening.NoMemory failed quiet limit swap barred barred_looks = record {
      swap = λ told is. absurd (cc);
      barred = λ told has. only_looked tells old new ending.NoMemory marks (inr (inl refl)) none (barred_looks told has) told;
      files = λ told. tt;
      taken = λ told. script_long _;
      counts = only_folder old new acts.frame acts.later;
      causes = no_causes (counts_of old) (counts_of new) marks none;
      times = λ told. timed_none 2 marks none;
    }
    ends_unopened (opening.TextLimit size) failed quiet limit swap barred barred_looks = record {
      swap = λ told is. absurd (cc);
      barred = λ told has. elim (barred told has) [ inl is ↦ absurd (cc) | inr more ↦ elim more [ inl is ↦ absurd (cc) | inr is ↦ absurd (cc) ] ];
      files = λ told. too_large tells size one two old told (limit size refl);
      taken = λ told. script_long 0;
      counts = all_quiet (quiet (λ is. absurd (cc)));
      causes = no_causes (counts_of old) (counts_of new) marks none;
      times = λ told. timed_none 2 marks none;
    }

    pub runs_unopened : (error : OpenErr) → (error ≡ opening.Failed → HasRisen old.folder_faults new.folder_faults) → IsQuiet old.folder_faults new.folder_faults (error ≡ opening.Failed)
        → ((size : ℕ) → error ≡ opening.TextLimit size → IsEitherTooLarge tells size (content_of old one) (content_of old two)) → (error ≡ opening.SwapFound → IsTrue tells.folder → EitherHasSwap one two old.folder)
        → (IsTrue tells.folder → EitherHasSwap one two old.folder → (error ≡ opening.SwapFound) ⊎ (error ≡ opening.Failed) ⊎ (error ≡ opening.NoMemory))
        → (IsTrue tells.folder → EitherHasSwap one two old.folder → OnlyLooks tells old new) → AreNotOpened tells one error old new → RunsPair tells one two old new (open_ending error) marks
    runs_unopened error failed quiet limit swap barred barred_looks not_both = record {
      told = λ told.
          run_unopened tells told one two old new (pending told.folder) beside acts marks none error failed (λ is. barred_looks told.folder (swap is told.folder)) not_both;
      ends = ends_unopened error failed quiet limit swap barred barred_looks;
    }

  -- ---- both were

  module _ (multi : Multi) (opened : BothStandOpen tells one two old new multi) (fits : FitsBoth tells multi new.folder) (free : IsTrue tells.folder → EitherHasSwap one two old.folder → ⊥)
      (one_fits : IsTrue tells.folder → FileFits (content_of old one)) (two_fits : IsTrue tells.folder → FileFits (content_of old two)) where
    own_files : (s t : Session) → StandsOpen tells one old new s → StandsOpen tells two old new t → AreOwn (file_name_of s) (file_name_of t) new.folder
        → AreSetApart (party_for which.One (files_in old one two)) (party_for which.Two (files_in old one two)) new.folder
    own_files s t one_stands two_stands own = record {
      first = subst (λ (n : Name). IsSetApart (is_of_family n) new.folder) (ap (λ (n : Names). n.file) one_stands.names) own.0;
      second = subst (λ (n : Name). IsSetApart (is_of_family n) new.folder) (ap (λ (n : Names). n.file) two_stands.names) own.1;
    }

    told_by : (first second : Option Session) → IsSomeAnd first (StandsOpen tells one old new) → IsSomeAnd second (StandsOpen tells two old new) → AreOwnWhere tells first second new.folder → TellsRun tells
        → ToldOpenPair one two old new
    told_by None second one_stands two_stands own told = absurd one_stands
    told_by (Some s) None one_stands two_stands own told = absurd two_stands
    told_by (Some s) (Some t) one_stands two_stands own told =
        told_opened tells told one two old new (pending told.folder) beside acts s t one_stands two_stands (free told.folder) (own_files s t one_stands two_stands (own told.folder))

    pub opens_pair : OpensPair tells one two old new multi
    opens_pair = record {
      opened = opened;
      told = told_by multi.one multi.two opened.first opened.second fits.own;
      keeps = record {
        free = free;
        fit = λ told. (one_fits told, two_fits told);
        counts = only_folder old new acts.frame acts.later;
        causes = All-nil (FaultHasCause (counts_of old) (counts_of new));
        taken = λ told. script_long script_limit;
        times = λ told. timed_none 0 [] refl;
      };
      script = ap (λ (s : Scene). s.script) acts.frame;
    }

-- ---- the opening replies

-- the same write, where the failure is said in other words
pub puts_for : (tells : Tells) (bytes : List ℕ) (Failed Failed' : Type 0) (old new : Scene) → (Failed → Failed') → (Failed' → Failed) → WritesTagged tells bytes Failed old new → WritesTagged tells bytes Failed' old new
puts_for tells bytes Failed Failed' old new to from puts = record {
  wrote = λ folder output calm. puts.wrote folder output (λ failed. calm (to failed));
  part = puts.part;
  cause = record { later = puts.cause.later; risen = λ failed. puts.cause.risen (from failed) };
  quiet = λ calm. puts.quiet (λ failed. calm (to failed));
  none = λ folder calm. puts.none folder (λ failed. calm (to failed));
  last = puts.last;
  frame = puts.frame;
}

pub greeting_is : (session : Which) (opened : Option Session) (reply : Reply) → is_none opened ≡ false → IfSome opened (λ s. reply ≡ opening_of (string_bytes s.name) s.found) → tagged_for session reply.bytes ≡ greeting_of session opened
greeting_is session None reply is says = absurd (cc)
greeting_is session (Some s) reply is says = ap (λ (r : Reply). tagged_for session r.bytes) says

is_error : (r : Result (Unit {0}) Ending) (one : Ending) → IsErrAnd r (λ e. e ≡ one) → IsErr r
is_error (Ok done) one is = absurd is
is_error (Err e) one is = refl

-- the first of two replies is cut short, or it is whole
pub greets_first : (tells : Tells) (multi : Multi) (r : Result (Unit {0}) Ending) (one : Ending) (bytes : List ℕ) (Failed : Type 0) (old new : Scene) → IsErrAnd r (λ e. e ≡ one) → bytes ≡ greeting_of which.One multi.one → Failed
    → WritesTagged tells bytes Failed old new → Greets tells multi r old new
greets_first tells multi r one bytes Failed old new is line failed puts =
    inl (is_error r one is, subst (λ (l : List ℕ). WritesTagged tells l (Unit {0}) old new) line (puts_for tells bytes Failed (Unit {0}) old new (λ f. tt) (λ u. failed) puts))

pub greets_both : (tells : Tells) (multi : Multi) (r : Result (Unit {0}) Ending) (bytes more : List ℕ) (Failed : Type 0) (old mid new : Scene) → bytes ≡ greeting_of which.One multi.one → more ≡ greeting_of which.Two multi.two → ¬ Failed
    → WritesTagged tells bytes Failed old mid → WritesTagged tells more (IsErr r) mid new → Greets tells multi r old new
greets_both tells multi r bytes more Failed old mid new line next calm puts second = inr (
  mid,
  subst (λ (l : List ℕ). WritesTagged tells l ⊥ old mid) line (puts_for tells bytes Failed ⊥ old mid calm (λ none. absurd none) puts),
  subst (λ (l : List ℕ). WritesTagged tells l (IsErr r) mid new) next second,
)

-- a session that stands open
some_stands : (opened : Option Session) (P : Session → Type 0) → IsSomeAnd opened P → (s : Session) × (opened ≡ Some s) × P s
some_stands None P stands = absurd stands
some_stands (Some s) P stands = (s, refl, stands)

module _ (tells : Tells) (one two : List ℕ) (old now : Scene) (multi : Multi) (at : OpensPair tells one two old now multi) (marks : List Mark) (none : marks ≡ []) where
  abbrev files : BothFiles
  files = files_in old one two

  keeps_now : KeepsPair tells one two old now 0 marks
  keeps_now = subst (λ (l : List Mark). KeepsPair tells one two old now 0 l) (sym none) at.keeps

  first : (s : Session) × (multi.one ≡ Some s) × StandsOpen tells one old now s
  first = some_stands multi.one (StandsOpen tells one old now) at.opened.first

  second : (s : Session) × (multi.two ≡ Some s) × StandsOpen tells two old now s
  second = some_stands multi.two (StandsOpen tells two old now) at.opened.second

  -- there was no memory for the script
  memory_told : TellsRun tells → HasRunBoth one two old now ending.NoMemory marks
  memory_told told =
      let here = at.told told in
      let one_some : 0 < length (opening_for which.One files) = tagged_some (prefix_of which.One) (opening_of files.one.name files.one.found).bytes (opening_some files.one.name files.one.found) in
      let some : 0 < length (opening_for which.One files ++ opening_for which.Two files) =
      omega (arith, one_some, length-append (opening_for which.One files) (opening_for which.Two files)) in
      let output : now.output ≡ old.output = here.first.begins.works.output in
      record {
        did = record { transcript = []; reach = BeforeOpening };
        read = tt;
        may = record { one = tt; two = tt; quits = tt };
        kept = none;
        wrote = (refl, (0, output ∙ sym (append-nil old.output)));
        ends = inl (record { none = record { none = none; output = output }; did_none = refl });
        first = λ free. not_opened (others_of (party_for which.One files)) (party_for which.One files).names (party_for which.One files).line (document_at old one) (opening_for which.One files) old now here.first.begins one_some;
        second = λ free. not_opened (others_of (party_for which.Two files)) (party_for which.Two files).names (party_for which.Two files).line (document_at old two) (opening_for which.One files ++ opening_for which.Two files) old now here.second.begins some;
        others = here.others;
        readers = λ allowed owner found. here.readers allowed owner;
        failed = tt;
        left = λ is. inr (first.0, first.2.names, first.2.fits told.folder);
      }

  pub memory_runs : RunsPair tells one two old now ending.NoMemory marks
  memory_runs = record { told = memory_told; ends = ends_memory tells one two old now 0 marks keeps_now (omega arith) }

  one_line : TellsRun tells → greeting_of which.One multi.one ≡ opening_for which.One files
  one_line told = ap (λ (o : Option Session). greeting_of which.One o) first.1 ∙ greeting_one tells told one two old now (at.told told) marks none first.0 (first.2.file told.folder)

  two_line : TellsRun tells → greeting_of which.Two multi.two ≡ opening_for which.Two files
  two_line told = ap (λ (o : Option Session). greeting_of which.Two o) second.1 ∙ greeting_two tells told one two old now (at.told told) marks none second.0 (second.2.file told.folder)

  -- that of the first is cut short
  cut_first : (new : Scene) → WritesTagged tells (greeting_of which.One multi.one) (Unit {0}) now new → RunsPair tells one two old new ending.OutputFault marks
  cut_first new puts = record {
    told = λ told.
        greet_cut_one tells told one two old now (at.told told) marks none first.0 first.2 (Unit {0}) new (subst (λ (l : List ℕ). WritesTagged tells l (Unit {0}) now new) (one_line told) puts) tt;
    ends = ends_cut tells one two old now 0 marks keeps_now (omega arith) (greeting_of which.One multi.one) (Unit {0}) new puts tt;
  }

  module _ (mid : Scene) (one_puts : WritesTagged tells (greeting_of which.One multi.one) ⊥ now mid) where
    keeps_mid : KeepsPair tells one two old mid 0 marks
    keeps_mid = keeps_puts tells one two old now 0 marks keeps_now (greeting_of which.One multi.one) ⊥ mid one_puts (λ failed. failed)

    module _ (Failed : Type 0) (new : Scene) (puts : WritesTagged tells (greeting_of which.Two multi.two) Failed mid new) where
      -- or that of the second
      cut_second : Failed → RunsPair tells one two old new ending.OutputFault marks
      cut_second failed = record {
        told = λ told.
            greet_cut_two tells told one two old now (at.told told) marks none mid (subst (λ (l : List ℕ). WritesTagged tells l ⊥ now mid) (one_line told) one_puts) Failed new
            (subst (λ (l : List ℕ). WritesTagged tells l Failed mid new) (two_line told) puts) failed;
        ends = ends_cut tells one two old mid 0 marks keeps_mid (omega arith) (greeting_of which.Two multi.two) Failed new puts failed;
      }

      keeps_both : ¬ Failed → KeepsPair tells one two old new 0 marks
      keeps_both calm = keeps_puts tells one two old mid 0 marks keeps_mid (greeting_of which.Two multi.two) Failed new puts calm

      told_both : ¬ Failed → TellsRun tells → ToldPair one two old new multi marks true []
      told_both calm told =
          greeted tells told one two old now (at.told told) marks none mid (subst (λ (l : List ℕ). WritesTagged tells l ⊥ now mid) (one_line told) one_puts) Failed new
          (subst (λ (l : List ℕ). WritesTagged tells l Failed mid new) (two_line told) puts) calm multi first.0 second.0 first.1 second.1 first.2 second.2

  none_ended : sessions_ended multi ≡ 0
  none_ended = omega (arith, ap one_ended first.1, ap one_ended second.1)

  -- not both are whole
  pub greet_fails : (r : Result (Unit {0}) Ending) (new : Scene) → Greets tells multi r now new → IsErr r → RunsPair tells one two old new ending.OutputFault marks
  greet_fails r new (inl cut) failed = cut_first new cut.1
  greet_fails r new (inr both) failed = cut_second both.0 both.1 (IsErr r) new both.2 failed

  -- both are
  module _ (r : Result (Unit {0}) Ending) (new : Scene) (calm : ¬ IsErr r) where
    pub greet_keeps : Greets tells multi r now new → KeepsPair tells one two old new (sessions_ended multi) marks
    greet_keeps (inl cut) = absurd (calm cut.0)
    greet_keeps (inr both) = subst (λ (n : ℕ). KeepsPair tells one two old new n marks) (sym none_ended) (keeps_both both.0 both.1 (IsErr r) new both.2 calm)

    pub greet_told : Greets tells multi r now new → TellsRun tells → ToldPair one two old new multi marks true []
    greet_told (inl cut) told = absurd (calm cut.0)
    greet_told (inr both) told = told_both both.0 both.1 (IsErr r) new both.2 calm told

    pub greet_script : Greets tells multi r now new → new.script ≡ old.script
    greet_script (inl cut) = absurd (calm cut.0)
    greet_script (inr both) = ap (λ (s : Scene). s.script) both.2.frame ∙ ap (λ (s : Scene). s.script) both.1.frame ∙ at.script

-- ---- both sessions take the commands of a script

takes_open : (tells : Tells) (name : List ℕ) (old now : Scene) (opened : Option Session) → IsSomeAnd opened (StandsOpen tells name old now) → TakesMore (script_limit + 2) opened
takes_open tells name old now None stands = absurd stands
takes_open tells name old now (Some s) stands = (stands.undo, omega (arith, stands.generation))

greet_folder : (tells : Tells) (multi : Multi) (r : Result (Unit {0}) Ending) (now new : Scene) → ¬ IsErr r → Greets tells multi r now new → (new.folder ≡ now.folder) × (new.answers ≡ now.answers)
greet_folder tells multi r now new calm (inl cut) = absurd (calm cut.0)
greet_folder tells multi r now new calm (inr both) = (
  ap (λ (s : Scene). s.folder) both.2.frame ∙ ap (λ (s : Scene). s.folder) both.1.frame,
  ap (λ (s : Scene). s.answers) both.2.frame ∙ ap (λ (s : Scene). s.answers) both.1.frame,
)

pub usable_start : (tells : Tells) (one two : List ℕ) (old now new : Scene) (pair : Sessions) (r : Result (Unit {0}) Ending) → ¬ IsErr r → Greets tells pair.multi r now new → BothStandOpen tells one two old now pair.multi
    → (IsTrue tells.clock → length now.answers < 2 ^ 62) → FitsBoth tells pair.multi now.folder → feed.IsAt pair.one Between → feed.IsAt pair.two Between → AreUsable tells pair (script_limit + 2) new
usable_start tells one two old now new pair r calm greets opened clock fits one_at two_at =
    let same = greet_folder tells pair.multi r now new calm greets in
    record {
      first = takes_open tells one old now pair.multi.one opened.first;
      second = takes_open tells two old now pair.multi.two opened.second;
      clock = λ told. omega (arith, clock told, ap (λ (l : List ℕ). length l) same.1);
      fits = subst (λ (d : Disk). FitsBoth tells pair.multi d) (sym same.0) fits;
      one_ready = (Between, one_at);
      two_ready = (Between, two_at);
    }

stands_start : (opened : Option Session) (own : CommandFeed) (P : Session → Type 0) → IsSomeAnd opened P → feed.IsAt own Between → FeedStandsAt opened own (Reads Between)
stands_start None own P stands at = absurd stands
stands_start (Some s) own P stands at = at

pub placed_start : (tells : Tells) (one two : List ℕ) (old now : Scene) (pair : Sessions) → BothStandOpen tells one two old now pair.multi → feed.IsAt pair.one Between → feed.IsAt pair.two Between → ArePlaced pair []
placed_start tells one two old now pair opened one_at two_at which.One = stands_start pair.multi.one pair.one (StandsOpen tells one old now) opened.first one_at
placed_start tells one two old now pair opened one_at two_at which.Two = stands_start pair.multi.two pair.two (StandsOpen tells two old now) opened.second two_at

-- ---- results

-- the ending of a run that an error ended
pub pair_ending : (tells : Tells) (one two : List ℕ) (old new : Scene) (marks : List Mark) (r : Result Ending Ending) (given end : Ending) → IsErrAnd r (λ e. e ≡ given) → given ≡ end → RunsPair tells one two old new end marks
    → RunsPair tells one two old new (ending_in r) marks
pair_ending tells one two old new marks (Ok e) given end is same runs = absurd is
pair_ending tells one two old new marks (Err e) given end is same runs = subst (λ (x : Ending). RunsPair tells one two old new x marks) (sym (is ∙ same)) runs

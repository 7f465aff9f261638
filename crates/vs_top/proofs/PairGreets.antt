-- Both opening replies of a run of two sessions: they are whole, or one of them is cut short.
use Rattle.std.proofs.Common.{◌≡◌, ℕ, ◌<◌, true, List, [], ◌++◌, length, Option, Some, refl, sym, ap, subst, ◌∙◌, append_assoc, string_bytes}
use Rattle.vs_host.specs.Disk.{Disk}
use Rattle.vs_host.specs.World.{Tells, Scene}
use Rattle.vs_family.specs.declared.which.Which.{Which}
use Rattle.vs_family.specs.declared.which.Which.TheVariants as which
use Rattle.vs_machine.specs.Replies.{opening_of}
use Rattle.vs_machine.specs.declared.command.Mark.{Mark}
use Rattle.vs_safety.specs.Turns.{opened}
use Rattle.vs_safety.specs.Safety.{Wrote}
use Rattle.vs_safety.specs.History.{Replied}
use Rattle.vs_safety.specs.Causes.{output_count}
use Rattle.vs_safety.proofs.Causes.{counted_on, rose_last}
use Rattle.vs_disk.specs.Runs.{HasNoFault, Quiet}
use Rattle.vs_disk.proofs.Runs.{goes_weaker}
use Rattle.vs_both.specs.Beside.{Party}
use Rattle.vs_both.proofs.Both.{both_first_cut, both_opened, both_second_cut}
use Rattle.vs_session.specs.declared.session.Session.{Session}
use Rattle.vs_session.specs.Fits.{Fits, HasOpened}
use Rattle.vs_multi.specs.declared.multi.Multi.{Multi}
use Rattle.vs_multi.specs.Multi.{session_of}
use Rattle.vs_multi.specs.Opening.{StandsOpen}
use Rattle.vs_tagged.specs.Tagged.{WritesTagged}
use Rattle.vs_tagged.proofs.Lines.{tagged_some}
use Rattle.vs_top.specs.Run.{TellsRun}
use Rattle.vs_top.specs.Tags.{prefix_of, tagged_for}
use Rattle.vs_top.specs.Turns.{document_at}
use Rattle.vs_top.specs.PairHistory.{BothFiles, file_for, opening_for, stage_before, stage_of, stage_opened, state_for}
use Rattle.vs_top.specs.PairPromise.{BeforeOpening, BetweenOpenings, HasRunBoth, LeavesOthers, files_in, party_for}
use Rattle.vs_top.specs.PairTurns.{IsInState, ToldOpenPair, ToldPair}
use Rattle.vs_top.specs.Readers.{MakesOwn}
use Rattle.vs_top.specs.declared.ending.Ending.TheVariants as ending
use Rattle.vs_top.proofs.Opening.{opening_some}
use Rattle.vs_top.proofs.PairAnswers.{part_taken}
use Rattle.vs_top.proofs.PairStages.{counted_quiet, kept_as, others_wrote, wrote_some}
use Rattle.vs_top.proofs.Readers.{own_then, own_wrote}

module _ (tells : Tells) (told : TellsRun tells) (one two : List ℕ) (old now : Scene) (here : ToldOpenPair one two old now) (marks : List Mark) (none : marks ≡ []) where
  abbrev files : BothFiles
  files = files_in old one two

  abbrev first : Party
  first = party_for which.One files

  abbrev second : Party
  second = party_for which.Two files

  abbrev one_line : List ℕ
  one_line = opening_for which.One files

  abbrev two_line : List ℕ
  two_line = opening_for which.Two files

  some_one : 0 < length one_line
  some_one = tagged_some (prefix_of which.One) (opening_of files.one.name files.one.found).bytes (opening_some files.one.name files.one.found)

  some_two : 0 < length two_line
  some_two = tagged_some (prefix_of which.Two) (opening_of files.two.name files.two.found).bytes (opening_some files.two.name files.two.found)

  output_now : now.output ≡ old.output
  output_now = here.first.begins.works.output

  -- the first is cut short
  pub greet_cut_one : (s : Session) → StandsOpen tells one old now s → (Failed : Type 0) (new : Scene) → WritesTagged tells one_line Failed now new → Failed → HasRunBoth one two old new ending.OutputFault marks
  greet_cut_one s stands Failed new puts failed =
      let part = puts.part told.folder told.output in
      let taken = part_taken part.0 one_line part.1 in
      let kept = both_first_cut first second old now (document_at old one) (document_at old two) one_line two_line here.first here.second part.0 new some_one part.2 part.1 in
      record {
        did = record { transcript = []; reach = BeforeOpening };
        read = tt;
        may = record { one = tt; two = tt; quits = tt };
        kept = none;
        wrote = (refl, (taken.0, part.2.output ∙ ap (λ (l : List ℕ). l ++ part.0) output_now ∙ ap (λ (l : List ℕ). old.output ++ l) taken.1));
        ends = tt;
        first = λ free. kept_as first old (stage_before which.One files) new kept.first_kept;
        second = λ free. kept_as second old (stage_before which.Two files) new kept.second_kept;
        others = others_wrote one two old now new here.others part.0 part.2;
        readers = λ allowed owner found. own_then old now new here.readers (own_wrote now new part.0 part.2) allowed owner;
        failed = rose_last output_count old now new (λ m no_fault. no_fault.out) (puts.last told.folder) (puts.cause.risen failed) here.counted;
        left = λ is. (s, stands.names, subst (λ (d : Disk). Fits s d files.one.state (opened (document_at old one))) (sym part.2.folder) (stands.fits told.folder));
      }

  module _ (mid : Scene) (one_puts : WritesTagged tells one_line ⊥ now mid) where
    one_wrote : Wrote one_line now mid
    one_wrote = one_puts.wrote told.folder told.output (λ f. f)

    one_replied : Replied one_line now mid
    one_replied = record { some = some_one; wrote = one_wrote }

    others_mid : LeavesOthers one two old mid
    others_mid = others_wrote one two old now mid here.others one_line one_wrote

    own_mid : MakesOwn old mid
    own_mid = own_then old now mid here.readers (own_wrote now mid one_line one_wrote)

    output_mid : mid.output ≡ old.output ++ one_line
    output_mid = one_wrote.output ∙ ap (λ (l : List ℕ). l ++ one_line) output_now

    one_quiet : Quiet now mid
    one_quiet = one_puts.none told.folder (λ f. f)

    module _ (Failed : Type 0) (new : Scene) (puts : WritesTagged tells two_line Failed mid new) where
      -- or the second
      pub greet_cut_two : Failed → HasRunBoth one two old new ending.OutputFault marks
      greet_cut_two failed =
          let part = puts.part told.folder told.output in
          let taken = part_taken part.0 two_line part.1 in
          let kept = both_second_cut first second old now (document_at old one) (document_at old two) one_line two_line here.first here.second mid part.0 new one_replied some_two part.2 part.1 in
          record {
            did = record { transcript = []; reach = BetweenOpenings };
            read = tt;
            may = record { one = tt; two = tt; quits = tt };
            kept = none;
            wrote = (refl, (taken.0, part.2.output ∙ ap (λ (l : List ℕ). l ++ part.0) output_mid ∙ append_assoc old.output one_line part.0 ∙ ap (λ (l : List ℕ). old.output ++ (one_line ++ l)) taken.1));
            ends = tt;
            first = λ free. kept_as first old (stage_opened which.One files) new kept.first_kept;
            second = λ free. kept_as second old (stage_opened which.Two files) new kept.second_kept;
            others = others_wrote one two old mid new others_mid part.0 part.2;
            readers = λ allowed owner found. own_then old mid new own_mid (own_wrote mid new part.0 part.2) allowed owner;
            failed = rose_last output_count old mid new (λ m no_fault. no_fault.out) (puts.last told.folder) (puts.cause.risen failed)
                (counted_on output_count old now mid (goes_weaker (HasNoFault now) (λ m. m.out_faults ≡ now.out_faults) (λ m no_fault. no_fault.out) now.trace mid.trace one_quiet.moments) one_quiet.out here.counted);
            left = λ is. absurd (cc);
          }

      -- both are whole
      pub greeted : ¬ Failed → (multi : Multi) (s t : Session) → multi.one ≡ Some s → multi.two ≡ Some t → StandsOpen tells one old now s → StandsOpen tells two old now t → ToldPair one two old new multi marks true []
      greeted calm multi s t is_one is_two stands_one stands_two =
          let wrote = puts.wrote told.folder told.output calm in
          let folder : new.folder ≡ now.folder = wrote.folder ∙ one_wrote.folder in
          record {
            beside = here.beside;
            settled = here.settled;
            read = tt;
            may = record { one = tt; two = tt; quits = tt };
            kept = none;
            synced = tt;
            errors = refl;
            output = wrote.output ∙ ap (λ (l : List ℕ). l ++ two_line) output_mid ∙ append_assoc old.output one_line two_line;
            both = both_opened first second old now (document_at old one) (document_at old two) one_line two_line here.first here.second mid new here.apart one_replied (record { some = some_two; wrote = wrote });
            in_state = both_in;
            counted = counted_quiet old mid new (one_wrote.moments.added ++ here.counted.moments)
                (one_wrote.moments.is ∙ ap (λ l. one_wrote.moments.added ++ l) here.counted.added ∙ sym (append_assoc one_wrote.moments.added here.counted.moments old.trace))
                (puts.none told.folder calm) (wrote_some two_line mid new some_two wrote);
            others = others_wrote one two old mid new others_mid two_line wrote;
            readers = λ allowed owner found. own_then old mid new own_mid (own_wrote mid new two_line wrote) allowed owner;
          }
        where
          wrote_two : Wrote two_line mid new
          wrote_two = puts.wrote told.folder told.output calm

          both_in : (session : Which) → IsInState (file_for session files) (session_of session multi) (state_for session files []) (stage_of session files []) new.folder
          both_in which.One =
              subst (λ (o : Option Session). IsInState files.one o (state_for which.One files []) (stage_of which.One files []) new.folder) (sym is_one)
              (stands_one.names, subst (λ (d : Disk). Fits s d files.one.state (opened (document_at old one))) (sym (wrote_two.folder ∙ one_wrote.folder)) (stands_one.fits told.folder))
          both_in which.Two =
              subst (λ (o : Option Session). IsInState files.two o (state_for which.Two files []) (stage_of which.Two files []) new.folder) (sym is_two)
              (stands_two.names, subst (λ (d : Disk). Fits t d files.two.state (opened (document_at old two))) (sym (wrote_two.folder ∙ one_wrote.folder)) (stands_two.fits told.folder))

  -- the opening replies are those of the files
  pub greeting_one : (s : Session) → HasOpened files.one s → tagged_for which.One (opening_of (string_bytes s.name) s.found).bytes ≡ one_line
  greeting_one s has = λ i. tagged_for which.One (opening_of (has.name i) (has.found i)).bytes

  pub greeting_two : (s : Session) → HasOpened files.two s → tagged_for which.Two (opening_of (string_bytes s.name) s.found).bytes ≡ two_line
  greeting_two s has = λ i. tagged_for which.Two (opening_of (has.name i) (has.found i)).bytes

-- The opening of a run and its first reply, and what the run answered where it stops there.
use Rattle.std.proofs.Common.{◌≡◌, inl, inr, ℕ, ◌+◌, ◌≤◌, ◌<◌, true, List, [], ◌∷◌, ◌++◌, length, take, map, All, Option, Some, None, IsTrue, string_bytes, refl, sym, ap, subst, ◌∙◌, append-nil, arith}
use Rattle.std.specs.Prelude.{codes}
use Rattle.std.proofs.lemmas.List.{take_all, length-append}
use Rattle.std.proofs.lemmas.List.Elements.{All-nil}
use Rattle.vs_faults.specs.Faults.{HasRisen}
use Rattle.vs_host.specs.Disk.{Disk}
use Rattle.vs_host.specs.Names.{names_of_file}
use Rattle.vs_host.specs.Trace.{WroteOutput}
use Rattle.vs_host.specs.World.{Tells, Scene, ChangesOutput}
use Rattle.vs_script.specs.Ahead.{Ahead}
use Rattle.vs_machine.specs.Replies.{Answer, file_line, opening_of}
use Rattle.vs_machine.specs.declared.info.FileInfo.{FileInfo}
use Rattle.vs_machine.specs.declared.command.Mark.{Mark}
use Rattle.vs_pair.specs.Pair.{is_foreign}
use Rattle.vs_safety.specs.Turns.{NotBegun, opened, quit_line}
use Rattle.vs_safety.specs.Safety.{IsAdded, Writes}
use Rattle.vs_safety.specs.Causes.{output_count}
use Rattle.vs_safety.proofs.Replies.{first_part, recorded, replied_one, wrote_one}
use Rattle.vs_safety.proofs.SoFar.{waits_first}
use Rattle.vs_safety.proofs.Endings.{not_opened, opening_cut}
use Rattle.vs_safety.proofs.Causes.{rose_at}
use Rattle.vs_session.specs.declared.session.Session.{Session}
use Rattle.vs_session.specs.Fits.{Fits}
use Rattle.vs_top.specs.Promise.{RunsEdit}
use Rattle.vs_top.specs.Run.{TellsRun, Did, KeepsMarks, Counts, counts_of, FaultHasCause, IsTimed, commands_within, opened_file}
use Rattle.vs_top.specs.Turns.{document_at, opening_at, IsOpened}
use Rattle.vs_top.specs.declared.ending.Ending.TheVariants as ending
use Rattle.vs_top.proofs.Calls.{calls_first, calls_opened, calls_unopened, near_end, shorter_by}
use Rattle.vs_top.proofs.Counting.{only_output, all_counted}
use Rattle.vs_top.proofs.Reading.{fresh_reader, read_start}
use Rattle.vs_top.proofs.Turning.{IsTurn}

pub ends_some : (line : List ℕ) → 0 < length (line ++ 10 ∷ [])
ends_some line = let ending : List ℕ = 10 ∷ [] in omega (arith, length-append line ending)

-- no opening reply is empty
pub opening_some : (name : List ℕ) (found : Option FileInfo) → 0 < length (opening_of name found).bytes
opening_some name None = ends_some (codes "\"" ++ name ++ codes "\" [New]")
opening_some name (Some info) = ends_some (file_line name info)

-- nothing was answered
abbrev pub did_none : Did
did_none = record { past = []; closing = NotBegun }

pub kept_none : (name : List ℕ) (old : Scene) (marks : List Mark) → marks ≡ [] → KeepsMarks (opened_file old name) marks []
kept_none name old marks none = record { marks_are = none; are_answered = tt }

pub no_times : (old now : Scene) (marks : List Mark) → marks ≡ [] → now.answers ≡ old.answers → IsTimed old now marks
no_times old now marks none same = record {
  more = [];
  one = omega arith;
  is = same ∙ sym (append-nil old.answers) ∙ ap (λ (l : List Mark). old.answers ++ map (λ mark. mark.at) l) (sym none) ∙ sym (append-nil (old.answers ++ map (λ mark. mark.at) marks));
}

pub no_causes : (a b : Counts) (marks : List Mark) → marks ≡ [] → All (FaultHasCause a b) marks
no_causes a b marks none = subst (λ (l : List Mark). All (FaultHasCause a b) l) (sym none) (All-nil (FaultHasCause a b))

module _ (tells : Tells) (name : List ℕ) (old now : Scene) (session : Session) (at : IsOpened tells name old now session) (marks : List Mark) (none : marks ≡ []) where
  -- there was no memory before the opening reply
  pub no_memory_yet : RunsEdit tells name old now ending.NoMemory marks
  no_memory_yet = record {
    told = λ told.
        let here = at.told told in
        record {
          did = did_none;
          kept = kept_none name old marks none;
          answered = inl (record { answered = record { none = none; output = here.begun.begins.works.output }; cleared = here.clean.cleared });
          safe = λ free. not_opened (is_foreign (names_of_file name)) (names_of_file name) quit_line (document_at old name) (opening_at old name) old now here.begun.begins (opening_some name (opened_file old name).found);
          left = (refl, inr (session, at.keeps.names, here.fits));
          last = tt;
          calls = calls_unopened (opened_file old name) old now here.clean.readers here.begun.begins.works.output (opening_some name (opened_file old name).found) here.begun.begins.works.moments.added here.begun.begins.works.moments.is
              (shorter_by (names_of_file name) None _ old now here.begun.begins.works (length old.output + length (opening_at old name)) (let some = opening_some name (opened_file old name).found in omega (arith, some)));
        };
    swap = λ told is. absurd (cc);
    barred = λ told has. absurd (at.keeps.free told has);
    file = λ told. tt;
    taken = λ told. omega (arith, ap (λ (l : List ℕ). length l) at.script);
    counts = at.keeps.counts;
    causes = no_causes (counts_of old) (counts_of now) marks none;
    times = λ told. no_times old now marks none at.answers;
  }

  module _ (new : Scene) (reply : Answer) (replied : reply ≡ opening_of (string_bytes session.name) session.found) (frame : ChangesOutput now new) (added : IsTrue tells.folder → IsAdded WroteOutput [] now new) where
    bytes_are : TellsRun tells → reply.bytes ≡ opening_at old name
    bytes_are told =
        let file = (at.told told).file in
        ap (λ (a : Answer). a.bytes) replied ∙ (λ i. (opening_of (file.name i) (file.found i)).bytes)

    writes_of : (told : TellsRun tells) (n : ℕ) → new.output ≡ now.output ++ take n reply.bytes → Writes n (opening_at old name) now new
    writes_of told n output = record {
      output = output ∙ ap (λ (l : List ℕ). now.output ++ take n l) (bytes_are told);
      folder = ap (λ (s : Scene). s.folder) frame;
      faults = ap (λ (s : Scene). s.folder_faults) frame;
      added = added told.folder;
    }

    whole_opening : (told : TellsRun tells) (end : Scene) → Writes (length (opening_at old name)) (opening_at old name) now end → length old.output + length (opening_at old name) ≤ length end.output
    whole_opening told end writes = omega (
      arith,
      ap (λ (l : List ℕ). length l) (writes.output ∙ ap (λ (l : List ℕ). now.output ++ l) (take_all (length (opening_at old name)) (opening_at old name) (omega arith))),
      length-append now.output (opening_at old name),
      ap (λ (l : List ℕ). length l) (at.told told).begun.begins.works.output,
    )

    -- the opening reply was written in part
    pub cut_opening : (IsTrue tells.output → (n : ℕ) × (new.output ≡ now.output ++ take n reply.bytes)) → HasRisen now.out_faults new.out_faults → RunsEdit tells name old new ending.OutputFault marks
    cut_opening wrote rose =
        let only = only_output now new frame in
        let before = at.keeps.counts in
        record {
          told = λ told.
              let here = at.told told in
              let cut = wrote told.output in
              let writes = writes_of told cut.0 cut.1 in
              record {
                did = did_none;
                kept = kept_none name old marks none;
                answered = inl (record {
                  first = (commands_within old.script, refl);
                  closing = refl;
                  count = cut.0;
                  output = writes.output ∙ ap (λ (l : List ℕ). l ++ take cut.0 (opening_at old name)) here.begun.begins.works.output;
                  whole = omega arith;
                });
                safe = λ free. opening_cut (is_foreign (names_of_file name)) (names_of_file name) quit_line (document_at old name) (opening_at old name) old now here.begun new (take cut.0 (opening_at old name)) (opening_some name (opened_file old name).found)
                    (wrote_one now new cut.0 (opening_at old name) writes) (first_part cut.0 (opening_at old name));
                left = (session, at.keeps.names, subst (λ (d : Disk). Fits session d (opened_file old name).state (opened (document_at old name))) (sym writes.folder) here.fits);
                last = rose_at output_count old now new WroteOutput [] writes.added rose here.counted;
                calls = calls_opened (opened_file old name) old now new here.clean (near_end now new writes.added writes.folder writes.faults) here.begun.begins.works.moments.added here.begun.begins.works.moments.is
                    (shorter_by (names_of_file name) None _ old now here.begun.begins.works (length old.output + length (opening_at old name)) (let some = opening_some name (opened_file old name).found in omega (arith, some)));
              };
          swap = λ told is. absurd (cc);
          barred = λ told has. absurd (at.keeps.free told has);
          file = at.keeps.file;
          taken = λ told. omega (arith, ap (λ (l : List ℕ). length l) at.script, ap (λ (s : Scene). length s.script) frame);
          counts = (
            subst (λ (k : ℕ). HasRisen k new.out_faults) before.output rose,
            record { script = only.script ∙ before.script; output = refl; later = omega (arith, only.later, before.later) },
          );
          causes = no_causes (counts_of old) (counts_of new) marks none;
          times = λ told. no_times old new marks none (ap (λ (s : Scene). s.answers) frame ∙ at.answers);
        }

    -- it was written, and no command was read yet
    pub first_turn : (fresh : Ahead) → fresh ≡ fresh_reader → (IsTrue tells.output → new.output ≡ now.output ++ reply.bytes) → new.out_faults ≡ now.out_faults → IsTurn tells name old new session fresh fresh marks true
    first_turn fresh fresh_is wrote quiet =
        let only = only_output now new frame in
        let before = at.keeps.counts in
        record {
          told = λ told.
              let here = at.told told in
              let writes = writes_of told (length (opening_at old name)) (wrote told.output ∙ ap (λ (l : List ℕ). now.output ++ l) (sym (take_all (length (opening_at old name)) reply.bytes (omega (arith, ap (λ (l : List ℕ). length l) (bytes_are told)))))) in
              let some = opening_some name (opened_file old name).found in (
                [],
                record {
                  kept = kept_none name old marks none;
                  errors = refl;
                  fits = subst (λ (d : Disk). Fits session d (opened_file old name).state (opened (document_at old name))) (sym writes.folder) here.fits;
                  waits = waits_first (is_foreign (names_of_file name)) (names_of_file name) old (document_at old name) (opening_at old name) now new here.begun (replied_one (opening_at old name) now new some writes);
                  counted = all_counted old now new (recorded (opening_at old name) now new some writes) here.begun.begins.works.moments.added here.begun.begins.works.moments.is;
                  calls = calls_first (opened_file old name) old now new here.clean (recorded (opening_at old name) now new some writes) writes.folder writes.faults
                      (whole_opening told new writes) here.begun.begins.works.moments.added here.begun.begins.works.moments.is
                      (shorter_by (names_of_file name) None _ old now here.begun.begins.works (length old.output + length (opening_at old name))
                      (let some = opening_some name (opened_file old name).found in omega (arith, some)));
                },
                read_start fresh old new fresh_is (ap (λ (s : Scene). s.script) frame ∙ at.script),
              );
          keeps = record {
            free = at.keeps.free;
            file = at.keeps.file;
            names = at.keeps.names;
            counts = record { script = only.script ∙ before.script; output = quiet ∙ before.output; later = omega (arith, only.later, before.later) };
            causes = no_causes (counts_of old) (counts_of new) marks none;
          };
          counts = λ told. omega (arith, ap (λ (l : List ℕ). length l) (ap (λ (s : Scene). s.script) frame ∙ at.script));
          times = λ told. ap (λ (s : Scene). s.answers) frame ∙ at.answers ∙ sym (append-nil old.answers) ∙ ap (λ (l : List Mark). old.answers ++ map (λ mark. mark.at) l) (sym none);
        }

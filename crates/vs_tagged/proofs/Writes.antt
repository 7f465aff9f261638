-- Writes of the output, one after the other: what they put together is what each of them put.
use Rattle.std.proofs.Common.{◌≡◌, inl, inr, ℕ, ◌≤◌, ◌+◌, List, [], ◌++◌, length, take, refl, sym, ◌∙◌, ap, subst, arith, append_assoc, IsTrue, Result, Ok, Err, true, false}
use Rattle.std.specs.Prelude.{OnOk, OnErr, IsErr, IsErrAnd}
use Rattle.std.proofs.lemmas.List.{take_all}
use Rattle.vs_faults.specs.Faults.{HasCause, HasRisen}
use Rattle.vs_host.specs.Trace.{WroteOutput}
use Rattle.vs_host.specs.World.{Tells, Scene, ChangesOutput, IsTold}
use Rattle.vs_disk.specs.Runs.{FailsLast, Quiet}
use Rattle.vs_disk.proofs.Quiet.{last_then, quiet_then}
use Rattle.vs_disk.proofs.Runs.{fails_call, fails_none, quiet_call, quiet_none}
use Rattle.vs_safety.specs.Safety.{IsAdded, Writes, Wrote}
use Rattle.vs_safety.proofs.Moments.{part_same, part_then}
use Rattle.vs_safety.proofs.Replies.{first_part, wrote_none, wrote_one, wrote_then}
use Rattle.vs_tagged.specs.Tagged.{WritesTagged}

-- nothing was written
pub puts_none : (tells : Tells) (Failed : Type 0) (now : Scene) → ¬ Failed → WritesTagged tells [] Failed now now
puts_none tells Failed now not = record {
  wrote = λ folder output fails. wrote_none now;
  part = λ folder output. ([], ([], refl), wrote_none now);
  cause = record { later = omega arith; risen = λ failed. absurd (not failed) };
  quiet = λ calm. refl;
  none = λ folder fails. quiet_none now;
  last = λ folder. fails_none now;
  frame = refl;
}

-- a call's snapshot is there, or it changed nothing
pub added_of : {T E : Type 0} (result : Result T E) (old new : Scene) → IsTold WroteOutput [] result old new → IsAdded WroteOutput [] old new
added_of result old new (inl told) = inl told
added_of result old new (inr left) = inr left.1

-- one write
module _ (tells : Tells) (piece : List ℕ) (old new : Scene) (frame : ChangesOutput old new) where
  writes_of : (n : ℕ) → new.output ≡ old.output ++ take n piece → IsAdded WroteOutput [] old new → Writes n piece old new
  writes_of n output added = record { output = output; folder = ap (λ (s : Scene). s.folder) frame; faults = ap (λ (s : Scene). s.folder_faults) frame; added = added }

  wrote_whole : new.output ≡ old.output ++ piece → IsAdded WroteOutput [] old new → Wrote piece old new
  wrote_whole output added =
      let all : take (length piece) piece ≡ piece = take_all (length piece) piece (omega arith) in
      subst (λ (l : List ℕ). Wrote l old new) all
      (wrote_one old new (length piece) piece (writes_of (length piece) (output ∙ ap (λ (l : List ℕ). old.output ++ l) (sym all)) added))

  one_quiet : {E : Type 0} (result : Result (Unit {0}) E) → IsTold WroteOutput [] result old new → new.out_faults ≡ old.out_faults → Quiet old new
  one_quiet result told out =
      quiet_call WroteOutput [] result old old new (quiet_none old) told (ap (λ (s : Scene). s.script_faults) frame) out (ap (λ (s : Scene). s.folder_faults) frame)

  one_by : {E : Type 0} (result : Result (Unit {0}) E) → OnOk result (IsTrue tells.output → new.output ≡ old.output ++ piece)
      → OnErr result (IsTrue tells.output → (n : ℕ) × (new.output ≡ old.output ++ take n piece)) → HasCause old.out_faults new.out_faults (IsErr result)
      → OnOk result (new.out_faults ≡ old.out_faults) → (IsTrue tells.folder → IsAdded WroteOutput [] old new)
      → (IsTrue tells.folder → FailsLast old new) → (IsTrue tells.folder → new.out_faults ≡ old.out_faults → Quiet old new)
      → WritesTagged tells piece (IsErr result) old new
  one_by (Ok done) ok err cause quiet added last none = record {
    wrote = λ folder output fails. wrote_whole (ok output) (added folder);
    part = λ folder output. (piece, part_same piece, wrote_whole (ok output) (added folder));
    cause = cause;
    quiet = λ calm. quiet;
    none = λ folder fails. none folder quiet;
    last = last;
    frame = frame;
  }
  one_by (Err error) ok err cause quiet added last none = record {
    wrote = λ folder output fails. absurd (fails refl);
    part = λ folder output.
        let cut = err output in
        (take cut.0 piece, first_part cut.0 piece, wrote_one old new cut.0 piece (writes_of cut.0 cut.1 (added folder)));
    cause = cause;
    quiet = λ calm. absurd (calm refl);
    none = λ folder fails. absurd (fails refl);
    last = last;
    frame = frame;
  }

  pub puts_one : {E : Type 0} (result : Result (Unit {0}) E) → OnOk result (IsTrue tells.output → new.output ≡ old.output ++ piece)
      → OnErr result (IsTrue tells.output → (n : ℕ) × (new.output ≡ old.output ++ take n piece)) → HasCause old.out_faults new.out_faults (IsErr result)
      → OnOk result (new.out_faults ≡ old.out_faults) → (IsTrue tells.folder → IsTold WroteOutput [] result old new)
      → WritesTagged tells piece (IsErr result) old new
  puts_one result ok err cause quiet told =
      one_by result ok err cause quiet (λ folder. added_of result old new (told folder)) (λ folder. fails_call WroteOutput [] result old new (told folder))
      (λ folder out. one_quiet result (told folder) out)

-- a risen count stays risen
rises_on : (a b c : ℕ) → a ≤ b → HasRisen b c → HasRisen a c
rises_on a b c le (inl more) = inl (omega (arith, le, more))
rises_on a b c le (inr most) = inr most

-- The second after the first, which did not fail.
module _ (tells : Tells) (first second : List ℕ) (F G : Type 0) (old mid new : Scene) (calm : ¬ F) (one : WritesTagged tells first F old mid)
    (two : WritesTagged tells second G mid new) where
  pub puts_then : WritesTagged tells (first ++ second) G old new
  puts_then = record {
    wrote = λ folder output fails. wrote_then first second old mid new (one.wrote folder output calm) (two.wrote folder output fails);
    part = λ folder output.
        let more = two.part folder output in (
          first ++ more.0,
          (more.1.0, ap (λ (l : List ℕ). first ++ l) more.1.1 ∙ sym (append_assoc first more.0 more.1.0)),
          wrote_then first more.0 old mid new (one.wrote folder output calm) more.2,
        );
    cause = record {
      later = omega (arith, one.cause.later, two.cause.later);
      risen = λ failed. rises_on old.out_faults mid.out_faults new.out_faults one.cause.later (two.cause.risen failed);
    };
    quiet = λ fails. two.quiet fails ∙ one.quiet calm;
    none = λ folder fails. quiet_then old mid new (one.none folder calm) (two.none folder fails);
    last = λ folder. last_then old mid new (one.none folder calm) (two.last folder);
    frame = two.frame ∙ ap (λ (s : Scene). record s { output = new.output; out_faults = new.out_faults; trace = new.trace }) one.frame;
  }

-- The first failed, and the second was not begun.
pub puts_cut : (tells : Tells) (first second : List ℕ) (F G : Type 0) (old new : Scene) → F → G → WritesTagged tells first F old new
    → WritesTagged tells (first ++ second) G old new
puts_cut tells first second F G old new failed fails one = record {
  wrote = λ folder output calm. absurd (calm fails);
  part = λ folder output.
      let cut = one.part folder output in
      (cut.0, part_then cut.0 first (first ++ second) cut.1 (second, refl), cut.2);
  cause = record { later = one.cause.later; risen = λ is. one.cause.risen failed };
  quiet = λ calm. absurd (calm fails);
  none = λ folder calm. absurd (calm fails);
  last = one.last;
  frame = one.frame;
}

-- the same of other bytes that are these
pub puts_as : (tells : Tells) (bytes same : List ℕ) (F G : Type 0) (old new : Scene) → bytes ≡ same → (F → G) → (G → F) → WritesTagged tells bytes F old new
    → WritesTagged tells same G old new
puts_as tells bytes same F G old new is to from puts =
    subst (λ (l : List ℕ). WritesTagged tells l G old new) is (record {
      wrote = λ folder output calm. puts.wrote folder output (λ f. calm (to f));
      part = puts.part;
      cause = record { later = puts.cause.later; risen = λ g. puts.cause.risen (from g) };
      quiet = λ calm. puts.quiet (λ f. calm (to f));
      none = λ folder calm. puts.none folder (λ f. calm (to f));
      last = puts.last;
      frame = puts.frame;
    })

-- a result that was handed on is an error
pub is_err_on : {T E : Type 0} (r : Result T E) (e : E) → IsErrAnd r (λ x. x ≡ e) → IsErr r
is_err_on (Ok x) e is = absurd is
is_err_on (Err x) e is = refl

-- a result that is an error, and one that is none
pub failed_by : {T E : Type 0} (r : Result T E) (e : E) → r ≡ Err e → IsErr r
failed_by (Ok x) e is = absurd (cc)
failed_by (Err x) e is = refl

pub calm_by : {T E : Type 0} (r : Result T E) (x : T) → r ≡ Ok x → ¬ IsErr r
calm_by (Ok y) x is err = absurd (cc)
calm_by (Err e) x is err = absurd (cc)

-- writes of which none failed, at their end
not_failed : false ≡ true → ⊥
not_failed is = absurd (cc)

pub puts_done : (tells : Tells) (bytes same : List ℕ) (old new : Scene) → bytes ≡ same → WritesTagged tells bytes ⊥ old new → WritesTagged tells same (false ≡ true) old new
puts_done tells bytes same old new is puts = puts_as tells bytes same ⊥ (false ≡ true) old new is (λ f. absurd f) not_failed puts

-- Reads that succeeded go on by one read more, or by a read that failed.
use Rattle.std.proofs.Common.{◌≡◌, ◌+◌, ◌≤◌, inl, inr, List, [], ◌∷◌, ◌++◌, length, refl, sym, ap, ◌∙◌, append_assoc, arith, Result, Ok, Err, IsErr, IsErrAnd, IsTrue, OnOk}
use Rattle.std.specs.Prelude.{IsErrOf}
use Rattle.std.proofs.lemmas.Result.{on_ok_weaker}
use Rattle.vs_faults.specs.Faults.{HasCause}
use Rattle.vs_faults.proofs.Causes.{HasCause-then, HasCause-weaker}
use Rattle.vs_host.specs.Trace.{ReadScript, Snapshot}
use Rattle.vs_host.specs.World.{Tells, Scene, snapshot_of, IsTold, ChangesScript}
use Rattle.vs_host.specs.declared.traits.Failed.{Failed}
use Rattle.vs_disk.proofs.Runs.{Each-append, Each-weaker, goes_none}
use Rattle.vs_script.specs.Ahead.{Ahead, ReadsNoMore, reads_made}
use Rattle.vs_script.specs.Reads.{IsAsBefore, IsRead, ReadsAll, ReadsOn, ReadsScript}
use Rattle.vs_script.specs.declared.reader.ScriptErr.{ScriptErr}
use Rattle.vs_script.specs.declared.reader.ScriptErr.TheVariants as error

all_none : (old : Scene) → ReadsAll old old
all_none old = goes_none (IsAsBefore old) old.trace

as_first : (old mid : Scene) → ChangesScript old mid → mid.script_faults ≡ old.script_faults → (m : Snapshot) → IsAsBefore mid m → IsAsBefore old m
as_first old mid frame same m is = record {
  folder = is.folder ∙ ap (λ (s : Scene). s.folder) frame;
  output = is.output ∙ ap (λ (s : Scene). s.output) frame;
  script_faults = is.script_faults ∙ same;
  out_faults = is.out_faults ∙ ap (λ (s : Scene). s.out_faults) frame;
  folder_faults = is.folder_faults ∙ ap (λ (s : Scene). s.folder_faults) frame;
}

read_first : (old mid : Scene) → ChangesScript old mid → (m : Snapshot) → IsRead mid m → IsRead old m
read_first old mid frame m is = (is.0 ∙ ap (λ (s : Scene). s.folder) frame, is.1 ∙ ap (λ (s : Scene). s.output) frame)

all_then : (old mid new : Scene) → ChangesScript old mid → mid.script_faults ≡ old.script_faults → ReadsAll old mid → ReadsAll mid new → ReadsAll old new
all_then old mid new frame same first second = record {
  added = second.added ++ first.added;
  is = second.is ∙ ap (λ (ms : List Snapshot). second.added ++ ms) first.is ∙ sym (append_assoc second.added first.added old.trace);
  each = Each-append (IsAsBefore old) second.added first.added (Each-weaker (IsAsBefore mid) (IsAsBefore old) (as_first old mid frame same) second.added second.each) first.each;
}

last_none : (old new : Scene) → ReadsAll old new → ReadsOn old new
last_none old new all = record { last = []; earlier = all.added; one = omega arith; is = all.is; earlier_are = all.each; last_is = tt }

last_then : (old mid new : Scene) → ChangesScript old mid → mid.script_faults ≡ old.script_faults → ReadsAll old mid → ReadsOn mid new → ReadsOn old new
last_then old mid new frame same first second = record {
  last = second.last;
  earlier = second.earlier ++ first.added;
  one = second.one;
  is = second.is ∙ ap (λ (ms : List Snapshot). second.last ++ ms) (ap (λ (ms : List Snapshot). second.earlier ++ ms) first.is ∙ sym (append_assoc second.earlier first.added old.trace));
  earlier_are = Each-append (IsAsBefore old) second.earlier first.added (Each-weaker (IsAsBefore mid) (IsAsBefore old) (as_first old mid frame same) second.earlier second.earlier_are) first.each;
  last_is = Each-weaker (IsRead mid) (IsRead old) (read_first old mid frame) second.last second.last_is;
}

-- one call
one_read : {T E : Type 0} (result : Result T E) (old new : Scene) → ChangesScript old new → new.script_faults ≡ old.script_faults → (IsErr result → ⊥) → IsTold ReadScript [] result old new
    → ReadsAll old new
one_read result old new frame same ok (inr missed) = absurd (ok missed.0)
one_read result old new frame same ok (inl told) = record {
  added = snapshot_of new ReadScript [] ∷ [];
  is = told;
  each = (
    record {
      folder = ap (λ (s : Scene). s.folder) frame;
      output = ap (λ (s : Scene). s.output) frame;
      script_faults = same;
      out_faults = ap (λ (s : Scene). s.out_faults) frame;
      folder_faults = ap (λ (s : Scene). s.folder_faults) frame;
    },
    tt,
  );
}

any_read : {T E : Type 0} (result : Result T E) (old new : Scene) → ChangesScript old new → IsTold ReadScript [] result old new → ReadsOn old new
any_read result old new frame (inr missed) = record { last = []; earlier = []; one = omega arith; is = missed.1.trace; earlier_are = tt; last_is = tt }
any_read result old new frame (inl told) = record {
  last = snapshot_of new ReadScript [] ∷ [];
  earlier = [];
  one = omega arith;
  is = told;
  earlier_are = tt;
  last_is = ((ap (λ (s : Scene). s.folder) frame, ap (λ (s : Scene). s.output) frame), tt);
}

-- ---- what a call says of its reads

always : {T E P : Type 0} (result : Result T E) → P → OnOk result P
always (Ok x) holds = holds
always (Err e) holds = tt

-- none failed
reads_quiet : {T : Type 0} {result : Result T ScriptErr} {tells : Tells} {old new : Scene} → (IsErrOf result error.Failed → ⊥) → ChangesScript old new → new.script_faults ≡ old.script_faults
    → (IsTrue tells.folder → ReadsAll old new) → ReadsScript tells result old new
reads_quiet {result} {old} {new} other frame same all = record {
  frame = frame;
  cause = record { later = omega (arith, same); risen = λ failed. absurd (other failed) };
  quiet = λ not. same;
  all = always result all;
  last = λ told. last_none old new (all told);
}

pub reads_nothing : {T : Type 0} {x : T} {tells : Tells} {scene : Scene} → ReadsScript tells {T = T} (Ok x) scene scene
reads_nothing {scene} = reads_quiet (λ is. cc) refl refl (λ told. all_none scene)

pub reads_ok : {T U : Type 0} {x : T} {y : U} {tells : Tells} {old new : Scene} → ReadsScript tells {T = T} (Ok x) old new → ReadsScript tells {T = U} (Ok y) old new
reads_ok reads = reads_quiet (λ is. cc) reads.frame (reads.quiet (λ is. cc)) reads.all

-- one read that succeeded
pub reads_one : {T N : Type 0} {result : Result T ScriptErr} {tells : Tells} {old new : Scene} (n : N) → (IsErrOf result error.Failed → ⊥) → ChangesScript old new
    → new.script_faults ≡ old.script_faults → (IsTrue tells.folder → IsTold {T = N} {E = Failed} ReadScript [] (Ok n) old new) → ReadsScript tells result old new
reads_one {old} {new} n other frame same told = reads_quiet other frame same (λ tells_it. one_read {E = Failed} (Ok n) old new frame same (λ err. absurd (cc)) (told tells_it))

-- one that failed
pub reads_failed : {T N : Type 0} {read : Result N Failed} {why : Failed} {tells : Tells} {old new : Scene} (result : Result T ScriptErr) → read ≡ Err why → IsErrAnd result (λ e. e ≡ error.Failed)
    → ChangesScript old new → HasCause old.script_faults new.script_faults (IsErr read) → (IsTrue tells.folder → IsTold ReadScript [] read old new) → ReadsScript tells result old new
reads_failed (Ok x) was is frame cause told = absurd is
reads_failed {read} {old} {new} (Err e) was is frame cause told = record {
  frame = frame;
  cause = HasCause-weaker cause (λ failed. rw was refl);
  quiet = λ not. absurd (not (ap (λ w. Err w) is));
  all = tt;
  last = λ tells_it. any_read read old new frame (told tells_it);
}

-- after reads of which none failed
pub reads_then : {T U : Type 0} {x : T} {result : Result U ScriptErr} {tells : Tells} {old mid new : Scene} → ReadsScript tells {T = T} (Ok x) old mid → ReadsScript tells result mid new
    → ReadsScript tells result old new
reads_then {result} {old} {mid} {new} first second =
    let same = first.quiet (λ is. cc) in
    record {
      frame = second.frame ∙ ap (λ (s : Scene). record s { script = new.script; script_faults = new.script_faults; trace = new.trace }) first.frame;
      cause = HasCause-then first.cause second.cause;
      quiet = λ not. second.quiet not ∙ same;
      all = on_ok_weaker result (λ all told. all_then old mid new first.frame same (first.all told) (all told)) second.all;
      last = λ told. last_then old mid new first.frame same (first.all told) (second.last told);
    }

-- an error is handed on
pub reads_passed : {T U : Type 0} {found : Result T ScriptErr} {why : ScriptErr} {tells : Tells} {old new : Scene} (result : Result U ScriptErr) → found ≡ Err why → IsErrAnd result (λ e. e ≡ why)
    → ReadsScript tells found old new → ReadsScript tells result old new
reads_passed (Ok x) was is reads = absurd is
reads_passed (Err e) was is reads = record {
  frame = reads.frame;
  cause = HasCause-weaker reads.cause (λ failed. cc);
  quiet = λ not. reads.quiet (λ failed. not (cc));
  all = tt;
  last = reads.last;
}

-- ---- how many reads were made

trace_after : {T E : Type 0} (read : Result T E) (before after : Scene) → IsTold ReadScript [] read before after → length after.trace ≤ length before.trace + 1
trace_after read before after (inl told) = let is = ap (λ (ms : List Snapshot). length ms) told in omega (arith, is)
trace_after read before after (inr missed) = let is = ap (λ (ms : List Snapshot). length ms) missed.1.trace in omega (arith, is)

pub no_more_none : {T : Type 0} {x : T} {tells : Tells} {old new : Ahead} {scene : Scene} → reads_made new ≡ reads_made old → ReadsNoMore tells {T = T} (Ok x) old new scene scene
no_more_none same = record { done = λ told. omega (arith, same); stopped = tt }

pub no_more_ok : {T U : Type 0} {x : T} {y : U} {tells : Tells} {old new : Ahead} {before after : Scene} → ReadsNoMore tells {T = T} (Ok x) old new before after
    → ReadsNoMore tells {T = U} (Ok y) old new before after
no_more_ok few = record { done = few.done; stopped = tt }

-- one read that took a byte or saw the end
pub no_more_one : {T N : Type 0} {x : T} {tells : Tells} {old new : Ahead} {before after : Scene} (n : N) → (IsTrue tells.folder → IsTold {T = N} {E = Failed} ReadScript [] (Ok n) before after)
    → reads_made old + 1 ≤ reads_made new → ReadsNoMore tells {T = T} (Ok x) old new before after
no_more_one {before} {after} n is_told more = record { done = λ told. let one = trace_after {E = Failed} (Ok n) before after (is_told told) in omega (arith, one, more); stopped = tt }

-- one with which the reader stopped
pub no_more_stopped : {T N E : Type 0} {old new : Ahead} (tells : Tells) (before after : Scene) (why : ScriptErr) (read : Result N E) (result : Result T ScriptErr) → IsErrAnd result (λ e. e ≡ why)
    → (IsTrue tells.folder → IsTold ReadScript [] read before after) → reads_made new ≡ reads_made old → ReadsNoMore tells result old new before after
no_more_stopped tells before after why read (Ok x) is is_told same = absurd is
no_more_stopped tells before after why read (Err e) is is_told same = record { done = tt; stopped = λ told. let one = trace_after read before after (is_told told) in omega (arith, one, same) }

-- after reads of which none failed
pub no_more_then : {T U : Type 0} {x : T} {tells : Tells} {old mid from new : Ahead} {before between after : Scene} (result : Result U ScriptErr) → reads_made from ≡ reads_made mid
    → ReadsNoMore tells {T = T} (Ok x) old mid before between → ReadsNoMore tells result from new between after → ReadsNoMore tells result old new before after
no_more_then (Ok y) same first second = record { done = λ told. let one = first.done told in let two = second.done told in omega (arith, one, two, same); stopped = tt }
no_more_then (Err e) same first second = record { done = tt; stopped = λ told. let one = first.done told in let two = second.stopped told in omega (arith, one, two, same) }

-- an error is handed on
pub no_more_passed : {T U : Type 0} {found : Result T ScriptErr} {why : ScriptErr} {tells : Tells} {old new : Ahead} {before after : Scene} (result : Result U ScriptErr) → found ≡ Err why
    → IsErrAnd result (λ e. e ≡ why) → ReadsNoMore tells found old new before after → ReadsNoMore tells result old new before after
no_more_passed (Ok x) was is few = absurd is
no_more_passed {found} (Err e) was is few = record { done = tt; stopped = rw was at few.stopped }

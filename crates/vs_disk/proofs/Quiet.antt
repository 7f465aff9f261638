-- How work goes on in which no call failed, and how many calls it makes: the trace is cut where the first part ended.
use Rattle.std.proofs.Common.{◌≡◌, inl, inr, ℕ, ◌+◌, ◌≤◌, List, ◌++◌, length, Result, IsTrue, refl, sym, ◌∙◌, ap, append_assoc, arith}
use Rattle.vs_host.specs.Disk.{Name}
use Rattle.vs_host.specs.Trace.{Kind, Snapshot}
use Rattle.vs_host.specs.World.{Tells, Scene, IsTold, ChangesFolder}
use Rattle.vs_disk.specs.Runs.{CallsAtMost, FailsLast, HasNoFault, NoneFails, Quiet}
use Rattle.vs_disk.proofs.Runs.{Each-append, Each-weaker, goes_then, goes_weaker, quiet_call, quiet_none}

-- ---- no call failed

pub none_fails : (tells : Tells) (scene : Scene) → NoneFails tells scene scene
none_fails tells scene = record { faults = refl; quiet = λ told. quiet_none scene }

no_fault_as : (start old : Scene) → Quiet start old → (m : Snapshot) → HasNoFault old m → HasNoFault start m
no_fault_as start old quiet m none = record { script = none.script ∙ quiet.script; out = none.out ∙ quiet.out; folder = none.folder ∙ quiet.folder }

pub quiet_then : (old mid new : Scene) → Quiet old mid → Quiet mid new → Quiet old new
quiet_then old mid new first second = record {
  moments = goes_then (HasNoFault old) old.trace mid.trace new.trace first.moments (goes_weaker (HasNoFault mid) (HasNoFault old) (no_fault_as old mid first) mid.trace new.trace second.moments);
  script = second.script ∙ first.script;
  out = second.out ∙ first.out;
  folder = second.folder ∙ first.folder;
}

pub none_then : (tells : Tells) (old mid new : Scene) → NoneFails tells old mid → NoneFails tells mid new → NoneFails tells old new
none_then tells old mid new first second = record {
  faults = second.faults ∙ first.faults;
  quiet = λ told. quiet_then old mid new (first.quiet told) (second.quiet told);
}

-- a call that left the count of the folder's faults
pub none_call : (tells : Tells) (kind : Kind) (names : List Name) {T E : Type 0} (result : Result T E) (old new : Scene) → ChangesFolder old new → (IsTrue tells.folder → IsTold kind names result old new)
    → new.folder_faults ≡ old.folder_faults → NoneFails tells old new
none_call tells kind names result old new frame told same = record {
  faults = same;
  quiet = λ tells_it. quiet_call kind names result old old new (quiet_none old) (told tells_it) (ap (λ (s : Scene). s.script_faults) frame) (ap (λ (s : Scene). s.out_faults) frame) same;
}

-- ---- no call but the last one failed

pub last_then : (old mid new : Scene) → Quiet old mid → FailsLast mid new → FailsLast old new
last_then old mid new quiet fails = record {
  last = fails.last;
  earlier = fails.earlier ++ quiet.moments.added;
  one = fails.one;
  is = fails.is ∙ ap (λ (ms : List Snapshot). fails.last ++ ms) (ap (λ (ms : List Snapshot). fails.earlier ++ ms) quiet.moments.is ∙ sym (append_assoc fails.earlier quiet.moments.added old.trace));
  quiet = Each-append (HasNoFault old) fails.earlier quiet.moments.added (Each-weaker (HasNoFault mid) (HasNoFault old) (no_fault_as old mid quiet) fails.earlier fails.quiet) quiet.moments.each;
}

-- ---- how many calls

pub calls_none : (tells : Tells) (scene : Scene) (most : ℕ) → CallsAtMost tells scene scene most
calls_none tells scene most = record { calls = λ told. omega arith }

longer : {T E : Type 0} (kind : Kind) (names : List Name) (result : Result T E) (old new : Scene) → IsTold kind names result old new → length new.trace ≤ length old.trace + 1
longer kind names result old new (inl told) = omega (arith, ap length told)
longer kind names result old new (inr left) = omega (arith, ap length left.1.trace)

pub calls_one : (tells : Tells) (kind : Kind) (names : List Name) {T E : Type 0} (result : Result T E) (old new : Scene) → (IsTrue tells.folder → IsTold kind names result old new) → CallsAtMost tells old new 1
calls_one tells kind names result old new is = record { calls = λ told. longer kind names result old new (is told) }

-- more calls after others
pub calls_then : (tells : Tells) (old mid new : Scene) (a b most : ℕ) → a + b ≤ most → CallsAtMost tells old mid a → CallsAtMost tells mid new b → CallsAtMost tells old new most
calls_then tells old mid new a b most le first second = record { calls = λ told. omega (arith, first.calls told, second.calls told, le) }

pub calls_within : (tells : Tells) (old new : Scene) (a most : ℕ) → a ≤ most → CallsAtMost tells old new a → CallsAtMost tells old new most
calls_within tells old new a most le within = record { calls = λ told. omega (arith, within.calls told, le) }

-- Whether calls failed that only looked is told by the counts of faults: by those at the start and now, and by that before the last call.
use Rattle.std.proofs.Common.{◌≡◌, ◌≤◌, inl, inr, ℕ, List, [], ◌∷◌, ◌++◌, Result, IsTrue, ◌∙◌, ap, arith, if◌then◌else◌}
use Rattle.std.proofs.lemmas.Bool.{cases_Bool}
use Rattle.std.proofs.Math.Nat.{le-max_left, le-max_right}
use Rattle.vs_host.specs.Disk.{Name}
use Rattle.vs_host.specs.Trace.{Kind, Snapshot, Each, most_faults}
use Rattle.vs_host.specs.World.{Tells, Scene, IsTold, ReadsFolder}
use Rattle.vs_disk.specs.Faults.{HasCounts, NeverFalls, earlier_faults, faults_before}
use Rattle.vs_disk.specs.Runs.{FailsLast, HasNoFault, Quiet}
use Rattle.vs_disk.proofs.Runs.{goes_none, goes_then, goes_weaker}

pub never_none : (scene : Scene) → NeverFalls scene scene
never_none scene = record { later = omega arith; moments = goes_none (HasCounts scene scene) scene.trace }

pub never_then : (old mid new : Scene) → ReadsFolder old mid → NeverFalls old mid → NeverFalls mid new → NeverFalls old new
never_then old mid new frame first second = record {
  later = omega (arith, first.later, second.later);
  moments = goes_then (HasCounts old new) old.trace mid.trace new.trace
      (goes_weaker (HasCounts old mid) (HasCounts old new) (λ m has. record { script = has.script; out = has.out; least = has.least; most = omega (arith, has.most, second.later) }) old.trace mid.trace first.moments)
      (goes_weaker (HasCounts mid new) (HasCounts old new)
      (λ m has. record {
        script = has.script ∙ ap (λ (s : Scene). s.script_faults) frame;
        out = has.out ∙ ap (λ (s : Scene). s.out_faults) frame;
        least = omega (arith, has.least, first.later);
        most = has.most;
      }) mid.trace new.trace second.moments);
}

-- a count that is as before says that no call failed
pub quiet_counted : (old new : Scene) → ReadsFolder old new → NeverFalls old new → new.folder_faults ≡ old.folder_faults → Quiet old new
quiet_counted old new frame never same = record {
  moments = goes_weaker (HasCounts old new) (HasNoFault old) (λ m has. record { script = has.script; out = has.out; folder = omega (arith, has.least, has.most, same) }) old.trace new.trace never.moments;
  script = ap (λ (s : Scene). s.script_faults) frame;
  out = ap (λ (s : Scene). s.out_faults) frame;
  folder = same;
}

each_most : (ms rest : List Snapshot) (n : ℕ) → most_faults (ms ++ rest) ≤ n → Each (λ m. m.folder_faults ≤ n) ms
each_most [] rest n le = tt
each_most (m ∷ ms) rest n le =
    (omega (arith, le, le-max_left m.folder_faults (most_faults (ms ++ rest))), each_most ms rest n (omega (arith, le, le-max_right m.folder_faults (most_faults (ms ++ rest)))))

none_above : (old new : Scene) (ms : List Snapshot) → Each (HasCounts old new) ms → Each (λ m. m.folder_faults ≤ old.folder_faults) ms → Each (HasNoFault old) ms
none_above old new [] has most = tt
none_above old new (m ∷ ms) has most =
    (record { script = has.0.script; out = has.0.out; folder = omega (arith, has.0.least, most.0) }, none_above old new ms has.1 most.1)

-- a count before the last call that is not above the one at the start says that no call failed but the last one
pub last_counted : (old new : Scene) → NeverFalls old new → faults_before new.trace ≤ old.folder_faults → FailsLast old new
last_counted old new never before = from never.moments.added never.moments.is never.moments.each
  where
    from : (added : List Snapshot) → new.trace ≡ added ++ old.trace → Each (HasCounts old new) added → FailsLast old new
    from [] is each = record { last = []; earlier = []; one = omega arith; is = is; quiet = tt }
    from (m ∷ ms) is each = record {
      last = m ∷ [];
      earlier = ms;
      one = omega arith;
      is = is;
      quiet = none_above old new ms each.1 (each_most ms old.trace old.folder_faults (omega (arith, before, ap faults_before is)));
    }

-- where the trace is told
pub earlier_told : (tells : Tells) (scene : Scene) → IsTrue tells.folder → earlier_faults tells scene ≡ faults_before scene.trace
earlier_told tells scene told = ap (λ b. if b then faults_before scene.trace else 0) told

before_most : (trace : List Snapshot) → faults_before trace ≤ most_faults trace
before_most [] = omega arith
before_most (m ∷ ms) = le-max_right m.folder_faults (most_faults ms)

-- Where no snapshot has a count above that before a call, the count before its snapshot is not above that.
pub earlier_once : {T E : Type 0} (tells : Tells) (kind : Kind) (names : List Name) (result : Result T E) (old new : Scene)
    → (IsTrue tells.folder → most_faults old.trace ≤ old.folder_faults) → (IsTrue tells.folder → IsTold kind names result old new)
    → earlier_faults tells new ≤ old.folder_faults
earlier_once tells kind names result old new counted told = elim (cases_Bool tells.folder) [
  | inl is_told ↦ elim (told is_told) [
    | inl recorded ↦ omega (arith, counted is_told, earlier_told tells new is_told, ap faults_before recorded)
    | inr left ↦ omega (arith, counted is_told, earlier_told tells new is_told, ap faults_before left.1.trace, before_most old.trace)
  ]
  | inr untold ↦ omega (arith, ap (λ b. if b then faults_before new.trace else 0) untold)
]

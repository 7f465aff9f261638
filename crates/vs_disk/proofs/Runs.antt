-- How `Runs` goes on by one call or one run more: the trace is cut where the first part ended.
use Rattle.std.proofs.Common.{◌≡◌, inl, inr, List, [], ◌∷◌, ◌++◌, length, refl, sym, ◌∙◌, ap, append_assoc, arith}
use Rattle.std.specs.declared.result.Result.{Result}
use Rattle.vs_host.specs.Disk.{Disk, Name}
use Rattle.vs_host.specs.Trace.{Kind, Snapshot, Each, GoesOn}
use Rattle.vs_host.specs.World.{Scene, snapshot_of, IsTold, ChangesFolder, ReadsFolder}
use Rattle.vs_disk.specs.Runs.{Inside, Runs, Looks, HasNoFault, FailsLast, Quiet}

pub Each-append : (P : Snapshot → Type 0) (ms ns : List Snapshot) → Each P ms → Each P ns → Each P (ms ++ ns)
Each-append P [] ns first second = second
Each-append P (m ∷ ms) ns first second = (first.0, Each-append P ms ns first.1 second)

pub Each-weaker : (P Q : Snapshot → Type 0) → ((m : Snapshot) → P m → Q m) → (ms : List Snapshot) → Each P ms → Each Q ms
Each-weaker P Q leads [] all = tt
Each-weaker P Q leads (m ∷ ms) all = (leads m all.0, Each-weaker P Q leads ms all.1)

pub goes_none : (P : Snapshot → Type 0) (old : List Snapshot) → GoesOn P old old
goes_none P old = record { added = []; is = refl; each = tt }

pub goes_then : (P : Snapshot → Type 0) (old mid new : List Snapshot) → GoesOn P old mid → GoesOn P mid new → GoesOn P old new
goes_then P old mid new first second = record {
  added = second.added ++ first.added;
  is = second.is ∙ ap (λ (ms : List Snapshot). second.added ++ ms) first.is ∙ sym (append_assoc second.added first.added old);
  each = Each-append P second.added first.added second.each first.each;
}

pub goes_weaker : (P Q : Snapshot → Type 0) → ((m : Snapshot) → P m → Q m) → (old new : List Snapshot) → GoesOn P old new → GoesOn Q old new
goes_weaker P Q leads old new goes = record { added = goes.added; is = goes.is; each = Each-weaker P Q leads goes.added goes.each }

-- what the frame of a call on the folder leaves
pub reads_change : (old new : Scene) → ReadsFolder old new → ChangesFolder old new
reads_change old new frame =
    frame ∙ (λ i. record old { folder = sym (ap (λ (s : Scene). s.folder) frame) i; folder_faults = new.folder_faults; trace = new.trace })

inside_as : (start old : Scene) (P Q : Disk → Type 0) → ChangesFolder start old → ((d : Disk) → P d → Q d) → (m : Snapshot) → Inside old P m → Inside start Q m
inside_as start old P Q frame leads m inside = record {
  output = inside.output ∙ ap (λ (s : Scene). s.output) frame;
  answered = inside.answered ∙ ap (λ (s : Scene). length s.answers) frame;
  script_faults = inside.script_faults ∙ ap (λ (s : Scene). s.script_faults) frame;
  out_faults = inside.out_faults ∙ ap (λ (s : Scene). s.out_faults) frame;
  folder = leads m.folder inside.folder;
}

pub frames : (old mid new : Scene) → ChangesFolder old mid → ChangesFolder mid new → ChangesFolder old new
frames old mid new first second = second ∙ ap (λ (s : Scene). record s { folder = new.folder; folder_faults = new.folder_faults; trace = new.trace }) first

-- before the first call
pub starts : (step : Disk → Disk → Type 0) (old : Scene) → step old.folder old.folder → Runs step old old
starts step old same = record { moments = goes_none (Inside old (step old.folder)) old.trace; now = same }

-- one call
pub one_call : (step : Disk → Disk → Type 0) (kind : Kind) (names : List Name) {T E : Type 0} (result : Result T E) (old new : Scene) → ChangesFolder old new → IsTold kind names result old new
    → step old.folder new.folder → Runs step old new
one_call step kind names result old new frame (inl is) here = record {
  moments = record {
    added = snapshot_of new kind names ∷ [];
    is = is;
    each = (
      record {
        output = ap (λ (s : Scene). s.output) frame;
        answered = ap (λ (s : Scene). length s.answers) frame;
        script_faults = ap (λ (s : Scene). s.script_faults) frame;
        out_faults = ap (λ (s : Scene). s.out_faults) frame;
        folder = here;
      },
      tt,
    );
  };
  now = here;
}
one_call step kind names result old new frame (inr missed) here = record {
  moments = record { added = []; is = missed.1.trace; each = tt };
  now = here;
}

pub runs_as : (S U : Disk → Disk → Type 0) (old new : Scene) → ((d : Disk) → S old.folder d → U old.folder d) → Runs S old new → Runs U old new
runs_as S U old new leads runs = record {
  moments = goes_weaker (Inside old (S old.folder)) (Inside old (U old.folder)) (inside_as old old (S old.folder) (U old.folder) refl leads) old.trace new.trace runs.moments;
  now = leads new.folder runs.now;
}

-- One run after another. What is known at the end of the first one may be used for the second.
pub runs_then : (S T U : Disk → Disk → Type 0) (old mid new : Scene) → ((d : Disk) → S old.folder d → U old.folder d) → ((d : Disk) → T mid.folder d → U old.folder d)
    → ChangesFolder old mid → Runs S old mid → Runs T mid new → Runs U old new
runs_then S T U old mid new weak joins frame first second = record {
  moments = goes_then (Inside old (U old.folder)) old.trace mid.trace new.trace
      (goes_weaker (Inside old (S old.folder)) (Inside old (U old.folder)) (inside_as old old (S old.folder) (U old.folder) refl weak) old.trace mid.trace first.moments)
      (goes_weaker (Inside mid (T mid.folder)) (Inside old (U old.folder)) (inside_as old mid (T mid.folder) (U old.folder) frame joins) mid.trace new.trace second.moments);
  now = joins new.folder second.now;
}

-- one run after another, by one step that passes on
module _ (S : Disk → Disk → Type 0) (passes : (a b c : Disk) → S a b → S b c → S a c) where
  pub runs_on : (old mid new : Scene) → ChangesFolder old mid → Runs S old mid → Runs S mid new → Runs S old new
  runs_on old mid new frame first second = runs_then S S S old mid new (λ d s. s) (λ d. passes old.folder mid.folder d first.now) frame first second

  pub call_on : (kind : Kind) (names : List Name) {T E : Type 0} (result : Result T E) (old mid new : Scene) → ChangesFolder old mid → Runs S old mid
      → ChangesFolder mid new → S mid.folder new.folder → IsTold kind names result mid new → Runs S old new
  call_on kind names result old mid new so_far first frame here told = runs_on old mid new so_far first (one_call S kind names result mid new frame told here)

-- a call that only looks
pub one_look : (kind : Kind) (names : List Name) {T E : Type 0} (result : Result T E) (old new : Scene) → ReadsFolder old new → IsTold kind names result old new → Looks old new
one_look kind names result old new frame told = one_call (λ a b. b ≡ a) kind names result old new (reads_change old new frame) told (ap (λ (s : Scene). s.folder) frame)

pub looks_on : (old mid new : Scene) → ChangesFolder old mid → Looks old mid → Looks mid new → Looks old new
looks_on old mid new frame first second = runs_on (λ a b. b ≡ a) (λ a b c one two. two ∙ one) old mid new frame first second

-- ---- the failed call is the last one
pub fails_none : (old : Scene) → FailsLast old old
fails_none old = record { last = []; earlier = []; one = omega arith; is = refl; quiet = tt }

-- the first call, whatever it answers
pub fails_call : (kind : Kind) (names : List Name) {T E : Type 0} (result : Result T E) (old new : Scene) → IsTold kind names result old new → FailsLast old new
fails_call kind names result old new (inl is) = record { last = snapshot_of new kind names ∷ []; earlier = []; one = omega arith; is = is; quiet = tt }
fails_call kind names result old new (inr missed) = record { last = []; earlier = []; one = omega arith; is = missed.1.trace; quiet = tt }

pub quiet_none : (old : Scene) → Quiet old old
quiet_none old = record { moments = goes_none (HasNoFault old) old.trace; script = refl; out = refl; folder = refl }

-- a call that left all counts
pub quiet_call : (kind : Kind) (names : List Name) {T E : Type 0} (result : Result T E) (old mid new : Scene) → Quiet old mid → IsTold kind names result mid new
    → new.script_faults ≡ mid.script_faults → new.out_faults ≡ mid.out_faults → new.folder_faults ≡ mid.folder_faults → Quiet old new
quiet_call kind names result old mid new so_far told script out folder = record {
  moments = goes_then (HasNoFault old) old.trace mid.trace new.trace so_far.moments (added told);
  script = script ∙ so_far.script;
  out = out ∙ so_far.out;
  folder = folder ∙ so_far.folder;
}
  where
    added : IsTold kind names result mid new → GoesOn (HasNoFault old) mid.trace new.trace
    added (inl is) = record {
      added = snapshot_of new kind names ∷ [];
      is = is;
      each = (record { script = script ∙ so_far.script; out = out ∙ so_far.out; folder = folder ∙ so_far.folder }, tt);
    }
    added (inr missed) = record { added = []; is = missed.1.trace; each = tt }

-- after calls that left all counts, a call that may have failed
pub fails_after : (kind : Kind) (names : List Name) {T E : Type 0} (result : Result T E) (old mid new : Scene) → Quiet old mid → IsTold kind names result mid new → FailsLast old new
fails_after kind names result old mid new so_far (inl is) = record {
  last = snapshot_of new kind names ∷ [];
  earlier = so_far.moments.added;
  one = omega arith;
  is = is ∙ ap (λ (ms : List Snapshot). snapshot_of new kind names ∷ ms) so_far.moments.is;
  quiet = so_far.moments.each;
}
fails_after kind names result old mid new so_far (inr missed) = record {
  last = [];
  earlier = so_far.moments.added;
  one = omega arith;
  is = missed.1.trace ∙ so_far.moments.is;
  quiet = so_far.moments.each;
}

-- Steps from moment to moment: of one call, of one part after another, and that a step that passes on leads there from the start, too.
use Rattle.std.proofs.Common.{◌≡◌, inl, inr, List, [], ◌∷◌, ◌++◌, length, Result, refl, sym, ◌∙◌, ap, append_assoc}
use Rattle.vs_host.specs.Disk.{Disk, Name}
use Rattle.vs_host.specs.Trace.{Each, Kind, Snapshot}
use Rattle.vs_host.specs.World.{ChangesFolder, IsTold, Scene, snapshot_of}
use Rattle.vs_disk.specs.Runs.{Inside, Looks, Runs}
use Rattle.vs_disk.proofs.Runs.{Each-append, Each-weaker}
use Rattle.vs_backup.specs.Works.{Follows, Narrowed, Steps}
use Rattle.vs_backup.proofs.Frames.{narrowed_none, narrowed_then}

abbrev Any : Disk → Type 0
Any disk = Unit {0}

inside_any : (start old : Scene) (P : Disk → Type 0) → ChangesFolder start old → (m : Snapshot) → Inside old P m → Inside start Any m
inside_any start old P frame m inside = record {
  output = inside.output ∙ ap (λ (s : Scene). s.output) frame;
  answered = inside.answered ∙ ap (λ (s : Scene). length s.answers) frame;
  script_faults = inside.script_faults ∙ ap (λ (s : Scene). s.script_faults) frame;
  out_faults = inside.out_faults ∙ ap (λ (s : Scene). s.out_faults) frame;
  folder = tt;
}

inside_with : (start : Scene) (P : Disk → Type 0) (ms : List Snapshot) → Each (Inside start Any) ms → Each (λ m. P m.folder) ms → Each (Inside start P) ms
inside_with start P [] frame each = tt
inside_with start P (m ∷ ms) frame each = (
  record {
    output = frame.0.output;
    answered = frame.0.answered;
    script_faults = frame.0.script_faults;
    out_faults = frame.0.out_faults;
    folder = each.0;
  },
  inside_with start P ms frame.1 each.1,
)

-- what leads from each folder of a kind to each other one leads from moment to moment
pub follows_among : (S : Disk → Disk → Type 0) (P : Disk → Type 0) → ((a b : Disk) → P a → P b → S a b) → (start : Disk) (ms : List Snapshot) (now : Disk) → P start → Each (λ m. P m.folder) ms → P now → Follows S start ms now
follows_among S P leads start [] now first each last = leads start now first last
follows_among S P leads start (m ∷ ms) now first each last = (leads m.folder now each.0 last, follows_among S P leads start ms m.folder first each.1 each.0)

pub follows_as : (S U : Disk → Disk → Type 0) → ((a b : Disk) → S a b → U a b) → (start : Disk) (ms : List Snapshot) (now : Disk) → Follows S start ms now → Follows U start ms now
follows_as S U leads start [] now follows = leads start now follows
follows_as S U leads start (m ∷ ms) now follows = (leads m.folder now follows.0, follows_as S U leads start ms m.folder follows.1)

module _ (S : Disk → Disk → Type 0) (passes : (a b c : Disk) → S a b → S b c → S a c) where
  follows_last : (start : Disk) (ms : List Snapshot) (mid now : Disk) → Follows S start ms mid → S mid now → Follows S start ms now
  follows_last start [] mid now follows more = passes start mid now follows more
  follows_last start (m ∷ ms) mid now follows more = (passes m.folder mid now follows.0 more, follows.1)

  pub follows_then : (start : Disk) (later earlier : List Snapshot) (mid now : Disk) → Follows S start earlier mid → Follows S mid later now → Follows S start (later ++ earlier) now
  follows_then start [] earlier mid now first second = follows_last start earlier mid now first second
  follows_then start (m ∷ ms) earlier mid now first second = (second.0, follows_then start ms earlier mid m.folder first second.1)

  pub follows_from : (start : Disk) (ms : List Snapshot) (now : Disk) → Follows S start ms now → Each (λ m. S start m.folder) ms × S start now
  follows_from start [] now follows = (tt, follows)
  follows_from start (m ∷ ms) now follows =
      let so_far = follows_from start ms m.folder follows.1 in
      ((so_far.1, so_far.0), passes start m.folder now so_far.1 follows.0)

  pub steps_then : (old mid new : Scene) → ChangesFolder old mid → Steps S old mid → Steps S mid new → Steps S old new
  steps_then old mid new frame first second = record {
    added = second.added ++ first.added;
    is = second.is ∙ ap (λ (ms : List Snapshot). second.added ++ ms) first.is ∙ sym (append_assoc second.added first.added old.trace);
    inside = Each-append (Inside old Any) second.added first.added
        (Each-weaker (Inside mid Any) (Inside old Any) (inside_any old mid Any frame) second.added second.inside) first.inside;
    next = follows_then old.folder second.added first.added mid.folder new.folder first.next second.next;
  }

  pub steps_runs : (old new : Scene) → Steps S old new → Runs S old new
  steps_runs old new steps =
      let all = follows_from old.folder steps.added new.folder steps.next in
      record {
        moments = record { added = steps.added; is = steps.is; each = inside_with old (S old.folder) steps.added steps.inside all.0 };
        now = all.1;
      }

-- one call
pub steps_call : (S : Disk → Disk → Type 0) → ((a : Disk) → S a a) → (kind : Kind) (names : List Name) {T E : Type 0} (result : Result T E) (old new : Scene) → ChangesFolder old new → IsTold kind names result old new
    → S old.folder new.folder → Steps S old new
steps_call S same kind names result old new frame (inl is) here = record {
  added = snapshot_of new kind names ∷ [];
  is = is;
  inside = (
    record {
      output = ap (λ (s : Scene). s.output) frame;
      answered = ap (λ (s : Scene). length s.answers) frame;
      script_faults = ap (λ (s : Scene). s.script_faults) frame;
      out_faults = ap (λ (s : Scene). s.out_faults) frame;
      folder = tt;
    },
    tt,
  );
  next = (same new.folder, here);
}
steps_call S same kind names result old new frame (inr missed) here = record { added = []; is = missed.1.trace; inside = tt; next = here }

-- calls whose folders are all reached from the first one by a step
pub steps_among : (S R : Disk → Disk → Type 0) (old new : Scene) → ((a b : Disk) → R old.folder a → R old.folder b → S a b) → R old.folder old.folder → Runs R old new → Steps S old new
steps_among S R old new leads first runs = record {
  added = runs.moments.added;
  is = runs.moments.is;
  inside = Each-weaker (Inside old (R old.folder)) (Inside old Any) (inside_any old old (R old.folder) refl) runs.moments.added runs.moments.each;
  next = follows_among S (R old.folder) leads old.folder runs.moments.added new.folder first
      (Each-weaker (Inside old (R old.folder)) (λ m. R old.folder m.folder) (λ m inside. inside.folder) runs.moments.added runs.moments.each) runs.now;
}

-- ---- steps that narrow

pub narrowed_on : (old mid new : Scene) → ChangesFolder old mid → Steps Narrowed old mid → Steps Narrowed mid new → Steps Narrowed old new
narrowed_on old mid new frame first second = steps_then Narrowed narrowed_then old mid new frame first second

pub narrowed_runs : (old new : Scene) → Steps Narrowed old new → Runs Narrowed old new
narrowed_runs old new steps = steps_runs Narrowed narrowed_then old new steps

pub narrowed_now : (old new : Scene) → Steps Narrowed old new → Narrowed old.folder new.folder
narrowed_now old new steps = (narrowed_runs old new steps).now

pub narrowed_call : (kind : Kind) (names : List Name) {T E : Type 0} (result : Result T E) (old new : Scene) → ChangesFolder old new → IsTold kind names result old new → Narrowed old.folder new.folder → Steps Narrowed old new
narrowed_call kind names result old new frame told here = steps_call Narrowed (λ a. narrowed_none a a refl) kind names result old new frame told here

-- the folder was only looked at
pub looks_narrowed : (old new : Scene) → Looks old new → Steps Narrowed old new
looks_narrowed old new looks = steps_among Narrowed (λ a b. b ≡ a) old new (λ a b first second. narrowed_none a b (second ∙ sym first)) refl looks

pub narrowed_starts : (old : Scene) → Steps Narrowed old old
narrowed_starts old = record { added = []; is = refl; inside = tt; next = narrowed_none old.folder old.folder refl }

-- How a desk goes on in a loop: what stays over one call and over the calls before it stays over all, and no failure is told of.
use Rattle.std.proofs.Common.{◌≡◌, ℕ, List, Result, Ok, Err, IsErr, IsErrAnd, IsErrOf, OnOk, IsTrue, refl, sym, ◌∙◌, ap}
use Rattle.vs_faults.specs.Faults.{HasCause}
use Rattle.vs_faults.proofs.Causes.{HasCause-then, HasCause-weaker, cause_none}
use Rattle.vs_host.specs.Disk.{Name}
use Rattle.vs_host.specs.Trace.{Kind}
use Rattle.vs_host.specs.World.{Tells, Scene, ChangesFolder, IsTold, ReadsFolder}
use Rattle.vs_disk.proofs.Runs.{frames, reads_change}
use Rattle.vs_backup.specs.Desks.{Continues, GoesOn, OnlyReads}
use Rattle.vs_backup.specs.Writing.{IsFailed, StopsAs, stopped}
use Rattle.vs_backup.specs.declared.errors.Place.{Place}
use Rattle.vs_backup.specs.declared.errors.Stop.{Stop}
use Rattle.vs_backup.specs.declared.errors.Stop.TheVariants as stop
use Rattle.vs_backup.specs.declared.errors.WriteErr.{WriteErr}
use Rattle.vs_backup.specs.declared.errors.WriteErr.TheVariants as error
use Rattle.vs_edit.specs.declared.store.StoreErr.{StoreErr}
use Rattle.vs_edit.specs.declared.store.StoreErr.TheVariants as store
use Rattle.vs_backup.proofs.Stops.{stops_as, stops_call, stops_still, stops_then}

reads_then : (s0 s1 s2 : Scene) → ReadsFolder s0 s1 → ReadsFolder s1 s2 → ReadsFolder s0 s2
reads_then s0 s1 s2 first second = second ∙ ap (λ (s : Scene). record s { folder_faults = s2.folder_faults; trace = s2.trace }) first

-- an error as a result of this type
abbrev pub err_as : (T : Type 0) {E : Type 0} → E → Result T E
err_as T e = Err e

-- an error that was handed on, from one result to another
pub err_there : {T U E : Type 0} (r : Result T E) (e f : E) → IsErrAnd r (λ x. x ≡ e) → r ≡ Err f → err_as U e ≡ Err f
err_there (Ok x) e f is same = absurd is
err_there (Err x) e f is same = let inner : x ≡ f = cc in ap Err (sym is ∙ inner)

pub err_here : {T U E : Type 0} (r : Result T E) (e f : E) → IsErrAnd r (λ x. x ≡ e) → err_as U e ≡ Err f → r ≡ Err f
err_here (Ok x) e f is same = absurd is
err_here (Err x) e f is same = let inner : e ≡ f = cc in ap Err (is ∙ inner)

pub err_handed : {T E : Type 0} (r : Result T E) (e : E) → IsErrAnd r (λ x. x ≡ e) → r ≡ Err e
err_handed (Ok x) e is = absurd is
err_handed (Err x) e is = ap Err is

pub is_err_on : {T E : Type 0} (r : Result T E) (e : E) → IsErrAnd r (λ x. x ≡ e) → IsErr r
is_err_on (Ok x) e is = absurd is
is_err_on (Err x) e is = refl

-- another error than the one that was handed on
pub err_other : {T E : Type 0} (r : Result T E) (e f : E) → IsErrAnd r (λ x. x ≡ e) → (err_as T e ≡ Err f → ⊥) → r ≡ Err f → ⊥
err_other r e f is differ same = differ (sym (err_handed r e is) ∙ same)

-- the error of a store that was handed on
pub store_there : {T U : Type 0} (r : Result T Stop) (e : StoreErr) → IsErrAnd r (λ x. StopsAs e x) → r ≡ Err stop.Failed → err_as U e ≡ Err store.Failed
store_there r store.Failed is same = refl
store_there (Ok x) store.NoMemory is same = absurd is
store_there {T} (Err x) store.NoMemory is same = let differ : err_as T stop.NoMemory ≡ Err stop.Failed = sym (ap Err is) ∙ same in absurd (cc)

pub store_here : {T U : Type 0} (r : Result T Stop) (e : StoreErr) → IsErrAnd r (λ x. StopsAs e x) → err_as U e ≡ Err store.Failed → r ≡ Err stop.Failed
store_here (Ok x) e is same = absurd is
store_here (Err x) store.Failed is same = ap Err is
store_here (Err x) store.NoMemory is same = absurd (cc)

-- a stopped write has failed where the part that stopped has
pub stop_there : {T : Type 0} (s : Stop) (place : Place) (why : WriteErr) → why ≡ stopped s place → IsFailed (err_as ℕ why) → err_as T s ≡ Err stop.Failed
stop_there stop.Failed place why is failed = refl
stop_there stop.NoMemory place why is failed = let differ : error.NoMemory place ≡ error.Failed failed.0 = let same = failed.1 in sym is ∙ cc in absurd (cc)

pub stop_here : {T : Type 0} (s : Stop) (place : Place) (why : WriteErr) → why ≡ stopped s place → err_as T s ≡ Err stop.Failed → IsFailed (err_as ℕ why)
stop_here stop.Failed place why is same = (place, ap Err is)
stop_here stop.NoMemory place why is same = absurd (cc)

module _ {D : Type 0} {tells : Tells} {scene : D → Scene} {IsValid : D → Type 0} {Stays : D → D → Type 0} where
  pub OnlyReads-once : {F : Type 0} {p q : D} → ¬ F → OnlyReads tells scene IsValid Stays F p q → OnlyReads tells scene IsValid Stays ⊥ p q
  OnlyReads-once {F} {p} {q} calm is = record {
    valid = is.valid;
    stays = is.stays;
    frame = is.frame;
    cause = HasCause-weaker is.cause (λ none. absurd none);
    stops = stops_as tells F ⊥ (scene p) (scene q) (λ none. calm) is.stops;
  }

  pub OnlyReads-as : {F G : Type 0} {p q : D} → (G → F) → (¬ G → ¬ F) → OnlyReads tells scene IsValid Stays F p q → OnlyReads tells scene IsValid Stays G p q
  OnlyReads-as {F} {G} {p} {q} so says is = record {
    valid = is.valid;
    stays = is.stays;
    frame = is.frame;
    cause = HasCause-weaker is.cause so;
    stops = stops_as tells F G (scene p) (scene q) says is.stops;
  }

  -- no call
  pub OnlyReads-nothing : {F : Type 0} {p : D} → IsValid p → Stays p p → ¬ F → OnlyReads tells scene IsValid Stays F p p
  OnlyReads-nothing {F} {p} valid stays calm = record { valid = valid; stays = stays; frame = refl; cause = cause_none calm; stops = stops_still tells F (scene p) (scene p) (λ told. refl) }

  pub OnlyReads-then : {F G : Type 0} {p q r : D} → ((a b c : D) → Stays a b → Stays b c → Stays a c) → ¬ F → OnlyReads tells scene IsValid Stays F p q → OnlyReads tells scene IsValid Stays G q r → OnlyReads tells scene IsValid Stays G p r
  OnlyReads-then {F} {G} {p} {q} {r} on calm first second = record {
    valid = second.valid;
    stays = on p q r first.stays second.stays;
    frame = reads_then (scene p) (scene q) (scene r) first.frame second.frame;
    cause = HasCause-then first.cause second.cause;
    stops = stops_then tells F G (scene p) (scene q) (scene r) calm first.stops second.stops;
  }

  pub GoesOn-reads : {F : Type 0} {p q : D} → OnlyReads tells scene IsValid Stays F p q → GoesOn tells scene IsValid Stays F p q
  GoesOn-reads {F} {p} {q} is = record { valid = is.valid; stays = is.stays; frame = reads_change (scene p) (scene q) is.frame; cause = is.cause; stops = is.stops }

  pub GoesOn-nothing : {F : Type 0} {p : D} → IsValid p → Stays p p → ¬ F → GoesOn tells scene IsValid Stays F p p
  GoesOn-nothing valid stays calm = GoesOn-reads (OnlyReads-nothing valid stays calm)

  -- after calls that did not fail
  pub GoesOn-then : {F G : Type 0} {p q r : D} → ((a b c : D) → Stays a b → Stays b c → Stays a c) → ¬ F → GoesOn tells scene IsValid Stays F p q → GoesOn tells scene IsValid Stays G q r → GoesOn tells scene IsValid Stays G p r
  GoesOn-then {F} {G} {p} {q} {r} on calm first second = record {
    valid = second.valid;
    stays = on p q r first.stays second.stays;
    frame = frames (scene p) (scene q) (scene r) first.frame second.frame;
    cause = HasCause-then first.cause second.cause;
    stops = stops_then tells F G (scene p) (scene q) (scene r) calm first.stops second.stops;
  }

  -- another answer that says as much
  pub GoesOn-as : {F G : Type 0} {p q : D} → (G → F) → (¬ G → ¬ F) → GoesOn tells scene IsValid Stays F p q → GoesOn tells scene IsValid Stays G p q
  GoesOn-as {F} {G} {p} {q} so says is = record {
    valid = is.valid;
    stays = is.stays;
    frame = is.frame;
    cause = HasCause-weaker is.cause so;
    stops = stops_as tells F G (scene p) (scene q) says is.stops;
  }

  pub GoesOn-none : {F : Type 0} {p q : D} → ¬ F → GoesOn tells scene IsValid Stays F p q → GoesOn tells scene IsValid Stays ⊥ p q
  GoesOn-none {F} {p} {q} calm is = GoesOn-as (λ none. absurd none) (λ none. calm) is

  -- where an error is handed on
  module _ {p q : D} {T E : Type 0} (r : Result T E) (e : E) (is : IsErrAnd r (λ x. x ≡ e)) where
    -- of one kind only
    pub GoesOn-any : {F : Type 0} → F → GoesOn tells scene IsValid Stays F p q → GoesOn tells scene IsValid Stays (IsErr r) p q
    GoesOn-any here goes = GoesOn-as (λ _. here) (λ calm failed. calm (is_err_on r e is)) goes

    -- of several
    pub GoesOn-same : {U : Type 0} (f : E) → GoesOn tells scene IsValid Stays (IsErrOf (err_as U e) f) p q → GoesOn tells scene IsValid Stays (IsErrOf r f) p q
    GoesOn-same f goes = GoesOn-as (err_there r e f is) (λ calm failed. calm (err_here r e f is failed)) goes

    -- a failed call
    pub GoesOn-failed : {F : Type 0} → F → GoesOn tells scene IsValid Stays F p q → GoesOn tells scene IsValid Stays (IsErrOf r e) p q
    GoesOn-failed here goes = GoesOn-as (λ _. here) (λ calm failed. calm (err_handed r e is)) goes

    -- no failed call
    pub GoesOn-other : (f : E) → (err_as T e ≡ Err f → ⊥) → GoesOn tells scene IsValid Stays ⊥ p q → GoesOn tells scene IsValid Stays (IsErrOf r f) p q
    GoesOn-other f differ goes = GoesOn-as (λ same. differ (sym (err_handed r e is) ∙ same)) (λ calm failed. failed) goes

  -- one call on the folder
  module _ {p q : D} (kind : Kind) (names : List Name) {T E : Type 0} (result : Result T E) (valid : IsValid q) (stays : Stays p q)
      (cause : HasCause (scene p).folder_faults (scene q).folder_faults (IsErr result)) (quiet : OnOk result ((scene q).folder_faults ≡ (scene p).folder_faults))
      (told : IsTrue tells.folder → IsTold kind names result (scene p) (scene q)) where
    pub GoesOn-call : ChangesFolder (scene p) (scene q) → GoesOn tells scene IsValid Stays (IsErr result) p q
    GoesOn-call frame = record { valid = valid; stays = stays; frame = frame; cause = cause; stops = stops_call tells kind names result (scene p) (scene q) frame told quiet }

    pub OnlyReads-call : ReadsFolder (scene p) (scene q) → OnlyReads tells scene IsValid Stays (IsErr result) p q
    OnlyReads-call frame = record {
      valid = valid;
      stays = stays;
      frame = frame;
      cause = cause;
      stops = stops_call tells kind names result (scene p) (scene q) (reads_change (scene p) (scene q) frame) told quiet;
    }

  -- what is known of the desk, whichever calls failed
  pub Continues-as : {F G : Type 0} {p q : D} → (G → F) → GoesOn tells scene IsValid Stays F p q → Continues scene IsValid Stays G p q
  Continues-as so is = record { valid = is.valid; stays = is.stays; frame = is.frame; cause = HasCause-weaker is.cause so }

  pub Continues-with : {F G H : Type 0} {p q r : D} → ((a b c : D) → Stays a b → Stays b c → Stays a c) → GoesOn tells scene IsValid Stays F p q → GoesOn tells scene IsValid Stays G q r
      → HasCause (scene p).folder_faults (scene r).folder_faults H → Continues scene IsValid Stays H p r
  Continues-with {F} {G} {H} {p} {q} {r} on first second cause = record {
    valid = second.valid;
    stays = on p q r first.stays second.stays;
    frame = frames (scene p) (scene q) (scene r) first.frame second.frame;
    cause = cause;
  }

-- Calls on pages that are held leave what is known of the swap files, and the folder.
use Rattle.std.proofs.Common.{◌≡◌, ◌≤◌, Bool, ℕ, inl, inr, IsTrue, true, List, ◌++◌, refl, sym, subst, ◌∙◌, ap, arith}
use Rattle.std.specs.Prelude.{if◌then◌else◌}
use Rattle.std.proofs.lemmas.Bool.{cases_Bool}
use Rattle.vs_faults.specs.Faults.{HasCause, HasRisen}
use Rattle.vs_faults.specs.OneCause.{HasOneCause}
use Rattle.vs_host.specs.Disk.{Disk}
use Rattle.vs_host.specs.Trace.{Read}
use Rattle.vs_host.specs.World.{Tells, Scene, CountsFault}
use Rattle.vs_disk.specs.Faults.{earlier_faults, faults_before}
use Rattle.vs_disk.proofs.Faults.{never_none}
use Rattle.vs_disk.proofs.Runs.{goes_none, starts}
use Rattle.vs_pages.specs.Maps.{Map}
use Rattle.vs_pages.specs.Memory.{state_under, AreBacked, KeepsSince}
use Rattle.vs_pages.specs.State.{Moment, PageState, history_of, IsChange, IsStill}
use Rattle.vs_pages.specs.declared.memory.MemPages.{MemPages}
use Rattle.vs_pair.specs.declared.cache.Cache.{Cache}
use Rattle.vs_pair.specs.declared.files.SwapFiles.{SwapFiles}
use Rattle.vs_pair.specs.declared.pair.SwapPair.{SwapPair}
use Rattle.vs_pair.specs.Acts.{OnlyRead}
use Rattle.vs_pair.specs.Cached.{IsCacheOf, was_away}
use Rattle.vs_pair.specs.HeldLaws.{held_none}
use Rattle.vs_pair.proofs.AwayLemmas.{away_since}
use Rattle.vs_pair.proofs.HeldLemmas.{held_since}
use Rattle.vs_pair.specs.Held.{Held, KeepsHeld, held_with}
use Rattle.vs_pair.specs.Pair.{HasFit, away_of, held_in, known_of, known_with, shown_in}
use Rattle.vs_pair.specs.Lent.{IsReady, IsStored, KeepsFiles}
use Rattle.vs_pair.specs.Steps.{IsFresh}
use Rattle.vs_pair.proofs.Others.{fit_changed}
use Rattle.vs_pair.proofs.ReadLemmas.{just_reads}

-- a fault that was counted, where the folder is not told
pub keeps_damaged : (tells : Tells) (pair : SwapPair) (old new : Scene) → (IsTrue tells.folder → ⊥) → CountsFault old new → KeepsFiles tells pair pair old new
keeps_damaged tells pair old new silent counts = record {
  files = refl;
  held = λ told. absurd (silent told);
  frame = counts ∙ (λ i. record old { folder_faults = new.folder_faults; trace = sym (ap (λ (s : Scene). s.trace) counts) i });
  looks = λ told. absurd (silent told);
  reads = λ told. absurd (silent told);
  counts = λ told. absurd (silent told);
}

-- ---- pages that are not there, which only a folder that is not told may ask for

module _ (tells : Tells) (old new : Scene) (silent : IsTrue tells.folder → ⊥) (frame : CountsFault old new) where
  earlier_none : earlier_faults tells new ≡ 0
  earlier_none = elim (cases_Bool tells.folder) [
    | inl told ↦ absurd (silent told)
    | inr is ↦ ap (λ (b : Bool). if b then faults_before new.trace else 0) is
  ]

  pub damaged_cause : (Failed : Type 0) → old.folder_faults ≤ new.folder_faults → HasRisen old.folder_faults new.folder_faults → Failed → HasOneCause old.folder_faults new.folder_faults (earlier_faults tells new) Failed
  damaged_cause Failed later rose failed = record { later = later; risen = λ f. rose; none = λ calm. absurd (calm failed); last = λ f. omega (arith, earlier_none) }

  pub damaged_shown : (pair : SwapPair) → shown_in pair new.folder ≡ shown_in pair old.folder
  damaged_shown pair = ap (λ (s : Scene). shown_in pair s.folder) frame

  pub damaged_still : (pair : SwapPair) → IsStill tells.folder (record (shown_in pair old.folder) { faults = old.folder_faults }) (record (shown_in pair new.folder) { faults = new.folder_faults })
  damaged_still pair = subst (λ (s : PageState). IsStill tells.folder (record (shown_in pair old.folder) { faults = old.folder_faults }) (record s { faults = new.folder_faults })) (sym (damaged_shown pair))
      (record { count = refl; worked = λ told. refl; before = λ told. refl })

-- a call that made no call on the host
pub no_fault : (n earlier : ℕ) (Failed : Type 0) → (Failed → ⊥) → HasOneCause n n earlier Failed
no_fault n earlier Failed never = record { later = omega arith; risen = λ failed. absurd (never failed); none = λ calm. refl; last = λ failed. absurd (never failed) }

-- calls on the host of which none failed
pub calm_cause : (n m earlier : ℕ) (Failed : Type 0) → m ≡ n → (Failed → ⊥) → HasOneCause n m earlier Failed
calm_cause n m earlier Failed same never = record { later = omega (arith, same); risen = λ failed. absurd (never failed); none = λ calm. same; last = λ failed. absurd (never failed) }

-- a call that failed, before which no call did
pub one_cause : (n m earlier : ℕ) (Failed : Type 0) → HasCause n m Failed → (¬ Failed → m ≡ n) → (Failed → earlier ≤ n) → HasOneCause n m earlier Failed
one_cause n m earlier Failed cause none last = record { later = cause.later; risen = cause.risen; none = none; last = last }

-- ---- pages that changed

pub ready_with : (pair : SwapPair) (pages : MemPages) (disk : Disk) → KeepsSince pair.pages pages → IsReady pair disk → IsReady (record pair { pages = pages }) disk
ready_with pair pages disk since ready = record {
  stored = record { backed = since.backed (away_of pair.files disk) ready.stored.backed; cached = λ k gone. ready.stored.cached k (away_since (away_of pair.files disk) pair.pages pages ready.stored.backed since k gone) };
  begun = elim ready.begun [
    | inl fresh ↦ inl fresh
    | inr fits ↦ inr (fits.0, fits.1, fits.2, fit_changed pair (record pair { pages = pages }) disk fits.0 fits.1 fits.2 refl (held_since (away_of pair.files disk) pair.pages pages ready.stored.backed since) fits.3)
  ];
}

pub keeps_with : (tells : Tells) (pair : SwapPair) (pages : MemPages) (scene : Scene) → (IsTrue tells.folder → IsReady pair scene.folder) → KeepsSince pair.pages pages → KeepsFiles tells pair (record pair { pages = pages }) scene scene
keeps_with tells pair pages scene ready since = record {
  files = refl;
  held = λ told. held_since (away_of pair.files scene.folder) pair.pages pages (ready told).stored.backed since;
  frame = refl;
  looks = λ told. starts (λ a b. b ≡ a) scene refl;
  reads = λ told. goes_none (λ m. m.kind ≡ Read) scene.trace;
  counts = λ told. never_none scene;
}

-- ---- what pages show, in the words of a store that may not tell

-- what is shown, with this count of faults
abbrev shown_with : Map → MemPages → ℕ → PageState
shown_with away pages faults = record (state_under away pages) { faults = faults }

pub moved_change : (tells : Tells) (away : Map) (old new : MemPages) (f g : ℕ) (numbers : List ℕ) → IsChange true (state_under away old) (state_under away new) numbers
    → IsChange tells.folder (shown_with away old f) (shown_with away new g) numbers
moved_change tells away old new f g numbers change = record { count = change.count; worked = λ told. change.worked refl; before = λ told. change.before refl }

pub moved_still : (tells : Tells) (away : Map) (old new : MemPages) (f g : ℕ) → IsStill true (state_under away old) (state_under away new) → IsStill tells.folder (shown_with away old f) (shown_with away new g)
moved_still tells away old new f g still = record { count = still.count; worked = λ told. still.worked refl; before = λ told. still.before refl }

-- ---- pages that were read

module _ (p q : SwapPair) (pages : q.pages ≡ p.pages) (files : q.files ≡ p.files) where
  pub shown_moved : (old new : Disk) → new ≡ old → shown_in q new ≡ shown_in p old
  shown_moved old new disk = λ i. state_under (away_of (files i) (disk i)) (pages i)

  held_moved : (old new : Disk) → new ≡ old → held_in q new ≡ held_in p old
  held_moved old new disk = λ i. held_with (away_of (files i) (disk i)) (pages i)

  pub stored_moved : (old new : Disk) → new ≡ old → IsCacheOf (was_away p.pages) (away_of p.files old) q.cache → IsStored p old → IsStored q new
  stored_moved old new disk cached stored = record {
    backed =
        subst (λ (d : Disk). AreBacked (away_of q.files d) q.pages) (sym disk)
        (subst (λ (f : SwapFiles). AreBacked (away_of f old) q.pages) (sym files) (subst (λ (m : MemPages). AreBacked (away_of p.files old) m) (sym pages) stored.backed));
    cached =
        subst (λ (d : Disk). IsCacheOf (was_away q.pages) (away_of q.files d) q.cache) (sym disk)
        (subst (λ (f : SwapFiles). IsCacheOf (was_away q.pages) (away_of f old) q.cache) (sym files) (subst (λ (m : MemPages). IsCacheOf (was_away m) (away_of p.files old) q.cache) (sym pages) cached));
  }

  pub ready_moved : (old new : Disk) → new ≡ old → IsCacheOf (was_away p.pages) (away_of p.files old) q.cache → IsReady p old → IsReady q new
  ready_moved old new disk cached ready = record {
    stored = stored_moved old new disk cached ready.stored;
    begun = elim ready.begun [
      | inl fresh ↦ inl (subst (λ (d : Disk). (q.files.generation ≡ 0) × IsFresh q.files.names d) (sym disk) (subst (λ (f : SwapFiles). (f.generation ≡ 0) × IsFresh f.names old) (sym files) fresh))
      | inr fits ↦ inr (subst (λ (d : Disk). HasFit (known_of q d) d) (sym disk)
          (subst (λ (f : SwapFiles). HasFit (known_with f (held_with (away_of f old) q.pages)) old) (sym files)
          (subst (λ (m : MemPages). HasFit (known_with p.files (held_with (away_of p.files old) m)) old) (sym pages) fits)))
    ];
  }

  pub keeps_moved : (tells : Tells) (A : Type 0) (most : ℕ) (old new : Scene) → OnlyRead tells A old new most → KeepsFiles tells p q old new
  keeps_moved tells A most old new reads = record {
    files = files;
    held = λ told. subst (λ (h : Held). KeepsHeld (held_in p old.folder) h) (sym (held_moved old.folder new.folder (ap (λ (s : Scene). s.folder) reads.frame))) (held_none (held_in p old.folder));
    frame = reads.frame;
    looks = λ told. reads.acts.runs told;
    reads = λ told. just_reads old new (reads.acts.runs told).moments (reads.works.calls told);
    counts = reads.counts;
  }

-- a cache of the file that is the same
pub cache_moved : (p q : SwapPair) → q.pages ≡ p.pages → q.files ≡ p.files → (old new : Disk) → new ≡ old → (cache : Cache) → IsCacheOf (was_away q.pages) (away_of q.files new) cache
    → IsCacheOf (was_away p.pages) (away_of p.files old) cache
cache_moved p q pages files old new disk cache cached =
    subst (λ (m : MemPages). IsCacheOf (was_away m) (away_of p.files old) cache) pages
    (subst (λ (f : SwapFiles). IsCacheOf (was_away q.pages) (away_of f old) cache) files (subst (λ (d : Disk). IsCacheOf (was_away q.pages) (away_of q.files d) cache) disk cached))

-- ---- a change after pages were read

pub from_change : (tells : Tells) (a b c : PageState) (f g : ℕ) (numbers : List ℕ) → b ≡ a → IsChange true b c numbers → IsChange tells.folder (record a { faults = f }) (record c { faults = g }) numbers
from_change tells a b c f g numbers same change = subst (λ (s : PageState). IsChange tells.folder (record s { faults = f }) (record c { faults = g }) numbers) same
    (record { count = change.count; worked = λ told. change.worked refl; before = λ told. change.before refl })

pub from_still : (tells : Tells) (a b c : PageState) (f g : ℕ) → b ≡ a → IsStill true b c → IsStill tells.folder (record a { faults = f }) (record c { faults = g })
from_still tells a b c f g same still = subst (λ (s : PageState). IsStill tells.folder (record s { faults = f }) (record c { faults = g })) same
    (record { count = still.count; worked = λ told. still.worked refl; before = λ told. still.before refl })

pub from_grown : (a b c : PageState) → b ≡ a → (more : List Moment) × (history_of c ≡ more ++ history_of b) → (more : List Moment) × (history_of c ≡ more ++ history_of a)
from_grown a b c same grown = subst (λ (s : PageState). (more : List Moment) × (history_of c ≡ more ++ history_of s)) same grown

-- what is shown after pages were read
pub same_shown_still : (tells : Tells) (a b : PageState) (f g : ℕ) → b ≡ a → IsStill tells.folder (record a { faults = f }) (record b { faults = g })
same_shown_still tells a b f g same = subst (λ (s : PageState). IsStill tells.folder (record a { faults = f }) (record s { faults = g })) (sym same) (record { count = refl; worked = λ told. refl; before = λ told. refl })

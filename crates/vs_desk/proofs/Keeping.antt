-- Calls on names that are no swap names leave the swap files, so the pair stays ready and shows the same pages.
use Rattle.std.proofs.Common.{◌≡◌, ◌⊎◌, inl, inr, Bool, true, false, Result, Ok, Err, OnOk, OnErr, IsTrue, refl, sym, ◌∙◌, ap, subst}
use Rattle.std.proofs.lemmas.Bool.{cases_Bool}
use Rattle.std.proofs.lemmas.Result.{on_ok_weaker}
use Rattle.vs_host.specs.File.{File}
use Rattle.vs_host.specs.Disk.{Disk, Name, IsFolder, Change, Renames, Removes, ChangesFile, ChangesNames, CreatesFile, MayBeLike, SyncsNames, like, names_at}
use Rattle.vs_host.specs.World.{Tells, Scene, ReadsFolder}
use Rattle.vs_host.specs.declared.names.Names.{Names}
use Rattle.vs_disk.specs.Names.{IsApart, SameAt}
use Rattle.vs_disk.proofs.Others.{IsOutside, create_outside, file_outside, like_outside, names_outside, remove_outside, rename_outside, same_none, same_then, sync_outside}
use Rattle.vs_pages.specs.Maps.{Map}
use Rattle.vs_pages.specs.Memory.{AreBacked, state_under}
use Rattle.vs_pages.specs.State.{PageState}
use Rattle.vs_tree.specs.Texts.{Fits, HasText}
use Rattle.vs_tree.specs.declared.tree.LineTree.{LineTree}
use Rattle.vs_pair.specs.Cached.{IsCacheOf, was_away}
use Rattle.vs_pair.specs.Held.{KeepsHeld, held_with}
use Rattle.vs_pair.specs.HeldLaws.{held_none}
use Rattle.vs_pair.specs.Lent.{IsReady, KeepsFiles}
use Rattle.vs_pair.specs.Pair.{IsFit, away_of, held_in, is_swap, known_of, known_with, shown_in}
use Rattle.vs_pair.specs.Steps.{IsAbsent}
use Rattle.vs_pair.specs.declared.pair.SwapPair.{SwapPair}
use Rattle.vs_pair.proofs.AwayLemmas.{away_same}
use Rattle.vs_pair.proofs.FitLemmas.{side_is_swap}
use Rattle.vs_pair.proofs.Others.{fit_kept}
use Rattle.vs_pair.specs.declared.side.Side.TheVariants.{Swp, Swo}
use Rattle.vs_desk.specs.Pages.{IsDesk, IsSwapName, SamePages}
use Rattle.vs_desk.specs.Still.{IsStill}
use Rattle.vs_desk.proofs.Spared.{swap_name}
use Rattle.vs_desk.proofs.Stillness.{fit_still, still_apart}

-- a name that is no swap name
pub not_swap : (names : Names) (name : Name) → (IsSwapName names name → ⊥) → is_swap names name ≡ false
not_swap names name apart = elim (cases_Bool (is_swap names name)) [
  | inl is ↦ absurd (apart (swap_name names name is))
  | inr not ↦ not
]

-- ---- a pair that may be lent

-- in each state of the names that a stop may leave, the swap names lead where they lead now
module _ (pair : SwapPair) (disk : Disk) (ready : IsReady pair disk) where
  absent : (name : Name) → (name ≡ pair.files.names.swp) ⊎ (name ≡ pair.files.names.swo) → IsAbsent pair.files.names.swp disk → IsAbsent pair.files.names.swo disk → IsAbsent name disk
  absent name (inl same) no_swp no_swo lost = ap (λ (n : Name). names_at disk lost n) same ∙ no_swp lost
  absent name (inr same) no_swp no_swo lost = ap (λ (n : Name). names_at disk lost n) same ∙ no_swo lost

  ready_still : IsStill (is_swap pair.files.names) disk
  ready_still lost name is = elim ready.begun [
    | inl fresh ↦
        let none = absent name (swap_name pair.files.names name is) fresh.1.no_swp fresh.1.no_swo in
        none lost ∙ sym (none 0)
    | inr fit ↦ fit_still (known_of pair disk) disk fit.0 fit.1 fit.2 fit.3 lost name is
  ]

  pub ready_apart : IsFolder disk → IsApart (is_swap pair.files.names) disk
  ready_apart folder = still_apart (is_swap pair.files.names) disk folder ready_still

module _ (pair : SwapPair) (old new : Disk) (same : SameAt (is_swap pair.files.names) old new) where
  away : away_of pair.files new ≡ away_of pair.files old
  away = away_same pair.files old new same

  absent_kept : (name : Name) → is_swap pair.files.names name ≡ true → IsAbsent name old → IsAbsent name new
  absent_kept name is none lost = let at = same.back lost in at.1 name is ∙ none at.0

  pub shown_kept : shown_in pair new ≡ shown_in pair old
  shown_kept = ap (λ (m : Map). state_under m pair.pages) away

  pub held_kept : KeepsHeld (held_in pair old) (held_in pair new)
  held_kept = subst (λ (m : Map). KeepsHeld (held_in pair old) (held_with m pair.pages)) (sym away) (held_none (held_in pair old))

  pub ready_kept : IsReady pair old → IsReady pair new
  ready_kept ready = record {
    stored = record {
      backed = subst (λ (m : Map). AreBacked m pair.pages) (sym away) ready.stored.backed;
      cached = subst (λ (m : Map). IsCacheOf (was_away pair.pages) m pair.cache) (sym away) ready.stored.cached;
    };
    begun = elim ready.begun [
      | inl fresh ↦ inl (
        fresh.0,
        record {
          no_swp = absent_kept pair.files.names.swp (side_is_swap pair.files.names Swp) fresh.1.no_swp;
          no_swo = absent_kept pair.files.names.swo (side_is_swap pair.files.names Swo) fresh.1.no_swo;
        },
      )
      | inr fit ↦ inr (
        fit.0,
        fit.1,
        fit.2,
        subst (λ (m : Map). IsFit (known_with pair.files (held_with m pair.pages)) new fit.0 fit.1 fit.2) (sym away)
            (fit_kept (known_of pair old) old new fit.0 fit.1 fit.2 same fit.3),
      )
    ];
  }

-- ---- a desk

pub fits_seen : (told : Bool) (old new : Map) (tree after : LineTree) → after ≡ tree → (IsTrue told → new ≡ old) → Fits told old tree.present → Fits told new after.present
fits_seen told old new tree after one seen fits =
    let same : Fits told new tree.present = record {
      few = fits.few;
      few_bytes = fits.few_bytes;
      one = λ is. let text = fits.one is in (text.0, subst (λ (m : Map). HasText m tree.present text.0) (sym (seen is)) text.1);
    } in
    subst (λ (t : LineTree). Fits told new t.present) (sym one) same

module _ (told : Bool) (pair : SwapPair) (tree : LineTree) (old new : Disk) (same : IsTrue told → SameAt (is_swap pair.files.names) old new) where
  pub desk_kept : IsDesk told pair tree old → IsDesk told pair tree new
  desk_kept desk = record {
    fits = fits_seen told (shown_in pair old).present (shown_in pair new).present tree tree refl (λ is. ap (λ (s : PageState). s.present) (shown_kept pair old new (same is))) desk.fits;
    ready = λ is. ready_kept pair old new (same is) (desk.ready is);
  }

  pub pages_kept : SamePages told pair pair tree tree old new
  pages_kept = record { tree = refl; files = refl; shown = λ is. shown_kept pair old new (same is); held = λ is. held_kept pair old new (same is) }

-- ---- the calls

pub unchanged : (inside : Name → Bool) (old new : Disk) → new ≡ old → SameAt inside old new
unchanged inside old new same = subst (λ (d : Disk). SameAt inside old d) (sym same) (same_none inside old)

pub only_read : (inside : Name → Bool) (old new : Scene) → ReadsFolder old new → SameAt inside old.folder new.folder
only_read inside old new reads = unchanged inside old.folder new.folder (ap (λ (s : Scene). s.folder) reads)

module _ (told : Bool) (pair : SwapPair) (tree : LineTree) (old new : Disk) (folder : IsTrue told → IsFolder old) (desk : IsDesk told pair tree old) where
  abbrev inside : Name → Bool
  inside = is_swap pair.files.names

  apart : IsTrue told → IsApart inside old
  apart is = ready_apart pair old (desk.ready is) (folder is)

  by_answer : {T E : Type 0} (result : Result T E) → OnOk result (IsTrue told → SameAt inside old new) → OnErr result (new ≡ old) → IsTrue told → SameAt inside old new
  by_answer (Ok x) ok err is = ok is
  by_answer (Err e) ok err is = unchanged inside old new err

  names_changed : (change : Change) → IsOutside inside change → IsTrue told → ChangesNames change old new → SameAt inside old new
  names_changed change out is changes = (names_outside inside change old new out (apart is) changes).0

  pub same_renamed : {T E : Type 0} (result : Result T E) (from to : Name) → (IsSwapName pair.files.names from → ⊥) → (IsSwapName pair.files.names to → ⊥)
      → OnOk result (IsTrue told → ChangesNames (Renames from to) old new) → OnErr result (new ≡ old) → IsTrue told → SameAt inside old new
  same_renamed result from to out_from out_to ok err =
      by_answer result
      (on_ok_weaker result (λ renames is. names_changed (Renames from to) (rename_outside inside from to (not_swap pair.files.names from out_from) (not_swap pair.files.names to out_to)) is (renames is)) ok) err

  pub same_synced : {T E : Type 0} (result : Result T E) → OnOk result (IsTrue told → SyncsNames old new) → OnErr result (new ≡ old) → IsTrue told → SameAt inside old new
  same_synced result ok err = by_answer result (on_ok_weaker result (λ syncs is. (sync_outside inside old new (apart is) (syncs is)).0) ok) err

  module _ (name : Name) (out : IsSwapName pair.files.names name → ⊥) where
    outside : inside name ≡ false
    outside = not_swap pair.files.names name out

    pub same_file : (step : File → File → Type 0) → (IsTrue told → ChangesFile name step old new) → IsTrue told → SameAt inside old new
    same_file step changes is = (file_outside inside name step old new outside (apart is) (changes is)).0

    pub same_if_file : {T E : Type 0} (result : Result T E) (step : File → File → Type 0) → OnOk result (IsTrue told → ChangesFile name step old new) → OnErr result (new ≡ old) → IsTrue told → SameAt inside old new
    same_if_file result step ok err = by_answer result (on_ok_weaker result (λ changes. same_file step changes) ok) err

    pub same_created : {T E : Type 0} (result : Result T E) → OnOk result (IsTrue told → CreatesFile name old new) → OnErr result (new ≡ old) → IsTrue told → SameAt inside old new
    same_created result ok err = by_answer result (on_ok_weaker result (λ creates is. (create_outside inside name old new outside (apart is) (creates is)).0) ok) err

    pub same_removed : {T E : Type 0} (result : Result T E) → OnOk result (IsTrue told → ChangesNames (Removes name) old new) → OnErr result (new ≡ old) → IsTrue told → SameAt inside old new
    same_removed result ok err = by_answer result (on_ok_weaker result (λ removes is. names_changed (Removes name) (remove_outside inside name outside) is (removes is)) ok) err

    -- a file that takes the mode of another one
    liked : (model : Name) → IsTrue told → SameAt inside old (like model name old)
    liked model is = like_outside inside model name old outside (apart is)

    like_apart : (model : Name) → IsTrue told → IsApart inside (like model name old)
    like_apart model is = record { alone = (apart is).alone }

    pub same_like : {T E : Type 0} (result : Result T E) (model : Name) (step : File → File → Type 0) → OnOk result (IsTrue told → ChangesFile name step (like model name old) new)
        → OnErr result (MayBeLike model name old new) → IsTrue told → SameAt inside old new
    same_like (Ok x) model step ok err is =
        same_then inside old (like model name old) new (liked model is) (file_outside inside name step (like model name old) new outside (like_apart model is) (ok is)).0
    same_like (Err e) model step ok (inl same) is = unchanged inside old new same
    same_like (Err e) model step ok (inr changed) is = subst (λ (d : Disk). SameAt inside old d) (sym changed) (liked model is)

-- ---- reading the text

-- where the pages, and what was done to them, are the same
pub all_shown : (old new : PageState) → new.present ≡ old.present → new.committed ≡ old.committed → new.worked ≡ old.worked → new.before ≡ old.before → new.commits ≡ old.commits → new.faults ≡ old.faults → new ≡ old
all_shown old new present committed worked before commits faults = λ i. record {
  present = present i;
  committed = committed i;
  worked = worked i;
  before = before i;
  commits = commits i;
  faults = faults i;
}

-- a call that left the pages, over the files of the pair as they were known
pub pages_read : (tells : Tells) (p q : SwapPair) (t u : LineTree) (old new : Scene) → u ≡ t → KeepsFiles tells p q old new
    → (IsTrue tells.folder → shown_in q new.folder ≡ shown_in p old.folder) → SamePages tells.folder p q t u old.folder new.folder
pages_read tells p q t u old new tree files shown = record { tree = tree; files = files.files; shown = shown; held = files.held }

pub desk_read : (told : Bool) (p q : SwapPair) (t u : LineTree) (old new : Disk) → SamePages told p q t u old new → (IsTrue told → IsReady q new) → IsDesk told p t old → IsDesk told q u new
desk_read told p q t u old new same ready desk = record {
  fits = fits_seen told (shown_in p old).present (shown_in q new).present t u same.tree (λ is. ap (λ (s : PageState). s.present) (same.shown is)) desk.fits;
  ready = ready;
}

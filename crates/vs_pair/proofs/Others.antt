-- What a pair that fits gives, and what is done to other names keeps.
use Rattle.std.proofs.Common.{◌≡◌, ◌⊎◌, inl, inr, ℕ, Bool, true, List, [], ◌∷◌, Option, None, sym, ◌∙◌, subst, arith}
use Rattle.std.proofs.lemmas.Bool.{cond-true}
use Rattle.vs_host.specs.File.{File, Leaves}
use Rattle.vs_host.specs.Disk.{Disk, Name, IsImage, content_in}
use Rattle.vs_host.specs.declared.names.Names.{Names}
use Rattle.vs_disk.specs.Images.{FileAlways}
use Rattle.vs_disk.specs.Names.{SameAt, IsImageAt}
use Rattle.vs_disk.proofs.Others.{image_before}
use Rattle.vs_disk.proofs.Parts.{with_rest, image_with_rest}
use Rattle.vs_disk.proofs.Steps.{one_state}
use Rattle.vs_disk.proofs.Contents.{leads_nowhere}
use Rattle.vs_swap.specs.Recovery.{StandsIn}
use Rattle.vs_pair.specs.declared.files.SwapFiles.{SwapFiles}
use Rattle.vs_pair.specs.declared.gate.Gate.TheVariants.{Open}
use Rattle.vs_pair.specs.declared.pair.SwapPair.{SwapPair}
use Rattle.vs_pair.specs.declared.side.Side.{Side}
use Rattle.vs_pair.specs.declared.side.Side.TheVariants.{Swp, Swo}
use Rattle.vs_pair.specs.Held.{KeepsHeld}
use Rattle.vs_pair.specs.Swap.{Synced, body_of, IsOpen, Holds, Fits}
use Rattle.vs_pair.specs.Pair.{Image, Known, name_of, other_side, is_swap, IsThere, IsBelow, HasEarlier, HasLater, IsBeside, IsBetween, Recovers, IsFit, IsOrdered, RisesAt, Rises, held_in, known_of, known_with}
use Rattle.vs_pair.specs.Steps.{IsFresh}
use Rattle.vs_pair.proofs.Ends.{class}
use Rattle.vs_pair.proofs.FitLemmas.{side_is_swap}
use Rattle.vs_pair.proofs.FreshPages.{keeps_changed}
use Rattle.vs_pair.proofs.Offers.{image_at, there_some, two_offer, with_newest}

-- ---- a pair that fits

module _ (files : Known) (disk : Disk) (newest : Synced) (begun past : List Synced) (fit : IsFit files disk newest begun past) where
  older_class : FileAlways disk (name_of files.names (other_side files.newer)) fit.older_number (λ file. Leaves file (λ c. IsOpen c → HasEarlier files.names.file newest past c ⊎ HasLater files.names.file newest begun c))
  older_class = record {
    leads = fit.older.leads;
    has = class files.names.file newest fit.older_sync begun past (omega (arith, fit.older_used, fit.bound)) files.gate (disk.files fit.older_number) fit.older.has fit.ordered;
  }

  pub fit_between : IsBetween files.names newest begun past disk
  fit_between = record {
    side = files.newer;
    newest_there = λ image whole.
        let at = image_at disk (name_of files.names files.newer) fit.newer_number (Holds (body_of files.names.file newest)) fit.newer image whole in
        there_some files.names.file newest (image (name_of files.names files.newer)) at.0 at.1 at.2;
    beside = λ image whole.
        let older : Name = name_of files.names (other_side files.newer) in
        let at = image_at disk older fit.older_number (λ c. IsOpen c → HasEarlier files.names.file newest past c ⊎ HasLater files.names.file newest begun c) older_class image whole in
        subst (λ (o : Option (List ℕ)). IsBeside files.names.file newest begun past o) (sym at.1) at.2;
  }

  pub fit_recovers : Recovers files.names (newest ∷ begun) (newest ∷ past) disk
  fit_recovers image whole =
      let older : Name = name_of files.names (other_side files.newer) in
      let one = image_at disk (name_of files.names files.newer) fit.newer_number (Holds (body_of files.names.file newest)) fit.newer image whole in
      let two = image_at disk older fit.older_number (λ c. IsOpen c → HasEarlier files.names.file newest past c ⊎ HasLater files.names.file newest begun c) older_class image whole in
      two_offer files.names files.newer newest past begun image (omega (arith, fit.newer_used, fit.bound)) one.0 two.0 one.1 two.1 one.2 (λ opened. with_newest files.names.file newest past begun two.0 (two.2 opened))

-- ---- other names

always_same : (inside : Name → Bool) (old new : Disk) → SameAt inside old new → (name : Name) (number : ℕ) (P : File → Type 0) → inside name ≡ true → FileAlways old name number P → FileAlways new name number P
always_same inside old new same name number P is always =
    let leads = λ (lost : ℕ). (same.back lost).1 name is ∙ always.leads (same.back lost).0 in
    record { leads = leads; has = subst P (sym (same.files 0 name number is (leads 0))) always.has }

pub fit_kept : (files : Known) (old new : Disk) (newest : Synced) (begun past : List Synced) → SameAt (is_swap files.names) old new → IsFit files old newest begun past → IsFit files new newest begun past
fit_kept files old new newest begun past same fit =
    let before : FileAlways old (name_of files.names (other_side files.newer)) fit.older_number (λ x. Fits files.gate (body_of files.names.file fit.older_sync) x × IsOrdered files.gate newest fit.older_sync begun past x) =
    record { leads = fit.older.leads; has = (fit.older.has, fit.ordered) } in
    let now = always_same (is_swap files.names) old new same (name_of files.names (other_side files.newer)) fit.older_number
    (λ x. Fits files.gate (body_of files.names.file fit.older_sync) x × IsOrdered files.gate newest fit.older_sync begun past x) (side_is_swap files.names (other_side files.newer)) before in
    record {
      named = fit.named;
      newer_number = fit.newer_number;
      older_number = fit.older_number;
      differ = fit.differ;
      newer = always_same (is_swap files.names) old new same (name_of files.names files.newer) fit.newer_number (λ file. Leaves file (Holds (body_of files.names.file newest))) (side_is_swap files.names files.newer) fit.newer;
      older_sync = fit.older_sync;
      older = record { leads = now.leads; has = now.has.0 };
      ordered = now.has.1;
      newer_used = fit.newer_used;
      older_used = fit.older_used;
      newer_keeps = fit.newer_keeps;
      older_keeps = fit.older_keeps;
      newer_known = fit.newer_known;
      older_known = fit.older_known;
      bound = fit.bound;
    }

-- ---- other pages

pub fit_changed : (old new : SwapPair) (disk : Disk) (newest : Synced) (begun past : List Synced) → new.files ≡ old.files → KeepsHeld (held_in old disk) (held_in new disk) → IsFit (known_of old disk) disk newest begun past
    → IsFit (known_of new disk) disk newest begun past
fit_changed old new disk newest begun past files held fit =
    let changed : IsFit (known_with old.files (held_in new disk)) disk newest begun past = record {
      named = fit.named;
      newer_number = fit.newer_number;
      older_number = fit.older_number;
      differ = fit.differ;
      newer = fit.newer;
      older_sync = fit.older_sync;
      older = fit.older;
      ordered = fit.ordered;
      newer_used = fit.newer_used;
      older_used = fit.older_used;
      newer_keeps = keeps_changed Open (held_in old disk) (held_in new disk) old.files.newer_has newest.pages fit.newer_known held fit.newer_keeps;
      older_keeps = keeps_changed old.files.gate (held_in old disk) (held_in new disk) old.files.older_has fit.older_sync.pages fit.older_known held fit.older_keeps;
      newer_known = omega (arith, fit.newer_known, held.later);
      older_known = omega (arith, fit.older_known, held.later);
      bound = fit.bound;
    } in
    subst (λ (f : SwapFiles). IsFit (known_with f (held_in new disk)) disk newest begun past) (sym files) changed

module _ (names : Names) (old new : Disk) (same : SameAt (is_swap names) old new) where
  -- an image from before, with the same swap files
  before : (image : Image) → IsImage new image → (was : Image) × IsImage old was × (was names.swp ≡ image names.swp) × (was names.swo ≡ image names.swo)
  before image whole =
      let at_new : IsImageAt (is_swap names) new image = (whole.0, λ name is. whole.1 name) in
      let at_old = image_before (is_swap names) old new same image at_new in (
        with_rest (is_swap names) old at_old.0 image,
        image_with_rest (is_swap names) old image at_old,
        cond-true (is_swap names names.swp) (image names.swp) _ (side_is_swap names Swp),
        cond-true (is_swap names names.swo) (image names.swo) _ (side_is_swap names Swo),
      )

  pub recovers_kept : (syncs older : List Synced) → Recovers names syncs older old → Recovers names syncs older new
  recovers_kept syncs older all image whole =
      let was = before image whole in
      let given = all was.0 was.1 in
      let files = given.2.files in (
        given.0,
        given.1,
        record {
          small = given.2.small;
          files = elim files [
            | inl first ↦ inl (subst (λ o. IsThere names.file given.0 o) was.2 first.0, subst (λ o. IsBelow names.file given.0 older o) was.3 first.1)
            | inr second ↦ inr (subst (λ o. IsThere names.file given.0 o) was.3 second.0, subst (λ o. IsBelow names.file given.0 older o) was.2 second.1)
          ];
        },
      )

  rises_at : (start : Disk) (side : Side) → RisesAt names side start old → RisesAt names side start new
  rises_at start Swp rises image whole = let was = before image whole in let risen = rises was.0 was.1 in (risen.0, risen.1, subst (λ o. StandsIn o risen.0 risen.1) was.2 risen.2, risen.3)
  rises_at start Swo rises image whole = let was = before image whole in let risen = rises was.0 was.1 in (risen.0, risen.1, subst (λ o. StandsIn o risen.0 risen.1) was.3 risen.2, risen.3)

  pub rises_kept : (start : Disk) → Rises names start old → Rises names start new
  rises_kept start rises = (rises.0, rises_at start rises.0 rises.1)

-- ---- a folder without swap files

pub fresh : (names : Names) (disk : Disk) → disk.pending ≡ [] → content_in disk names.swp ≡ None → content_in disk names.swo ≡ None → IsFresh names disk
fresh names disk none no_swp no_swo = record {
  no_swp = λ lost. one_state disk none lost names.swp ∙ leads_nowhere disk names.swp no_swp;
  no_swo = λ lost. one_state disk none lost names.swo ∙ leads_nowhere disk names.swo no_swo;
}

-- Names that are still: which they are, and what they keep.
use Rattle.std.proofs.Common.{◌≡◌, inl, inr, ℕ, Bool, true, not, List, [], sym, ◌∙◌, ap, subst}
use Rattle.std.proofs.lemmas.Bool.{true≢false}
use Rattle.vs_host.specs.File.{File}
use Rattle.vs_host.specs.Disk.{Disk, Name, IsFolder, names_of, names_at}
use Rattle.vs_disk.specs.Images.{FileAlways}
use Rattle.vs_disk.specs.Names.{IsApart, SameAt}
use Rattle.vs_disk.proofs.Steps.{one_state}
use Rattle.vs_pair.specs.declared.side.Side.{Side}
use Rattle.vs_pair.specs.Swap.{Synced}
use Rattle.vs_pair.specs.Pair.{Known, IsFit, is_swap, name_of}
use Rattle.vs_pair.proofs.FitLemmas.{at_side, two_sides}
use Rattle.vs_safety.specs.Texts.{Sync, Text}
use Rattle.vs_paged.specs.Fits.{Fits, names_of as names_in}
use Rattle.vs_paged.specs.declared.paged.PagedText.{PagedText}
use Rattle.vs_desk.specs.Still.{IsStill}

pub still_settled : (inside : Name → Bool) (disk : Disk) → disk.pending ≡ [] → IsStill inside disk
still_settled inside disk none lost name is = one_state disk none lost name

pub still_lasts : (inside : Name → Bool) (old new : Disk) → SameAt inside old new → IsStill inside old → IsStill inside new
still_lasts inside old new same still lost name is =
    let at = same.back lost in
    at.1 name is ∙ still at.0 name is ∙ sym (same.now name is)

pub still_apart : (inside : Name → Bool) (disk : Disk) → IsFolder disk → IsStill inside disk → IsApart inside disk
still_apart inside disk folder still = record {
  alone = λ lost name other number is out leads there.
      let one : name ≡ other = folder.apart 0 name other number (sym (still lost name is) ∙ leads) there in
      absurd (true≢false (sym is ∙ ap inside one ∙ out));
}

-- a file that always stands under a name
always_still : (disk : Disk) (name : Name) (number : ℕ) (P : File → Type 0) → FileAlways disk name number P → (lost : ℕ) → names_at disk lost name ≡ names_of disk name
always_still disk name number P always lost = always.leads lost ∙ sym (always.leads 0)

module _ (files : Known) (disk : Disk) (newest : Synced) (begun past : List Synced) (fit : IsFit files disk newest begun past) (lost : ℕ) where
  side_still : (side : Side) → names_at disk lost (name_of files.names side) ≡ names_of disk (name_of files.names side)
  side_still side =
      let P : Side → Type 0 = λ s. names_at disk lost (name_of files.names s) ≡ names_of disk (name_of files.names s) in
      elim (two_sides side files.newer) [
        | inl newer ↦ subst P (sym newer) (always_still disk _ fit.newer_number _ fit.newer lost)
        | inr older ↦ subst P (sym older) (always_still disk _ fit.older_number _ fit.older lost)
      ]

  pub fit_still : (name : Name) → is_swap files.names name ≡ true → names_at disk lost name ≡ names_of disk name
  fit_still name is =
      let at = at_side files.names name (ap not is) in
      subst (λ (n : Name). names_at disk lost n ≡ names_of disk n) (sym at.1) (side_still at.0)

pub still_fits : (paged : PagedText) (disk : Disk) (text : Text) (syncs : List Sync) → Fits paged disk text syncs → IsStill (is_swap (names_in paged)) disk
still_fits paged disk text syncs fits lost name is = fit_still _ disk fits.newest fits.later fits.past fits.fit lost name is

-- What is said of a session's swap files is kept where the names of its family stay: a stop leaves of them what it left before.
use Rattle.std.proofs.Common.{◌≡◌, inl, inr, ℕ, true, List, ◌∷◌, Option, sym, ◌∙◌, subst}
use Rattle.std.proofs.lemmas.Bool.{cond-true}
use Rattle.vs_host.specs.Disk.{Disk, Name, IsImage}
use Rattle.vs_disk.specs.Names.{IsImageAt, SameAt}
use Rattle.vs_disk.proofs.Others.{image_before}
use Rattle.vs_disk.proofs.Parts.{with_rest, image_with_rest}
use Rattle.vs_text.specs.Documents.{Document}
use Rattle.vs_swap.specs.Recovery.{Recovered}
use Rattle.vs_pair.specs.declared.side.Side.{Side}
use Rattle.vs_pair.specs.declared.side.Side.TheVariants.{Swp, Swo}
use Rattle.vs_pair.specs.Pair.{Image, name_of, other_side}
use Rattle.vs_safety.specs.Texts.{Sync, GivesOneOf, Recovers, RecoversOrNone, NoneLeft, IsThereAs, IsBeside, IsBetween}
use Rattle.vs_both.specs.Beside.{Party, HasFamily}
use Rattle.vs_both.proofs.Names.{swp_in, swo_in}

module _ (party : Party) (has : HasFamily party) (old new : Disk) (same : SameAt party.family old new) where
  abbrev AgreesWith : Image → Image → Type 0
  AgreesWith image was = (name : Name) → party.family name ≡ true → was name ≡ image name

  -- an image from before, the same under the names of the family
  before : (image : Image) → IsImage new image → (was : Image) × IsImage old was × AgreesWith image was
  before image whole =
      let at_old : IsImageAt party.family old image = image_before party.family old new same image (whole.0, λ name is. whole.1 name) in
      (with_rest party.family old at_old.0 image, image_with_rest party.family old image at_old, λ name is. cond-true (party.family name) (image name) _ is)

  side_in : (side : Side) → party.family (name_of party.names side) ≡ true
  side_in Swp = swp_in party has
  side_in Swo = swo_in party has

  gives_kept : (documents : List Document) (was image : Image) → AgreesWith image was → GivesOneOf party.names documents was → GivesOneOf party.names documents image
  gives_kept documents was image is gives = (
    gives.0,
    gives.1,
    subst (λ (o : Option (List ℕ)). Recovered o (image party.names.swo) gives.0) (is party.names.swp (swp_in party has))
        (subst (λ (o : Option (List ℕ)). Recovered (was party.names.swp) o gives.0) (is party.names.swo (swo_in party has)) gives.2),
  )

  pub recovers_kept : (documents : List Document) → Recovers party.names documents old → Recovers party.names documents new
  recovers_kept documents all image whole = let was = before image whole in gives_kept documents was.0 image was.2 (all was.0 was.1)

  pub none_kept : NoneLeft party.names old → NoneLeft party.names new
  none_kept none image whole =
      let was = before image whole in
      let gone = none was.0 was.1 in
      (sym (was.2 party.names.swp (swp_in party has)) ∙ gone.0, sym (was.2 party.names.swo (swo_in party has)) ∙ gone.1)

  pub or_none_kept : (documents : List Document) → RecoversOrNone party.names documents old → RecoversOrNone party.names documents new
  or_none_kept documents all image whole =
      let was = before image whole in
      elim (all was.0 was.1) [
        | inl gone ↦ inl (sym (was.2 party.names.swp (swp_in party has)) ∙ gone.0, sym (was.2 party.names.swo (swo_in party has)) ∙ gone.1)
        | inr gives ↦ inr (gives_kept documents was.0 image was.2 gives)
      ]

  pub between_kept : (syncs : List Sync) → IsBetween party.names syncs old → IsBetween party.names syncs new
  between_kept syncs between = record {
    later = between.later;
    newest = between.newest;
    past = between.past;
    newest_of = between.newest_of;
    side = between.side;
    generation = between.generation;
    there = λ image whole.
        let was = before image whole in
        subst (λ (o : Option (List ℕ)). IsThereAs between.generation between.newest o) (was.2 (name_of party.names between.side) (side_in between.side)) (between.there was.0 was.1);
    beside = λ image whole.
        let was = before image whole in
        subst (λ (o : Option (List ℕ)). IsBeside between.generation (between.newest ∷ between.past) between.later o) (was.2 (name_of party.names (other_side between.side)) (side_in (other_side between.side)))
        (between.beside was.0 was.1);
  }

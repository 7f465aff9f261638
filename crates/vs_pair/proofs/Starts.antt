-- Both files as they are made: in each state of the names that a stop may leave, each of them is absent or whole.
use Rattle.std.proofs.Common.{◌≡◌, ◌≢◌, ◌⊎◌, inl, inr, ℕ, ◌-◌, ◌<◌, ◌≤◌, Bool, true, false, not, ◌||◌, List, [], ◌∷◌, Option, Some, None, IsSome, IsTrue, refl, sym, ◌∙◌, ap, subst, arith}
use Rattle.std.specs.Str.{bytes_eq}
use Rattle.std.proofs.lemmas.Bool.{true≢false, or_parts, not-true}
use Rattle.vs_host.specs.File.{File, Leaves}
use Rattle.vs_host.specs.Disk.{Disk, Name, SyncsNames, IsImage, IsImageOf, IsFolder, names_of}
use Rattle.vs_host.specs.Names.{AreNames}
use Rattle.vs_host.specs.declared.names.Names.{Names}
use Rattle.vs_host.specs.World.{Tells, Scene}
use Rattle.vs_host.proofs.Apart.{names_apart}
use Rattle.vs_disk.specs.Images.{FileHas, FileAlways}
use Rattle.vs_disk.specs.Images as images
use Rattle.vs_disk.specs.Names.{SameAt}
use Rattle.vs_disk.proofs.Steps.{settled}
use Rattle.vs_disk.proofs.Others.{same_then}
use Rattle.vs_pages.specs.Maps.{Map}
use Rattle.vs_pair.specs.declared.gate.Gate.TheVariants.{Open}
use Rattle.vs_pair.specs.declared.side.Side.{Side}
use Rattle.vs_pair.specs.declared.side.Side.TheVariants.{Swp, Swo}
use Rattle.vs_disk.specs.Runs.{NoneFails}
use Rattle.vs_pair.specs.Acts.{Acts}
use Rattle.vs_pair.specs.Held.{Held}
use Rattle.vs_pair.specs.Swap.{Synced, Body, body_of, Holds, HasLength, IsMade}
use Rattle.vs_pair.specs.Pair.{Image, Known, name_of, temporary_of, is_foreign, is_swap, is_pair_name, RecoversOrNone, IsFit}
use Rattle.vs_pair.specs.Steps.{IsAbsent, MayHold, is_neither, Makes, IsFresh, Starting, BothMoved}
use Rattle.vs_pair.proofs.Acts.{acts_as, acts_then}
use Rattle.vs_pair.proofs.MadeFiles.{neither_apart, same_weaker, synced_same, absent_stays, may_stays, has_stays}
use Rattle.vs_pair.proofs.FreshPages.{keeps_all}
use Rattle.vs_pair.proofs.Offers.{offers, there_some, below_some, below_none}

-- ---- the names of the pair

module _ (names : Names) (are : AreNames names) where
  pub both_differ : names.swp ≢ names.swo
  both_differ = (names_apart names are).1.0.0

  pub swp_differs : names.swp_new ≢ names.swp
  swp_differs is = (names_apart names are).1.0.1.1.1.0 (sym is)

  pub swo_differs : names.swo_new ≢ names.swo
  swo_differs is = (names_apart names are).1.1.0.1.1.1.0 (sym is)

  -- the first file is none of the names of the second one
  swp_apart : is_neither names.swo_new names.swo names.swp ≡ true
  swp_apart = neither_apart names.swo_new names.swo names.swp (λ is. (names_apart names are).1.0.1.1.1.1.0 (sym is)) (λ is. both_differ (sym is))

  swo_apart : is_neither names.swp_new names.swp names.swo ≡ true
  swo_apart = neither_apart names.swp_new names.swp names.swo (λ is. (names_apart names are).1.1.0.1.1.0 (sym is)) both_differ

  -- nor is the name under which it was made
  swp_new_apart : is_neither names.swo_new names.swo names.swp_new ≡ true
  swp_new_apart = neither_apart names.swo_new names.swo names.swp_new (λ is. (names_apart names are).1.1.1.1.1.0.0 (sym is)) (names_apart names are).1.1.0.1.1.0

-- what is foreign is none of the names of either file
foreign_parts : (names : Names) (name : Name) → is_foreign names name ≡ true → ((bytes_eq names.swp name ≡ false) × (bytes_eq names.swo name ≡ false)) × ((bytes_eq names.swp_new name ≡ false) × (bytes_eq names.swo_new name ≡ false))
foreign_parts names name is =
    let parts = or_parts (is_swap names name) (bytes_eq names.swp_new name || bytes_eq names.swo_new name) (not-true (is_pair_name names name) is) in
    (or_parts (bytes_eq names.swp name) (bytes_eq names.swo name) parts.0, or_parts (bytes_eq names.swp_new name) (bytes_eq names.swo_new name) parts.1)

foreign_first : (names : Names) (name : Name) → is_foreign names name ≡ true → is_neither names.swp_new names.swp name ≡ true
foreign_first names name is = let parts = foreign_parts names name is in (λ i. not (parts.1.0 i || parts.0.0 i))

foreign_second : (names : Names) (name : Name) → is_foreign names name ≡ true → is_neither names.swo_new names.swo name ≡ true
foreign_second names name is = let parts = foreign_parts names name is in (λ i. not (parts.1.1 i || parts.0.1 i))

-- ---- what is recovered

image_may : (disk : Disk) (name : Name) (body : Body) → MayHold name body disk → (image : Image) (whole : IsImage disk image) → (image name ≡ None) ⊎ ((c : List ℕ) × (image name ≡ Some c) × Holds body c)
image_may disk name body may image whole = elim (may whole.0) [
  | inl none ↦ inl (subst (λ (o : Option ℕ). IsImageOf disk o (image name)) none (whole.1 name))
  | inr holds ↦
      let here = subst (λ (o : Option ℕ). IsImageOf disk o (image name)) holds.leads (whole.1 name) in
      inr (here.0, here.1, holds.leaves here.0 here.2)
]

pub two_may : (names : Names) (one two : Synced) (disk : Disk) → one.generation ≡ 1 → two.generation ≡ 2 → MayHold names.swp (body_of names.file one) disk → MayHold names.swo (body_of names.file two) disk
    → RecoversOrNone names (one ∷ two ∷ []) (one ∷ []) disk
two_may names one two disk first_is second_is first second image whole =
    elim (image_may disk names.swp (body_of names.file one) first image whole) [
      | inl none ↦
          elim (image_may disk names.swo (body_of names.file two) second image whole) [
            | inl none_two ↦ inl (none, none_two)
            | inr holds ↦ inr (
              two,
              inr (inl refl),
              offers names Swo (one ∷ []) image two (omega (arith, second_is)) (there_some names.file two (image names.swo) holds.0 holds.1 holds.2) (below_none names.file two (one ∷ []) (image names.swp) none),
            )
          ]
      | inr held ↦
          elim (image_may disk names.swo (body_of names.file two) second image whole) [
            | inl none_two ↦ inr (
              one,
              inl refl,
              offers names Swp (one ∷ []) image one (omega (arith, first_is)) (there_some names.file one (image names.swp) held.0 held.1 held.2) (below_none names.file one (one ∷ []) (image names.swo) none_two),
            )
            | inr holds ↦ inr (
              two,
              inr (inl refl),
              offers names Swo (one ∷ []) image two (omega (arith, second_is)) (there_some names.file two (image names.swo) holds.0 holds.1 holds.2)
                  (below_some names.file two (one ∷ []) (image names.swp) held.0 held.1 (λ opened. record { earlier = one; member = inl refl; body = held.2.whole; less = omega (arith, first_is, second_is) })),
            )
          ]
    ]

may_none : (name : Name) (body : Body) (disk : Disk) → IsAbsent name disk → MayHold name body disk
may_none name body disk absent lost = inl (absent lost)

-- after a sync of the names
may_synced : (name : Name) (body : Body) (old new : Disk) → SyncsNames old new → MayHold name body old → MayHold name body new
may_synced name body old new syncs may lost = elim (may 0) [
  | inl none ↦ inl (settled old new syncs lost name ∙ none)
  | inr holds ↦ inr (record {
    number = holds.number;
    leads = settled old new syncs lost name ∙ holds.leads;
    leaves = subst (λ (f : File). Leaves f (Holds body)) (sym (ap (λ (files : ℕ → File). files holds.number) syncs.files)) holds.leaves;
  })
]

always_synced : (name : Name) (P : File → Type 0) (old new : Disk) → SyncsNames old new → (has : FileHas old name P) → FileAlways new name has.number P
always_synced name P old new syncs has = record {
  leads = λ lost. settled old new syncs lost name ∙ has.leads;
  has = subst P (sym (ap (λ (files : ℕ → File). files has.number) syncs.files)) has.has;
}

-- ---- what a start leaves, once the names were synced

ends_synced : (name : Name) (body : Body) (old new : Disk) → SyncsNames old new → FileHas old name (λ file. Leaves file (IsMade body)) → images.Holds name (HasLength body.pages 0) new
ends_synced name body old new syncs has lost =
    let always = always_synced name (λ file. Leaves file (IsMade body)) old new syncs has in
    record { number = has.number; leads = always.leads lost; leaves = λ c image. (always.has c image).ends }

module _ (names : Names) (are : AreNames names) (first second new : Disk) (same : SameAt (is_neither names.swo_new names.swo) first second) (syncs : SyncsNames second new) where
  pub both_end : (one two : Body) → FileHas first names.swp (λ file. Leaves file (IsMade one)) → FileHas second names.swo (λ file. Leaves file (IsMade two))
      → images.Holds names.swp (HasLength one.pages 0) new × images.Holds names.swo (HasLength two.pages 0) new
  both_end one two has_one has_two = (
    ends_synced names.swp one second new syncs (has_stays (is_neither names.swo_new names.swo) names.swp (λ file. Leaves file (IsMade one)) first second (swp_apart names are) same has_one),
    ends_synced names.swo two second new syncs has_two,
  )

  pub both_moved : names_of first names.swp_new ≡ None → names_of second names.swo_new ≡ None → BothMoved names new
  both_moved one two = (
    λ lost. settled second new syncs lost names.swp_new ∙ same.now names.swp_new (swp_new_apart names are) ∙ one,
    λ lost. settled second new syncs lost names.swo_new ∙ two,
  )

-- ---- each moment

module _ (tells : Tells) (names : Names) (are : AreNames names) (one two : Synced) (first_is : one.generation ≡ 1) (second_is : two.generation ≡ 2) (old : Scene) (fresh : IsTrue tells.folder → IsFresh names old.folder) where
  abbrev MakesFirst : Disk → Disk → Type 0
  MakesFirst = Makes names.swp_new names.swp (body_of names.file one)

  abbrev MakesSecond : Disk → Disk → Type 0
  MakesSecond = Makes names.swo_new names.swo (body_of names.file two)

  abbrev Step : Disk → Disk → Type 0
  Step = Starting names one two

  in_first : IsTrue tells.folder → (d : Disk) → MakesFirst old.folder d → Step old.folder d
  in_first told d makes = record {
    spared = same_weaker (is_neither names.swp_new names.swp) (is_foreign names) old.folder d (foreign_first names) makes.spared;
    safe = two_may names one two d first_is second_is makes.made
        (may_none names.swo (body_of names.file two) d (absent_stays (is_neither names.swp_new names.swp) names.swo old.folder d (swo_apart names are) makes.spared (fresh told).no_swo));
  }

  pub making_first : (new : Scene) → Acts tells MakesFirst old new → Acts tells Step old new
  making_first new acts = acts_as tells MakesFirst Step old new in_first acts

  pub second_absent : (mid : Scene) → IsTrue tells.folder → MakesFirst old.folder mid.folder → IsAbsent names.swo mid.folder
  second_absent mid told makes = absent_stays (is_neither names.swp_new names.swp) names.swo old.folder mid.folder (swo_apart names are) makes.spared (fresh told).no_swo

  in_second : (mid : Disk) → MakesFirst old.folder mid → (d : Disk) → MakesSecond mid d → Step old.folder d
  in_second mid first d second = record {
    spared = same_then (is_foreign names) old.folder mid d (same_weaker (is_neither names.swp_new names.swp) (is_foreign names) old.folder mid (foreign_first names) first.spared)
        (same_weaker (is_neither names.swo_new names.swo) (is_foreign names) mid d (foreign_second names) second.spared);
    safe = two_may names one two d first_is second_is (may_stays (is_neither names.swo_new names.swo) names.swp (body_of names.file one) mid d (swp_apart names are) second.spared first.made) second.made;
  }

  pub making_second : (mid new : Scene) → NoneFails tells old mid → Acts tells MakesFirst old mid → Acts tells MakesSecond mid new → Acts tells Step old new
  making_second mid new none first second =
      acts_then tells MakesFirst MakesSecond Step old mid new in_first (λ told here d makes. in_second mid.folder here d makes) none first second

  pub syncing_names : (first second new : Scene) → NoneFails tells old second → Acts tells Step old second → (IsTrue tells.folder → MakesFirst old.folder first.folder) → (IsTrue tells.folder → MakesSecond first.folder second.folder)
      → Acts tells (λ a b. SyncsNames a b ⊎ (b ≡ a)) second new → Acts tells Step old new
  syncing_names first second new none so_far one_made two_made acts =
      acts_then tells Step (λ a b. SyncsNames a b ⊎ (b ≡ a)) Step old second new (λ told d same. same)
      (λ told here d either. elim either [
        | inl syncs ↦ record {
          spared = same_then (is_foreign names) old.folder second.folder d here.spared (synced_same (is_foreign names) second.folder d syncs);
          safe = two_may names one two d first_is second_is
              (may_synced names.swp (body_of names.file one) second.folder d syncs
              (may_stays (is_neither names.swo_new names.swo) names.swp (body_of names.file one) first.folder second.folder (swp_apart names are) (two_made told).spared (one_made told).made))
              (may_synced names.swo (body_of names.file two) second.folder d syncs (two_made told).made);
        }
        | inr same ↦ subst (λ (e : Disk). Step old.folder e) (sym same) here
      ]) none so_far acts

  -- when all is done
  abbrev both_known : Held → ℕ → Known
  both_known pages end = record {
    names = names;
    newer = Swo;
    gate = Open;
    generation = 2;
    pages = pages;
    newer_has = record { commits = pages.commits.count; end = end };
    older_has = record { commits = pages.commits.count; end = end };
  }

  pub both_fit : (pages : Held) (end : ℕ) → one.pages ≡ pages.committed → two.pages ≡ pages.committed → ((k : ℕ) → end ≤ k → pages.committed k ≡ None)
      → (0 < end → IsSome (pages.committed (end - 1))) → (first second new : Disk) → IsFolder new → FileHas first names.swp (λ file. Leaves file (Holds (body_of names.file one))) → MakesSecond first second
      → FileHas second names.swo (λ file. Leaves file (Holds (body_of names.file two))) → SyncsNames second new → IsFit (both_known pages end) new two [] (one ∷ [])
  both_fit pages end one_has two_has past last first second new folder has_one makes has_two syncs =
      let one_there = has_stays (is_neither names.swo_new names.swo) names.swp (λ file. Leaves file (Holds (body_of names.file one))) first second (swp_apart names are) makes.spared has_one in
      let one_now = always_synced names.swp (λ file. Leaves file (Holds (body_of names.file one))) second new syncs one_there in
      let two_now = always_synced names.swo (λ file. Leaves file (Holds (body_of names.file two))) second new syncs has_two in
      record {
        named = are;
        newer_number = has_two.number;
        older_number = one_there.number;
        differ = λ same. both_differ names are (folder.apart 0 names.swp names.swo one_there.number (one_now.leads 0) (two_now.leads 0 ∙ ap (λ (n : ℕ). Some n) same));
        newer = two_now;
        older_sync = one;
        older = one_now;
        ordered = record { member = inl refl; less = omega (arith, first_is, second_is) };
        newer_used = omega (arith, second_is);
        older_used = omega (arith, first_is);
        newer_keeps = keeps_all pages two.pages end two_has past (λ less. subst (λ (m : Map). IsSome (m (end - 1))) (sym two_has) (last less));
        older_keeps = keeps_all pages one.pages end one_has past (λ less. subst (λ (m : Map). IsSome (m (end - 1))) (sym one_has) (last less));
        newer_known = omega arith;
        older_known = omega arith;
        bound = omega arith;
      }

-- ---- one file, by the names and the body that it is made with

pub made_as : (tells : Tells) (t u n m : Name) (b d : Body) → t ≡ u → n ≡ m → b ≡ d → (old new : Scene) → Acts tells (Makes t n b) old new → Acts tells (Makes u m d) old new
made_as tells t u n m b d temporary name body old new acts =
    subst (λ (x : Name). Acts tells (Makes x m d) old new) temporary (subst (λ (x : Name). Acts tells (Makes t x d) old new) name (subst (λ (x : Body). Acts tells (Makes t n x) old new) body acts))

pub has_as : (n m : Name) (b d : Body) → n ≡ m → b ≡ d → (disk : Disk) → FileHas disk n (λ file. Leaves file (IsMade b)) → FileHas disk m (λ file. Leaves file (IsMade d))
has_as n m b d name body disk has = subst (λ (x : Name). FileHas disk x (λ file. Leaves file (IsMade d))) name (subst (λ (x : Body). FileHas disk n (λ file. Leaves file (IsMade x))) body has)

pub side_differs : (names : Names) → AreNames names → (side : Side) → temporary_of names side ≢ name_of names side
side_differs names are Swp = swp_differs names are
side_differs names are Swo = swo_differs names are

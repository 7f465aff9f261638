-- The pair through a sync of its older file.
use Rattle.std.proofs.Common.{◌≡◌, ◌≢◌, ◌⊎◌, inl, inr, ℕ, ◌+◌, ◌-◌, ◌<◌, ◌≤◌, ◌^◌, Bool, true, false, not, ◌||◌, cond, List, [], ◌∷◌, Option, Some, None, IsSome, option_map, refl, sym, ◌∙◌, ap, subst, arith}
use Rattle.std.specs.Str.{bytes_eq}
use Rattle.std.proofs.lemmas.Slice.Eq.{bytes_eq-Decides}
use Rattle.std.proofs.lemmas.Bool.{cases_Bool, cond-true, cond-false, true≢false, or_cases, not-false}
use Rattle.vs_host.specs.File.{File, IsFileImage, Leaves}
use Rattle.vs_host.specs.Disk.{Disk, Name, ChangesFile, IsImage, IsImageOf, IsFolder, names_of, names_at}
use Rattle.vs_host.specs.declared.names.Names.{Names}
use Rattle.vs_disk.specs.Images.{FileHas, FileAlways, KeepsImages}
use Rattle.vs_disk.specs.Names.{SameAt, IsApart}
use Rattle.vs_disk.proofs.Images.{read_image}
use Rattle.vs_disk.proofs.Steps.{same_at, itself, always_after, other_after}
use Rattle.vs_disk.proofs.Others.{file_outside}
use Rattle.vs_disk.proofs.Parts.{read_name}
use Rattle.vs_swap.specs.Recovery.{StandsIn}
use Rattle.vs_text.specs.Documents.{Document}
use Rattle.vs_swap.specs.Files.{StandsFor}
use Rattle.vs_pair.specs.declared.gate.Gate.{Gate}
use Rattle.vs_pair.specs.declared.gate.Gate.TheVariants.{Open, Closed, Unknown}
use Rattle.vs_pair.specs.declared.side.Side.{Side}
use Rattle.vs_pair.specs.declared.side.Side.TheVariants.{Swp, Swo}
use Rattle.vs_pair.specs.Swap.{Synced, Body, body_of, page_zero, IsOpen, HasBody, Holds, Fits, SyncStep, FailedSync}
use Rattle.vs_pair.specs.Swap.FailedSync.{InClosing, InWriting, InOpening}
use Rattle.vs_pair.specs.Pair.{Image, Known, name_of, other_side, is_swap, is_apart, HasEarlier, HasLater, Recovers, IsFit, IsOrdered, Syncing, Unmoved, IsDocumentOf, IsAbove, RisesAt, Rises}
use Rattle.vs_pair.specs.Stale.{nothing}
use Rattle.vs_pair.proofs.FreshPages.{keeps_nothing, keeps_all}
use Rattle.vs_pair.proofs.Gates.{body_stays, fits_body, has_at, zeros_not_open}
use Rattle.vs_pair.proofs.Offers.{image_at, two_offer, other_twice, holds_stands}
use Rattle.vs_pair.proofs.Reading.{stands_open, stands_generation}

-- ---- the names

pub side_is_swap : (names : Names) (side : Side) → is_swap names (name_of names side) ≡ true
side_is_swap names Swp = ap (λ (b : Bool). b || bytes_eq names.swo names.swp) (itself names.swp)
side_is_swap names Swo = ap (λ (b : Bool). bytes_eq names.swp names.swo || b) (itself names.swo) ∙ or_true (bytes_eq names.swp names.swo)
  where
    or_true : (b : Bool) → (b || true) ≡ true
    or_true true = refl
    or_true false = refl

pub side_outside : (names : Names) (side : Side) → is_apart names (name_of names side) ≡ false
side_outside names side = ap (λ (b : Bool). not b) (side_is_swap names side)

-- a name that is not apart is that of one of the two files
pub at_side : (names : Names) (name : Name) → is_apart names name ≡ false → (side : Side) × (name ≡ name_of names side)
at_side names name out = elim (or_cases (bytes_eq names.swp name) (bytes_eq names.swo name) (not-false (is_swap names name) out)) [
  | inl same ↦ (Swp, sym ((bytes_eq-Decides names.swp name).0 same))
  | inr same ↦ (Swo, sym ((bytes_eq-Decides names.swo name).0 same))
]

pub two_sides : (side newer : Side) → (side ≡ newer) ⊎ (side ≡ other_side newer)
two_sides Swp Swp = inl refl
two_sides Swp Swo = inr refl
two_sides Swo Swp = inr refl
two_sides Swo Swo = inl refl

-- ---- a pair that fits

-- where a name leads now, it leads always
led : (disk : Disk) (name : Name) (number : ℕ) (P : File → Type 0) → FileAlways disk name number P → (found : ℕ) → names_of disk name ≡ Some found → (lost : ℕ) → names_at disk lost name ≡ Some found
led disk name number P always found leads lost = always.leads lost ∙ sym (always.leads 0) ∙ leads

module _ (files : Known) (newest : Synced) (begun past : List Synced) (disk : Disk) (fit : IsFit files disk newest begun past) where
  leads_always : (side : Side) (found : ℕ) → names_of disk (name_of files.names side) ≡ Some found → (lost : ℕ) → names_at disk lost (name_of files.names side) ≡ Some found
  leads_always side found leads lost = elim (two_sides side files.newer) [
    | inl is ↦ subst (λ (s : Side). names_of disk (name_of files.names s) ≡ Some found → names_at disk lost (name_of files.names s) ≡ Some found) (sym is) (λ l. led disk (name_of files.names files.newer) fit.newer_number _ fit.newer found l lost) leads
    | inr is ↦ subst (λ (s : Side). names_of disk (name_of files.names s) ≡ Some found → names_at disk lost (name_of files.names s) ≡ Some found) (sym is)
        (λ l. led disk (name_of files.names (other_side files.newer)) fit.older_number _ fit.older found l lost) leads
  ]

  -- no other name leads to a file of the pair
  pub fit_apart : IsFolder disk → IsApart (is_apart files.names) disk
  fit_apart folder = record {
    alone = λ lost name other number inside outside leads there.
        let side = at_side files.names other outside in
        let now : names_of disk (name_of files.names side.0) ≡ Some number = ap (λ (n : Name). names_of disk n) (sym side.1) ∙ there in
        let same : name ≡ name_of files.names side.0 = folder.apart lost name (name_of files.names side.0) number leads (leads_always side.0 number now lost) in
        true≢false (sym inside ∙ ap (is_apart files.names) same ∙ side_outside files.names side.0);
  }

  -- the generation of each that stands was used
  used_newer : (image : Image) → IsImage disk image → (g : ℕ) (document : Document) → StandsIn (image (name_of files.names files.newer)) g document → g ≡ newest.generation
  used_newer image whole g document stands =
      let at = image_at disk (name_of files.names files.newer) fit.newer_number (Holds (body_of files.names.file newest)) fit.newer image whole in
      stands_generation files.names.file newest fit.named.allowed (omega (arith, fit.newer_used, fit.bound)) at.0 at.2.whole g document (subst (λ (o : Option (List ℕ)). StandsIn o g document) at.1 stands)

  older_image : (gate : Gate) → Fits gate (body_of files.names.file fit.older_sync) (disk.files fit.older_number) → (c : List ℕ) → IsFileImage (disk.files fit.older_number) c → (g : ℕ) (document : Document) → StandsFor c g document
      → g ≡ fit.older_sync.generation
  older_image Closed fits c image g document stands = absurd (zeros_not_open c (fits c image) (stands_open c g document stands))
  older_image Open fits c image g document stands = stands_generation files.names.file fit.older_sync fit.named.allowed (omega (arith, fit.older_used, fit.bound)) c (fits c image).whole g document stands
  older_image Unknown fits c image g document stands = stands_generation files.names.file fit.older_sync fit.named.allowed (omega (arith, fit.older_used, fit.bound)) c (fits c image) g document stands

  used_older : (image : Image) → IsImage disk image → (g : ℕ) (document : Document) → StandsIn (image (name_of files.names (other_side files.newer))) g document → g ≤ files.generation
  used_older image whole g document stands =
      let name = name_of files.names (other_side files.newer) in
      let here = subst (λ (o : Option ℕ). IsImageOf disk o (image name)) (fit.older.leads whole.0) (whole.1 name) in
      omega (arith, fit.older_used, older_image files.gate fit.older.has here.0 here.2 g document (subst (λ (o : Option (List ℕ)). StandsIn o g document) here.1 stands))

  used : (image : Image) → IsImage disk image → (side : Side) (g : ℕ) (document : Document) → StandsIn (image (name_of files.names side)) g document → g ≤ files.generation
  used image whole side g document stands = elim (two_sides side files.newer) [
    | inl is ↦ omega (arith, fit.newer_used, used_newer image whole g document (subst (λ (s : Side). StandsIn (image (name_of files.names s)) g document) is stands))
    | inr is ↦ used_older image whole g document (subst (λ (s : Side). StandsIn (image (name_of files.names s)) g document) is stands)
  ]

  -- a generation that was not used is above all
  pub all_used : (generation : ℕ) → files.generation < generation → IsAbove files.names disk generation
  all_used generation lt image g document whole (inl stands) = omega (arith, lt, used image whole Swp g document stands)
  all_used generation lt image g document whole (inr stands) = omega (arith, lt, used image whole Swo g document stands)

  -- what is above all is above the newest, which stands
  pub above_newest : (document : Document) → IsDocumentOf newest document → (generation : ℕ) → IsAbove files.names disk generation → newest.generation < generation
  above_newest document is generation above =
      let image : Image = λ name. option_map (λ (number : ℕ). (disk.files number).bytes) (names_of disk name) in
      let whole : IsImage disk image = (0, λ name. read_name disk (names_of disk name)) in
      let at = image_at disk (name_of files.names files.newer) fit.newer_number (Holds (body_of files.names.file newest)) fit.newer image whole in
      let stands : StandsIn (image (name_of files.names files.newer)) newest.generation document =
      subst (λ (o : Option (List ℕ)). StandsIn o newest.generation document) (sym at.1) (holds_stands files.names fit.named.allowed [] newest document is (omega (arith, fit.newer_used, fit.bound)) at.0 at.2) in
      by_side files.newer image whole stands
    where
      by_side : (side : Side) (image : Image) → IsImage disk image → StandsIn (image (name_of files.names side)) newest.generation document → newest.generation < generation
      by_side Swp image whole stands = above image newest.generation document whole (inl stands)
      by_side Swo image whole stands = above image newest.generation document whole (inr stands)

  -- ---- nothing rose

  -- an image in which the older file has this content
  abbrev showing : List ℕ → Image
  showing c name = cond (bytes_eq (name_of files.names (other_side files.newer)) name) (Some c) (option_map (λ (number : ℕ). (disk.files number).bytes) (names_of disk name))

  shows : (c : List ℕ) → IsFileImage (disk.files fit.older_number) c → IsImage disk (showing c)
  shows c is = (
    0,
    λ name.
        let older : Name = name_of files.names (other_side files.newer) in
        elim (cases_Bool (bytes_eq older name)) [
          | inl same ↦
              let here : IsImageOf disk (Some fit.older_number) (Some c) = (c, refl, is) in
              let there : names_of disk name ≡ Some fit.older_number = ap (λ (n : Name). names_of disk n) (sym ((bytes_eq-Decides older name).0 same)) ∙ fit.older.leads 0 in
              subst (λ (found : Option (List ℕ)). IsImageOf disk (names_of disk name) found) (sym (cond-true (bytes_eq older name) (Some c) _ same))
              (subst (λ (at : Option ℕ). IsImageOf disk at (Some c)) (sym there) here)
          | inr not_same ↦ subst (λ (found : Option (List ℕ)). IsImageOf disk (names_of disk name) found) (sym (cond-false (bytes_eq older name) (Some c) _ not_same)) (read_name disk (names_of disk name))
        ],
  )

  shown : (c : List ℕ) → showing c (name_of files.names (other_side files.newer)) ≡ Some c
  shown c = cond-true (bytes_eq (name_of files.names (other_side files.newer)) (name_of files.names (other_side files.newer))) (Some c) _ (itself (name_of files.names (other_side files.newer)))

  -- the older file may be left so that it does not stand with more
  no_more : (gate : Gate) → Fits gate (body_of files.names.file fit.older_sync) (disk.files fit.older_number) → IsOrdered gate newest fit.older_sync begun past (disk.files fit.older_number)
      → (c : List ℕ) × IsFileImage (disk.files fit.older_number) c × ((g : ℕ) (document : Document) → StandsFor c g document → g < newest.generation)
  no_more Closed fits ordered =
      let file : File = disk.files fit.older_number in
      (file.bytes, read_image file, λ g document stands. absurd (zeros_not_open file.bytes (fits file.bytes (read_image file)) (stands_open file.bytes g document stands)))
  no_more Open fits ordered =
      let file : File = disk.files fit.older_number in
      (file.bytes, read_image file, λ g document stands. omega (arith, ordered.less, older_image Open fits file.bytes (read_image file) g document stands))
  no_more Unknown fits (inl earlier) =
      let file : File = disk.files fit.older_number in
      (file.bytes, read_image file, λ g document stands. omega (arith, earlier.less, older_image Unknown fits file.bytes (read_image file) g document stands))
  no_more Unknown fits (inr later) = (later.may.image, later.may.is, λ g document stands. absurd (later.may.not_open (stands_open later.may.image g document stands)))

  pub none_rises : (old : Disk) → ((generation : ℕ) → IsAbove files.names old generation → newest.generation < generation) → Rises files.names old disk → ⊥
  none_rises old above rises = elim (two_sides rises.0 files.newer) [
    | inl is ↦
        let image : Image = λ name. option_map (λ (number : ℕ). (disk.files number).bytes) (names_of disk name) in
        let whole : IsImage disk image = (0, λ name. read_name disk (names_of disk name)) in
        let risen = subst (λ (s : Side). RisesAt files.names s old disk) is rises.1 image whole in
        omega (arith, above risen.0 risen.3, used_newer image whole risen.0 risen.1 risen.2)
    | inr is ↦
        let one = no_more files.gate fit.older.has fit.ordered in
        let risen = subst (λ (s : Side). RisesAt files.names s old disk) is rises.1 (showing one.0) (shows one.0 one.1) in
        omega (arith, above risen.0 risen.3, one.2 risen.0 risen.1 (subst (λ (o : Option (List ℕ)). StandsIn o risen.0 risen.1) (shown one.0) risen.2))
  ]

-- ---- the sync of the older file

-- which sync an open image has while this one writes
step_class : (file : Name) (newest older sync : Synced) (begun past : List Synced) → newest.generation < sync.generation → sync.generation < 2 ^ 64 → older.generation < 2 ^ 64 → (gate : Gate) (x y : File)
    → Fits gate (body_of file older) x → IsOrdered gate newest older begun past x → SyncStep gate (body_of file sync) x y
    → Leaves y (λ c. IsOpen c → HasEarlier file newest (newest ∷ past) c ⊎ HasLater file newest (sync ∷ begun) c)
step_class file newest older sync begun past more small older_small Closed x y fits ordered step c image opened =
    let now = λ (has : HasBody (body_of file sync) c). inr (record { sync = sync; member = inl refl; body = has; more = more; small = small }) in
    elim (step (body_of file sync) fits c image opened) [ inl has ↦ now has | inr has ↦ now has ]
step_class file newest older sync begun past more small older_small Open x y fits ordered step c image opened =
    elim (step (body_of file older) fits c image opened) [
      | inl has ↦ inl (record { earlier = older; member = inr ordered.member; body = has; less = ordered.less })
      | inr has ↦ inr (record { sync = sync; member = inl refl; body = has; more = more; small = small })
    ]
step_class file newest older sync begun past more small older_small Unknown x y fits ordered step c image opened =
    elim (step (body_of file older) fits c image opened) [
      | inl has ↦ elim ordered [
        | inl earlier ↦ inl (record { earlier = older; member = inr earlier.member; body = has; less = earlier.less })
        | inr later ↦ inr (record { sync = older; member = inr later.member; body = has; more = later.more; small = older_small })
      ]
      | inr has ↦ inr (record { sync = sync; member = inl refl; body = has; more = more; small = small })
    ]

-- what the older file is after a sync that failed
abbrev After : Name → Synced → Synced → Synced → List Synced → List Synced → Gate → File → Type 0
After file newest older sync begun past gate y =
    (Fits gate (body_of file older) y × IsOrdered gate newest older (sync ∷ begun) past y) ⊎ (Fits gate (body_of file sync) y × IsOrdered gate newest sync (sync ∷ begun) past y)

ordered_on : (newest older sync : Synced) (begun past : List Synced) (gate : Gate) (x y : File) → gate ≢ Closed → KeepsImages x y → IsOrdered gate newest older begun past x → IsOrdered Unknown newest older (sync ∷ begun) past y
ordered_on newest older sync begun past Open x y not_closed keeps ordered = inl ordered
ordered_on newest older sync begun past Closed x y not_closed keeps ordered = absurd (not_closed refl)
ordered_on newest older sync begun past Unknown x y not_closed keeps (inl earlier) = inl earlier
ordered_on newest older sync begun past Unknown x y not_closed keeps (inr later) =
    inr (record { member = inr later.member; more = later.more; may = record { image = later.may.image; is = keeps later.may.image later.may.is; not_open = later.may.not_open } })

failed_class : (file : Name) (newest older sync : Synced) (begun past : List Synced) → newest.generation < sync.generation → (before gate : Gate) (x y : File) → Fits before (body_of file older) x → IsOrdered before newest older begun past x
    → FailedSync before gate (body_of file sync) x y → After file newest older sync begun past gate y
failed_class file newest older sync begun past more before gate x y fits ordered (InClosing not_closed unknown changes keeps) =
    subst (λ (g : Gate). After file newest older sync begun past g y) (sym unknown)
    (inl (body_stays (body_of file older) x y changes (fits_body before (body_of file older) x not_closed fits), ordered_on newest older sync begun past before x y not_closed keeps ordered))
failed_class file newest older sync begun past more before gate x y fits ordered (InWriting closed shuts) =
    subst (λ (g : Gate). After file newest older sync begun past g y) (sym closed) (inl (shuts (body_of file older) fits, tt))
failed_class file newest older sync begun past more before gate x y fits ordered (InOpening unknown whole) =
    subst (λ (g : Gate). After file newest older sync begun past g y) (sym unknown)
    (let now = whole (body_of file older) fits in inr (now.0, inr (record { member = inl refl; more = more; may = now.1 })))

module _ (files : Known) (newest : Synced) (begun past : List Synced) (old : Disk) (fit : IsFit files old newest begun past) (sync : Synced) (next : sync.generation ≡ files.generation + 1) (room : files.generation < 2 ^ 63) where
  abbrev file : Name
  file = files.names.file

  abbrev newer : Name
  newer = name_of files.names files.newer

  abbrev pub older : Name
  older = name_of files.names (other_side files.newer)

  more : newest.generation < sync.generation
  more = omega (arith, next, fit.newer_used)

  abbrev Before : File → Type 0
  Before x = Fits files.gate (body_of file fit.older_sync) x × IsOrdered files.gate newest fit.older_sync begun past x

  before : FileAlways old older fit.older_number Before
  before = record { leads = fit.older.leads; has = (fit.older.has, fit.ordered) }

  newest_stays : (step : File → File → Type 0) (new : Disk) → ChangesFile older step old new → FileAlways new newer fit.newer_number (λ f. Leaves f (Holds (body_of file newest)))
  newest_stays step new changes =
      other_after older newer fit.older_number fit.newer_number step Before (λ f. Leaves f (Holds (body_of file newest))) old new changes before fit.newer fit.differ

  pub spared : (step : File → File → Type 0) (new : Disk) → IsFolder old → ChangesFile older step old new → SameAt (is_apart files.names) old new
  spared step new folder changes = (file_outside (is_apart files.names) older step old new (side_outside files.names (other_side files.newer)) (fit_apart files newest begun past old fit folder) changes).0

  pub unmoved : (step : File → File → Type 0) (new : Disk) → IsFolder old → ChangesFile older step old new → Unmoved (is_apart files.names) old new
  unmoved step new folder changes = record {
    names = λ lost name is. same_at older step old new changes lost name;
    files = λ lost name number is leads. changes.others number
        (λ there. (fit_apart files newest begun past old fit folder).alone lost name older number is (side_outside files.names (other_side files.newer)) leads there);
  }

  pub safe : (new : Disk) → ChangesFile older (SyncStep files.gate (body_of file sync)) old new → Recovers files.names (newest ∷ sync ∷ begun) (newest ∷ past) new
  safe new changes image whole =
      let Class : List ℕ → Type 0 = λ c. IsOpen c → HasEarlier file newest (newest ∷ past) c ⊎ HasLater file newest (sync ∷ begun) c in
      let oldest : FileAlways new older fit.older_number (λ f. Leaves f Class) =
      always_after older fit.older_number (SyncStep files.gate (body_of file sync)) Before (λ f. Leaves f Class)
      (λ x y was step. step_class file newest fit.older_sync sync begun past more (omega (arith, next, room)) (omega (arith, fit.older_used, fit.bound)) files.gate x y was.0 was.1 step) old new changes before in
      let one = image_at new newer fit.newer_number (Holds (body_of file newest)) (newest_stays (SyncStep files.gate (body_of file sync)) new changes) image whole in
      let two = image_at new older fit.older_number Class oldest image whole in
      two_offer files.names files.newer newest past (sync ∷ begun) image (omega (arith, fit.newer_used, fit.bound)) one.0 two.0 one.1 two.1 one.2 two.2

  pub there : FileHas old older (Fits files.gate (body_of file fit.older_sync))
  there = record { number = fit.older_number; leads = fit.older.leads 0; has = fit.older.has }

  -- after a sync that failed
  abbrev pub with_gate : Gate → Known
  with_gate gate = record files { gate = gate; generation = files.generation + 1; older_has = nothing }

  pub failed : (gate : Gate) (new : Disk) → ChangesFile older (FailedSync files.gate gate (body_of file sync)) old new → IsFit (with_gate gate) new newest (sync ∷ begun) past
  failed gate new changes =
      let now : FileAlways new older fit.older_number (After file newest fit.older_sync sync begun past gate) =
      always_after older fit.older_number (FailedSync files.gate gate (body_of file sync)) Before (After file newest fit.older_sync sync begun past gate)
      (λ x y was step. failed_class file newest fit.older_sync sync begun past more files.gate gate x y was.0 was.1 step) old new changes before in
      let first = newest_stays (FailedSync files.gate gate (body_of file sync)) new changes in
      elim now.has [
        | inl same ↦ record {
          named = fit.named;
          newer_number = fit.newer_number;
          older_number = fit.older_number;
          differ = fit.differ;
          newer = first;
          older_sync = fit.older_sync;
          older = record { leads = now.leads; has = same.0 };
          ordered = same.1;
          newer_used = omega (arith, fit.newer_used);
          older_used = omega (arith, fit.older_used);
          newer_keeps = fit.newer_keeps;
          older_keeps = keeps_nothing gate files.pages fit.older_sync.pages;
          newer_known = fit.newer_known;
          older_known = omega arith;
          bound = omega (arith, room);
        }
        | inr later ↦ record {
          named = fit.named;
          newer_number = fit.newer_number;
          older_number = fit.older_number;
          differ = fit.differ;
          newer = first;
          older_sync = sync;
          older = record { leads = now.leads; has = later.0 };
          ordered = later.1;
          newer_used = omega (arith, fit.newer_used);
          older_used = omega (arith, next);
          newer_keeps = fit.newer_keeps;
          older_keeps = keeps_nothing gate files.pages sync.pages;
          newer_known = fit.newer_known;
          older_known = omega arith;
          bound = omega (arith, room);
        }
      ]

  -- after a sync that was acknowledged: the older file is the newer one from now on
  abbrev pub turned : ℕ → Known
  turned end = record files {
    newer = other_side files.newer;
    gate = Open;
    generation = files.generation + 1;
    newer_has = record { commits = files.pages.commits.count; end = end };
    older_has = files.newer_has;
  }

  module _ (step : File → File → Type 0) (new : Disk) (changes : ChangesFile older step old new) (has : FileHas new older (λ f. Leaves f (Holds (body_of file sync)))) where
    now_newer : FileAlways new older fit.older_number (λ f. Leaves f (Holds (body_of file sync)))
    now_newer =
        let leads = λ (lost : ℕ). same_at older step old new changes lost older ∙ fit.older.leads lost in
        record { leads = leads; has = has_at older (λ f. Leaves f (Holds (body_of file sync))) new has fit.older_number (leads 0) }

    pub done : (end : ℕ) → sync.pages ≡ files.pages.committed → ((k : ℕ) → end ≤ k → files.pages.committed k ≡ None) → (0 < end → IsSome (sync.pages (end - 1)))
        → IsFit (turned end) new sync [] (newest ∷ past)
    done end all none last =
        let first = newest_stays step new changes in
        record {
          named = fit.named;
          newer_number = fit.older_number;
          older_number = fit.newer_number;
          differ = λ same. fit.differ (sym same);
          newer = now_newer;
          older_sync = newest;
          older = subst (λ (s : Side). FileAlways new (name_of files.names s) fit.newer_number (λ f. Leaves f (Holds (body_of file newest)))) (sym (other_twice files.newer)) first;
          ordered = record { member = inl refl; less = more };
          newer_used = omega (arith, next);
          older_used = omega (arith, fit.newer_used);
          newer_keeps = keeps_all files.pages sync.pages end all none last;
          older_keeps = fit.newer_keeps;
          newer_known = omega arith;
          older_known = fit.newer_known;
          bound = omega (arith, room);
        }

    pub rises : (document : Document) → IsDocumentOf sync document → Rises files.names old new
    rises document is = (
      other_side files.newer,
      λ image whole.
          let at = image_at new older fit.older_number (Holds (body_of file sync)) now_newer image whole in (
            sync.generation,
            document,
            subst (λ (o : Option (List ℕ)). StandsIn o sync.generation document) (sym at.1) (holds_stands files.names fit.named.allowed [] sync document is (omega (arith, next, room)) at.0 at.2),
            all_used files newest begun past old fit sync.generation (omega (arith, next)),
          ),
    )

-- page 0 as it was made is that of the sync
pub body_is : (file : Name) (sync : Synced) (name : Name) (first : List ℕ) → name ≡ file → first ≡ page_zero name sync.generation sync.head → record { first = first; pages = sync.pages } ≡ body_of file sync
body_is file sync name first named is = λ i. record { first = (is ∙ ap (λ (n : Name). page_zero n sync.generation sync.head) named) i; pages = sync.pages }

-- the same under a name and with a body that are equal
pub moved : (name older : Name) → name ≡ older → (body other : Body) → body ≡ other → (S : Body → File → File → Type 0) (old new : Disk) → ChangesFile name (S body) old new → ChangesFile older (S other) old new
moved name older is body other same S old new changes = subst (λ (b : Body). ChangesFile older (S b) old new) same (subst (λ (n : Name). ChangesFile n (S body) old new) is changes)

pub moved_has : (name older : Name) → name ≡ older → (body other : Body) → body ≡ other → (P : Body → File → Type 0) (disk : Disk) → FileHas disk name (P body) → FileHas disk older (P other)
moved_has name older is body other same P disk has = subst (λ (b : Body). FileHas disk older (P b)) same (subst (λ (n : Name). FileHas disk n (P body)) is has)

-- all that a sync does at each moment
pub syncing : (files : Known) (sync : Synced) (old new : Disk) → sync.generation ≡ files.generation + 1 → files.generation < 2 ^ 63 → IsFolder old
    → ChangesFile (name_of files.names (other_side files.newer)) (SyncStep files.gate (body_of files.names.file sync)) old new → Syncing files sync old new
syncing files sync old new next room folder changes = record {
  spared = λ newest begun past fit. spared files newest begun past old fit sync next room (SyncStep files.gate (body_of files.names.file sync)) new folder changes;
  unmoved = λ newest begun past fit. unmoved files newest begun past old fit sync next room (SyncStep files.gate (body_of files.names.file sync)) new folder changes;
  safe = λ newest begun past fit. safe files newest begun past old fit sync next room new changes;
}

-- What a stop leaves of a file after a write, a cut or a sync of it: an image is compared with one from before, byte by byte.
use Rattle.std.proofs.Common.{◌≡◌, ◌⊎◌, inl, inr, ℕ, ◌+◌, ◌-◌, ◌<◌, ◌≤◌, min, max, false, cond, List, ◌∷◌, ◌++◌, length, get_or, take, drop, map, refl, sym, ◌∙◌, ap, subst, arith, length-append, length-take, length-drop, nat_le, nat_lt, ◌&&◌}
use Rattle.std.proofs.lemmas.List.{ext_get_or, get_or_append_left, get_or-append_right, get_or-drop, get_or-take, get_or_past}
use Rattle.std.proofs.lemmas.List.FromFn.{length-map-range_with_len, get_or-map-range_with_len}
use Rattle.std.specs.List.{range_with_len}
use Rattle.std.proofs.lemmas.Bool.{or_parts, and_cases, leb-false, ltb-false, cases_Bool, or_from, and_left, and_right, cond-true, cond-false, lt-leb, le-ltb}
use Rattle.vs_host.specs.File.{File, IsFileImage, covers, put, with_bytes, cut_to, synced_file, WritesSome, Cuts, Syncs, Leaves}
use Rattle.vs_disk.specs.Images.{MaySync, Keeps, KeepsImages, Narrows, Torn}

-- a synced file is what it was read as
pub synced_image : (bytes c : List ℕ) → IsFileImage (synced_file bytes) c → c ≡ bytes
synced_image bytes c image =
    let same_length : length c ≡ length bytes = omega (arith, image.no_shorter, image.no_longer) in
    ext_get_or 0 c bytes same_length (λ k lt. image.same k lt refl)

pub length-put : (bytes piece : List ℕ) (at : ℕ) → at ≤ length bytes → length (put bytes at piece) ≡ max (length bytes) (at + length piece)
length-put bytes piece at le =
    omega (arith, length-append (take at bytes ++ piece) (drop (at + length piece) bytes), length-append (take at bytes) piece, length-take at bytes, length-drop (at + length piece) bytes)

front_length : (bytes piece : List ℕ) (at : ℕ) → at ≤ length bytes → length (take at bytes ++ piece) ≡ at + length piece
front_length bytes piece at le = omega (arith, length-append (take at bytes) piece, length-take at bytes)

pub get_or-put_before : (bytes piece : List ℕ) (at k : ℕ) → at ≤ length bytes → k < at → get_or (put bytes at piece) k 0 ≡ get_or bytes k 0
get_or-put_before bytes piece at k le lt =
    get_or_append_left (take at bytes ++ piece) (drop (at + length piece) bytes) 0 k (omega (arith, front_length bytes piece at le))
    ∙ get_or_append_left (take at bytes) piece 0 k (omega (arith, length-take at bytes))
    ∙ get_or-take at bytes k 0 lt

pub get_or-put_after : (bytes piece : List ℕ) (at k : ℕ) → at ≤ length bytes → at + length piece ≤ k → get_or (put bytes at piece) k 0 ≡ get_or bytes k 0
get_or-put_after bytes piece at k le past =
    let n = at + length piece in
    let whole : n + (k - n) ≡ k = omega arith in
    get_or-append_right (take at bytes ++ piece) (drop n bytes) n k 0 (front_length bytes piece at le) past
    ∙ get_or-drop n bytes (k - n) 0
    ∙ ap (λ (i : ℕ). get_or bytes i 0) whole

-- outside the range
abbrev Outside : ℕ → ℕ → ℕ → Type 0
Outside at n k = (k < at) ⊎ (at + n ≤ k)

not_covered : (at n k : ℕ) (changed : List (ℕ × ℕ)) → Outside at n k → covers changed k ≡ false → covers ((at, n) ∷ changed) k ≡ false
not_covered at n k changed (inl lt) rest = or_from (nat_le at k && nat_lt k (at + n)) (covers changed k) (and_left (nat_le at k) (nat_lt k (at + n)) (lt-leb at k lt)) rest
not_covered at n k changed (inr le) rest = or_from (nat_le at k && nat_lt k (at + n)) (covers changed k) (and_right (nat_le at k) (nat_lt k (at + n)) (le-ltb k (at + n) le)) rest

put_outside : (bytes piece : List ℕ) (at n k : ℕ) → at ≤ length bytes → length piece ≤ n → Outside at n k → get_or (put bytes at piece) k 0 ≡ get_or bytes k 0
put_outside bytes piece at n k le fits (inl lt) = get_or-put_before bytes piece at k le lt
put_outside bytes piece at n k le fits (inr past) = get_or-put_after bytes piece at k le (omega arith)

-- Each image of a file that was written is an image from before, torn in the range.
module _ (file : File) (at n : ℕ) (piece c : List ℕ) (le : at ≤ length file.bytes) (fits : length piece ≤ n) (image : IsFileImage (with_bytes file at n (put file.bytes at piece)) c) where
  -- where the file was not changed, what it was read as, and elsewhere what is there
  abbrev was : ℕ → ℕ
  was k = cond (covers file.changed k) (get_or c k 0) (get_or file.bytes k 0)

  abbrev size : ℕ
  size = min (length c) (max file.greatest (length file.bytes))

  abbrev before : List ℕ
  before = map was (range_with_len 0 size)

  long : length before ≡ size
  long = length-map-range_with_len was 0 size

  at_place : (k : ℕ) → k < size → get_or before k 0 ≡ was k
  at_place k lt = get_or-map-range_with_len was 0 size k k 0 lt (omega arith)

  grown : length (put file.bytes at piece) ≡ max (length file.bytes) (at + length piece)
  grown = length-put file.bytes piece at le

  is_image : IsFileImage file before
  is_image = record {
    no_shorter = omega (arith, long, image.no_shorter, grown);
    no_longer = omega (arith, long);
    same = λ k lt fixed. at_place k (omega (arith, long, lt)) ∙ cond-false (covers file.changed k) (get_or c k 0) (get_or file.bytes k 0) fixed;
  }

  kept : (k : ℕ) → k < length c → Outside at n k → get_or c k 0 ≡ was k
  kept k lt out = elim (cases_Bool (covers file.changed k)) [
    | inl changed ↦ sym (cond-true (covers file.changed k) (get_or c k 0) (get_or file.bytes k 0) changed)
    | inr fixed ↦ image.same k lt (not_covered at n k file.changed out fixed) ∙ put_outside file.bytes piece at n k le fits out ∙ sym (cond-false (covers file.changed k) (get_or c k 0) (get_or file.bytes k 0) fixed)
  ]

  is_torn : Torn at n before c
  is_torn = record {
    before = ext_get_or 0 (take at c) (take at before) (omega (arith, length-take at c, length-take at before, long, image.no_longer, grown))
        (λ k lt. let below : k < at = omega (arith, length-take at c, lt) in
        let within : k < length c = omega (arith, length-take at c, lt) in
        let small : k < min (length c) (max file.greatest (length file.bytes)) = omega (arith, below, within, le) in
        get_or-take at c k 0 below ∙ kept k within (inl below) ∙ sym (at_place k small) ∙ sym (get_or-take at before k 0 below));
    after = ext_get_or 0 (drop (at + n) c) (drop (at + n) before) (omega (arith, length-drop (at + n) c, length-drop (at + n) before, long, image.no_longer, grown))
        (λ k lt. let within : at + n + k < length c = omega (arith, length-drop (at + n) c, lt) in
        let small : at + n + k < min (length c) (max file.greatest (length file.bytes)) = omega (arith, within, image.no_longer, grown) in
        get_or-drop (at + n) c k 0 ∙ kept (at + n + k) within (inr (omega arith)) ∙ sym (at_place (at + n + k) small) ∙ sym (get_or-drop (at + n) before k 0));
    no_shorter = omega (arith, long);
    no_longer = omega (arith, long, image.no_longer, grown);
  }

torn_itself : (at n : ℕ) (c : List ℕ) → Torn at n c c
torn_itself at n c = record { before = refl; after = refl; no_shorter = omega arith; no_longer = omega arith }

-- so it is after every answer of a write
pub torn_image : (file new : File) (at n : ℕ) (c : List ℕ) → WritesSome at n file new → IsFileImage new c → (d : List ℕ) × IsFileImage file d × Torn at n d c
torn_image file new at n c (inl same) image = (c, subst (λ (f : File). IsFileImage f c) same image, torn_itself at n c)
torn_image file new at n c (inr some) image =
    let written = subst (λ (f : File). IsFileImage f c) some.3 image in
    (before file at n some.0 c some.1 some.2 written, is_image file at n some.0 c some.1 some.2 written, is_torn file at n some.0 c some.1 some.2 written)

-- the bytes as read are an image
pub read_image : (file : File) → IsFileImage file file.bytes
read_image file = record { no_shorter = omega arith; no_longer = omega arith; same = λ k lt fixed. refl }

-- What holds of each image and survives such a tear holds of each image after a write.
pub write_keeps : (P : List ℕ → Type 0) (at n : ℕ) → ((d c : List ℕ) → Torn at n d c → P d → P c) → (old new : File) → WritesSome at n old new → Keeps P old new
write_keeps P at n survives old new some all c image =
    let from = torn_image old new at n c some image in
    survives from.0 c from.2 (all from.0 from.1)

-- after a sync each image is what was read
pub sync_leaves : (P : List ℕ → Type 0) (old new : File) → Syncs old new → P old.bytes → Leaves new P
sync_leaves P old new syncs holds c image =
    let is : c ≡ old.bytes = synced_image old.bytes c (subst (λ (f : File). IsFileImage f c) syncs image) in
    subst P (sym is) holds

pub sync_keeps : (P : List ℕ → Type 0) (old new : File) → MaySync old new → Keeps P old new
sync_keeps P old new (inl same) all = subst (λ (f : File). Leaves f P) (sym same) all
sync_keeps P old new (inr syncs) all = sync_leaves P old new syncs (all old.bytes (read_image old))

-- what a write covers
split_covers : (at n k : ℕ) (changed : List (ℕ × ℕ)) → covers ((at, n) ∷ changed) k ≡ false → Outside at n k × (covers changed k ≡ false)
split_covers at n k changed none =
    let parts = or_parts (nat_le at k && nat_lt k (at + n)) (covers changed k) none in (
      elim (and_cases (nat_le at k) (nat_lt k (at + n)) parts.0) [
        | inl below ↦ inl (leb-false at k below)
        | inr past ↦ inr (ltb-false k (at + n) past)
      ],
      parts.1,
    )

-- An image from before a write is one after it too, as the bytes of the last sync are.
pub image_kept : (file : File) (at n : ℕ) (piece c : List ℕ) → at ≤ length file.bytes → length piece ≤ n → IsFileImage file c → IsFileImage (with_bytes file at n (put file.bytes at piece)) c
image_kept file at n piece c le fits image = record {
  no_shorter = omega (arith, image.no_shorter, length-put file.bytes piece at le);
  no_longer = omega (arith, image.no_longer, length-put file.bytes piece at le);
  same = λ k lt none. let parts = split_covers at n k file.changed none in image.same k lt parts.1 ∙ sym (put_outside file.bytes piece at n k le fits parts.0);
}

-- So is an image from before a cut.
pub image_cut : (file : File) (len : ℕ) (c : List ℕ) → len ≤ length file.bytes → IsFileImage file c → IsFileImage (cut_to len file) c
image_cut file len c le image = record {
  no_shorter = omega (arith, image.no_shorter, length-take len file.bytes);
  no_longer = omega (arith, image.no_longer, length-take len file.bytes);
  same = λ k lt none.
      let parts = split_covers len (length file.bytes - len) k file.changed none in
      image.same k lt parts.1 ∙ sym (taken k parts.0);
}
  where
    taken : (k : ℕ) → Outside len (length file.bytes - len) k → get_or (take len file.bytes) k 0 ≡ get_or file.bytes k 0
    taken k (inl below) = get_or-take len file.bytes k 0 below
    taken k (inr past) = get_or_past (take len file.bytes) k 0 (omega (arith, length-take len file.bytes)) ∙ sym (get_or_past file.bytes k 0 (omega arith))

-- Every write keeps the images, a failed one too, and so does every cut.
pub write_keeps_images : (at n : ℕ) (old new : File) → WritesSome at n old new → KeepsImages old new
write_keeps_images at n old new (inl same) c image = subst (λ (f : File). IsFileImage f c) (sym same) image
write_keeps_images at n old new (inr some) c image = subst (λ (f : File). IsFileImage f c) (sym some.3) (image_kept old at n some.0 c some.1 some.2 image)

pub cut_keeps_images : (len : ℕ) (old new : File) → len ≤ length old.bytes → Cuts len old new → KeepsImages old new
cut_keeps_images len old new le cuts c image = subst (λ (f : File). IsFileImage f c) (sym cuts) (image_cut old len c le image)

-- a sync leaves of the file what was read, which was an image before
pub sync_narrows : (old new : File) → Syncs old new → Narrows old new
sync_narrows old new syncs = subst (λ (f : File). Narrows old f) (sym syncs) (record {
  bytes = refl;
  images = λ c image. subst (λ (b : List ℕ). IsFileImage old b) (sym (synced_image old.bytes c image)) (read_image old);
})

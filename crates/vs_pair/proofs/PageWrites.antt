-- What the writes of page 0 and of the pages after it leave, run after run: the parts before and after a write stay.
use Rattle.std.proofs.Common.{◌≡◌, ◌⊎◌, inl, inr, ℕ, ◌+◌, ◌-◌, ◌*◌, ◌<◌, ◌≤◌, max, false, List, ◌++◌, length, take, drop, Option, Some, None, IsSome, refl, sym, ◌∙◌, ap, subst, arith, length-append, length-take, length-drop}
use Rattle.std.proofs.lemmas.Bool.{cases_lt, true≢false}
use Rattle.std.proofs.lemmas.Bool.Decides.{nat_tests}
use Rattle.std.proofs.lemmas.List.{take_all, take_at, drop_at, take-take, drop-drop, drop-take, take-append-le}
use Rattle.vs_host.specs.File.{File, IsFileImage, WritesSome, Writes, Syncs, put, synced_file}
use Rattle.vs_host.specs.Disk.{Disk, Name, ChangesFile, names_of}
use Rattle.vs_disk.specs.Images.{FileHas, MaySync}
use Rattle.vs_disk.proofs.Images.{length-put, torn_image, sync_narrows}
use Rattle.vs_disk.proofs.Contents.{some_bytes}
use Rattle.vs_disk.proofs.Steps.{file_after, file_as, file_then}
use Rattle.vs_pages.specs.Maps.{Map}
use Rattle.vs_swap.specs.Files.{page_in}
use Rattle.vs_pair.specs.declared.written.Written.{Written}
use Rattle.vs_pair.specs.Held.{Held}
use Rattle.vs_pair.specs.Swap.{KeepsMark, HasBody, WritesBody}
use Rattle.vs_pair.specs.Stale.{HasFresh, is_stale}
use Rattle.vs_pair.specs.Writes.{HasRun, page_or_zeros}

-- ---- the identifier stays

pub same_mark : (a : File) → KeepsMark a a
same_mark a c image = (c, image, refl)

pub keeps_joins : (a b c : File) → KeepsMark a b → KeepsMark b c → KeepsMark a c
keeps_joins a b c first second = λ e image. let mid = second e image in let old = first mid.0 mid.1 in (old.0, old.1, mid.2 ∙ old.2)

pub write_after : (at n : ℕ) → 2 ≤ at → (a b : File) → WritesSome at n a b → KeepsMark a b
write_after at n past a b some c image =
    let torn = torn_image a b at n c some image in
    (torn.0, torn.1, sym (take-take 2 at c past) ∙ ap (λ (l : List ℕ). take 2 l) torn.2.before ∙ take-take 2 at torn.0 past)

pub sync_after : (a b : File) → MaySync a b → KeepsMark a b
sync_after a b (inl same) c image = (c, subst (λ (f : File). IsFileImage f c) same image, refl)
sync_after a b (inr syncs) c image = (c, (sync_narrows a b syncs).images c image, refl)

-- ---- one write

-- what stands before it
front : (bytes piece : List ℕ) (at : ℕ) → at ≤ length bytes → take at (put bytes at piece) ≡ take at bytes
front bytes piece at le =
    take-append-le at (take at bytes ++ piece) (drop (at + length piece) bytes) (omega (arith, length-append (take at bytes) piece, length-take at bytes))
    ∙ take_at (take at bytes) piece at (omega (arith, length-take at bytes))

-- and what is written
written : (bytes piece : List ℕ) (at n : ℕ) → at ≤ length bytes → length piece ≡ n → take n (drop at (put bytes at piece)) ≡ piece
written bytes piece at n le size =
    sym (drop-take at n (put bytes at piece))
    ∙ ap (λ (l : List ℕ). drop at l) (take_at (take at bytes ++ piece) (drop (at + length piece) bytes) (at + n) (omega (arith, length-append (take at bytes) piece, length-take at bytes, size)))
    ∙ drop_at (take at bytes) piece at (omega (arith, length-take at bytes))

-- a part that lies before the place
part : (bytes piece : List ℕ) (at from n : ℕ) → at ≤ length bytes → from + n ≤ at → take n (drop from (put bytes at piece)) ≡ take n (drop from bytes)
part bytes piece at from n le within =
    sym (drop-take from n (put bytes at piece))
    ∙ ap (λ (l : List ℕ). drop from l) (sym (take-take (from + n) at (put bytes at piece) within) ∙ ap (λ (l : List ℕ). take (from + n) l) (front bytes piece at le) ∙ take-take (from + n) at bytes within)
    ∙ drop-take from n bytes

-- a part of a part
pub part_of : (bytes : List ℕ) (from n to : ℕ) → from + n ≤ to → take n (drop from (take to bytes)) ≡ take n (drop from bytes)
part_of bytes from n to within = sym (drop-take from n (take to bytes)) ∙ ap (λ (l : List ℕ). drop from l) (take-take (from + n) to bytes within) ∙ drop-take from n bytes

pub page_is : (bytes : List ℕ) (k : ℕ) → 4096 * (k + 1) ≤ length bytes → page_in bytes k ≡ Some (take 4096 (drop (4096 * k) bytes))
page_is bytes k le = grind (arith, nat_tests)

pub page_found : (d : List ℕ) (k : ℕ) (page : List ℕ) → page_in d k ≡ Some page → (4096 * (k + 1) ≤ length d) × (take 4096 (drop (4096 * k) d) ≡ page)
page_found d k page is = elim (cases_lt (length d) (4096 * (k + 1))) [
  | inl short ↦ let none : page_in d k ≡ None = grind (arith, nat_tests) in absurd (cc)
  | inr long ↦ (long, some_bytes (take 4096 (drop (4096 * k) d)) page (sym (page_is d k long) ∙ is))
]

-- all that lies after the piece
beyond : (bytes piece : List ℕ) (at from : ℕ) → at ≤ length bytes → at + length piece ≤ from → drop from (put bytes at piece) ≡ drop from bytes
beyond bytes piece at from le past =
    let end : ℕ = at + length piece in
    let more : ℕ = from - end in
    let is : from ≡ end + more = omega (arith, past) in
    ap (λ (n : ℕ). drop n (put bytes at piece)) is
    ∙ sym (drop-drop more end (put bytes at piece))
    ∙ ap (λ (l : List ℕ). drop more l) (drop_at (take at bytes ++ piece) (drop end bytes) end (omega (arith, length-append (take at bytes) piece, length-take at bytes, le)))
    ∙ drop-drop more end bytes
    ∙ ap (λ (n : ℕ). drop n bytes) (sym is)

-- a page after the piece
page_after : (bytes piece page : List ℕ) (at k : ℕ) → at ≤ length bytes → at + length piece ≤ 4096 * k → page_in bytes k ≡ Some page → page_in (put bytes at piece) k ≡ Some page
page_after bytes piece page at k le past there =
    let found = page_found bytes k page there in
    page_is (put bytes at piece) k (omega (arith, length-put bytes piece at le, found.0))
    ∙ ap (λ (l : List ℕ). Some (take 4096 l)) (beyond bytes piece at (4096 * k) le past)
    ∙ ap (λ (p : List ℕ). Some p) found.1

-- ---- the pages so far

-- Page 0 is written after its identifier. Each number below this one, and each that is not stale, is as it is committed.
pub record IsSoFar (first : List ℕ) (pages : Held) (has : Written) (old : List ℕ) (n : ℕ) (bytes : List ℕ) : Type 0 where
  pub marked : take 2 bytes ≡ take 2 old
  pub size : length bytes ≡ max (length old) (4096 * n)
  pub rest : take 4094 (drop 2 bytes) ≡ drop 2 first
  pub placed : (k : ℕ) → 1 ≤ k → (k < n) ⊎ (is_stale pages.commits has k ≡ false) → page_in bytes k ≡ Some (page_or_zeros (pages.committed k))

-- what the next write leaves at each place so far and at its own
page_then : (bytes piece page : List ℕ) (at n k : ℕ) → at ≡ 4096 * n → length piece ≡ 4096 → 4096 * n ≤ length bytes → k < n + 1 → (k < n → page_in bytes k ≡ Some page) → (k ≡ n → piece ≡ page)
    → page_in (put bytes at piece) k ≡ Some page
page_then bytes piece page at n k place size long most before is =
    let le : at ≤ length bytes = omega (arith, place, long) in
    let grown : length (put bytes at piece) ≡ max (length bytes) (at + length piece) = length-put bytes piece at le in
    elim (cases_lt k n) [
      | inl below ↦
          page_is (put bytes at piece) k (omega (arith, grown, place, below, long))
          ∙ ap (λ (p : List ℕ). Some p) (part bytes piece at (4096 * k) 4096 le (omega (arith, place, below)))
          ∙ sym (page_is bytes k (omega (arith, below, long)))
          ∙ before below
      | inr past ↦
          let same : k ≡ n = omega (arith, past, most) in
          let here : 4096 * k ≡ at = omega (arith, same, place) in
          page_is (put bytes at piece) k (omega (arith, grown, place, same, size))
          ∙ ap (λ (m : ℕ). Some (take 4096 (drop m (put bytes at piece)))) here
          ∙ ap (λ (p : List ℕ). Some p) (written bytes piece at 4096 le size ∙ is same)
    ]

-- a part of what is written
inner : (bytes piece : List ℕ) (at from : ℕ) → at ≤ length bytes → from + 4096 ≤ length piece → take 4096 (drop (at + from) (put bytes at piece)) ≡ take 4096 (drop from piece)
inner bytes piece at from le within =
    let file : List ℕ = put bytes at piece in
    ap (λ (l : List ℕ). take 4096 l) (sym (drop-drop from at file))
    ∙ sym (part_of (drop at file) from 4096 (length piece) within)
    ∙ ap (λ (l : List ℕ). take 4096 (drop from l)) (written bytes piece at (length piece) le refl)

-- what a write of several pages leaves at each place, before it, at its own and after it
pages_then : (bytes piece page : List ℕ) (at n m k : ℕ) → at ≡ 4096 * n → length piece ≡ 4096 * m → 4096 * n ≤ length bytes → ((k < n) ⊎ (n + m ≤ k) → page_in bytes k ≡ Some page)
    → ((i : ℕ) → k ≡ n + i → i < m → page_in piece i ≡ Some page) → page_in (put bytes at piece) k ≡ Some page
pages_then bytes piece page at n m k place size long around is =
    let le : at ≤ length bytes = omega (arith, place, long) in
    let grown : length (put bytes at piece) ≡ max (length bytes) (at + length piece) = length-put bytes piece at le in
    elim (cases_lt k n) [
      | inl below ↦
          page_is (put bytes at piece) k (omega (arith, grown, place, below, long))
          ∙ ap (λ (p : List ℕ). Some p) (part bytes piece at (4096 * k) 4096 le (omega (arith, place, below)))
          ∙ sym (page_is bytes k (omega (arith, below, long)))
          ∙ around (inl below)
      | inr past ↦ elim (cases_lt k (n + m)) [
        | inl most ↦
            let same : k ≡ n + (k - n) = omega (arith, past) in
            let less : k - n < m = omega (arith, past, most) in
            let here : 4096 * k ≡ at + 4096 * (k - n) = omega (arith, past, place) in
            let inside : 4096 * ((k - n) + 1) ≤ length piece = omega (arith, less, size) in
            page_is (put bytes at piece) k (omega (arith, grown, here, inside))
            ∙ ap (λ (x : ℕ). Some (take 4096 (drop x (put bytes at piece)))) here
            ∙ ap (λ (p : List ℕ). Some p) (inner bytes piece at (4096 * (k - n)) le (omega (arith, inside)))
            ∙ sym (page_is piece (k - n) inside)
            ∙ is (k - n) same less
        | inr after ↦ page_after bytes piece page at k le (omega (arith, place, size, after)) (around (inr after))
      ]
    ]

-- ---- a run of pages

pub run_none : (map : Map) (at : ℕ) (run : List ℕ) → HasRun map at 0 run
run_none map at run k less = absurd (omega (arith, less))

-- one page more
pub run_more : (map : Map) (at n place : ℕ) (run page new : List ℕ) → new ≡ put run place page → place ≡ 4096 * n → length page ≡ 4096 → 4096 * (n + 1) ≤ length run → page ≡ page_or_zeros (map (at + n))
    → HasRun map at n run → HasRun map at (n + 1) new
run_more map at n place run page new now here size room is so_far =
    subst (λ (bytes : List ℕ). HasRun map at (n + 1) bytes) (sym now)
    (λ k less. page_then run page (page_or_zeros (map (at + k))) place n k here size (omega (arith, room)) less (λ below. so_far k below) (λ same. is ∙ ap (λ (j : ℕ). page_or_zeros (map (at + j))) (sym same)))

pub length-run : (run page new : List ℕ) (place : ℕ) → new ≡ put run place page → place + length page ≤ length run → length new ≡ length run
length-run run page new place now room = ap (λ (bytes : List ℕ). length bytes) now ∙ (length-put run page place (omega (arith, room)) ∙ omega (arith, room))

page_cut : (run page : List ℕ) (size n k : ℕ) → size ≡ 4096 * n → size ≤ length run → k < n → page_in run k ≡ Some page → page_in (take size run) k ≡ Some page
page_cut run page size n k is room less there =
    page_is (take size run) k (omega (arith, length-take size run, is, room, less))
    ∙ ap (λ (p : List ℕ). Some p) (part_of run (4096 * k) 4096 size (omega (arith, is, less)))
    ∙ sym (page_is run k (omega (arith, is, room, less)))
    ∙ there

-- the front of a run
pub run_cut : (map : Map) (at n size : ℕ) (run : List ℕ) → size ≡ 4096 * n → size ≤ length run → HasRun map at n run → HasRun map at n (take size run)
run_cut map at n size run is room has k less = page_cut run (page_or_zeros (map (at + k))) size n k is room less (has k less)

-- a page alone
pub run_alone : (map : Map) (at : ℕ) (page : List ℕ) → length page ≡ 4096 → page ≡ page_or_zeros (map at) → HasRun map at 1 page
run_alone map at page size is k less =
    let first : k ≡ 0 = omega (arith, less) in
    page_is page k (omega (arith, size, first))
    ∙ ap (λ (j : ℕ). Some (take 4096 (drop (4096 * j) page))) first
    ∙ ap (λ (p : List ℕ). Some p) (take_all 4096 page (omega (arith, size)))
    ∙ ap (λ (p : List ℕ). Some p) is
    ∙ ap (λ (j : ℕ). Some (page_or_zeros (map j))) (omega (arith, first))

begins : (first : List ℕ) (pages : Held) (has : Written) (piece : List ℕ) → piece ≡ drop 2 first → length piece ≡ 4094 → (a b : File) → HasFresh pages has a.bytes → Writes 2 piece a b → IsSoFar first pages has a.bytes 1 b.bytes
begins first pages has piece is whole a b fresh writes =
    let now : b.bytes ≡ put a.bytes 2 piece = ap (λ (f : File). f.bytes) writes in
    subst (λ (bytes : List ℕ). IsSoFar first pages has a.bytes 1 bytes) (sym now) (record {
      marked = front a.bytes piece 2 fresh.long;
      size = omega (arith, length-put a.bytes piece 2 fresh.long, whole);
      rest = written a.bytes piece 2 4094 fresh.long whole ∙ is;
      placed = λ k least either. page_after a.bytes piece (page_or_zeros (pages.committed k)) 2 k fresh.long (omega (arith, whole, least)) (fresh.fresh k least (not_zero k least either));
    })
  where
    not_zero : (k : ℕ) → 1 ≤ k → (k < 1) ⊎ (is_stale pages.commits has k ≡ false) → is_stale pages.commits has k ≡ false
    not_zero k least (inl less) = absurd (omega (arith, least, less))
    not_zero k least (inr is) = is

more : (first : List ℕ) (pages : Held) (has : Written) (piece old : List ℕ) (at n m : ℕ) → 1 ≤ n → at ≡ 4096 * n → length piece ≡ 4096 * m → HasRun (pages.committed) n m piece → (a b : File)
    → IsSoFar first pages has old n a.bytes → Writes at piece a b → IsSoFar first pages has old (n + m) b.bytes
more first pages has piece old at n m some place whole run a b so_far writes =
    let now : b.bytes ≡ put a.bytes at piece = ap (λ (f : File). f.bytes) writes in
    let le : at ≤ length a.bytes = omega (arith, place, so_far.size) in
    let grown : length (put a.bytes at piece) ≡ max (length a.bytes) (at + length piece) = length-put a.bytes piece at le in
    subst (λ (bytes : List ℕ). IsSoFar first pages has old (n + m) bytes) (sym now) (record {
      marked = sym (take-take 2 at (put a.bytes at piece) (omega (arith, place, some))) ∙ ap (λ (l : List ℕ). take 2 l) (front a.bytes piece at le) ∙ take-take 2 at a.bytes (omega (arith, place, some)) ∙ so_far.marked;
      size = omega (arith, grown, place, whole, so_far.size);
      rest = part a.bytes piece at 2 4094 le (omega (arith, place, some)) ∙ so_far.rest;
      placed = λ k least either.
          pages_then a.bytes piece (page_or_zeros (pages.committed k)) at n m k place whole (omega (arith, so_far.size)) (λ around. so_far.placed k least (outside k either around))
          (λ i same less. run i less ∙ ap (λ (j : ℕ). Some (page_or_zeros (pages.committed j))) (sym same));
    })
  where
    outside : (k : ℕ) → (k < n + m) ⊎ (is_stale pages.commits has k ≡ false) → (k < n) ⊎ (n + m ≤ k) → (k < n) ⊎ (is_stale pages.commits has k ≡ false)
    outside k either (inl below) = inl below
    outside k (inl less) (inr after) = absurd (omega (arith, less, after))
    outside k (inr is) (inr after) = inr is

-- numbers that are not stale are passed over
passes : (first : List ℕ) (pages : Held) (has : Written) (old : List ℕ) (n to : ℕ) (bytes : List ℕ) → 1 ≤ n → n ≤ to → ((k : ℕ) → n ≤ k → k < to → is_stale pages.commits has k ≡ false) → IsSoFar first pages has old n bytes
    → IsSoFar first pages has old to bytes
passes first pages has old n to bytes some le passed so_far = record { marked = so_far.marked; size = as_long; rest = so_far.rest; placed = λ k least either. so_far.placed k least (all k either) }
  where
    all : (k : ℕ) → (k < to) ⊎ (is_stale pages.commits has k ≡ false) → (k < n) ⊎ (is_stale pages.commits has k ≡ false)
    all k (inl less) = elim (cases_lt k n) [ inl below ↦ inl below | inr past ↦ inr (passed k past less) ]
    all k (inr is) = inr is

    -- a number that is not stale lies in the file, so nothing is added
    as_long : length bytes ≡ max (length old) (4096 * to)
    as_long = elim (cases_lt n to) [
      | inl less ↦ omega (arith, less, so_far.size, (page_found bytes (to - 1) _ (so_far.placed (to - 1) (omega (arith, some, less)) (inr (passed (to - 1) (omega (arith, less)) (omega (arith, less)))))).0)
      | inr past ↦ omega (arith, past, le, so_far.size)
    ]

-- ---- in the folder

-- the file so far
abbrev pub SoFar : List ℕ → Held → Written → ℕ → File → File → Type 0
SoFar first pages has n old new = IsSoFar first pages has old.bytes n new.bytes

module _ (name : Name) (first : List ℕ) (pages : Held) (has : Written) where
  abbrev Fresh : File → Type 0
  Fresh file = HasFresh pages has file.bytes

  pub has_first : (piece : List ℕ) → length first ≡ 4096 → piece ≡ drop 2 first → (old new : Disk) → FileHas old name Fresh → ChangesFile name (Writes 2 piece) old new → ChangesFile name (SoFar first pages has 1) old new
  has_first piece whole is old new there writes = record {
    synced = writes.synced;
    pending = writes.pending;
    modes = writes.modes;
    others = writes.others;
    this = λ number leads. begins first pages has piece is size (old.files number) (new.files number) (fresh number leads) (writes.this number leads);
  }
    where
      size : length piece ≡ 4094
      size = ap length is ∙ omega (arith, whole, length-drop 2 first)

      some_same : (a b : ℕ) → Some a ≡ Some b → a ≡ b
      some_same a b e = cc

      fresh : (number : ℕ) → names_of old name ≡ Some number → HasFresh pages has (old.files number).bytes
      fresh number leads = subst (λ (n : ℕ). HasFresh pages has (old.files n).bytes) (some_same there.number number (sym there.leads ∙ leads)) there.has

  pub has_passed : (n to : ℕ) → 1 ≤ n → n ≤ to → ((k : ℕ) → n ≤ k → k < to → is_stale pages.commits has k ≡ false) → (old new : Disk) → ChangesFile name (SoFar first pages has n) old new → ChangesFile name (SoFar first pages has to) old new
  has_passed n to some le passed old new so_far =
      file_as name (SoFar first pages has n) (SoFar first pages has to) (λ a b here. passes first pages has a.bytes n to b.bytes some le passed here) old new so_far

  pub has_more : (piece : List ℕ) (at n m : ℕ) → 1 ≤ n → at ≡ 4096 * n → length piece ≡ 4096 * m → HasRun (pages.committed) n m piece → (old mid new : Disk) → ChangesFile name (SoFar first pages has n) old mid
      → ChangesFile name (Writes at piece) mid new → ChangesFile name (SoFar first pages has (n + m)) old new
  has_more piece at n m some place size run old mid new so_far writes =
      file_then name (SoFar first pages has n) (Writes at piece) (SoFar first pages has (n + m)) (λ a b c one two. more first pages has piece a.bytes at n m some place size run b c one two) old mid new so_far writes

  -- the file is there, and long enough for the next page
  pub next_place : (at n : ℕ) → at ≡ 4096 * n → (old new : Disk) → FileHas old name Fresh → ChangesFile name (SoFar first pages has n) old new → FileHas new name (λ file. at ≤ length file.bytes)
  next_place at n place old new there so_far =
      file_after name (SoFar first pages has n) Fresh (λ file. at ≤ length file.bytes) (λ a b fresh here. omega (arith, place, here.size)) old new there so_far

  -- all pages are written, and the file is synced
  pub has_all : (n end : ℕ) → 1 ≤ n → end ≤ n → n ≤ max 1 end → ((k : ℕ) → end ≤ k → pages.committed k ≡ None) → (0 < end → IsSome (pages.committed (end - 1))) → (old mid new : Disk)
      → ChangesFile name (SoFar first pages has n) old mid → ChangesFile name Syncs mid new → ChangesFile name (WritesBody (record { first = first; pages = pages.committed })) old new
  has_all n end some all most none last old mid new so_far syncs =
      file_then name (SoFar first pages has n) Syncs (WritesBody (record { first = first; pages = pages.committed }))
      (λ a b c here sync.
      let now : c.bytes ≡ b.bytes = ap (λ (f : File). f.bytes) sync in
      record {
        mark = ap (λ (l : List ℕ). take 2 l) now ∙ here.marked;
        has = subst (λ (bytes : List ℕ). HasBody (record { first = first; pages = pages.committed }) bytes) (sym now) (record {
          rest = here.rest;
          pages = λ k page least there. here.placed k least (inl (below k page there)) ∙ ap (λ (o : Option (List ℕ)). Some (page_or_zeros o)) there;
          gaps = λ k above least less free some. here.placed k least (inl (omega (arith, less, below_some above some))) ∙ ap (λ (o : Option (List ℕ)). Some (page_or_zeros o)) free;
        });
        size = record {
          end = n;
          some = some;
          past = λ k past. none k (omega (arith, past, all));
          last = λ more. subst (λ (k : ℕ). IsSome (pages.committed (k - 1))) (omega (arith, more, most, all)) (last (omega (arith, more, most)));
          is = ap length now ∙ here.size;
        };
        synced = sync ∙ ap (λ (bytes : List ℕ). synced_file bytes) (sym now);
      }) old mid new so_far syncs
    where
      below_some : (k : ℕ) → IsSome (pages.committed k) → k < n
      below_some k some = elim (cases_lt k n) [
        | inl lt ↦ lt
        | inr past ↦ absurd (true≢false (sym (subst (λ (o : Option (List ℕ)). IsSome o) (none k (omega (arith, past, all))) some)))
      ]

      below : (k : ℕ) (page : List ℕ) → pages.committed k ≡ Some page → k < n
      below k page there = elim (cases_lt k n) [
        | inl lt ↦ lt
        | inr past ↦ let clash : None ≡ Some page = sym (none k (omega (arith, past, all))) ∙ there in absurd (cc)
      ]

-- A walk keeps what is left: whatever the entries that are left give comes after what was shown.
use Rattle.std.proofs.Common.{◌≡◌, ◌≤◌, ◌+◌, ◌-◌, ◌*◌, ◌/◌, ℕ, zero, suc, List, [], ◌∷◌, ◌++◌, length, take, drop, reverse, Bool, Option, Ok, refl, sym, ap, ◌∙◌, subst, arith, append_assoc, length-drop, length-take, inl, inr}
use Rattle.std.proofs.lemmas.Result.{on_ok_weaker}
use Rattle.std.specs.Prelude.{ℤ, pos, negsuc, OnOk, Result}
use Rattle.std.proofs.lemmas.Bool.{cases_lt}
use Rattle.std.proofs.lemmas.List.{append-nil}
use Rattle.std.proofs.lemmas.Nat.{mul-le}
use Rattle.std.proofs.Math.Nat.{div-mul-le_self}
use Rattle.std.proofs.Math.Seq.{take-append_seam}
use Rattle.vs_host.specs.World.{Tells, Scene}
use Rattle.vs_text.specs.declared.format.Format.{Format}
use Rattle.vs_pages.specs.Maps.{span}
use Rattle.vs_pages.proofs.MapsLemmas.{span-above, span-inside, span-most}
use Rattle.vs_ptr.specs.declared.PtrEntry.{PtrEntry}
use Rattle.vs_ptr.specs.declared.PtrView.{PtrView}
use Rattle.vs_ptr.specs.Blocks.{view_in}
use Rattle.vs_ptr.proofs.Headers.{header_from_view}
use Rattle.vs_damaged.specs.declared.finds.Target.{Target}
use Rattle.vs_damaged.specs.declared.finds.Target.TheVariants as target
use Rattle.vs_damaged.specs.declared.shown.Marker.TheVariants as marker
use Rattle.vs_damaged.specs.declared.shown.Shown.{Shown}
use Rattle.vs_damaged.specs.Finds.{Entries, Found, Items, ShowsBlock, found_in, lines_before, lines_said, original_items, target_by, target_of}
use Rattle.vs_damaged.specs.Items.{Adds, Item, Shows, TheMarker}
use Rattle.vs_damaged.specs.Salvage.{Damaged, Ends, FromBelow, FromBlock, FromOriginal, Gives, IsBarred, IsFree, LeadsNowhere, NoBlock, Pages, bytes_at, first_pages}
use Rattle.vs_recover.specs.declared.walk.Walk.{Walk}
use Rattle.vs_recover.specs.Marks.{free_in, used_in}
use Rattle.vs_recover.specs.WalkedEntries.{HasDamaged, HasTaken, IsFoundOf, Visits}
use Rattle.vs_recover.specs.Files.{IsFile}
use Rattle.vs_recover.specs.Reading.{IsThere, ReadsAtMost}
use Rattle.vs_recover.proofs.MarkLaws.{used_most}
use Rattle.vs_recover.proofs.ReadingLaws.{file_has, still}

-- ---- a block

pub few_pointers : {T E : Type 0} (r : Result T E) (block : List ℕ) (view : PtrView) (old new : ℕ) → view_in block ≡ Ok view → OnOk r (new ≡ old + view.count) → OnOk r (32 * new ≤ 32 * old + length block)
few_pointers r block view old new reads holds = on_ok_weaker r (λ is. omega (arith, is, (header_from_view block view reads).room)) holds

-- a block was read
pub block_loaded : (file read before shown : List ℕ) (at len room : ℕ) → shown ≡ take len (read ++ drop (length read) before) → room ≡ len → read ≡ take room (drop at file) → at + room ≤ length file → shown ≡ take room (drop at file)
block_loaded file read before shown at len room shown_is same is inside =
    let full : length read ≡ len = omega (arith, ap length is, length-take room (drop at file), length-drop at file, same, inside) in
    shown_is ∙ (ap (λ n. take n (read ++ drop (length read) before)) (sym full) ∙ (take-append_seam read (drop (length read) before) ∙ is))

some_pages : (block pages : ℤ) (before : Option ℕ) (count first n : ℕ) → target_by block pages before count ≡ target.Block first n → 1 ≤ n
some_pages (negsuc b) pages before count first n is = absurd (cc)
some_pages (pos b) (pos zero) before count first n is = absurd (cc)
some_pages (pos b) (pos (suc m)) before count first n is = let e : suc m ≡ n = cc in omega (arith, e)
some_pages (pos b) (negsuc m) before count first n is = absurd (cc)

pub has_page : (e : PtrEntry) (first n : ℕ) → target_of e ≡ target.Block first n → 1 ≤ n
has_page e first n is = some_pages e.block e.pages (lines_before e.old) (lines_said e.lines) first n is

-- the place of a block in its file
pub block_inside : (len size first pages marks : ℕ) → marks ≡ len / size → first + pages ≤ marks → first * size + pages * size ≤ len
block_inside len size first pages marks is le =
    let some : (first + pages) * size ≤ marks * size = mul-le (first + pages) size marks size le (omega arith) in
    let all : len / size * size ≤ len = div-mul-le_self len size in
    omega (arith, some, all, ap (λ n. n * size) is)

-- ---- one entry

shown_none : (format : Format) (now old : Shown) (items : List Item) → now ≡ old → Shows format old items → Shows format now (items ++ [])
shown_none format now old items same shows = subst (λ (is : List Item). Shows format now is) (sym (append-nil items)) (subst (λ (s : Shown). Shows format s items) (sym same) shows)

by_found : (d : Damaged) (old new : Walk) (e : PtrEntry) (taken : List Pages) (pages : Pages) (found : Found) → target_of e ≡ target.Block pages.first pages.count → IsFree d taken pages → HasTaken new (pages ∷ taken)
    → found_in e (bytes_at d pages) ≡ found → ShowsBlock old.shown new.shown (reverse old.left.items) (reverse new.left.items) found → Visits d old new e taken
by_found d old new e taken pages (Entries below) is free has found shows = record {
  after = pages ∷ taken;
  more = [];
  has_taken = has;
  shows = λ items before. shown_none d.format new.shown old.shown items shows.1 before;
  gives = λ rest gives. FromBelow taken e (reverse old.left.items) below rest pages is free found (subst (λ (es : List PtrEntry). Gives d (pages ∷ taken) es rest) shows.0 gives);
}
by_found d old new e taken pages (Items more) is free has found shows = record {
  after = pages ∷ taken;
  more = more;
  has_taken = has;
  shows = λ items before. shows.1 d.format items before;
  gives = λ rest gives. FromBlock taken e (reverse old.left.items) more rest pages is free found (subst (λ (es : List PtrEntry). Gives d (pages ∷ taken) es rest) shows.0 gives);
}

-- a block whose pages were taken
pub visits_block : (d : Damaged) (old new : Walk) (e : PtrEntry) (taken : List Pages) (pages : Pages) → target_of e ≡ target.Block pages.first pages.count → IsFree d taken pages → HasTaken new (pages ∷ taken)
    → ShowsBlock old.shown new.shown (reverse old.left.items) (reverse new.left.items) (found_in e (bytes_at d pages)) → Visits d old new e taken
visits_block d old new e taken pages is free has shows = by_found d old new e taken pages (found_in e (bytes_at d pages)) is free has refl shows

-- no block to take
pub visits_nothing : (d : Damaged) (old new : Walk) (e : PtrEntry) (taken : List Pages) → LeadsNowhere d taken (target_of e) → new.left ≡ old.left → HasTaken new taken → Adds old.shown new.shown (TheMarker marker.BlockMissing) → Visits d old new e taken
visits_nothing d old new e taken nowhere left has adds = record {
  after = taken;
  more = TheMarker marker.BlockMissing ∷ [];
  has_taken = has;
  shows = λ items before. adds d.format items before;
  gives = λ rest gives. NoBlock taken e (reverse old.left.items) rest nowhere (subst (λ (w : _). Gives d taken (reverse w.items) rest) left gives);
}

pub visits_original : (d : Damaged) (old new : Walk) (e : PtrEntry) (taken : List Pages) (before : Option ℕ) (count : ℕ) (original : Option (List ℕ)) → target_of e ≡ target.Original before count → original ≡ d.original
    → new.left ≡ old.left → HasTaken new taken → ((format : Format) (items : List Item) → Shows format old.shown items → Shows format new.shown (items ++ original_items format original before count)) → Visits d old new e taken
visits_original d old new e taken before count original is there left has adds =
    let same : original_items d.format original before count ≡ original_items d.format d.original before count = ap (λ o. original_items d.format o before count) there in
    record {
      after = taken;
      more = original_items d.format d.original before count;
      has_taken = has;
      shows = λ items shows. subst (λ (is : List Item). Shows d.format new.shown (items ++ is)) same (adds d.format items shows);
      gives = λ rest gives. FromOriginal taken e (reverse old.left.items) rest before count is (subst (λ (w : _). Gives d taken (reverse w.items) rest) left gives);
    }

-- ---- pages

-- pages that were not taken, and are marked
pub are_free : (d : Damaged) (old : Walk) (now : List Bool) (taken : List Pages) (first count : ℕ) → length old.marks ≡ length d.file / d.size → HasTaken old taken → first + count ≤ length old.marks
    → ((k : ℕ) → used_in now k ≡ used_in old.marks k + span first count k) → IsFree d taken (record { first = first; count = count })
are_free d old now taken first count len has inside used = record {
  inside = omega (arith, len, inside);
  once = λ k. elim (cases_lt k (length old.marks)) [
    | inl lt ↦ omega (arith, has.within k lt, used k, used_most now k)
    | inr ge ↦ omega (arith, has.past k ge, span-most first count k)
  ];
}

pub has_more : (old new : Walk) (taken : List Pages) (first count : ℕ) → HasTaken old taken → length new.marks ≡ length old.marks → first + count ≤ length old.marks
    → ((k : ℕ) → used_in new.marks k ≡ used_in old.marks k + span first count k) → HasTaken new (record { first = first; count = count } ∷ taken)
has_more old new taken first count has len inside used = record {
  within = λ k lt. omega (arith, has.within k (omega (arith, lt, len)), used k);
  past = λ k ge. omega (arith, has.past k (omega (arith, ge, len)), span-above first count k (omega (arith, ge, len, inside)));
}

pub has_same : (old new : Walk) (taken : List Pages) → new.marks ≡ old.marks → HasTaken old taken → HasTaken new taken
has_same old new taken same has = record {
  within = λ k lt. ap (λ (ms : List Bool). used_in ms k) same ∙ has.within k (omega (arith, lt, ap (λ (ms : List Bool). length ms) same));
  past = λ k ge. has.past k (omega (arith, ge, ap (λ (ms : List Bool). length ms) same));
}

-- pages of which one was taken, or is not in the file
pub are_barred : (d : Damaged) (old : Walk) (taken : List Pages) (first count : ℕ) → length old.marks ≡ length d.file / d.size → HasTaken old taken → (clash : (k : ℕ) × (2 ≤ used_in old.marks k + span first count k))
    → IsBarred d taken (record { first = first; count = count })
are_barred d old taken first count len has clash = elim (cases_lt clash.0 (length old.marks)) [
  | inl lt ↦ inr (clash.0, omega (arith, has.within clash.0 lt, clash.1))
  | inr ge ↦ inl (let within = span-inside first count clash.0 (omega (arith, clash.1, used_most old.marks clash.0)) in omega (arith, len, ge, within.1))
]

pub barred_nowhere : (d : Damaged) (taken : List Pages) (t : Target) (first count : ℕ) → t ≡ target.Block first count → IsBarred d taken (record { first = first; count = count }) → LeadsNowhere d taken t
barred_nowhere d taken t first count is barred = subst (λ (u : Target). LeadsNowhere d taken u) (sym is) barred

pub nothing_nowhere : (d : Damaged) (taken : List Pages) (t : Target) → t ≡ target.Nothing → LeadsNowhere d taken t
nothing_nowhere d taken t is = subst (λ (u : Target). LeadsNowhere d taken u) (sym is) tt

-- ---- the file that is there

pub damaged_file : {tells : Tells} {scene : Scene} {swap name : List ℕ} {size : ℕ} {d : Damaged} → HasDamaged tells scene swap name size d → IsFile tells scene swap d.file
damaged_file has = record { told = has.told; there = has.there }

pub damaged_pages : {tells : Tells} {scene : Scene} {swap name : List ℕ} {size n : ℕ} {d : Damaged} → HasDamaged tells scene swap name size d → IsThere tells scene swap (λ file. n ≡ length file / size) → n ≡ length d.file / d.size
damaged_pages {tells} {scene} {swap} {name} {size} {n} {d} has there =
    file_has tells scene swap d.file (λ file. n ≡ length file / size) there (damaged_file has) ∙ ap (λ k. length d.file / k) (sym has.size_is)

pub damaged_bytes : {tells : Tells} {scene : Scene} {swap name : List ℕ} {size : ℕ} {d : Damaged} (first count : ℕ) → HasDamaged tells scene swap name size d
    → take (size * count) (drop (size * first) d.file) ≡ bytes_at d (record { first = first; count = count })
damaged_bytes {d} first count has = ap (λ k. take (k * count) (drop (k * first) d.file)) (sym has.size_is)

pub damaged_stays : {T E : Type 0} {result : Result T E} {failed : E} {tells : Tells} {old new : Scene} {most : ℕ} {swap name : List ℕ} {size : ℕ} {d : Damaged} → ReadsAtMost tells result failed old new most
    → HasDamaged tells old swap name size d → HasDamaged tells new swap name size d
damaged_stays {swap} {name} reads has = record {
  told = has.told;
  there = still reads swap ∙ has.there;
  original = still reads name ∙ has.original;
  size_is = has.size_is;
}

-- ---- all entries

-- What was shown of these entries so far, and that what the entries that are left give comes after it.
pub record IsOnWay (d : Damaged) (entries : List PtrEntry) (w : Walk) : Type 0 where
  pub taken : List Pages
  pub given : List Item
  pub has_taken : HasTaken w taken
  pub shows : Shows d.format w.shown given
  pub gives : (rest : List Item) → Gives d taken (reverse w.left.items) rest → Gives d (first_pages ∷ []) entries (given ++ rest)

pub way_begins : (d : Damaged) (w : Walk) → HasTaken w (first_pages ∷ []) → Shows d.format w.shown [] → IsOnWay d (reverse w.left.items) w
way_begins d w has shows = record { taken = first_pages ∷ []; given = []; has_taken = has; shows = shows; gives = λ rest gives. gives }

-- the walk before its next entry was taken from those that are left
pub way_taken : (d : Damaged) (entries : List PtrEntry) (w : Walk) (old : Walk) (e : PtrEntry) → old.marks ≡ w.marks → old.shown ≡ w.shown → reverse w.left.items ≡ e ∷ reverse old.left.items → (way : IsOnWay d entries w)
    → HasTaken old way.taken × Shows d.format old.shown way.given × ((rest : List Item) → Gives d way.taken (e ∷ reverse old.left.items) rest → Gives d (first_pages ∷ []) entries (way.given ++ rest))
way_taken d entries w old e marks shown left way = (
  has_same w old way.taken marks way.has_taken,
  subst (λ (s : Shown). Shows d.format s way.given) (sym shown) way.shows,
  λ rest gives. way.gives rest (subst (λ (es : List PtrEntry). Gives d way.taken es rest) (sym left) gives),
)

pub way_goes_on : (d : Damaged) (entries : List PtrEntry) (w old new : Walk) (e : PtrEntry) → old.marks ≡ w.marks → old.shown ≡ w.shown → reverse w.left.items ≡ e ∷ reverse old.left.items → IsOnWay d entries w
    → ((taken : List Pages) → HasTaken old taken → Visits d old new e taken) → IsOnWay d entries new
way_goes_on d entries w old new e marks shown left way visits =
    let before = way_taken d entries w old e marks shown left way in
    let visit : Visits d old new e way.taken = visits way.taken before.0 in
    record {
      taken = visit.after;
      given = way.given ++ visit.more;
      has_taken = visit.has_taken;
      shows = visit.shows way.given before.1;
      gives = λ rest gives. subst (λ (is : List Item). Gives d (first_pages ∷ []) entries is) (sym (append_assoc way.given visit.more rest)) (before.2 (visit.more ++ rest) (visit.gives rest gives));
    }

pub way_ends : (d : Damaged) (entries : List PtrEntry) (w : Walk) → reverse w.left.items ≡ [] → IsOnWay d entries w → IsFoundOf d entries w.shown
way_ends d entries w none way =
    (way.given, subst (λ (is : List Item). Gives d (first_pages ∷ []) entries is) (append-nil way.given) (way.gives [] (subst (λ (es : List PtrEntry). Gives d way.taken es []) (sym none) (Ends way.taken))), way.shows)

-- ---- calls

-- how many calls a walk makes at most from here, where the original file has so many pieces
abbrev pub calls_left : Walk → ℕ → ℕ
calls_left w pieces = free_in w.marks + (length w.left.items + 1563 * free_in w.marks) * pieces

times_more : (a b p : ℕ) → a + 1 ≤ b → a * p + p ≤ b * p
times_more a b p le = let e : (a + 1) * p ≤ b * p = mul-le (a + 1) p b p le (omega arith) in omega (arith, e)

-- one entry more was visited
pub calls_step : (w old new : Walk) (p : ℕ) → old.marks ≡ w.marks → length old.left.items + 1 ≡ length w.left.items → free_in new.marks ≤ free_in old.marks
    → length new.left.items + 1563 * free_in new.marks ≤ length old.left.items + 1563 * free_in old.marks → calls_left new p + (free_in old.marks - free_in new.marks + p) ≤ calls_left w p
calls_step w old new p marks left free few =
    let same : free_in old.marks ≡ free_in w.marks = ap (λ (ms : List Bool). free_in ms) marks in
    let times = times_more (length new.left.items + 1563 * free_in new.marks) (length w.left.items + 1563 * free_in w.marks) p (omega (arith, same, left, few)) in
    omega (arith, times, same, free)

-- the visit of an entry, also where it fails
pub calls_within : (w old : Walk) (now : List Bool) (p : ℕ) → old.marks ≡ w.marks → length old.left.items + 1 ≡ length w.left.items → free_in old.marks - free_in now + p ≤ calls_left w p
calls_within w old now p marks left =
    let same : free_in old.marks ≡ free_in w.marks = ap (λ (ms : List Bool). free_in ms) marks in
    let times = times_more 0 (length w.left.items + 1563 * free_in w.marks) p (omega (arith, left)) in
    omega (arith, times, same)

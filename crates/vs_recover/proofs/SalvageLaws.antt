-- What a walk over all entries of block 1 shows is what is salvaged, up to the limits of a text.
use Rattle.std.proofs.Common.{◌≡◌, ◌≤◌, ◌<◌, ◌+◌, ◌*◌, ◌/◌, ℕ, List, [], ◌∷◌, ◌++◌, length, take, drop, Bool, true, false, Option, Some, None, Result, Ok, Err, is_ok, refl, sym, ap, ◌∙◌, subst, arith, inl, inr}
use Rattle.std.specs.Prelude.{◌&&◌, nat_le}
use Rattle.std.proofs.lemmas.Bool.{cases_lt, and_parts}
use Rattle.std.proofs.lemmas.Bool.Decides.{nat_tests}
use Rattle.std.proofs.lemmas.List.{append-nil}
use Rattle.std.proofs.lemmas.Nat.{mul-le}
use Rattle.vs_text.specs.declared.format.Format.{Format}
use Rattle.vs_zero.specs.declared.Zero.{Zero}
use Rattle.vs_zero.specs.declared.ZeroErr.{ZeroErr}
use Rattle.vs_zero.specs.Zero.{reading_of}
use Rattle.vs_swap.specs.Files.{format_by}
use Rattle.vs_ptr.specs.declared.PtrView.{PtrView}
use Rattle.vs_ptr.specs.declared.PtrErr.{PtrErr}
use Rattle.vs_ptr.specs.Blocks.{entries_of, view_in}
use Rattle.vs_ptr.proofs.Headers.{header_from_view}
use Rattle.vs_damaged.specs.declared.shown.Shown.{Shown}
use Rattle.vs_damaged.specs.Items.{Item, Shows, bounded, bytes_of_items, kept_after, markers_in}
use Rattle.vs_damaged.specs.Salvage.{Damaged, Gives, bytes_at, first_pages, root_pages, times_taken}
use Rattle.vs_recover.specs.declared.image.Opening.{Opening}
use Rattle.vs_recover.specs.declared.original.Original.{Original}
use Rattle.vs_recover.specs.declared.walk.Walk.{Walk}
use Rattle.vs_recover.specs.Choices.{IsOpening, root_reads}
use Rattle.vs_recover.specs.Levels.{first_used}
use Rattle.vs_recover.specs.Marks.{used_in}
use Rattle.vs_recover.specs.Original.{IsOpened, pieces_in}
use Rattle.vs_recover.specs.Salvage.{SalvagesOf, damaged}
use Rattle.vs_recover.specs.WalkedEntries.{HasTaken, IsFoundOf, pages_by, pages_of, pieces_of_file}

kept_none : (full : Bool) (lines bytes : ℕ) → kept_after full lines bytes [] ≡ []
kept_none true lines bytes = refl
kept_none false lines bytes = refl

shown_whole : (format : Format) (shown : Shown) (items : List Item) (shows : Shows format shown items) → shows.kept ≡ bounded items
shown_whole format shown items shows =
    sym (ap (λ is. bounded is) (sym (append-nil items)) ∙ (shows.goes_on [] ∙ (ap (λ is. shows.kept ++ is) (kept_none shown.full shown.lines shown.size) ∙ append-nil shows.kept)))

has_view : (r : Result PtrView PtrErr) → is_ok r ≡ true → (view : PtrView) × (r ≡ Ok view)
has_view (Ok view) is = (view, refl)
has_view (Err why) is = absurd (cc)

within : (a b : ℕ) → nat_le a b ≡ true → a ≤ b
within a b is = grind (arith, nat_tests, is)

-- ---- whether block 1 is a pointer block

pub has_root : (file block : List ℕ) (size len : ℕ) (view : PtrView) → len ≡ length file → 2 * size ≤ len → block ≡ take size (drop size file) → view_in block ≡ Ok view → root_reads file size ≡ true
has_root file block size len view same whole is reads =
    let yes : nat_le (2 * size) (length file) ≡ true = grind (arith, nat_tests, same, whole) in
    ap (λ (b : Bool). b && is_ok (view_in (take size (drop size file)))) yes ∙ ap (λ r. is_ok r) (ap (λ bs. view_in bs) (sym is) ∙ reads)

pub root_entries : (block : List ℕ) (view : PtrView) (len : ℕ) → view_in block ≡ Ok view → len ≡ 0 + view.count → length block ≤ 50000 → len ≤ 1563
root_entries block view len reads is most = omega (arith, (header_from_view block view reads).room, is, most)

root_block : (file : List ℕ) (size : ℕ) (format : Format) (original : Option (List ℕ)) → bytes_at (damaged file size format original) root_pages ≡ take size (drop size file)
root_block file size format original = let one : size * 1 ≡ size = omega arith in ap (λ n. take n (drop n file)) one

pub salvages_all : (file : List ℕ) (original : Option (List ℕ)) (zero : Zero) (size : ℕ) (format : Format) (shown : Shown) → reading_of (take 4096 file) ≡ Ok zero → zero.page_size ≡ size → format_by zero.format ≡ format
    → root_reads file size ≡ true → IsFoundOf (damaged file size format original) (entries_of (take size (drop size file))) shown → SalvagesOf (Some file) original shown.bytes.items shown.markers
salvages_all file original zero size format shown reads sized formatted root_is found =
    let d : Damaged = damaged file size format original in
    let tests = and_parts (nat_le (2 * size) (length file)) (is_ok (view_in (take size (drop size file)))) root_is in
    let view = has_view (view_in (take size (drop size file))) tests.1 in
    let block = root_block file size format original in
    let whole = shown_whole format shown found.0 found.2 in (
      size,
      format,
      record {
        zero = zero;
        reads = reads;
        size = sized;
        format_is = formatted;
        whole = within (2 * size) (length file) tests.0;
        view = view.0;
        root = ap (λ bs. view_in bs) block ∙ view.1;
        items = found.0;
        gives = subst (λ (bs : List ℕ). Gives d (first_pages ∷ []) (entries_of bs) found.0) (sym block) found.1;
        bytes_are = found.2.bytes ∙ ap (λ is. bytes_of_items format is) whole;
        markers_are = found.2.markers ∙ ap (λ is. markers_in is) whole;
      },
    )

-- ---- a swap file that was opened

opened_root : (o : Option (List ℕ)) (opening : Opening) (r : Result Zero ZeroErr) → opening.zero ≡ r → IsOpening o (Some opening) → (file : List ℕ) × (o ≡ Some file) × (r ≡ reading_of (take 4096 file))
opened_root None opening r is opened = absurd opened
opened_root (Some file) opening r is opened = (file, refl, sym is ∙ opened.1)

-- what was shown of a swap file that is there
pub salvaged : (o original : Option (List ℕ)) (found : Option Opening) (opening : Opening) (zero : Zero) (format : Format) (shown : Shown) → format_by zero.format ≡ format → found ≡ Some opening → opening.zero ≡ Ok zero → IsOpening o found
    → ((file : List ℕ) → o ≡ Some file → (root_reads file zero.page_size ≡ true) × IsFoundOf (damaged file zero.page_size format original) (entries_of (take zero.page_size (drop zero.page_size file))) shown)
    → SalvagesOf o original shown.bytes.items shown.markers
salvaged o original found opening zero format shown formatted some ok opened walked =
    let at = opened_root o opening (Ok zero) ok (subst (λ (f : Option Opening). IsOpening o f) some opened) in
    let walk = walked at.0 at.1 in
    subst (λ (p : Option (List ℕ)). SalvagesOf p original shown.bytes.items shown.markers) (sym at.1) (salvages_all at.0 original zero zero.page_size format shown (sym at.2) refl formatted walk.0 walk.1)

-- ---- the pages before the walk

one_first : (n k : ℕ) → 2 ≤ n → k < n → first_used n k ≡ times_taken (first_pages ∷ []) k
one_first n k le lt = elim (cases_lt k 1) [
  | inl zero_k ↦ (let e : k ≡ 0 = omega (arith, zero_k) in rw e (grind (arith, nat_tests)))
  | inr some ↦ elim (cases_lt k 2) [
    | inl one_k ↦ (let e : k ≡ 1 = omega (arith, one_k, some) in rw e (grind (arith, nat_tests)))
    | inr more ↦ grind (arith, nat_tests)
  ]
]

none_first : (k : ℕ) → 2 ≤ k → times_taken (first_pages ∷ []) k ≡ 0
none_first k le = grind (arith, nat_tests)

pub first_taken : (w : Walk) (n : ℕ) → length w.marks ≡ n → 2 ≤ n → ((k : ℕ) → used_in w.marks k ≡ first_used n k) → HasTaken w (first_pages ∷ [])
first_taken w n len le used = record {
  within = λ k lt. used k ∙ one_first n k le (omega (arith, lt, len));
  past = λ k ge. none_first k (omega (arith, ge, len, le));
}

-- ---- calls

pages_at : (o : Option (List ℕ)) (found : Option Opening) (opening : Opening) (zero : Zero) → found ≡ Some opening → opening.zero ≡ Ok zero → IsOpening o found → pages_of o ≡ opening.len / zero.page_size
pages_at None found opening zero some ok opened = absurd (subst (λ (f : Option Opening). IsOpening None f) some opened)
pages_at (Some file) found opening zero some ok opened =
    let here : IsOpening (Some file) (Some opening) = subst (λ (f : Option Opening). IsOpening (Some file) f) some opened in
    ap (λ r. pages_by file r) (sym here.1 ∙ ok) ∙ ap (λ n. n / zero.page_size) (sym here.0)

pieces_at : (o : Option (List ℕ)) (original : Option Original) → IsOpened o original → pieces_in original ≡ pieces_of_file o
pieces_at None None opened = refl
pieces_at None (Some original) opened = absurd opened
pieces_at (Some file) None opened = absurd opened
pieces_at (Some file) (Some original) opened = ap (λ n. (n + 65535) / 65536) opened.len

calls_most : (free left pages pieces : ℕ) → free + 2 ≡ pages → left ≤ 1563 → 6 + (free + (left + 1563 * free) * pieces) ≤ 6 + (pages + 1563 * pages * pieces)
calls_most free left pages pieces all few =
    let times : (left + 1563 * free) * pieces ≤ (1563 * pages) * pieces = mul-le (left + 1563 * free) pieces (1563 * pages) pieces (omega (arith, all, few)) (omega arith) in
    omega (arith, times, all)

pub calls_all : (o original : Option (List ℕ)) (found : Option Opening) (opening : Opening) (zero : Zero) (beside : Option Original) (free left : ℕ) → found ≡ Some opening → opening.zero ≡ Ok zero → IsOpening o found → IsOpened original beside
    → free + 2 ≡ opening.len / zero.page_size → left ≤ 1563 → 6 + (free + (left + 1563 * free) * pieces_in beside) ≤ 6 + (pages_of o + 1563 * pages_of o * pieces_of_file original)
calls_all o original found opening zero beside free left some ok opened beside_opened all few =
    rw (pages_at o found opening zero some ok opened) (rw (sym (pieces_at original beside beside_opened)) (calls_most free left (opening.len / zero.page_size) (pieces_in beside) all few))

-- Pages that are away: the file that has them, and another one that takes its place.
use Rattle.std.proofs.Common.{Bool, IsTrue, ◌≡◌, ◌≢◌, inl, inr, ℕ, ◌+◌, ◌-◌, ◌*◌, ◌^◌, ◌<◌, ◌≤◌, false, List, [], length, take, drop, Option, Some, None, IsSome, is_some, refl, sym, ◌∙◌, ap, subst, arith}
use Rattle.std.proofs.lemmas.Option.{same_Some}
use Rattle.std.specs.Prelude.{IfSome, IsSomeAnd}
use Rattle.std.proofs.lemmas.Bool.{cases_Bool, cases_lt, true≢false}
use Rattle.std.proofs.lemmas.Bool.Decides.{nat_tests}
use Rattle.std.proofs.lemmas.List.{drop-drop}
use Rattle.vs_host.specs.File.{File}
use Rattle.vs_host.specs.Disk.{Disk, IsFolder, Name, ChangesFile, content_in, names_of, read_under}
use Rattle.vs_disk.specs.Images.{FileHas}
use Rattle.vs_disk.specs.Names.{SameAt}
use Rattle.vs_disk.proofs.Images.{read_image}
use Rattle.vs_disk.proofs.Steps.{same_at}
use Rattle.vs_pages.specs.Cells.{Cell, Away, Kept, Cells, is_away, put_cell, shown, AreThere}
use Rattle.vs_pages.specs.History.{first_of}
use Rattle.vs_pages.specs.Maps.{Map, joined, no_pages, pages_at, put, zeros}
use Rattle.vs_pages.specs.Memory.{changes_of, commits_of, committed_under, first_kept_of, kept_of, state_under, AreBacked, KeepsSince}
use Rattle.vs_pages.specs.MemoryLaws.{away_first}
use Rattle.vs_pages.specs.State.{PageState}
use Rattle.vs_pages.specs.declared.memory.MemPages.{MemPages}
use Rattle.vs_pages.proofs.CellLemmas.{cell-other, shown_away}
use Rattle.vs_pages.proofs.MapsLemmas.{length-zeros, put-other, put-same}
use Rattle.vs_pages.proofs.TableLemmas.{cells_of-within}
use Rattle.vs_pages.proofs.Sights.{sent_backed, sent_committed, sent_state, state_same}
use Rattle.vs_swap.specs.Files.{page_in}
use Rattle.vs_pair.specs.declared.files.SwapFiles.{SwapFiles}
use Rattle.vs_pair.specs.declared.written.Written.{Written}
use Rattle.vs_pair.specs.Cached.{was_away}
use Rattle.vs_pair.specs.Held.{AreApart, HasAll, SameSeen, held_from, held_with, pages_read, pages_under}
use Rattle.vs_pair.specs.Stale.{HasFresh}
use Rattle.vs_pair.specs.Swap.{Body, Synced, WritesBody, body_of, page_zero}
use Rattle.vs_pair.specs.Pair.{IsFit, Known, away_of, is_swap, name_of, other_side}
use Rattle.vs_pair.proofs.FitLemmas.{body_is, side_is_swap}
use Rattle.vs_pair.proofs.PageWrites.{page_is, part_of}

-- ---- a file that another call leaves

content_from : (old new : Disk) (o : Option ℕ) → ((number : ℕ) → o ≡ Some number → new.files number ≡ old.files number) → read_under new o ≡ read_under old o
content_from old new None same = refl
content_from old new (Some number) same = ap (λ (f : File). Some f.bytes) (same number refl)

pub other_pages : (name from : Name) (S : File → File → Type 0) (old new : Disk) → AreApart old name from → ChangesFile name S old new → pages_under new from ≡ pages_under old from
other_pages name from S old new apart changes =
    ap pages_read (ap (λ (o : Option ℕ). read_under new o) (same_at name S old new changes 0 from) ∙ content_from old new (names_of old from) (λ number is. changes.others number (λ leads. apart number leads is)))

pub still_apart : (name from : Name) (S : File → File → Type 0) (old new : Disk) → AreApart old name from → ChangesFile name S old new → AreApart new name from
still_apart name from S old new apart changes number leads is =
    apart number (sym (same_at name S old new changes 0 name) ∙ leads) (sym (same_at name S old new changes 0 from) ∙ is)

pub away_same : (files : SwapFiles) (old new : Disk) → SameAt (is_swap files.names) old new → away_of files new ≡ away_of files old
away_same files old new same =
    let name : Name = name_of files.names files.newer in
    let inside = side_is_swap files.names files.newer in
    let here = same.now name inside in
    ap pages_read (ap (λ (o : Option ℕ). read_under new o) here ∙ content_from old new (names_of old name) (λ number is. same.files 0 name number inside (here ∙ is)))

module _ (files : Known) (disk : Disk) (newest : Synced) (begun past : List Synced) (fit : IsFit files disk newest begun past) where
  -- the two files are two
  pub fit_two : AreApart disk (name_of files.names (other_side files.newer)) (name_of files.names files.newer)
  fit_two number older newer =
      fit.differ (same_Some fit.newer_number number (sym (fit.newer.leads 0) ∙ newer) ∙ sym (same_Some fit.older_number number (sym (fit.older.leads 0) ∙ older)))

  -- the newer one has the pages of the newest sync
  pub fit_stands : (k : ℕ) (page : List ℕ) → 1 ≤ k → newest.pages k ≡ Some page → pages_under disk (name_of files.names files.newer) k ≡ Some page
  fit_stands k page least is =
      let holds = fit.newer.has (disk.files fit.newer_number).bytes (read_image (disk.files fit.newer_number)) in
      subst (λ (o : Option ℕ). pages_read (read_under disk o) k ≡ Some page) (sym (fit.newer.leads 0)) (holds.whole.pages k page least is)

-- what a sync writes, by the name of the file that has what is away
pub body_away : (file : Name) (sync : Synced) (name : Name) (first : List ℕ) (pages : MemPages) (disk : Disk) (from newer : Name) → from ≡ newer → sync.pages ≡ (held_from pages disk newer).committed → name ≡ file
    → first ≡ page_zero name sync.generation sync.head → record { first = first; pages = (held_from pages disk from).committed } ≡ body_of file sync
body_away file sync name first pages disk from newer same pages_are named is =
    let of_map : Map → Body = λ map. record { first = first; pages = map } in
    ap (λ (n : Name). of_map (held_from pages disk n).committed) same ∙ (ap of_map (sym pages_are) ∙ body_is file sync name first named is)

-- ---- another map in the place of one

found : (o : Option (List ℕ)) → IsSomeAnd o (λ page. length page ≡ 4096) → (page : List ℕ) × (o ≡ Some page) × (length page ≡ 4096)
found None is = absurd is
found (Some page) is = (page, refl, is)

module _ (away next : Map) (pages : MemPages) (backed : AreBacked away pages) (all : (k : ℕ) (page : List ℕ) → 1 ≤ k → committed_under away pages k ≡ Some page → next k ≡ Some page) where
  -- what is away stands in the next file as in this one
  turned_at : (k : ℕ) → IsTrue (is_away (first_kept_of pages k)) → next k ≡ away k
  turned_at k gone =
      let stands = backed k gone in
      let page = found (away k) stands.1 in
      all k page.0 stands.0 (shown_away (away k) (first_kept_of pages k) gone ∙ page.1) ∙ sym page.1

  pub turned_state : state_under next pages ≡ state_under away pages
  turned_state = state_same away next pages turned_at

  pub turned_backed : AreBacked next pages
  turned_backed k gone = let stands = backed k gone in (stands.0, subst (λ (o : Option (List ℕ)). IsSomeAnd o (λ page. length page ≡ 4096)) (sym (turned_at k gone)) stands.1)

  pub turned_all : HasAll next pages
  turned_all k page least is = all k page least (ap (λ (s : PageState). s.committed k) (sym turned_state) ∙ is)

-- ---- a page that is sent away

pub same_seen : (away : Map) (pages : MemPages) → AreBacked away pages → SameSeen away pages pages
same_seen away pages backed = record { state = refl; backed = backed }

pub send_one : (away : Map) (first mid new : MemPages) (at : ℕ) (bytes : List ℕ) → 1 ≤ at → length bytes ≡ 4096 → kept_of mid at ≡ Some (Kept bytes) → changes_of mid ≡ [] → changes_of new ≡ []
    → kept_of new ≡ put_cell (kept_of mid) at (Some Away) → commits_of new ≡ commits_of mid → HasAll away first → SameSeen away first mid → SameSeen away first new × (away at ≡ Some bytes)
send_one away first mid new at bytes least size here before after cells commits all same =
    let there : away at ≡ Some bytes = all at bytes least (ap (λ (s : PageState). s.committed at) (sym same.state) ∙ sent_committed mid new at bytes here before after cells away) in (
      record {
        state = sent_state mid new at bytes here before after cells away there commits ∙ same.state;
        backed = sent_backed mid new at bytes here before after cells away least size there same.backed;
      },
      there,
    )

-- what was kept at the last commit, where nothing was changed since
unchanged : (pages : MemPages) → changes_of pages ≡ [] → first_kept_of pages ≡ kept_of pages
unchanged pages none = ap (first_of (kept_of pages)) none

pub sent_away : (mid new : MemPages) (at : ℕ) → changes_of mid ≡ [] → changes_of new ≡ [] → kept_of new ≡ put_cell (kept_of mid) at (Some Away)
    → (k : ℕ) → IsTrue (was_away new k) → k ≢ at → IsTrue (was_away mid k)
sent_away mid new at before after cells k is other =
    let cell : first_kept_of new k ≡ first_kept_of mid k =
    ap (λ (m : Cells). m k) (unchanged new after) ∙ (ap (λ (m : Cells). m k) cells ∙ (cell-other (kept_of mid) at (Some Away) k other ∙ sym (ap (λ (m : Cells). m k) (unchanged mid before)))) in
    ap is_away (sym cell) ∙ is

-- a map with a page under each number but this one
abbrev all_but : ℕ → Map
all_but k = put (λ j. Some (zeros 1)) k None

-- A change sends no page away.
pub away_since : (away : Map) (old new : MemPages) → AreBacked away old → KeepsSince old new → (k : ℕ) → IsTrue (was_away new k) → IsTrue (was_away old k)
away_since away old new backed since k is = elim (cases_Bool (was_away old k)) [
  | inl was ↦ was
  | inr was_not ↦
      let all : AreBacked (all_but k) old = λ j gone.
      let other : j ≢ k = λ same. true≢false (sym gone ∙ (ap (was_away old) same ∙ was_not)) in
      let there : all_but k j ≡ Some (zeros 1) = put-other (λ i. Some (zeros 1)) k None j other in
      ((backed j gone).0, subst (λ (o : Option (List ℕ)). IsSomeAnd o (λ page. length page ≡ 4096)) (sym there) (length-zeros 1)) in
      absurd (subst (λ (o : Option (List ℕ)). IsSomeAnd o (λ page. length page ≡ 4096)) (put-same (λ i. Some (zeros 1)) k None) (since.backed (all_but k) all k is).1)
]

-- ---- pages none of which is away

pub none_backed : (k : ℕ) → IsSomeAnd (no_pages k) (λ page. length page ≡ 4096) → ⊥
none_backed k is = is

pub here_backed : (away : Map) (pages : MemPages) → AreBacked no_pages pages → AreBacked away pages
here_backed away pages here k gone = absurd (none_backed k (here k gone).1)

pub here_state : (away : Map) (pages : MemPages) → AreBacked no_pages pages → state_under away pages ≡ state_under no_pages pages
here_state away pages here = state_same no_pages away pages (λ k gone. absurd (none_backed k (here k gone).1))

pub body_here : (temporary name : Name) (first : List ℕ) (pages : MemPages) (old new : Disk) → AreBacked no_pages pages
    → ChangesFile temporary (WritesBody (record { first = first; pages = (held_from pages old name).committed })) old new → ChangesFile temporary (WritesBody (record { first = first; pages = committed_under no_pages pages })) old new
body_here temporary name first pages old new here writes =
    subst (λ (s : PageState). ChangesFile temporary (WritesBody (record { first = first; pages = s.committed })) old new) (here_state (pages_under old name) pages here) writes

pub apart_names : (disk : Disk) (name other : Name) → IsFolder disk → name ≢ other → AreApart disk name other
apart_names disk name other folder differ number leads is = differ (folder.apart 0 name other number leads is)

-- ---- what a sync writes, after another call on its file

pub written_at : (name from : Name) (first : List ℕ) (pages : MemPages) (old mid new : Disk) (S : File → File → Type 0) → AreApart old name from → ChangesFile name S old mid
    → ChangesFile name (WritesBody (record { first = first; pages = (held_from pages mid from).committed })) mid new → ChangesFile name (WritesBody (record { first = first; pages = (held_from pages old from).committed })) mid new
written_at name from first pages old mid new S apart changes writes =
    subst (λ (m : Map). ChangesFile name (WritesBody (record { first = first; pages = committed_under m pages })) mid new) (other_pages name from S old mid apart changes) writes

pub fresh_at : (name from : Name) (pages : MemPages) (written : Written) (old mid : Disk) (S : File → File → Type 0) → AreApart old name from → ChangesFile name S old mid
    → FileHas mid name (λ file. HasFresh (held_from pages old from) written file.bytes) → FileHas mid name (λ file. HasFresh (held_from pages mid from) written file.bytes)
fresh_at name from pages written old mid S apart changes has =
    subst (λ (m : Map). FileHas mid name (λ file. HasFresh (held_with m pages) written file.bytes)) (sym (other_pages name from S old mid apart changes)) has

-- ---- a page that is read from the file that has it

pub is_there : (o : Option (List ℕ)) → IsSomeAnd o (λ page. length page ≡ 4096) → IsSome o
is_there None is = absurd is
is_there (Some page) is = refl

module _ (k place size : ℕ) (ends : place + size ≡ 4096 * (k + 1)) where
  within_file : (bytes : List ℕ) → IsSome (page_in bytes k) → place + size ≤ length bytes
  within_file bytes is = elim (cases_lt (length bytes) (4096 * (k + 1))) [
    | inl short ↦ let none : page_in bytes k ≡ None = grind (arith, nat_tests) in let clash : is_some (page_in bytes k) ≡ false = ap (λ (o : Option (List ℕ)). is_some o) none in absurd (cc)
    | inr long ↦ omega (arith, ends, long)
  ]

  there_read : (content : Option (List ℕ)) → IsSome (pages_read content k) → IsSomeAnd content (λ bytes. place + size ≤ length bytes)
  there_read None is = absurd (cc)
  there_read (Some bytes) is = within_file bytes is

  pub read_there : (disk : Disk) (name : Name) → IsSome (pages_under disk name k) → IsSomeAnd (content_in disk name) (λ bytes. place + size ≤ length bytes)
  read_there disk name is = there_read (content_in disk name) is

pub page_ends : (k place size : ℕ) → place ≡ k * 4096 → size ≡ 4096 → place + size ≡ 4096 * (k + 1)
page_ends k place size at whole = omega (arith, at, whole)

module _ (k place size : ℕ) (at : place ≡ k * 4096) (whole : size ≡ 4096) where
  page_read : (into : List ℕ) (content : Option (List ℕ)) → IsSome (pages_read content k) → IfSome content (λ bytes. into ≡ take size (drop place bytes)) → pages_read content k ≡ Some into
  page_read into None is read = absurd (cc)
  page_read into (Some bytes) is read =
      let long : 4096 * (k + 1) ≤ length bytes = omega (arith, at, whole, within_file k place size (page_ends k place size at whole) bytes is) in
      let e : place ≡ 4096 * k = omega (arith, at) in
      page_is bytes k long ∙ ap (λ (l : List ℕ). Some l) (sym (read ∙ (ap (λ n. take n (drop place bytes)) whole ∙ ap (λ n. take 4096 (drop n bytes)) e)))

  pub read_page : (into : List ℕ) (disk : Disk) (name : Name) → IsSome (pages_under disk name k) → IfSome (content_in disk name) (λ bytes. into ≡ take size (drop place bytes)) → pages_under disk name k ≡ Some into
  read_page into disk name is read = page_read into (content_in disk name) is read

-- a page of a room
pub kept_page : (items copy : List ℕ) (i from count : ℕ) → from ≡ i * 4096 → count ≡ 4096 → from + count ≤ length items → copy ≡ take count (drop from items) → page_in items i ≡ Some copy
kept_page items copy i from count at size within is =
    let e : 4096 * i ≡ from = omega (arith, at) in
    page_is items i (omega (arith, at, size, within)) ∙ ap (λ (l : List ℕ). Some l) (ap (λ (j : ℕ). take 4096 (drop j items)) e ∙ (ap (λ (n : ℕ). take n (drop from items)) (sym size) ∙ sym is))

-- a page of the bytes that are read
module _ (at n i place count : ℕ) (from : place ≡ at * 4096) (size : count ≡ n * 4096) (less : i < n) where
  cut_page : (bytes room : List ℕ) → place + count ≤ length bytes → count ≤ length room → take count room ≡ take count (drop place bytes) → page_in bytes (at + i) ≡ page_in room i
  cut_page bytes room long most read =
      let within : 4096 * i + 4096 ≤ count = omega (arith, size, less) in
      let there : 4096 * (at + i + 1) ≤ length bytes = omega (arith, from, size, less, long) in
      let here : 4096 * (i + 1) ≤ length room = omega (arith, within, most) in
      let sum : place + 4096 * i ≡ 4096 * (at + i) = omega (arith, from) in
      let cut : List ℕ → List ℕ = λ l. take 4096 (drop (4096 * i) l) in
      page_is bytes (at + i) there
      ∙ ap (λ (l : List ℕ). Some l) (
      ap (λ (j : ℕ). take 4096 (drop j bytes)) (sym sum)
      ∙ ap (λ (l : List ℕ). take 4096 l) (sym (drop-drop (4096 * i) place bytes))
      ∙ sym (part_of (drop place bytes) (4096 * i) 4096 count within)
      ∙ ap cut (sym read)
      ∙ part_of room (4096 * i) 4096 count within
      )
      ∙ sym (page_is room i here)

  run_there : (room : List ℕ) (content : Option (List ℕ)) → IsSomeAnd content (λ bytes. place + count ≤ length bytes) → count ≤ length room
      → IfSome content (λ bytes. take count room ≡ take count (drop place bytes)) → pages_read content (at + i) ≡ page_in room i
  run_there room None long most read = absurd long
  run_there room (Some bytes) long most read = cut_page bytes room long most read

  pub run_read : (files : SwapFiles) (disk : Disk) (name : Name) (room : List ℕ) → name ≡ name_of files.names files.newer
      → IsSomeAnd (content_in disk name) (λ bytes. place + count ≤ length bytes) → count ≤ length room
      → IfSome (content_in disk name) (λ bytes. take count room ≡ take count (drop place bytes)) → away_of files disk (at + i) ≡ page_in room i
  run_read files disk name room named long most read =
      ap (λ (m : Name). pages_under disk m (at + i)) (sym named) ∙ run_there room (content_in disk name) long most read

-- what is not there is not asked for
pub not_both : (b : Bool) → IsTrue b → b ≡ false → ⊥
not_both b is off = true≢false (sym is ∙ off)

-- a run of pages of which none is read yet
joined_none : (o : Option (List ℕ)) → joined (Some []) o ≡ o
joined_none None = refl
joined_none (Some page) = refl

pub started : (m : Map) (at n : ℕ) → joined (Some []) (pages_at m (at + 0) (n - 0)) ≡ pages_at m at n
started m at n =
    joined_none (pages_at m (at + 0) (n - 0)) ∙ (let e : at + 0 ≡ at = omega arith in let f : n - 0 ≡ n = omega arith in λ i. pages_at m (e i) (f i))

pub backed_there : (away : Map) (pages : MemPages) (at : ℕ) → AreBacked away pages → IsTrue (is_away (kept_of pages at)) → IsSome (away at)
backed_there away pages at backed gone = is_there (away at) (backed at (away_first pages at gone)).1

pub one_there : (m : Cells) (at : ℕ) → AreThere m at 1 → IsSome (m at)
one_there m at there = let e : at + 0 ≡ at = omega arith in subst (λ (k : ℕ). IsSome (m k)) e (there 0 (omega arith))

pub there_one : (m : Cells) (at : ℕ) → IsSome (m at) → AreThere m at 1
there_one m at there i less = let e : at ≡ at + i = omega (arith, less) in subst (λ (k : ℕ). IsSome (m k)) e there

pub committed_there : (away : Map) (pages : MemPages) (at : ℕ) → AreBacked away pages → IsTrue (is_away (first_kept_of pages at)) → IsSome (away at)
committed_there away pages at backed gone = is_there (away at) (backed at gone).1

away_some : (o : Option Cell) → IsTrue (is_away o) → IsSome o
away_some None is = absurd (true≢false (sym is))
away_some (Some cell) is = refl

-- the last page of a run
run_last : (n at place count : ℕ) → 1 ≤ n → place ≡ at * 4096 → count ≡ n * 4096 → place + count ≡ 4096 * (at + (n - 1) + 1)
run_last n at place count least from size = omega (arith, least, from, size)

less_than_all : (n : ℕ) → 1 ≤ n → n - 1 < n
less_than_all n least = omega (arith, least)

-- A run of pages that are away lies in the file as a whole.
module _ (pages : MemPages) (at n : ℕ) (least : 1 ≤ n) (gone : (i : ℕ) → i < n → IsTrue (is_away (kept_of pages (at + i)))) where
  pub run_within : (files : SwapFiles) (disk : Disk) (name : Name) → name ≡ name_of files.names files.newer → AreBacked (away_of files disk) pages
      → IsSomeAnd (content_in disk name) (λ bytes. at * 4096 + n * 4096 ≤ length bytes)
  run_within files disk name named backed =
      let newer : Name = name_of files.names files.newer in
      let there = backed_there (away_of files disk) pages (at + (n - 1)) backed (gone (n - 1) (less_than_all n least)) in
      subst (λ (m : Name). IsSomeAnd (content_in disk m) (λ bytes. at * 4096 + n * 4096 ≤ length bytes)) (sym named)
      (read_there (at + (n - 1)) (at * 4096) (n * 4096) (run_last n at (at * 4096) (n * 4096) least refl refl) disk newer there)

  pub run_below : at + n ≤ 2 ^ 40
  run_below = omega (arith, least, pages.table.bound, cells_of-within pages.table.places.items (at + (n - 1)) (away_some (kept_of pages (at + (n - 1))) (gone (n - 1) (less_than_all n least))))

-- the page that is asked for is the first of its run
pub fetched : (pages : MemPages) (away : Map) (room page : List ℕ) (at n : ℕ) → IsTrue (is_away (kept_of pages at)) → 1 ≤ n → ((i : ℕ) → i < n → away (at + i) ≡ page_in room i)
    → page_in room 0 ≡ Some page → shown (away at) (kept_of pages at) ≡ Some page
fetched pages away room page at n gone least read is =
    let e : at ≡ at + 0 = omega arith in
    shown_away (away at) (kept_of pages at) gone ∙ (ap away e ∙ (read 0 least ∙ is))

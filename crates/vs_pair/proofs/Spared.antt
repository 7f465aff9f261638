-- The pages that are not stale stay in each image, since no write reaches them; so they are as they are committed.
use Rattle.std.proofs.Common.{◌≡◌, ◌⊎◌, inl, inr, ℕ, ◌+◌, ◌-◌, ◌*◌, ◌<◌, ◌≤◌, true, false, List, take, drop, Some, refl, sym, ◌∙◌, ap, subst, arith}
use Rattle.std.proofs.lemmas.Bool.{cases_lt, true≢false}
use Rattle.std.proofs.lemmas.List.{drop-drop}
use Rattle.vs_host.specs.File.{File, IsFileImage, WritesSome, Leaves}
use Rattle.vs_host.specs.Disk.{Disk, Name, ChangesFile}
use Rattle.vs_host.specs.World.{Tells, Scene}
use Rattle.vs_disk.specs.Images.{MaySync, Torn, Holds as HoldsAlways}
use Rattle.vs_disk.specs.Runs.{NoneFails}
use Rattle.vs_disk.proofs.Images.{torn_image, sync_narrows}
use Rattle.vs_disk.proofs.Steps.{same_at, file_as}
use Rattle.vs_pages.specs.State.{Commits}
use Rattle.vs_swap.specs.Files.{page_in}
use Rattle.vs_pair.specs.declared.gate.Gate.{Gate}
use Rattle.vs_pair.specs.declared.gate.Gate.TheVariants.{Open, Closed, Unknown}
use Rattle.vs_pair.specs.declared.written.Written.{Written}
use Rattle.vs_pair.specs.Acts.{Acts}
use Rattle.vs_pair.specs.Held.{Held}
use Rattle.vs_pair.specs.Stale.{HasCommitted, Keeps, SparesFresh, is_stale}
use Rattle.vs_pair.specs.Swap.{Synced, Body, body_of, ChangesMark, CloseStep, Fits}
use Rattle.vs_pair.specs.Pair.{Known, IsFit, name_of, other_side}
use Rattle.vs_pair.proofs.Acts.{acts_as}
use Rattle.vs_pair.proofs.Calls.{acts_file}
use Rattle.vs_pair.proofs.FreshPages.{fresh_in, none_fresh}
use Rattle.vs_pair.proofs.Gates.{same_page}
use Rattle.vs_pair.proofs.PageWrites.{page_is, page_found, part_of}

-- ---- a write that does not reach a page

-- the range of a write lies behind the page or before it
abbrev pub Misses : ℕ → ℕ → ℕ → Type 0
Misses at n k = (4096 * (k + 1) ≤ at) ⊎ (at + n ≤ 4096 * k)

same_after : (c d : List ℕ) (end from : ℕ) → end ≤ from → drop end c ≡ drop end d → drop from c ≡ drop from d
same_after c d end from past same =
    let is : from ≡ end + (from - end) = omega (arith, past) in
    ap (λ (n : ℕ). drop n c) is ∙ sym (drop-drop (from - end) end c) ∙ ap (λ (l : List ℕ). drop (from - end) l) same ∙ drop-drop (from - end) end d ∙ ap (λ (n : ℕ). drop n d) (sym is)

same_part : (at n : ℕ) (d c : List ℕ) → Torn at n d c → (k : ℕ) → Misses at n k → take 4096 (drop (4096 * k) c) ≡ take 4096 (drop (4096 * k) d)
same_part at n d c torn k (inl before) =
    sym (part_of c (4096 * k) 4096 at (omega (arith, before))) ∙ ap (λ (l : List ℕ). take 4096 (drop (4096 * k) l)) torn.before ∙ part_of d (4096 * k) 4096 at (omega (arith, before))
same_part at n d c torn k (inr past) = ap (λ (l : List ℕ). take 4096 l) (same_after c d (at + n) (4096 * k) past torn.after)

page_torn : (at n : ℕ) (d c : List ℕ) → Torn at n d c → (k : ℕ) → Misses at n k → (page : List ℕ) → page_in d k ≡ Some page → page_in c k ≡ Some page
page_torn at n d c torn k misses page there =
    let found = page_found d k page there in
    page_is c k (omega (arith, found.0, torn.no_shorter)) ∙ ap (λ (p : List ℕ). Some p) (same_part at n d c torn k misses ∙ found.1)

-- page 0 after its identifier
pub misses_first : (n : ℕ) → n ≡ 4094 → (k : ℕ) → 1 ≤ k → Misses 2 n k
misses_first n is k least = inr (omega (arith, is, least))

-- ---- one file

module _ (commits : Commits) (has : Written) where
  spares_joins : (a b c : File) → SparesFresh commits has a b → SparesFresh commits has b c → SparesFresh commits has a c
  spares_joins a b c first second e image =
      let mid = second e image in
      let old = first mid.0 mid.1 in
      (old.0, old.1, λ k page least is there. mid.2 k page least is (old.2 k page least is there))

  -- a run of stale pages
  pub misses_run : (place n from count : ℕ) → place ≡ 4096 * from → n ≡ 4096 * count → ((i : ℕ) → i < count → is_stale commits has (from + i) ≡ true) → (k : ℕ) → is_stale commits has k ≡ false → Misses place n k
  misses_run place n from count at size stale k fresh = elim (cases_lt k from) [
    | inl before ↦ inl (omega (arith, at, before))
    | inr past ↦ elim (cases_lt k (from + count)) [
      | inl within ↦ absurd (true≢false (sym (subst (λ (j : ℕ). is_stale commits has j ≡ true) (omega (arith, past)) (stale (k - from) (omega (arith, past, within)))) ∙ fresh))
      | inr after ↦ inr (omega (arith, at, size, after))
    ]
  ]

  pub write_spares : (at n : ℕ) → ((k : ℕ) → 1 ≤ k → is_stale commits has k ≡ false → Misses at n k) → (a b : File) → WritesSome at n a b → SparesFresh commits has a b
  write_spares at n misses a b some c image =
      let torn = torn_image a b at n c some image in
      (torn.0, torn.1, λ k page least is there. page_torn at n torn.0 c torn.2 k (misses k least is) page there)

  pub sync_spares : (a b : File) → MaySync a b → SparesFresh commits has a b
  sync_spares a b (inl same) c image = (c, subst (λ (f : File). IsFileImage f c) same image, λ k page least is there. there)
  sync_spares a b (inr syncs) c image = (c, (sync_narrows a b syncs).images c image, λ k page least is there. there)

  mark_spares : (a b : File) → ChangesMark a b → SparesFresh commits has a b
  mark_spares a b changes c image = let was = changes c image in (was.0, was.1, λ k page least is there. same_page c was.0 was.2 k page least there)

  -- ---- in the folder

  module _ (tells : Tells) (name : Name) where
    pub marks : (old new : Scene) → Acts tells (ChangesFile name ChangesMark) old new → Acts tells (ChangesFile name (SparesFresh commits has)) old new
    marks old new acts =
        acts_as tells (ChangesFile name ChangesMark) (ChangesFile name (SparesFresh commits has)) old new (λ told d s. file_as name ChangesMark (SparesFresh commits has) mark_spares old.folder d s) acts

    pub closes : (gate : Gate) (old new : Scene) → Acts tells (ChangesFile name (CloseStep gate)) old new → Acts tells (ChangesFile name (SparesFresh commits has)) old new
    closes gate old new acts =
        acts_as tells (ChangesFile name (CloseStep gate)) (ChangesFile name (SparesFresh commits has)) old new
        (λ told d s. file_as name (CloseStep gate) (SparesFresh commits has) (λ a b step. mark_spares a b step.1) old.folder d s) acts

    pub spares_on : (old mid new : Scene) → NoneFails tells old mid → Acts tells (ChangesFile name (SparesFresh commits has)) old mid → Acts tells (ChangesFile name (SparesFresh commits has)) mid new
        → Acts tells (ChangesFile name (SparesFresh commits has)) old new
    spares_on old mid new none first second = acts_file tells name (SparesFresh commits has) (SparesFresh commits has) (SparesFresh commits has) (λ a b s. s) spares_joins old mid new none first second

-- ---- what the file fitted

committed_still : (gate : Gate) (pages : Held) (has : Written) (before : Body) → Keeps gate pages has before.pages → (a b : File) → Fits gate before a → SparesFresh pages.commits has a b → Leaves b (HasCommitted pages has)
committed_still Closed pages has before keeps a b fits spares c image k least is = absurd (none_fresh pages.commits k (subst (λ (w : Written). is_stale pages.commits w k ≡ false) (keeps.torn refl) is))
committed_still Open pages has before keeps a b fits spares c image k least is =
    let was = spares c image in was.2 k _ least is (fresh_in pages has before Open keeps was.0 (fits was.0 was.1).whole k least is)
committed_still Unknown pages has before keeps a b fits spares c image k least is =
    let was = spares c image in was.2 k _ least is (fresh_in pages has before Unknown keeps was.0 (fits was.0 was.1) k least is)

pub fit_spared : (files : Known) (old new : Disk) (newest : Synced) (begun past : List Synced) → IsFit files old newest begun past
    → ChangesFile (name_of files.names (other_side files.newer)) (SparesFresh files.pages.commits files.older_has) old new
    → HoldsAlways (name_of files.names (other_side files.newer)) (HasCommitted files.pages files.older_has) new
fit_spared files old new newest begun past fit changes lost = record {
  number = fit.older_number;
  leads = same_at (name_of files.names (other_side files.newer)) (SparesFresh files.pages.commits files.older_has) old new changes lost (name_of files.names (other_side files.newer)) ∙ fit.older.leads lost;
  leaves = committed_still files.gate files.pages files.older_has (body_of files.names.file fit.older_sync) fit.older_keeps (old.files fit.older_number) (new.files fit.older_number) fit.older.has
      (changes.this fit.older_number (fit.older.leads 0));
}

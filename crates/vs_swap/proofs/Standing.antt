-- A file has one page 0 and one list of lines, and a tree that a session writes is read wherever its pages stand.
use Rattle.std.proofs.Common.{◌≡◌, ℕ, zero, suc, ◌≤◌, ◌==◌, List, [], ◌∷◌, length, map, Bool, Option, Some, None, Result, Ok, Err, sym, refl, ap, ◌∙◌, inl, inr, arith}
use Rattle.std.specs.List.{AllByRecursion}
use Rattle.vs_pages.specs.Maps.{Map, pages_at, lacks}
use Rattle.vs_text.specs.declared.format.Format.{Format}
use Rattle.vs_text.specs.Text.{IsText, stored}
use Rattle.vs_text.specs.Documents.{Document}
use Rattle.vs_text.proofs.StoredForm.{same_from_stored}
use Rattle.vs_zero.specs.declared.Pair.{Pair}
use Rattle.vs_data.specs.declared.DataErr.{DataErr}
use Rattle.vs_data.specs.declared.DataView.{DataView}
use Rattle.vs_data.specs.Blocks as lines
use Rattle.vs_data.proofs.Lines.{no_lines}
use Rattle.vs_data.proofs.Reading.{view_holds}
use Rattle.vs_ptr.specs.declared.PtrErr.{PtrErr}
use Rattle.vs_ptr.specs.declared.PtrView.{PtrView}
use Rattle.vs_ptr.specs.Blocks as pointers
use Rattle.vs_ptr.proofs.Headers.{header_from_view}
use Rattle.vs_tree_shape.specs.declared.entries.Entry.{Entry}
use Rattle.vs_tree_shape.specs.Trees.{read_by, Tree, IsTree, uses, entry_of, HasLines}
use Rattle.vs_tree_shape.specs.Depths.{AreApart, same_at_depths}
use Rattle.vs_tree_shape.proofs.Shapes.{kept, unused}
use Rattle.vs_tree_blocks.specs.Blocks.{tree_format, data_lines, points_in}
use Rattle.vs_tree_blocks.proofs.DataLemmas.{only_same, read_own}
use Rattle.vs_swap.specs.Entries.{swap_points}
use Rattle.vs_swap.specs.Files.{pages_in, HoldsPages, swap_format, format_by, GivesLines, IsHead, StandsFor}
use Rattle.vs_swap.specs.Recovery.{StandsIn, Recovered}
use Rattle.vs_swap.proofs.Pointers.{points_refused, wider_points}

-- ---- one list of lines

-- a block that reads in both ways would begin with both identifiers
no_both : (bytes : List ℕ) (found : List (List ℕ)) (entries : List Entry) (read : Result DataView DataErr) (other : Result PtrView PtrErr) → lines.view_in bytes ≡ read → pointers.view_in bytes ≡ other
    → lines.lines_in bytes ≡ Some found → swap_points bytes ≡ Some entries → ⊥
no_both bytes found entries (Ok view) (Ok next) is also a b =
    let first = (view_holds bytes view is).0.bounds.id in
    let second = (header_from_view bytes next also).marked in
    absurd (omega arith)
no_both bytes found entries (Ok view) (Err refusal) is also a b = let none = points_refused bytes refusal also in absurd (cc)
no_both bytes found entries (Err refusal) other is also a b = let none = no_lines bytes refusal is in absurd (cc)

pub apart : AreApart swap_format
apart = λ bytes found entries a b. no_both bytes found entries (lines.view_in bytes) (pointers.view_in bytes) refl refl a b

pub one_list : (m : Map) (d e : ℕ) (a b : List (List ℕ)) → GivesLines m d a → GivesLines m e b → a ≡ b
one_list m d e a b x y =
    sym x.lines_are ∙ same_at_depths swap_format apart d e m x.tree y.tree x.stands.tree y.stands.tree (x.stands.root ∙ sym y.stands.root) (x.stands.page_count ∙ sym y.stands.page_count) ∙ y.lines_are

-- ---- one document

-- page 0 says one thing
pub one_head : (file : List ℕ) (g h : ℕ) (a b : Bool) (x y : Format) → IsHead file g a x → IsHead file h b y → (g ≡ h) × (a ≡ b) × (x ≡ y)
one_head file g h a b x y p q =
    let both : Ok p.zero ≡ Ok q.zero = sym p.reads ∙ q.reads in
    let zero : p.zero ≡ q.zero = cc in
    let pairs : ◌≡◌ {A = Option Pair} (Some (record { generation = g; empty = a })) (Some (record { generation = h; empty = b })) = sym p.paired ∙ (λ i. (zero i).pair) ∙ q.paired in
    let pair : ◌≡◌ {A = Pair} (record { generation = g; empty = a }) (record { generation = h; empty = b }) = cc in
    ((λ i. (pair i).generation), (λ i. (pair i).empty), sym p.format_is ∙ (λ i. format_by (zero i).format) ∙ q.format_is)

same_document : (a b : Document) → a.text ≡ b.text → a.format ≡ b.format → a ≡ b
same_document a b text format = ap (λ t. record a { text = t }) text ∙ ap (λ f. record b { format = f }) format

pub once : (file : List ℕ) (g h : ℕ) (a b : Document) → StandsFor file g a → StandsFor file h b → (g ≡ h) × (a ≡ b)
once file g h a b x y =
    let head = one_head file g h (length a.text == 0) (length b.text == 0) a.format b.format x.head y.head in
    let lines = one_list (pages_in file) x.depth y.depth (stored a.text) (stored b.text) x.tree y.tree in
    (head.0, same_document a b (same_from_stored a.text b.text x.is_text y.is_text head.1 lines) head.2)

pub in_once : (file : Option (List ℕ)) (g h : ℕ) (a b : Document) → StandsIn file g a → StandsIn file h b → (g ≡ h) × (a ≡ b)
in_once None g h a b x y = absurd x
in_once (Some file) g h a b x y = once file g h a b x y

pub one_recovered : (swp swo : Option (List ℕ)) (a b : Document) → Recovered swp swo a → Recovered swp swo b → a ≡ b
one_recovered swp swo a b (inl p) (inl q) = (in_once swp p.generation q.generation a b p.stands q.stands).1
one_recovered swp swo a b (inl p) (inr q) = absurd (omega (arith, p.no_newer q.generation b q.stands, q.older p.generation a p.stands))
one_recovered swp swo a b (inr p) (inl q) = absurd (omega (arith, q.no_newer p.generation a p.stands, p.older q.generation b q.stands))
one_recovered swp swo a b (inr p) (inr q) = (in_once swo p.generation q.generation a b p.stands q.stands).1

-- ---- what a session writes

wider_read : (pages : ℕ) (o : Option (List ℕ)) (found : List (List ℕ)) → read_by (data_lines pages) o ≡ Some found → read_by lines.lines_in o ≡ Some found
wider_read pages None found is = absurd (cc)
wider_read pages (Some bytes) found is = only_same bytes pages found (read_own bytes pages found is).1

wider_root : (o : Option (List ℕ)) (found : List Entry) → read_by points_in o ≡ Some found → read_by swap_points o ≡ Some found
wider_root None found is = absurd (cc)
wider_root (Some bytes) found is = wider_points bytes found is

wider_each : (d : ℕ) (m : Map) → ((u : Tree d) → IsTree tree_format d m u → IsTree swap_format d m u) → (us : List (Tree d)) → AllByRecursion (λ u. IsTree tree_format d m u) us → AllByRecursion (λ u. IsTree swap_format d m u) us
wider_each d m ih [] each = tt
wider_each d m ih (u ∷ us) each = (ih u each.0, wider_each d m ih us each.1)

wider : (d : ℕ) (m : Map) (t : Tree d) → IsTree tree_format d m t → IsTree swap_format d m t
wider zero m t is = (is.0, wider_read t.pages (pages_at m t.page t.pages) t.lines is.1)
wider (suc d) m t is = (wider_root (pages_at m t.0 1) (map (λ u. entry_of d u) t.1) is.0, wider_each d m (λ u. wider d m u) t.1 is.1)

some_page : (o : Option (List ℕ)) → (lacks o ≡ 1 → ⊥) → (page : List ℕ) × (o ≡ Some page)
some_page None there = absurd (there refl)
some_page (Some page) there = (page, refl)

-- a page that the tree uses stands in the file as it does in the map
in_file : (file : List ℕ) (m : Map) (d : ℕ) (t : Tree d) → IsTree tree_format d m t → uses d t 0 ≡ 0 → HoldsPages m file → (k : ℕ) → 1 ≤ uses d t k → pages_in file k ≡ m k
in_file file m d t tree free holds zero used = absurd (omega (arith, free, used))
in_file file m d t tree free holds (suc k) used =
    let page = some_page (m (suc k)) (λ none. omega (arith, used, unused tree_format d m t (suc k) tree none)) in
    holds (suc k) page.0 (omega arith) page.1 ∙ sym page.1

pub written_lines : (file : List ℕ) (m : Map) (depth : ℕ) (found : List (List ℕ)) → HasLines tree_format m depth found → HoldsPages m file → GivesLines (pages_in file) depth found
written_lines file m depth found has holds = record {
  tree = has.tree;
  stands = record {
    tree = wider depth (pages_in file) has.tree (kept tree_format depth m (pages_in file) has.tree (in_file file m depth has.tree has.stands.tree has.zero_free holds) has.stands.tree);
    root = has.stands.root;
    page_count = has.stands.page_count;
    once = has.stands.once;
  };
  deep = has.deep;
  zero_free = has.zero_free;
  lines_are = has.lines_are;
}

pub written_stands : (file : List ℕ) (m : Map) (depth generation : ℕ) (document : Document) → IsText document.text → HasLines tree_format m depth (stored document.text) → HoldsPages m file
    → IsHead file generation (length document.text == 0) document.format → StandsFor file generation document
written_stands file m depth generation document is has holds head =
    record { head = head; depth = depth; tree = written_lines file m depth (stored document.text) has holds; is_text = is }

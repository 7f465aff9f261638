-- How many pages a small edit changes: what the edit below a block changes, and the write of the block, add up.
use Rattle.std.proofs.Common.{◌≡◌, ℕ, zero, suc, ◌+◌, ◌-◌, ◌^◌, ◌<◌, ◌≤◌, List, [], ◌∷◌, All, length, get_or, take, drop, map, Some, sym, ap, subst, ◌∙◌, arith, append-nil, length-take, length-drop}
use Rattle.std.specs.List.{AllByRecursion}
use Rattle.std.proofs.lemmas.Grind.{common_steps}
use Rattle.std.proofs.lemmas.List.{length-map}
use Rattle.std.proofs.lemmas.List.Elements.{All-from_recursion, recursion_from_All}
use Rattle.std.proofs.lemmas.List.Sums.{sum_by-cons}
use Rattle.vs_pages.specs.Maps.{Map, pages_at}
use Rattle.vs_text.specs.Text.{stored, stored_line, stored_byte}
use Rattle.vs_data.specs.Blocks.{space_of}
use Rattle.vs_tree_shape.specs.declared.entries.Entry.{Entry}
use Rattle.vs_tree_shape.specs.declared.entries.Place.{Place}
use Rattle.vs_tree_shape.specs.Trees.{read_by, lines_of}
use Rattle.vs_tree_shape.specs.Places.{IsPlace}
use Rattle.vs_tree_shape.specs.Paths.{IsOnPath}
use Rattle.vs_tree_shape.specs.Works.{Works, WorksBesideZero}
use Rattle.vs_tree_shape.proofs.Steps.{path_down}
use Rattle.vs_tree_shape.proofs.Roots.{first_above, first_lines}
use Rattle.vs_tree_shape.proofs.Working.{works_beside, works_both, works_from, works_still, works_then}
use Rattle.vs_tree_blocks.specs.declared.edit.Edit.{Edit}
use Rattle.vs_tree_blocks.specs.Blocks.{tree_format}
use Rattle.vs_tree_blocks.specs.Edits.{FitsPage, IsOnePageEdit, WorksBelow, most_entries, most_in_tree, most_worked}
use Rattle.vs_tree_blocks.specs.declared.edit.Edit.TheVariants.{Before, After, Behind, Remove}
use Rattle.vs_tree_shape.specs.Changes.{HasLineBelow, pointer_entry}
use Rattle.vs_tree.specs.declared.walk.Root.{Root}
use Rattle.vs_tree.specs.Runs.{HasTree, run_of}
use Rattle.vs_tree.proofs.Added.{get_or_mid}

-- how many pages a write of a block works after an edit below it
pub step_work : (edit : Edit) (depth by : ℕ) (w2 w3 : List ℕ) → (depth ≡ 0 → ⊥) → by ≤ most_entries edit → WorksBesideZero w2 w3 2 → (by ≤ 1 → Works w2 w3 1) → (more : ℕ) × (most_worked edit (depth - 1) + more ≤ most_worked edit depth) × WorksBesideZero w2 w3 more
step_work (Before run) depth by w2 w3 some few two one = (2, omega (arith, some), two)
step_work (After run) depth by w2 w3 some few two one = (2, omega (arith, some), two)
step_work (Behind runs) depth by w2 w3 some few two one = (2, omega (arith, some), two)
step_work (Remove most) depth by w2 w3 some few two one = (1, omega (arith, some), works_beside w2 w3 1 (one (omega (arith, few))))

-- the same for block 1
pub root_work : (edit : Edit) (height by : ℕ) (w2 w3 : List ℕ) → (height ≡ 0 → ⊥) → by ≤ most_entries edit → WorksBesideZero w2 w3 3 → (by ≤ 1 → Works w2 w3 1) → (more : ℕ) × (most_worked edit (height - 1) + more ≤ most_in_tree edit height) × WorksBesideZero w2 w3 more
root_work (Before run) height by w2 w3 some few three one = (3, omega (arith, some), three)
root_work (After run) height by w2 w3 some few three one = (3, omega (arith, some), three)
root_work (Behind runs) height by w2 w3 some few three one = (3, omega (arith, some), three)
root_work (Remove most) height by w2 w3 some few three one = (1, omega (arith, some), works_beside w2 w3 1 (one (omega (arith, few))))

-- an edit below the child of a block, and then a write of some pages
pub few_below : (m m1 : Map) (w w1 w2 w3 : List ℕ) (top : Entry) (d depth at more count : ℕ) (edit : Edit) (es : List Entry) (place : Place) → (depth ≡ 0 → ⊥) → read_by tree_format.entries (pages_at m top.block 1) ≡ Some es → IsPlace es at place
    → m1 ≡ m → w1 ≡ w → d ≡ depth - 1 → most_worked edit (depth - 1) + more ≤ count → WorksBelow m1 w1 w2 place.entry d place.rest edit (most_worked edit d) → WorksBesideZero w2 w3 more → WorksBelow m w w3 top depth at edit count
few_below m m1 w w1 w2 w3 top d depth at more count edit es place some reads is same start less sum few up a slight =
    let here : IsOnPath tree_format m top depth at (lines_of depth a.tree) at = record { above = a; before = []; after = []; cut = sym (append-nil (lines_of depth a.tree)); place = omega arith } in
    let l = path_down tree_format m top depth at (lines_of depth a.tree) at es place some reads is here in
    let child : List (List ℕ) = lines_of (depth - 1) l.above.tree in
    let line : get_or (lines_of depth a.tree) at [] ≡ get_or child place.rest [] =
    ap (λ (k : ℕ). get_or (lines_of depth a.tree) k []) l.place ∙ ap (λ (xs : List (List ℕ)). get_or xs (length l.before + place.rest) []) l.cut ∙ get_or_mid l.before child l.after place.rest [] l.above.within in
    let deep : WorksBelow m1 w1 w2 place.entry (depth - 1) place.rest edit (most_worked edit (depth - 1)) = subst (λ (i : ℕ). WorksBelow m1 w1 w2 place.entry i place.rest edit (most_worked edit i)) less few in
    let there : WorksBelow m w1 w2 place.entry (depth - 1) place.rest edit (most_worked edit (depth - 1)) = subst (λ (f : Map). WorksBelow f w1 w2 place.entry (depth - 1) place.rest edit (most_worked edit (depth - 1))) same deep in
    works_from w w1 w3 count count (omega arith) start (works_then w1 w2 w3 (most_worked edit (depth - 1)) more count sum (there l.above (subst (λ (xs : List ℕ). IsOnePageEdit edit xs) line slight)) up)

-- how many pages lines that go below a block work
abbrev pub GoesBelow : Map → List ℕ → List ℕ → Entry → ℕ → ℕ → Edit → Type 0
GoesBelow m old new top depth at edit = (a : HasLineBelow tree_format m top depth at) → IsOnePageEdit edit (get_or (lines_of depth a.tree) at []) → Works old new (depth + 1)

-- they go below the child of a block, and then the block is written
pub go_below : (m m1 : Map) (w w1 w2 w3 : List ℕ) (top : Entry) (d depth at : ℕ) (edit : Edit) (es : List Entry) (place : Place) → (depth ≡ 0 → ⊥) → read_by tree_format.entries (pages_at m top.block 1) ≡ Some es → IsPlace es at place
    → m1 ≡ m → w1 ≡ w → d ≡ depth - 1 → GoesBelow m1 w1 w2 place.entry d place.rest edit → Works w2 w3 1 → GoesBelow m w w3 top depth at edit
go_below m m1 w w1 w2 w3 top d depth at edit es place some reads is same start less few up a slight =
    let here : IsOnPath tree_format m top depth at (lines_of depth a.tree) at = record { above = a; before = []; after = []; cut = sym (append-nil (lines_of depth a.tree)); place = omega arith } in
    let l = path_down tree_format m top depth at (lines_of depth a.tree) at es place some reads is here in
    let child : List (List ℕ) = lines_of (depth - 1) l.above.tree in
    let line : get_or (lines_of depth a.tree) at [] ≡ get_or child place.rest [] =
    ap (λ (k : ℕ). get_or (lines_of depth a.tree) k []) l.place ∙ ap (λ (xs : List (List ℕ)). get_or xs (length l.before + place.rest) []) l.cut ∙ get_or_mid l.before child l.after place.rest [] l.above.within in
    let deep : GoesBelow m1 w1 w2 place.entry (depth - 1) place.rest edit = subst (λ (i : ℕ). GoesBelow m1 w1 w2 place.entry i place.rest edit) less few in
    let there : GoesBelow m w1 w2 place.entry (depth - 1) place.rest edit = subst (λ (f : Map). GoesBelow f w1 w2 place.entry (depth - 1) place.rest edit) same deep in
    works_still w w1 w3 (depth + 1) (depth + 1) (omega arith) start (works_both w1 w2 w3 (depth - 1 + 1) 1 (depth + 1) (omega (arith, some)) (there l.above (subst (λ (xs : List ℕ). IsOnePageEdit edit xs) line slight)) up)

pub go_lines : (m : Map) (w w1 : List ℕ) (root : Root) (at : ℕ) (edit : Edit) (lines : List (List ℕ)) → HasTree m root lines → at < root.lines → root.lines < 2 ^ 62 → IsOnePageEdit edit (get_or lines at []) → GoesBelow m w w1 (pointer_entry 1 root.lines) root.height at edit → Works w w1 (root.height + 1)
go_lines m w w1 root at edit lines has within small slight few =
    few (first_above tree_format m root.height at root.lines lines has.lines_are has.count within small)
    (subst (λ (xs : List (List ℕ)). IsOnePageEdit edit (get_or xs at [])) (sym (first_lines tree_format m root.height at root.lines lines has.lines_are has.count within small)) slight)

-- the same for the lines of a whole tree
pub few_lines : (m : Map) (w w1 : List ℕ) (root : Root) (at count : ℕ) (edit : Edit) (lines : List (List ℕ)) → HasTree m root lines → at < root.lines → root.lines < 2 ^ 62 → IsOnePageEdit edit (get_or lines at []) → WorksBelow m w w1 (pointer_entry 1 root.lines) root.height at edit count → WorksBesideZero w w1 count
few_lines m w w1 root at count edit lines has within small slight few =
    few (first_above tree_format m root.height at root.lines lines has.lines_are has.count within small)
    (subst (λ (xs : List (List ℕ)). IsOnePageEdit edit (get_or xs at [])) (sym (first_lines tree_format m root.height at root.lines lines has.lines_are has.count within small)) slight)

-- a run of one line at most, for which a page has room
space_few : (new : List (List ℕ)) (n : ℕ) → length new ≤ 1 → All FitsPage new → space_of (map stored_line (take n new)) ≤ 4072
space_few new zero few brief = omega arith
space_few [] (suc n) few brief = omega arith
space_few (x ∷ []) (suc zero) few brief = let short : length x ≤ 4067 = brief 0 [] (omega arith) in omega (arith, short, sum_by-cons (λ (line : List ℕ). length line + 5) (stored_line x) [], length-map x stored_byte)
space_few (x ∷ []) (suc (suc n)) few brief = let short : length x ≤ 4067 = brief 0 [] (omega arith) in omega (arith, short, sum_by-cons (λ (line : List ℕ). length line + 5) (stored_line x) [], length-map x stored_byte)
space_few (x ∷ y ∷ new) (suc n) few brief = absurd (omega arith)

pub slight_run : (new run : List (List ℕ)) (n i : ℕ) → run ≡ map stored_line (take n (drop i new)) → i ≡ 0 → length new ≤ 1 → All FitsPage new → space_of run ≤ 4072
slight_run new run n i is first few brief =
    let all : run ≡ map stored_line (take n new) = is ∙ ap (λ (k : ℕ). map stored_line (take n (drop k new))) first in
    omega (arith, ap space_of all, space_few new n few brief)

-- the first of the lines that are taken out
pub slight_at : (lines : List (List ℕ)) (at count : ℕ) → 0 < count → at < length lines → All FitsPage (run_of lines at count) → FitsPage (get_or lines at [])
slight_at lines at count some within brief =
    let first : get_or (run_of lines at count) 0 [] ≡ get_or lines at [] = grind (arith, common_steps) in
    subst FitsPage first (brief 0 [] (omega (arith, length-take count (drop at lines), length-drop at lines)))

brief_each : (text : List (List ℕ)) → AllByRecursion FitsPage text → AllByRecursion FitsPage (map stored_line text)
brief_each [] h = tt
brief_each (line ∷ text) h = (omega (arith, h.0, length-map line stored_byte), brief_each text h.1)

-- lines are as long in their stored form
pub brief_stored : (text lines : List (List ℕ)) → lines ≡ map stored_line text → All FitsPage text → All FitsPage lines
brief_stored text lines is brief = subst (λ (xs : List (List ℕ)). All FitsPage xs) (sym is) (All-from_recursion FitsPage (map stored_line text) (brief_each text (recursion_from_All FitsPage text brief)))

-- all lines of a text, as its tree has them
pub brief_all : (text : List (List ℕ)) (n : ℕ) → length text ≡ n → 0 < n → All FitsPage text → All FitsPage (run_of (stored text) 0 n)
brief_all [] n is some brief = absurd (omega (arith, is, some))
brief_all (line ∷ text) n is some brief =
    let all : List (List ℕ) = map stored_line (line ∷ text) in
    let whole : take n all ≡ all = grind (arith, common_steps, length-map (line ∷ text) stored_line) in
    brief_stored (line ∷ text) (take n all) whole brief

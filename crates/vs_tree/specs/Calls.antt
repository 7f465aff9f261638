-- What calls leave of the tree and of the text in the pages of a store that tells them.
use Rattle.std.specs.Prelude.{◌≡◌, ℕ, ◌+◌, ◌*◌, ◌^◌, ◌<◌, IsTrue, List, [], get_or, All}
use Rattle.vs_pages.specs.declared.pages.Pages.{Ghosts}
use Rattle.vs_text.specs.Text.{bytes_of}
use Rattle.vs_text.specs.Limits.{IsShort}
use Rattle.vs_edit.specs.Splices.{splice}
use Rattle.vs_tree_shape.specs.declared.entries.Place.{Place}
use Rattle.vs_tree_shape.specs.Paths.{HasLine}
use Rattle.vs_tree_shape.specs.Trees.{HasLines}
use Rattle.vs_tree_shape.specs.Changes.{Takes, edited}
use Rattle.vs_tree_shape.specs.Works.{Works}
use Rattle.vs_tree_blocks.specs.Blocks.{tree_format}
use Rattle.vs_tree_blocks.specs.Edits.{change_of, most_in_tree, IsOnePageEdit}
use Rattle.vs_tree_blocks.specs.Writes.{WorksBy}
use Rattle.vs_tree_blocks.specs.declared.edit.Edit.{Edit}
use Rattle.vs_tree.specs.declared.change.EditedTree.{EditedTree}
use Rattle.vs_tree.specs.declared.texts.Extent.{Extent}
use Rattle.vs_tree.specs.declared.walk.Root.{Root}
use Rattle.vs_tree.specs.Runs.{HasTree, run_of}
use Rattle.vs_edit.specs.Splices.{IsSmallSplice}
use Rattle.vs_tree.specs.Texts.{HasText}

-- The pages have the tree of some lines, as many as the root says.
abbrev pub StandsTree : {P : Type 0} → Ghosts P → P → Root → Type 0
StandsTree g s root = IsTrue g.tells → (lines : List (List ℕ)) × HasTree (g.shows s).present root lines

-- none of the lines is too long
abbrev pub StandsShort : {P : Type 0} → Ghosts P → P → Root → Type 0
StandsShort g s root = IsTrue g.tells → (lines : List (List ℕ)) × HasTree (g.shows s).present root lines × All IsShort lines

-- what holds of the lines of the tree
abbrev pub OfTree : {P : Type 0} → Ghosts P → P → Root → (List (List ℕ) → Type 0) → Type 0
OfTree g s root Holds = IsTrue g.tells → (lines : List (List ℕ)) → HasTree (g.shows s).present root lines → Holds lines

-- The pages have lines, none of them too long, and one of them stands at the place.
abbrev pub StandsAt : {P : Type 0} → Ghosts P → P → Place → Type 0
StandsAt g s place =
    IsTrue g.tells → (lines : List (List ℕ)) × (at : ℕ) × HasLine tree_format (g.shows s).present lines at place.entry place.rest × All IsShort lines

-- what holds of lines of which one, at this number, stands at the place
abbrev pub OfPlace : {P : Type 0} → Ghosts P → P → Place → (List (List ℕ) → ℕ → Type 0) → Type 0
OfPlace g s place Holds =
    IsTrue g.tells → (lines : List (List ℕ)) (at : ℕ) → HasLine tree_format (g.shows s).present lines at place.entry place.rest → Holds lines at

-- The lines of the tree, changed so, are those of the tree with this root then.
abbrev pub TurnsTree : {P : Type 0} → Ghosts P → P → P → Root → Root → (List (List ℕ) → List (List ℕ)) → Type 0
TurnsTree g old new root now change = OfTree g old root (λ lines. HasTree (g.shows new).present now (change lines))

-- Where the lines of the tree have fewer than 2 ^ 63 bytes with so many more, some of them have this number of bytes.
abbrev pub CountsRun : {P : Type 0} → Ghosts P → P → Root → ℕ → ℕ → ℕ → ℕ → Type 0
CountsRun g s root more at count bytes =
    OfTree g s root (λ lines. bytes_of lines + more < 2 ^ 63 → bytes ≡ bytes_of (run_of lines at count))

-- what holds of the text with these numbers
abbrev pub OfText : {P : Type 0} → Ghosts P → P → Extent → (List (List ℕ) → Type 0) → Type 0
OfText g s extent Holds = IsTrue g.tells → (text : List (List ℕ)) → HasText (g.shows s).present extent text → Holds text

-- The pages have the text with these lines in place of others then.
abbrev pub Splices : {P : Type 0} → Ghosts P → P → P → Extent → Extent → ℕ → ℕ → List (List ℕ) → Type 0
Splices g old new before after top count inserted =
    OfText g old before (λ text. HasText (g.shows new).present after (splice text top count inserted))

-- Where this holds of the lines of the tree, at most so many different pages were worked, beside page 0.
abbrev pub WorksWhere : {P : Type 0} → Ghosts P → P → P → Root → ℕ → (List (List ℕ) → Type 0) → Type 0
WorksWhere g old new root count Holds = OfTree g old root (λ lines. Holds lines → WorksBy g old new count)

-- Where this holds of the lines of the tree, at most so many different pages were worked.
abbrev pub WorksAtMost : {P : Type 0} → Ghosts P → P → P → Root → ℕ → (List (List ℕ) → Type 0) → Type 0
WorksAtMost g old new root count Holds = OfTree g old root (λ lines. Holds lines → Works (g.shows old).worked (g.shows new).worked count)

-- as many pages as a small splice of a text with these numbers may work
abbrev pub WorksLittle : {P : Type 0} → Ghosts P → P → P → Extent → Type 0
WorksLittle g old new extent = WorksBy g old new (3 * extent.height + 6)

-- The same where at most one line of the text comes in place of at most one, and a page has room for each of them.
abbrev pub SplicesLittle : {P : Type 0} → Ghosts P → P → P → Extent → ℕ → ℕ → List (List ℕ) → Type 0
SplicesLittle g old new extent top count inserted =
    OfText g old extent (λ text. IsSmallSplice text top count inserted → WorksLittle g old new extent)

-- Such a splice works at most so many different pages beside page 0.
abbrev pub SplicesBy : {P : Type 0} → Ghosts P → P → P → Extent → ℕ → ℕ → List (List ℕ) → ℕ → Type 0
SplicesBy g old new extent top count inserted most =
    OfText g old extent (λ text. IsSmallSplice text top count inserted → WorksBy g old new most)

-- Such a splice works at most so many different pages.
abbrev pub SplicesAtMost : {P : Type 0} → Ghosts P → P → P → Extent → ℕ → ℕ → List (List ℕ) → ℕ → Type 0
SplicesAtMost g old new extent top count inserted most =
    OfText g old extent (λ text. IsSmallSplice text top count inserted → Works (g.shows old).worked (g.shows new).worked most)

-- no page changes
abbrev pub IsUntouched : {P : Type 0} → Ghosts P → P → P → Type 0
IsUntouched g old new = IsTrue g.tells → ((g.shows new).present ≡ (g.shows old).present) × ((g.shows new).worked ≡ (g.shows old).worked)

-- A small edit at a line works as many pages at most as it may.
abbrev pub EditsTreeFew : {P : Type 0} → Ghosts P → P → P → Root → ℕ → Edit → Type 0
EditsTreeFew g old new root at edit =
    WorksWhere g old new root (most_in_tree edit root.height) (λ lines. IsOnePageEdit edit (get_or lines at []))

-- The lines of the tree were edited at a line, and the answer says what was taken out.
abbrev pub EditsTree : {P : Type 0} → Ghosts P → P → P → Root → ℕ → Edit → EditedTree → Type 0
EditsTree g old new root at edit after = OfTree g old root (λ lines.
    HasLines tree_format (g.shows new).present after.root.height (edited (change_of edit after.removed.lines) lines at)
    × Takes (change_of edit after.removed.lines) lines at after.removed.bytes)

-- The first block of a level says what the level is: its bytes are read once, as a pointer block or as a data block.
use Rattle.std.proofs.Common.{◌≡◌, ℕ, List, ◌∷◌, Option, Some, None, Bool, sym, refl, ap, subst, ◌∙◌, inl, inr, arith}
use Rattle.std.specs.Prelude.{MatchOption, Vec}
use Rattle.std.specs.declared.alloc.Global.{Global}
use Rattle.std.proofs.lemmas.Bool.{cases_eq}
use Rattle.std.proofs.lemmas.Bool.Decides.{nat_tests}
use Rattle.vs_pages.specs.Maps.{Map, pages_at}
use Rattle.vs_text.specs.Documents.{Document}
use Rattle.vs_data.specs.Blocks.{lines_in}
use Rattle.vs_tree_shape.specs.declared.entries.Entry.{Entry}
use Rattle.vs_tree_shape.specs.Trees.{read_by}
use Rattle.vs_swap.specs.Entries.{swap_points}
use Rattle.vs_swap.specs.Files.{swap_format}
use Rattle.vs_swap.proofs.Standing.{apart}
use Rattle.vs_recover.specs.Files.{plain}
use Rattle.vs_recover.specs.Levels.{Clashes, chained, fitting_lines, fitting_points, gathered, lines_at, opened, points_at}
use Rattle.vs_recover.specs.Walks.{FindsBelow, IsMarked, MarksBelow}
use Rattle.vs_recover.specs.declared.levels.Below.{Below}
use Rattle.vs_recover.specs.declared.levels.Below.TheVariants.{Entries, Lines}
use Rattle.vs_recover.proofs.ChainLaws.{no_clash, plain_back, plain_chained}
use Rattle.vs_recover.proofs.LevelLaws.{points_fitted}

-- ---- one block

unfit_points : (e : Entry) (o : Option (List Entry)) → (e.pages ≡ 1 → ⊥) → fitting_points e o ≡ None
unfit_points e None other = refl
unfit_points e (Some found) other = grind (arith, nat_tests)

-- a block whose pages were read is a pointer block where its bytes are
pub points_of : (m : Map) (e : Entry) (bytes : List ℕ) → pages_at m e.block e.pages ≡ Some bytes → points_at swap_format m e ≡ fitting_points e (swap_points bytes)
points_of m e bytes is = elim (cases_eq e.pages 1) [
  | inl one ↦ ap (λ o. fitting_points e (read_by swap_points o)) (ap (λ n. pages_at m e.block n) (sym one) ∙ is)
  | inr other ↦ unfit_points e (read_by swap_points (pages_at m e.block 1)) other ∙ sym (unfit_points e (swap_points bytes) other)
]

pub points_gone : (m : Map) (e : Entry) → pages_at m e.block e.pages ≡ None → points_at swap_format m e ≡ None
points_gone m e is = elim (cases_eq e.pages 1) [
  | inl one ↦ ap (λ o. fitting_points e (read_by swap_points o)) (ap (λ n. pages_at m e.block n) (sym one) ∙ is)
  | inr other ↦ unfit_points e (read_by swap_points (pages_at m e.block 1)) other
]

pub lines_of : (m : Map) (e : Entry) (bytes : List ℕ) → pages_at m e.block e.pages ≡ Some bytes → lines_at swap_format m e ≡ fitting_lines e (lines_in bytes)
lines_of m e bytes is = ap (λ o. fitting_lines e (read_by lines_in o)) is

pub lines_gone : (m : Map) (e : Entry) → pages_at m e.block e.pages ≡ None → lines_at swap_format m e ≡ None
lines_gone m e is = ap (λ o. fitting_lines e (read_by lines_in o)) is

lines_refused : (e : Entry) (bytes : List ℕ) (points : List Entry) (o : Option (List (List ℕ))) → lines_in bytes ≡ o → swap_points bytes ≡ Some points → fitting_lines e o ≡ None
lines_refused e bytes points None is reads = refl
lines_refused e bytes points (Some found) is reads = absurd (apart bytes found points is reads)

-- a pointer block is no data block
pub pointers_alone : (m : Map) (e : Entry) (bytes : List ℕ) (points : List Entry) → pages_at m e.block e.pages ≡ Some bytes → fitting_points e (swap_points bytes) ≡ Some points → lines_at swap_format m e ≡ None
pointers_alone m e bytes points is fits =
    let read = points_fitted e (swap_points bytes) points fits in
    lines_of m e bytes is ∙ lines_refused e bytes points (lines_in bytes) refl read.0

-- ---- a level

-- its first block is none of the two
pub level_unread : (m : Map) (used : ℕ → ℕ) (first : Entry) (others : List Entry) → points_at swap_format m first ≡ None → lines_at swap_format m first ≡ None → FindsBelow m used (first ∷ others) None
level_unread m used first others points lines = (no_clash used (opened swap_format m (first ∷ others)) (ap (λ o. chained o (opened swap_format m others)) points), ap (λ o. chained o (gathered swap_format m others)) lines)

-- its first block is a pointer block
pub level_opened : (m : Map) (used : ℕ → ℕ) (first : Entry) (others points : List Entry) (next : Vec Entry Global) → points_at swap_format m first ≡ Some points → chained (Some points) (opened swap_format m others) ≡ Some next.items
    → FindsBelow m used (first ∷ others) (Some (Entries next))
level_opened m used first others points next is found = ap (λ o. chained o (opened swap_format m others)) is ∙ found

pub level_clashes : (m : Map) (used : ℕ → ℕ) (first : Entry) (others points : List Entry) → points_at swap_format m first ≡ Some points → lines_at swap_format m first ≡ None → Clashes used (chained (Some points) (opened swap_format m others))
    → FindsBelow m used (first ∷ others) None
level_clashes m used first others points is none clash = (subst (λ o. Clashes used (chained o (opened swap_format m others))) (sym is) clash, ap (λ o. chained o (gathered swap_format m others)) none)

plain_level : (m : Map) (first : Entry) (others : List Entry) (lines : List (List ℕ)) → plain (lines_at swap_format m first) ≡ Some lines → plain (gathered swap_format m (first ∷ others)) ≡ chained (Some lines) (plain (gathered swap_format m others))
plain_level m first others lines is = plain_chained (lines_at swap_format m first) (gathered swap_format m others) ∙ ap (λ o. chained o (plain (gathered swap_format m others))) is

-- its first block is a data block
pub level_gathered : (m : Map) (used : ℕ → ℕ) (first : Entry) (others : List Entry) (lines : List (List ℕ)) (found : Document) → plain (lines_at swap_format m first) ≡ Some lines → chained (Some lines) (plain (gathered swap_format m others)) ≡ Some found.text
    → FindsBelow m used (first ∷ others) (Some (Lines found))
level_gathered m used first others lines found is gives = plain_level m first others lines is ∙ gives

pub level_stops : (m : Map) (used : ℕ → ℕ) (first : Entry) (others : List Entry) (lines : List (List ℕ)) → points_at swap_format m first ≡ None → plain (lines_at swap_format m first) ≡ Some lines
    → chained (Some lines) (plain (gathered swap_format m others)) ≡ None → FindsBelow m used (first ∷ others) None
level_stops m used first others lines points is none =
    (no_clash used (opened swap_format m (first ∷ others)) (ap (λ o. chained o (opened swap_format m others)) points), plain_back (gathered swap_format m (first ∷ others)) (plain_level m first others lines is ∙ none))

-- ---- what a call found below a level

pub found_at : (m : Map) (used : ℕ → ℕ) (level : List Entry) (found : Option Below) (next : Vec Entry Global) → found ≡ Some (Entries next) → FindsBelow m used level found → opened swap_format m level ≡ Some next.items
found_at m used level found next is finds = subst (λ o. FindsBelow m used level o) is finds

pub marked_at : (old new : List Bool) (found : Option Below) (next : Vec Entry Global) → found ≡ Some (Entries next) → MarksBelow old new found → IsMarked old new next.items
marked_at old new found next is marks = subst (λ o. MarksBelow old new o) is marks

-- a list without a first element is empty
pub none_first : {X : Type 0} {P : Type 0} (Q : X → Type 0) (o : Option X) → o ≡ None → MatchOption o P Q → P
none_first Q None is cases = cases
none_first Q (Some x) is cases = absurd (cc)

-- A line taken out of a filled tree, which is tidied then: the text, its numbers, and the pages that were worked.
use Rattle.std.proofs.Common.{◌≡◌, ℕ, zero, suc, ◌+◌, ◌-◌, ◌*◌, ◌<◌, ◌≤◌, Bool, false, nat_eq, if◌then◌else◌, IsTrue, List, [], ◌∷◌, ◌++◌, length, sym, ap, subst, ◌∙◌, arith, length-append}
use Rattle.std.specs.Prelude.{Result, Ok, Err, OnOk}
use Rattle.std.specs.List.{flat_map}
use Rattle.std.proofs.lemmas.Bool.Decides.{nat_tests}
use Rattle.std.proofs.lemmas.List.Concat.{flat_map-append}
use Rattle.vs_pages.specs.Maps.{Map, one}
use Rattle.vs_pages.specs.State.{PageState}
use Rattle.vs_text.specs.Text.{stored}
use Rattle.vs_edit.specs.Splices.{splice}
use Rattle.vs_tree_shape.specs.Trees.{HasLines, Tree, lines_of}
use Rattle.vs_tree_shape.specs.declared.entries.Entry.{Entry}
use Rattle.vs_tree_shape.specs.Changes.{pointer_entry}
use Rattle.vs_tree_shape.specs.Filled.{HasFilled, HasFilledBut, IsFilledBut, IsFilledRoot, Way, steps_back}
use Rattle.vs_tree_shape.specs.Paths.{IsWalk}
use Rattle.vs_tree_shape.specs.Sames.{one_list}
use Rattle.vs_tree_shape.specs.Works.{Works}
use Rattle.vs_tree_shape.proofs.Sums.{total-append}
use Rattle.vs_tree_blocks.specs.Blocks.{tree_format}
use Rattle.vs_tree.specs.declared.texts.Extent.{Extent}
use Rattle.vs_tree.specs.declared.walk.Root.{Root}
use Rattle.vs_tree.specs.Texts.{HasText, tree_lines}
use Rattle.vs_tree.proofs.StoredLemmas.{length-stored_is}
use Rattle.vs_merge.specs.Roots.{StandsDeep, Tidied}
use Rattle.vs_merge.proofs.Working.{only_both}

-- a text with lines has as many in its tree
pub tree_some : (lines : ℕ) → 1 ≤ lines → tree_lines lines ≡ lines
tree_some lines some =
    let no : nat_eq lines 0 ≡ false = grind (arith, nat_tests) in
    ap (λ (b : Bool). if b then 1 else lines) no

-- the text with another height
abbrev pub at_height : Extent → ℕ → Extent
at_height extent height = record { height = height; lines = extent.lines; bytes = extent.bytes }

-- the tree was tidied
pub record TidiedText (s2 s3 : PageState) (mid : Extent) (now : ℕ) (text : List (List ℕ)) : Type 0 where
  pub has : HasText s3.present (at_height mid now) text
  pub filled : HasFilled tree_format s3.present now
  pub works : Works s2.worked s3.worked (2 * mid.height + 4)

pub tidied_text : (s2 s3 : PageState) (mid : Extent) (now at : ℕ) (text : List (List ℕ)) → HasText s2.present mid text → HasFilledBut tree_format s2.present mid.height at
    → ((lines : List (List ℕ)) (has : HasLines tree_format s2.present mid.height lines) → Tidied s2 s3 mid.height now at lines has) → TidiedText s2 s3 mid now text
tidied_text s2 s3 mid now at text has but tidies =
    let t : Tidied s2 s3 mid.height now at but.lines but.has = tidies but.lines but.has in
    let same : but.lines ≡ stored text = one_list tree_format s2.present mid.height but.lines (stored text) but.has has.tree in
    record {
      has = record { tree = subst (λ ls. HasLines tree_format s3.present now ls) same t.done; lines = has.lines; bytes = has.bytes; is_text = has.is_text; within = has.within };
      filled = record { lines = but.lines; has = t.done; filled = t.filled but.filled };
      works = t.works but.filled;
    }

-- as many pages as two steps work
pub works_both : (a b c : List ℕ) (x y count : ℕ) → x + y ≤ count → Works a b x → Works b c y → Works a c count
works_both a b c x y count sum first second = record {
  names = first.names ++ second.names;
  few = omega (arith, sum, first.few, second.few, length-append first.names second.names);
  only = only_both a b c first.names second.names (first.names ++ second.names) first.only second.only (λ k out. omega (arith, out, total-append (λ at. one at k) first.names second.names));
}

-- the tree of a text stands
pub text_stands : (m : Map) (extent : Extent) (text : List (List ℕ)) → HasText m extent text → 1 ≤ extent.lines → StandsDeep m extent.height extent.lines
text_stands m extent text has some = record {
  list = stored text;
  has = has.tree;
  count = length-stored_is text ∙ ap tree_lines has.lines ∙ tree_some extent.lines some;
}

-- the line to which a tree is filled is there
but_within : (least d : ℕ) (t : Tree d) (at : ℕ) → IsFilledBut least d t at → at < length (lines_of d t)
but_within least zero t at f = f
but_within least (suc d) t at f =
    let ls : Tree d → List (List ℕ) = λ u. lines_of d u in
    let w : Way d t.1 at = f.0 in
    omega (arith, w.sum, w.inside, ap length (ap (λ us. flat_map ls us) w.cut ∙ flat_map-append ls w.before (w.child ∷ w.after)), length-append (flat_map ls w.before) (ls w.child ++ flat_map ls w.after), length-append (ls w.child) (flat_map ls w.after))

-- the line lies in the tree
pub but_inside : (m : Map) (extent : Extent) (at : ℕ) (text : List (List ℕ)) → HasText m extent text → 1 ≤ extent.lines → HasFilledBut tree_format m extent.height at → at < extent.lines
but_inside m extent at text has some but =
    let same : but.lines ≡ stored text = one_list tree_format m extent.height but.lines (stored text) but.has has.tree in
    omega (arith, but_within 32 extent.height but.has.tree at but.filled, ap length but.has.lines_are, ap length same, length-stored_is text, ap tree_lines has.lines, tree_some extent.lines some)

-- the line on whose way the thin block is
pub near_but : (m n : Map) (before after : Extent) (root : Root) (top near : ℕ) → root ≡ record { height = before.height; lines = tree_lines before.lines } → 2 ≤ before.lines
    → (entry : Entry) × (rest : ℕ) × IsWalk tree_format m (root.height - 1) (pointer_entry 1 root.lines) top entry rest × (near ≡ top - steps_back entry rest)
    → ((entry : Entry) (rest : ℕ) → IsWalk tree_format m (before.height - 1) (pointer_entry 1 before.lines) top entry rest → HasFilledBut tree_format n after.height (top - steps_back entry rest))
    → HasFilledBut tree_format n after.height near
near_but m n before after root top near root_is two near_is thins =
    let W : Root → Type 0 = λ r. IsWalk tree_format m (r.height - 1) (pointer_entry 1 r.lines) top near_is.0 near_is.1 in
    let V : ℕ → Type 0 = λ i. IsWalk tree_format m (before.height - 1) (pointer_entry 1 i) top near_is.0 near_is.1 in
    let walk : IsWalk tree_format m (before.height - 1) (pointer_entry 1 before.lines) top near_is.0 near_is.1 = subst V (tree_some before.lines (omega (arith, two))) (subst W root_is near_is.2) in
    subst (λ (i : ℕ). HasFilledBut tree_format n after.height i) (sym near_is.3) (thins near_is.0 near_is.1 walk)

-- one line was taken out, and the tree tidied
pub taken : (s1 s2 s3 : PageState) (n : Map) (before mid : Extent) (root : Root) (top near at now : ℕ) (text : List (List ℕ)) → n ≡ s1.present → root ≡ record { height = before.height; lines = tree_lines before.lines } → 2 ≤ before.lines
    → mid.lines + 1 ≡ before.lines → HasText s1.present before text → HasFilled tree_format s1.present before.height
    → (entry : Entry) × (rest : ℕ) × IsWalk tree_format s1.present (root.height - 1) (pointer_entry 1 root.lines) top entry rest × (near ≡ top - steps_back entry rest)
    → (HasText n before text → HasText s2.present mid (splice text top 1 []))
    → (HasFilled tree_format n before.height → (entry : Entry) (rest : ℕ) → IsWalk tree_format n (before.height - 1) (pointer_entry 1 before.lines) top entry rest → HasFilledBut tree_format s2.present mid.height (top - steps_back entry rest))
    → (near < mid.lines → at ≡ near) → ((lines : List (List ℕ)) (has : HasLines tree_format s2.present mid.height lines) → Tidied s2 s3 mid.height now at lines has)
    → TidiedText s2 s3 mid now (splice text top 1 [])
taken s1 s2 s3 n before mid root top near at now text same root_is two less has filled near_is goes thins inside tidies =
    let P : Map → Type 0 = λ m. HasText m before text in
    let Q : Map → Type 0 = λ m. HasFilled tree_format m before.height in
    let W : Map → Type 0 = λ m. (entry : Entry) (rest : ℕ) → IsWalk tree_format m (before.height - 1) (pointer_entry 1 before.lines) top entry rest → HasFilledBut tree_format s2.present mid.height (top - steps_back entry rest) in
    let has2 : HasText s2.present mid (splice text top 1 []) = goes (subst P (sym same) has) in
    let walks : W s1.present = subst W same (thins (subst Q (sym same) filled)) in
    let but : HasFilledBut tree_format s2.present mid.height near = near_but s1.present s2.present before mid root top near root_is two near_is walks in
    let here : at ≡ near = inside (but_inside s2.present mid near (splice text top 1 []) has2 (omega (arith, less, two)) but) in
    tidied_text s2 s3 mid now at (splice text top 1 []) has2 (subst (λ (i : ℕ). HasFilledBut tree_format s2.present mid.height i) (sym here) but) tidies

-- all pointer blocks were made anew
pub record SettledText (n : Map) (mid : Extent) (now : ℕ) (text : List (List ℕ)) : Type 0 where
  pub has : HasText n (at_height mid now) text
  pub filled : HasFilled tree_format n now

pub settled_text : (m n : Map) (mid : Extent) (now : ℕ) (text : List (List ℕ)) → HasText m mid text → 1 ≤ mid.lines
    → ((lines : List (List ℕ)) → HasLines tree_format m mid.height lines → 1 ≤ length lines → (done : HasLines tree_format n now lines) × IsFilledRoot 32 now done.tree) → SettledText n mid now text
settled_text m n mid now text has some settles =
    let s = settles (stored text) has.tree (omega (arith, some, length-stored_is text, ap tree_lines has.lines, tree_some mid.lines some)) in
    record {
      has = record { tree = s.0; lines = has.lines; bytes = has.bytes; is_text = has.is_text; within = has.within };
      filled = record { lines = stored text; has = s.0; filled = s.1 };
    }

-- what follows from two facts of an answer
pub on_ok_two : {T E : Type 0} (r : Result T E) (P Q R : Type 0) → (P → Q → R) → OnOk r P → OnOk r Q → OnOk r R
on_ok_two (Ok x) P Q R f h i = f h i
on_ok_two (Err e) P Q R f h i = tt

-- a tree stays filled where its pages stay
pub filled_kept : (tells : Bool) (m n : Map) (was now : Extent) → (IsTrue tells → n ≡ m) → now ≡ was → (IsTrue tells → HasFilled tree_format m was.height) → IsTrue tells → HasFilled tree_format n now.height
filled_kept tells m n was now same is filled told =
    subst (λ (e : Extent). HasFilled tree_format n e.height) (sym is) (subst (λ (k : Map). HasFilled tree_format k was.height) (sym (same told)) (filled told))

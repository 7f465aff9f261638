-- A text in pages is the function of them and of its numbers, so it stays where those stay, and its tree with it.
use Rattle.std.proofs.Common.{◌≡◌, ◌≤◌, ◌+◌, ℕ, true, List, [], ◌∷◌, ◌++◌, length, drop, All, refl, sym, ap, subst, ◌∙◌, arith}
use Rattle.std.proofs.lemmas.List.{length-append, length-map}
use Rattle.std.proofs.lemmas.List.Elements.{All-drop}
use Rattle.std.proofs.lemmas.Grind.{common_steps}
use Rattle.vs_pages.specs.Maps.{Map}
use Rattle.vs_pages.specs.Memory.{commits_of, committed_of, present_of, state_of}
use Rattle.vs_pages.specs.State.{PageState, history_of, one_more}
use Rattle.vs_pages.proofs.Steps.{history_present}
use Rattle.vs_pages.specs.declared.memory.MemPages.{MemPages}
use Rattle.vs_text.specs.Text.{bytes_of, stored, stored_line}
use Rattle.vs_text.specs.Limits.{IsShort, IsWithinLimits}
use Rattle.vs_text.specs.declared.TheConstants.{MAX_LINES, MAX_TEXT_BYTES}
use Rattle.vs_text.proofs.FileForm.{bytes_of-append}
use Rattle.vs_tree_shape.proofs.Fills.{filled_height}
use Rattle.vs_tree_blocks.specs.Blocks.{tree_format}
use Rattle.vs_tree.specs.declared.texts.Extent.{Extent}
use Rattle.vs_tree.specs.Texts.{HasText, Fits}
use Rattle.vs_tree.specs.TextIn.{text_in, text_in-HasText}
use Rattle.vs_tree.specs.declared.tree.LineTree.{LineTree}
use Rattle.vs_tree.proofs.Kept.{fits_kept}
use Rattle.vs_paged.specs.Pages.{IsBounded, IsCommitted, IsFilledIn, IsPaged}

pub text_had : (m : Map) (x : Extent) → Fits true m x → HasText m x (text_in m x)
text_had m x fits = let r = fits.one refl in subst (λ (text : List (List ℕ)). HasText m x text) (sym (text_in-HasText m x r.0 r.1)) r.1

-- the lines after the first of some are as short as all
short_end : (text lines : List (List ℕ)) → All IsShort (text ++ lines) → All IsShort lines
short_end text lines short =
    let rest : drop (length text) (text ++ lines) ≡ lines = grind (arith, common_steps) in
    let A : List (List ℕ) → Type 0 = λ lines. All IsShort lines in subst A rest (All-drop IsShort (length text) (text ++ lines) short)

-- lines may be put after the last one where the whole is within the limits
pub room_end : (m : Map) (x : Extent) (lines : List (List ℕ)) → Fits true m x → IsWithinLimits (text_in m x ++ lines)
    → (x.lines + length lines ≤ MAX_LINES) × All IsShort lines × (x.bytes + bytes_of lines ≤ MAX_TEXT_BYTES)
room_end m x lines fits within =
    let has = text_had m x fits in
    let text : List (List ℕ) = text_in m x in
    (omega (arith, has.lines, within.few_lines, length-append text lines), short_end text lines within.short_lines, omega (arith, has.bytes, within.few_bytes, bytes_of-append text lines))

-- the text stays where pages and numbers stay
pub text_stays : (m n : Map) (x y : Extent) → n ≡ m → y ≡ x → text_in n y ≡ text_in m x
text_stays m n x y pages is = ap (λ (k : Map). text_in k y) pages ∙ ap (λ (e : Extent). text_in m e) is

-- the text is as before where the pages went back
pub text_back : (old new : MemPages) (x y : Extent) → history_of (state_of new) ≡ history_of (state_of old) → y ≡ x → text_in (present_of new) y ≡ text_in (present_of old) x
text_back old new x y back is = text_stays (present_of old) (present_of new) x y (history_present (state_of old) (state_of new) back) is

-- and so does the filled tree
pub filled_stays : (m n : Map) (x y : Extent) → n ≡ m → y ≡ x → IsFilledIn m x → IsFilledIn n y
filled_stays m n x y pages is filled = subst (λ (e : Extent). IsFilledIn n e) (sym is) (subst (λ (k : Map). IsFilledIn k x) (sym pages) filled)

-- a text in a filled tree that is committed, where nothing is worked then
pub committed_now : (old new : MemPages) (before after : LineTree) → Fits true (present_of old) before.present → IsFilledIn (present_of old) before.present
    → present_of new ≡ present_of old → committed_of new ≡ present_of old → (state_of new).worked ≡ []
    → after ≡ record { present = before.present; committed = before.present } → IsCommitted new after
committed_now old new before after fits filled present committed worked is =
    let now = ap (λ (t : LineTree). t.present) is in
    let then = ap (λ (t : LineTree). t.committed) is in
    record {
      present_fits = fits_kept true _ _ _ _ (λ told. present) now fits;
      committed_fits = fits_kept true _ _ _ _ (λ told. committed) then fits;
      filled = record { present = filled_stays _ _ _ _ present now filled; committed = filled_stays _ _ _ _ committed then filled };
      same = text_stays _ _ _ _ committed then ∙ sym (text_stays _ _ _ _ present now);
      same_height = ap (λ (e : Extent). e.height) (then ∙ sym now);
      idle = ap (λ (w : List ℕ). (one_more w (commits_of new)).last) worked;
    }

-- the text of committed pages
pub is_paged : (pages : MemPages) (tree : LineTree) → IsCommitted pages tree → IsPaged (state_of pages) tree (text_in (present_of pages) tree.present)
is_paged pages tree is = record {
  present = text_had (present_of pages) tree.present is.present_fits;
  committed = let H : List (List ℕ) → Type 0 = λ text. HasText (committed_of pages) tree.committed text in subst H is.same (text_had (committed_of pages) tree.committed is.committed_fits);
  filled = is.filled;
  idle = is.idle;
}

-- the numbers of a text are within the limits
pub is_bounded : (pages : MemPages) (tree : LineTree) → IsCommitted pages tree → IsBounded tree
is_bounded pages tree is =
    let paged = is_paged pages tree is in
    record {
      few_lines = is.present_fits.few;
      few_bytes = is.present_fits.few_bytes;
      same_lines = sym paged.committed.lines ∙ paged.present.lines;
      same_bytes = sym paged.committed.bytes ∙ paged.present.bytes;
      same_height = is.same_height;
    }

few_stored : (text : List (List ℕ)) → length text ≤ 4000000 → length (stored text) ≤ 4000000
few_stored [] few = omega arith
few_stored (line ∷ text) few = let same : length (stored (line ∷ text)) ≡ length (line ∷ text) = length-map (line ∷ text) stored_line in omega (arith, few, same)

-- the tree of a text is low
pub low_paged : (shown : PageState) (tree : LineTree) (text : List (List ℕ)) → IsPaged shown tree text → tree.present.height ≤ 5
low_paged shown tree text is =
    filled_height tree_format shown.present tree.present.height (stored text) is.filled.present is.present.tree (few_stored text is.present.within.few_lines)

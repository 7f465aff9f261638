-- What reading a text leaves of its pages, and of a session.
use Rattle.std.proofs.Common.{◌≡◌, Bool, IsTrue, sym, ◌∙◌, ap, subst, arith}
use Rattle.vs_host.specs.Disk.{Disk}
use Rattle.vs_pages.specs.State.{PageState}
use Rattle.vs_edit.specs.State.{SameText}
use Rattle.vs_tree.specs.declared.tree.LineTree.{LineTree}
use Rattle.vs_tree.specs.Texts.{Fits, text_of, worked_by}
use Rattle.vs_pair.specs.Pair.{shown_in}
use Rattle.vs_pair.specs.declared.pair.SwapPair.{SwapPair}
use Rattle.vs_undo.specs.declared.parts.Parts.{Parts}
use Rattle.vs_undo.specs.History.{IsHistory}
use Rattle.vs_machine.specs.Machine.{State, last_of}
use Rattle.vs_safety.specs.Texts.{Text}
use Rattle.vs_paged.specs.Pages.{IsBounded, IsFilledIn, IsPaged}
use Rattle.vs_session.proofs.StoreLemmas.{shown_told}

-- the numbers of both texts stay
pub bounded_stays : (tells : Bool) (shown left : PageState) (tree after : LineTree) → Fits tells left.present after.present
    → SameText (text_of tells (worked_by shown) shown.present tree.present) (text_of tells (worked_by left) left.present after.present)
    → SameText (text_of tells shown.commits.last shown.committed tree.committed) (text_of tells left.commits.last left.committed after.committed) → IsBounded tree → IsBounded after
bounded_stays tells shown left tree after fits present committed bounded = record {
  few_lines = fits.few;
  few_bytes = fits.few_bytes;
  same_lines = committed.lines ∙ bounded.same_lines ∙ sym present.lines;
  same_bytes = committed.bytes ∙ bounded.same_bytes ∙ sym present.bytes;
  same_height = omega (arith, committed.most, bounded.same_height, present.most);
}

-- and so do both texts
pub paged_stays : (tells : Bool) (now held : SwapPair) (disk was : Disk) (shown : PageState) (tree left before : LineTree) (text : Text) → now ≡ held → disk ≡ was → tree ≡ left
    → SameText (text_of tells (worked_by shown) shown.present before.present) (text_of tells (worked_by (shown_in held was)) (shown_in held was).present left.present)
    → SameText (text_of tells shown.commits.last shown.committed before.committed) (text_of tells (shown_in held was).commits.last (shown_in held was).committed left.committed)
    → (IsTrue tells → IsFilledIn (shown_in held was).present left.present) → (IsTrue tells → IsFilledIn (shown_in held was).committed left.committed) → IsTrue tells → IsPaged shown before text
    → IsPaged (shown_in now disk) tree text
paged_stays tells now held disk was shown tree left before text pair_is disk_is tree_is present committed present_filled committed_filled told paged =
    let P : SwapPair → Type 0 = λ p. IsPaged (shown_in p disk) tree text in
    let D : Disk → Type 0 = λ d. IsPaged (shown_in held d) tree text in
    let Q : LineTree → Type 0 = λ t. IsPaged (shown_in held was) t text in
    subst P (sym pair_is) (subst D (sym disk_is) (subst Q (sym tree_is) (record {
      present = (present.text text (record { told = told; has = paged.present })).has;
      committed = (committed.text text (record { told = told; has = paged.committed })).has;
      filled = record { present = present_filled told; committed = committed_filled told };
      idle = shown_told tells (worked_by shown) (worked_by (shown_in held was)) told present.worked_by ∙ paged.idle
          ∙ sym (shown_told tells shown.commits.last (shown_in held was).commits.last told committed.worked_by);
    })))

-- the number of the last change
pub last_is : (undo : Parts) (state : State) → IsHistory undo state.text state.history → undo.last ≡ last_of state
last_is undo state is = ap (λ (p : Parts). p.last) is.links

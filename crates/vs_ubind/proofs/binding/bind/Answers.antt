use Rattle.std.proofs.Common.{ℕ, List, max, sym, subst}
use Rattle.std.specs.Prelude.{IfNone, IfSome}
use Rattle.vs_edit.specs.State.{SameText}
use Rattle.vs_undo.specs.History.{FitsCount, FitsText}
use Rattle.vs_ufile.specs.Values.{history_of}
use Rattle.vs_outward.specs.Outward.{IsFirstMisfit, IsMisfit}
use Rattle.vs_ubind.proofs.Alike.{first_too}
use Rattle.vs_ubind.proofs.NoMisfit.{no_misfit}
use Rattle.vs_ubind.proofs.Kept.{still_committed}
use Rattle.vs_ubind.proofs.Unique.{same_entries, same_links}
use Rattle.vs_ubind.proofs.binding.bind.Goals as goal

pub first_misfit-requires-clause-committed : goal.first_misfit-requires-clause-committed
first_misfit-requires-clause-committed g c =
    let law = g.met.S.LineStore in
    let shows = g.S.LineStore.shows in
    let kept = c.in_ok-compare.ensures.kept in
    still_committed (shows c.args.text.now).present (shows c.args.text.now).committed (shows c.compare.new.text).present (shows c.compare.new.text).committed c.requires.committed kept.present kept.committed (λ text is.
    let was = law.tells_one c.args.text.now c.requires.valid (law.has_told c.compare.new.text text is) in
    subst (shows c.args.text.now).present.Is (law.has_one c.compare.new.text was.0 text (kept.present.text was.0 was.1) is) was.1)

pub returns-in-None-clause-ready : goal.returns-in-None-clause-ready
returns-in-None-clause-ready g c =
    let law = g.met.S.LineStore in
    let shows = g.S.LineStore.shows in
    let before = c.compare.new.text in
    let after = c.first_misfit.new.text in
    let present = c.in_ok-number.ensures.present in
    let kept = c.in_ok-number.ensures.kept in
    let first = c.in_ok-compare.ensures.kept in
    let was_committed : SameText (shows before).present (shows before).committed =
    still_committed (shows c.args.text.now).present (shows c.args.text.now).committed (shows before).present (shows before).committed c.requires.committed first.present first.committed (λ text is.
    let was = law.tells_one c.args.text.now c.requires.valid (law.has_told before text is) in
    subst (shows c.args.text.now).present.Is (law.has_one before was.0 text (first.present.text was.0 was.1) is) was.1) in
    let back : (text : List (List ℕ)) → (shows after).present.Is text → (shows before).present.Is text = λ text is.
    let was = law.tells_one before c.in_ok-compare.ensures.kept.valid (law.has_told after text is) in
    subst (shows before).present.Is (law.has_one after was.0 text (present.text was.0 was.1) is) was.1 in
    let counts : FitsCount c.in_ok-parts.parts (max 1 (shows before).present.lines) =
    subst (λ o. IfNone o (FitsCount c.in_ok-parts.parts (max 1 (shows before).present.lines))) c.in-None.is c.in_ok-number.ensures.counts in
    let texts : (text : List (List ℕ)) → (shows before).present.Is text → FitsText c.in_ok-parts.parts text =
    subst (λ o. IfNone o ((text : List (List ℕ)) → (shows before).present.Is text → FitsText c.in_ok-parts.parts text)) c.in-None.is c.in_ok-number.ensures.texts in
    record {
      valid = kept.valid;
      committed = still_committed (shows before).present (shows before).committed (shows after).present (shows after).committed was_committed present kept.committed back;
      counts = subst (λ p. FitsCount p (max 1 (shows after).present.lines)) (sym c.of.ensures) (subst (λ n. FitsCount c.in_ok-parts.parts (max 1 n)) (sym present.lines) counts);
      texts = λ text is. subst (λ p. FitsText p text) (sym c.of.ensures) (texts text (back text is));
    }

pub returns-in_ok-narrow-in-Some-clause-refused : goal.returns-in_ok-narrow-in-Some-clause-refused
returns-in_ok-narrow-in-Some-clause-refused g c = λ lines is. (
  c.in_ok-compare.ensures.same lines is,
  λ tree means.
      let shows = g.S.LineStore.shows in
      let h = history_of c.args.history.now in
      let own = c.in_ok-parts.parts in
      let first : (text : List (List ℕ)) → (shows c.compare.new.text).present.Is text → IsFirstMisfit own text c.in-Some.number =
      subst (λ o. IfSome o (λ number. (text : List (List ℕ)) → (shows c.compare.new.text).present.Is text → IsFirstMisfit own text number)) c.in-Some.is c.in_ok-number.ensures.misfit in
      subst (IsFirstMisfit tree lines) (sym c.in_ok-narrow-in-Some.ensures)
      (first_too own tree (same_links h c.requires.rules own tree c.in_ok-parts.ensures.means means) (same_entries h c.requires.rules own tree c.in_ok-parts.ensures.means means) lines c.in-Some.number (first lines (c.in_ok-compare.ensures.kept.present.text lines is))),
)

pub returns-in-None-clause-all_fit : goal.returns-in-None-clause-all_fit
returns-in-None-clause-all_fit g c = λ lines is number misfit.
    let shows = g.S.LineStore.shows in
    let own = c.in_ok-parts.parts in
    let texts : (text : List (List ℕ)) → (shows c.compare.new.text).present.Is text → FitsText own text =
    subst (λ o. IfNone o ((text : List (List ℕ)) → (shows c.compare.new.text).present.Is text → FitsText own text)) c.in-None.is c.in_ok-number.ensures.texts in
    no_misfit own c.in_ok-parts.ensures.sound lines (texts lines (c.in_ok-compare.ensures.kept.present.text lines is)) number (subst (λ p. IsMisfit p lines number) c.of.ensures misfit)

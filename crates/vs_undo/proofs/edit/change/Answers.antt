-- The entry of the splice leads back over it, so the push keeps the history. What is forgotten does not depend on the entries.
use Rattle.std.proofs.Common.{◌≡◌, ◌+◌, ◌-◌, ◌∷◌, [], ℕ, List, length, max, refl, rules, sym, ap, subst, ◌∙◌, arith}
use Rattle.vs_faults.proofs.OneCause.{one_as, one_back, one_then}
use Rattle.vs_edit.specs.Splices.{splice}
use Rattle.vs_edit.proofs.Steps.{SameText-trans, IsSpliced-after, works_as}
use Rattle.vs_entries.specs.Entries.{Leads, LeadsCount, splice_back}
use Rattle.vs_entries.proofs.EntryLemmas.{leads_splice_back}
use Rattle.vs_undo.specs.declared.parts.Parts.{Parts}
use Rattle.vs_undo.specs.Forgetting.{forgotten, promoted_root, tree_kept, Remainder}
use Rattle.vs_undo.specs.History.{links_of, pushed, FitsCount, FitsText}
use Rattle.vs_undo.specs.Moves.{IsReady}
use Rattle.vs_undo.proofs.ForgetLemmas.{forgotten-links_of, links_left}
use Rattle.vs_undo.proofs.PushLemmas.{links_of-pushed}
use Rattle.vs_undo.proofs.ReadyLemmas.{gone_back, on_err, settled, stayed}
use Rattle.vs_undo.proofs.edit.change.Goals as goal
use Rattle.vs_undo.proofs.edit.change.Goals.{After-commit}

-- the store after the splice, from the one at the start
spliced_text : (g : _) (c : After-commit g) → (before : List (List ℕ)) → (g.S.LineStore.shows c.args.text.now).present.Is before
    → (g.S.LineStore.shows c.splice.new.self).present.Is (splice before c.args.top c.args.old c.args.new.now)
spliced_text g c before has = c.in_ok-splice.ensures.ok.text before (c.in-Ok.ensures.kept.present.text before has)

counted : (g : _) (c : After-commit g) → LeadsCount c.in-Ok.back (max 1 (g.S.LineStore.shows c.splice.new.self).present.lines) (max 1 (g.S.LineStore.shows c.args.text.now).present.lines)
counted g c =
    let sum : (g.S.LineStore.shows c.args.text.now).present.lines + length c.args.new.now - c.args.old ≡ (g.S.LineStore.shows c.splice.new.self).present.lines = omega (arith, c.in_ok-splice.ensures.ok.lines, c.in-Ok.ensures.kept.present.lines) in
    subst (λ n. LeadsCount c.in-Ok.back (max 1 n) (max 1 (g.S.LineStore.shows c.args.text.now).present.lines)) sum c.in-Ok.ensures.count

leads : (g : _) (c : After-commit g) → (before : List (List ℕ)) → (g.S.LineStore.shows c.args.text.now).present.Is before → Leads c.in-Ok.back (splice before c.args.top c.args.old c.args.new.now) before
leads g c before has =
    let after = splice before c.args.top c.args.old c.args.new.now in
    let lines = g.met.S.LineStore.has_lines c.args.text.now before has in
    let after_lines = g.met.S.LineStore.has_lines c.splice.new.self after (spliced_text g c before has) in
    let is : c.in-Ok.back ≡ splice_back before c.args.top c.args.old (length c.args.new.now) = c.in-Ok.ensures.entry before has in
    leads_splice_back c.in-Ok.back before c.args.new.now c.args.top c.args.old _ _ is (omega (arith, lines, c.requires.allowed.within)) lines after_lines (counted g c)
    (g.met.S.LineStore.has_within c.args.text.now before c.requires.ready.valid has).few_bytes (c.requires.allowed.few_bytes before has)

-- what the push left, over the links alone
links_kept : (g : _) (c : After-commit g) → links_left (tree_kept (c.in-Ok.back ∷ []) c.args.keep c.args.tree.now) ≡ tree_kept [] c.args.keep (links_of c.args.tree.now)
links_kept g c = sym (forgotten-links_of c.args.keep.levels (pushed (c.in-Ok.back ∷ []) c.args.keep.time c.args.tree.now))
    ∙ ap (forgotten c.args.keep.levels) (links_of-pushed (c.in-Ok.back ∷ []) c.args.keep.time c.args.tree.now)

pub returns-in-Ok-push-clause-root : goal.returns-in-Ok-push-clause-root
returns-in-Ok-push-clause-root g c = c.in-Ok-push.ensures.root ∙ ap (λ (left : Remainder). promoted_root left.root) (links_kept g c)

pub returns-in-Ok-push-clause-changed : goal.returns-in-Ok-push-clause-changed
returns-in-Ok-push-clause-changed g c = record {
  links = ap links_of c.in-Ok-push.ensures.parts ∙ ap (λ (left : Remainder). left.tree) (links_kept g c);
  parts = λ text has. c.in-Ok-push.ensures.parts ∙ ap (λ e. (tree_kept (e ∷ []) c.args.keep c.args.tree.now).tree) (c.in-Ok.ensures.entry text has);
  current = c.in-Ok-push.ensures.current;
  few = c.in-Ok-push.ensures.few;
  spliced =
      let spliced = IsSpliced-after c.in-Ok.ensures.kept.present c.in_ok-splice.ensures.ok in
      record {
        text = λ text has. c.commit.ensures.present.text (splice text c.args.top c.args.old c.args.new.now) (spliced.text text has);
        lines = omega (arith, spliced.lines, c.commit.ensures.present.lines);
        works = λ text has small. works_as refl refl c.commit.ensures.present.worked_by (spliced.works text has small);
      };
  history = λ text history has is. c.in-Ok-push.ensures.history text (splice text c.args.top c.args.old c.args.new.now) history is (leads g c text has);
}

pub returns-in-Ok-push-clause-atomic : goal.returns-in-Ok-push-clause-atomic
returns-in-Ok-push-clause-atomic g c =
    let laws = g.met.S.LineStore in
    let ready = c.requires.ready in
    let one = laws.has_one c.commit.new.self in
    record {
      stayed = tt;
      ready = record {
        valid = c.commit.ensures.valid;
        committed = settled c.commit.ensures.present c.commit.ensures.committed (λ text has. laws.tells_one c.splice.new.self c.in_ok-splice.ensures.kept.valid (laws.has_told c.commit.new.self text has)) one;
        counts = subst (λ n. FitsCount c.push.new.self (max 1 n)) (sym c.commit.ensures.present.lines) (c.in-Ok-push.ensures.counts _ _ ready.counts (counted g c));
        texts = λ text has.
            let was = laws.tells_one c.args.text.now ready.valid (laws.has_told c.commit.new.self text has) in
            let after = splice was.0 c.args.top c.args.old c.args.new.now in
            let same = one after text (c.commit.ensures.present.text after (spliced_text g c was.0 was.1)) has in
            subst (λ t. FitsText c.push.new.self t) same (c.in-Ok-push.ensures.texts was.0 after (ready.texts was.0 was.1) (leads g c was.0 was.1));
      };
      stays = laws.stays_on _ _ _ c.in-Ok.ensures.kept.stays (laws.stays_on _ _ _ c.splice.ensures.kept.stays c.commit.ensures.stays);
      cause = one_as (one_back (one_then c.in-Ok.ensures.cause (λ failed. absurd (cc)) c.in_ok-splice.ensures.cause) c.commit.ensures.faults c.commit.ensures.earlier) (λ failed. absurd (cc)) (λ failed. absurd (cc));
    }

pub returns-in_err-splice-clause-atomic : goal.returns-in_err-splice-clause-atomic
returns-in_err-splice-clause-atomic g c =
    let laws = g.met.S.LineStore in
    let ready = c.requires.ready in
    let read = c.in-Ok.ensures.kept in
    let present = SameText-trans read.present c.in_err-splice.ensures.same in
    record {
      stayed = on_err c.from_residual.result (record { tree = refl; text = present });
      ready = stayed g.S.LineStore c.args.tree.now c.args.text.now c.splice.new.self ready present (SameText-trans read.committed c.splice.ensures.kept.committed) c.splice.ensures.kept.valid
          (λ text has. laws.tells_one c.args.text.now ready.valid (laws.has_told c.splice.new.self text has)) (laws.has_one c.splice.new.self);
      stays = laws.stays_on _ _ _ read.stays c.splice.ensures.kept.stays;
      cause = one_as (one_then c.in-Ok.ensures.cause (λ failed. absurd (cc)) c.splice.ensures.cause) (λ failed. search rules) (λ failed. search rules);
    }

pub returns-in-Err-push-clause-atomic : goal.returns-in-Err-push-clause-atomic
returns-in-Err-push-clause-atomic g c =
    let laws = g.met.S.LineStore in
    let ready = c.requires.ready in
    let back = c.rollback.ensures in
    let kept = SameText-trans c.in-Ok.ensures.kept.committed c.splice.ensures.kept.committed in
    let tree = sym c.in-Err-push.ensures.err_tree in
    record {
      stayed = record { tree = c.in-Err-push.ensures.err_tree; text = SameText-trans ready.committed (SameText-trans kept back.present) };
      ready = subst (λ (p : Parts). IsReady g.S.LineStore p c.rollback.new.self) tree
          (gone_back g.S.LineStore c.args.tree.now c.args.text.now c.splice.new.self c.rollback.new.self ready kept back.present back.committed back.valid
          (λ text has. laws.tells_one c.args.text.now ready.valid (laws.has_told c.rollback.new.self text has)) (laws.has_one c.rollback.new.self));
      stays = laws.stays_on _ _ _ c.in-Ok.ensures.kept.stays (laws.stays_on _ _ _ c.splice.ensures.kept.stays back.stays);
      cause = one_as (one_back (one_then c.in-Ok.ensures.cause (λ failed. absurd (cc)) c.in_ok-splice.ensures.cause) back.faults back.earlier) (λ failed. search rules) (λ failed. absurd (cc));
    }

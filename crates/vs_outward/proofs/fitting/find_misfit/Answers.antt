-- At the end each state is settled.
use Rattle.std.proofs.Common.{◌≡◌, Err, ◌<◌, ◌++◌, take, reverse, refl, inl, inr, ℕ, List, None, Some, Option, [], length, get_or, sym, ap, subst, ◌∙◌, arith}
use Rattle.std.specs.Prelude.{All, Contains}
use Rattle.std.proofs.lemmas.Bool.{cases_lt}
use Rattle.std.proofs.lemmas.Result.{err_from_is_err_and}
use Rattle.std.proofs.lemmas.Grind.{get_or_default_zero}
use Rattle.std.proofs.lemmas.List.Elements.{All-get_or}
use Rattle.vs_undo.specs.declared.parts.Node.{Node}
use Rattle.vs_edit.proofs.Steps.{Continues-trans}
use Rattle.vs_edit.specs.declared.store.LineStore.{Ghosts}
use Rattle.vs_undo.specs.declared.parts.Parts.{Parts}
use Rattle.vs_outward.specs.declared.fitting.Search.{Search}
use Rattle.vs_outward.specs.Trails.{HasBegun, IsSearch, IsSettledAt}
use Rattle.vs_outward.proofs.GoingLemmas.{stopped}
use Rattle.vs_outward.proofs.FitLemmas.{all_counts, all_misfit, all_texts, settled_all}
use Rattle.vs_outward.proofs.TriedLemmas.{on_none}
use Rattle.vs_outward.proofs.TurnLemmas.{out_to_root}
use Rattle.vs_outward.proofs.fitting.find_misfit.Goals as goal

-- a search that has visited the current state
module _ {S : Type 0} (g : Ghosts S) (parts : Parts) (first : S) (search : Search) (valid : g.valid first) where
  at_start : search.trail.items ≡ [] → search.path.items ≡ [] → search.least ≡ None → IsSearch g parts first search first
  at_start trail path least = record {
    on = on_none g parts.nodes first search.trail.items trail valid;
    begun = subst (λ t. HasBegun t search.path.items) (sym trail) (record { within = omega arith; same = refl });
    barred = λ less. absurd (omega (arith, less, ap length path));
    misfit = λ l e text has. absurd (let h : None ≡ Some l = sym least ∙ e in cc);
  }

-- the path over the whole way
whole_path : (path way new : List ℕ) (kept : ℕ) → path ≡ [] → kept ≡ 0 → new ≡ way → take kept path ++ new ≡ way
whole_path path way new kept none zero is = ap (λ k. take k path ++ new) zero ∙ is

pub visit-requires-clause-kept : goal.visit-requires-clause-kept
visit-requires-clause-kept g c = omega (arith, c.in_ok-turn.ensures.kept)

pub visit-requires-clause-outward : goal.visit-requires-clause-outward
visit-requires-clause-outward g c =
    let turn = c.in_ok-turn.turn in
    let way = c.in_ok-way.way.changes.items in (
      0,
      out_to_root c.args.parts.now c.requires.sound.tree way c.in_ok-way.ensures.is_way (take turn.kept c.in_ok-search.search.path.items ++ turn.more.items)
          (whole_path c.in_ok-search.search.path.items way turn.more.items turn.kept c.in_ok-search.ensures.path c.in_ok-turn.ensures.kept (c.in_ok-turn.ensures.more ∙ c.deref.ensures.value)),
    )

pub visit-requires-clause-search : goal.visit-requires-clause-search
visit-requires-clause-search g c =
    let made = c.in_ok-search.ensures in
    (c.args.store.now, at_start g.S.LineStore c.args.parts.now c.args.store.now c.in_ok-search.search c.requires.valid made.trail made.path made.least)

-- all places were visited
all_seen : {S : Type 0} (g : Ghosts S) (parts : Parts) (first : S) (least : Option ℕ) (order : List ℕ) (passed : ℕ) → length order ≡ passed
    → ((k : ℕ) (node : Node) → k < passed → IsSettledAt g parts first least (get_or parts.nodes (get_or order k 0) node).number)
    → ((place : ℕ) → place < length parts.nodes → Contains order place) → (k : ℕ) (node : Node) → k < length parts.nodes → IsSettledAt g parts first least (get_or parts.nodes k node).number
all_seen g parts first least order passed long seen each k node within =
    let at = each k within in
    let is : get_or order at.0 0 ≡ k = sym (get_or_default_zero order at.0 k at.1) ∙ at.2 in
    subst (λ j. IsSettledAt g parts first least (get_or parts.nodes j node).number) is (seen at.0 node (omega (arith, long, at.1)))

pub loop-place-init : goal.loop-place-init
loop-place-init g c =
    let made = c.in_ok-search.ensures in
    let out = c.in_ok-visit.ensures in
    let turn = c.in_ok-turn.turn in
    let way = c.in_ok-way.way.changes.items in
    let first = c.args.store.now in
    let start = at_start g.S.LineStore c.args.parts.now first c.in_ok-search.search c.requires.valid made.trail made.path made.least in
    let is : c.visit.new.search.path.items ≡ way =
    out.path ∙ whole_path c.in_ok-search.search.path.items way turn.more.items turn.kept made.path c.in_ok-turn.ensures.kept (c.in_ok-turn.ensures.more ∙ c.deref.ensures.value) in
    let to_root = out_to_root c.args.parts.now c.requires.sound.tree way c.in_ok-way.ensures.is_way c.visit.new.search.path.items is in
    let count : c.visit.new.search.on_way ≡ length way = out.on_way ∙ (c.in_ok-turn.ensures.on_way ∙ ap length c.deref.ensures.value) in
    record {
      path = record {
        outward = (0, to_root);
        shares = record { within = omega (arith, count, ap length is); same = ap (take c.visit.new.search.on_way) is };
      };
      search = out.search first start;
      root = (reverse c.visit.new.search.path.items, (to_root, out.tried first start));
      seen = λ k node far. absurd (omega arith);
      valid = out.goes_on.kept.valid;
      kept = out.goes_on.kept;
      faults = out.goes_on.cause.none (λ failed. absurd (cc));
    }

pub visit_at-requires-clause-within : goal.visit_at-requires-clause-within
visit_at-requires-clause-within g c =
    let order = c.deref-place-items.result.now in
    let i = c.loop-place.place-index in
    let within = All-get_or (λ place. place < length c.nodes-nodes.result.now) order i 0 c.loop-place-test.true (subst (All (λ place. place < length c.nodes-nodes.result.now)) (sym c.deref-place-items.ensures.value) c.in_ok-order.ensures.within) in
    omega (arith, within, ap length c.nodes-nodes.ensures)

pub loop-place-preserved : goal.loop-place-preserved
loop-place-preserved g c =
    let inv = c.loop-place.invariant in
    let out = c.in_ok-visit_at.ensures in
    let parts = c.args.parts.now in
    let first = c.args.store.now in
    let order = c.deref-place-items.result.now in
    let i = c.loop-place.place-index in
    record {
      path = out.path;
      search = out.search first inv.search;
      root = out.known first 0 inv.root;
      seen = λ k node within. elim (cases_lt k i) [
        | inl before ↦ out.known first (get_or parts.nodes (get_or order k 0) node).number (inv.seen k node before)
        | inr past ↦
            let same : i ≡ k = omega (arith, past, within) in
            subst (λ j. IsSettledAt g.S.LineStore parts first c.visit_at.new.search.least (get_or parts.nodes (get_or order j 0) node).number) same (out.settled first node inv.search inv.root)
      ];
      valid = out.goes_on.kept.valid;
      kept = Continues-trans g.met.S.LineStore.stays_on inv.kept out.goes_on.kept;
      faults = out.goes_on.cause.none (λ failed. absurd (cc)) ∙ inv.faults;
    }

pub returns-clause-counts : goal.returns-clause-counts
returns-clause-counts g c =
    let parts = c.args.parts.now in
    let first = c.args.store.now in
    let inv = c.loop-place.invariant in
    let order = c.deref-place-items.result.now in
    let long : length c.nodes-nodes.result.now ≡ length parts.nodes = ap length c.nodes-nodes.ensures in
    let each = λ (k : ℕ) (within : k < length parts.nodes). subst (λ xs. Contains xs k) (sym c.deref-place-items.ensures.value) (c.in_ok-order.ensures.each k (omega (arith, long, within))) in
    all_counts parts c.requires.sound.tree g.S.LineStore first c.requires.sound.current c.loop-place.search.least
    (settled_all g.S.LineStore parts first c.loop-place.search.least inv.root (all_seen g.S.LineStore parts first c.loop-place.search.least order c.loop-place.place-index (omega arith) inv.seen each))

pub returns-clause-texts : goal.returns-clause-texts
returns-clause-texts g c =
    let parts = c.args.parts.now in
    let first = c.args.store.now in
    let inv = c.loop-place.invariant in
    let order = c.deref-place-items.result.now in
    let long : length c.nodes-nodes.result.now ≡ length parts.nodes = ap length c.nodes-nodes.ensures in
    let each = λ (k : ℕ) (within : k < length parts.nodes). subst (λ xs. Contains xs k) (sym c.deref-place-items.ensures.value) (c.in_ok-order.ensures.each k (omega (arith, long, within))) in
    all_texts parts c.requires.sound.tree g.S.LineStore first c.requires.sound.current c.loop-place.search.least
    (settled_all g.S.LineStore parts first c.loop-place.search.least inv.root (all_seen g.S.LineStore parts first c.loop-place.search.least order c.loop-place.place-index (omega arith) inv.seen each))

pub returns-clause-misfit : goal.returns-clause-misfit
returns-clause-misfit g c =
    let parts = c.args.parts.now in
    let first = c.args.store.now in
    let inv = c.loop-place.invariant in
    let order = c.deref-place-items.result.now in
    let long : length c.nodes-nodes.result.now ≡ length parts.nodes = ap length c.nodes-nodes.ensures in
    let each = λ (k : ℕ) (within : k < length parts.nodes). subst (λ xs. Contains xs k) (sym c.deref-place-items.ensures.value) (c.in_ok-order.ensures.each k (omega (arith, long, within))) in
    all_misfit parts c.requires.sound.tree g.S.LineStore first c.requires.sound.current c.loop-place.search.least
    (settled_all g.S.LineStore parts first c.loop-place.search.least inv.root (all_seen g.S.LineStore parts first c.loop-place.search.least order c.loop-place.place-index (omega arith) inv.seen each)) inv.search.misfit

pub returns-in_err-visit_at-clause-goes_on : goal.returns-in_err-visit_at-clause-goes_on
returns-in_err-visit_at-clause-goes_on g c =
    let inv = c.loop-place.invariant in
    let p = err_from_is_err_and c.from_residual-in_err-visit_at.result c.from_residual-in_err-visit_at.ensures.1 in
    stopped g.met.S.LineStore.stays_on inv.kept inv.faults c.from_residual-in_err-visit_at.result (p.1 ∙ ap Err p.2) c.in_err-visit_at.ensures.goes_on

-- A state on the way is settled with the root, and any other one by the path that goes on to it.
use Rattle.std.proofs.Common.{◌≡◌, ℕ, true, Option, Some, None, Err, IfSome, get_or, is_some, reverse, sym, ap, subst, ◌∙◌, inr, arith}
use Rattle.std.proofs.lemmas.List.{get_or_default}
use Rattle.std.proofs.lemmas.Result.{err_from_is_err_and}
use Rattle.vs_edit.proofs.Steps.{Continues-none}
use Rattle.vs_undo.specs.Ways.{IsKept}
use Rattle.vs_undo.specs.declared.parts.Node.{Node}
use Rattle.vs_undo.proofs.SearchLemmas.{index_found}
use Rattle.vs_outward.specs.Outward.{IsOutward}
use Rattle.vs_outward.proofs.GoingLemmas.{out_of_memory}
use Rattle.vs_outward.proofs.TurnLemmas.{settled_way}
use Rattle.vs_outward.proofs.fitting.visit_at.Goals as goal

-- what is said of a value that is there
there : {P : ℕ → Type 0} (o : Option ℕ) → is_some o ≡ true → IfSome o P → (n : ℕ) × P n
there None some has = absurd (cc)
there (Some n) some has = (n, has)

pub count_to-requires-clause-kept : goal.count_to-requires-clause-kept
count_to-requires-clause-kept g c =
    let nodes = c.args.parts.now.nodes in
    let place = c.args.place in
    let node = c.index-nodes-place.result in
    subst (λ ns. IsKept ns (get_or ns place node).number) (sym c.nodes-nodes.ensures)
    (inr (ap is_some (index_found nodes place node c.requires.sound.numbers.rising c.requires.within)))

pub returns-then-is_some-clause-settled : goal.returns-then-is_some-clause-settled
returns-then-is_some-clause-settled g c = λ first other was root.
    let parts = c.args.parts.now in
    let nodes = parts.nodes in
    let place = c.args.place in
    let node = c.index-nodes-place.result in
    let same : (get_or c.nodes-nodes.result.now place node).number ≡ (get_or nodes place other).number =
    ap (λ ns. (get_or ns place node).number) c.nodes-nodes.ensures ∙ ap (λ (n : Node). n.number) (get_or_default nodes place node other c.requires.within) in
    let at = there c.count_to.result (sym c.is_some.ensures ∙ c.if-is_some.true) c.count_to.ensures.on in
    settled_way parts c.requires.sound.tree c.args.way.now.changes.items c.requires.way g.S.LineStore first c.args.search.now.least at.0 (get_or nodes place other).number root (at.1.1 ∙ same)

pub returns-in_err-turn-clause-goes_on : goal.returns-in_err-turn-clause-goes_on
returns-in_err-turn-clause-goes_on g c =
    let p = err_from_is_err_and c.from_residual.result c.from_residual.ensures.1 in
    let store = g.met.S.LineStore in
    out_of_memory c.from_residual.result (p.1 ∙ ap Err p.2) (Continues-none store.stays_itself c.requires.valid) (omega arith)

pub returns-in-Some-clause-search : goal.returns-in-Some-clause-search
returns-in-Some-clause-search g c = λ first was. let next = c.in_ok-visit.ensures.search first was in record { on = next.on; begun = next.begun; barred = next.barred; misfit = next.misfit }

pub returns-in-Some-clause-settled : goal.returns-in-Some-clause-settled
returns-in-Some-clause-settled g c = λ first other was root. (
  reverse c.visit.new.search.path.items,
  (
    subst (λ xs. IsOutward c.args.parts.now (reverse xs) (get_or c.args.parts.now.nodes c.args.place other).number) (sym c.in_ok-visit.ensures.path) (c.in_ok-turn.ensures other).outward,
    c.in_ok-visit.ensures.tried first was,
  ),
)

pub returns-in_default-clause-settled : goal.returns-in_default-clause-settled
returns-in_default-clause-settled g c = λ first other was root. (
  reverse c.visit.new.search.path.items,
  (
    subst (λ xs. IsOutward c.args.parts.now (reverse xs) (get_or c.args.parts.now.nodes c.args.place other).number) (sym c.in_ok-visit.ensures.path) (c.in_ok-turn.ensures other).outward,
    c.in_ok-visit.ensures.tried first was,
  ),
)

-- The path that goes on so is tried from where the store is.
use Rattle.std.proofs.Common.{Result, Ok, Err, OnOk, ◌∙◌, refl, ap, arith}
use Rattle.std.proofs.lemmas.Result.{err_from_is_err_and}
use Rattle.vs_edit.proofs.Steps.{Continues-none}
use Rattle.vs_outward.proofs.GoingLemmas.{out_of_memory}
use Rattle.vs_outward.proofs.TurnLemmas.{turned}
use Rattle.vs_outward.proofs.fitting.visit.Goals as goal

-- what follows where a call succeeds
where_ok : {T E : Type 0} {P Q : Type 0} (r : Result T E) → (P → Q) → OnOk r P → OnOk r Q
where_ok (Ok x) f p = f p
where_ok (Err e) f p = tt

pub returns-in_err-follow-clause-goes_on : goal.returns-in_err-follow-clause-goes_on
returns-in_err-follow-clause-goes_on g c =
    let p = err_from_is_err_and c.from_residual.result c.from_residual.ensures.1 in
    let store = g.met.S.LineStore in
    out_of_memory c.from_residual.result (p.1 ∙ ap Err p.2) (Continues-none store.stays_itself c.requires.valid) (omega arith)

pub try_path-requires-clause-turned : goal.try_path-requires-clause-turned
try_path-requires-clause-turned g c =
    let turn = c.args.turn in (
      c.requires.search.0,
      turned g.S.LineStore c.args.parts.now c.requires.search.0 c.args.store.now c.args.search.now _ turn.more.items turn.kept c.requires.search.1 c.requires.kept c.in_ok-follow.ensures refl refl,
    )

pub returns-clause-search : goal.returns-clause-search
returns-clause-search g c =
    let turn = c.args.turn in
    where_ok c.try_path.result
    (λ next first was. next first (turned g.S.LineStore c.args.parts.now first c.args.store.now c.args.search.now _ turn.more.items turn.kept was c.requires.kept c.in_ok-follow.ensures refl refl))
    c.try_path.ensures.search

pub returns-clause-tried : goal.returns-clause-tried
returns-clause-tried g c =
    let turn = c.args.turn in
    where_ok c.try_path.result
    (λ next first was. next first (turned g.S.LineStore c.args.parts.now first c.args.store.now c.args.search.now _ turn.more.items turn.kept was c.requires.kept c.in_ok-follow.ensures refl refl))
    c.try_path.ensures.tried

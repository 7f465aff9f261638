use Rattle.std.proofs.Common.{◌≡◌, ℕ, ◌+◌, ◌-◌, ◌<◌, ◌≤◌, ◌⊎◌, Option, None, length, inl, inr, ap, sym, subst, ◌∙◌, arith}
use Rattle.std.proofs.lemmas.List.{get_or_default}
use Rattle.vs_pages.specs.Cells.{Cell}
use Rattle.vs_pages.specs.Table.{cell_of, IsPlace}
use Rattle.vs_pages.specs.History.{put_places}
use Rattle.vs_pages.specs.declared.page.Page.{Page}
use Rattle.vs_pages.proofs.Places.{put_places-at, put_places-other}
use Rattle.vs_pages.proofs.before.undo_run_at.Goals.{then-at-run-via-then-at-run, then-at-run-via-else-at-run+then-at-run-2}
use Rattle.vs_pages.proofs.before.undo_run_at.Goals as goal

pub returns-then-at-run-clause-place : goal.returns-then-at-run-clause-place
returns-then-at-run-clause-place c = λ m is.
    let run = c.args.run.now in
    let at : ℕ = c.args.at in
    let out : (at < run.at) ⊎ (run.at + length run.was.items ≤ at) = elim c.then-at-run.branch [
      | then-at-run-via-then-at-run w ↦ inl w.if-at-run.true
      | then-at-run-via-else-at-run+then-at-run-2 w ↦ inr (omega (arith, w.if-at-run.false, w.if-at-run-2.true, w.len.ensures))
    ] in
    subst (λ (v : Option Cell). IsPlace c.args.there c.args.into.now v) (sym (put_places-other m run.at run.was.items at out)) is

pub returns-clause-place : goal.returns-clause-place
returns-clause-place c = λ m is.
    let run = c.args.run.now in
    let at : ℕ = c.args.at in
    let j : ℕ = at - run.at in
    let e : run.at + j ≡ at = omega (arith, c.if-at-run.false) in
    let inside : j < length run.was.items = omega (arith, c.if-at-run-2.false, c.len.ensures) in
    let place : Option Page = c.index.result.now in
    let found : put_places m run.at run.was.items at ≡ cell_of place =
    ap (λ k. put_places m run.at run.was.items k) (sym e) ∙ put_places-at m run.at run.was.items j inside
    ∙ ap cell_of (get_or_default run.was.items j None place inside ∙ sym c.index.ensures) in
    subst (λ (v : Option Cell). IsPlace c.copy_place.result c.copy_place.new.into v) (sym found) c.copy_place.ensures.page

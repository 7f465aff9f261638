use Rattle.std.proofs.Common.{◌≤◌, sym, subst}
use Rattle.std.proofs.lemmas.Result.{IfOk-weaker}
use Rattle.vs_pair.specs.declared.files.SwapFiles.{SwapFiles}
use Rattle.vs_paged.proofs.SyncLemmas.{on_err_as}
use Rattle.vs_session.proofs.StoreLemmas.{fits_ready, state_left}
use Rattle.vs_session.proofs.answering.answer_text.Goals as goal

pub answer_in-requires-clause-lent : goal.answer_in-requires-clause-lent
answer_in-requires-clause-lent g c = record {
  bounded = c.args.text.now.bounded;
  counts = c.requires.fits.counts;
  ready = λ told. let fits = (c.requires.fits.fits told).2 in fits_ready _ _ _ _ fits.text;
  stands = λ told. let given = c.requires.fits.fits told in (given.0, record { text = given.2.text.pages; history = given.2.history });
}

pub invariant_of-text : goal.invariant_of-text
invariant_of-text g c = record {
  bounded = c.answer_in.ensures.kept.bounded;
  started = subst (λ (f : SwapFiles). 2 ≤ f.generation) (sym c.answer_in.ensures.kept.keeps.files) c.args.text.now.started;
}

pub returns-clause-reply : goal.returns-clause-reply
returns-clause-reply g c =
    IfOk-weaker c.answer_in.result _ _ (λ answered reply told state syncs instruction fits cursor is. reply told state instruction (record { text = fits.text.pages; history = fits.history }) cursor is) c.answer_in.ensures.reply

pub returns-clause-state : goal.returns-clause-state
returns-clause-state g c =
    let kept = c.answer_in.ensures.kept in
    IfOk-weaker c.answer_in.result _ _
    (λ answered after told state syncs instruction fits cursor is.
    let now = after told state instruction (record { text = fits.text.pages; history = fits.history }) cursor is in
    (state_left _ c.args.text.now _ c.args.history.now _ _ _ state _ syncs told kept.keeps (kept.ready told) fits now.0, now.1))
    c.answer_in.ensures.state

pub returns-clause-oldest : goal.returns-clause-oldest
returns-clause-oldest g c =
    IfOk-weaker c.answer_in.result _ _ (λ answered oldest told state syncs instruction fits cursor is. oldest told state instruction (record { text = fits.text.pages; history = fits.history }) cursor is) c.answer_in.ensures.oldest

pub returns-clause-err : goal.returns-clause-err
returns-clause-err g c =
    let kept = c.answer_in.ensures.kept in
    on_err_as c.answer_in.result _ _
    (λ err told state syncs fits.
    state_left _ c.args.text.now _ c.args.history.now _ _ _ state state syncs told kept.keeps (kept.ready told) fits (err told state (record { text = fits.text.pages; history = fits.history })))
    c.answer_in.ensures.err

pub returns-clause-works : goal.returns-clause-works
returns-clause-works g c =
    IfOk-weaker c.answer_in.result _ _ (λ answered works told state syncs instruction fits cursor is. works told state instruction (record { text = fits.text.pages; history = fits.history }) cursor is) c.answer_in.ensures.works

pub returns-clause-idle : goal.returns-clause-idle
returns-clause-idle g c = c.answer_in.ensures.idle

use Rattle.std.proofs.Common.{◌≤◌, sym, subst}
use Rattle.std.proofs.lemmas.Result.{IfOk-weaker}
use Rattle.vs_pair.specs.declared.files.SwapFiles.{SwapFiles}
use Rattle.vs_session.proofs.Bindings.{if_err_as}
use Rattle.vs_session.proofs.StoreLemmas.{fits_ready, fits_left}
use Rattle.vs_session.proofs.binding.bind_text.Goals as goal

pub bind_in-requires-clause-lent : goal.bind_in-requires-clause-lent
bind_in-requires-clause-lent g c = record {
  bounded = c.args.text.now.bounded;
  ready = λ told. let fits = (c.requires.fits told).2 in fits_ready _ _ _ _ fits;
  paged = λ told. let given = c.requires.fits told in (given.0, given.2.pages);
}

pub invariant_of-text : goal.invariant_of-text
invariant_of-text g c = record {
  bounded = c.bind_in.ensures.kept.bounded;
  started = subst (λ (f : SwapFiles). 2 ≤ f.generation) (sym c.bind_in.ensures.kept.keeps.files) c.args.text.now.started;
}

pub returns-clause-bound : goal.returns-clause-bound
returns-clause-bound g c = IfOk-weaker c.bind_in.result _ _ (λ undo bound told lines syncs fits. bound told lines fits.pages) c.bind_in.ensures.bound

pub returns-clause-refused : goal.returns-clause-refused
returns-clause-refused g c = if_err_as c.bind_in.result _ _ (λ error refused told lines syncs fits. refused told lines fits.pages) c.bind_in.ensures.refused

pub returns-clause-kept : goal.returns-clause-kept
returns-clause-kept g c =
    let kept = c.bind_in.ensures.kept in
    record {
      fits = λ told lines syncs fits. fits_left _ c.args.text.now _ _ _ lines lines syncs told kept.keeps (kept.ready told) fits (kept.paged told lines fits.pages);
      lines = kept.lines;
      keeps = kept.keeps;
      cause = kept.cause;
    }

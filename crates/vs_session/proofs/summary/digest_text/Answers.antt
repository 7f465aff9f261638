use Rattle.std.proofs.Common.{◌≤◌, sym, subst}
use Rattle.std.proofs.lemmas.Result.{IfOk-weaker}
use Rattle.vs_pair.specs.declared.files.SwapFiles.{SwapFiles}
use Rattle.vs_session.proofs.StoreLemmas.{fits_ready, fits_left}
use Rattle.vs_session.proofs.summary.digest_text.Goals as goal

pub digest_in-requires : goal.digest_in-requires
digest_in-requires g c = record {
  lent = record {
    bounded = c.args.text.now.bounded;
    ready = λ told. let fits = (c.requires.fits told).2 in fits_ready _ _ _ _ fits;
    paged = λ told. let given = c.requires.fits told in (given.0, given.2.pages);
  };
}

pub invariant_of-text : goal.invariant_of-text
invariant_of-text g c = record {
  bounded = c.digest_in.ensures.kept.bounded;
  started = subst (λ (f : SwapFiles). 2 ≤ f.generation) (sym c.digest_in.ensures.kept.keeps.files) c.args.text.now.started;
}

pub returns-clause-digest : goal.returns-clause-digest
returns-clause-digest g c =
    IfOk-weaker c.digest_in.result _ _ (λ digest is told lines syncs fits. is told lines fits.pages) c.digest_in.ensures.digest

pub returns-clause-kept : goal.returns-clause-kept
returns-clause-kept g c =
    let kept = c.digest_in.ensures.kept in
    record {
      fits = λ told lines syncs fits. fits_left _ c.args.text.now _ _ _ lines lines syncs told kept.keeps (kept.ready told) fits (kept.paged told lines fits.pages);
      lines = kept.lines;
      keeps = kept.keeps;
      cause = kept.cause;
    }

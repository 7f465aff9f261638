use Rattle.std.proofs.Common.{◌≤◌, sym, subst}
use Rattle.std.proofs.lemmas.Result.{IfOk-weaker}
use Rattle.vs_pair.specs.declared.files.SwapFiles.{SwapFiles}
use Rattle.vs_session.proofs.StoreLemmas.{fits_ready, state_left}
use Rattle.vs_session.proofs.unbinding.unbind_text.Goals as goal

pub unbind_in-requires : goal.unbind_in-requires
unbind_in-requires g c = record {
  lent = record {
    bounded = c.args.text.now.bounded;
    counts = c.requires.fits.counts;
    ready = λ told. let fits = (c.requires.fits.fits told).2 in fits_ready _ _ _ _ fits.text;
    stands = λ told. let given = c.requires.fits.fits told in (given.0, record { text = given.2.text.pages; history = given.2.history });
  };
}

pub invariant_of-text : goal.invariant_of-text
invariant_of-text g c = record {
  bounded = c.unbind_in.ensures.kept.bounded;
  started = subst (λ (f : SwapFiles). 2 ≤ f.generation) (sym c.unbind_in.ensures.kept.keeps.files) c.args.text.now.started;
}

pub returns-clause-made : goal.returns-clause-made
returns-clause-made g c =
    IfOk-weaker c.unbind_in.result _ _ (λ contents made told state syncs fits. made told state (record { text = fits.text.pages; history = fits.history })) c.unbind_in.ensures.made

pub returns-clause-fits : goal.returns-clause-fits
returns-clause-fits g c told state syncs fits =
    let kept = c.unbind_in.ensures.kept in
    state_left _ c.args.text.now _ c.args.history.now _ _ _ state state syncs told kept.keeps (kept.ready told) fits (c.unbind_in.ensures.stands told state (record { text = fits.text.pages; history = fits.history }))

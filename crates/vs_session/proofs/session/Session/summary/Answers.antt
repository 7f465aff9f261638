use Rattle.std.proofs.Common.{refl, sym, ◌∙◌}
use Rattle.vs_session.proofs.SessionLemmas.{fits_again}
use Rattle.vs_ubind.proofs.Loads.{same_handed}
use Rattle.vs_session.proofs.Calls.{reads_stop}
use Rattle.vs_session.proofs.SummaryLemmas.{last_is}
use Rattle.vs_session.proofs.session.Session.summary.Goals as goal

pub returns-in_err-digest-clause-stops : goal.returns-in_err-digest-clause-stops
returns-in_err-digest-clause-stops g c =
    reads_stop g.F.World.tells _ _ _ _ (g.F.World.scene c.args.host.now) (g.F.World.scene c.digest_text.new.host) c.in_err-digest.ensures.kept.keeps c.in_err-digest.ensures.kept.cause
    (same_handed c.from_residual.result _ _ c.from_residual.ensures.1)

pub returns-clause-stops : goal.returns-clause-stops
returns-clause-stops g c =
    reads_stop g.F.World.tells _ _ _ _ (g.F.World.scene c.args.host.now) (g.F.World.scene c.digest_text.new.host) c.in_ok-digest.ensures.kept.keeps c.in_ok-digest.ensures.kept.cause
    (λ failed. absurd (cc))

pub returns-clause-summary : goal.returns-clause-summary
returns-clause-summary g c = λ told state syncs fits.
    let lines = c.len.ensures ∙ c.digest_text.ensures.kept.lines ∙ sym fits.stands.text.pages.present.lines in
    let changes = c.last.ensures ∙ last_is c.args.self.now.history state.machine fits.stands.history in
    let digest = c.in_ok-digest.ensures.digest told state.machine.text syncs fits.stands.text in
    λ i. record { lines = lines i; changes = changes i; syncs = fits.acknowledged i; digest = digest i }

pub returns-in_err-digest-clause-fits : goal.returns-in_err-digest-clause-fits
returns-in_err-digest-clause-fits g c told state syncs fits =
    fits_again c.args.self.now _ _ _ state syncs fits (record { text = c.digest_text.ensures.kept.fits told state.machine.text syncs fits.stands.text; history = fits.stands.history }) refl refl refl refl refl refl refl

pub returns-clause-fits : goal.returns-clause-fits
returns-clause-fits g c told state syncs fits =
    fits_again c.args.self.now _ _ _ state syncs fits (record { text = c.digest_text.ensures.kept.fits told state.machine.text syncs fits.stands.text; history = fits.stands.history }) refl refl refl refl refl refl refl

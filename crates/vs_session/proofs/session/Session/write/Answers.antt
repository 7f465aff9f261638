use Rattle.std.proofs.Common.{Bool, Some, Ok, Err, ap, subst, ◌∙◌}
use Rattle.vs_backup.specs.Backups.{IsNoName}
use Rattle.vs_options.specs.declared.setting.Options.{Options}
use Rattle.vs_undo.specs.declared.parts.Parts.{Parts}
use Rattle.vs_session.specs.Fits.{names_of}
use Rattle.vs_session.proofs.FileWritten.{wrote, marked_current}
use Rattle.vs_session.proofs.SessionLemmas.{current_is}
use Rattle.vs_session.proofs.session.Session.write.Goals as goal

pub returns-in-Ok-clause-wrote : goal.returns-in-Ok-clause-wrote
returns-in-Ok-clause-wrote g c told state syncs fits =
    let old = g.F.World.scene c.args.host.now in
    let new = g.F.World.scene c.write_text.new.host in
    wrote state syncs c.args.self.now _ old new (Ok c.in-Ok.bytes) fits (c.in-Ok.ensures.written told state.machine.text syncs fits.stands.text) (λ is. absurd (cc))
    (c.in-Ok.ensures.recovers told state.machine.text syncs fits.stands.text) (g.F.World.is_folder c.args.host.now told) (c.in-Ok.ensures.others told) (c.in-Ok.ensures.left told state.machine.text syncs fits.stands.text) (λ there. c.in-Ok.ensures.modes there told) (c.in-Ok.ensures.above told)
    (c.in-Ok.ensures.calls told state.machine.text syncs fits.stands.text)
    (record {
      stands = record { text = c.in-Ok.ensures.fits told state.machine.text syncs fits.stands.text; history = c.mark_write.ensures.history state.machine.text state.machine.history fits.stands.history };
      name = fits.name;
      cursor = fits.cursor;
      saved = ap Some (c.current.ensures ∙ ap (λ (p : Parts). p.current) c.mark_write.ensures.parts ∙ marked_current c.args.self.now.history ∙ current_is c.args.self.now.history state.machine fits.stands.history);
      saved_format = ap (λ (o : Options). o.write.format) fits.options;
      steps = fits.steps;
      options = fits.options;
      acknowledged = fits.acknowledged;
    })

pub returns-in-Err-clause-wrote : goal.returns-in-Err-clause-wrote
returns-in-Err-clause-wrote g c told state syncs fits =
    let old = g.F.World.scene c.args.host.now in
    let new = g.F.World.scene c.write_text.new.host in
    wrote state syncs c.args.self.now _ old new (Err c.in-Err.why) fits (c.in-Err.ensures.written told state.machine.text syncs fits.stands.text)
    (λ is. subst (λ (b : Bool). IsNoName c.args.self.now.options.write (names_of c.args.self.now).file b old.folder) told (c.in-Err.ensures.no_name is))
    (c.in-Err.ensures.recovers told state.machine.text syncs fits.stands.text) (g.F.World.is_folder c.args.host.now told) (c.in-Err.ensures.others told) (c.in-Err.ensures.left told state.machine.text syncs fits.stands.text) (λ there. c.in-Err.ensures.modes there told) (c.in-Err.ensures.above told)
    (c.in-Err.ensures.calls told state.machine.text syncs fits.stands.text)
    (record {
      stands = record { text = c.in-Err.ensures.fits told state.machine.text syncs fits.stands.text; history = fits.stands.history };
      name = fits.name;
      cursor = fits.cursor;
      saved = fits.saved;
      saved_format = fits.saved_format;
      steps = fits.steps;
      options = fits.options;
      acknowledged = fits.acknowledged;
    })

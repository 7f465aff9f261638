use Rattle.std.proofs.Common.{sym, ap, ◌∙◌}
use Rattle.vs_options.specs.declared.setting.Options.{Options}
use Rattle.vs_session.proofs.session.Session.write_files.Goals as goal

pub returns-then-self-clause-step : goal.returns-then-self-clause-step
returns-then-self-clause-step g c told state syncs instruction before start at is s =
    c.write_with_undo.ensures.step told state syncs instruction before start at is (sym (ap (λ (o : Options). o.undofile) s.synced.options) ∙ c.if-self.true) s

pub returns-clause-step : goal.returns-clause-step
returns-clause-step g c told state syncs instruction before start at is s =
    c.write_alone.ensures.step told state syncs instruction before start at is (sym (ap (λ (o : Options). o.undofile) s.synced.options) ∙ c.if-self.false) s

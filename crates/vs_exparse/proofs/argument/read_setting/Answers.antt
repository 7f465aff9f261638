use Rattle.std.proofs.Common.{◌∙◌, ap, subst, sym, IfOk}
use Rattle.std.specs.Option.{ok_or, option_or}
use Rattle.vs_exparse.specs.Form.{HasSettingForm}
use Rattle.vs_exparse.specs.declared.command.ExErr.TheVariants.{E474}
use Rattle.vs_exparse.proofs.SettingLemmas.{formed}
use Rattle.vs_exparse.proofs.argument.read_setting.Goals as goal

pub returns-clause-form : goal.returns-clause-form
returns-clause-form c =
    let is = c.ok_or.ensures.value ∙ ap (λ setting. ok_or setting E474) (c.or-2.ensures ∙ ap (λ setting. option_or setting c.levels.result) c.or.ensures) in
    subst (λ result. IfOk result HasSettingForm) (sym is)
    (formed c.switch.result c.value.result c.levels.result E474 c.switch.ensures.form c.value.ensures.form c.levels.ensures.form)

-- The setting of an option has its form, whichever kind of option it is.
use Rattle.std.proofs.Common.{Option, Some, None, IfOk, IfSome}
use Rattle.std.specs.Option.{ok_or, option_or}
use Rattle.vs_exparse.specs.Form.{HasSettingForm}
use Rattle.vs_exparse.specs.declared.command.ExErr.{ExErr}
use Rattle.vs_exparse.specs.declared.command.Setting.{Setting}

pub formed : (switch value levels : Option Setting) (error : ExErr) → IfSome switch HasSettingForm → IfSome value HasSettingForm → IfSome levels HasSettingForm →
    IfOk (ok_or (option_or (option_or switch value) levels) error) HasSettingForm
formed (Some setting) value levels error switched valued levelled = switched
formed None (Some setting) levels error switched valued levelled = valued
formed None None (Some setting) error switched valued levelled = levelled
formed None None None error switched valued levelled = tt

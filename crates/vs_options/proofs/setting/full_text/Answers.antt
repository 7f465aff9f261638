use Rattle.vs_options.proofs.ReadBack.{full-read}
use Rattle.vs_options.proofs.setting.full_text.Goals as goal

pub returns-clause-read : goal.returns-clause-read
returns-clause-read c = full-read c.args.setting

use Rattle.vs_session.proofs.Replaced.{answers_read}
use Rattle.vs_session.proofs.session.Session.answer_rundo.Goals as goal

pub returns-clause-step : goal.returns-clause-step
returns-clause-step g c told state syncs instruction fits is =
    let old = g.F.World.scene c.args.host.now in
    let new = g.F.World.scene c.replace_history-outcome.new.host in
    let read = c.replace_history-outcome.ensures.read told state syncs fits in
    answers_read state syncs instruction c.args.self.now old fits is c.replace_history-outcome.new.self read.0 _ c.args.at _ new c.replace_history-outcome.ensures.kept.file.names c.replace_history-outcome.ensures.kept.frame
    (c.replace_history-outcome.ensures.kept.looks told) g.F.World.tells told c.replace_history-outcome.ensures.kept.stops read.1 read.2 read.3 c.replace_history-outcome.ensures.kept.cause read.4

use Rattle.std.proofs.Common.{◌∙◌, ap}
use Rattle.std.specs.Prelude.{unwrap_or}
use Rattle.vs_undo.proofs.MeetingLemmas.{followed}
use Rattle.vs_undo.proofs.meeting.follow.Goals as goal

pub returns-clause-follows : goal.returns-clause-follows
returns-clause-follows c = λ number left follows.
    followed c.args.nodes.now number c.args.way.now.items c.push.new.self.items c.args.at left c.unwrap_or.result c.requires.some
    (c.unwrap_or.ensures ∙ ap (λ o. unwrap_or o 0) c.parent.ensures) c.in_ok-push.ensures.items follows

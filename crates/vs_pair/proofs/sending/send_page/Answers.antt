use Rattle.vs_pair.specs.Cached.{was_away}
use Rattle.vs_pair.proofs.AwayLemmas.{send_one, sent_away}
use Rattle.vs_pair.proofs.sending.send_page.Goals as goal

pub returns-then-room-eq0-clause-same : goal.returns-then-room-eq0-clause-same
returns-then-room-eq0-clause-same c = λ away first all same.
    let e = c.in-Some.ensures in
    (send_one away first c.args.pages.now c.send_away.new.self c.args.at c.in-Some.bytes.items c.requires e.size e.was e.before e.after e.cells c.send_away.ensures.commits all same).0

pub returns-then-room-eq0-clause-cached : goal.returns-then-room-eq0-clause-cached
returns-then-room-eq0-clause-cached c = λ away first all same cached. c.clear.ensures (was_away c.send_away.new.self) away

pub returns-clause-same : goal.returns-clause-same
returns-clause-same c = λ away first all same.
    let e = c.in-Some.ensures in
    (send_one away first c.args.pages.now c.send_away.new.self c.args.at c.in-Some.bytes.items c.requires e.size e.was e.before e.after e.cells c.send_away.ensures.commits all same).0

pub returns-clause-cached : goal.returns-clause-cached
returns-clause-cached c = λ away first all same cached.
    let e = c.in-Some.ensures in
    c.put.ensures.put (was_away c.args.pages.now) (was_away c.send_away.new.self) away (sent_away c.args.pages.now c.send_away.new.self c.args.at e.before e.after e.cells) cached
    (send_one away first c.args.pages.now c.send_away.new.self c.args.at c.in-Some.bytes.items c.requires e.size e.was e.before e.after e.cells c.send_away.ensures.commits all same).1

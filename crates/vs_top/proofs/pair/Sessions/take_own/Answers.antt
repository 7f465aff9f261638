use Rattle.std.proofs.Common.{◌∙◌, refl, ap, sym, subst, ℕ, List, ◌+◌, None, arith}
use Rattle.std.specs.Prelude.{IsErr, is_none}
use Rattle.vs_host.specs.World.{Scene}
use Rattle.vs_multi.specs.Multi.{other, session_of}
use Rattle.vs_multi.specs.declared.multi.Multi.{Multi}
use Rattle.vs_script.specs.Feed as feed
use Rattle.vs_script.specs.declared.feed.CommandFeed.{CommandFeed}
use Rattle.vs_script.specs.Feed.{takes}
use Rattle.vs_tagged.specs.Tagged.{tagged}
use Rattle.vs_top.specs.Tags.{session_ended}
use Rattle.vs_top.specs.PairPromise.{HasRunBoth}
use Rattle.vs_top.specs.PairScript.{Line, Reads, feed_place}
use Rattle.vs_top.specs.PairTurns.{HasCommand, HasNext, KeepsPair, sessions_ended, feed_of}
use Rattle.vs_top.proofs.PairCalls.{by_call}
use Rattle.vs_top.proofs.PairNext.{after_told, asks_line, command_next, feed_same, line_beside, line_read, refused_keeps, silent_next, told_fed}
use Rattle.vs_top.proofs.PairRoom.{ready_of, usable_fed, usable_fewer, usable_refused}
use Rattle.vs_top.proofs.PairTakes.{as_none, ended_by, ended_none, own_line, reads_at}
use Rattle.vs_top.proofs.pair.Sessions.take_own.Goals as goal

pub returns-then-is_finished-clause-usable : goal.returns-then-is_finished-clause-usable
returns-then-is_finished-clause-usable g c = λ more usable.
    usable_refused g.H.World.tells c.args.self.now c.refuse.new.self more (g.H.World.scene c.args.host.now) (g.H.World.scene c.refuse.new.host) (tagged c.prefix_of.result.now session_ended) (IsErr c.refuse.result) c.refuse.ensures.clean c.refuse.ensures.puts usable

pub returns-then-is_finished-clause-script : goal.returns-then-is_finished-clause-script
returns-then-is_finished-clause-script g c = ap (λ (s : Scene). s.script) c.refuse.ensures.puts.frame

pub returns-then-is_finished-clause-keeps : goal.returns-then-is_finished-clause-keeps
returns-then-is_finished-clause-keeps g c = λ one two old keeps.
    refused_keeps g.H.World.tells (g.H.World.scene c.args.host.now) (g.H.World.scene c.refuse.new.host) c.args.self.now c.refuse.new.self c.refuse.ensures.clean (tagged c.prefix_of.result.now session_ended) c.refuse.result
    c.refuse.ensures.out c.refuse.ensures.puts one two old c.args.marks.now.items keeps

pub returns-then-is_finished-clause-told : goal.returns-then-is_finished-clause-told
returns-then-is_finished-clause-told g c = λ told one two old transcript whole own placed here comes tag means.
    after_told g.H.World.tells (g.H.World.scene c.args.host.now) (g.H.World.scene c.refuse.new.host) c.args.self.now c.refuse.new.self c.refuse.ensures.clean (tagged c.prefix_of.result.now session_ended) c.refuse.result
    c.refuse.ensures.out c.refuse.ensures.puts one two old c.args.marks.now.items told transcript whole placed here comes c.args.which own tag (sym c.is_finished.ensures ∙ c.if-is_finished.true)
    (ap (λ (prefix : List ℕ). tagged prefix session_ended) c.prefix_of.ensures)

pub feed-requires-clause-ready : goal.feed-requires-clause-ready
feed-requires-clause-ready g c = ready_of g.H.World.tells c.args.self.now 1 (g.H.World.scene c.args.host.now) c.args.which c.requires.usable

pub answer-requires-clause-open : goal.answer-requires-clause-open
answer-requires-clause-open g c = ap (λ (m : Multi). is_none (session_of c.args.which m)) c.feed.ensures.same.0 ∙ (sym c.is_finished.ensures ∙ c.if-is_finished.false)

pub answer-requires-clause-usable : goal.answer-requires-clause-usable
answer-requires-clause-usable g c =
    let now : Scene = g.H.World.scene c.args.host.now in
    let was = ready_of g.H.World.tells c.args.self.now 1 now c.args.which c.requires.usable in
    let taken = takes was.0 c.args.line.now in
    usable_fed g.H.World.tells c.args.self.now c.feed.new.self 1 now c.args.which c.feed.ensures.same.0 (taken.reading, (c.feed.ensures.takes was.0 c.args.line.now was.1 refl).1) c.feed.ensures.other c.requires.usable

pub returns-in-Some-clause-usable : goal.returns-in-Some-clause-usable
returns-in-Some-clause-usable g c = λ more usable.
    let now : Scene = g.H.World.scene c.args.host.now in
    let was = ready_of g.H.World.tells c.args.self.now (more + 1) now c.args.which usable in
    let taken = takes was.0 c.args.line.now in
    c.answer.ensures.usable more
    (usable_fed g.H.World.tells c.args.self.now c.feed.new.self (more + 1) now c.args.which c.feed.ensures.same.0 (taken.reading, (c.feed.ensures.takes was.0 c.args.line.now was.1 refl).1) c.feed.ensures.other usable)

pub returns-in-Some-clause-keeps : goal.returns-in-Some-clause-keeps
returns-in-Some-clause-keeps g c = λ one two old keeps.
    c.answer.ensures.keeps one two old
    (subst (λ (n : ℕ). KeepsPair g.H.World.tells one two old (g.H.World.scene c.args.host.now) n c.args.marks.now.items) (sym {A = ℕ} (ap sessions_ended c.feed.ensures.same.0)) keeps)

pub returns-in-Some-clause-told : goal.returns-in-Some-clause-told
returns-in-Some-clause-told g c = λ told one two old transcript whole own placed here comes tag means.
    let now : Scene = g.H.World.scene c.args.host.now in
    let new : Scene = g.H.World.scene c.answer.new.host in
    let which = c.args.which in
    let at = reads_at (session_of which c.args.self.now.multi) (feed_of which c.args.self.now) (feed_place which transcript) (placed which) (sym c.is_finished.ensures ∙ c.if-is_finished.false) in
    let taken = c.in-Some.ensures.takes at.0 own at.2 means in
    let ended = ended_by c.in-Some.request (takes at.0 own).ended taken.0 in
    let reads = line_read which whole own transcript at.0 tag at.1 in
    let beside = line_beside which whole own transcript at.0 tag at.1 in
    let sessions = c.answer.ensures.others ∙ ap (λ (m : Multi). session_of (other which) m) c.feed.ensures.same.0 in
    let own_feed = feed_same which c.feed.new.self c.answer.new.self c.answer.ensures.same.0 c.answer.ensures.same.1 in
    let next_feed = feed_same (other which) c.feed.new.self c.answer.new.self c.answer.ensures.same.0 c.answer.ensures.same.1 ∙ c.feed.ensures.other in
    by_call c.answer.result (HasCommand which one two old new c.answer.new.self.multi c.answer.new.marks.items c.answer.new.self.clean transcript (Line whole) ended.0)
    (HasNext one two old new c.answer.new.self c.answer.new.marks.items transcript (Line whole)) (λ e. HasRunBoth one two old new e c.answer.new.marks.items) (λ e. HasRunBoth one two old new e c.answer.new.marks.items)
    (λ has. command_next which one two old new c.args.self.now c.answer.new.self c.answer.new.marks.items transcript (Line whole) (takes at.0 own).reading placed beside reads sessions next_feed
    (subst (λ (f : CommandFeed). feed.IsAt f (takes at.0 own).reading) (sym {A = CommandFeed} own_feed) taken.1) ended.0 has)
    (λ e has. has)
    (c.answer.ensures.told told one two old transcript (Line whole) ended.0 (told_fed one two old now c.args.self.now c.feed.new.self c.args.marks.now.items transcript c.feed.ensures.same.0 c.feed.ensures.same.1 here) ended.2
    (asks_line which whole own transcript at.0 tag at.1 old.script ended.0 ended.1 comes here.read))

pub returns-in-None-clause-usable : goal.returns-in-None-clause-usable
returns-in-None-clause-usable g c = λ more usable.
    let now : Scene = g.H.World.scene c.args.host.now in
    let was = ready_of g.H.World.tells c.args.self.now (more + 1) now c.args.which usable in
    let taken = takes was.0 c.args.line.now in
    usable_fewer g.H.World.tells c.feed.new.self (more + 1) more now (omega arith)
    (usable_fed g.H.World.tells c.args.self.now c.feed.new.self (more + 1) now c.args.which c.feed.ensures.same.0 (taken.reading, (c.feed.ensures.takes was.0 c.args.line.now was.1 refl).1) c.feed.ensures.other usable)

pub returns-in-None-clause-keeps : goal.returns-in-None-clause-keeps
returns-in-None-clause-keeps g c = λ one two old keeps.
    subst (λ (n : ℕ). KeepsPair g.H.World.tells one two old (g.H.World.scene c.args.host.now) n c.args.marks.now.items) (sym {A = ℕ} (ap sessions_ended c.feed.ensures.same.0)) keeps

pub returns-in-None-clause-told : goal.returns-in-None-clause-told
returns-in-None-clause-told g c = λ told one two old transcript whole own placed here comes tag means.
    let now : Scene = g.H.World.scene c.args.host.now in
    let which = c.args.which in
    let at = reads_at (session_of which c.args.self.now.multi) (feed_of which c.args.self.now) (feed_place which transcript) (placed which) (sym c.is_finished.ensures ∙ c.if-is_finished.false) in
    let taken = c.in-None.ensures.takes at.0 own at.2 means in
    let answers = own_line which whole own None transcript (Reads at.0) tag at.1 (as_none which (takes at.0 own).ended (ended_none (takes at.0 own).ended taken.0)) in
    silent_next which one two old now c.args.self.now c.feed.new.self c.args.marks.now.items transcript (Line whole) (takes at.0 own).reading placed (line_beside which whole own transcript at.0 tag at.1)
    (line_read which whole own transcript at.0 tag at.1) (ap (λ (m : Multi). session_of (other which) m) c.feed.ensures.same.0) c.feed.ensures.other taken.1
    (ap (λ (m : Multi). is_none (session_of which m)) c.feed.ensures.same.0 ∙ (sym c.is_finished.ensures ∙ c.if-is_finished.false)) comes answers
    (told_fed one two old now c.args.self.now c.feed.new.self c.args.marks.now.items transcript c.feed.ensures.same.0 c.feed.ensures.same.1 here)

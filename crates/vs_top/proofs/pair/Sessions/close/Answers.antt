use Rattle.std.proofs.Common.{◌≡◌, ◌∙◌, true, false, refl, ap}
use Rattle.std.specs.Prelude.{IsErr}
use Rattle.vs_host.specs.World.{Scene}
use Rattle.vs_multi.specs.Multi.{session_of}
use Rattle.vs_top.specs.Tags.{tagged_for}
use Rattle.vs_top.specs.declared.pair.Sessions.{Sessions}
use Rattle.vs_top.proofs.Closing.{line_by, line_of}
use Rattle.vs_top.proofs.PairCalls.{close_keeps_err, close_keeps_ok, close_told_err, close_told_ok, room_of, usable_puts}
use Rattle.vs_top.proofs.PairKeeps.{usable_finish}
use Rattle.vs_top.proofs.PairRoom.{finish_answers, finish_script}
use Rattle.vs_top.proofs.pair.Sessions.close.Goals as goal

pub finish-requires-clause-room : goal.finish-requires-clause-room
finish-requires-clause-room g c = room_of g.H.World.tells c.args.self.now 0 (g.H.World.scene c.args.host.now) c.args.which c.requires.usable

pub returns-in-Ok-clause-usable : goal.returns-in-Ok-clause-usable
returns-in-Ok-clause-usable g c = λ more usable.
    let now : Scene = g.H.World.scene c.args.host.now in
    let mid : Scene = g.H.World.scene c.finish.new.host in
    let new : Scene = g.H.World.scene c.put_reply.new.host in
    let closed : Sessions = record c.args.self.now { multi = c.finish.new.self } in
    usable_puts g.H.World.tells closed more mid new (tagged_for c.args.which c.last_line.result.bytes) (IsErr c.put_reply.result) c.put_reply.ensures.puts
    (usable_finish g.H.World.tells c.args.self.now closed now mid refl refl c.finish.ensures.fits c.args.which more c.finish.ensures.gone c.finish.ensures.other (finish_answers g.H.World.tells now mid c.args.how true (session_of c.args.which c.args.self.now.multi) c.requires.open c.in-Ok.ensures.finishes) usable)

pub returns-in-Ok-clause-script : goal.returns-in-Ok-clause-script
returns-in-Ok-clause-script g c =
    ap (λ (s : Scene). s.script) c.put_reply.ensures.puts.frame
    ∙ finish_script g.H.World.tells (g.H.World.scene c.args.host.now) (g.H.World.scene c.finish.new.host) c.args.how true (session_of c.args.which c.args.self.now.multi) c.requires.open c.in-Ok.ensures.finishes

pub returns-in-Ok-clause-keeps : goal.returns-in-Ok-clause-keeps
returns-in-Ok-clause-keeps g c = λ one two old most marks keeps.
    close_keeps_ok g.H.World.tells c.args.which c.args.how c.args.self.now.multi (g.H.World.scene c.args.host.now) (g.H.World.scene c.finish.new.host) c.requires.open c.in-Ok.ensures.finishes
    c.last_line.result.bytes c.put_reply.result (g.H.World.scene c.put_reply.new.host) c.put_reply.ensures.puts c.put_reply.ensures.out one two old most marks keeps

pub returns-in-Ok-clause-told : goal.returns-in-Ok-clause-told
returns-in-Ok-clause-told g c = λ told one two old marks transcript source quit here asks.
    let line : c.last_line.result.bytes ≡ line_of c.args.how = line_by c.args.how c.last_line.result.bytes c.last_line.ensures.sync c.last_line.ensures.quit in
    close_told_ok g.H.World.tells c.args.which c.args.how c.args.self.now.multi (g.H.World.scene c.args.host.now) (g.H.World.scene c.finish.new.host) c.requires.open c.in-Ok.ensures.finishes
    c.last_line.result.bytes c.put_reply.result (g.H.World.scene c.put_reply.new.host) c.put_reply.ensures.puts c.put_reply.ensures.out line told
    c.finish.new.self c.finish.ensures.gone c.finish.ensures.other c.finish.ensures.stays one two old marks c.args.self.now.clean transcript source quit here asks

pub returns-in-Err-clause-usable : goal.returns-in-Err-clause-usable
returns-in-Err-clause-usable g c = λ more usable.
    let now : Scene = g.H.World.scene c.args.host.now in
    let mid : Scene = g.H.World.scene c.finish.new.host in
    let closed : Sessions = record c.args.self.now { multi = c.finish.new.self } in
    usable_finish g.H.World.tells c.args.self.now closed now mid refl refl c.finish.ensures.fits c.args.which more c.finish.ensures.gone c.finish.ensures.other (finish_answers g.H.World.tells now mid c.args.how false (session_of c.args.which c.args.self.now.multi) c.requires.open c.in-Err.ensures.finishes) usable

pub returns-in-Err-clause-script : goal.returns-in-Err-clause-script
returns-in-Err-clause-script g c =
    finish_script g.H.World.tells (g.H.World.scene c.args.host.now) (g.H.World.scene c.finish.new.host) c.args.how false (session_of c.args.which c.args.self.now.multi) c.requires.open c.in-Err.ensures.finishes

pub returns-in-Err-clause-keeps : goal.returns-in-Err-clause-keeps
returns-in-Err-clause-keeps g c = λ one two old most marks keeps.
    close_keeps_err g.H.World.tells c.args.which c.args.how c.args.self.now.multi (g.H.World.scene c.args.host.now) (g.H.World.scene c.finish.new.host) c.requires.open c.in-Err.ensures.finishes one two old most marks keeps

pub returns-in-Err-clause-told : goal.returns-in-Err-clause-told
returns-in-Err-clause-told g c = λ told one two old marks transcript source quit here asks.
    close_told_err g.H.World.tells c.args.which c.args.how c.args.self.now.multi (g.H.World.scene c.args.host.now) (g.H.World.scene c.finish.new.host) c.requires.open c.in-Err.ensures.finishes
    told one two old marks c.args.self.now.clean transcript source quit here asks

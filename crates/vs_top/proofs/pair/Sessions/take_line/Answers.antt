use Rattle.std.proofs.Common.{ap, refl}
use Rattle.std.specs.Prelude.{IsErr}
use Rattle.vs_host.specs.World.{Scene}
use Rattle.vs_top.specs.Tags.{no_session}
use Rattle.vs_top.proofs.PairNext.{none_told, refused_keeps}
use Rattle.vs_top.proofs.PairRoom.{usable_refused}
use Rattle.vs_top.proofs.pair.Sessions.take_line.Goals as goal

pub returns-in-Some-clause-told : goal.returns-in-Some-clause-told
returns-in-Some-clause-told g c = λ told one two old transcript whole placed here comes is.
    let own = c.in-Some.ensures.tag whole is in
    c.take_own.ensures.told told one two old transcript whole own.0 placed here comes own.1 own.2

pub returns-in-None-clause-usable : goal.returns-in-None-clause-usable
returns-in-None-clause-usable g c = λ more usable.
    usable_refused g.H.World.tells c.args.self.now c.refuse.new.self more (g.H.World.scene c.args.host.now) (g.H.World.scene c.refuse.new.host) no_session (IsErr c.refuse.result) c.refuse.ensures.clean c.refuse.ensures.puts usable

pub returns-in-None-clause-script : goal.returns-in-None-clause-script
returns-in-None-clause-script g c = ap (λ (s : Scene). s.script) c.refuse.ensures.puts.frame

pub returns-in-None-clause-keeps : goal.returns-in-None-clause-keeps
returns-in-None-clause-keeps g c = λ one two old keeps.
    refused_keeps g.H.World.tells (g.H.World.scene c.args.host.now) (g.H.World.scene c.refuse.new.host) c.args.self.now c.refuse.new.self c.refuse.ensures.clean no_session c.refuse.result c.refuse.ensures.out c.refuse.ensures.puts
    one two old c.args.marks.now.items keeps

pub returns-in-None-clause-told : goal.returns-in-None-clause-told
returns-in-None-clause-told g c = λ told one two old transcript whole placed here comes is.
    none_told g.H.World.tells (g.H.World.scene c.args.host.now) (g.H.World.scene c.refuse.new.host) c.args.self.now c.refuse.new.self c.refuse.ensures.clean no_session c.refuse.result c.refuse.ensures.out c.refuse.ensures.puts
    one two old c.args.marks.now.items told transcript whole placed here comes (c.in-None.ensures.tag whole is) refl

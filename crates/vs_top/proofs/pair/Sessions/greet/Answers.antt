use Rattle.std.proofs.Common.{◌∙◌, ap, sym}
use Rattle.std.proofs.lemmas.Bool.{true≢false}
use Rattle.std.specs.Prelude.{IsErr, is_err}
use Rattle.vs_family.specs.declared.which.Which.TheVariants as which
use Rattle.vs_top.specs.Tags.{tagged_for}
use Rattle.vs_top.proofs.PairRuns.{greeting_is, greets_both, greets_first}
use Rattle.vs_top.proofs.pair.Sessions.greet.Goals as goal

pub returns-in_err-put_reply-clause-greets : goal.returns-in_err-put_reply-clause-greets
returns-in_err-put_reply-clause-greets g c =
    greets_first g.O.World.tells c.args.self.now.multi c.from_residual.result _ (tagged_for which.One c.opening.result.bytes) (IsErr c.put_reply.result) (g.O.World.scene c.args.host.now) (g.O.World.scene c.put_reply.new.host)
    c.from_residual.ensures.1 (greeting_is which.One c.args.self.now.multi.one c.opening.result c.requires.one c.opening.ensures) (ap is_err c.in_err-put_reply.was) c.put_reply.ensures.puts

pub returns-clause-greets : goal.returns-clause-greets
returns-clause-greets g c =
    greets_both g.O.World.tells c.args.self.now.multi c.put_reply-2.result (tagged_for which.One c.opening.result.bytes) (tagged_for which.Two c.opening-2.result.bytes) (IsErr c.put_reply.result)
    (g.O.World.scene c.args.host.now) (g.O.World.scene c.put_reply.new.host) (g.O.World.scene c.put_reply-2.new.host)
    (greeting_is which.One c.args.self.now.multi.one c.opening.result c.requires.one c.opening.ensures) (greeting_is which.Two c.args.self.now.multi.two c.opening-2.result c.requires.two c.opening-2.ensures)
    (λ failed. absurd (true≢false (sym failed ∙ ap is_err c.in_ok-put_reply.was))) c.put_reply.ensures.puts c.put_reply-2.ensures.puts

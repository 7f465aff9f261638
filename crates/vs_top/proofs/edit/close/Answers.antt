use Rattle.std.proofs.Common.{◌≡◌, ◌∙◌, ℕ, List, ◌++◌, take, refl, ap}
use Rattle.vs_host.specs.World.{Scene}
use Rattle.vs_top.proofs.Closing.{close_fails, close_cut, close_ends, line_of, line_by, at_ending}
use Rattle.vs_top.proofs.edit.close.Goals as goal

pub returns-in_err-finish : goal.returns-in_err-finish
returns-in_err-finish g c = λ name old marks at.
    at_ending g.H.World.tells name old (g.H.World.scene c.finish.new.host) marks c.from_residual.result _ _ c.from_residual.ensures.1 c.in_err-finish.ensures.fault
    (close_fails g.H.World.tells name old (g.H.World.scene c.args.host.now) (g.H.World.scene c.finish.new.host) c.args.session marks c.args.how c.args.clean at
    c.in_err-finish.ensures.finishes (c.in_err-finish.ensures.finishes.cause.risen refl))

pub returns-in_err-put : goal.returns-in_err-put
returns-in_err-put g c = λ name old marks at.
    let mid : Scene = g.H.World.scene c.finish.new.host in
    let new : Scene = g.H.World.scene c.put.new.host in
    let line : c.last_line.result.bytes ≡ line_of c.args.how = line_by c.args.how c.last_line.result.bytes c.last_line.ensures.sync c.last_line.ensures.quit in
    at_ending g.H.World.tells name old new marks c.from_residual-in_err-put.result _ _ c.from_residual-in_err-put.ensures.1 c.in_err-put.ensures.out
    (close_cut g.H.World.tells name old (g.H.World.scene c.args.host.now) mid c.args.session marks c.args.how c.args.clean at new
    c.in_ok-finish.ensures.finishes c.put.ensures.frame
    (λ told. let cut = c.in_err-put.ensures.err told in (cut.0, cut.1 ∙ ap (λ (l : List ℕ). mid.output ++ take cut.0 l) line)) c.put.ensures.added (c.in_err-put.ensures.cause.risen refl))

pub returns : goal.returns
returns g c = λ name old marks at.
    let mid : Scene = g.H.World.scene c.finish.new.host in
    let new : Scene = g.H.World.scene c.put.new.host in
    let line : c.last_line.result.bytes ≡ line_of c.args.how = line_by c.args.how c.last_line.result.bytes c.last_line.ensures.sync c.last_line.ensures.quit in
    rw c.ending_of.ensures
    (close_ends g.H.World.tells name old (g.H.World.scene c.args.host.now) mid c.args.session marks c.args.how c.args.clean at new
    c.in_ok-finish.ensures.finishes c.put.ensures.frame
    (λ told. c.in_ok-put.ensures.ok told ∙ ap (λ (l : List ℕ). mid.output ++ l) line) c.put.ensures.added (c.in_ok-put.ensures.quiet (λ is. absurd (cc))))

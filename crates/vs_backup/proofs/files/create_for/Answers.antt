use Rattle.std.proofs.Common.{[], ◌∷◌, None, sym, subst}
use Rattle.vs_host.specs.Trace.{Created}
use Rattle.vs_host.specs.World.{Scene}
use Rattle.vs_backup.specs.Modes.{MakesFor}
use Rattle.vs_backup.specs.declared.files.Readers.{Readers}
use Rattle.vs_backup.proofs.Modes.{makes_private, makes_usual}
use Rattle.vs_backup.proofs.files.create_for.Goals as goal

pub returns-in-Usual-clause-modes : goal.returns-in-Usual-clause-modes
returns-in-Usual-clause-modes g c =
    let told = g.D.World.tells.folder in
    let s0 : Scene = g.D.World.scene c.args.desk.now in
    let s1 : Scene = g.D.World.scene c.create.new.self in
    subst (λ (r : Readers). MakesFor r told s0 s1) (sym c.in-Usual.is)
    (makes_usual told Created (c.args.name.now ∷ []) c.create.result s0 s1 c.create.ensures.kept.frame c.create.ensures.told c.args.name.now c.create.ensures.ok c.create.ensures.err)

pub returns-in-Owner-clause-modes : goal.returns-in-Owner-clause-modes
returns-in-Owner-clause-modes g c =
    let told = g.D.World.tells.folder in
    let s0 : Scene = g.D.World.scene c.args.desk.now in
    let s1 : Scene = g.D.World.scene c.create_private.new.self in
    subst (λ (r : Readers). MakesFor r told s0 s1) (sym c.in-Owner.is)
    (makes_private told None Created (c.args.name.now ∷ []) c.create_private.result s0 s1 c.create_private.ensures.kept.frame c.create_private.ensures.told c.args.name.now
    c.create_private.ensures.ok c.create_private.ensures.mode c.create_private.ensures.err)

use Rattle.std.proofs.Common.{Bool, sym, subst}
use Rattle.vs_text.specs.Documents.{file_in}
use Rattle.vs_host.specs.World.{Scene}
use Rattle.vs_backup.specs.Writing.{WritesOver}
use Rattle.vs_backup.proofs.backup.write_over.Goals as goal

pub returns-then-backing-clause-over : goal.returns-then-backing-clause-over
returns-then-backing-clause-over g c told old is text has =
    let s0 : Scene = g.D.World.scene c.args.desk.now in
    let s1 : Scene = g.D.World.scene c.write_copying.new.desk in
    subst (λ (b : Bool). WritesOver b c.args.backing.name.now c.args.backing.temporary.now c.args.backing.backup.now old (file_in c.args.backing.format text) s0 s1 c.write_copying.result)
    (sym c.if-backing.true) (c.write_copying.ensures.over told old is text has)

pub returns-clause-over : goal.returns-clause-over
returns-clause-over g c told old is text has =
    let s0 : Scene = g.D.World.scene c.args.desk.now in
    let s1 : Scene = g.D.World.scene c.write_moving.new.desk in
    subst (λ (b : Bool). WritesOver b c.args.backing.name.now c.args.backing.temporary.now c.args.backing.backup.now old (file_in c.args.backing.format text) s0 s1 c.write_moving.result)
    (sym c.if-backing.false) (c.write_moving.ensures.over told old is text has)

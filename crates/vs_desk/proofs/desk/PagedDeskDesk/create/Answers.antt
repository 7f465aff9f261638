use Rattle.std.proofs.Common.{[], ◌∷◌, IsTrue, refl}
use Rattle.vs_host.specs.Trace.{Created}
use Rattle.vs_disk.specs.Names.{SameAt}
use Rattle.vs_pair.specs.Pair.{is_swap}
use Rattle.vs_desk.proofs.Above.{changes}
use Rattle.vs_desk.proofs.Keeping.{desk_kept, pages_kept, same_created}
use Rattle.vs_desk.proofs.desk.PagedDeskDesk.create.Goals as goal

pub returns-clause-kept : goal.returns-clause-kept
returns-clause-kept g c =
    let on = c.create.ensures in
    let desk = c.args.self.now in
    let told = g.F.World.tells.folder in
    let pair = desk.pages.pair.now in
    let tree = desk.tree.now in
    let old = (g.F.World.scene desk.pages.host.now).folder in
    let new = (g.F.World.scene c.create.new.self).folder in
    let folder = g.F.World.is_folder desk.pages.host.now in
    let same : IsTrue told → SameAt (is_swap pair.files.names) old new =
    same_created told pair tree old new folder c.requires.valid c.args.name.now c.requires.apart c.create.result on.ok on.err in
    changes Created (c.args.name.now ∷ []) c.create.result (desk_kept told pair tree old new same c.requires.valid)
    (λ above. (refl, refl, refl, pages_kept told pair tree old new same, above)) on.cause on.quiet on.told on.frame

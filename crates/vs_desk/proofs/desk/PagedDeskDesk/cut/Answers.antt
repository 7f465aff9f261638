use Rattle.std.proofs.Common.{[], ◌∷◌, IsTrue, refl}
use Rattle.vs_host.specs.File.{Cuts}
use Rattle.vs_host.specs.Trace.{Cut}
use Rattle.vs_disk.specs.Names.{SameAt}
use Rattle.vs_pair.specs.Pair.{is_swap}
use Rattle.vs_desk.proofs.Above.{changes}
use Rattle.vs_desk.proofs.Keeping.{desk_kept, pages_kept, same_if_file}
use Rattle.vs_desk.proofs.desk.PagedDeskDesk.cut.Goals as goal

pub returns-clause-kept : goal.returns-clause-kept
returns-clause-kept g c =
    let on = c.cut.ensures in
    let desk = c.args.self.now in
    let told = g.F.World.tells.folder in
    let pair = desk.pages.pair.now in
    let tree = desk.tree.now in
    let old = (g.F.World.scene desk.pages.host.now).folder in
    let new = (g.F.World.scene c.cut.new.self).folder in
    let folder = g.F.World.is_folder desk.pages.host.now in
    let same : IsTrue told → SameAt (is_swap pair.files.names) old new =
    same_if_file told pair tree old new folder c.requires.valid c.args.name.now c.requires.apart c.cut.result (Cuts c.args.len) on.ok on.err in
    changes Cut (c.args.name.now ∷ []) c.cut.result (desk_kept told pair tree old new same c.requires.valid)
    (λ above. (refl, refl, refl, pages_kept told pair tree old new same, above)) on.cause on.quiet on.told on.frame

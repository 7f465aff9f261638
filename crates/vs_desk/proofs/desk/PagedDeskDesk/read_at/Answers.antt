use Rattle.std.proofs.Common.{[], ◌∷◌, IsTrue, refl}
use Rattle.vs_host.specs.Trace.{Read}
use Rattle.vs_disk.specs.Names.{SameAt}
use Rattle.vs_pair.specs.Pair.{is_swap}
use Rattle.vs_desk.proofs.Above.{reads}
use Rattle.vs_desk.proofs.Keeping.{desk_kept, only_read, pages_kept}
use Rattle.vs_desk.proofs.desk.PagedDeskDesk.read_at.Goals as goal

pub returns-clause-kept : goal.returns-clause-kept
returns-clause-kept g c =
    let on = c.read_at.ensures in
    let desk = c.args.self.now in
    let told = g.F.World.tells.folder in
    let pair = desk.pages.pair.now in
    let tree = desk.tree.now in
    let before = g.F.World.scene desk.pages.host.now in
    let after = g.F.World.scene c.read_at.new.self in
    let old = before.folder in
    let new = after.folder in
    let same : IsTrue told → SameAt (is_swap pair.files.names) old new = λ is. only_read (is_swap pair.files.names) before after on.frame in
    reads Read (c.args.name.now ∷ []) c.read_at.result (desk_kept told pair tree old new same c.requires.valid)
    (λ above. (refl, refl, refl, pages_kept told pair tree old new same, above)) on.cause on.quiet on.told on.frame

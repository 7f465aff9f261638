use Rattle.std.proofs.Common.{ap, ◌∙◌, subst}
use Rattle.vs_memory.specs.Memory.{Memory, folder_of}
use Rattle.vs_memory.specs.Hosts.{AreSynced}
use Rattle.vs_memory.specs.Present.{disk_in}
use Rattle.vs_memory.proofs.KeptImages.{image_of_host, chosen_of_host}
use Rattle.vs_memory.proofs.host.MemHost.image.Goals as goal

pub returns-clause-chosen : goal.returns-clause-chosen
returns-clause-chosen c =
    let is = c.self.invariant.folder ∙ ap (λ (m : Memory). folder_of m) c.self.view_is in
    chosen_of_host c.args.choice.now (disk_in c.self.inside.folder) (folder_of c.args.self.now) c.args.script.items is c.folder_image.result c.folder_image.ensures.fresh c.folder_image.ensures.chosen

pub returns-clause-image : goal.returns-clause-image
returns-clause-image c =
    let is = c.self.invariant.folder ∙ ap (λ (m : Memory). folder_of m) c.self.view_is in
    let synced : AreSynced (folder_of c.args.self.now) = subst (λ (m : Memory). AreSynced (folder_of m)) c.self.view_is c.self.invariant.synced in
    image_of_host c.args.choice.now (folder_of c.args.self.now) synced c.folder_image.result
    (chosen_of_host c.args.choice.now (disk_in c.self.inside.folder) (folder_of c.args.self.now) c.args.script.items is c.folder_image.result c.folder_image.ensures.fresh c.folder_image.ensures.chosen)

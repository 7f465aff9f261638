use Rattle.std.proofs.Common.{ap}
use Rattle.vs_host.specs.World.{Scene}
use Rattle.vs_pair.specs.Pair.{is_swap}
use Rattle.vs_paged.specs.Fits.{names_of}
use Rattle.vs_disk.specs.Names.{SameAt}
use Rattle.vs_text.specs.Documents.{file_in}
use Rattle.vs_tree.specs.Texts.{worked_by}
use Rattle.vs_desk.proofs.Left.{keeps_left}
use Rattle.vs_desk.proofs.Stillness.{still_apart, still_fits}
use Rattle.vs_desk.proofs.Spared.{fits_ready, fits_written, keeps_swap, swap_outside}
use Rattle.vs_desk.proofs.write.write_text.Goals as goal

pub write_in-requires-clause-ready : goal.write_in-requires-clause-ready
write_in-requires-clause-ready g c told =
    let fits = c.requires.fits told in
    fits_ready c.args.text.now (g.F.World.scene c.args.host.now).folder fits.0 fits.1 fits.2

pub returns-clause-recovers : goal.returns-clause-recovers
returns-clause-recovers g c told lines syncs fits =
    let paged = c.args.text.now in
    let names = names_of paged in
    let s0 : Scene = g.F.World.scene c.args.host.now in
    let s1 : Scene = g.F.World.scene c.write_in.new.host in
    keeps_swap paged lines syncs s0 s1 fits
    (c.write_in.ensures.others told (is_swap names) (swap_outside names paged.pair.files.named c.args.options.now s0.folder)
    (still_apart (is_swap names) s0.folder (g.F.World.is_folder c.args.host.now told) (still_fits paged s0.folder lines syncs fits)))

pub returns-clause-fits : goal.returns-clause-fits
returns-clause-fits g c told lines syncs fits =
    let paged = c.args.text.now in
    let names = names_of paged in
    let s0 : Scene = g.F.World.scene c.args.host.now in
    let s1 : Scene = g.F.World.scene c.write_in.new.host in
    let runs = c.write_in.ensures.others told (is_swap names) (swap_outside names paged.pair.files.named c.args.options.now s0.folder)
    (still_apart (is_swap names) s0.folder (g.F.World.is_folder c.args.host.now told) (still_fits paged s0.folder lines syncs fits)) in
    fits_written g.F.World.tells.folder paged _ s0.folder s1.folder lines syncs told c.write_in.ensures.same (c.write_in.ensures.ready told) runs.now fits

pub returns-clause-others : goal.returns-clause-others
returns-clause-others g c told = c.write_in.ensures.others told

pub returns-clause-left : goal.returns-clause-left
returns-clause-left g c told lines syncs fits =
    let paged = c.args.text.now in
    let names = names_of paged in
    let s0 : Scene = g.F.World.scene c.args.host.now in
    let s1 : Scene = g.F.World.scene c.write_in.new.host in
    keeps_left c.args.options.now names paged.pair.files.named (file_in c.args.options.now.format lines) s0 s1 _ (c.write_in.ensures.written told lines fits.pages) (SameAt (is_swap names))
    (c.write_in.ensures.others told (is_swap names) (swap_outside names paged.pair.files.named c.args.options.now s0.folder)
    (still_apart (is_swap names) s0.folder (g.F.World.is_folder c.args.host.now told) (still_fits paged s0.folder lines syncs fits)))

pub returns-clause-calls : goal.returns-clause-calls
returns-clause-calls g c told lines syncs fits = c.write_in.ensures.calls told lines fits.pages

pub returns-clause-work : goal.returns-clause-work
returns-clause-work g c told = ap worked_by (c.write_in.ensures.same.shown told)

use Rattle.std.proofs.Common.{Ok, Err, refl, sym, ap, subst, ◌∙◌}
use Rattle.vs_host.specs.Disk.{Disk}
use Rattle.vs_host.specs.World.{Scene}
use Rattle.vs_paged.specs.Fits as paged
use Rattle.vs_ubind.proofs.Loads.{same_handed}
use Rattle.vs_session.proofs.Calls.{handed_from, reads_as, reads_then}
use Rattle.vs_session.proofs.SessionLemmas.{fits_again}
use Rattle.vs_session.proofs.Bindings.{handed, some_bytes, taken_at}
use Rattle.vs_session.proofs.session.Session.take_undo.Goals as goal

pub bind_undo-requires-clause-rules : goal.bind_undo-requires-clause-rules
bind_undo-requires-clause-rules g c = c.in_ok-contents.ensures.rules

pub bind_undo-requires-clause-fits : goal.bind_undo-requires-clause-fits
bind_undo-requires-clause-fits g c told =
    let given = c.requires.fits told in
    let same = ap (λ (s : Scene). s.folder) c.in_ok-contents.ensures.reads.frame in
    (given.0.machine.text, given.1, subst (λ (d : Disk). paged.Fits c.args.self.now.text d given.0.machine.text given.1) (sym same) given.2.stands.text)

pub returns-in_err-contents-clause-refused : goal.returns-in_err-contents-clause-refused
returns-in_err-contents-clause-refused g c = handed _ _ _ c.from_residual.ensures.1 (λ told state syncs fits. c.in_err-contents.ensures.refused told state.machine.text)

pub returns-in_err-tree-clause-refused : goal.returns-in_err-tree-clause-refused
returns-in_err-tree-clause-refused g c =
    handed _ _ _ c.from_residual-in_err-tree.ensures.1 (λ told state syncs fits.
    let same = ap (λ (s : Scene). s.folder) c.in_ok-contents.ensures.reads.frame in
    let file = some_bytes _ _ (c.in_ok-contents.ensures.found told) in
    taken_at state.machine.text _ _ (Err c.in_err-tree.field-0.0) file.1
    (c.in_err-tree.ensures.refused told state.machine.text syncs file.0 (subst (λ (d : Disk). paged.Fits c.args.self.now.text d state.machine.text syncs) (sym same) fits.stands.text) file.2))

pub returns-clause-taken : goal.returns-clause-taken
returns-clause-taken g c told state syncs fits =
    let same = ap (λ (s : Scene). s.folder) c.in_ok-contents.ensures.reads.frame in
    let file = some_bytes _ _ (c.in_ok-contents.ensures.found told) in
    let taken = c.in_ok-tree.ensures.taken told state.machine.text syncs file.0 (subst (λ (d : Disk). paged.Fits c.args.self.now.text d state.machine.text syncs) (sym same) fits.stands.text) file.2 in
    (taken.0, taken_at state.machine.text _ _ (Ok taken.0) file.1 taken.1, taken.2, c.len.ensures ∙ c.in_ok-contents.contents.changes.ok.0 ∙ taken.3)

pub returns-in_err-tree-clause-fits : goal.returns-in_err-tree-clause-fits
returns-in_err-tree-clause-fits g c told state syncs fits =
    let same = ap (λ (s : Scene). s.folder) c.in_ok-contents.ensures.reads.frame in
    let text = subst (λ (d : Disk). paged.Fits c.args.self.now.text d state.machine.text syncs) (sym same) fits.stands.text in
    fits_again c.args.self.now _ _ _ state syncs fits (record { text = c.bind_undo.ensures.kept.fits told state.machine.text syncs text; history = fits.stands.history }) refl refl refl refl refl refl refl

pub returns-clause-fits : goal.returns-clause-fits
returns-clause-fits g c told state syncs fits =
    let same = ap (λ (s : Scene). s.folder) c.in_ok-contents.ensures.reads.frame in
    let text = subst (λ (d : Disk). paged.Fits c.args.self.now.text d state.machine.text syncs) (sym same) fits.stands.text in
    fits_again c.args.self.now _ _ _ state syncs fits (record { text = c.bind_undo.ensures.kept.fits told state.machine.text syncs text; history = fits.stands.history }) refl refl refl refl refl refl refl

pub returns-in_err-contents-clause-reads : goal.returns-in_err-contents-clause-reads
returns-in_err-contents-clause-reads g c =
    reads_as g.F.World.tells _ _ (g.F.World.scene c.args.host.now) (g.F.World.scene c.load_undo.new.host) c.in_err-contents.ensures.reads
    (same_handed c.from_residual.result _ _ c.from_residual.ensures.1) (handed_from c.from_residual.result _ _ c.from_residual.ensures.1)

pub returns-in_err-tree-clause-reads : goal.returns-in_err-tree-clause-reads
returns-in_err-tree-clause-reads g c =
    let old : Scene = g.F.World.scene c.args.host.now in
    let mid : Scene = g.F.World.scene c.load_undo.new.host in
    let new : Scene = g.F.World.scene c.bind_undo.new.host in
    reads_as g.F.World.tells _ _ old new
    (reads_then g.F.World.tells _ _ _ _ old mid new c.in_ok-contents.ensures.reads (λ e. cc) c.in_err-tree.ensures.kept.keeps c.in_err-tree.ensures.kept.cause)
    (same_handed c.from_residual-in_err-tree.result _ _ c.from_residual-in_err-tree.ensures.1) (handed_from c.from_residual-in_err-tree.result _ _ c.from_residual-in_err-tree.ensures.1)

pub returns-clause-reads : goal.returns-clause-reads
returns-clause-reads g c =
    let old : Scene = g.F.World.scene c.args.host.now in
    let mid : Scene = g.F.World.scene c.load_undo.new.host in
    let new : Scene = g.F.World.scene c.bind_undo.new.host in
    reads_as g.F.World.tells _ _ old new (reads_then g.F.World.tells _ _ _ _ old mid new c.in_ok-contents.ensures.reads (λ e. cc) c.in_ok-tree.ensures.kept.keeps c.in_ok-tree.ensures.kept.cause)
    (λ e. absurd (cc)) (λ e. absurd (cc))

use Rattle.std.proofs.Common.{refl, ap}
use Rattle.vs_text.specs.Documents.{Document}
use Rattle.vs_pair.specs.declared.head.Head.{Head}
use Rattle.vs_pair.specs.Pair as pair
use Rattle.vs_pair.specs.Pair.{known_of, sync_of}
use Rattle.vs_pair.proofs.Acts.{acts_as}
use Rattle.vs_paged.specs.Fits.{Syncing}
use Rattle.vs_paged.proofs.SyncLemmas.{on_ok_as, on_err_as, document_synced, syncing_documents, synced_fits, failed_fits}
use Rattle.vs_paged.proofs.TurnLemmas.{turns}
use Rattle.vs_paged.proofs.paged.PagedText.sync.Goals as goal

pub sync-requires-clause-stored : goal.sync-requires-clause-stored
sync-requires-clause-stored g c told = (c.requires.fits told).2.stored

pub sync-requires-clause-fits : goal.sync-requires-clause-fits
sync-requires-clause-fits g c told = let fits = (c.requires.fits told).2 in (fits.newest, fits.later, fits.past, fits.fit)

pub returns-clause-acts : goal.returns-clause-acts
returns-clause-acts g c =
    acts_as _ (pair.Syncing (known_of c.args.self.now.pair (g.F.World.scene c.args.host.now).folder) (sync_of c.args.self.now.pair (g.F.World.scene c.args.host.now).folder c.head_of.result)) (Syncing c.args.self.now c.args.format) (g.F.World.scene c.args.host.now) (g.F.World.scene c.sync.new.host)
    (λ told d syncing. syncing_documents c.args.self.now c.head_of.result c.args.format _ d (ap (λ (h : Head). h.empty) c.head_of.ensures.head) (ap (λ (h : Head). h.format) c.head_of.ensures.head) syncing)
    c.sync.ensures.acts

pub returns-clause-ok : goal.returns-clause-ok
returns-clause-ok g c =
    on_ok_as c.sync.result _ _
    (λ ok told text syncs fits. synced_fits c.args.self.now _ c.head_of.result c.args.dirty _ (g.F.World.scene c.sync.new.host).folder (record { text = text; format = c.args.format }) syncs refl (c.sync.ensures.shown told) (c.sync.ensures.stored told)
    (ap (λ (h : Head). h.dirty) c.head_of.ensures.head) (ap (λ (h : Head). h.empty) c.head_of.ensures.head) (ap (λ (h : Head). h.format) c.head_of.ensures.head) fits (ok told fits.newest fits.later fits.past fits.fit))
    c.sync.ensures.ok

pub returns-clause-err : goal.returns-clause-err
returns-clause-err g c =
    on_err_as c.sync.result _ _
    (λ err told text syncs fits. failed_fits c.args.self.now _ c.head_of.result c.args.dirty _ (g.F.World.scene c.sync.new.host).folder (record { text = text; format = c.args.format }) syncs refl (c.sync.ensures.shown told) (c.sync.ensures.stored told)
    (ap (λ (h : Head). h.dirty) c.head_of.ensures.head) (ap (λ (h : Head). h.empty) c.head_of.ensures.head) (ap (λ (h : Head). h.format) c.head_of.ensures.head) fits (err told fits.newest fits.later fits.past fits.fit))
    c.sync.ensures.err

pub returns-clause-rises : goal.returns-clause-rises
returns-clause-rises g c =
    on_ok_as c.sync.result _ _ (λ rises told. let was = c.requires.fits told in
    let document : Document = record { text = was.0; format = c.args.format } in
    rises told document (document_synced c.args.self.now (g.F.World.scene c.args.host.now).folder _ c.head_of.result document was.2.pages (ap (λ (h : Head). h.empty) c.head_of.ensures.head) (ap (λ (h : Head). h.format) c.head_of.ensures.head)))
    c.sync.ensures.rises

pub returns-clause-stays : goal.returns-clause-stays
returns-clause-stays g c =
    on_err_as c.sync.result _ _
    (λ stays told. let fits = (c.requires.fits told).2 in stays told fits.newest fits.later fits.past fits.fit fits.syncs_are.last.document fits.syncs_are.newest_is.document) c.sync.ensures.stays

pub returns-clause-turns : goal.returns-clause-turns
returns-clause-turns g c = turns c.sync.result c.args.self.now.pair _ c.sync.ensures.turned c.sync.ensures.commits c.sync.ensures.forgotten c.sync.ensures.remembered

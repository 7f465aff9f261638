use Rattle.std.proofs.Common.{◌≡◌, Result, Ok, Err, IsErrAnd, IsErrOf, ap, refl, subst, ◌∙◌}
use Rattle.vs_edit.specs.declared.store.StoreErr.{StoreErr}
use Rattle.vs_host.specs.World.{Scene}
use Rattle.vs_host.specs.declared.names.Names.{Names}
use Rattle.vs_backup.proofs.Stops.{stops_as, stops_then}
use Rattle.vs_session.specs.Fits.{names_of}
use Rattle.vs_session.specs.Modes.{OnlyLike}
use Rattle.vs_session.proofs.Modes.{like_after, like_looks}
use Rattle.vs_session.proofs.Stored.{stored_bytes, stored_runs, stores_looked}
use Rattle.vs_session.proofs.session.Session.store_undo.Goals as goal

-- an error that is handed on is the same after that
handed_on : {T U : Type 0} (r : Result U StoreErr) (e f : StoreErr) → IsErrAnd r (λ x. x ≡ e) → IsErrOf {T = T} (Err e) f → IsErrOf r f
handed_on (Ok x) e f is of = absurd is
handed_on (Err x) e f is of = let one : e ≡ f = cc in ap (λ (y : StoreErr). Err y) (is ∙ one)

pub returns-in_err-bytes-clause-stops : goal.returns-in_err-bytes-clause-stops
returns-in_err-bytes-clause-stops g c =
    stops_as _ _ _ _ _ (λ calm failed. calm (handed_on c.from_residual.result _ _ c.from_residual.ensures.1 failed)) c.in_err-bytes.ensures.kept.stops

pub returns-in_err-bytes-clause-runs : goal.returns-in_err-bytes-clause-runs
returns-in_err-bytes-clause-runs g c told state syncs fits = stores_looked _ _ _ _ _ (c.in_err-bytes.ensures.kept.looks told)

pub returns-in_err-bytes-clause-idle : goal.returns-in_err-bytes-clause-idle
returns-in_err-bytes-clause-idle g c = λ lacks told. ap (λ (s : Scene). s.folder) c.in_err-bytes.ensures.kept.frame

pub returns-in-Ok-clause-runs : goal.returns-in-Ok-clause-runs
returns-in-Ok-clause-runs g c told state syncs fits =
    let old = g.F.World.scene c.args.host.now in
    let mid = g.F.World.scene c.undo_bytes.new.host in
    let new = g.F.World.scene c.store_bytes.new.host in
    stored_runs (names_of c.args.self.now) (names_of c.undo_bytes.new.self) state.machine.text state.machine.history c.in_ok-bytes.bytes.items c.deref.result.now c.in_ok-bytes.ensures.kept.file.names c.deref.ensures.value
    (c.in_ok-bytes.ensures.bytes told state syncs fits) old mid new c.in_ok-bytes.ensures.kept.frame (c.in_ok-bytes.ensures.kept.looks told) c.in-Ok.ensures.stores.frame (c.in-Ok.ensures.stores.runs told)

pub returns-in_err-bytes-clause-modes : goal.returns-in_err-bytes-clause-modes
returns-in_err-bytes-clause-modes g c told =
    like_looks (names_of c.args.self.now).file (g.F.World.scene c.args.host.now) (g.F.World.scene c.undo_bytes.new.host) (c.in_err-bytes.ensures.kept.looks told)

pub returns-in-Ok-clause-modes : goal.returns-in-Ok-clause-modes
returns-in-Ok-clause-modes g c told =
    let mid = g.F.World.scene c.undo_bytes.new.host in
    let new = g.F.World.scene c.store_bytes.new.host in
    like_after (names_of c.args.self.now).file (g.F.World.scene c.args.host.now) mid new c.in_ok-bytes.ensures.kept.frame (c.in_ok-bytes.ensures.kept.looks told)
    (subst (λ (n : Names). OnlyLike n.file mid new) c.in_ok-bytes.ensures.kept.file.names (c.in-Ok.ensures.stores.modes told))

pub returns-clause-modes : goal.returns-clause-modes
returns-clause-modes g c told =
    let mid = g.F.World.scene c.undo_bytes.new.host in
    let new = g.F.World.scene c.store_bytes.new.host in
    like_after (names_of c.args.self.now).file (g.F.World.scene c.args.host.now) mid new c.in_ok-bytes.ensures.kept.frame (c.in_ok-bytes.ensures.kept.looks told)
    (subst (λ (n : Names). OnlyLike n.file mid new) c.in_ok-bytes.ensures.kept.file.names (c.in-Err.ensures.stores.modes told))

pub returns-in-Ok-clause-stored : goal.returns-in-Ok-clause-stored
returns-in-Ok-clause-stored g c told state syncs fits =
    let new = g.F.World.scene c.store_bytes.new.host in
    stored_bytes (names_of c.args.self.now) (names_of c.undo_bytes.new.self) state.machine.text state.machine.history c.in_ok-bytes.bytes.items c.deref.result.now c.in_ok-bytes.ensures.kept.file.names c.deref.ensures.value
    (c.in_ok-bytes.ensures.bytes told state syncs fits) new.folder (c.in-Ok.ensures.stored told)

pub returns-in-Ok-clause-fits : goal.returns-in-Ok-clause-fits
returns-in-Ok-clause-fits g c told state syncs fits = c.in-Ok.ensures.stores.fits told state syncs (c.in_ok-bytes.ensures.fits told state syncs fits)

pub returns-clause-runs : goal.returns-clause-runs
returns-clause-runs g c told state syncs fits =
    let old = g.F.World.scene c.args.host.now in
    let mid = g.F.World.scene c.undo_bytes.new.host in
    let new = g.F.World.scene c.store_bytes.new.host in
    stored_runs (names_of c.args.self.now) (names_of c.undo_bytes.new.self) state.machine.text state.machine.history c.in_ok-bytes.bytes.items c.deref.result.now c.in_ok-bytes.ensures.kept.file.names c.deref.ensures.value
    (c.in_ok-bytes.ensures.bytes told state syncs fits) old mid new c.in_ok-bytes.ensures.kept.frame (c.in_ok-bytes.ensures.kept.looks told) c.in-Err.ensures.stores.frame (c.in-Err.ensures.stores.runs told)

pub returns-clause-fits : goal.returns-clause-fits
returns-clause-fits g c told state syncs fits = c.in-Err.ensures.stores.fits told state syncs (c.in_ok-bytes.ensures.fits told state syncs fits)

pub returns-in-Ok-clause-stops : goal.returns-in-Ok-clause-stops
returns-in-Ok-clause-stops g c =
    let old : Scene = g.F.World.scene c.args.host.now in
    stops_then g.F.World.tells _ _ old (g.F.World.scene c.undo_bytes.new.host) (g.F.World.scene c.store_bytes.new.host) (λ e. cc) c.in_ok-bytes.ensures.kept.stops (stops_as _ _ _ _ _ (λ _ e. cc) c.in-Ok.ensures.stores.stops)

pub returns-clause-stops : goal.returns-clause-stops
returns-clause-stops g c =
    let old : Scene = g.F.World.scene c.args.host.now in
    stops_then g.F.World.tells _ _ old (g.F.World.scene c.undo_bytes.new.host) (g.F.World.scene c.store_bytes.new.host) (λ e. cc) c.in_ok-bytes.ensures.kept.stops (stops_as _ _ _ _ _ (λ calm _. calm refl) c.in-Err.ensures.stores.stops)

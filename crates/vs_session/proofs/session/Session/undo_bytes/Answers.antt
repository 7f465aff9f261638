use Rattle.std.proofs.Common.{◌≡◌, Result, Ok, Err, IsErrAnd, IsErrOf, refl, rules}
use Rattle.vs_edit.specs.declared.store.StoreErr.{StoreErr}
use Rattle.vs_edit.specs.declared.store.StoreErr.TheVariants.{Failed, NoMemory}
use Rattle.vs_session.proofs.Calls.{goes_reading}
use Rattle.vs_session.proofs.SessionLemmas.{fits_again}
use Rattle.vs_session.proofs.Stored.{undo_of_bytes}
use Rattle.vs_session.proofs.session.Session.undo_bytes.Goals as goal

pub unbind_text-requires : goal.unbind_text-requires
unbind_text-requires g c = record { fits = record { counts = c.requires.usable.undo; fits = λ told. let given = c.requires.usable.fits told in (given.0.machine, given.1, given.2.stands) } }

pub returns-clause-bytes : goal.returns-clause-bytes
returns-clause-bytes g c told state syncs fits = undo_of_bytes _ _ _ _ c.in_ok-contents.ensures.formed c.in_ok-bytes.ensures.written c.in_ok-bytes.ensures.bytes (c.in_ok-contents.ensures.made told state.machine syncs fits.stands)

pub returns-in_err-contents-clause-fits : goal.returns-in_err-contents-clause-fits
returns-in_err-contents-clause-fits g c told state syncs fits = fits_again c.args.self.now _ _ _ state syncs fits (c.unbind_text.ensures.fits told state.machine syncs fits.stands) refl refl refl refl refl refl refl

pub returns-in_err-bytes-clause-fits : goal.returns-in_err-bytes-clause-fits
returns-in_err-bytes-clause-fits g c told state syncs fits = fits_again c.args.self.now _ _ _ state syncs fits (c.unbind_text.ensures.fits told state.machine syncs fits.stands) refl refl refl refl refl refl refl

pub returns-clause-fits : goal.returns-clause-fits
returns-clause-fits g c told state syncs fits = fits_again c.args.self.now _ _ _ state syncs fits (c.unbind_text.ensures.fits told state.machine syncs fits.stands) refl refl refl refl refl refl refl

-- neither of these is a failure
done_well : {T : Type 0} (x : T) → IsErrOf {T = T} {E = StoreErr} (Ok x) Failed → ⊥
done_well x failed = absurd (cc)

lacks_memory : {T : Type 0} (r : Result T StoreErr) → IsErrAnd r (λ e. e ≡ NoMemory) → IsErrOf r Failed → ⊥
lacks_memory (Ok x) is failed = absurd is
lacks_memory (Err e) is failed = absurd (cc)

pub returns-in_err-contents-clause-kept : goal.returns-in_err-contents-clause-kept
returns-in_err-contents-clause-kept g c =
    let kept = c.unbind_text.ensures.kept in
    goes_reading g.F.World.tells _ _ c.args.self.now _ (g.F.World.scene c.args.host.now) (g.F.World.scene c.unbind_text.new.host) refl refl kept.keeps kept.counts kept.cause
    (λ failed. search rules) (λ failed. search rules)

pub returns-in_err-bytes-clause-kept : goal.returns-in_err-bytes-clause-kept
returns-in_err-bytes-clause-kept g c =
    let kept = c.in_ok-contents.ensures.kept in
    goes_reading g.F.World.tells _ _ c.args.self.now _ (g.F.World.scene c.args.host.now) (g.F.World.scene c.unbind_text.new.host) refl refl kept.keeps kept.counts kept.cause
    (λ failed. absurd (done_well _ failed)) (λ failed. absurd (lacks_memory c.from_residual-in_err-bytes.result c.from_residual-in_err-bytes.ensures.1 failed))

pub returns-clause-kept : goal.returns-clause-kept
returns-clause-kept g c =
    let kept = c.in_ok-contents.ensures.kept in
    goes_reading g.F.World.tells _ _ c.args.self.now _ (g.F.World.scene c.args.host.now) (g.F.World.scene c.unbind_text.new.host) refl refl kept.keeps kept.counts kept.cause
    (λ failed. absurd (done_well _ failed)) (λ failed. absurd (done_well _ failed))

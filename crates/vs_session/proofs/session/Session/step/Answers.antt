use Rattle.std.proofs.Common.{ap, subst}
use Rattle.vs_host.specs.World.{Scene}
use Rattle.vs_session.proofs.Steps.{fits_moved, step_from}
use Rattle.vs_host.specs.Disk.{Disk}
use Rattle.vs_session.specs.Work.{WorksIn}
use Rattle.vs_session.proofs.SwapSyncs.{syncs_from}
use Rattle.vs_session.proofs.session.Session.step.Goals as goal

pub answer-requires-clause-usable : goal.answer-requires-clause-usable
answer-requires-clause-usable g c = record {
  undo = c.requires.undo;
  fits = λ told.
      let given = c.requires.fits told in
      (given.0, given.1, fits_moved _ _ _ given.0 given.1 (ap (λ (s : Scene). s.folder) c.now-at.ensures.frame) given.2);
}

pub returns-clause-step : goal.returns-clause-step
returns-clause-step g c told state syncs instruction fits is =
    let old = g.H.World.scene c.args.host.now in
    let mid = g.H.World.scene c.now-at.new.self in
    let new = g.H.World.scene c.answer.new.host in
    step_from c.answer.result state syncs instruction c.args.self.now c.answer.new.self old mid new c.now-at.ensures.frame
    (c.answer.ensures.step told state syncs instruction (fits_moved c.args.self.now old.folder mid.folder state syncs (ap (λ (s : Scene). s.folder) c.now-at.ensures.frame) fits) is)

pub returns-clause-works : goal.returns-clause-works
returns-clause-works g c =
    subst (λ (d : Disk). WorksIn g.H.World.tells c.args.request.now c.answer.result c.args.self.now c.answer.new.self d) (ap (λ (s : Scene). s.folder) c.now-at.ensures.frame) c.answer.ensures.works

pub returns-clause-behind : goal.returns-clause-behind
returns-clause-behind g c =
    syncs_from g.H.World.tells c.args.request.now c.answer.result c.args.self.now c.answer.new.self (g.H.World.scene c.args.host.now) (g.H.World.scene c.now-at.new.self) (g.H.World.scene c.answer.new.host)
    (ap (λ (s : Scene). s.trace) c.now-at.ensures.frame) (ap (λ (s : Scene). s.folder) c.now-at.ensures.frame) c.answer.ensures.behind

-- Each move goes where the machine says; for those by writes the way of the current state is the one that the machine takes.
use Rattle.vs_undo.specs.Writes.{IsEarlierWrite, IsAtOldestWrite, IsLaterWrite, IsAtNewestWrite}
use Rattle.vs_undo.specs.declared.error.UndoErr.TheVariants.{AtOldest, AtNewest}
use Rattle.vs_machine.proofs.GoalLemmas.{all_gone, all_still, reached, why, at_earlier_write, at_oldest_write, at_later_write, at_newest_write}
use Rattle.vs_machine.proofs.moves.go.Goals as goal

pub returns-in-Back-clause-gone : goal.returns-in-Back-clause-gone
returns-in-Back-clause-gone g c = all_gone g.S.LineStore _ _ _ _ c.back.result c.parts.ensures.sound c.back.ensures.moves.moved

pub returns-in-Back-clause-still : goal.returns-in-Back-clause-still
returns-in-Back-clause-still g c = all_still g.S.LineStore _ _ _ _ c.back.result c.back.ensures.moves.moved

pub returns-in-To-clause-gone : goal.returns-in-To-clause-gone
returns-in-To-clause-gone g c = all_gone g.S.LineStore _ _ _ _ c.goto.result c.parts.ensures.sound c.goto.ensures.moves.moved

pub returns-in-To-clause-still : goal.returns-in-To-clause-still
returns-in-To-clause-still g c = all_still g.S.LineStore _ _ _ _ c.goto.result c.goto.ensures.moves.moved

pub returns-in-Forward-clause-gone : goal.returns-in-Forward-clause-gone
returns-in-Forward-clause-gone g c = all_gone g.S.LineStore _ _ _ _ c.forward.result c.parts.ensures.sound c.forward.ensures.moves.moved

pub returns-in-Forward-clause-still : goal.returns-in-Forward-clause-still
returns-in-Forward-clause-still g c = all_still g.S.LineStore _ _ _ _ c.forward.result c.forward.ensures.moves.moved

pub returns-in-Earlier-clause-gone : goal.returns-in-Earlier-clause-gone
returns-in-Earlier-clause-gone g c = all_gone g.S.LineStore _ _ _ _ c.earlier.result c.parts.ensures.sound c.earlier.ensures.moves.moved

pub returns-in-Earlier-clause-still : goal.returns-in-Earlier-clause-still
returns-in-Earlier-clause-still g c = all_still g.S.LineStore _ _ _ _ c.earlier.result c.earlier.ensures.moves.moved

pub returns-in-Later-clause-gone : goal.returns-in-Later-clause-gone
returns-in-Later-clause-gone g c = all_gone g.S.LineStore _ _ _ _ c.later.result c.parts.ensures.sound c.later.ensures.moves.moved

pub returns-in-Later-clause-still : goal.returns-in-Later-clause-still
returns-in-Later-clause-still g c = all_still g.S.LineStore _ _ _ _ c.later.result c.later.ensures.moves.moved

pub returns-in-EarlierWrites-clause-gone : goal.returns-in-EarlierWrites-clause-gone
returns-in-EarlierWrites-clause-gone g c = all_gone g.S.LineStore _ _ _ _ c.earlier_writes.result c.parts.ensures.sound c.earlier_writes.ensures.moves.moved

pub returns-in-EarlierWrites-clause-still : goal.returns-in-EarlierWrites-clause-still
returns-in-EarlierWrites-clause-still g c = all_still g.S.LineStore _ _ _ _ c.earlier_writes.result c.earlier_writes.ensures.moves.moved

pub returns-in-LaterWrites-clause-gone : goal.returns-in-LaterWrites-clause-gone
returns-in-LaterWrites-clause-gone g c = all_gone g.S.LineStore _ _ _ _ c.later_writes.result c.parts.ensures.sound c.later_writes.ensures.moves.moved

pub returns-in-LaterWrites-clause-still : goal.returns-in-LaterWrites-clause-still
returns-in-LaterWrites-clause-still g c = all_still g.S.LineStore _ _ _ _ c.later_writes.result c.later_writes.ensures.moves.moved

pub returns-in-EarlierWrites-clause-goal : goal.returns-in-EarlierWrites-clause-goal
returns-in-EarlierWrites-clause-goal g c =
    let by = c.in-EarlierWrites.by in
    reached c.args.history.now c.earlier_writes.result (IsEarlierWrite c.args.history.now by) c.in-EarlierWrites.is
    (λ n is. at_earlier_write c.args.history.now by n c.parts.ensures.sound is) c.earlier_writes.ensures.goal

pub returns-in-EarlierWrites-clause-err : goal.returns-in-EarlierWrites-clause-err
returns-in-EarlierWrites-clause-err g c =
    let by = c.in-EarlierWrites.by in
    why c.args.history.now c.earlier_writes.result AtOldest (IsAtOldestWrite c.args.history.now by) c.in-EarlierWrites.is
    (at_oldest_write c.args.history.now by c.parts.ensures.sound) c.earlier_writes.ensures.err

pub returns-in-LaterWrites-clause-goal : goal.returns-in-LaterWrites-clause-goal
returns-in-LaterWrites-clause-goal g c =
    let by = c.in-LaterWrites.by in
    reached c.args.history.now c.later_writes.result (IsLaterWrite c.args.history.now by) c.in-LaterWrites.is
    (λ n is. at_later_write c.args.history.now by n c.parts.ensures.sound is) c.later_writes.ensures.goal

pub returns-in-LaterWrites-clause-err : goal.returns-in-LaterWrites-clause-err
returns-in-LaterWrites-clause-err g c =
    let by = c.in-LaterWrites.by in
    why c.args.history.now c.later_writes.result AtNewest (IsAtNewestWrite c.args.history.now by) c.in-LaterWrites.is
    (at_newest_write c.args.history.now by c.parts.ensures.sound) c.later_writes.ensures.err

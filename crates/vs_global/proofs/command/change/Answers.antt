-- The store is only read, and its text is the one that is seen while no line is held.
use Rattle.std.proofs.Common.{sym}
use Rattle.std.proofs.lemmas.Result.{IfOk-weaker}
use Rattle.vs_gap.specs.Held.{shown}
use Rattle.vs_global.proofs.GlobalLemmas.{allows-same, lent-back}
use Rattle.vs_global.proofs.command.change.Goals as goal

pub returns-clause-answers : goal.returns-clause-answers
returns-clause-answers g c = λ text marks has are size. c.change_all.ensures.answers text marks (c.over-present.ensures.shows.text text has) are size

pub returns-clause-allowed : goal.returns-clause-allowed
returns-clause-allowed g c =
    let below = (g.S.LineStore.shows c.args.view.now).present in
    IfOk-weaker c.change_all.result _ _
    (λ plan allows. allows-same (shown below c.over-present.result) below plan c.over-present.ensures.only.lines c.over-present.ensures.shows.text allows)
    c.change_all.ensures.allowed

pub returns-clause-kept : goal.returns-clause-kept
returns-clause-kept g c =
    let kept = c.change_all.ensures.kept in
    let now = c.change_all.new.view.below.now in
    lent-back g.S.LineStore c.args.view.now now _ (c.view-1.given.1 (sym kept.stays.0)) kept.valid.0 kept.stays.1 kept.stays.3

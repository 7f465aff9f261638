-- Each step holds more.
use Rattle.std.proofs.Common.{ℕ, List, ap, arith, length}
use Rattle.vs_gap.proofs.HeldLemmas.{more-before, more-more, more-same, more-seated}
use Rattle.vs_gap.proofs.held.hold.Goals as goal

pub returns-in_err-hold_from-clause-more : goal.returns-in_err-hold_from-clause-more
returns-in_err-hold_from-clause-more g c =
    let below = (g.S.LineStore.shows c.args.below.now).present in
    let first = c.args.held.now in
    let seated = c.seat.new.held in
    let lines = c.seat.ensures.lines in
    more-more below first seated c.hold_from.new.held
    (more-seated below first seated c.args.top lines.0 lines.1 lines.2 c.requires.within
    (λ none empty. omega (arith, c.requires.reaches, none, ap (λ (xs : List (List ℕ)). length xs) empty)) c.seat.ensures.place) c.hold_from.ensures.more

pub returns-in_err-hold_to-clause-more : goal.returns-in_err-hold_to-clause-more
returns-in_err-hold_to-clause-more g c =
    let below = (g.S.LineStore.shows c.args.below.now).present in
    let first = c.args.held.now in
    let seated = c.seat.new.held in
    let from = c.hold_from.new.held in
    let to = c.hold_to.new.held in
    let lines = c.seat.ensures.lines in
    more-more below first seated to
    (more-seated below first seated c.args.top lines.0 lines.1 lines.2 c.requires.within
    (λ none empty. omega (arith, c.requires.reaches, none, ap (λ (xs : List (List ℕ)). length xs) empty)) c.seat.ensures.place)
    (more-more below seated from to c.in_ok-hold_from.ensures.more
    (more-before below (g.S.LineStore.shows c.hold_from.new.below).present from to c.in_ok-hold_from.ensures.kept.present c.hold_to.ensures.more))

pub returns-in_err-reach-clause-more : goal.returns-in_err-reach-clause-more
returns-in_err-reach-clause-more g c =
    let below = (g.S.LineStore.shows c.args.below.now).present in
    let first = c.args.held.now in
    let seated = c.seat.new.held in
    let from = c.hold_from.new.held in
    let to = c.hold_to.new.held in
    let lines = c.seat.ensures.lines in
    more-same below first to c.reach.new.self c.reach.ensures
    (more-more below first seated to
    (more-seated below first seated c.args.top lines.0 lines.1 lines.2 c.requires.within
    (λ none empty. omega (arith, c.requires.reaches, none, ap (λ (xs : List (List ℕ)). length xs) empty)) c.seat.ensures.place)
    (more-more below seated from to c.in_ok-hold_from.ensures.more
    (more-before below (g.S.LineStore.shows c.hold_from.new.below).present from to c.in_ok-hold_from.ensures.kept.present c.in_ok-hold_to.ensures.more)))

pub returns-clause-more : goal.returns-clause-more
returns-clause-more g c =
    let below = (g.S.LineStore.shows c.args.below.now).present in
    let first = c.args.held.now in
    let seated = c.seat.new.held in
    let from = c.hold_from.new.held in
    let to = c.hold_to.new.held in
    let lines = c.seat.ensures.lines in
    more-same below first to c.reach.new.self c.reach.ensures
    (more-more below first seated to
    (more-seated below first seated c.args.top lines.0 lines.1 lines.2 c.requires.within
    (λ none empty. omega (arith, c.requires.reaches, none, ap (λ (xs : List (List ℕ)). length xs) empty)) c.seat.ensures.place)
    (more-more below seated from to c.in_ok-hold_from.ensures.more
    (more-before below (g.S.LineStore.shows c.hold_from.new.below).present from to c.in_ok-hold_from.ensures.kept.present c.in_ok-hold_to.ensures.more)))

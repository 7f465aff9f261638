-- A change that does not fit bars the path, and the lesser one stays known.
use Rattle.std.proofs.Common.{Some, ℕ, List, ◌+◌, length, refl, subst, reverse, take, arith}
use Rattle.vs_outward.specs.Trails.{HasBegun, IsBarredBy, IsTried}
use Rattle.vs_outward.proofs.LedLemmas.{if_some}
use Rattle.vs_outward.proofs.TriedLemmas.{misfit_less, misfit_of, settled_less, tried_any, tried_less}
use Rattle.vs_outward.proofs.TurnLemmas.{barred_cut, led_part, tried_behind}
use Rattle.vs_outward.proofs.fitting.try_path.Goals as goal

pub returns-then-len-kept-clause-tried : goal.returns-then-len-kept-clause-tried
returns-then-len-kept-clause-tried g c = λ first at.
    let search = c.args.search.now in
    tried_behind g.S.LineStore c.args.parts.now.nodes first search.path.items (length search.trail.items + 1) search.least (at.barred (omega (arith, c.if-len-kept.true, c.len.ensures)))

pub returns-in-Some-clause-search : goal.returns-in-Some-clause-search
returns-in-Some-clause-search g c = λ first at.
    let parts = c.args.parts.now in
    let tree = c.requires.sound.tree in
    let number = c.in-Some.number in
    let old = c.args.search.now.least in
    let path = c.args.search.now.path.items in
    let walked = c.in_ok-number.ensures in
    let trail = c.walk_in.new.trail.items in
    let whole = c.deref.ensures.value in
    let bar = subst (λ xs. (text : List (List ℕ)) → (g.S.LineStore.shows first).present.Is text → IsBarredBy parts.nodes (reverse (take (length trail + 1) xs)) text number) whole
    (if_some _ number _ c.in-Some.is walked.barred first at.on) in
    led_part g.S.LineStore parts first c.walk_in.new.store _ c.lesser.result number (walked.on first at.on) (subst (HasBegun trail) whole walked.begun) refl c.lesser.ensures.le bar
    (misfit_less parts tree g.S.LineStore first old number c.lesser.result c.lesser.ensures.one at.misfit
    (λ text has. misfit_of parts tree (reverse path) c.requires.outward.0 text number c.requires.outward.1 (barred_cut parts.nodes path (length trail + 1) text number (bar text has))))

pub returns-in-Some-clause-tried : goal.returns-in-Some-clause-tried
returns-in-Some-clause-tried g c = λ first at.
    let nodes = c.args.parts.now.nodes in
    let path = reverse c.args.search.now.path.items in
    tried_less g.S.LineStore nodes first path (Some c.in-Some.number) c.lesser.result c.lesser.ensures.le
    (subst (λ o. IsTried g.S.LineStore nodes first o path) c.in-Some.is (subst (λ xs. IsTried g.S.LineStore nodes first c.in_ok-number.field-0 (reverse xs)) c.deref.ensures.value (c.in_ok-number.ensures.tried first at.on)))

pub returns-in_default-clause-tried : goal.returns-in_default-clause-tried
returns-in_default-clause-tried g c = λ first at.
    let nodes = c.args.parts.now.nodes in
    let path = reverse c.args.search.now.path.items in
    tried_any g.S.LineStore nodes first path c.args.search.now.least
    (subst (λ o. IsTried g.S.LineStore nodes first o path) c.in_default.is (subst (λ xs. IsTried g.S.LineStore nodes first c.in_ok-number.field-0 (reverse xs)) c.deref.ensures.value (c.in_ok-number.ensures.tried first at.on)))

pub returns-in-Some-clause-known : goal.returns-in-Some-clause-known
returns-in-Some-clause-known g c = λ first state at.
    settled_less c.args.parts.now c.requires.sound.tree g.S.LineStore first c.args.search.now.least c.lesser.result state c.lesser.ensures.least at

use Rattle.std.proofs.Common.{◌≡◌, ◌+◌, ◌-◌, ◌∙◌, ◌++◌, ◌∷◌, [], Ok, length, map, refl, ap, arith}
use Rattle.std.specs.Option.{option_map}
use Rattle.std.proofs.lemmas.Result.{err_from_is_err_and}
use Rattle.vs_ufile.specs.Changes.{placed_of}
use Rattle.vs_ufile.specs.Reading.{adding, change_or_end, changes}
use Rattle.vs_ufile.proofs.Loops.{until_on, until_ends, until_fails, until_done, adds, adds_none, adds_fails}
use Rattle.vs_ufile.proofs.changes.changes_at.Goals as goal

pub changes-init : goal.changes-init
unfolding changes
changes-init c =
    let whole : length c.args.bytes.now + 1 - 0 ≡ length c.args.bytes.now + 1 = omega arith in
    rw (c.new-all.ensures, whole) refl

pub returns-in_err-found : goal.returns-in_err-found
returns-in_err-found c =
    let p = err_from_is_err_and c.from_residual.result c.from_residual.ensures.1 in
    let stop = c.in_err-found.field-0.0 in
    let here = c.changes in
    let before = map placed_of here.all.placed.items in
    rw (p.1, p.2) (until_fails (adding (change_or_end c.args.heads)) stop (length c.args.bytes.now + 1) here.counter before here.rest.now (changes c.args.heads c.args.bytes.now) c.changes-test.true (adds_fails (change_or_end c.args.heads) stop before here.rest.now c.in_err-found.ensures.gives) here.invariant)

pub returns-in-None : goal.returns-in-None
returns-in-None c =
    let here = c.changes in
    let after = c.in_ok-found.after.now in
    let before = map placed_of here.all.placed.items in
    until_ends (adding (change_or_end c.args.heads)) (length c.args.bytes.now + 1) here.counter before here.rest.now after (changes c.args.heads c.args.bytes.now) c.changes-test.true (adds_none (change_or_end c.args.heads) before here.rest.now after (c.in_ok-found.ensures.gives ∙ ap (λ f. Ok (option_map placed_of f, after)) c.in-None.is)) here.invariant

pub changes-preserved : goal.changes-preserved
changes-preserved c =
    let here = c.changes in
    let after = c.in_ok-found.after.now in
    let before = map placed_of here.all.placed.items in
    let one = placed_of c.in-Some.change in
    rw c.in_ok-all-in-Some.ensures.added (until_on (adding (change_or_end c.args.heads)) (length c.args.bytes.now + 1) here.counter before (before ++ one ∷ []) here.rest.now after (changes c.args.heads c.args.bytes.now) c.changes-test.true (adds (change_or_end c.args.heads) before one here.rest.now after (c.in_ok-found.ensures.gives ∙ ap (λ f. Ok (option_map placed_of f, after)) c.in-Some.is)) here.invariant)

pub returns : goal.returns
returns c = rw c.refusal.ensures (until_done (adding (change_or_end c.args.heads)) (length c.args.bytes.now + 1) c.changes.counter (map placed_of c.changes.all.placed.items) c.changes.rest.now (changes c.args.heads c.args.bytes.now) c.changes-test.false c.changes.invariant)

use Rattle.std.proofs.Common.{◌≡◌, ◌+◌, ◌-◌, ◌∙◌, ◌++◌, ◌∷◌, [], Ok, length, unwrap_or, ap, refl, sym, arith}
use Rattle.std.proofs.lemmas.Result.{err_from_is_err_and}
use Rattle.vs_ufile.specs.Reading.{adding, items, next_option}
use Rattle.vs_ufile.proofs.Loops.{until_on, until_ends, until_fails, until_done, adds, adds_none, adds_fails, last_fails, last_gives, last_refuses, last_more}
use Rattle.vs_ufile.proofs.fields.options.Goals as goal

pub fields-init : goal.fields-init
fields-init c =
    let whole : length c.args.bytes.now + 1 - 0 ≡ length c.args.bytes.now + 1 = omega arith in
    ([], refl, rw whole refl)

pub returns-in_err-found : goal.returns-in_err-found
returns-in_err-found c =
    let p = err_from_is_err_and c.from_residual.result c.from_residual.ensures.1 in
    let stop = c.in_err-found.field-0.0 in
    let h = c.fields.invariant in
    rw (p.1, p.2) (last_fails stop c.args.bytes.now (until_fails (adding next_option) stop (length c.args.bytes.now + 1) c.fields.counter h.0 c.fields.rest.now (items next_option c.args.bytes.now) c.fields-test.true (adds_fails next_option stop h.0 c.fields.rest.now c.in_err-found.ensures) h.2))

pub returns-in-None : goal.returns-in-None
returns-in-None c =
    let h = c.fields.invariant in
    let after = c.in_ok-found.after.now in
    last_gives c.args.bytes.now h.0 after (until_ends (adding next_option) (length c.args.bytes.now + 1) c.fields.counter h.0 c.fields.rest.now after (items next_option c.args.bytes.now) c.fields-test.true (adds_none next_option h.0 c.fields.rest.now after (c.in_ok-found.ensures ∙ ap (λ f. Ok (f, after)) c.in-None.is)) h.2) ∙ ap (λ n. Ok (n, after)) (sym h.1)

pub fields-preserved : goal.fields-preserved
fields-preserved c =
    let h = c.fields.invariant in
    let after = c.in_ok-found.after.now in
    let found = c.in-Some.found in (
      h.0 ++ found ∷ [],
      c.unwrap_or-save.ensures ∙ ap (unwrap_or found) h.1 ∙ sym (last_more h.0 found),
      until_on (adding next_option) (length c.args.bytes.now + 1) c.fields.counter h.0 (h.0 ++ found ∷ []) c.fields.rest.now after (items next_option c.args.bytes.now) c.fields-test.true (adds next_option h.0 found c.fields.rest.now after (c.in_ok-found.ensures ∙ ap (λ f. Ok (f, after)) c.in-Some.is)) h.2,
    )

pub returns : goal.returns
returns c =
    let h = c.fields.invariant in
    rw c.refusal.ensures (last_refuses c.args.bytes.now _ (until_done (adding next_option) (length c.args.bytes.now + 1) c.fields.counter h.0 c.fields.rest.now (items next_option c.args.bytes.now) c.fields-test.false h.2))

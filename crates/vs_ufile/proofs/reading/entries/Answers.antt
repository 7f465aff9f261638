use Rattle.std.proofs.Common.{◌≡◌, ◌-◌, arith, ◌+◌, ◌∙◌, ◌++◌, ◌∷◌, [], Ok, length, map, refl, ap}
use Rattle.std.specs.Option.{option_map}
use Rattle.std.proofs.lemmas.List.{map_push}
use Rattle.std.proofs.lemmas.Result.{err_from_is_err_and}
use Rattle.vs_ufile.specs.Values.{entry_of}
use Rattle.vs_ufile.specs.Reading.{adding, entries, next_entry}
use Rattle.vs_ufile.proofs.Loops.{until_on, until_ends, until_fails, until_done, adds, adds_none, adds_fails}
use Rattle.vs_ufile.proofs.reading.entries.Goals as goal

pub entries-init : goal.entries-init
unfolding entries
entries-init c =
    let whole : length c.args.bytes.now + 1 - 0 ≡ length c.args.bytes.now + 1 = omega arith in
    rw (c.new-entries.ensures.items, whole) refl

pub returns-in_err-found : goal.returns-in_err-found
returns-in_err-found c =
    let p = err_from_is_err_and c.from_residual.result c.from_residual.ensures.1 in
    let stop = c.in_err-found.field-0.0 in
    let here = c.entries in
    rw (p.1, p.2) (until_fails (adding next_entry) stop (length c.args.bytes.now + 1) here.counter (map entry_of here.entries.items) here.rest.now (entries c.args.bytes.now) c.entries-test.true (adds_fails next_entry stop (map entry_of here.entries.items) here.rest.now c.in_err-found.ensures) here.invariant)

pub returns-in-None : goal.returns-in-None
returns-in-None c =
    let here = c.entries in
    let after = c.in_ok-found.after.now in
    until_ends (adding next_entry) (length c.args.bytes.now + 1) here.counter (map entry_of here.entries.items) here.rest.now after (entries c.args.bytes.now) c.entries-test.true (adds_none next_entry (map entry_of here.entries.items) here.rest.now after (c.in_ok-found.ensures ∙ ap (λ f. Ok (option_map entry_of f, after)) c.in-None.is)) here.invariant

pub entries-preserved : goal.entries-preserved
entries-preserved c =
    let here = c.entries in
    let after = c.in_ok-found.after.now in
    let entry = c.in-Some.entry in
    let e : map entry_of c.push.new.self.items ≡ map entry_of here.entries.items ++ entry_of entry ∷ [] = rw c.in_ok-push-in-Some.ensures.items (map_push _ here.entries.items entry) in
    rw e (until_on (adding next_entry) (length c.args.bytes.now + 1) here.counter (map entry_of here.entries.items) (map entry_of here.entries.items ++ entry_of entry ∷ []) here.rest.now after (entries c.args.bytes.now) c.entries-test.true (adds next_entry (map entry_of here.entries.items) (entry_of entry) here.rest.now after (c.in_ok-found.ensures ∙ ap (λ f. Ok (option_map entry_of f, after)) c.in-Some.is)) here.invariant)

pub returns : goal.returns
returns c = rw c.refusal.ensures (until_done (adding next_entry) (length c.args.bytes.now + 1) c.entries.counter (map entry_of c.entries.entries.items) c.entries.rest.now (entries c.args.bytes.now) c.entries-test.false c.entries.invariant)

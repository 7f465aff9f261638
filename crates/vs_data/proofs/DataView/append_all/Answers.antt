-- Each line is put in last; where the next one finds no room, or none ends in the bytes, the rest is left.
use Rattle.std.proofs.Common.{◌≡◌, ◌≢◌, ℕ, ◌+◌, ◌-◌, ◌≤◌, List, [], ◌∷◌, ◌++◌, length, take, drop, All, sym, ap, subst, ◌∙◌, arith, length-drop}
use Rattle.std.proofs.lemmas.Bool.Decides.{nat_tests}
use Rattle.std.proofs.lemmas.List.{length-take-le}
use Rattle.vs_data.specs.declared.DataView.{DataView}
use Rattle.vs_data.specs.Blocks.{free_space, headed}
use Rattle.vs_data.proofs.Appending.{end_cut, line_found, line_is, line_some, no_line, none_put, one_put}
use Rattle.vs_data.proofs.Reading.{has_view, view_bounds}
use Rattle.vs_data.proofs.DataView.append_all.Goals as goal

pub lines-init : goal.lines-init
lines-init c = none_put c.args.block.now c.args.self.now c.args.lines.now c.requires.view c.requires.places

pub returns-then-not-fits-clause-full : goal.returns-then-not-fits-clause-full
returns-then-not-fits-clause-full c = λ line rest is some.
    let wide : length line ≡ c.in-Some.end - c.lines.taken = line_is c.args.lines.now c.lines.taken line rest is c.in-Some.end c.in-Some.ensures.0 c.in-Some.ensures.1 some in
    grind (arith, nat_tests, wide, c.fits.ensures, c.if-not-fits.true)

pub append-requires-clause-header : goal.append-requires-clause-header
append-requires-clause-header c =
    let v = has_view c.args.block.now c.args.self.now (view_bounds c.args.block.now c.args.self.now c.requires.view) in
    let bounds = v.bounds in
    omega arith

pub append-requires-clause-end : goal.append-requires-clause-end
append-requires-clause-end c =
    let found = line_found c.args.lines.now c.lines.taken c.in-Some.end c.in-Some.ensures.0 c.in-Some.ensures.1 in
    found ∙ ap (λ (xs : List ℕ). xs ++ 0 ∷ []) (sym (end_cut _ _ found))

pub append-requires-clause-no_zero : goal.append-requires-clause-no_zero
append-requires-clause-no_zero c =
    let found = line_found c.args.lines.now c.lines.taken c.in-Some.end c.in-Some.ensures.0 c.in-Some.ensures.1 in
    subst (λ (xs : List ℕ). All (λ byte. byte ≢ 0) xs) (sym (end_cut _ _ found)) (line_some c.args.lines.now c.lines.taken c.in-Some.end c.in-Some.ensures.0)

pub lines-preserved : goal.lines-preserved
lines-preserved c =
    let bytes : List ℕ = c.args.lines.now in
    let taken : ℕ = c.lines.taken in
    let end : ℕ = c.in-Some.end in
    let first = c.in-Some.ensures.0 in
    let low : taken ≤ end = first.low in
    let high : end + 1 ≤ length bytes = omega (arith, first.high) in
    let ended : List ℕ = take (end + 1 - taken) (drop taken bytes) in
    let wide : length ended ≡ end + 1 - taken = length-take-le (end + 1 - taken) (drop taken bytes) (omega (arith, length-drop taken bytes)) in
    let found = line_found bytes taken end first c.in-Some.ensures.1 in
    let header = c.append.ensures.header in
    let room : end - taken + 5 ≤ free_space c.lines.self = grind (arith, nat_tests, c.fits.ensures, c.if-not-fits.false) in
    one_put c.args.block.now (headed c.lines.block c.lines.self) (headed c.append.new.block c.append.new.self) c.args.self.now c.lines.self bytes taken end c.lines.invariant first c.in-Some.ensures.1
    (take (length ended - 1) ended) (end_cut _ _ found) c.append.new.self (ap (λ (v : DataView). v.count) header)
    (omega (arith, ap (λ (v : DataView). v.text_start) header, wide, room, low)) (ap (λ (v : DataView). v.text_end) header)
    (record { is = c.append.ensures.view; lines = c.append.ensures.lines; marks = c.append.ensures.marks; frame = c.append.ensures.frame })

pub returns-clause-full : goal.returns-clause-full
returns-clause-full c = λ line rest is some. absurd (no_line c.args.lines.now c.lines.taken line rest is c.in_default.ensures)

-- The lines of the page are the first ones of the bytes, and the next line has no room behind them.
use Rattle.std.proofs.Common.{◌≡◌, ℕ, ◌-◌, ◌<◌, ◌≤◌, List, length, take, drop, sym, subst, arith, length-drop}
use Rattle.std.proofs.lemmas.List.{take_all}
use Rattle.vs_tree.specs.Appends.{IsFilled}
use Rattle.vs_tree.specs.Packed.{IsWhole}
use Rattle.vs_tree.specs.declared.append.Filled.{Filled}
use Rattle.vs_tree.proofs.Filling.{filled_front}
use Rattle.vs_tree.proofs.Packing.{both_ok, full_front, full_line}
use Rattle.vs_tree.proofs.append.fill_from.Goals as goal

rest_is : (bytes : List ℕ) (taken : ℕ) → take (length bytes - taken) (drop taken bytes) ≡ drop taken bytes
rest_is bytes taken = take_all (length bytes - taken) (drop taken bytes) (omega (arith, length-drop taken bytes))

pub returns-clause-filled : goal.returns-clause-filled
returns-clause-filled c =
    let within : c.min-count.result ≤ length c.args.bytes.now = omega arith in
    let some : 0 < c.in_ok-first.first.taken = omega arith in
    let bytes : List ℕ = c.args.bytes.now in
    let taken : ℕ = c.in_ok-first.first.taken in
    subst (λ (rest : List ℕ). IsFilled bytes c.in_ok-first.first.run rest) (sym (rest_is bytes taken))
    (filled_front bytes c.exchange_into.new.into c.min-count.result taken c.in_ok-first.first.run within c.exchange_into.ensures c.in_ok-first.ensures.first some)

pub returns-clause-full : goal.returns-clause-full
returns-clause-full c = λ whole.
    let within : c.min-count.result ≤ length c.args.bytes.now = omega arith in
    let page : c.min-count.result < length c.args.bytes.now → c.min-count.result ≡ 4096 = λ less. omega (arith, less) in
    let some : 0 < c.in_ok-first.first.taken = omega arith in
    let bytes : List ℕ = c.args.bytes.now in
    let taken : ℕ = c.in_ok-first.first.taken in
    let filled = filled_front bytes c.exchange_into.new.into c.min-count.result taken c.in_ok-first.first.run within c.exchange_into.ensures c.in_ok-first.ensures.first some in
    full_front bytes c.exchange_into.new.into c.min-count.result taken c.in_ok-first.first.run within page c.exchange_into.ensures c.in_ok-first.ensures.first _ (rest_is bytes taken)
    (subst (λ (rest : List ℕ). IsWhole rest) (sym (rest_is bytes taken)) (filled.whole whole))

pub returns-then-first-eq0-clause-full : goal.returns-then-first-eq0-clause-full
returns-then-first-eq0-clause-full c = both_ok c.fill_line.result _ _ _
    (λ (line : Filled) (filled : IsFilled c.args.bytes.now line.run line.rest.now) one whole.
    let within : c.min-count.result ≤ length c.args.bytes.now = omega arith in
    let page : c.min-count.result < length c.args.bytes.now → c.min-count.result ≡ 4096 = λ less. omega (arith, less) in
    full_line c.args.bytes.now c.exchange_into.new.into c.min-count.result c.in_ok-first.first.taken c.in_ok-first.first.run within page c.exchange_into.ensures c.in_ok-first.ensures.first
    filled.put line.rest.now line.run _ (omega arith) whole filled.lines filled.stored one)
    c.fill_line.ensures.filled c.fill_line.ensures.one

use Rattle.std.proofs.Common.{◌≡◌, ◌∙◌, sym, ap, arith, ◌+◌, drop, [], List, ℕ}
use Rattle.std.specs.Borrow.{Bor}
use Rattle.vs_exparse.specs.Table.{rows_of, no_clash}
use Rattle.vs_exparse.proofs.TableLemmas.{clash-step, rows-end, rows-drop}
use Rattle.vs_exparse.proofs.table.all_clear.Goals as goal

-- the rows after one, as the two parts of the table have them
after : (names names' : List (Bor (List ℕ))) (shortest shortest' : List ℕ) (n : ℕ) → names' ≡ drop n names → shortest' ≡ drop n shortest →
    rows_of names' shortest' ≡ drop n (rows_of names shortest)
after names names' shortest shortest' n names_are shortest_are = rw (names_are, shortest_are) (sym (rows-drop n names shortest))

pub returns-then-not-clears : goal.returns-then-not-clears
returns-then-not-clears c =
    let d : Bor (List ℕ) = record { ref_ptr = (0, 0); now = [] } in
    let step = clash-step c.args.names.now c.args.shortest.now c.loop-i.i d (omega arith) c.requires in
    let rest = after c.args.names.now c.split_at.result.1.now c.args.shortest.now c.split_at-in-loop-i.result.1.now (c.loop-i.i + 1) c.split_at.ensures.back c.split_at-in-loop-i.ensures.back in
    let told = rw rest at c.clears.ensures in
    let miss = sym told ∙ c.if-not-clears.true in
    let found = rw miss at step in
    sym found ∙ c.loop-i.invariant

pub loop-i-preserved : goal.loop-i-preserved
loop-i-preserved c =
    let d : Bor (List ℕ) = record { ref_ptr = (0, 0); now = [] } in
    let step = clash-step c.args.names.now c.args.shortest.now c.loop-i.i d (omega arith) c.requires in
    let rest = after c.args.names.now c.split_at.result.1.now c.args.shortest.now c.split_at-in-loop-i.result.1.now (c.loop-i.i + 1) c.split_at.ensures.back c.split_at-in-loop-i.ensures.back in
    let told = rw rest at c.clears.ensures in
    let hit = sym told ∙ c.if-not-clears.false in
    let more = rw hit at step in
    sym more ∙ c.loop-i.invariant

pub returns : goal.returns
returns c = sym (ap no_clash (rows-end c.args.names.now c.args.shortest.now c.loop-i.i (omega arith) c.requires)) ∙ c.loop-i.invariant

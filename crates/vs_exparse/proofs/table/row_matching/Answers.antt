use Rattle.std.proofs.Common.{◌∙◌, sym, List, arith}
use Rattle.std.proofs.Common.{[], ℕ}
use Rattle.std.specs.Borrow.{Bor}
use Rattle.vs_exparse.specs.Table.{rows_of, matches}
use Rattle.vs_exparse.proofs.TableLemmas.{position-step, position-end, position-start}
use Rattle.vs_exparse.proofs.table.row_matching.Goals as goal

pub returns-then-matches : goal.returns-then-matches
returns-then-matches c =
    let d : Bor (List ℕ) = record { ref_ptr = (0, 0); now = [] } in
    let step = position-step (matches c.args.word.now) c.args.names.now c.args.shortest.now c.loop-i.i d (omega arith) c.requires in
    let hit = sym c.matches.ensures ∙ c.if-matches.true in
    let found = rw hit at step in
    sym found ∙ c.loop-i.invariant ∙ position-start (matches c.args.word.now) (rows_of c.args.names.now c.args.shortest.now)

pub loop-i-preserved : goal.loop-i-preserved
loop-i-preserved c =
    let d : Bor (List ℕ) = record { ref_ptr = (0, 0); now = [] } in
    let step = position-step (matches c.args.word.now) c.args.names.now c.args.shortest.now c.loop-i.i d (omega arith) c.requires in
    let miss = sym c.matches.ensures ∙ c.if-matches.false in
    let more = rw miss at step in
    sym more ∙ c.loop-i.invariant

pub returns : goal.returns
returns c =
    sym (position-end (matches c.args.word.now) c.args.names.now c.args.shortest.now c.loop-i.i (omega arith) c.requires) ∙ c.loop-i.invariant
    ∙ position-start (matches c.args.word.now) (rows_of c.args.names.now c.args.shortest.now)

use Rattle.std.proofs.Common.{◌∙◌, sym, ap, arith, [], List, ℕ}
use Rattle.std.specs.List.{list_all}
use Rattle.std.specs.Borrow.{Bor}
use Rattle.vs_exparse.specs.Table.{tells_apart}
use Rattle.vs_exparse.proofs.TableLemmas.{clear-step, rows-end}
use Rattle.vs_exparse.proofs.table.clears.Goals as goal

pub returns-then-not-tells_apart : goal.returns-then-not-tells_apart
returns-then-not-tells_apart c =
    let d : Bor (List ℕ) = record { ref_ptr = (0, 0); now = [] } in
    let step = clear-step (tells_apart (c.args.name.now, c.args.own)) c.args.names.now c.args.shortest.now c.loop-i.i d (omega arith) c.requires in
    let miss = sym c.tells_apart.ensures ∙ c.if-not-tells_apart.true in
    let found = rw miss at step in
    sym found ∙ c.loop-i.invariant

pub loop-i-preserved : goal.loop-i-preserved
loop-i-preserved c =
    let d : Bor (List ℕ) = record { ref_ptr = (0, 0); now = [] } in
    let step = clear-step (tells_apart (c.args.name.now, c.args.own)) c.args.names.now c.args.shortest.now c.loop-i.i d (omega arith) c.requires in
    let hit = sym c.tells_apart.ensures ∙ c.if-not-tells_apart.false in
    let more = rw hit at step in
    sym more ∙ c.loop-i.invariant

pub returns : goal.returns
returns c =
    sym (ap (list_all (tells_apart (c.args.name.now, c.args.own))) (rows-end c.args.names.now c.args.shortest.now c.loop-i.i (omega arith) c.requires)) ∙ c.loop-i.invariant

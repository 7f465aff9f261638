-- The header is written once, after all lines.
use Rattle.std.proofs.Common.{ℕ, List, sym, subst, arith}
use Rattle.vs_data.specs.Blocks.{PutsLast}
use Rattle.vs_data.proofs.Reading.{has_view, view_bounds}
use Rattle.vs_data.proofs.DataView.append_ended.Goals as goal

pub write_header-requires : goal.write_header-requires
write_header-requires c =
    let v = has_view c.args.block.now c.args.self.now (view_bounds c.args.block.now c.args.self.now c.requires.view) in
    let bounds = v.bounds in
    omega arith

pub returns-clause-put : goal.returns-clause-put
returns-clause-put c =
    subst (λ (xs : List ℕ). PutsLast c.args.block.now xs c.args.self.now c.append_all-taken.new.self c.args.lines.now c.append_all-taken.result) (sym c.write_header.ensures) c.append_all-taken.ensures.put

-- Only bytes between the index and the text change.
use Rattle.std.proofs.Common.{◌≡◌, ◌+◌, ◌-◌, ◌*◌, ℕ, List, length, replicate, ap, ◌∙◌, arith}
use Rattle.std.proofs.lemmas.List.{length-replicate}
use Rattle.vs_bytes.specs.Fields.{with_field}
use Rattle.vs_data.specs.declared.DataView.{DataView}
use Rattle.vs_data.specs.Blocks.{free_space}
use Rattle.vs_data.proofs.Keeping.{gap_changed, kept_lines, kept_view}
use Rattle.vs_data.proofs.Moves.{Keeps, kept_by_write}
use Rattle.vs_data.proofs.Reading.{has_view, view_bounds}
use Rattle.vs_data.proofs.DataView.clear_free.Goals as goal

pub clear_bytes-requires-clause-order : goal.clear_bytes-requires-clause-order
clear_bytes-requires-clause-order c =
    let v = has_view c.args.block.now c.args.self.now (view_bounds c.args.block.now c.args.self.now c.requires) in
    let bounds = v.bounds in
    omega arith

pub clear_bytes-requires-clause-within : goal.clear_bytes-requires-clause-within
clear_bytes-requires-clause-within c =
    let v = has_view c.args.block.now c.args.self.now (view_bounds c.args.block.now c.args.self.now c.requires) in
    let bounds = v.bounds in
    omega arith

pub returns : goal.returns
returns c =
    let block : List ℕ = c.args.block.now in
    let view : DataView = c.args.self.now in
    let v = has_view block view (view_bounds block view c.requires) in
    let bounds = v.bounds in
    let place : ℕ = 24 + 4 * view.count in
    let zeros : List ℕ = replicate (free_space view) 0 in
    let wide : length zeros ≡ free_space view = length-replicate (free_space view) 0 in
    let bytes : c.clear_bytes.new.block ≡ with_field block place zeros =
    c.clear_bytes.ensures ∙ ap (λ (n : ℕ). with_field block n (replicate (view.text_start - n) 0)) c.entry_place.ensures in
    let keeps : Keeps block c.clear_bytes.new.block place view.text_start = rw bytes (kept_by_write block place zeros place view.text_start (omega arith) (omega arith) (omega arith)) in
    let same = gap_changed block c.clear_bytes.new.block view c.requires keeps in
    record {
      view = kept_view block c.clear_bytes.new.block view c.requires same;
      lines = kept_lines block c.clear_bytes.new.block view c.requires same;
      bytes = bytes;
    }

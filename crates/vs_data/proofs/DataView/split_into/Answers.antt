-- The block keeps its first lines under a new header; the other block is made by `copy_rest`.
use Rattle.std.proofs.Common.{◌≡◌, ◌<◌, ◌≤◌, ◌^◌, ℕ, List, length, Ok, refl, arith}
use Rattle.vs_bytes.specs.Fields.{with_field}
use Rattle.vs_data.specs.declared.DataView.{DataView}
use Rattle.vs_data.specs.Blocks.{end_at, header_of, view_in}
use Rattle.vs_data.proofs.Headers.{header_written}
use Rattle.vs_data.proofs.Reading.{has_view, view_bounds, view_holds}
use Rattle.vs_data.proofs.Splitting.{FirstLines, first_frame, first_is, first_lines, first_marks}
use Rattle.vs_data.proofs.DataView.split_into.Goals as goal

abbrev after_view : DataView → ℕ → ℕ → DataView
after_view view from end = record { count = from; text_start = end; text_end = view.text_end }

kept : (old new : List ℕ) (view : DataView) (from end : ℕ) → view_in old ≡ Ok view → from ≤ view.count → from < 2 ^ 32 → end < 2 ^ 32 → length old ≤ 1100000
    → end ≡ end_at old from → new ≡ with_field old 4 (header_of (after_view view from end)) → FirstLines old new (after_view view from end) from
kept old new view from end e within from_fits end_fits limit end_is new_is =
    let v = has_view old view (view_bounds old view e) in
    let bounds = v.bounds in
    record {
      block = (view_holds old view e).0;
      within = omega arith;
      header = rw new_is (header_written old (after_view view from end) (omega arith) from_fits end_fits (omega arith));
      count = refl;
      start = end_is;
      end = v.end;
    }

pub end-end-requires-clause-view : goal.end-end-requires-clause-view
end-end-requires-clause-view c = view_bounds c.args.block.now c.args.self.now c.requires.view

pub returns-clause-view : goal.returns-clause-view
returns-clause-view c =
    let has = kept c.args.block.now c.write_header.new.block c.args.self.now c.args.from c.end-end.result c.requires.view c.requires.from (omega arith) (omega arith) c.requires.length.limit c.end-end.ensures c.write_header.ensures in
    first_is c.args.block.now c.write_header.new.block (after_view c.args.self.now c.args.from c.end-end.result) c.args.from has

pub returns-clause-lines : goal.returns-clause-lines
returns-clause-lines c =
    let has = kept c.args.block.now c.write_header.new.block c.args.self.now c.args.from c.end-end.result c.requires.view c.requires.from (omega arith) (omega arith) c.requires.length.limit c.end-end.ensures c.write_header.ensures in
    first_lines c.args.block.now c.write_header.new.block (after_view c.args.self.now c.args.from c.end-end.result) c.args.from has c.args.self.now c.requires.view

pub returns-clause-marks : goal.returns-clause-marks
returns-clause-marks c =
    let has = kept c.args.block.now c.write_header.new.block c.args.self.now c.args.from c.end-end.result c.requires.view c.requires.from (omega arith) (omega arith) c.requires.length.limit c.end-end.ensures c.write_header.ensures in
    first_marks c.args.block.now c.write_header.new.block (after_view c.args.self.now c.args.from c.end-end.result) c.args.from has

pub returns-clause-frame : goal.returns-clause-frame
returns-clause-frame c =
    let has = kept c.args.block.now c.write_header.new.block c.args.self.now c.args.from c.end-end.result c.requires.view c.requires.from (omega arith) (omega arith) c.requires.length.limit c.end-end.ensures c.write_header.ensures in
    first_frame c.args.block.now c.write_header.new.block (after_view c.args.self.now c.args.from c.end-end.result) c.args.from has

use Rattle.std.proofs.Common.{ℕ, List, arith, refl, sym, ap, ◌∙◌, Option, Some, ◌≡◌, ◌/◌, length}
use Rattle.vs_tree_shape.specs.declared.entries.Entry.{Entry}
use Rattle.vs_swap.specs.Files.{pages_in, swap_format}
use Rattle.vs_recover.specs.Files.{plain}
use Rattle.vs_recover.specs.Levels.{chained, lines_at}
use Rattle.vs_recover.proofs.PageLaws.{extends_none, extends_some}
use Rattle.vs_recover.proofs.ChainLaws.{chain_stops, chain_add, chain_ends, plain_chain}
use Rattle.vs_recover.proofs.MarkLaws.{wide_at}
use Rattle.vs_recover.proofs.ReadingLaws.{file_stays, reads_none, reads_ok, reads_passed, reads_then, there_stays}
use Rattle.vs_recover.proofs.levels.gather_level.Goals as goal

pub returns-then-not-branch-clause-value : goal.returns-then-not-branch-clause-value
returns-then-not-branch-clause-value g c = λ file is.
    let d : Entry = record { block = 0; pages = 0; lines = 0 } in
    let f : Entry → Option (List (List ℕ)) = λ e. plain (lines_at swap_format (pages_in file) e) in
    let none = extends_none _ _ _ _ c.if-not-branch.true (c.in_ok-load_lines.ensures.value file (file_stays c.loop-entry.invariant.reading is)) in
    ap (λ o. chained (Some c.args.first.text) o) (sym (plain_chain (λ (e : Entry). lines_at swap_format (pages_in file) e) c.args.others.now))
    ∙ chain_stops f c.args.first.text c.args.others.now c.loop-entry.entry-index d c.loop-entry.lines.text (omega arith) none (c.loop-entry.invariant.so file is)

pub loop-entry-preserved : goal.loop-entry-preserved
loop-entry-preserved g c = record {
  so = λ file is.
      let d : Entry = record { block = 0; pages = 0; lines = 0 } in
      let f : Entry → Option (List (List ℕ)) = λ e. plain (lines_at swap_format (pages_in file) e) in
      let some = extends_some _ _ _ _ c.if-not-branch.false (c.in_ok-load_lines.ensures.value file (file_stays c.loop-entry.invariant.reading is)) in
      chain_add f c.args.first.text c.args.others.now c.loop-entry.entry-index d c.loop-entry.lines.text c.load_lines.new.lines.text (omega arith) some (c.loop-entry.invariant.so file is);
  format = c.load_lines.ensures.format ∙ c.loop-entry.invariant.format;
  reading = reads_ok (omega arith) (reads_then c.loop-entry.invariant.reading c.in_ok-load_lines.ensures.reading);
}

pub returns-clause-value : goal.returns-clause-value
returns-clause-value g c = λ file is.
    let f : Entry → Option (List (List ℕ)) = λ e. plain (lines_at swap_format (pages_in file) e) in
    ap (λ o. chained (Some c.args.first.text) o) (sym (plain_chain (λ (e : Entry). lines_at swap_format (pages_in file) e) c.args.others.now))
    ∙ chain_ends f c.args.first.text c.args.others.now c.loop-entry.entry-index c.loop-entry.lines.text (omega arith) (c.loop-entry.invariant.so file is)

pub loop-entry-init : goal.loop-entry-init
loop-entry-init g c = record {
  so = λ file is. refl;
  format = refl;
  reading = reads_none g.F.World.tells (λ is. cc);
}

pub load_lines-requires : goal.load_lines-requires
load_lines-requires g c = record {
  some = wide_at c.args.others.now c.loop-entry.entry-index (record { block = 0; pages = 0; lines = 0 }) (omega arith) c.requires.wide;
  bound = c.requires.bound;
  count = there_stays c.loop-entry.invariant.reading c.args.name.now (λ file. c.args.count ≡ length file / 4096) c.requires.count;
}

pub returns-in_err-load_lines-clause-reading : goal.returns-in_err-load_lines-clause-reading
returns-in_err-load_lines-clause-reading g c = reads_passed c.in_err-load_lines.was c.from_residual.ensures.1 (omega arith) (reads_then c.loop-entry.invariant.reading c.load_lines.ensures.reading)

pub returns-then-not-branch-clause-reading : goal.returns-then-not-branch-clause-reading
returns-then-not-branch-clause-reading g c = reads_ok (omega arith) (reads_then c.loop-entry.invariant.reading c.in_ok-load_lines.ensures.reading)

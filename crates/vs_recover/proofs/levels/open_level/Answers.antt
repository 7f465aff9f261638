use Rattle.std.proofs.Common.{◌≡◌, ◌+◌, ◌++◌, ◌/◌, List, length, arith, ap, sym, subst, refl, ◌∙◌, Option, Some, length-append}
use Rattle.vs_tree_shape.specs.declared.entries.Entry.{Entry}
use Rattle.vs_swap.specs.Files.{pages_in, swap_format}
use Rattle.vs_recover.specs.Levels.{are_wide, opened, points_at, taken}
use Rattle.vs_recover.specs.Marks.{used_in}
use Rattle.vs_recover.proofs.PageLaws.{gives_none, gives_list, if_some}
use Rattle.vs_recover.proofs.ChainLaws.{So, chain_stops, chain_more, chain_ends, no_clash, clash_first, clash_one, taken-append, wide-append}
use Rattle.vs_recover.proofs.MarkLaws.{wide_at}
use Rattle.vs_recover.proofs.ReadingLaws.{file_stays, no_memory, reads_ended, reads_none, reads_ok, reads_passed, reads_then, there_stays}
use Rattle.vs_recover.proofs.levels.open_level.Goals as goal

pub returns-then-not-mark_all-clause-clash : goal.returns-then-not-mark_all-clause-clash
returns-then-not-mark_all-clause-clash g c = λ file is.
    let found = c.if-not-mark_all.ensures.clash refl in
    clash_first c.args.points.items (opened swap_format (pages_in file) c.args.others.now) (λ k. used_in c.args.marks.now k)
    (found.0, omega (arith, found.1, ap (λ es. taken es found.0) c.deref.ensures.value))

pub loop-entry-init : goal.loop-entry-init
loop-entry-init g c = record {
  so = λ file is. refl;
  marked = record {
    used = λ k. c.if-not-mark_all.ensures.used refl k ∙ ap (λ es. used_in c.args.marks.now k + taken es k) c.deref.ensures.value;
    free = omega (arith, c.if-not-mark_all.ensures.free refl, ap length c.deref.ensures.value);
    wide = c.requires.points;
  };
  reading = reads_none g.F.World.tells (λ is. cc);
}

pub load_points-requires : goal.load_points-requires
load_points-requires g c = record {
  some = wide_at c.args.others.now c.loop-entry.entry-index (record { block = 0; pages = 0; lines = 0 }) (omega arith) c.requires.wide;
  bound = c.requires.bound;
  count = there_stays c.loop-entry.invariant.reading c.args.name.now (λ file. c.args.count ≡ length file / 4096) c.requires.count;
}

pub returns-in_default-clause-clash : goal.returns-in_default-clause-clash
returns-in_default-clause-clash g c = λ file is.
    let d : Entry = record { block = 0; pages = 0; lines = 0 } in
    let f : Entry → Option (List Entry) = λ e. points_at swap_format (pages_in file) e in
    let none = gives_none _ _ c.in_default.is (c.in_ok-found.ensures.value file (file_stays c.loop-entry.invariant.reading is)) in
    no_clash _ _ (chain_stops f c.args.points.items c.args.others.now c.loop-entry.entry-index d c.loop-entry.next.items (omega arith) none (c.loop-entry.invariant.so file is))

pub returns-then-not-mark_all-2-clause-clash : goal.returns-then-not-mark_all-2-clause-clash
returns-then-not-mark_all-2-clause-clash g c = λ file is.
    let d : Entry = record { block = 0; pages = 0; lines = 0 } in
    let f : Entry → Option (List Entry) = λ e. points_at swap_format (pages_in file) e in
    let some = gives_list _ _ _ c.in-Some.is (c.in_ok-found.ensures.value file (file_stays c.loop-entry.invariant.reading is)) in
    clash_one f c.args.points.items c.args.others.now c.loop-entry.entry-index d c.loop-entry.next.items c.deref-in-loop-entry.result.now (λ k. used_in c.args.marks.now k) (λ k. used_in c.loop-entry.marks k) (omega arith)
    (some ∙ ap (λ (es : List Entry). Some es) (sym c.deref-in-loop-entry.ensures.value)) (c.loop-entry.invariant.so file is) (λ k. c.loop-entry.invariant.marked.used k) (c.if-not-mark_all-2.ensures.clash refl)

pub loop-entry-preserved : goal.loop-entry-preserved
loop-entry-preserved g c =
    let items : c.extend_from_slice.new.self.items ≡ c.loop-entry.next.items ++ c.in-Some.found.items = c.in_ok-extend_from_slice.ensures.items ∙ ap (λ es. c.loop-entry.next.items ++ es) c.deref-in-loop-entry-2.ensures.value in
    record {
      so = λ file is.
          let d : Entry = record { block = 0; pages = 0; lines = 0 } in
          let f : Entry → Option (List Entry) = λ e. points_at swap_format (pages_in file) e in
          let some = gives_list _ _ _ c.in-Some.is (c.in_ok-found.ensures.value file (file_stays c.loop-entry.invariant.reading is)) in
          subst (λ es. So f c.args.points.items c.args.others.now (c.loop-entry.entry-index + 1) es) (sym items)
          (chain_more f c.args.points.items c.args.others.now c.loop-entry.entry-index d c.loop-entry.next.items c.in-Some.found.items (omega arith) some (c.loop-entry.invariant.so file is));
      marked = record {
        used = λ k. omega (arith, c.if-not-mark_all-2.ensures.used refl k, c.loop-entry.invariant.marked.used k, ap (λ es. taken es k) c.deref-in-loop-entry.ensures.value, ap (λ es. taken es k) items, taken-append c.loop-entry.next.items c.in-Some.found.items k);
        free = omega (arith, c.if-not-mark_all-2.ensures.free refl, c.loop-entry.invariant.marked.free, ap length c.deref-in-loop-entry.ensures.value, ap length items, length-append c.loop-entry.next.items c.in-Some.found.items);
        wide = ap (λ es. are_wide es) items ∙ wide-append c.loop-entry.next.items c.in-Some.found.items c.loop-entry.invariant.marked.wide (if_some _ c.in-Some.found _ c.in-Some.is c.in_ok-found.ensures.wide);
      };
      reading = reads_ok (omega arith) (reads_then c.loop-entry.invariant.reading c.in_ok-found.ensures.reading);
    }

pub returns-clause-next : goal.returns-clause-next
returns-clause-next g c = λ file is.
    let f : Entry → Option (List Entry) = λ e. points_at swap_format (pages_in file) e in
    chain_ends f c.args.points.items c.args.others.now c.loop-entry.entry-index c.loop-entry.next.items (omega arith) (c.loop-entry.invariant.so file is)

pub returns-then-not-mark_all-clause-reading : goal.returns-then-not-mark_all-clause-reading
returns-then-not-mark_all-clause-reading g c = reads_none g.F.World.tells (λ is. cc)

pub returns-in_err-found-clause-reading : goal.returns-in_err-found-clause-reading
returns-in_err-found-clause-reading g c = reads_passed c.in_err-found.was c.from_residual.ensures.1 (omega arith) (reads_then c.loop-entry.invariant.reading c.load_points.ensures.reading)

pub returns-in_default-clause-reading : goal.returns-in_default-clause-reading
returns-in_default-clause-reading g c = reads_ok (omega arith) (reads_then c.loop-entry.invariant.reading c.in_ok-found.ensures.reading)

pub returns-then-not-mark_all-2-clause-reading : goal.returns-then-not-mark_all-2-clause-reading
returns-then-not-mark_all-2-clause-reading g c = reads_ok (omega arith) (reads_then c.loop-entry.invariant.reading c.in_ok-found.ensures.reading)

pub returns-in_err-extend_from_slice-clause-reading : goal.returns-in_err-extend_from_slice-clause-reading
returns-in_err-extend_from_slice-clause-reading g c = reads_ended (no_memory _ c.from_residual-in_err-extend_from_slice.ensures.1) (omega arith) (reads_then c.loop-entry.invariant.reading c.in_ok-found.ensures.reading)

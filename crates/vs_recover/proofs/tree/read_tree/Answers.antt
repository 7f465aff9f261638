use Rattle.std.proofs.Common.{◌≡◌, ◌+◌, ◌/◌, ◌∷◌, Some, None, length, arith, ap, sym, subst, refl, ◌∙◌}
use Rattle.std.proofs.lemmas.Option.{MatchOption-at_some}
use Rattle.vs_text.specs.Documents.{Document}
use Rattle.vs_tree_shape.specs.Trees.{read_by}
use Rattle.vs_swap.specs.Entries.{swap_points}
use Rattle.vs_swap.specs.Files.{pages_in, swap_format}
use Rattle.vs_recover.specs.declared.levels.Below.{Below}
use Rattle.vs_recover.specs.Files.{plain}
use Rattle.vs_recover.specs.Levels.{are_wide, taken, first_used, gathered, opened}
use Rattle.vs_recover.specs.Marks.{used_in}
use Rattle.vs_recover.specs.Walks.{FindsBelow}
use Rattle.vs_recover.proofs.MarkLaws.{used_most}
use Rattle.vs_recover.proofs.PageLaws.{pages_past, gives_none, gives_list, no_items}
use Rattle.vs_recover.proofs.StageLaws.{stage_begins, stage_next, stage_ends, stage_stops, stage_empty, no_root, no_wide_root, no_first}
use Rattle.vs_recover.proofs.WalkLaws.{found_at, marked_at, none_first}
use Rattle.vs_recover.proofs.ReadingLaws.{file_has, file_stays, reads_ended, reads_none, reads_ok, reads_passed, reads_then, there_stays}
use Rattle.vs_recover.proofs.tree.read_tree.Goals as goal

pub returns-then-count-lt2-clause-value : goal.returns-then-count-lt2-clause-value
returns-then-count-lt2-clause-value g c = λ file is lines reached.
    let n : c.args.count ≡ length file / 4096 = file_has _ _ _ file _ c.requires.count is in
    no_root (pages_in file) lines (ap (λ o. read_by swap_points o) (pages_past file 1 1 (omega arith) (omega (arith, n)))) reached

pub returns-in_default-clause-value : goal.returns-in_default-clause-value
returns-in_default-clause-value g c = λ file is lines reached.
    no_root (pages_in file) lines (gives_none _ _ c.in_default.is (c.in_ok-level.ensures.value file is)) reached

pub returns-then-not-are_wide-clause-value : goal.returns-then-not-are_wide-clause-value
returns-then-not-are_wide-clause-value g c = λ file is lines reached.
    let reads = gives_list _ _ c.in-Some.level c.in-Some.is (c.in_ok-level.ensures.value file is) in
    no_wide_root (pages_in file) lines c.in-Some.level.items reads (ap (λ es. are_wide es) (sym c.deref.ensures.value) ∙ sym c.if-not-are_wide.ensures) reached

pub returns-then-not-mark_all-clause-value : goal.returns-then-not-mark_all-clause-value
returns-then-not-mark_all-clause-value g c = λ file is lines reached.
    let reads = gives_list _ _ c.in-Some.level c.in-Some.is (c.in_ok-level.ensures.value file is) in
    let found = c.if-not-mark_all.ensures.clash refl in
    no_first file c.args.count c.in-Some.level.items lines (file_has _ _ _ file _ c.requires.count is) reads (found.0, omega (arith, found.1, c.in_ok-marks.ensures.used found.0, ap (λ es. taken es found.0) c.deref-2.ensures.value)) reached

pub levels-init : goal.levels-init
levels-init g c = record {
  stage = λ file is.
      let reads = gives_list _ _ c.in-Some.level c.in-Some.is (c.in_ok-level.ensures.value file is) in
      stage_begins file c.args.count _ c.in-Some.level.items (file_has _ _ _ file _ c.requires.count is) reads
      (λ k. c.if-not-mark_all.ensures.used refl k ∙ (ap (λ n. n + taken c.deref-2.result.now k) (c.in_ok-marks.ensures.used k) ∙ ap (λ es. first_used c.args.count k + taken es k) c.deref-2.ensures.value));
  wide = ap (λ es. are_wide es) (sym c.deref.ensures.value) ∙ sym c.if-not-are_wide.ensures;
  room = omega (arith, c.if-not-mark_all.ensures.free refl, c.in_ok-marks.ensures.free, ap length c.deref-2.ensures.value);
  reading = reads_ended (λ is. cc) (omega (arith, c.if-not-mark_all.ensures.free refl, c.in_ok-marks.ensures.free, ap length c.deref-2.ensures.value)) c.in_ok-level.ensures.reading;
}

pub read_level-requires : goal.read_level-requires
read_level-requires g c =
    let all = (MatchOption-at_some _ _ _ c.in-Some-split_first.is c.split_first.ensures.cases).0 in
    record {
      wide = ap (λ es. are_wide es) (sym all ∙ c.deref-in-levels.ensures.value) ∙ c.levels.invariant.wide;
      bound = c.requires.bound;
      count = there_stays c.levels.invariant.reading c.args.name.now (λ file. c.args.count ≡ length file / 4096) c.requires.count;
    }

pub levels-preserved : goal.levels-preserved
levels-preserved g c =
    let all = (MatchOption-at_some _ _ _ c.in-Some-split_first.is c.split_first.ensures.cases).0 in
    let level : c.in-Some-split_first.first.now ∷ c.in-Some-split_first.others.now ≡ c.levels.level.items = sym all ∙ c.deref-in-levels.ensures.value in
    let marked = marked_at _ _ _ c.in-Some-Entries.next (c.in-Some-Entries.is ∙ ap (λ (b : Below). Some b) c.in-Some-Entries.field-0-is) c.in_ok-next.ensures.marked in
    record {
      stage = λ file is.
          let here = file_stays c.levels.invariant.reading is in
          let found : opened swap_format (pages_in file) (c.in-Some-split_first.first.now ∷ c.in-Some-split_first.others.now) ≡ Some c.in-Some-Entries.next.items =
          found_at (pages_in file) (λ k. used_in c.levels.marks k) (c.in-Some-split_first.first.now ∷ c.in-Some-split_first.others.now) _ c.in-Some-Entries.next (c.in-Some-Entries.is ∙ ap (λ (b : Below). Some b) c.in-Some-Entries.field-0-is) (c.in_ok-next.ensures.found file here) in
          stage_next (pages_in file) (λ k. used_in c.levels.marks k) _ c.levels.level.items c.in-Some-Entries.next.items (λ k. marked.used k)
          (ap (λ es. opened swap_format (pages_in file) es) (sym level) ∙ found) (c.levels.invariant.stage file is);
      wide = marked.wide;
      room = omega (arith, c.levels.invariant.room, marked.free);
      reading = reads_ok (omega (arith, c.levels.invariant.room, marked.free, ap length level)) (reads_then c.levels.invariant.reading c.in_ok-next.ensures.reading);
    }

pub levels-smaller : goal.levels-smaller
levels-smaller g c =
    let all = (MatchOption-at_some _ _ _ c.in-Some-split_first.is c.split_first.ensures.cases).0 in
    let level : c.in-Some-split_first.first.now ∷ c.in-Some-split_first.others.now ≡ c.levels.level.items = sym all ∙ c.deref-in-levels.ensures.value in
    let marked = marked_at _ _ _ c.in-Some-Entries.next (c.in-Some-Entries.is ∙ ap (λ (b : Below). Some b) c.in-Some-Entries.field-0-is) c.in_ok-next.ensures.marked in
    omega (arith, marked.free, ap length level)

pub returns-in-Some-Lines-clause-value : goal.returns-in-Some-Lines-clause-value
returns-in-Some-Lines-clause-value g c = λ file is.
    let all = (MatchOption-at_some _ _ _ c.in-Some-split_first.is c.split_first.ensures.cases).0 in
    let level : c.in-Some-split_first.first.now ∷ c.in-Some-split_first.others.now ≡ c.levels.level.items = sym all ∙ c.deref-in-levels.ensures.value in
    let here = file_stays c.levels.invariant.reading is in
    let found = subst (λ o. FindsBelow (pages_in file) (λ k. used_in c.levels.marks k) (c.in-Some-split_first.first.now ∷ c.in-Some-split_first.others.now) o) (c.in-Some-Lines.is ∙ ap (λ (b : Below). Some b) c.in-Some-Lines.field-0-is) (c.in_ok-next.ensures.found file here) in
    stage_ends (pages_in file) (λ k. used_in c.levels.marks k) c.levels.level.items c.in-Some-Lines.lines (λ k. used_most c.levels.marks k) (c.levels.invariant.stage file is)
    (ap (λ es. plain (gathered swap_format (pages_in file) es)) (sym level) ∙ found)

pub returns-in-None-clause-value : goal.returns-in-None-clause-value
returns-in-None-clause-value g c = λ file is.
    let all = (MatchOption-at_some _ _ _ c.in-Some-split_first.is c.split_first.ensures.cases).0 in
    let level : c.in-Some-split_first.first.now ∷ c.in-Some-split_first.others.now ≡ c.levels.level.items = sym all ∙ c.deref-in-levels.ensures.value in
    let here = file_stays c.levels.invariant.reading is in
    let found : FindsBelow (pages_in file) (λ k. used_in c.levels.marks k) c.levels.level.items None =
    subst (λ es. FindsBelow (pages_in file) (λ k. used_in c.levels.marks k) es None) level
    (subst (λ o. FindsBelow (pages_in file) (λ k. used_in c.levels.marks k) (c.in-Some-split_first.first.now ∷ c.in-Some-split_first.others.now) o) c.in-None.is (c.in_ok-next.ensures.found file here)) in
    stage_stops (pages_in file) (λ k. used_in c.levels.marks k) c.levels.level.items found.0 found.1 (c.levels.invariant.stage file is)

pub returns-clause-value : goal.returns-clause-value
returns-clause-value g c = λ file is.
    let none : length c.levels.level.items ≡ 0 = omega (arith, ap length (sym c.deref-in-levels.ensures.value), none_first _ _ c.in_default-split_first.is c.split_first.ensures.cases) in
    stage_empty (pages_in file) (λ k. used_in c.levels.marks k) c.levels.level.items c.new-2.result (λ k. used_most c.levels.marks k) (no_items _ none) (ap (λ (d : Document). d.text) c.new-2.ensures) (c.levels.invariant.stage file is)

pub returns-then-count-lt2-clause-reading : goal.returns-then-count-lt2-clause-reading
returns-then-count-lt2-clause-reading g c = reads_none g.F.World.tells (λ is. cc)

pub returns-in_err-next-clause-reading : goal.returns-in_err-next-clause-reading
returns-in_err-next-clause-reading g c =
    let all = (MatchOption-at_some _ _ _ c.in-Some-split_first.is c.split_first.ensures.cases).0 in
    let level : c.in-Some-split_first.first.now ∷ c.in-Some-split_first.others.now ≡ c.levels.level.items = sym all ∙ c.deref-in-levels.ensures.value in
    reads_passed c.in_err-next.was c.from_residual-in_err-next.ensures.1 (omega (arith, c.levels.invariant.room, ap length level)) (reads_then c.levels.invariant.reading c.read_level.ensures.reading)

pub returns-in-Some-Lines-clause-reading : goal.returns-in-Some-Lines-clause-reading
returns-in-Some-Lines-clause-reading g c =
    let all = (MatchOption-at_some _ _ _ c.in-Some-split_first.is c.split_first.ensures.cases).0 in
    let level : c.in-Some-split_first.first.now ∷ c.in-Some-split_first.others.now ≡ c.levels.level.items = sym all ∙ c.deref-in-levels.ensures.value in
    reads_ok (omega (arith, c.levels.invariant.room, ap length level)) (reads_then c.levels.invariant.reading c.in_ok-next.ensures.reading)

pub returns-in-None-clause-reading : goal.returns-in-None-clause-reading
returns-in-None-clause-reading g c =
    let all = (MatchOption-at_some _ _ _ c.in-Some-split_first.is c.split_first.ensures.cases).0 in
    let level : c.in-Some-split_first.first.now ∷ c.in-Some-split_first.others.now ≡ c.levels.level.items = sym all ∙ c.deref-in-levels.ensures.value in
    reads_ok (omega (arith, c.levels.invariant.room, ap length level)) (reads_then c.levels.invariant.reading c.in_ok-next.ensures.reading)

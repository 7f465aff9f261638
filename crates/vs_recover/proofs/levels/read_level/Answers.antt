use Rattle.std.proofs.Common.{◌≡◌, ◌/◌, [], ◌∷◌, List, ℕ, Option, Some, None, length, arith, ap, sym, ◌∙◌}
use Rattle.std.specs.Option.{option_map}
use Rattle.vs_text.specs.Documents.{Document}
use Rattle.vs_pages.specs.Maps.{Map, pages_at}
use Rattle.vs_data.specs.Blocks.{lines_in}
use Rattle.vs_swap.specs.Files.{pages_in, swap_format}
use Rattle.vs_recover.specs.Files.{plain}
use Rattle.vs_recover.specs.Levels.{chained, fitting_lines, lines_at, points_at}
use Rattle.vs_recover.specs.Marks.{used_in}
use Rattle.vs_recover.proofs.ChainLaws.{chained_first, plain_back, wide_rest}
use Rattle.vs_recover.proofs.MarkLaws.{wide_at}
use Rattle.vs_recover.proofs.PageLaws.{extends_none, extends_some, gives_list, gives_none, if_none, if_some}
use Rattle.vs_recover.proofs.WalkLaws.{level_clashes, level_gathered, level_opened, level_stops, level_unread, lines_gone, lines_of, pointers_alone, points_gone, points_of}
use Rattle.vs_recover.proofs.ReadingLaws.{file_stays, reads_ok, reads_passed, reads_then, there_stays}
use Rattle.vs_recover.proofs.levels.read_level.Goals as goal

pub load_pages-requires : goal.load_pages-requires
load_pages-requires g c = record { some = wide_at (c.args.first.now ∷ c.args.others.now) 0 (record { block = 0; pages = 0; lines = 0 }) (omega arith) c.requires.wide; bound = c.requires.bound; count = c.requires.count }

pub returns-in_default-clause-found : goal.returns-in_default-clause-found
returns-in_default-clause-found g c = λ file is.
    let gone = gives_none _ _ c.in_default.is (c.in_ok-bytes.ensures.value file is) in
    level_unread (pages_in file) (λ k. used_in c.args.marks.now k) c.args.first.now c.args.others.now (points_gone (pages_in file) c.args.first.now gone) (lines_gone (pages_in file) c.args.first.now gone)

pub returns-in_default-3-clause-found : goal.returns-in_default-3-clause-found
returns-in_default-3-clause-found g c = λ file is.
    let m : Map = pages_in file in
    let bytes : pages_at m c.args.first.now.block c.args.first.now.pages ≡ Some c.deref.result.now = gives_list _ _ c.in-Some.bytes c.in-Some.is (c.in_ok-bytes.ensures.value file is) ∙ ap (λ (bs : List ℕ). Some bs) (sym c.deref.ensures.value) in
    let fits = gives_list _ _ c.in-Some-2.points c.in-Some-2.is c.in_ok-points.ensures.value in
    let points : points_at swap_format m c.args.first.now ≡ Some c.in-Some-2.points.items = points_of m c.args.first.now c.deref.result.now bytes ∙ fits in
    let here = file_stays c.load_pages.ensures.reading is in
    level_clashes (pages_in file) (λ k. used_in c.args.marks.now k) c.args.first.now c.args.others.now c.in-Some-2.points.items points (pointers_alone m c.args.first.now c.deref.result.now c.in-Some-2.points.items bytes fits)
    (if_none _ _ c.in_default-3.is c.in_ok-next.ensures.clash file here)

pub returns-in-Some-2-clause-found : goal.returns-in-Some-2-clause-found
returns-in-Some-2-clause-found g c = λ file is.
    let m : Map = pages_in file in
    let bytes : pages_at m c.args.first.now.block c.args.first.now.pages ≡ Some c.deref.result.now = gives_list _ _ c.in-Some.bytes c.in-Some.is (c.in_ok-bytes.ensures.value file is) ∙ ap (λ (bs : List ℕ). Some bs) (sym c.deref.ensures.value) in
    let fits = gives_list _ _ c.in-Some-2.points c.in-Some-2.is c.in_ok-points.ensures.value in
    let points : points_at swap_format m c.args.first.now ≡ Some c.in-Some-2.points.items = points_of m c.args.first.now c.deref.result.now bytes ∙ fits in
    let here = file_stays c.load_pages.ensures.reading is in
    level_opened (pages_in file) (λ k. used_in c.args.marks.now k) c.args.first.now c.args.others.now c.in-Some-2.points.items c.in-Some-3.next points (if_some _ c.in-Some-3.next _ c.in-Some-3.is c.in_ok-next.ensures.next file here)

pub returns-then-not-branch-clause-found : goal.returns-then-not-branch-clause-found
returns-then-not-branch-clause-found g c = λ file is.
    let m : Map = pages_in file in
    let one : pages_at m c.args.first.now.block c.args.first.now.pages ≡ Some c.deref.result.now = gives_list _ _ c.in-Some.bytes c.in-Some.is (c.in_ok-bytes.ensures.value file is) ∙ ap (λ (bs : List ℕ). Some bs) (sym c.deref.ensures.value) in
    let points : points_at swap_format m c.args.first.now ≡ None = points_of m c.args.first.now c.deref.result.now one ∙ gives_none _ _ c.in_default-2.is c.in_ok-points.ensures.value in
    let bytes : pages_at m c.args.first.now.block c.args.first.now.pages ≡ Some c.deref-2.result.now = gives_list _ _ c.in-Some.bytes c.in-Some.is (c.in_ok-bytes.ensures.value file is) ∙ ap (λ (bs : List ℕ). Some bs) (sym c.deref-2.ensures.value) in
    let same = lines_of m c.args.first.now c.deref-2.result.now bytes in
    level_unread (pages_in file) (λ k. used_in c.args.marks.now k) c.args.first.now c.args.others.now points (same ∙ plain_back _ (extends_none _ _ _ _ c.if-not-branch.true c.in_ok-read_lines.ensures.value))

pub returns-in_default-4-clause-found : goal.returns-in_default-4-clause-found
returns-in_default-4-clause-found g c = λ file is.
    let m : Map = pages_in file in
    let one : pages_at m c.args.first.now.block c.args.first.now.pages ≡ Some c.deref.result.now = gives_list _ _ c.in-Some.bytes c.in-Some.is (c.in_ok-bytes.ensures.value file is) ∙ ap (λ (bs : List ℕ). Some bs) (sym c.deref.ensures.value) in
    let points : points_at swap_format m c.args.first.now ≡ None = points_of m c.args.first.now c.deref.result.now one ∙ gives_none _ _ c.in_default-2.is c.in_ok-points.ensures.value in
    let bytes : pages_at m c.args.first.now.block c.args.first.now.pages ≡ Some c.deref-2.result.now = gives_list _ _ c.in-Some.bytes c.in-Some.is (c.in_ok-bytes.ensures.value file is) ∙ ap (λ (bs : List ℕ). Some bs) (sym c.deref-2.ensures.value) in
    let same = lines_of m c.args.first.now c.deref-2.result.now bytes in
    let none : c.new-lines.result.text ≡ [] = ap (λ (d : Document). d.text) c.new-lines.ensures in
    let read : chained (Some []) (plain (fitting_lines c.args.first.now (lines_in c.deref-2.result.now))) ≡ Some c.read_lines.new.lines.text =
    ap (λ xs. chained (Some xs) (plain (fitting_lines c.args.first.now (lines_in c.deref-2.result.now)))) (sym none) ∙ extends_some _ _ _ _ c.if-not-branch.false c.in_ok-read_lines.ensures.value in
    let lines : plain (lines_at swap_format m c.args.first.now) ≡ Some c.read_lines.new.lines.text = ap (λ o. plain o) same ∙ (sym (chained_first (plain (fitting_lines c.args.first.now (lines_in c.deref-2.result.now)))) ∙ read) in
    let here = file_stays c.load_pages.ensures.reading is in
    level_stops (pages_in file) (λ k. used_in c.args.marks.now k) c.args.first.now c.args.others.now c.read_lines.new.lines.text points lines (c.in_ok-all.ensures.value file here ∙ ap (λ (o : Option Document). option_map (λ d. d.text) o) c.in_default-4.is)

pub returns-clause-found : goal.returns-clause-found
returns-clause-found g c = λ file is.
    let m : Map = pages_in file in
    let one : pages_at m c.args.first.now.block c.args.first.now.pages ≡ Some c.deref.result.now = gives_list _ _ c.in-Some.bytes c.in-Some.is (c.in_ok-bytes.ensures.value file is) ∙ ap (λ (bs : List ℕ). Some bs) (sym c.deref.ensures.value) in
    let points : points_at swap_format m c.args.first.now ≡ None = points_of m c.args.first.now c.deref.result.now one ∙ gives_none _ _ c.in_default-2.is c.in_ok-points.ensures.value in
    let bytes : pages_at m c.args.first.now.block c.args.first.now.pages ≡ Some c.deref-2.result.now = gives_list _ _ c.in-Some.bytes c.in-Some.is (c.in_ok-bytes.ensures.value file is) ∙ ap (λ (bs : List ℕ). Some bs) (sym c.deref-2.ensures.value) in
    let same = lines_of m c.args.first.now c.deref-2.result.now bytes in
    let none : c.new-lines.result.text ≡ [] = ap (λ (d : Document). d.text) c.new-lines.ensures in
    let read : chained (Some []) (plain (fitting_lines c.args.first.now (lines_in c.deref-2.result.now))) ≡ Some c.read_lines.new.lines.text =
    ap (λ xs. chained (Some xs) (plain (fitting_lines c.args.first.now (lines_in c.deref-2.result.now)))) (sym none) ∙ extends_some _ _ _ _ c.if-not-branch.false c.in_ok-read_lines.ensures.value in
    let lines : plain (lines_at swap_format m c.args.first.now) ≡ Some c.read_lines.new.lines.text = ap (λ o. plain o) same ∙ (sym (chained_first (plain (fitting_lines c.args.first.now (lines_in c.deref-2.result.now)))) ∙ read) in
    let here = file_stays c.load_pages.ensures.reading is in
    level_gathered (pages_in file) (λ k. used_in c.args.marks.now k) c.args.first.now c.args.others.now c.read_lines.new.lines.text c.in-Some-4.all lines (c.in_ok-all.ensures.value file here ∙ ap (λ (o : Option Document). option_map (λ d. d.text) o) c.in-Some-4.is)

pub open_level-requires : goal.open_level-requires
open_level-requires g c = record {
  points = if_some _ c.in-Some-2.points _ c.in-Some-2.is c.in_ok-points.ensures.wide;
  wide = wide_rest c.args.first.now c.args.others.now c.requires.wide;
  bound = c.requires.bound;
  count = there_stays c.load_pages.ensures.reading c.args.name.now (λ file. c.args.count ≡ length file / 4096) c.requires.count;
}

pub gather_level-requires : goal.gather_level-requires
gather_level-requires g c = record {
  wide = wide_rest c.args.first.now c.args.others.now c.requires.wide;
  bound = c.requires.bound;
  count = there_stays c.load_pages.ensures.reading c.args.name.now (λ file. c.args.count ≡ length file / 4096) c.requires.count;
}

pub returns-in-Some-2-clause-marked : goal.returns-in-Some-2-clause-marked
returns-in-Some-2-clause-marked g c = if_some _ c.in-Some-3.next _ c.in-Some-3.is c.in_ok-next.ensures.marked

pub returns-in_err-next-clause-reading : goal.returns-in_err-next-clause-reading
returns-in_err-next-clause-reading g c = reads_passed c.in_err-next.was c.from_residual-in_err-next.ensures.1 (omega arith) (reads_then c.in_ok-bytes.ensures.reading c.open_level.ensures.reading)

pub returns-in_default-3-clause-reading : goal.returns-in_default-3-clause-reading
returns-in_default-3-clause-reading g c = reads_ok (omega arith) (reads_then c.in_ok-bytes.ensures.reading c.in_ok-next.ensures.reading)

pub returns-in-Some-2-clause-reading : goal.returns-in-Some-2-clause-reading
returns-in-Some-2-clause-reading g c = reads_ok (omega arith) (reads_then c.in_ok-bytes.ensures.reading c.in_ok-next.ensures.reading)

pub returns-in_err-all-clause-reading : goal.returns-in_err-all-clause-reading
returns-in_err-all-clause-reading g c = reads_passed c.in_err-all.was c.from_residual-in_err-all.ensures.1 (omega arith) (reads_then c.in_ok-bytes.ensures.reading c.gather_level.ensures.reading)

pub returns-in_default-4-clause-reading : goal.returns-in_default-4-clause-reading
returns-in_default-4-clause-reading g c = reads_ok (omega arith) (reads_then c.in_ok-bytes.ensures.reading c.in_ok-all.ensures.reading)

pub returns-clause-reading : goal.returns-clause-reading
returns-clause-reading g c = reads_ok (omega arith) (reads_then c.in_ok-bytes.ensures.reading c.in_ok-all.ensures.reading)

use Rattle.std.proofs.Common.{◌≡◌, ◌++◌, [], ◌∷◌, ◌∙◌, true, List, ℕ, drop, map, take, arith, refl, sym, subst}
use Rattle.std.proofs.lemmas.List.{append-nil}
use Rattle.vs_text.specs.declared.format.Format.{Format}
use Rattle.vs_text.specs.Text.{lines_of}
use Rattle.vs_damaged.specs.Items.{Item, Shows, original_item}
use Rattle.vs_recover.specs.Original.{Follows, IsNext}
use Rattle.vs_recover.proofs.PartLaws.{is_fewer, next_enough, next_false, next_rest, next_true, shows_line, shows_over}
use Rattle.vs_recover.proofs.ReadingLaws.{file_stays, no_memory, reads_ended, reads_none, reads_ok, reads_passed, reads_then, there_was}
use Rattle.vs_recover.proofs.original.Original.show_lines.Goals as goal

pub loop-init : goal.loop-init
loop-init g c = record {
  place = c.requires.place;
  follows = c.requires.follows;
  there = λ file is. refl;
  enough = λ file is. omega arith;
  shows = λ file is format items shows. subst (λ (is : List Item). Shows format c.args.shown.now is) (sym (append-nil items)) shows;
  len = refl;
  left = omega arith;
  reading = reads_none g.F.World.tells (λ is. cc);
}

pub returns-in_err-next_line-clause-reading : goal.returns-in_err-next_line-clause-reading
returns-in_err-next_line-clause-reading g c = reads_passed c.in_err-next_line.was c.from_residual.ensures.1 (omega (arith, c.loop.invariant.left)) (reads_then c.loop.invariant.reading c.next_line.ensures.reading)

pub returns-then-not-branch-clause-shows : goal.returns-then-not-branch-clause-shows
returns-then-not-branch-clause-shows g c = λ file is format items shows.
    let lines : List (List ℕ) = drop c.args.self.now.line (lines_of file) in
    let none : drop c.loop.counter lines ≡ [] = sym (c.loop.invariant.there file is) ∙ next_false _ _ _ c.in_ok-next_line.field-0 c.if-not-branch.true (c.in_ok-next_line.ensures.next file (file_stays c.loop.invariant.reading is)) in
    shows_over format c.loop.shown items lines c.loop.counter c.args.count none (omega (arith, c.loop-test.true)) (c.loop.invariant.shows file is format items shows)

pub returns-then-not-branch-clause-all : goal.returns-then-not-branch-clause-all
returns-then-not-branch-clause-all g c = λ file is.
    let lines : List (List ℕ) = drop c.args.self.now.line (lines_of file) in
    let none : drop c.loop.counter lines ≡ [] = sym (c.loop.invariant.there file is) ∙ next_false _ _ _ c.in_ok-next_line.field-0 c.if-not-branch.true (c.in_ok-next_line.ensures.next file (file_stays c.loop.invariant.reading is)) in
    is_fewer lines c.loop.counter c.args.count none c.loop-test.true (c.loop.invariant.enough file is)

pub returns-then-not-branch-clause-reading : goal.returns-then-not-branch-clause-reading
returns-then-not-branch-clause-reading g c = reads_ok (omega (arith, c.loop.invariant.left, c.in_ok-next_line.ensures.left)) (reads_then c.loop.invariant.reading c.in_ok-next_line.ensures.read)

pub returns-in_err-push_original-clause-reading : goal.returns-in_err-push_original-clause-reading
returns-in_err-push_original-clause-reading g c =
    reads_ended (no_memory _ c.from_residual-in_err-push_original.ensures.1) (omega (arith, c.loop.invariant.left, c.in_ok-next_line.ensures.left)) (reads_then c.loop.invariant.reading c.in_ok-next_line.ensures.read)

pub loop-preserved : goal.loop-preserved
loop-preserved g c = record {
  place = c.in_ok-next_line.ensures.place;
  follows = there_was c.loop.invariant.reading c.args.name.now (λ f. Follows c.next_line.new.self f) c.in_ok-next_line.ensures.follows;
  there = λ file is.
      let lines : List (List ℕ) = drop c.args.self.now.line (lines_of file) in
      let next = next_true _ _ _ c.in_ok-next_line.field-0 c.if-not-branch.false (c.in_ok-next_line.ensures.next file (file_stays c.loop.invariant.reading is)) in
      next_rest c.loop.counter lines (drop c.next_line.new.self.line (lines_of file)) next.0 (sym (c.loop.invariant.there file is) ∙ next.1);
  enough = λ file is.
      let lines : List (List ℕ) = drop c.args.self.now.line (lines_of file) in
      let next = next_true _ _ _ c.in_ok-next_line.field-0 c.if-not-branch.false (c.in_ok-next_line.ensures.next file (file_stays c.loop.invariant.reading is)) in
      next_enough c.loop.counter lines (drop c.next_line.new.self.line (lines_of file)) next.0 (sym (c.loop.invariant.there file is) ∙ next.1);
  shows = λ file is format items shows.
      let lines : List (List ℕ) = drop c.args.self.now.line (lines_of file) in
      let rest : List (List ℕ) = drop c.next_line.new.self.line (lines_of file) in
      let next = next_true _ _ _ c.in_ok-next_line.field-0 c.if-not-branch.false (c.in_ok-next_line.ensures.next file (file_stays c.loop.invariant.reading is)) in
      let here : IsNext (drop c.loop.counter lines) rest c.next_line.new.into.items true = subst (λ ls. IsNext ls rest c.next_line.new.into.items true) (c.loop.invariant.there file is) next in
      let before = c.loop.invariant.shows file is format items shows in
      let added : List Item = items ++ map (original_item format) (take c.loop.counter lines) in
      let adds : Shows format c.push_original.new.self (added ++ original_item format c.deref.result.now ∷ []) =
      subst (λ (f : Format). Shows format c.push_original.new.self (added ++ original_item f c.deref.result.now ∷ [])) before.format_is (c.in_ok-push_original.ensures format added before) in
      shows_line format c.push_original.new.self items lines rest c.next_line.new.into.items c.loop.counter here
      (subst (λ bs. Shows format c.push_original.new.self (added ++ original_item format bs ∷ [])) c.deref.ensures.value adds);
  len = c.in_ok-next_line.ensures.len ∙ c.loop.invariant.len;
  left = omega (arith, c.loop.invariant.left, c.in_ok-next_line.ensures.left);
  reading = reads_ok (omega (arith, c.loop.invariant.left, c.in_ok-next_line.ensures.left)) (reads_then c.loop.invariant.reading c.in_ok-next_line.ensures.read);
}

pub returns-clause-shows : goal.returns-clause-shows
returns-clause-shows g c = λ file is format items shows.
    let all : c.loop.counter ≡ c.args.count = omega (arith, c.loop.auto.counter-end, c.loop-test.false) in
    subst (λ n. Shows format c.loop.shown (items ++ map (original_item format) (take n (drop c.args.self.now.line (lines_of file))))) all (c.loop.invariant.shows file is format items shows)

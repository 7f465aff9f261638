use Rattle.std.proofs.Common.{◌∙◌, arith, refl}
use Rattle.vs_text.specs.Text.{lines_of}
use Rattle.vs_recover.specs.Original.{Follows}
use Rattle.vs_recover.proofs.PartLaws.{seek_next, seek_over}
use Rattle.vs_recover.proofs.ReadingLaws.{file_stays, reads_none, reads_ok, reads_passed, reads_then, there_as, there_was}
use Rattle.vs_recover.proofs.original.Original.seek.Goals as goal

pub loop-init : goal.loop-init
loop-init g c = record {
  place = c.go_back.ensures.place;
  follows = there_as g.F.World.tells (g.F.World.scene c.args.host.now) c.args.name.now (λ f. Follows c.args.self.now f) (λ f. Follows c.go_back.new.self f) c.go_back.ensures.follows c.requires.follows;
  there = λ file is. refl;
  len = c.go_back.ensures.len;
  left = omega (arith, c.go_back.ensures.len);
  reading = reads_none g.F.World.tells (λ is. cc);
}

pub returns-in_err-next_line-clause-reading : goal.returns-in_err-next_line-clause-reading
returns-in_err-next_line-clause-reading g c = reads_passed c.in_err-next_line.was c.from_residual.ensures.1 (omega (arith, c.loop.invariant.left)) (reads_then c.loop.invariant.reading c.next_line.ensures.reading)

pub returns-then-not-branch-clause-there : goal.returns-then-not-branch-clause-there
returns-then-not-branch-clause-there g c = λ file is.
    seek_over (lines_of file) c.next_line.new.into.items c.loop.self.line c.next_line.new.self.line c.loop.counter c.args.before c.in_ok-next_line.field-0 c.if-not-branch.true
    (c.in_ok-next_line.ensures.next file (file_stays c.loop.invariant.reading is)) (c.loop.invariant.there file is) (omega (arith, c.loop-test.true))

pub returns-then-not-branch-clause-reading : goal.returns-then-not-branch-clause-reading
returns-then-not-branch-clause-reading g c = reads_ok (omega (arith, c.loop.invariant.left, c.in_ok-next_line.ensures.left)) (reads_then c.loop.invariant.reading c.in_ok-next_line.ensures.read)

pub returns-then-not-branch-clause-read : goal.returns-then-not-branch-clause-read
returns-then-not-branch-clause-read g c = reads_ok (omega (arith, c.loop.invariant.left, c.in_ok-next_line.ensures.left)) (reads_then c.loop.invariant.reading c.in_ok-next_line.ensures.read)

pub loop-preserved : goal.loop-preserved
loop-preserved g c = record {
  place = c.in_ok-next_line.ensures.place;
  follows = there_was c.loop.invariant.reading c.args.name.now (λ f. Follows c.next_line.new.self f) c.in_ok-next_line.ensures.follows;
  there = λ file is. seek_next (lines_of file) c.next_line.new.into.items c.loop.self.line c.next_line.new.self.line c.loop.counter c.in_ok-next_line.field-0 c.if-not-branch.false
      (c.in_ok-next_line.ensures.next file (file_stays c.loop.invariant.reading is)) (c.loop.invariant.there file is);
  len = c.in_ok-next_line.ensures.len ∙ c.loop.invariant.len;
  left = omega (arith, c.loop.invariant.left, c.in_ok-next_line.ensures.left);
  reading = reads_ok (omega (arith, c.loop.invariant.left, c.in_ok-next_line.ensures.left)) (reads_then c.loop.invariant.reading c.in_ok-next_line.ensures.read);
}

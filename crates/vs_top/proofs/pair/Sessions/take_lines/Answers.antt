use Rattle.std.proofs.Common.{◌∙◌, ◌+◌, refl, ap, sym, subst}
use Rattle.vs_host.specs.World.{Scene}
use Rattle.vs_script.specs.Ahead.{bytes_left}
use Rattle.vs_top.specs.PairPromise.{EndsPair, HasRunBoth}
use Rattle.vs_top.specs.PairTurns.{TookLines, AreUsable, KeepsPair, sessions_ended}
use Rattle.vs_top.proofs.PairCalls.{by_err}
use Rattle.vs_top.proofs.PairCourse.{all_keeps, all_taken, all_usable, course_next, course_start, line_cut, line_ends, line_usable, over_taken, over_usable, stops_ends, stops_told}
use Rattle.vs_top.proofs.pair.Sessions.take_lines.Goals as goal
use Rattle.vs_top.proofs.pair.Sessions.take_lines.Goals.{then-lines-test+in_ok-next_line+else-branch, else-lines-test}

pub lines-init : goal.lines-init
lines-init g c = record {
  course = course_start g.H.World.tells (g.H.World.scene c.args.host.now) c.args.self.now c.args.marks.now.items c.args.reader c.requires.fresh c.requires.usable;
  room = c.requires.room;
}

pub returns-clause-usable : goal.returns-clause-usable
returns-clause-usable g c = elim c.lines-test.branch [
  | then-lines-test+in_ok-next_line+else-branch w ↦
      subst (λ (s : Scene). AreUsable g.H.World.tells c.lines.self 2 s) (sym (ap g.H.World.scene w.host-is))
      (all_usable g.H.World.tells (g.H.World.scene c.args.host.now) (g.H.World.scene c.lines.host) c.args.self.now c.lines.self c.args.marks.now.items c.lines.marks.items c.lines.reader c.lines.invariant.course
      w.in_ok-next_line.field-0 (g.H.World.scene w.next_line.new.host) w.next_line.new.self w.in_ok-next_line.ensures.reads w.in_ok-next_line.ensures.track w.if-branch.false w.next_line.new.line w.in_ok-next_line.ensures.line)
  | else-lines-test w ↦
      subst (λ (s : Scene). AreUsable g.H.World.tells c.lines.self 2 s) (sym (ap g.H.World.scene w.host-is))
      (over_usable g.H.World.tells (g.H.World.scene c.args.host.now) (g.H.World.scene c.lines.host) c.args.self.now c.lines.self c.args.marks.now.items c.lines.marks.items c.lines.reader c.lines.invariant.course)
]

pub returns-in_err-next_line-clause-keeps : goal.returns-in_err-next_line-clause-keeps
returns-in_err-next_line-clause-keeps g c = λ one two old same keeps.
    by_err c.from_residual.result _ (λ e. EndsPair g.H.World.tells one two old (g.H.World.scene c.next_line.new.host) e c.lines.marks.items) _ _ c.from_residual.ensures.1 refl
    (stops_ends g.H.World.tells (g.H.World.scene c.args.host.now) (g.H.World.scene c.lines.host) c.args.self.now c.lines.self c.args.marks.now.items c.lines.marks.items c.lines.reader c.lines.invariant.course
    (g.H.World.scene c.next_line.new.host) c.next_line.new.self _ c.in_err-next_line.ensures.reads c.in_err-next_line.ensures.track refl c.in_err-next_line.ensures.stops one two old same keeps)

pub returns-in_err-next_line-clause-told : goal.returns-in_err-next_line-clause-told
returns-in_err-next_line-clause-told g c = λ told one two old same placed here.
    by_err c.from_residual.result _ (λ e. HasRunBoth one two old (g.H.World.scene c.next_line.new.host) e c.lines.marks.items) _ _ c.from_residual.ensures.1 refl
    (stops_told g.H.World.tells (g.H.World.scene c.args.host.now) (g.H.World.scene c.lines.host) c.args.self.now c.lines.self c.args.marks.now.items c.lines.marks.items c.lines.reader c.lines.invariant.course
    (g.H.World.scene c.next_line.new.host) c.next_line.new.self _ c.in_err-next_line.ensures.reads refl c.in_err-next_line.ensures.stops told one two old same placed here)

pub lines-preserved : goal.lines-preserved
lines-preserved g c = record {
  course = course_next g.H.World.tells (g.H.World.scene c.args.host.now) (g.H.World.scene c.lines.host) c.args.self.now c.lines.self c.args.marks.now.items c.lines.marks.items c.lines.reader c.lines.invariant.course
      c.in_ok-next_line.field-0 (g.H.World.scene c.next_line.new.host) c.next_line.new.self c.in_ok-next_line.ensures.reads c.in_ok-next_line.ensures.track
      c.if-branch.true c.next_line.new.line c.in_ok-next_line.ensures.line (sym c.is_over.ensures ∙ c.lines-test.true)
      (c.in_ok-next_line.ensures.fewer c.if-branch.true) (c.next_line.ensures.room ∙ c.lines.invariant.room) c.bytes.result.now c.bytes.ensures.bytes
      c.take_line.result (g.H.World.scene c.take_line.new.host) c.take_line.new.self c.take_line.new.marks.items
      (λ told one two old transcript whole placed here comes is. c.take_line.ensures.told told one two old transcript whole placed here comes is)
      c.in_ok-take_line.was c.take_line.ensures.script (λ one two old keeps. c.take_line.ensures.keeps one two old keeps)
      (c.take_line.ensures.usable (bytes_left c.next_line.new.self + 2)
      (line_usable g.H.World.tells (g.H.World.scene c.args.host.now) (g.H.World.scene c.lines.host) c.args.self.now c.lines.self c.args.marks.now.items c.lines.marks.items c.lines.reader c.lines.invariant.course
      c.in_ok-next_line.field-0 (g.H.World.scene c.next_line.new.host) c.next_line.new.self c.in_ok-next_line.ensures.reads c.in_ok-next_line.ensures.track
      c.if-branch.true c.next_line.new.line c.in_ok-next_line.ensures.line (sym c.is_over.ensures ∙ c.lines-test.true)
      (c.in_ok-next_line.ensures.fewer c.if-branch.true) (c.next_line.ensures.room ∙ c.lines.invariant.room) c.bytes.result.now c.bytes.ensures.bytes));
  room = c.next_line.ensures.room ∙ c.lines.invariant.room;
}

pub returns-in_err-take_line-clause-keeps : goal.returns-in_err-take_line-clause-keeps
returns-in_err-take_line-clause-keeps g c = λ one two old same keeps.
    by_err c.from_residual-in_err-take_line.result _ (λ e. EndsPair g.H.World.tells one two old (g.H.World.scene c.take_line.new.host) e c.take_line.new.marks.items) _ _ c.from_residual-in_err-take_line.ensures.1 refl
    (line_ends g.H.World.tells (g.H.World.scene c.args.host.now) (g.H.World.scene c.lines.host) c.args.self.now c.lines.self c.args.marks.now.items c.lines.marks.items c.lines.reader c.lines.invariant.course
    c.in_ok-next_line.field-0 (g.H.World.scene c.next_line.new.host) c.next_line.new.self c.in_ok-next_line.ensures.reads c.in_ok-next_line.ensures.track
    c.if-branch.true c.next_line.new.line c.in_ok-next_line.ensures.line (sym c.is_over.ensures ∙ c.lines-test.true)
    (c.in_ok-next_line.ensures.fewer c.if-branch.true) (c.next_line.ensures.room ∙ c.lines.invariant.room) c.bytes.result.now c.bytes.ensures.bytes
    c.take_line.result (g.H.World.scene c.take_line.new.host) c.take_line.new.self c.take_line.new.marks.items
    (λ told one two old transcript whole placed here comes is. c.take_line.ensures.told told one two old transcript whole placed here comes is)
    _ c.in_err-take_line.was (λ one two old keeps. c.take_line.ensures.keeps one two old keeps) one two old same keeps)

pub returns-in_err-take_line-clause-told : goal.returns-in_err-take_line-clause-told
returns-in_err-take_line-clause-told g c = λ told one two old same placed here.
    by_err c.from_residual-in_err-take_line.result _ (λ e. HasRunBoth one two old (g.H.World.scene c.take_line.new.host) e c.take_line.new.marks.items) _ _ c.from_residual-in_err-take_line.ensures.1 refl
    (line_cut g.H.World.tells (g.H.World.scene c.args.host.now) (g.H.World.scene c.lines.host) c.args.self.now c.lines.self c.args.marks.now.items c.lines.marks.items c.lines.reader c.lines.invariant.course
    c.in_ok-next_line.field-0 (g.H.World.scene c.next_line.new.host) c.next_line.new.self c.in_ok-next_line.ensures.reads c.in_ok-next_line.ensures.track
    c.if-branch.true c.next_line.new.line c.in_ok-next_line.ensures.line (sym c.is_over.ensures ∙ c.lines-test.true)
    (c.in_ok-next_line.ensures.fewer c.if-branch.true) (c.next_line.ensures.room ∙ c.lines.invariant.room) c.bytes.result.now c.bytes.ensures.bytes
    c.take_line.result (g.H.World.scene c.take_line.new.host) c.take_line.new.self c.take_line.new.marks.items
    (λ told one two old transcript whole placed here comes is. c.take_line.ensures.told told one two old transcript whole placed here comes is)
    _ c.in_err-take_line.was told one two old same placed here)

pub returns-clause-keeps : goal.returns-clause-keeps
returns-clause-keeps g c = λ one two old same keeps. elim c.lines-test.branch [
  | then-lines-test+in_ok-next_line+else-branch w ↦
      subst (λ (s : Scene). KeepsPair g.H.World.tells one two old s (sessions_ended c.lines.self.multi) c.lines.marks.items) (sym (ap g.H.World.scene w.host-is))
      (all_keeps g.H.World.tells (g.H.World.scene c.args.host.now) (g.H.World.scene c.lines.host) c.args.self.now c.lines.self c.args.marks.now.items c.lines.marks.items c.lines.reader c.lines.invariant.course
      w.in_ok-next_line.field-0 (g.H.World.scene w.next_line.new.host) w.next_line.new.self w.in_ok-next_line.ensures.reads w.in_ok-next_line.ensures.track w.if-branch.false w.next_line.new.line w.in_ok-next_line.ensures.line one two old same keeps)
  | else-lines-test w ↦
      subst (λ (s : Scene). KeepsPair g.H.World.tells one two old s (sessions_ended c.lines.self.multi) c.lines.marks.items) (sym (ap g.H.World.scene w.host-is))
      (c.lines.invariant.course.keeps one two old same keeps)
]

pub returns-clause-told : goal.returns-clause-told
returns-clause-told g c = λ told one two old same placed here. elim c.lines-test.branch [
  | then-lines-test+in_ok-next_line+else-branch w ↦
      subst (λ (s : Scene). TookLines one two old s c.lines.self c.lines.marks.items) (sym (ap g.H.World.scene w.host-is))
      (all_taken g.H.World.tells (g.H.World.scene c.args.host.now) (g.H.World.scene c.lines.host) c.args.self.now c.lines.self c.args.marks.now.items c.lines.marks.items c.lines.reader c.lines.invariant.course
      w.in_ok-next_line.field-0 (g.H.World.scene w.next_line.new.host) w.next_line.new.self w.in_ok-next_line.ensures.reads w.in_ok-next_line.ensures.track w.if-branch.false w.next_line.new.line w.in_ok-next_line.ensures.line told one two old same placed here)
  | else-lines-test w ↦
      subst (λ (s : Scene). TookLines one two old s c.lines.self c.lines.marks.items) (sym (ap g.H.World.scene w.host-is))
      (over_taken g.H.World.tells (g.H.World.scene c.args.host.now) (g.H.World.scene c.lines.host) c.args.self.now c.lines.self c.args.marks.now.items c.lines.marks.items c.lines.reader c.lines.invariant.course
      (sym c.is_over.ensures ∙ w.lines-test.false) told one two old same placed here)
]

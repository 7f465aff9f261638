-- The near lines stay, and the far ones are shifted by their lead.
use Rattle.std.proofs.Common.{◌∙◌, ◌≤◌, ◌<◌, ◌+◌, ◌-◌, All, reverse, ap, sym, subst, arith, refl}
use Rattle.vs_marks.specs.Marks.{Ascends, far_in, far_of, lines_of, marks_after, near_of}
use Rattle.vs_marks.proofs.MarksLemmas.{all-early, all-reverse, all-unreverse, ascends-after, far-shift, led-after, parts-after, within-after}
use Rattle.vs_marks.proofs.marks.Marks.splice.Goals as goal

pub returns-then-ends_before-clause-lines : goal.returns-then-ends_before-clause-lines
returns-then-ends_before-clause-lines c =
    sym (all-early c.args.top c.args.old c.args.new (lines_of c.args.self.now) (c.ends_before.ensures c.if-ends_before.true))

pub returns-clause-lines : goal.returns-clause-lines
returns-clause-lines c =
    let part = c.part.new.self in
    let trim = c.trim.new.self in
    let parted = c.in_ok-part.ensures in
    let trimmed = c.in_ok-trim.ensures in
    let kept = reverse trim.far.items in
    let past : All (λ line. c.args.top + c.args.old ≤ line) (far_of trim) = subst (All (λ line. c.args.top + c.args.old ≤ line)) (sym trimmed.far) parted.far in
    let shifted = far-shift trim.lead (trim.lead + c.args.old - c.args.new) c.args.top c.args.old c.args.new kept refl
    (omega (arith, trimmed.lead, parted.lead, c.requires.low)) (all-reverse (λ line. trim.lead ≤ line) trim.far.items trimmed.sound.led) past in
    parts-after c.args.top c.args.old c.args.new (near_of part) (far_of part) (near_of trim) (far_in (trim.lead + c.args.old - c.args.new) trim.far.items)
    trimmed.near (shifted ∙ ap (marks_after c.args.top c.args.old c.args.new) trimmed.far)
    ∙ ap (marks_after c.args.top c.args.old c.args.new) parted.lines

pub returns-clause-sound : goal.returns-clause-sound
returns-clause-sound c =
    let trim = c.trim.new.self in
    let parted = c.in_ok-part.ensures in
    let trimmed = c.in_ok-trim.ensures in
    let sound = c.requires.sound in
    let lines = returns-clause-lines c in
    let leads = trim.lead + c.args.old - c.args.new in
    let past : All (λ line. c.args.top + c.args.old ≤ line) (far_of trim) = subst (All (λ line. c.args.top + c.args.old ≤ line)) (sym trimmed.far) parted.far in
    record {
      from_within = trimmed.sound.from_within;
      led = all-unreverse (λ line. leads ≤ line) trim.far.items
          (led-after trim.lead leads c.args.top c.args.old c.args.new (reverse trim.far.items) refl (all-reverse (λ line. trim.lead ≤ line) trim.far.items trimmed.sound.led) past);
      ascends = subst Ascends (sym lines) (ascends-after c.args.top c.args.old c.args.new (lines_of c.args.self.now) sound.ascends);
      within = subst (All (λ line. line < trim.lines + c.args.new - c.args.old)) (sym lines)
          (within-after c.args.top c.args.old c.args.new c.args.self.now.lines (trim.lines + c.args.new - c.args.old) (lines_of c.args.self.now) c.requires.within
          (omega (arith, trimmed.count, parted.count, c.requires.within)) sound.within);
    }

-- The lines are all held, or become so, or none of them is.
use Rattle.std.proofs.Common.{◌∙◌, ◌+◌, ◌-◌, ◌≤◌, ℕ, List, None, ap, arith, length, refl, sym}
use Rattle.vs_text.specs.Text.{file_of}
use Rattle.vs_edit.specs.Splices.{cut_out}
use Rattle.vs_gap.specs.Held.{committed_of}
use Rattle.vs_gap.proofs.HeldLemmas.{cut-held, held-read, held-same, shown-read, shown-same, told-before}
use Rattle.vs_gap.proofs.store.GapStoreLineStore.copy_lines.Goals as goal

pub returns-in-Some-clause-kept : goal.returns-in-Some-clause-kept
returns-in-Some-clause-kept g c =
    let law = g.met.S.LineStore in
    let was = c.args.self.now in
    let below = (g.S.LineStore.shows was.below.now).present in
    let later = (g.S.LineStore.shows c.copy_lines.new.self).present in
    let reads = c.copy_lines.ensures.kept in
    let back = told-before below.Is later.Is (law.tells_one was.below.now c.requires.valid.0) (law.has_told c.copy_lines.new.self) (law.has_one c.copy_lines.new.self) reads.present.text in
    let present = was.overlay.now.present in
    let committed = committed_of present was.overlay.now.committed in
    record {
      valid = (reads.valid, held-same below later present reads.present back c.requires.valid.1, held-same below later committed reads.present back c.requires.valid.2);
      stays = (refl, reads.stays, reads.present, reads.committed);
      present = shown-same below later present reads.present;
      committed = shown-same below later committed reads.present;
    }

pub returns-in_err-hold-clause-kept : goal.returns-in_err-hold-clause-kept
returns-in_err-hold-clause-kept g c =
    let law = g.met.S.LineStore in
    let was = c.args.self.now in
    let below = (g.S.LineStore.shows was.below.now).present in
    let later = (g.S.LineStore.shows c.hold.new.below).present in
    let reads = c.hold.ensures.kept in
    let back = told-before below.Is later.Is (law.tells_one was.below.now c.requires.valid.0) (law.has_told c.hold.new.below) (law.has_one c.hold.new.below) reads.present.text in
    let present = was.overlay.now.present in
    let committed = was.overlay.now.committed in
    let held = c.hold.new.held in
    let is = c.requires.valid.1 in
    let more = c.hold.ensures.more in
    record {
      valid = (
        reads.valid,
        held-read below later reads.present present held is more None back is,
        held-read below later reads.present present held is more committed back c.requires.valid.2,
      );
      stays = (refl, reads.stays, reads.present, reads.committed);
      present = shown-read below later reads.present present held is more None;
      committed = shown-read below later reads.present present held is more committed;
    }

pub returns-in_err-copy_lines-clause-kept : goal.returns-in_err-copy_lines-clause-kept
returns-in_err-copy_lines-clause-kept g c =
    let law = g.met.S.LineStore in
    let was = c.args.self.now in
    let below = (g.S.LineStore.shows was.below.now).present in
    let later = (g.S.LineStore.shows c.hold.new.below).present in
    let reads = c.in_ok-hold.ensures.kept in
    let back = told-before below.Is later.Is (law.tells_one was.below.now c.requires.valid.0) (law.has_told c.hold.new.below) (law.has_one c.hold.new.below) reads.present.text in
    let present = was.overlay.now.present in
    let committed = was.overlay.now.committed in
    let held = c.hold.new.held in
    let is = c.requires.valid.1 in
    let more = c.in_ok-hold.ensures.more in
    record {
      valid = (
        reads.valid,
        held-read below later reads.present present held is more None back is,
        held-read below later reads.present present held is more committed back c.requires.valid.2,
      );
      stays = (refl, reads.stays, reads.present, reads.committed);
      present = shown-read below later reads.present present held is more None;
      committed = shown-read below later reads.present present held is more committed;
    }

pub returns-clause-kept : goal.returns-clause-kept
returns-clause-kept g c =
    let law = g.met.S.LineStore in
    let was = c.args.self.now in
    let below = (g.S.LineStore.shows was.below.now).present in
    let later = (g.S.LineStore.shows c.hold.new.below).present in
    let reads = c.in_ok-hold.ensures.kept in
    let back = told-before below.Is later.Is (law.tells_one was.below.now c.requires.valid.0) (law.has_told c.hold.new.below) (law.has_one c.hold.new.below) reads.present.text in
    let present = was.overlay.now.present in
    let committed = was.overlay.now.committed in
    let held = c.hold.new.held in
    let is = c.requires.valid.1 in
    let more = c.in_ok-hold.ensures.more in
    record {
      valid = (
        reads.valid,
        held-read below later reads.present present held is more None back is,
        held-read below later reads.present present held is more committed back c.requires.valid.2,
      );
      stays = (refl, reads.stays, reads.present, reads.committed);
      present = shown-read below later reads.present present held is more None;
      committed = shown-read below later reads.present present held is more committed;
    }

pub returns-clause-lines : goal.returns-clause-lines
returns-clause-lines g c = λ text shown.
    let was = c.args.self.now in
    let under = shown.under in
    let held = c.hold.new.held in
    let more = c.in_ok-hold.ensures.more in
    let lines = g.met.S.LineStore.has_lines was.below.now under shown.has in
    let within : held.top ≤ length under = omega (arith, lines, more.within) in
    let from : held.top ≤ c.args.at = omega (arith, c.in_ok-hold.ensures.from) in
    let inside : c.args.at - held.top + c.args.count ≤ length held.lines = omega (arith, from, c.in_ok-hold.ensures.to) in
    c.in_ok-copy_lines.ensures.bytes
    ∙ ap file_of (sym (cut-held under held.lines held.top held.replaced within c.args.at c.args.count from inside)
    ∙ ap (λ (xs : List (List ℕ)). cut_out xs c.args.at c.args.count) (more.text under shown.has ∙ sym shown.is))

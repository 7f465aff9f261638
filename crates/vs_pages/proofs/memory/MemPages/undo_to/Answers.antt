use Rattle.std.proofs.Common.{◌≡◌, ℕ, ◌-◌, List, ◌∷◌, length, drop, refl, ap, ◌∙◌, arith}
use Rattle.vs_pages.specs.State.{Moment, history_of, moment_of}
use Rattle.vs_pages.specs.Memory.{changes_of, state_under}
use Rattle.vs_pages.proofs.Pasts.{drop_more, keeps_same, reversed_length}
use Rattle.vs_pages.proofs.memory.MemPages.undo_to.Goals as goal

pub changes-init : goal.changes-init
changes-init c =
    let n : ℕ = length c.args.self.now.log.items in
    let none : 0 ≡ n - n = omega arith in
    record {
      left = omega (arith, c.requires, reversed_length c.args.self.now.log.items);
      fewer = omega arith;
      history = λ away. ap (λ (k : ℕ). drop k (history_of (state_under away c.args.self.now))) none;
      commits = refl;
      committed = refl;
    }

pub changes-preserved : goal.changes-preserved
changes-preserved c =
    let inv = c.changes.invariant in
    let old = c.changes.self in
    let new = c.undo.new.self in
    let n : ℕ = length c.args.self.now.log.items in
    record {
      left = omega (arith, c.changes-test.true, c.len.ensures, c.undo.ensures.log);
      fewer = omega (arith, inv.fewer, c.undo.ensures.log);
      history = λ away. drop_more (history_of (state_under away c.args.self.now)) (history_of (state_under away old)) (history_of (state_under away new)) (moment_of (state_under away old)) (n - length old.log.items) (n - length new.log.items) (inv.history away)
          (ap (λ (ms : List Moment). moment_of (state_under away old) ∷ ms) (c.undo.ensures.history away)) (omega (arith, inv.fewer, c.undo.ensures.log));
      commits = c.undo.ensures.commits ∙ inv.commits;
      committed = c.undo.ensures.committed ∙ inv.committed;
    }

pub returns-clause-back : goal.returns-clause-back
returns-clause-back c = λ away.
    let inv = c.changes.invariant in
    let same : length c.args.self.now.log.items - length c.changes.self.log.items ≡ length (changes_of c.args.self.now) - c.args.mark = omega (arith, c.changes-test.false, c.len.ensures, inv.left, reversed_length c.args.self.now.log.items) in
    inv.history away ∙ ap (λ (k : ℕ). drop k (history_of (state_under away c.args.self.now))) same

pub returns-clause-count : goal.returns-clause-count
returns-clause-count c = omega (arith, c.changes-test.false, c.len.ensures, c.changes.invariant.left, reversed_length c.changes.self.log.items)

pub returns-clause-stays : goal.returns-clause-stays
returns-clause-stays c = keeps_same c.args.self.now c.changes.self c.changes.invariant.committed c.changes.invariant.commits

-- The lines before this one go, or all of them.
use Rattle.std.proofs.Common.{◌≡◌, ◌∙◌, ◌-◌, List, ℕ, arith, ap, length, refl, subst, sym}
use Rattle.vs_edit.specs.Splices.{cut_out}
use Rattle.vs_machine.proofs.NearbyLemmas.{passed-are}
use Rattle.vs_machine.proofs.nearby.Nearby.seat.Goals as goal
use Rattle.vs_machine.proofs.nearby.Nearby.seat.Goals.{then-self-top+then-top-end, else-self-top}

pub returns-clause-lines : goal.returns-clause-lines
returns-clause-lines c = λ text are.
    let old = c.args.self.now in
    let past = c.args.top - old.top in
    let Are : List (List ℕ) → Type 0 = λ lines. lines ≡ cut_out text c.args.top (length lines) in
    elim c.if-self-top.branch [
      | then-self-top+then-top-end w ↦ subst Are (sym (ap (λ s. s.lines) w.self-is ∙ w.pass.ensures.rest)) (passed-are text old.lines old.top are past c.args.top (omega arith) (omega arith))
      | else-self-top w ↦ subst Are (sym (ap (λ s. s.lines) w.self-is ∙ w.new.ensures)) refl
    ]

use Rattle.std.proofs.Common.{ℕ, ◌+◌, ◌≤◌, List, ap, subst, ◌∙◌, arith}
use Rattle.std.proofs.lemmas.List.{length-replicate}
use Rattle.vs_edit.specs.Splices.{splice}
use Rattle.vs_load.specs.Loads.{sample, samples}
use Rattle.vs_load.proofs.Samples.{replace_samples}
use Rattle.vs_load.proofs.load.replace.Goals as goal

pub loop-number-preserved : goal.loop-number-preserved
loop-number-preserved g c = record {
  valid = c.in_ok-put.ensures.valid;
  text = λ n has.
      let at = c.saturating_mul-at.result in
      let before = c.loop-number.invariant.text n has in
      let within : at + 1 ≤ n = omega (arith, c.in_ok-put.ensures.within, g.met.S.LineStore.has_lines c.loop-number.store (samples n) before, length-replicate n sample) in
      let same = ap (λ (lines : List (List ℕ)). splice (samples n) at 1 lines) (c.deref.ensures.value ∙ c.in_ok-line.ensures) in
      subst (λ (text : List (List ℕ)). (g.S.LineStore.shows c.put.new.store).present.Is text) (same ∙ replace_samples n at within) (c.in_ok-put.ensures.text (samples n) before);
}

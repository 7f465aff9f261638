use Rattle.std.proofs.Common.{◌≡◌, ℕ, ◌+◌, ◌≤◌, List, take, ap, subst, ◌∙◌, arith}
use Rattle.std.proofs.lemmas.List.{length-replicate}
use Rattle.vs_edit.specs.Splices.{splice}
use Rattle.vs_load.specs.Loads.{sample, samples}
use Rattle.vs_load.proofs.Samples.{splice_part}
use Rattle.vs_load.proofs.load.fill.Goals as goal

pub loop-done-preserved : goal.loop-done-preserved
loop-done-preserved g c = record {
  valid = c.in_ok-put.ensures.valid;
  text = λ n has.
      let m = n + c.loop-done.done in
      let run = c.min-run.result in
      let before = c.loop-done.invariant.text n has in
      let end : c.len-end.result ≡ m = omega (arith, c.len-end.ensures, g.met.S.LineStore.has_lines c.loop-done.store (samples m) before, length-replicate m sample) in
      let behind = ap (λ (at : ℕ). splice (samples m) at 0 (take run c.deref.result.now)) end in
      let part : run ≤ 10000 = omega arith in
      let put = splice_part c.deref.result.now 10000 run m (c.deref.ensures.value ∙ c.in_ok-lines.ensures) part in
      let next : m + run ≡ n + (c.loop-done.done + run) = omega arith in
      subst (λ (text : List (List ℕ)). (g.S.LineStore.shows c.put.new.store).present.Is text) (behind ∙ put ∙ ap samples next) (c.in_ok-put.ensures.text (samples m) before);
  within = omega arith;
}

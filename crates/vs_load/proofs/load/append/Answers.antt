use Rattle.std.proofs.Common.{◌≡◌, ℕ, ◌+◌, ◌*◌, ◌/◌, ◌≤◌, List, ap, subst, ◌∙◌, arith}
use Rattle.std.proofs.lemmas.List.{length-replicate}
use Rattle.vs_edit.specs.Splices.{splice}
use Rattle.vs_load.specs.Loads.{sample, samples}
use Rattle.vs_load.proofs.Samples.{splice_samples, run_more}
use Rattle.vs_load.proofs.load.append.Goals as goal

pub loop-preserved : goal.loop-preserved
loop-preserved g c = record {
  valid = c.in_ok-put.ensures.valid;
  text = λ n has.
      let m = n + c.loop.counter * c.args.size in
      let middle = c.len-middle.result / 2 in
      let before = c.loop.invariant.text n has in
      let within : middle ≤ m = omega (arith, c.len-middle.ensures, g.met.S.LineStore.has_lines c.loop.store (samples m) before, length-replicate m sample) in
      let same = ap (λ (run : List (List ℕ)). splice (samples m) middle 0 run) (c.deref.ensures.value ∙ c.in_ok-lines.ensures) in
      let next : m + c.args.size ≡ n + (c.loop.counter + 1) * c.args.size = run_more n c.loop.counter c.args.size in
      subst (λ (text : List (List ℕ)). (g.S.LineStore.shows c.put.new.store).present.Is text) (same ∙ splice_samples m middle c.args.size within ∙ ap samples next) (c.in_ok-put.ensures.text (samples m) before);
}

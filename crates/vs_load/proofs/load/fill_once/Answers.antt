use Rattle.std.proofs.Common.{◌≡◌, ℕ, List, ap, subst, ◌∙◌, arith}
use Rattle.std.proofs.lemmas.List.{length-replicate}
use Rattle.std.proofs.lemmas.Result.{on_ok_weaker}
use Rattle.vs_edit.specs.Splices.{splice}
use Rattle.vs_load.specs.Loads.{sample, samples}
use Rattle.vs_load.proofs.Samples.{splice_samples}
use Rattle.vs_load.proofs.load.fill_once.Goals as goal

pub returns-clause-text : goal.returns-clause-text
returns-clause-text g c = on_ok_weaker c.put.result
    (λ put n has.
    let end : c.len-end.result ≡ n = omega (arith, c.len-end.ensures, g.met.S.LineStore.has_lines c.args.store.now (samples n) has, length-replicate n sample) in
    let lines = ap (λ (ls : List (List ℕ)). splice (samples n) c.len-end.result 0 ls) (c.deref.ensures.value ∙ c.in_ok-lines.ensures) in
    subst (λ (text : List (List ℕ)). (g.S.LineStore.shows c.put.new.store).present.Is text) (lines ∙ splice_samples n c.len-end.result c.args.count (omega (arith, end))) (put (samples n) has))
    c.put.ensures.text

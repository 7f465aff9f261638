use Rattle.std.proofs.Common.{◌≡◌, ◌++◌, [], ◌∷◌, ℕ, List, ap, ◌∙◌}
use Rattle.std.proofs.lemmas.List.{replicate_more}
use Rattle.vs_load.specs.Loads.{sample, samples}
use Rattle.vs_load.proofs.load.sample_lines.Goals as goal

pub loop-preserved : goal.loop-preserved
unfolding sample
loop-preserved c =
    let line : c.from_vec.result ≡ sample = c.from_vec.ensures ∙ c.in_ok-bytes.ensures.items_if_clones_equal (λ y is. is) in
    let before = ap (λ (lines : List (List ℕ)). lines ++ c.from_vec.result ∷ []) c.loop.invariant in
    let last = ap (λ (l : List ℕ). samples c.loop.counter ++ l ∷ []) line in
    c.in_ok-push.ensures.items ∙ before ∙ last ∙ replicate_more c.loop.counter sample

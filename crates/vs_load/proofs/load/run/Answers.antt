use Rattle.std.proofs.Common.{◌≡◌, ℕ, ◌+◌, ◌*◌, refl, ap, subst, ◌∙◌, arith}
use Rattle.std.proofs.lemmas.List.{length-replicate}
use Rattle.vs_pages.specs.Memory.{present_of}
use Rattle.vs_tree.specs.Texts.{HasText}
use Rattle.vs_load.specs.Loads.{sample, samples, lines_after, counts_of}
use Rattle.vs_load.specs.declared.load.Counts.{Counts}
use Rattle.vs_load.proofs.Samples.{bytes_of-samples}
use Rattle.vs_tree_blocks.proofs.FirstLemmas.{fresh_first}
use Rattle.vs_load.proofs.load.run.Goals as goal

abbrev counted : ℕ → ℕ → ℕ → ℕ → Counts
counted i j k p = record { lines = i; bytes = j; sum = k; pages = p }

same_counts : (i j k n p : ℕ) → i ≡ n → j ≡ 40 * n → k ≡ 4690 * n → counted i j k p ≡ counts_of n p
same_counts i j k n p a b d = ap (λ (x : ℕ). counted x j k p) a ∙ ap (λ (x : ℕ). counted n x k p) b ∙ ap (λ (x : ℕ). counted n (40 * n) x p) d

pub new-requires-2-clause-there : goal.new-requires-2-clause-there
new-requires-2-clause-there c = λ _. fresh_first _ c.in_ok-memory.ensures.present

pub returns : goal.returns
returns c =
    let n = lines_after c.args.load in
    let store = c.put_all.new.store in
    let put = c.in_ok-put_all.ensures.text 0 (record { told = refl; has = c.in_ok-tree.ensures.text refl }) in
    let all : 0 + n ≡ n = omega arith in
    let has : HasText (present_of store.pages) store.tree.now.present (samples n) =
    subst (λ (k : ℕ). HasText (present_of store.pages) store.tree.now.present (samples k)) all put.has in
    let lines : c.len-lines.result ≡ n = omega (arith, c.len-lines.ensures, has.lines, length-replicate n sample) in
    let bytes : c.bytes-bytes.result ≡ 40 * n = omega (arith, c.bytes-bytes.ensures, has.bytes, bytes_of-samples n) in
    let sum : c.in_ok-sum.sum ≡ 4690 * n = c.in_ok-sum.ensures refl n has in
    same_counts c.len-lines.result c.bytes-bytes.result c.in_ok-sum.sum n _ lines bytes sum

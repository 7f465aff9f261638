-- All lines of a load are the same, so a text of them is known by their number.
use Rattle.std.proofs.Common.{◌≡◌, ℕ, zero, suc, ◌+◌, ◌-◌, ◌*◌, ◌≤◌, List, [], ◌∷◌, ◌++◌, take, drop, refl, ap, ◌∙◌, arith}
use Rattle.std.specs.List.{sum}
use Rattle.std.proofs.lemmas.List.{replicate-append-replicate, take-replicate, drop-replicate}
use Rattle.std.proofs.lemmas.List.Sums.{sum_by-append}
use Rattle.std.proofs.Math.Nat.{suc-mul}
use Rattle.vs_text.specs.Text.{bytes_of, file_of}
use Rattle.vs_edit.specs.Splices.{splice}
use Rattle.vs_load.specs.Loads.{sample, samples}

pub splice_samples : (n at m : ℕ) → at ≤ n → splice (samples n) at 0 (samples m) ≡ samples (n + m)
splice_samples n at m within =
    let front : take at (samples n) ≡ samples at = take-replicate at n sample within in
    let back : drop (at + 0) (samples n) ≡ samples (n - (at + 0)) = drop-replicate (at + 0) n sample in
    let all : at + m + (n - (at + 0)) ≡ n + m = omega arith in
    rw (front, back) (simp replicate-append-replicate (ap samples all))

-- a line in place of another
pub replace_samples : (n at : ℕ) → at + 1 ≤ n → splice (samples n) at 1 (samples 1) ≡ samples n
replace_samples n at within =
    let front : take at (samples n) ≡ samples at = take-replicate at n sample (omega arith) in
    let back : drop (at + 1) (samples n) ≡ samples (n - (at + 1)) = drop-replicate (at + 1) n sample in
    let all : at + 1 + (n - (at + 1)) ≡ n = omega arith in
    rw (front, back) (simp replicate-append-replicate (ap samples all))

-- a run of lines more
pub run_more : (n i size : ℕ) → n + i * size + size ≡ n + (i + 1) * size
run_more n i size = omega (arith, suc-mul i size)

-- the first lines of a run go after a text
pub splice_part : (lines : List (List ℕ)) (all part n : ℕ) → lines ≡ samples all → part ≤ all → splice (samples n) n 0 (take part lines) ≡ samples (n + part)
splice_part lines all part n is within =
    ap (λ (run : List (List ℕ)). splice (samples n) n 0 (take part run)) is ∙ (ap (λ (run : List (List ℕ)). splice (samples n) n 0 run) (take-replicate part all sample within) ∙ splice_samples n n part (omega arith))

pub bytes_of-samples : (n : ℕ) → bytes_of (samples n) ≡ 40 * n
unfolding sample
bytes_of-samples zero = refl
bytes_of-samples (suc n) = omega (arith, bytes_of-samples n)

-- the sum of the bytes of a text, with line ends
pub sum-file_of-samples : (n : ℕ) → sum (file_of (samples n)) ≡ 4690 * n
unfolding sample
sum-file_of-samples zero = refl
sum-file_of-samples (suc n) = omega (arith, sum-file_of-samples n, sum_by-append (λ x. x) (sample ++ 10 ∷ []) (file_of (samples n)))

-- the same of a run of lines out of a text
pub sum-run : (n at count : ℕ) → at + count ≤ n → sum (file_of (take count (drop at (samples n)))) ≡ 4690 * count
sum-run n at count within =
    let run : take count (drop at (samples n)) ≡ samples count =
    rw (drop-replicate at n sample) (take-replicate count (n - at) sample (omega arith)) in
    ap (λ (text : List (List ℕ)). sum (file_of text)) run ∙ sum-file_of-samples count

-- A line's first bytes say what it means.
use Rattle.std.proofs.Common.{Bool, ◌≡◌, ◌≤◌, ◌+◌, ◌∙◌, ℕ, List, take, length, min, nat_lt, ap, sym, arith, length-take}
use Rattle.std.proofs.Math.Seq.{take-length}
use Rattle.std.proofs.lemmas.Bool.Decides.{nat_tests}
use Rattle.std.proofs.lemmas.List.{take_min}
use Rattle.vs_exparse.specs.Bytes.{max_line_bytes, skip, is_lead}
use Rattle.vs_exparse.specs.Meaning.{meaning_of, meaning_at, is_too_long}
use Rattle.vs_exparse.specs.Parts.{start_of}

pub take-whole : {X : Type 0} (n : ℕ) (xs : List X) → length xs ≤ n → take n xs ≡ xs
take-whole n xs within =
    let whole : min n (length xs) ≡ length xs = omega arith in
    sym (take_min n xs) ∙ ap (λ k. take k xs) whole ∙ take-length xs

same-size : (n m : ℕ) → m ≡ min (max_line_bytes + 1) n → nat_lt max_line_bytes m ≡ nat_lt max_line_bytes n
same-size n m is = grind (arith, nat_tests)

pub first-bytes : (line : List ℕ) → meaning_of (take (max_line_bytes + 1) line) ≡ meaning_of line
first-bytes line =
    let short : length (take (max_line_bytes + 1) line) ≤ max_line_bytes + 1 = simp length-take (omega arith) in
    let kept : take (max_line_bytes + 1) (take (max_line_bytes + 1) line) ≡ take (max_line_bytes + 1) line = take-whole (max_line_bytes + 1) (take (max_line_bytes + 1) line) short in
    let size : is_too_long (take (max_line_bytes + 1) line) ≡ is_too_long line =
    same-size (length line) (length (take (max_line_bytes + 1) line)) (length-take (max_line_bytes + 1) line) in
    let start : start_of (take (max_line_bytes + 1) line) ≡ start_of line = ap (skip is_lead) kept in
    ap (λ (long : Bool). meaning_at long (start_of (take (max_line_bytes + 1) line))) size ∙ ap (λ (from : List ℕ). meaning_at (is_too_long line) from) start

-- How the bytes of a digest grow by a line.
use Rattle.std.proofs.Common.{◌≡◌, ◌+◌, ◌<◌, ℕ, List, [], ◌∷◌, ◌++◌, length, get_or, take, map, sym, ap, ◌∙◌, arith}
use Rattle.std.proofs.lemmas.List.{flat_map_more, map-append, take_more, take_all}
use Rattle.sha2.specs.Sha256.{sha256}
use Rattle.vs_text.specs.Text.{stored_line}
use Rattle.vs_ubind.specs.Digest.{digest_of, ended}

-- the stored form of the lines before this one, each followed by one zero byte
abbrev pub ended_before : List (List ℕ) → ℕ → List ℕ
ended_before text at = ended (map stored_line (take at text))

pub ended_more : (text : List (List ℕ)) (at : ℕ) (line : List ℕ) → at < length text → line ≡ get_or text at [] → ended_before text at ++ (stored_line line ++ 0 ∷ []) ≡ ended_before text (at + 1)
ended_more text at line within is =
    flat_map_more (λ (l : List ℕ). l ++ 0 ∷ []) [] (map stored_line (take at text)) (stored_line line)
    ∙ ap ended (sym (map-append stored_line (take at text) (line ∷ []))
    ∙ ap (map stored_line) (ap (λ (l : List ℕ). take at text ++ l ∷ []) is ∙ sym (take_more text at [] within)))

pub ended_all : (text : List (List ℕ)) (count : ℕ) (digest : List ℕ) → length text ≡ count → 0 < count → digest ≡ sha256 (ended_before text count) → digest ≡ digest_of text
unfolding digest_of
ended_all [] count digest long some is = absurd (omega (arith, long, some))
ended_all (line ∷ text) count digest long some is =
    is ∙ ap (λ (lines : List (List ℕ)). sha256 (ended (map stored_line lines))) (take_all count (line ∷ text) (omega (arith, long)))

pub ended_none : (text : List (List ℕ)) (digest : List ℕ) → length text ≡ 0 → digest ≡ sha256 (0 ∷ []) → digest ≡ digest_of text
unfolding digest_of
ended_none [] digest long is = is
ended_none (line ∷ text) digest long is = absurd (omega (arith, long))

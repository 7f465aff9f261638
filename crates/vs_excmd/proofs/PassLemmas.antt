-- Lines that were passed in search of a text, and the one in which it stands.
use Rattle.std.proofs.Common.{◌≡◌, ◌∙◌, ◌<◌, ◌≤◌, ◌+◌, ◌-◌, ◌||◌, ℕ, List, [], ◌∷◌, All, Bool, true, false, length, take, drop, ap, refl, subst, sym, arith, take-take}
use Rattle.std.specs.List.{list_any}
use Rattle.std.proofs.lemmas.List.{drop_all}
use Rattle.std.proofs.lemmas.List.Elements.{All-head, All-tail}
use Rattle.memchr.specs.Find.{matches}
use Rattle.vs_edit.specs.Splices.{cut_out}
use Rattle.vs_excmd.proofs.LimitLemmas.{not_empty}
use Rattle.vs_excmd.proofs.MatchLemmas.{first-from, none-from}
use Rattle.vs_excmd.proofs.RewriteLemmas.{all-before, or-first, or-second}
use Rattle.vs_excmd.specs.Rewriting.{IsRewriting, is_long}
use Rattle.vs_excmd.specs.Substitute.{has_match}
use Rattle.vs_reads.specs.Searching.{Lacks, FindsIn}

pub no-match : (needle line : List ℕ) → Lacks needle line → has_match needle line ≡ false
no-match needle line lacks = rw (none-from line needle 0 (omega arith) lacks) refl

pub match-in : (needle line : List ℕ) → 0 < length needle → FindsIn needle line → has_match needle line ≡ true
match-in needle line some stands =
    rw (first-from line needle 0 stands.place (omega arith) some stands.first, not_empty (0 + stands.place) (matches line needle (0 + stands.place + length needle))) refl

pub none-hit : (needle : List ℕ) (lines : List (List ℕ)) → All (Lacks needle) lines → list_any (has_match needle) lines ≡ false
none-hit needle [] lacking = refl
none-hit needle (line ∷ lines) lacking =
    rw (no-match needle line (All-head (Lacks needle) line lines lacking), none-hit needle lines (All-tail (Lacks needle) line lines lacking)) refl

-- where none matches, none is too long
pub none-long : (hits : List ℕ → Bool) (f : List ℕ → List ℕ) (lines : List (List ℕ)) → list_any hits lines ≡ false → list_any (is_long hits f) lines ≡ false
none-long hits f [] none = refl
none-long hits f (line ∷ lines) none =
    rw (or-first (hits line) (list_any hits lines) none, none-long hits f lines (or-second (hits line) (list_any hits lines) none)) refl

-- and all of them stand before the first that matches
pub none-rewritten : (hits : List ℕ → Bool) (f : List ℕ → List ℕ) (lines : List (List ℕ)) (before : ℕ) → length lines ≡ before → list_any hits lines ≡ false → IsRewriting hits f lines before [] 0
none-rewritten hits f lines before size none =
    let past : drop before lines ≡ [] = drop_all before lines (omega (arith, size)) in
    record {
      before_is = sym (all-before hits lines none ∙ size);
      new_is = rw past refl;
      kept_is = rw past refl;
      within = omega arith;
      any = none;
    }

-- lines that were passed, by their place in the text
pub front-lacks : (needle : List ℕ) (text : List (List ℕ)) (from top count n before : ℕ) → from ≡ top → n ≡ before → before ≤ count
    → All (Lacks needle) (take n (cut_out text from count)) → All (Lacks needle) (cut_out text top before)
front-lacks needle text from top count n before from_is n_is within lacking =
    subst (All (Lacks needle)) (ap (λ k. take k (cut_out text from count)) n_is ∙ take-take before count (drop from text) within ∙ ap (λ k. cut_out text k before) from_is) lacking

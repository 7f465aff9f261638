-- The first match from a place on is found in the rest of the line, and a line is put together match by match.
use Rattle.std.proofs.Common.{◌≡◌, ◌<◌, ◌≤◌, ◌+◌, ◌-◌, ◌∙◌, ◌∷◌, ℕ, List, [], length, drop, get_or, Some, None, ap, sym, arith, length-drop, refl, Bool, true, false, if◌then◌else◌, ◌++◌, take, append_assoc}
use Rattle.std.proofs.lemmas.Bool.{false≢true}
use Rattle.std.proofs.lemmas.List.{get_or-drop, take_at}
use Rattle.memchr.specs.Find.{OccursAt, FindsNeedle, NoneBefore, matches, match_len}
use Rattle.vs_excmd.specs.Substitute.{rebuilt, replaced}
use Rattle.memchr.proofs.lemmas.MatchLemmas.{matches-none, matches-first}

pub occurs-on : (hay needle : List ℕ) (from k : ℕ) → from ≤ length hay → OccursAt (drop from hay) needle k → OccursAt hay needle (from + k)
occurs-on hay needle from k within occurs =
    let size = length-drop from hay in
    record {
      fits = omega (arith, size, occurs.fits);
      reads = λ j below.
          let place : (from + k) + j ≡ from + (k + j) = omega arith in
          ap (λ n. get_or hay n 0) place ∙ sym (get_or-drop from hay (k + j) 0) ∙ occurs.reads j below;
    }

pub occurs-back : (hay needle : List ℕ) (from m : ℕ) → from ≤ m → OccursAt hay needle m → OccursAt (drop from hay) needle (m - from)
occurs-back hay needle from m low occurs =
    let size = length-drop from hay in
    record {
      fits = omega (arith, size, occurs.fits);
      reads = λ j below.
          let place : from + ((m - from) + j) ≡ m + j = omega arith in
          get_or-drop from hay ((m - from) + j) 0 ∙ ap (λ n. get_or hay n 0) place ∙ occurs.reads j below;
    }

pub none-from : (hay needle : List ℕ) (from : ℕ) → from ≤ length hay → FindsNeedle (drop from hay) needle 0 None → matches hay needle from ≡ []
none-from hay needle from within found =
    let size = length-drop from hay in
    matches-none hay needle from (λ k low high occurs. found (k - from) (omega arith) (omega (arith, size)) (occurs-back hay needle from k low occurs))

pub first-from : (hay needle : List ℕ) (from k : ℕ) → from ≤ length hay → 0 < length needle → FindsNeedle (drop from hay) needle 0 (Some k) →
    matches hay needle from ≡ (from + k) ∷ matches hay needle (from + k + length needle)
first-from hay needle from k within some found =
    let size = length-drop from hay in
    let occurs = occurs-on hay needle from k within found.1 in
    let width : match_len needle ≡ length needle = omega arith in
    let before : NoneBefore (OccursAt hay needle) from (length hay + 1) (from + k) = record {
      low = omega arith;
      high = omega (arith, occurs.fits);
      before = λ j low high met. found.0.before (j - from) (omega arith) (omega arith) (occurs-back hay needle from j low met);
    } in
    matches-first hay needle from (from + k) before occurs ∙ ap (λ n. (from + k) ∷ matches hay needle (from + k + n)) width

-- a line up to its first match
pub replaced-first : (all : Bool) (line literal new : List ℕ) (place width : ℕ) (start out : List ℕ) → width ≡ length literal → start ≡ [] →
    matches line literal 0 ≡ place ∷ matches line literal (place + length literal) → out ≡ start ++ (take (place - 0) (drop 0 line) ++ new) →
    out ++ rebuilt line (length literal) new (place + width) (if all then matches line literal (place + width) else []) ≡ replaced all literal new line
replaced-first true line literal new place width start out size none first put = rw (put, none, size, first) refl
replaced-first false line literal new place width start out size none first put = rw (put, none, size, first) refl

-- and up to the next one
pub replaced-next : (all : Bool) (line literal new whole : List ℕ) (from place width : ℕ) (out next : List ℕ) → width ≡ length literal → all ≡ true →
    matches line literal from ≡ place ∷ matches line literal (place + length literal) → next ≡ out ++ (take (place - from) (drop from line) ++ new) →
    out ++ rebuilt line (length literal) new from (if all then matches line literal from else []) ≡ whole →
    next ++ rebuilt line (length literal) new (place + width) (if all then matches line literal (place + width) else []) ≡ whole
replaced-next true line literal new whole from place width out next size is first put so_far =
    let piece = take (place - from) (drop from line) ++ new in
    let rest = rebuilt line (length literal) new (place + length literal) (matches line literal (place + length literal)) in
    let same : rebuilt line (length literal) new (place + width) (matches line literal (place + width)) ≡ rest = rw size refl in
    let more : out ++ (piece ++ rest) ≡ whole = rw first at so_far in
    ap (λ bytes. bytes ++ rebuilt line (length literal) new (place + width) (matches line literal (place + width))) put
    ∙ ap (λ bytes. (out ++ piece) ++ bytes) same ∙ append_assoc out piece rest ∙ more
replaced-next false line literal new whole from place width out next size is first put so_far = absurd (false≢true is)

-- bytes before a match, and what stands in its place, after other bytes
pub put-both : (line out before new first second : List ℕ) (from count : ℕ) (tail : List ℕ) → tail ≡ drop from line → before ≡ take count tail →
    first ≡ out ++ before → second ≡ first ++ new → second ≡ out ++ (take count (drop from line) ++ new)
put-both line out before new first second from count tail tail_is before_is first_is second_is =
    second_is ∙ ap (λ bytes. bytes ++ new) first_is ∙ append_assoc out before new ∙ ap (λ bytes. out ++ (bytes ++ new)) (before_is ∙ ap (take count) tail_is)

-- bytes are the front of what they are completed to
pub front-of : (bytes rest whole : List ℕ) → bytes ++ rest ≡ whole → bytes ≡ take (length bytes) whole
front-of bytes rest whole is = sym (take_at bytes rest (length bytes) refl) ∙ ap (take (length bytes)) is

-- What comes of one line, and that it is the same whether a replacement is whole or only too long for a line.
use Rattle.std.proofs.Common.{◌≡◌, ◌≢◌, ◌<◌, ◌≤◌, ◌+◌, ◌-◌, inl, inr, ℕ, List, [], ◌∷◌, ◌++◌, length, take, drop, Bool, true, false, not, refl, ap, sym, subst, ◌∙◌, arith, length-append}
use Rattle.std.proofs.lemmas.Bool.{false≢true}
use Rattle.std.proofs.lemmas.Bool.Decides.{nat_tests}
use Rattle.std.proofs.lemmas.List.Elements.{All-append, All-drop, All-take}
use Rattle.memchr.specs.Find.{matches}
use Rattle.vs_text.specs.Text.{IsLine}
use Rattle.vs_text.specs.Limits.{IsShort}
use Rattle.vs_text.specs.declared.TheConstants.{MAX_LINE_BYTES}
use Rattle.vs_edit.specs.Splices.{cut_out}
use Rattle.vs_exparse.specs.Pieces.{literal_of, replaced_by}
use Rattle.vs_excmd.specs.declared.place.Span.{Span}
use Rattle.vs_exparse.specs.Bytes.{is_empty}
use Rattle.vs_excmd.specs.declared.replacing.Rewritten.{Rewritten}
use Rattle.vs_excmd.specs.declared.replacing.Rewritten.TheVariants as rewritten
use Rattle.vs_excmd.specs.Change.{before, is_short, size_of}
use Rattle.vs_excmd.specs.Substitute.{has_match, places_in, rebuilt, replaced, substituted, substituted_lines}
use Rattle.vs_excmd.specs.Rewriting.{AreKept, Finds, StandsIn, is_long, is_too_long}
use Rattle.vs_excmd.proofs.LimitLemmas.{not_empty}

none-of : (places : List ℕ) → not (is_empty places) ≡ false → places ≡ []
none-of [] none = refl
none-of (place ∷ places) none = absurd (false≢true (sym none ∙ ap not (not_empty place places)))

-- a line without a match stays
unmatched-by : (all : Bool) (line literal new : List ℕ) → matches line literal 0 ≡ [] → replaced all literal new line ≡ line
unmatched-by true line literal new none = rw none refl
unmatched-by false line literal new none = rw none refl

pub unmatched-same : (all : Bool) (literal new line : List ℕ) → has_match literal line ≡ false → replaced all literal new line ≡ line
unmatched-same all literal new line miss = unmatched-by all line literal new (none-of (matches line literal 0) miss)

-- a line with a match has the replacement in it
rebuilt-new : (line : List ℕ) (width : ℕ) (new : List ℕ) (from place : ℕ) (places : List ℕ) → length new ≤ length (rebuilt line width new from (place ∷ places))
rebuilt-new line width new from place places = simp length-append (omega arith)

matched-by : (all : Bool) (line literal new : List ℕ) (places : List ℕ) → matches line literal 0 ≡ places → has_match literal line ≡ true → length new ≤ length (replaced all literal new line)
matched-by all line literal new [] is hit = absurd (false≢true (sym (ap (λ places. not (is_empty places)) is) ∙ hit))
matched-by true line literal new (place ∷ places) is hit = rw is (rebuilt-new line (length literal) new 0 place places)
matched-by false line literal new (place ∷ places) is hit = rw is (rebuilt-new line (length literal) new 0 place [])

matched-new : (all : Bool) (literal new line : List ℕ) → has_match literal line ≡ true → length new ≤ length (replaced all literal new line)
matched-new all literal new line hit = matched-by all line literal new (matches line literal 0) refl hit

both-long : (all : Bool) (literal bytes whole line : List ℕ) (found : Rewritten) → MAX_LINE_BYTES < length bytes → MAX_LINE_BYTES < length whole →
    Finds (has_match literal) (replaced all literal bytes) line found → Finds (has_match literal) (replaced all literal whole) line found
both-long all literal bytes whole line rewritten.Unmatched long whole_long finds = (finds.0, unmatched-same all literal whole line finds.0)
both-long all literal bytes whole line (rewritten.New text) long whole_long finds =
    absurd (omega (arith, long, matched-new all literal bytes line finds.0, ap length finds.1, finds.2))
both-long all literal bytes whole line rewritten.TooLong long whole_long finds =
    (finds.0, omega (arith, whole_long, matched-new all literal whole line finds.0))

pub finds-whole : (all : Bool) (literal bytes whole line : List ℕ) (found : Rewritten) → StandsIn bytes whole →
    Finds (has_match literal) (replaced all literal bytes) line found → Finds (has_match literal) (replaced all literal whole) line found
finds-whole all literal bytes whole line found (inl same) finds = subst (λ b. Finds (has_match literal) (replaced all literal b) line found) same finds
finds-whole all literal bytes whole line found (inr long) finds = both-long all literal bytes whole line found long.0 long.1 finds

pub finds-long : (hits : List ℕ → Bool) (f : List ℕ → List ℕ) (line : List ℕ) (found : Rewritten) → Finds hits f line found → is_long hits f line ≡ is_too_long found
finds-long hits f line rewritten.Unmatched finds = rw finds.0 refl
finds-long hits f line (rewritten.New text) finds =
    let short : is_short (f line) ≡ true = let size = ap length finds.1 in let fits = finds.2 in grind (arith, nat_tests) in
    rw (finds.0, short) refl
finds-long hits f line rewritten.TooLong finds =
    let long : is_short (f line) ≡ false = let size = finds.1 in grind (arith, nat_tests) in
    rw (finds.0, long) refl

pub finds-short : (hits : List ℕ → Bool) (f : List ℕ → List ℕ) (line : List ℕ) (found : Rewritten) → Finds hits f line found → AreKept IsShort found
finds-short hits f line rewritten.Unmatched finds = tt
finds-short hits f line (rewritten.New text) finds = finds.2
finds-short hits f line rewritten.TooLong finds = tt

rebuilt-line : (line : List ℕ) (width : ℕ) (new : List ℕ) (from : ℕ) (places : List ℕ) → IsLine line → IsLine new → IsLine (rebuilt line width new from places)
rebuilt-line line width new from [] line_is new_is = All-drop (λ byte. byte ≢ 10) from line line_is
rebuilt-line line width new from (place ∷ places) line_is new_is =
    let before = take (place - from) (drop from line) in
    All-append (λ byte. byte ≢ 10) (before ++ new) (rebuilt line width new (place + width) places)
    (All-append (λ byte. byte ≢ 10) before new (All-take (λ byte. byte ≢ 10) (place - from) (drop from line) (All-drop (λ byte. byte ≢ 10) from line line_is)) new_is)
    (rebuilt-line line width new (place + width) places line_is new_is)

pub finds-line : (all : Bool) (literal new line : List ℕ) (found : Rewritten) → Finds (has_match literal) (replaced all literal new) line found → IsLine line → IsLine new → AreKept IsLine found
finds-line all literal new line rewritten.Unmatched finds line_is new_is = tt
finds-line all literal new line (rewritten.New text) finds line_is new_is =
    subst IsLine (sym finds.1) (rebuilt-line line (length literal) new 0 (places_in all literal line) line_is new_is)
finds-line all literal new line rewritten.TooLong finds line_is new_is = tt

one-hit : (literal line : List ℕ) (place : ℕ) → matches line literal 0 ≡ place ∷ matches line literal (place + length literal) → has_match literal line ≡ true
one-hit literal line place first = ap (λ places. not (is_empty places)) first ∙ ap not (not_empty place (matches line literal (place + length literal)))

one-replaced : (literal new line : List ℕ) (place width : ℕ) → width ≡ length literal → matches line literal 0 ≡ place ∷ matches line literal (place + length literal) →
    rebuilt line width new 0 (place ∷ []) ≡ replaced false literal new line
one-replaced literal new line place width size first = rw (size, first) refl

-- a line in which the first match is replaced
pub finds-one : (literal new line : List ℕ) (place width : ℕ) (found : Rewritten) → width ≡ length literal → matches line literal 0 ≡ place ∷ matches line literal (place + length literal) →
    Finds (λ _. true) (λ bytes. rebuilt bytes width new 0 (place ∷ [])) line found → Finds (has_match literal) (replaced false literal new) line found
finds-one literal new line place width rewritten.Unmatched size first finds = absurd (false≢true (sym finds.0))
finds-one literal new line place width (rewritten.New text) size first finds =
    (one-hit literal line place first, finds.1 ∙ one-replaced literal new line place width size first, finds.2)
finds-one literal new line place width rewritten.TooLong size first finds =
    (one-hit literal line place first, subst (λ whole. MAX_LINE_BYTES < length whole) (one-replaced literal new line place width size first) finds.1)

-- a substitution by the bytes that a pattern finds
pub same-meaning : (pattern written : List ℕ) (all : Bool) (text : List (List ℕ)) (span : Span) (needle : List ℕ) (top count : ℕ) → needle ≡ literal_of pattern → top ≡ before span → count ≡ size_of span →
    substituted_lines (has_match needle) (replaced all needle (replaced_by (literal_of pattern) written)) top (cut_out text top count) ≡ substituted pattern written all text span
same-meaning pattern written all text span needle top count needle_is top_is count_is =
    let whole = replaced_by (literal_of pattern) written in
    ap (λ needle. substituted_lines (has_match needle) (replaced all needle whole) top (cut_out text top count)) needle_is
    ∙ (ap (λ top. substituted_lines (has_match (literal_of pattern)) (replaced all (literal_of pattern) whole) top (cut_out text top count)) top_is
    ∙ ap (λ count. substituted_lines (has_match (literal_of pattern)) (replaced all (literal_of pattern) whole) (before span) (cut_out text (before span) count)) count_is)

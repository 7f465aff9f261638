-- Lines that are rewritten one by one.
use Rattle.std.proofs.Common.{◌≡◌, ◌≤◌, ◌+◌, ◌||◌, ℕ, List, [], ◌∷◌, ◌++◌, length, drop, map, Bool, true, false, not, refl, ap, sym, ◌∙◌, arith, length-append}
use Rattle.std.specs.List.{list_any, prefix_len}
use Rattle.std.proofs.lemmas.List.{map-append, drop_all, drop-append-le, take-append-le}
use Rattle.std.proofs.Math.Seq.{take-length}
use Rattle.std.proofs.lemmas.List.Sums.{prefix_len-le-length}
use Rattle.std.proofs.lemmas.Bool.{false≢true}
use Rattle.vs_exparse.specs.Bytes.{is_empty}
use Rattle.vs_excmd.proofs.LimitLemmas.{not_empty}
use Rattle.vs_excmd.specs.Rewriting.{IsRewriting}
use Rattle.vs_excmd.specs.Substitute.{up_to_last}

or-false : (b : Bool) → (b || false) ≡ b
or-false true = refl
or-false false = refl

or-true : (b : Bool) → (b || true) ≡ true
or-true true = refl
or-true false = refl

or-assoc : (a b c : Bool) → (a || (b || c)) ≡ ((a || b) || c)
or-assoc true b c = refl
or-assoc false b c = refl

pub any-more : (hits : List ℕ → Bool) (lines : List (List ℕ)) (line : List ℕ) → list_any hits (lines ++ line ∷ []) ≡ (list_any hits lines || hits line)
any-more hits [] line = or-false (hits line)
any-more hits (first ∷ lines) line = rw (any-more hits lines line) (or-assoc (hits first) (list_any hits lines) (hits line))

pub last-hit : (hits : List ℕ → Bool) (lines : List (List ℕ)) (line : List ℕ) → hits line ≡ true → up_to_last hits (lines ++ line ∷ []) ≡ lines ++ line ∷ []
last-hit hits [] line is = rw is refl
last-hit hits (first ∷ lines) line is = rw (any-more hits lines line, is, or-true (list_any hits lines), or-true (hits first), last-hit hits lines line is) refl

pub last-miss : (hits : List ℕ → Bool) (lines : List (List ℕ)) (line : List ℕ) → hits line ≡ false → up_to_last hits (lines ++ line ∷ []) ≡ up_to_last hits lines
last-miss hits [] line miss = rw miss refl
last-miss hits (first ∷ lines) line miss = rw (any-more hits lines line, miss, or-false (list_any hits lines), last-miss hits lines line miss) refl

before-hit : (hits : List ℕ → Bool) (lines : List (List ℕ)) (line : List ℕ) → hits line ≡ true →
    prefix_len (λ line. not (hits line)) (lines ++ line ∷ []) ≡ prefix_len (λ line. not (hits line)) lines
before-hit hits [] line is = rw is refl
before-hit hits (first ∷ lines) line is = rw (before-hit hits lines line is) refl

pub or-first : (a b : Bool) → (a || b) ≡ false → a ≡ false
or-first true b none = none
or-first false b none = refl

pub or-second : (a b : Bool) → (a || b) ≡ false → b ≡ false
or-second true b none = cc
or-second false b none = none

not-empty : {X : Type 0} (xs : List X) (x : X) → not (is_empty (xs ++ x ∷ [])) ≡ true
not-empty [] x = ap not (not_empty x [])
not-empty (y ∷ xs) x = ap not (not_empty y (xs ++ x ∷ []))

pub all-before : (hits : List ℕ → Bool) (lines : List (List ℕ)) → list_any hits lines ≡ false → prefix_len (λ line. not (hits line)) lines ≡ length lines
all-before hits [] none = refl
all-before hits (first ∷ lines) none =
    let first_miss : hits first ≡ false = or-first (hits first) (list_any hits lines) none in
    rw (first_miss, all-before hits lines (or-second (hits first) (list_any hits lines) none)) (omega arith)

none-before : (hits : List ℕ → Bool) (lines : List (List ℕ)) (before : ℕ) → before ≡ prefix_len (λ line. not (hits line)) lines → list_any hits lines ≡ false → before ≡ length lines
none-before hits lines before is none = is ∙ all-before hits lines none

before-some-by : (hits : List ℕ → Bool) (first : List ℕ) (lines : List (List ℕ)) (line : List ℕ) (b : Bool) → hits first ≡ b → (hits first || list_any hits lines) ≡ true →
    (list_any hits lines ≡ true → prefix_len (λ line. not (hits line)) (lines ++ line ∷ []) ≡ prefix_len (λ line. not (hits line)) lines) →
    prefix_len (λ line. not (hits line)) (first ∷ (lines ++ line ∷ [])) ≡ prefix_len (λ line. not (hits line)) (first ∷ lines)
before-some-by hits first lines line true is some more = rw is refl
before-some-by hits first lines line false is some more =
    let later : list_any hits lines ≡ true = rw is at some in
    rw (is, more later) refl

-- where no line matched so far and the next does not
before-none : (hits : List ℕ → Bool) (lines : List (List ℕ)) (line : List ℕ) → hits line ≡ false → list_any hits lines ≡ false →
    prefix_len (λ line. not (hits line)) (lines ++ line ∷ []) ≡ length lines + 1
before-none hits [] line miss none = rw miss refl
before-none hits (first ∷ lines) line miss none =
    let first_miss : hits first ≡ false = or-first (hits first) (list_any hits lines) none in
    let rest_miss : list_any hits lines ≡ false = or-second (hits first) (list_any hits lines) none in
    rw (first_miss, before-none hits lines line miss rest_miss) (omega arith)

-- where a line matched, the next changes nothing
before-some : (hits : List ℕ → Bool) (lines : List (List ℕ)) (line : List ℕ) → list_any hits lines ≡ true →
    prefix_len (λ line. not (hits line)) (lines ++ line ∷ []) ≡ prefix_len (λ line. not (hits line)) lines
before-some hits [] line some = cc
before-some hits (first ∷ lines) line some = before-some-by hits first lines line (hits first) refl some (before-some hits lines line)

pub start : (hits : List ℕ → Bool) (f : List ℕ → List ℕ) → IsRewriting hits f [] 0 [] 0
start hits f = record { before_is = refl; new_is = refl; kept_is = refl; within = omega arith; any = refl }

-- a line that matches
pub add-hit : (hits : List ℕ → Bool) (f : List ℕ → List ℕ) (lines new : List (List ℕ)) (before kept : ℕ) (line text : List ℕ) → IsRewriting hits f lines before new kept →
    hits line ≡ true → text ≡ f line → IsRewriting hits f (lines ++ line ∷ []) before (new ++ text ∷ []) (length (new ++ text ∷ []))
add-hit hits f lines new before kept line text so_far is text_is =
    let short : before ≤ length lines = omega (arith, so_far.before_is, prefix_len-le-length (λ line. not (hits line)) lines) in
    let rest : drop before (lines ++ line ∷ []) ≡ drop before lines ++ line ∷ [] = drop-append-le before lines (line ∷ []) short in
    let whole : new ++ text ∷ [] ≡ map f (drop before lines ++ line ∷ []) =
    rw (text_is, so_far.new_is) (sym (map-append f (drop before lines) (line ∷ []))) in
    record {
      before_is = so_far.before_is ∙ sym (before-hit hits lines line is);
      new_is = rw rest whole;
      kept_is = rw (rest, last-hit hits (drop before lines) line is) (take-length (new ++ text ∷ []) ∙ whole);
      within = omega arith;
      any = rw (any-more hits lines line, is, or-true (list_any hits lines)) (sym (not-empty new text));
    }

-- a line that does not match, before one that does
pub add-before : (hits : List ℕ → Bool) (f : List ℕ → List ℕ) (lines : List (List ℕ)) (before kept : ℕ) (line : List ℕ) → IsRewriting hits f lines before [] kept →
    hits line ≡ false → IsRewriting hits f (lines ++ line ∷ []) (before + 1) [] kept
add-before hits f lines before kept line so_far miss =
    let all_before : before ≡ length lines = none-before hits lines before so_far.before_is so_far.any in
    let past : drop (before + 1) (lines ++ line ∷ []) ≡ [] = drop_all (before + 1) (lines ++ line ∷ []) (simp length-append (omega arith)) in
    let none : kept ≡ 0 = omega (arith, so_far.within) in
    record {
      before_is = ap (λ n. n + 1) all_before ∙ sym (before-none hits lines line miss so_far.any);
      new_is = rw past refl;
      kept_is = rw (past, none) refl;
      within = so_far.within;
      any = rw (any-more hits lines line, miss, so_far.any) refl;
    }

-- a line that does not match, after one that does
pub add-between : (hits : List ℕ → Bool) (f : List ℕ → List ℕ) (lines new : List (List ℕ)) (before kept : ℕ) (line : List ℕ) → IsRewriting hits f lines before new kept →
    is_empty new ≡ false → hits line ≡ false → f line ≡ line → IsRewriting hits f (lines ++ line ∷ []) before (new ++ line ∷ []) kept
add-between hits f lines new before kept line so_far some miss same =
    let short : before ≤ length lines = omega (arith, so_far.before_is, prefix_len-le-length (λ line. not (hits line)) lines) in
    let rest : drop before (lines ++ line ∷ []) ≡ drop before lines ++ line ∷ [] = drop-append-le before lines (line ∷ []) short in
    let hit : list_any hits lines ≡ true = so_far.any ∙ ap not some in
    record {
      before_is = so_far.before_is ∙ sym (before-some hits lines line hit);
      new_is = rw (rest, map-append f (drop before lines) (line ∷ []), same, so_far.new_is) refl;
      kept_is = take-append-le kept new (line ∷ []) so_far.within ∙ so_far.kept_is ∙ ap (map f) (sym (rw rest (last-miss hits (drop before lines) line miss)));
      within = simp length-append (omega (arith, so_far.within));
      any = rw (any-more hits lines line, hit) (sym (not-empty new line));
    }

-- the same, as the code says what it did
pub did-hit : (hits : List ℕ → Bool) (f : List ℕ → List ℕ) (lines new new' : List (List ℕ)) (before kept kept' : ℕ) (line text : List ℕ) → IsRewriting hits f lines before new kept →
    (hits line ≡ true) × (text ≡ f line) → new' ≡ new ++ text ∷ [] → kept' ≡ length new' → IsRewriting hits f (lines ++ line ∷ []) before new' kept'
did-hit hits f lines new new' before kept kept' line text so_far finds new_is kept_is =
    rw (kept_is, new_is) (add-hit hits f lines new before kept line text so_far finds.0 finds.1)

pub did-before : (hits : List ℕ → Bool) (f : List ℕ → List ℕ) (lines new : List (List ℕ)) (before kept : ℕ) (line : List ℕ) → IsRewriting hits f lines before new kept →
    (hits line ≡ false) × (f line ≡ line) → is_empty new ≡ true → IsRewriting hits f (lines ++ line ∷ []) (before + 1) new kept
did-before hits f lines [] before kept line so_far finds none = add-before hits f lines before kept line so_far finds.0
did-before hits f lines (first ∷ new) before kept line so_far finds none = absurd (false≢true (sym (not_empty first new) ∙ none))

pub did-between : (hits : List ℕ → Bool) (f : List ℕ → List ℕ) (lines new new' : List (List ℕ)) (before kept : ℕ) (line text : List ℕ) → IsRewriting hits f lines before new kept →
    (hits line ≡ false) × (f line ≡ line) → is_empty new ≡ false → new' ≡ new ++ text ∷ [] → text ≡ line → IsRewriting hits f (lines ++ line ∷ []) before new' kept
did-between hits f lines new new' before kept line text so_far finds some new_is text_is =
    rw (new_is, text_is) (add-between hits f lines new before kept line so_far some finds.0 finds.1)

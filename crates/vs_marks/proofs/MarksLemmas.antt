-- Marked lines that go from one side to the other, and along with a splice.
use Rattle.std.proofs.Common.{◌≡◌, ◌∙◌, ◌⊎◌, inl, inr, ℕ, ◌+◌, ◌-◌, ◌<◌, ◌≤◌, Bool, true, false, suc, get_or, nat_lt, List, [], ◌∷◌, ◌++◌, All, Option, Some, None, length, drop, map, reverse, ap, sym, subst, arith, append_assoc, refl}
use Rattle.std.specs.List.{cons_option}
use Rattle.std.proofs.Math.Seq.{drop-cons}
use Rattle.std.proofs.lemmas.Bool.Decides.{nat_tests}
use Rattle.std.proofs.lemmas.List.{append-nil, map-append, reverse-append, reverse-reverse, drop-append-le}
use Rattle.std.proofs.lemmas.List.Elements.{All-head, All-tail, All-cons, All-nil, All-weaker, filter_map-append}
use Rattle.vs_marks.specs.Marks.{Ascends, far_in, mark_after, marks_after}

-- the far lines, by the one that is kept last
pub far-last : (lead kept : ℕ) (rest far : List ℕ) → far ≡ rest ++ kept ∷ [] → far_in lead far ≡ (kept - lead) ∷ far_in lead rest
far-last lead kept rest far is = ap (far_in lead) is ∙ ap (map (λ line. line - lead)) (reverse-append rest (kept ∷ []))

-- the near lines, by the last
pub near-last : (from next : ℕ) (rest near : List ℕ) → from ≤ length rest → near ≡ rest ++ next ∷ [] → drop from near ≡ drop from rest ++ next ∷ []
near-last from next rest near within is = ap (drop from) is ∙ drop-append-le from rest (next ∷ []) within

-- the first of the far lines goes to the near ones
pub lines-down : (from lead kept : ℕ) (near nearer far rest : List ℕ) → from ≤ length near → nearer ≡ near ++ (kept - lead) ∷ [] → far ≡ rest ++ kept ∷ []
    → drop from nearer ++ far_in lead rest ≡ drop from near ++ far_in lead far
lines-down from lead kept near nearer far rest within put is =
    ap (λ (l : List ℕ). l ++ far_in lead rest) (near-last from (kept - lead) near nearer within put)
    ∙ append_assoc (drop from near) ((kept - lead) ∷ []) (far_in lead rest)
    ∙ ap (λ (l : List ℕ). drop from near ++ l) (sym (far-last lead kept rest far is))

-- the last of the near lines goes to the far ones
pub lines-up : (from lead next : ℕ) (near rest far farther : List ℕ) → from ≤ length rest → near ≡ rest ++ next ∷ [] → farther ≡ far ++ (next + lead) ∷ []
    → drop from rest ++ far_in lead farther ≡ drop from near ++ far_in lead far
lines-up from lead next near rest far farther within is put =
    let back : next + lead - lead ≡ next = omega arith in
    sym (lines-down from lead (next + lead) rest near farther far within (is ∙ ap (λ (n : ℕ). rest ++ n ∷ []) (sym back)) put)

pub all-front : (P : ℕ → Type 0) (a b : List ℕ) → All P (a ++ b) → All P a
all-front P [] b all = All-nil P
all-front P (x ∷ a) b all = All-cons P x a (All-head P x (a ++ b) all) (all-front P a b (All-tail P x (a ++ b) all))

pub all-back : (P : ℕ → Type 0) (a b : List ℕ) → All P (a ++ b) → All P b
all-back P [] b all = all
all-back P (x ∷ a) b all = all-back P a b (All-tail P x (a ++ b) all)

pub all-both : (P : ℕ → Type 0) (a b : List ℕ) → All P a → All P b → All P (a ++ b)
all-both P [] b left right = right
all-both P (x ∷ a) b left right = All-cons P x (a ++ b) (All-head P x a left) (all-both P a b (All-tail P x a left) right)

-- Numbers in their order are none of them below the first.
pub none-below : (line first : ℕ) (rest : List ℕ) → line ≤ first → Ascends (first ∷ rest) → All (λ other. line ≤ other) (first ∷ rest)
none-below line first rest below up =
    All-cons (λ other. line ≤ other) first rest below (All-weaker (λ other. first < other) (λ other. line ≤ other) (λ other after. omega (arith, after)) rest up.0)

pub ascends-back : (a b : List ℕ) → Ascends (a ++ b) → Ascends b
ascends-back [] b up = up
ascends-back (x ∷ a) b up = ascends-back a b up.1

pub ascends-front : (a b : List ℕ) → Ascends (a ++ b) → Ascends a
ascends-front [] b up = tt
ascends-front (x ∷ a) b up = (all-front (λ other. x < other) a b up.0, ascends-front a b up.1)

pub all-without : (P : ℕ → Type 0) (a : List ℕ) (x : ℕ) (b : List ℕ) → All P ((a ++ x ∷ []) ++ b) → All P (a ++ b)
all-without P a x b all = all-both P a b (all-front P a (x ∷ []) (all-front P (a ++ x ∷ []) b all)) (all-back P (a ++ x ∷ []) b all)

-- numbers in their order without one of them
pub ascends-without : (a : List ℕ) (x : ℕ) (b : List ℕ) → Ascends ((a ++ x ∷ []) ++ b) → Ascends (a ++ b)
ascends-without [] x b up = up.1
ascends-without (y ∷ a) x b up =
    (all-without (λ other. y < other) a x b up.0, ascends-without a x b up.1)

-- Numbers in their order are all below a line that the last is before.
pub all-below : (line x : ℕ) (a : List ℕ) → x < line → Ascends (a ++ x ∷ []) → All (λ other. other < line) (a ++ x ∷ [])
all-below line x [] before up = All-cons (λ other. other < line) x [] before (All-nil (λ other. other < line))
all-below line x (y ∷ a) before up =
    let last = All-head (λ other. y < other) x [] (all-back (λ other. y < other) a (x ∷ []) up.0) in
    All-cons (λ other. other < line) y (a ++ x ∷ []) (omega (arith, last, before)) (all-below line x a before up.1)

-- where a mark goes, by cases
pub stays : (top old new line : ℕ) → line < top + old → line < top + new → mark_after top old new line ≡ Some line
stays top old new line in_old in_new = grind (arith, nat_tests)

pub goes : (top old new line : ℕ) → line < top + old → top + new ≤ line → mark_after top old new line ≡ None
goes top old new line in_old past_new = grind (arith, nat_tests)

pub shifts : (top old new line : ℕ) → top + old ≤ line → mark_after top old new line ≡ Some (line + new - old)
shifts top old new line past = grind (arith, nat_tests)

-- what a place that a mark goes to says
abbrev pub GoesTo : ℕ → ℕ → ℕ → ℕ → ℕ → Type 0
GoesTo top old new line to = ((line < top + old) × (line < top + new) × (to ≡ line)) ⊎ ((top + old ≤ line) × (to ≡ line + new - old))

goes-by : (top old new line to : ℕ) (in_old in_new : Bool) → nat_lt line (top + old) ≡ in_old → nat_lt line (top + new) ≡ in_new
    → mark_after top old new line ≡ Some to → GoesTo top old new line to
goes-by top old new line to true true is_old is_new is = inl (grind (arith, nat_tests), grind (arith, nat_tests), grind (arith, nat_tests))
goes-by top old new line to true false is_old is_new is = absurd (grind (arith, nat_tests))
goes-by top old new line to false in_new is_old is_new is = inr (grind (arith, nat_tests), grind (arith, nat_tests))

pub goes-to : (top old new line to : ℕ) → mark_after top old new line ≡ Some to → GoesTo top old new line to
goes-to top old new line to is = goes-by top old new line to (nat_lt line (top + old)) (nat_lt line (top + new)) refl refl is

-- lines before a splice, or of those that stay in it
pub all-stay : (top old new : ℕ) (lines : List ℕ) → All (λ line. line < top + old) lines → All (λ line. line < top + new) lines → marks_after top old new lines ≡ lines
all-stay top old new [] in_old in_new = refl
all-stay top old new (line ∷ lines) in_old in_new =
    ap (λ (to : Option ℕ). cons_option to (marks_after top old new lines)) (stays top old new line (All-head (λ l. l < top + old) line lines in_old) (All-head (λ l. l < top + new) line lines in_new))
    ∙ ap (λ (l : List ℕ). line ∷ l) (all-stay top old new lines (All-tail (λ l. l < top + old) line lines in_old) (All-tail (λ l. l < top + new) line lines in_new))

pub all-early : (top old new : ℕ) (lines : List ℕ) → All (λ line. line < top) lines → marks_after top old new lines ≡ lines
all-early top old new lines early = all-stay top old new lines
    (All-weaker (λ line. line < top) (λ line. line < top + old) (λ line before. omega (arith, before)) lines early)
    (All-weaker (λ line. line < top) (λ line. line < top + new) (λ line before. omega (arith, before)) lines early)

-- the last of some lines goes
pub last-goes : (top old new : ℕ) (lines : List ℕ) (next : ℕ) → next < top + old → top + new ≤ next → marks_after top old new lines ≡ marks_after top old new (lines ++ next ∷ [])
last-goes top old new lines next in_old past_new =
    let none : marks_after top old new (next ∷ []) ≡ [] = ap (λ (to : Option ℕ). cons_option to []) (goes top old new next in_old past_new) in
    sym (filter_map-append (mark_after top old new) lines (next ∷ []) ∙ ap (λ (l : List ℕ). marks_after top old new lines ++ l) none ∙ append-nil (marks_after top old new lines))

-- lines after a splice are those that are kept, with another lead
pub far-shift : (lead leads top old new : ℕ) (kept : List ℕ) → leads ≡ lead + old - new → new ≤ lead → All (λ line. lead ≤ line) kept
    → All (λ line. top + old ≤ line) (map (λ line. line - lead) kept)
    → map (λ line. line - leads) kept ≡ marks_after top old new (map (λ line. line - lead) kept)
far-shift lead leads top old new [] is low led past = refl
far-shift lead leads top old new (line ∷ kept) is low led past =
    let here = All-head (λ l. lead ≤ l) line kept led in
    let after = All-head (λ l. top + old ≤ l) (line - lead) (map (λ l. l - lead) kept) past in
    let rest = far-shift lead leads top old new kept is low (All-tail (λ l. lead ≤ l) line kept led) (All-tail (λ l. top + old ≤ l) (line - lead) (map (λ l. l - lead) kept) past) in
    let same : line - leads ≡ line - lead + new - old = omega (arith, is, low, here, after) in
    ap (λ (l : List ℕ). (line - leads) ∷ l) rest ∙ ap (λ (n : ℕ). n ∷ marks_after top old new (map (λ l. l - lead) kept)) same
    ∙ sym (ap (λ (to : Option ℕ). cons_option to (marks_after top old new (map (λ l. l - lead) kept))) (shifts top old new (line - lead) after))

pub led-after : (lead leads top old new : ℕ) (kept : List ℕ) → leads ≡ lead + old - new → All (λ line. lead ≤ line) kept
    → All (λ line. top + old ≤ line) (map (λ line. line - lead) kept) → All (λ line. leads ≤ line) kept
led-after lead leads top old new [] is led past = All-nil (λ l. leads ≤ l)
led-after lead leads top old new (line ∷ kept) is led past =
    let here = All-head (λ l. lead ≤ l) line kept led in
    let after = All-head (λ l. top + old ≤ l) (line - lead) (map (λ l. l - lead) kept) past in
    All-cons (λ l. leads ≤ l) line kept (omega (arith, is, here, after))
    (led-after lead leads top old new kept is (All-tail (λ l. lead ≤ l) line kept led) (All-tail (λ l. top + old ≤ l) (line - lead) (map (λ l. l - lead) kept) past))

pub all-reverse : (P : ℕ → Type 0) (lines : List ℕ) → All P lines → All P (reverse lines)
all-reverse P [] all = All-nil P
all-reverse P (line ∷ lines) all =
    subst (All P) (sym (reverse-append (line ∷ []) lines)) (all-both P (reverse lines) (line ∷ []) (all-reverse P lines (All-tail P line lines all)) (All-cons P line [] (All-head P line lines all) (All-nil P)))

pub all-unreverse : (P : ℕ → Type 0) (lines : List ℕ) → All P (reverse lines) → All P lines
all-unreverse P lines all = subst (All P) (reverse-reverse lines) (all-reverse P (reverse lines) all)

-- the parts of the marked lines after a splice
pub parts-after : (top old new : ℕ) (near far : List ℕ) (nearer farther : List ℕ) → nearer ≡ marks_after top old new near → farther ≡ marks_after top old new far
    → nearer ++ farther ≡ marks_after top old new (near ++ far)
parts-after top old new near far nearer farther is_near is_far =
    ap (λ (l : List ℕ). l ++ farther) is_near ∙ ap (λ (l : List ℕ). marks_after top old new near ++ l) is_far ∙ sym (filter_map-append (mark_after top old new) near far)

-- marks keep their order
rises : (top old new x y to other : ℕ) → x < y → GoesTo top old new x to → GoesTo top old new y other → to < other
rises top old new x y to other before (inl a) (inl b) = omega (arith, before, a.2, b.2)
rises top old new x y to other before (inl a) (inr b) = omega (arith, before, a.0, a.1, a.2, b.0, b.1)
rises top old new x y to other before (inr a) (inl b) = omega (arith, before, a.0, b.0)
rises top old new x y to other before (inr a) (inr b) = omega (arith, before, a.0, a.1, b.0, b.1)

-- what holds of each line that is marked afterwards
all-after-by : (P Q : ℕ → Type 0) (top old new line : ℕ) (lines : List ℕ) (to : Option ℕ) → mark_after top old new line ≡ to
    → ((x y : ℕ) → P x → mark_after top old new x ≡ Some y → Q y) → P line → All Q (marks_after top old new lines) → All Q (cons_option to (marks_after top old new lines))
all-after-by P Q top old new line lines None is leads here rest = rest
all-after-by P Q top old new line lines (Some to) is leads here rest = All-cons Q to (marks_after top old new lines) (leads line to here is) rest

pub all-after : (P Q : ℕ → Type 0) (top old new : ℕ) (lines : List ℕ) → ((x y : ℕ) → P x → mark_after top old new x ≡ Some y → Q y) → All P lines → All Q (marks_after top old new lines)
all-after P Q top old new [] leads all = All-nil Q
all-after P Q top old new (line ∷ lines) leads all =
    all-after-by P Q top old new line lines (mark_after top old new line) refl leads (All-head P line lines all) (all-after P Q top old new lines leads (All-tail P line lines all))

ascends-after-by : (top old new line : ℕ) (lines : List ℕ) (to : Option ℕ) → mark_after top old new line ≡ to → All (λ other. line < other) lines
    → Ascends (marks_after top old new lines) → Ascends (cons_option to (marks_after top old new lines))
ascends-after-by top old new line lines None is above rest = rest
ascends-after-by top old new line lines (Some to) is above rest = (
  all-after (λ other. line < other) (λ other. to < other) top old new lines
      (λ x y before goes. rises top old new line x to y before (goes-to top old new line to is) (goes-to top old new x y goes)) above,
  rest,
)

pub ascends-after : (top old new : ℕ) (lines : List ℕ) → Ascends lines → Ascends (marks_after top old new lines)
ascends-after top old new [] up = tt
ascends-after top old new (line ∷ lines) up = ascends-after-by top old new line lines (mark_after top old new line) refl up.0 (ascends-after top old new lines up.1)

-- marks stay within the text
falls : (top old new count counted x to : ℕ) → top + old ≤ count → counted + old ≡ count + new → x < count → GoesTo top old new x to → to < counted
falls top old new count counted x to within is before (inl a) = omega (arith, within, is, before, a.0, a.1, a.2)
falls top old new count counted x to within is before (inr a) = omega (arith, within, is, before, a.0, a.1)

pub within-after : (top old new count counted : ℕ) (lines : List ℕ) → top + old ≤ count → counted + old ≡ count + new → All (λ line. line < count) lines
    → All (λ line. line < counted) (marks_after top old new lines)
within-after top old new count counted lines within is all =
    all-after (λ line. line < count) (λ line. line < counted) top old new lines
    (λ x y before goes. falls top old new count counted x y within is before (goes-to top old new x y goes)) all

-- the last of the far lines is the last of all
pub all-before : (lead kept line : ℕ) (near rest far : List ℕ) → far ≡ kept ∷ rest → kept - lead < line → Ascends (near ++ far_in lead far) → All (λ other. other < line) (near ++ far_in lead far)
all-before lead kept line near rest far is before up =
    let last : far_in lead far ≡ far_in lead rest ++ (kept - lead) ∷ [] = ap (far_in lead) is ∙ ap (map (λ l. l - lead)) (reverse-append (kept ∷ []) rest) ∙ map-append (λ l. l - lead) (reverse rest) (kept ∷ []) in
    let whole : near ++ far_in lead far ≡ (near ++ far_in lead rest) ++ (kept - lead) ∷ [] = ap (λ (l : List ℕ). near ++ l) last ∙ sym (append_assoc near (far_in lead rest) ((kept - lead) ∷ [])) in
    subst (All (λ other. other < line)) (sym whole) (all-below line (kept - lead) (near ++ far_in lead rest) before (subst Ascends whole up))

-- the first of the near lines
pub front-at : (from line : ℕ) (near : List ℕ) → from < length near → line ≡ get_or near from line → drop from near ≡ line ∷ drop (from + 1) near
front-at from line near within is =
    let next : suc from ≡ from + 1 = omega arith in
    drop-cons near from line within ∙ ap (λ (n : ℕ). n ∷ drop (suc from) near) (sym is) ∙ ap (λ (k : ℕ). line ∷ drop k near) next

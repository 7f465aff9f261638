-- The rules that a history keeps, from the form of its file, and back.
use Rattle.std.proofs.Common.{◌≡◌, ◌≢◌, ℕ, zero, suc, ◌+◌, ◌-◌, ◌<◌, ◌≤◌, inl, inr, Bool, true, false, cond, eqb, ltb, List, [], ◌∷◌, ◌++◌, length, map, get_or, take, Option, Some, None, refl, sym, ap, subst, ◌∙◌, append_assoc, arith}
use Rattle.std.specs.Prelude.{fold, unwrap_or}
use Rattle.std.specs.List.{AllByRecursion}
use Rattle.std.specs.Option.{is_some, option_map}
use Rattle.std.proofs.lemmas.Bool.{cases_lt, eqb-false, le-ltb, ltb-false, ne_eqb}
use Rattle.std.proofs.lemmas.List.{append-nil, get_or-map, get_or-take, get_or_default, length-map, length-take-le, take-map}
use Rattle.vs_ufile.specs.declared.error.UfKind.{UfKind}
use Rattle.vs_ufile.specs.declared.error.UfKind.TheVariants.{DoubleNumber, NumberZero}
use Rattle.vs_ufile.specs.declared.fault.Fault.{Fault}
use Rattle.vs_ufile.specs.Decode.{KeepsRules, KnowsAll, KnowsLinks, LinksAreKnown, first_unknown, history, is_known, or_else, unknown, unknown_among, unknown_in}
use Rattle.vs_ufile.specs.Failing.{AreNumbers}
use Rattle.vs_ufile.specs.Format.{Allowed, Each, Follows, HasForm, IsOptions, change_rows, option_rows}
use Rattle.vs_ufile.specs.Reading.{File, Placed, change_number_kind, index_of, numbers_of}
use Rattle.vs_ufile.specs.Tree.{IsTree}
use Rattle.vs_ufile.specs.Walks.{at}
use Rattle.vs_ufile.proofs.Known.{numbers_are}
use Rattle.vs_ufile.proofs.Linked.{index_at}

-- ---- what is asked of each item after those before it, by places

pub follows_at : {A : Type 0} (asked : List A → A → Type 0) (before xs : List A) → Follows asked before xs → (i : ℕ) (x : A) → i < length xs → get_or xs i x ≡ x → asked (before ++ take i xs) x
follows_at asked before [] h i x lt e = absurd (omega (arith, lt))
follows_at asked before (y ∷ ys) h zero x lt e = subst (λ z. asked (before ++ []) z) e (subst (λ z. asked z y) (sym (append-nil before)) h.0)
follows_at asked before (y ∷ ys) h (suc i) x lt e =
    subst (λ z. asked z x) (append_assoc before (y ∷ []) (take i ys)) (follows_at asked (before ++ y ∷ []) ys h.1 i x (omega (arith, lt)) e)

pub follows_from : {A : Type 0} (asked : List A → A → Type 0) (before xs : List A) → ((i : ℕ) (x : A) → i < length xs → get_or xs i x ≡ x → asked (before ++ take i xs) x) → Follows asked before xs
follows_from asked before [] h = tt
follows_from asked before (y ∷ ys) h = (
  subst (λ z. asked z y) (append-nil before) (h 0 y (omega arith) refl),
  follows_from asked (before ++ y ∷ []) ys (λ i x lt e. subst (λ z. asked z x) (sym (append_assoc before (y ∷ []) (take i ys))) (h (suc i) x (omega (arith, lt)) e)),
)

-- ---- numbers

abbrev no_kind : Option UfKind
no_kind = None

kind_by : (n : ℕ) (zero_is big double : Bool) → cond zero_is (Some NumberZero) (cond big (Some NumberZero) (cond double (Some DoubleNumber) None)) ≡ no_kind → (zero_is ≡ false) × (big ≡ false) × (double ≡ false)
kind_by n true big double e = absurd cc
kind_by n false true double e = absurd cc
kind_by n false false true e = absurd cc
kind_by n false false false e = (refl, refl, refl)

none_of : (o : Option ℕ) → is_some o ≡ false → o ≡ None
none_of None e = refl
none_of (Some i) e = absurd cc

later_none : (b : Bool) (o : Option ℕ) → cond b (Some 0) (option_map suc o) ≡ None → (b ≡ false) × (o ≡ None)
later_none true o e = absurd cc
later_none false None e = (refl, refl)
later_none false (Some i) e = absurd cc

index_found : (n : ℕ) (xs : List ℕ) → index_of n xs ≡ None → (i : ℕ) → i < length xs → at xs i ≢ n
index_found n [] none i lt e = omega (arith, lt)
index_found n (x ∷ xs) none zero lt e = eqb-false x n (later_none (eqb x n) (index_of n xs) none).0 e
index_found n (x ∷ xs) none (suc i) lt e = index_found n xs (later_none (eqb x n) (index_of n xs) none).1 i (omega (arith, lt)) e

absent_by : (n : ℕ) (xs : List ℕ) (o : Option ℕ) → index_of n xs ≡ o → ((i : ℕ) → i < length xs → at xs i ≢ n) → is_some o ≡ false
absent_by n xs None e absent = refl
absent_by n xs (Some i) e absent = let a = index_at n xs i e in absurd (absent i a.0 a.1)

pub number_of_place : (placed : List Placed) (i : ℕ) (x : Placed) → i < length placed → get_or placed i x ≡ x → at (numbers_of placed) i ≡ x.change.number
number_of_place placed i x lt e = get_or-map (λ p. p.change.number) placed i x 0 lt ∙ ap (λ (p : Placed). p.change.number) e

before_is : (placed : List Placed) (j i : ℕ) → i < j → j ≤ length placed → at (numbers_of (take j placed)) i ≡ at (numbers_of placed) i
before_is placed j i lt le = ap (λ (xs : List ℕ). at xs i) (sym (take-map (λ p. p.change.number) j placed)) ∙ get_or-take j (numbers_of placed) i 0 lt

abbrev nothing : Placed
nothing = record { left = 0; change = record { number = 0; next = 0; prev = 0; alt_next = 0; alt_prev = 0; empty = false; time = 0; save = 0; entries = [] } }

self_at : (placed : List Placed) (i : ℕ) → i < length placed → get_or placed i (get_or placed i nothing) ≡ get_or placed i nothing
self_at placed i lt = get_or_default placed i (get_or placed i nothing) nothing lt

allowed_at : (heads : ℕ) (placed : List Placed) → Follows (Allowed heads) [] placed → (i : ℕ) → i < length placed → Allowed heads (take i placed) (get_or placed i nothing)
allowed_at heads placed h i lt = follows_at (Allowed heads) [] placed h i (get_or placed i nothing) lt (self_at placed i lt)

range_at : (heads : ℕ) (placed : List Placed) → Follows (Allowed heads) [] placed → (k d : ℕ) → k < length (numbers_of placed) → (0 < get_or (numbers_of placed) k d) × (get_or (numbers_of placed) k d ≤ 2147483647)
range_at heads placed h k d lt =
    let here : k < length placed = omega (arith, lt, length-map placed (λ p. p.change.number)) in
    let x : Placed = get_or placed k nothing in
    let n = number_of_place placed k x here (self_at placed k here) in
    let a = allowed_at heads placed h k here in
    let b = kind_by x.change.number (eqb x.change.number 0) (ltb 2147483647 x.change.number) (is_some (index_of x.change.number (numbers_of (take k placed)))) a.number in
    let some : x.change.number ≢ 0 = eqb-false x.change.number 0 b.0 in
    let small : x.change.number ≤ 2147483647 = ltb-false 2147483647 x.change.number b.1 in
    let same : get_or (numbers_of placed) k d ≡ at (numbers_of placed) k = get_or_default (numbers_of placed) k d 0 lt in
    (omega (arith, same, n, some), omega (arith, same, n, small))

distinct_at : (heads : ℕ) (placed : List Placed) → Follows (Allowed heads) [] placed → (i j d : ℕ) → i < j → j < length (numbers_of placed) → get_or (numbers_of placed) i d ≢ get_or (numbers_of placed) j d
distinct_at heads placed h i j d lt within = λ e.
    let size : length (numbers_of placed) ≡ length placed = length-map placed (λ p. p.change.number) in
    let here : j < length placed = omega (arith, within, size) in
    let x : Placed = get_or placed j nothing in
    let n = number_of_place placed j x here (self_at placed j here) in
    let a = allowed_at heads placed h j here in
    let b = kind_by x.change.number (eqb x.change.number 0) (ltb 2147483647 x.change.number) (is_some (index_of x.change.number (numbers_of (take j placed)))) a.number in
    let none = none_of (index_of x.change.number (numbers_of (take j placed))) b.2 in
    let le : j ≤ length placed = omega (arith, here) in
    let inside : i < length (numbers_of (take j placed)) = omega (arith, lt, length-map (take j placed) (λ p. p.change.number), length-take-le j placed le) in
    let first : at (numbers_of placed) i ≡ at (numbers_of placed) j =
    get_or_default (numbers_of placed) i 0 d (omega (arith, lt, within)) ∙ e ∙ get_or_default (numbers_of placed) j d 0 within in
    index_found x.change.number (numbers_of (take j placed)) none i inside (before_is placed j i lt le ∙ first ∙ n)

pub few_heads : (heads : ℕ) (placed : List Placed) → Follows (Allowed heads) [] placed → length placed ≤ heads
few_heads heads placed h = elim (cases_lt heads (length placed)) [
  | inl lt ↦
      let a = allowed_at heads placed h heads lt in
      let size : length (take heads placed) ≡ heads = length-take-le heads placed (omega (arith, lt)) in
      absurd (eqb-false (length (take heads placed)) heads a.head size)
  | inr le ↦ le
]

pub numbers_from : (heads : ℕ) (placed : List Placed) → Follows (Allowed heads) [] placed → AreNumbers (numbers_of placed)
numbers_from heads placed h = record { range = range_at heads placed h; distinct = distinct_at heads placed h }

pub kind_none : (n : ℕ) (seen : List ℕ) → 0 < n → n ≤ 2147483647 → is_some (index_of n seen) ≡ false → change_number_kind seen n ≡ None
kind_none n seen pos le absent =
    let some : eqb n 0 ≡ false = ne_eqb n 0 (omega (arith, pos)) in
    let small : ltb 2147483647 n ≡ false = le-ltb 2147483647 n le in
    rw (some, small, absent) refl

pub follows_numbers : (heads : ℕ) (placed : List Placed) → AreNumbers (numbers_of placed) → length placed ≤ heads → Follows (Allowed heads) [] placed
follows_numbers heads placed h few = follows_from (Allowed heads) [] placed (λ i x lt e.
    let n = number_of_place placed i x lt e in
    let size : length (numbers_of placed) ≡ length placed = length-map placed (λ p. p.change.number) in
    let le : i ≤ length placed = omega (arith, lt) in
    let taken : length (take i placed) ≡ i = length-take-le i placed le in
    let range = h.range i 0 (omega (arith, lt, size)) in
    let absent : (k : ℕ) → k < length (numbers_of (take i placed)) → at (numbers_of (take i placed)) k ≢ x.change.number = λ k within same.
    let less : k < i = omega (arith, within, length-map (take i placed) (λ p. p.change.number), taken) in
    h.distinct k i 0 less (omega (arith, lt, size)) (sym (before_is placed i k less le) ∙ same ∙ sym n) in
    record {
      head = ne_eqb (length (take i placed)) heads (omega (arith, taken, lt, few));
      number = kind_none x.change.number (numbers_of (take i placed)) (omega (arith, range.0, n)) (omega (arith, range.1, n)) (absent_by x.change.number (numbers_of (take i placed)) (index_of x.change.number (numbers_of (take i placed))) refl absent);
    })

-- ---- known links

abbrev none_fault : Option Fault
none_fault = None

known_by : (b : Bool) (fault : Fault) → cond b none_fault (Some fault) ≡ none_fault → b ≡ true
known_by true fault e = refl
known_by false fault e = absurd cc

both_none : (a b : Option Fault) → or_else a b ≡ none_fault → (a ≡ none_fault) × (b ≡ none_fault)
both_none None b e = (refl, e)
both_none (Some fault) b e = absurd cc

is_known_by : (numbers : List ℕ) (left link : ℕ) → unknown numbers left link ≡ None → is_known numbers link ≡ true
is_known_by numbers left link e = known_by (is_known numbers link) _ e

links_known : (numbers : List ℕ) (p : Placed) → unknown_in numbers p ≡ None → LinksAreKnown numbers p.change
unfolding unknown_in
links_known numbers p e =
    let fourth : Option Fault = unknown numbers (p.left - 14) p.change.alt_prev in
    let third : Option Fault = unknown numbers (p.left - 10) p.change.alt_next in
    let second : Option Fault = unknown numbers (p.left - 6) p.change.prev in
    let a = both_none (unknown numbers (p.left - 2) p.change.next) (or_else second (or_else third fourth)) e in
    let b = both_none second (or_else third fourth) a.1 in
    let c = both_none third fourth b.1 in
    record { next = is_known_by numbers _ p.change.next a.0; prev = is_known_by numbers _ p.change.prev b.0; alt_next = is_known_by numbers _ p.change.alt_next c.0; alt_prev = is_known_by numbers _ p.change.alt_prev c.1 }

among_known : (numbers : List ℕ) (ps : List Placed) → unknown_among numbers ps ≡ None → AllByRecursion (λ p. LinksAreKnown numbers p.change) ps
among_known numbers [] e = tt
among_known numbers (p ∷ ps) e = let b = both_none (unknown_in numbers p) (unknown_among numbers ps) e in (links_known numbers p b.0, among_known numbers ps b.1)

pub knows_all : (f : File) → first_unknown f ≡ None → KnowsAll f.placed
unfolding first_unknown
knows_all f e =
    let ns : List ℕ = numbers_of f.placed in
    let rest : Option Fault = unknown_among ns f.placed in
    let third : Option Fault = unknown ns (f.heads_left - 8) f.numbers.current_head in
    let second : Option Fault = unknown ns (f.heads_left - 4) f.numbers.newest in
    let a = both_none (unknown ns f.heads_left f.numbers.oldest) (or_else second (or_else third rest)) e in
    let b = both_none second (or_else third rest) a.1 in
    let c = both_none third rest b.1 in
    among_known (numbers_of f.placed) f.placed c.1

of_changes : (numbers : List ℕ) (ps : List Placed) → AllByRecursion (λ p. LinksAreKnown numbers p.change) ps → AllByRecursion (LinksAreKnown numbers) (map (λ p. p.change) ps)
of_changes numbers [] h = tt
of_changes numbers (p ∷ ps) h = (h.0, of_changes numbers ps h.1)

pub knows_links : (f : File) → first_unknown f ≡ None → KnowsLinks (history f)
unfolding first_unknown
knows_links f e =
    let ns : List ℕ = numbers_of f.placed in
    let rest : Option Fault = unknown_among ns f.placed in
    let third : Option Fault = unknown ns (f.heads_left - 8) f.numbers.current_head in
    let second : Option Fault = unknown ns (f.heads_left - 4) f.numbers.newest in
    let a = both_none (unknown ns f.heads_left f.numbers.oldest) (or_else second (or_else third rest)) e in
    let b = both_none second (or_else third rest) a.1 in
    let c = both_none third rest b.1 in
    let same = sym (numbers_are f.placed) in
    record {
      oldest = subst (λ (ns : List ℕ). is_known ns f.numbers.oldest ≡ true) same (is_known_by (numbers_of f.placed) _ f.numbers.oldest a.0);
      newest = subst (λ (ns : List ℕ). is_known ns f.numbers.newest ≡ true) same (is_known_by (numbers_of f.placed) _ f.numbers.newest b.0);
      current_head = subst (λ (ns : List ℕ). is_known ns f.numbers.current_head ≡ true) same (is_known_by (numbers_of f.placed) _ f.numbers.current_head c.0);
      changes = subst (λ (ns : List ℕ). AllByRecursion (LinksAreKnown ns) (map (λ p. p.change) f.placed)) same (of_changes (numbers_of f.placed) f.placed (among_known (numbers_of f.placed) f.placed c.1));
    }

-- ---- save numbers

saves_by : (found : List (Option ℕ)) (s : ℕ) (bytes : List ℕ) (following : ℕ) → s ≤ 2000000000 → Each option_rows found bytes following → fold (λ before one. unwrap_or one before) s found ≤ 2000000000
saves_by [] s bytes following le h = le
saves_by (None ∷ found) s bytes following le h = saves_by found s h.1 following le h.4
saves_by (Some save ∷ found) s bytes following le h = saves_by found save h.1 following h.3.4.4.3.small h.4

save_small : (save : ℕ) (bytes : List ℕ) (following : ℕ) → IsOptions save bytes following → save ≤ 2000000000
save_small save bytes following h = subst (λ (n : ℕ). n ≤ 2000000000) h.1 (saves_by h.0 0 h.2.0 (length h.2.1 + following) (omega arith) h.2.3)

saves_small : (ps : List Placed) (bytes : List ℕ) (following : ℕ) → Each change_rows ps bytes following → AllByRecursion (λ c. c.save ≤ 2000000000) (map (λ p. p.change) ps)
saves_small [] bytes following h = tt
saves_small (p ∷ ps) bytes following h =
    let o = h.3.4.4.4.4.4.4.4.4.4.4.4.4.4.4.4 in
    (save_small p.change.save o.0 _ o.3, saves_small ps h.1 following h.4)

-- what is read keeps the rules
pub rules_of : (f : File) (bytes : List ℕ) → HasForm f bytes → first_unknown f ≡ None → IsTree (history f).changes → KeepsRules (history f)
rules_of f bytes is known tree =
    let o = is.in_order.4.4.4.4.4.4.4.4.4.4.4.4.4.4.4 in
    record {
      digest = is.digest;
      numbers = subst AreNumbers (sym (numbers_are f.placed)) (numbers_from f.numbers.heads f.placed is.numbers);
      heads = omega (arith, few_heads f.numbers.heads f.placed is.numbers, length-map f.placed (λ p. p.change));
      saves = saves_small f.placed o.4.0 _ o.4.3;
      last_save = save_small f.last_save o.0 _ o.3;
      links = knows_links f known;
      tree = tree;
    }

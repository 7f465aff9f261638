-- What each element of a list gives, put together one after the other.
use Rattle.std.proofs.Common.{◌≡◌, ℕ, ◌+◌, ◌<◌, ◌≤◌, List, [], ◌∷◌, ◌++◌, length, get_or, drop, slice_get, Option, Some, None, Bool, true, false, IsTrue, sym, refl, ap, ◌∙◌, arith, append_assoc, append-nil}
use Rattle.std.specs.Prelude.{nat_le, ◌&&◌}
use Rattle.std.proofs.lemmas.List.{at_drop_more, at_drop_all}
use Rattle.std.proofs.lemmas.List.{map-append}
use Rattle.vs_text.specs.Text.{plain_line}
use Rattle.vs_tree_shape.specs.declared.entries.Entry.{Entry}
use Rattle.vs_tree_shape.proofs.Sums.{total-append}
use Rattle.vs_ptr.specs.declared.PtrEntry.{PtrEntry}
use Rattle.vs_tree_blocks.specs.Blocks.{before}
use Rattle.vs_swap.specs.Entries.{pointer_in, pointers_in}
use Rattle.vs_swap.proofs.Pointers.{pointers_from}
use Rattle.vs_recover.specs.Files.{plain}
use Rattle.vs_recover.specs.Levels.{chained, chain, taken, are_wide, Clashes}

chained_twice : {X : Type 0} (xs ys : List X) (o : Option (List X)) → chained (Some xs) (chained (Some ys) o) ≡ chained (Some (xs ++ ys)) o
chained_twice xs ys None = refl
chained_twice xs ys (Some zs) = ap (λ us. Some us) (sym (append_assoc xs ys zs))

pub chained_first : {X : Type 0} (o : Option (List X)) → chained (Some []) o ≡ o
chained_first None = refl
chained_first (Some xs) = refl

both_true : (a b c : Bool) → (a && b) ≡ true → (b ≡ true → c ≡ true) → (a && c) ≡ true
both_true true b c both more = more both
both_true false b c both more = absurd (cc)

last_true : (a b : Bool) → (a && b) ≡ true → b ≡ true
last_true true b both = both
last_true false b both = absurd (cc)

cut_of : {Y : Type 0} (out : List Y) (o : Option (List Y)) (all : List Y) → chained (Some out) o ≡ Some all → (rest : List Y) × (all ≡ out ++ rest)
cut_of out None all is = absurd (cc)
cut_of out (Some rest) all is = (rest, cc)

-- the list so far, before what the rest gives: it begins with what was read first
abbrev pub So : {X Y : Type 0} → (X → Option (List Y)) → List Y → List X → ℕ → List Y → Type 0
So f begun xs i out = chained (Some out) (chain f (drop i xs)) ≡ chained (Some begun) (chain f xs)

pub chain_more : {X Y : Type 0} (f : X → Option (List Y)) (begun : List Y) (xs : List X) (i : ℕ) (d : X) (out more : List Y) → i < length xs → f (get_or xs i d) ≡ Some more → So f begun xs i out → So f begun xs (i + 1) (out ++ more)
chain_more f begun xs i d out more lt is so =
    let rest = chain f (drop (i + 1) xs) in
    sym (chained_twice out more rest) ∙ ap (λ o. chained (Some out) (chained o rest)) (sym is) ∙ sym (at_drop_more (λ ys. chained (Some out) (chain f ys)) xs i d lt) ∙ so

chained_assoc : {X : Type 0} (a b c : Option (List X)) → chained (chained a b) c ≡ chained a (chained b c)
chained_assoc None b c = refl
chained_assoc (Some a) None c = refl
chained_assoc (Some a) (Some b) c = sym (chained_twice a b c)

pub chain_add : {X Y : Type 0} (f : X → Option (List Y)) (begun : List Y) (xs : List X) (i : ℕ) (d : X) (out new : List Y) → i < length xs → chained (Some out) (f (get_or xs i d)) ≡ Some new → So f begun xs i out → So f begun xs (i + 1) new
chain_add f begun xs i d out new lt is so =
    let rest = chain f (drop (i + 1) xs) in
    ap (λ o. chained o rest) (sym is) ∙ chained_assoc (Some out) (f (get_or xs i d)) rest ∙ sym (at_drop_more (λ ys. chained (Some out) (chain f ys)) xs i d lt) ∙ so

pub plain_chained : (a b : Option (List (List ℕ))) → plain (chained a b) ≡ chained (plain a) (plain b)
plain_chained None b = refl
plain_chained (Some a) None = refl
plain_chained (Some a) (Some b) = ap (λ zs. Some zs) (map-append plain_line a b)

-- the plain form of a chain is the chain of the plain forms
pub plain_chain : {X : Type 0} (f : X → Option (List (List ℕ))) (xs : List X) → chain (λ x. plain (f x)) xs ≡ plain (chain f xs)
plain_chain f [] = refl
plain_chain f (x ∷ xs) = ap (λ o. chained (plain (f x)) o) (plain_chain f xs) ∙ sym (plain_chained (f x) (chain f xs))

pub chain_stops : {X Y : Type 0} (f : X → Option (List Y)) (begun : List Y) (xs : List X) (i : ℕ) (d : X) (out : List Y) → i < length xs → f (get_or xs i d) ≡ None → So f begun xs i out → chained (Some begun) (chain f xs) ≡ None
chain_stops f begun xs i d out lt is so =
    sym so ∙ at_drop_more (λ ys. chained (Some out) (chain f ys)) xs i d lt ∙ ap (λ o. chained (Some out) (chained o (chain f (drop (i + 1) xs)))) is

pub chain_ends : {X Y : Type 0} (f : X → Option (List Y)) (begun : List Y) (xs : List X) (i : ℕ) (out : List Y) → length xs ≤ i → So f begun xs i out → chained (Some begun) (chain f xs) ≡ Some out
chain_ends f begun xs i out le so = sym so ∙ at_drop_all (λ ys. chained (Some out) (chain f ys)) xs i le ∙ ap (λ ys. Some ys) (append-nil out)

-- ---- the next level

pub taken-append : (xs ys : List Entry) (k : ℕ) → taken (xs ++ ys) k ≡ taken xs k + taken ys k
taken-append xs ys k = total-append _ xs ys

pub wide-append : (xs ys : List Entry) → IsTrue (are_wide xs) → IsTrue (are_wide ys) → IsTrue (are_wide (xs ++ ys))
wide-append [] ys a b = b
wide-append (x ∷ xs) ys a b = both_true (nat_le 1 x.pages) (are_wide xs) (are_wide (xs ++ ys)) a (λ more. wide-append xs ys more b)

pub wide_rest : (x : Entry) (xs : List Entry) → IsTrue (are_wide (x ∷ xs)) → IsTrue (are_wide xs)
wide_rest x xs both = last_true (nat_le 1 x.pages) (are_wide xs) both

-- what the whole chain gives begins with what it gives so far
chain_cut : {X Y : Type 0} (f : X → Option (List Y)) (begun : List Y) (xs : List X) (i : ℕ) (d : X) (out more all : List Y) → i < length xs → f (get_or xs i d) ≡ Some more → So f begun xs i out → chained (Some begun) (chain f xs) ≡ Some all → (rest : List Y) × (all ≡ (out ++ more) ++ rest)
chain_cut f begun xs i d out more all lt is so whole = cut_of (out ++ more) (chain f (drop (i + 1) xs)) all (chain_more f begun xs i d out more lt is so ∙ whole)

-- a clash of the pages of one block is a clash of the level
pub clash_one : (f : Entry → Option (List Entry)) (begun : List Entry) (xs : List Entry) (i : ℕ) (d : Entry) (out more : List Entry) (used now : ℕ → ℕ) → i < length xs → f (get_or xs i d) ≡ Some more → So f begun xs i out
    → ((k : ℕ) → now k ≡ used k + taken out k) → (k : ℕ) × (2 ≤ now k + taken more k) → Clashes used (chained (Some begun) (chain f xs))
clash_one f begun xs i d out more used now lt is so marks found = λ next whole.
    let cut = chain_cut f begun xs i d out more next lt is so whole in
    (found.0, omega (arith, found.1, marks found.0, ap (λ zs. taken zs found.0) cut.1, taken-append (out ++ more) cut.0 found.0, taken-append out more found.0))

-- so is a clash of the pages of the first block
pub clash_first : (begun : List Entry) (o : Option (List Entry)) (used : ℕ → ℕ) → (k : ℕ) × (2 ≤ used k + taken begun k) → Clashes used (chained (Some begun) o)
clash_first begun o used found = λ next whole.
    let cut = cut_of begun o next whole in
    (found.0, omega (arith, found.1, ap (λ zs. taken zs found.0) cut.1, taken-append begun cut.0 found.0))

pub no_clash : (used : ℕ → ℕ) (o : Option (List Entry)) → o ≡ None → Clashes used o
no_clash used o none = λ next is. absurd (cc)

-- ---- lines in their plain form

pub plain_none : (o : Option (List (List ℕ))) → o ≡ None → plain o ≡ None
plain_none o is = ap (λ p. plain p) is

-- ---- the entries of a pointer block

chained_before : (out : List Entry) (x : Entry) (o : Option (List Entry)) → chained (Some out) (before (Some x) o) ≡ chained (Some (out ++ x ∷ [])) o
chained_before out x None = refl
chained_before out x (Some xs) = ap (λ ys. Some ys) (sym (append_assoc out (x ∷ []) xs))

-- the entries so far, before those that are left
abbrev pub SoPointers : List PtrEntry → ℕ → List Entry → Type 0
SoPointers es i out = chained (Some out) (pointers_in (drop i es)) ≡ pointers_in es

pub pointers_begin : (es : List PtrEntry) → SoPointers es 0 []
pointers_begin es = chained_first (pointers_in es)

pub pointers_more : (es : List PtrEntry) (i : ℕ) (e : PtrEntry) (x : Entry) (out : List Entry) → slice_get es i ≡ Some e → Some x ≡ pointer_in e → SoPointers es i out → SoPointers es (i + 1) (out ++ x ∷ [])
pointers_more es i e x out at is so =
    let rest = pointers_in (drop (i + 1) es) in
    sym (chained_before out x rest) ∙ ap (λ o. chained (Some out) (before o rest)) is ∙ ap (λ o. chained (Some out) o) (sym (pointers_from es i e at)) ∙ so

drop_all : (es : List PtrEntry) (i : ℕ) → length es ≤ i → drop i es ≡ []
drop_all es i le = at_drop_all (λ ys. ys) es i le

pub pointers_end : (es : List PtrEntry) (i : ℕ) (out : List Entry) → length es ≤ i → SoPointers es i out → pointers_in es ≡ Some out
pointers_end es i out le so = sym so ∙ ap (λ ys. chained (Some out) (pointers_in ys)) (drop_all es i le) ∙ ap (λ ys. Some ys) (append-nil out)

pub plain_back : (o : Option (List (List ℕ))) → plain o ≡ None → o ≡ None
plain_back None is = refl
plain_back (Some lines) is = absurd (cc)

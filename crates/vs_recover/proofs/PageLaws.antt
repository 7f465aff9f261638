-- The pages of a file as parts of its bytes.
use Rattle.std.proofs.Common.{◌≡◌, ℕ, zero, suc, ◌+◌, ◌*◌, ◌<◌, ◌≤◌, ◌/◌, List, [], ◌∷◌, ◌++◌, length, take, drop, Option, Some, None, sym, refl, ap, subst, ◌∙◌, ◌-◌, length-take, length-drop, inl, inr, arith, Bool, true, false}
use Rattle.std.specs.Prelude.{min, nat_eq, ◌&&◌, ◌^◌, Vec, IfSome, IfNone}
use Rattle.std.proofs.lemmas.Bool.{cases_eq, cases_lt}
use Rattle.std.proofs.lemmas.Bool.Decides.{nat_tests}
use Rattle.std.proofs.lemmas.List.{take_all}
use Rattle.std.proofs.Math.Seq.{take-append_seam}
use Rattle.vs_pages.specs.Maps.{joined, lacks, pages_at}
use Rattle.vs_swap.specs.Files.{page_in, pages_in}
use Rattle.vs_recover.specs.Files.{Gives, Extends}
use Rattle.vs_recover.specs.Levels.{chained}
use Rattle.vs_tree_shape.specs.Trees.{read_by}
use Rattle.std.specs.declared.alloc.Global.{Global}

page_there : (file : List ℕ) (k : ℕ) → 4096 * (k + 1) ≤ length file → page_in file k ≡ Some (take 4096 (drop (4096 * k) file))
page_there file k le = grind (arith, nat_tests)

page_gone : (file : List ℕ) (k : ℕ) → length file < 4096 * (k + 1) → page_in file k ≡ None
page_gone file k lt = grind (arith, nat_tests)

sum : (b : ℕ) → b ≡ zero + b
sum b = omega arith

take_nil : {X : Type 0} (b : ℕ) → take {A = X} b [] ≡ []
take_nil zero = refl
take_nil (suc b) = refl

drop_nil : {X : Type 0} (b : ℕ) → drop {A = X} b [] ≡ []
drop_nil zero = refl
drop_nil (suc b) = refl

drop_twice : {X : Type 0} (a b : ℕ) (xs : List X) → drop b (drop a xs) ≡ drop (a + b) xs
drop_twice zero b xs = ap (λ n. drop n xs) (sum b)
drop_twice (suc a) b [] = drop_nil b ∙ sym (drop_nil (suc a + b))
drop_twice (suc a) b (x ∷ xs) = let e : suc a + b ≡ suc (a + b) = omega arith in drop_twice a b xs ∙ ap (λ n. drop n (x ∷ xs)) (sym e)

two_parts : {X : Type 0} (a b : ℕ) (xs : List X) → take a xs ++ take b (drop a xs) ≡ take (a + b) xs
two_parts zero b xs = ap (λ n. take n xs) (sum b)
two_parts (suc a) b [] = take_nil b ∙ sym (take_nil (suc a + b))
two_parts (suc a) b (x ∷ xs) = let e : suc a + b ≡ suc (a + b) = omega arith in ap (λ ys. x ∷ ys) (two_parts a b xs) ∙ ap (λ n. take n (x ∷ xs)) (sym e)

-- pages that the file has are read whole
pub pages_whole : (file : List ℕ) (at n : ℕ) → 4096 * (at + n) ≤ length file → pages_at (pages_in file) at n ≡ Some (take (4096 * n) (drop (4096 * at) file))
pages_whole file at zero le = refl
pages_whole file at (suc n) le =
    let rest = pages_whole file (at + 1) n (omega arith) in
    let next : 4096 * at + 4096 ≡ 4096 * (at + 1) = omega arith in
    let size : 4096 + 4096 * n ≡ 4096 * suc n = omega arith in
    let moved : drop (4096 * (at + 1)) file ≡ drop 4096 (drop (4096 * at) file) = ap (λ k. drop k file) (sym next) ∙ sym (drop_twice (4096 * at) 4096 file) in
    ap (λ o. joined o (pages_at (pages_in file) (at + 1) n)) (page_there file at (omega arith)) ∙ ap (λ o. joined (Some (take 4096 (drop (4096 * at) file))) o) rest
    ∙ ap (λ (ys : List ℕ). Some (take 4096 (drop (4096 * at) file) ++ take (4096 * n) ys)) moved
    ∙ ap (λ (ys : List ℕ). Some ys) (two_parts 4096 (4096 * n) (drop (4096 * at) file) ∙ ap (λ k. take k (drop (4096 * at) file)) size)

joined_none : (a : Option (List ℕ)) → joined a None ≡ None
joined_none None = refl
joined_none (Some a) = refl

-- pages past the file's end are not there
pub pages_past : (file : List ℕ) (at n : ℕ) → 1 ≤ n → length file < 4096 * (at + n) → pages_at (pages_in file) at n ≡ None
pages_past file at zero some lt = absurd (omega arith)
pages_past file at (suc n) some lt = elim (cases_eq n 0) [
  | inl e ↦ ap (λ o. joined o (pages_at (pages_in file) (at + 1) n)) (page_gone file at (omega arith))
  | inr ne ↦ ap (λ o. joined (page_in file at) o) (pages_past file (at + 1) n (omega arith) (omega arith)) ∙ joined_none (page_in file at)
]

pub lacks_past : (file : List ℕ) (n k : ℕ) → n ≡ length file / 4096 → n ≤ k → lacks (pages_in file k) ≡ 1
lacks_past file n k is le = ap (λ o. lacks o) (page_gone file k (omega arith))

pub if_some : {X : Type 0} (o : Option X) (x : X) (P : X → Type 0) → o ≡ Some x → IfSome o P → P x
if_some None x P is h = absurd (cc)
if_some (Some y) x P is h = let e : y ≡ x = cc in subst P e h

front : {X : Type 0} (n : ℕ) (xs ys : List X) → n ≡ length xs → take n (xs ++ ys) ≡ xs
front n xs ys e = ap (λ k. take k (xs ++ ys)) e ∙ take-append_seam xs ys

-- the bytes that a call read are those of the pages
pub pages_loaded : (file into rest : List ℕ) (count block pages size from len : ℕ) → count ≡ length file / 4096 → block < count → pages ≤ count - block → from ≡ 4096 * block → size ≡ 4096 * pages → len ≡ size
    → into ≡ take size (drop from file) → pages_at (pages_in file) block pages ≡ Some (take len (into ++ rest))
pages_loaded file into rest count block pages size from len n lt le from_is size_is len_is is =
    let long : length into ≡ size = ap length is ∙ (length-take size (drop from file) ∙ omega (arith, length-drop from file)) in
    pages_whole file block pages (omega arith) ∙ ap (λ (ys : List ℕ). Some ys) (ap (λ k. take k (drop (4096 * block) file)) (sym size_is) ∙ ap (λ k. take size (drop k file)) (sym from_is) ∙ sym is ∙ sym (front len into rest (len_is ∙ sym long)))

-- ---- what a call found

pub gives_list : {X : Type 0} (o : Option (List X)) (found : Option (Vec X Global)) (v : Vec X Global) → found ≡ Some v → Gives o found → o ≡ Some v.items
gives_list {X} o None v is gives = absurd (cc)
gives_list {X} o (Some w) v is gives = let e : w ≡ v = cc in gives ∙ ap (λ (u : Vec X Global). Some u.items) e

pub gives_none : {X : Type 0} (o : Option (List X)) (found : Option (Vec X Global)) → found ≡ None → Gives o found → o ≡ None
gives_none o None is gives = gives
gives_none o (Some w) is gives = absurd (cc)

-- what was read of bytes that are there
pub gives_read : {X : Type 0} (f : List ℕ → Option (List X)) (o : Option (List ℕ)) (bytes : List ℕ) (found : Option (Vec X Global)) → o ≡ Some bytes → Gives (f bytes) found → Gives (read_by f o) found
gives_read f None bytes found is gives = absurd (cc)
gives_read f (Some others) bytes found is gives = let e : bytes ≡ others = cc in subst (λ bs. Gives (f bs) found) e gives

pub extends_none : {X : Type 0} (o : Option (List X)) (old new : List X) (done : Bool) → done ≡ false → Extends o old new done → o ≡ None
extends_none o old new true is value = absurd (cc)
extends_none o old new false is value = value

pub extends_some : {X : Type 0} (o : Option (List X)) (old new : List X) (done : Bool) → done ≡ true → Extends o old new done → chained (Some old) o ≡ Some new
extends_some o old new true is value = value
extends_some o old new false is value = absurd (cc)

-- a sum of lines that does not fit is not the lines of an entry
pub too_many : (pages below lines : ℕ) (wide : Bool) → 2 ^ 64 ≤ below → lines < 2 ^ 64 → false ≡ (nat_eq pages 1 && (nat_eq below lines && wide))
too_many pages below lines wide many few = grind (arith, nat_tests)

pub if_none : {X : Type 0} (o : Option X) (P : Type 0) → o ≡ None → IfNone o P → P
if_none None P is h = h
if_none (Some x) P is h = absurd (cc)

pub no_items : {X : Type 0} (xs : List X) → length xs ≡ 0 → xs ≡ []
no_items [] e = refl
no_items (x ∷ xs) e = absurd (omega arith)

short_take : (file : List ℕ) (n size : ℕ) → n ≡ length file → size ≡ min n 4096 → take size file ≡ take 4096 file
short_take file n size n_is size_is = elim (cases_lt n 4096) [
  | inl lt ↦ take_all size file (omega arith) ∙ sym (take_all 4096 file (omega arith))
  | inr le ↦ (let e : size ≡ 4096 = omega arith in ap (λ k. take k file) e)
]

-- the first page, or all of a shorter file
pub head_loaded : (file into rest : List ℕ) (n size from len : ℕ) → n ≡ length file → size ≡ min n 4096 → from ≡ 0 → len ≡ size → into ≡ take size (drop from file) → take len (into ++ rest) ≡ take 4096 file
head_loaded file into rest n size from len n_is size_is from_is len_is is =
    let whole : into ≡ take size file = is ∙ ap (λ k. take size (drop k file)) from_is in
    let long : length into ≡ size = ap length whole ∙ (length-take size file ∙ omega arith) in
    front len into rest (len_is ∙ sym long) ∙ whole ∙ short_take file n size n_is size_is

-- Block 1 with one entry takes over the block below it, and the tree is as ready for what follows as it was.
use Rattle.std.proofs.Common.{◌≡◌, ℕ, zero, suc, ◌+◌, ◌-◌, ◌*◌, ◌<◌, ◌≤◌, ◌^◌, Bool, true, false, if◌then◌else◌, List, [], ◌∷◌, length, get_or, map, Some, IsSome, refl, sym, ap, subst, ◌∙◌, arith}
use Rattle.std.proofs.lemmas.Option.{same_Some}
use Rattle.std.specs.List.{AllByRecursion}
use Rattle.std.proofs.lemmas.List.{length-map}
use Rattle.vs_pages.specs.Maps.{Map, one, total, pages_at, put_pages, without}
use Rattle.vs_pages.specs.State.{PageState}
use Rattle.vs_pages.proofs.MapsLemmas.{one-same}
use Rattle.vs_tree_shape.specs.declared.entries.Entry.{Entry}
use Rattle.vs_tree_shape.specs.Trees.{Tree, uses, entry_of, IsTree, HasLines}
use Rattle.vs_tree_shape.specs.Changes.{HasLineBelow, Stored, pointer_entry}
use Rattle.vs_tree_shape.specs.Filled.{IsFilledBut}
use Rattle.vs_tree_shape.specs.Keeps.{IsReady, IsThick, KeepsBelow}
use Rattle.vs_tree_shape.proofs.Lowers.{keeps_has, lowered_but, lowered_thick, root_ready, thick_more, took_over}
use Rattle.vs_tree_shape.proofs.Towards.{some_kids}
use Rattle.vs_tree_shape.proofs.Walks.{lines_below_kids}
use Rattle.vs_tree_blocks.specs.Blocks.{tree_format, entries_at, points_in, LeadsToPointers}
use Rattle.vs_merge.specs.Roots.{Lowers, StandsDeep, TakesOver, Tidied}
use Rattle.vs_merge.specs.Tidies.{WorksBeside}
use Rattle.vs_merge.proofs.Pairs.{tree_there}
use Rattle.vs_merge.proofs.Evening.{there_still}
use Rattle.vs_merge.proofs.Working.{beside_both}

root_reads : (m : Map) (d : ℕ) (list : List (List ℕ)) (has : HasLines tree_format m (suc d) list) → entries_at m 1 ≡ Some (map (λ u. entry_of d u) has.tree.1)
root_reads m d list has = ap (λ (b : ℕ). entries_at m b) (sym has.stands.root) ∙ has.stands.tree.0

-- block 1 can be read
pub root_leads : (m : Map) (height lines : ℕ) → StandsDeep m height lines → LeadsToPointers m (pointer_entry 1 lines)
root_leads m zero lines s = absurd (omega (arith, s.has.deep))
root_leads m (suc d) lines s = record {
  entries = map (λ u. entry_of d u) s.has.tree.1;
  reads = root_reads m d s.list s.has;
  lines = lines_below_kids d s.has.tree.1 ∙ ap length s.has.lines_are ∙ s.count;
  single = refl;
}

-- the only block below block 1
pub record Only (m : Map) (e : ℕ) (list : List (List ℕ)) (has : HasLines tree_format m (suc (suc e)) list) (entry : Entry) : Type 0 where
  pub tree : Tree (suc e)
  pub only : has.tree.1 ≡ tree ∷ []
  pub entry_is : entry ≡ entry_of (suc e) tree
  pub is : IsTree tree_format (suc e) m tree
  pub apart : 1 ≡ tree.0 → ⊥

one_of : {X : Type 0} (xs : List X) → length xs ≡ 1 → (x : X) × (xs ≡ x ∷ [])
one_of [] one_is = absurd (omega (arith, one_is))
one_of (x ∷ []) one_is = (x, refl)
one_of (x ∷ y ∷ xs) one_is = absurd (omega (arith, one_is))

counted : (m : Map) (e : ℕ) (list : List (List ℕ)) (has : HasLines tree_format m (suc (suc e)) list) (es : List Entry) → entries_at m 1 ≡ Some es → es ≡ map (λ u. entry_of (suc e) u) has.tree.1
counted m e list has es reads = same_Some es (map (λ u. entry_of (suc e) u) has.tree.1) (sym reads ∙ root_reads m (suc e) list has)

pub the_only : (m : Map) (e : ℕ) (list : List (List ℕ)) (has : HasLines tree_format m (suc (suc e)) list) (es : List Entry) (x d : Entry) → entries_at m 1 ≡ Some es → length es ≡ 1 → x ≡ get_or es 0 d → Only m e list has x
the_only m e list has es entry d reads one_is got =
    let same : es ≡ map (λ u. entry_of (suc e) u) has.tree.1 = counted m e list has es reads in
    let x = one_of has.tree.1 (omega (arith, one_is, ap length same, length-map has.tree.1 (λ u. entry_of (suc e) u))) in
    let P : List (Tree (suc e)) → Type 0 = λ us. AllByRecursion (λ u. IsTree tree_format (suc e) m u) us in
    record {
      tree = x.0;
      only = x.1;
      entry_is = got ∙ ap (λ xs. get_or xs 0 d) (same ∙ ap (λ us. map (λ u. entry_of (suc e) u) us) x.1);
      is = (subst P x.1 has.stands.tree.1).0;
      apart = λ p. omega (arith, has.stands.once 1, ap (λ b. one b 1) has.stands.root, one-same 1, ap (λ us. total (λ u. uses (suc e) u 1) us) x.1, ap (λ b. one b 1) p);
    }

pub only_leads : (m : Map) (e : ℕ) (list : List (List ℕ)) (has : HasLines tree_format m (suc (suc e)) list) (entry : Entry) → Only m e list has entry → LeadsToPointers m entry
only_leads m e list has entry x = record {
  entries = map (λ v. entry_of e v) x.tree.1;
  reads = ap (λ (y : Entry). entries_at m y.block) x.entry_is ∙ x.is.0;
  lines = lines_below_kids e x.tree.1 ∙ sym (ap (λ (y : Entry). y.lines) x.entry_is);
  single = ap (λ (y : Entry). y.pages) x.entry_is;
}

-- it is there also after block 1 was written
pub only_there : (m n : Map) (e : ℕ) (list : List (List ℕ)) (has : HasLines tree_format m (suc (suc e)) list) (entry : Entry) (bytes : List ℕ) → Only m e list has entry → n ≡ put_pages m 1 1 bytes → IsSome (pages_at n entry.block 1)
only_there m n e list has entry bytes x is =
    subst (λ (b : ℕ). IsSome (pages_at n b 1)) (sym (ap (λ (y : Entry). y.block) x.entry_is)) (there_still m n 1 x.tree.0 bytes x.apart is (tree_there tree_format e m x.tree x.is))

-- block 1 took its entries over
pub took_only : (m n1 n2 : Map) (e : ℕ) (list : List (List ℕ)) (has : HasLines tree_format m (suc (suc e)) list) (entry : Entry) (below : List Entry) (bytes : List ℕ) → Only m e list has entry → entries_at m entry.block ≡ Some below
    → Stored m n1 1 1 bytes → points_in bytes ≡ Some below → n2 ≡ without n1 entry.block 1 → TakesOver m n2 e list has true
took_only m n1 n2 e list has entry below bytes x reads s points is =
    let block : entry.block ≡ x.tree.0 = ap (λ (y : Entry). y.block) x.entry_is in
    let kids : below ≡ map (λ v. entry_of e v) x.tree.1 = same_Some below (map (λ v. entry_of e v) x.tree.1) (sym reads ∙ ap (λ (b : ℕ). entries_at m b) block ∙ x.is.0) in
    let r = took_over tree_format m n1 n2 e x.tree.0 x.tree.1 list bytes has x.only s (points ∙ ap (λ xs. Some xs) kids) (is ∙ ap (λ b. without n1 b 1) block) in
    (r.0, x.tree.0, x.only ∙ ap (λ (us : List (Tree e)). let u : Tree (suc e) = (x.tree.0, us) in u ∷ []) (sym (ap (λ (t : Tree (suc e)). t.1) r.1)))

pub not_only : (m n : Map) (e : ℕ) (list : List (List ℕ)) (has : HasLines tree_format m (suc (suc e)) list) (es : List Entry) → entries_at m 1 ≡ Some es → (length es ≡ 1 → ⊥) → n ≡ m → TakesOver m n e list has false
not_only m n e list has es reads other same =
    (same, λ one_is. other (ap length (counted m e list has es reads) ∙ length-map has.tree.1 (λ u. entry_of (suc e) u) ∙ one_is))

-- nothing is left to take over
lowers_flat_here : (m : Map) (height : ℕ) (lines : List (List ℕ)) (has : HasLines tree_format m height lines) → height < 2 → Lowers m m height height lines has
lowers_flat_here m zero lines has low = absurd (omega (arith, has.deep))
lowers_flat_here m (suc zero) lines has low = record {
  low = has;
  ready = λ at f. root_ready zero has.tree at (λ more. absurd (omega (arith, more))) f;
  filled = λ f. (omega (arith, f.0), f.1);
  near = λ f. omega arith;
  stays = λ f. refl;
}
lowers_flat_here m (suc (suc e)) lines has low = absurd (omega (arith, low))

pub lowers_flat : (m n : Map) (height : ℕ) (lines : List (List ℕ)) (has : HasLines tree_format m height lines) → height < 2 → n ≡ m → Lowers m n height height lines has
lowers_flat m n height lines has low same = subst (λ (f : Map). Lowers m f height height lines has) (sym same) (lowers_flat_here m height lines has low)

lowers_two : (m : Map) (e : ℕ) (lines : List (List ℕ)) (has : HasLines tree_format m (suc (suc e)) lines) → (length has.tree.1 ≡ 1 → ⊥) → Lowers m m (suc (suc e)) (suc (suc e)) lines has
lowers_two m e lines has other = record {
  low = has;
  ready = λ at f. root_ready (suc e) has.tree at (λ more. omega (arith, other, some_kids (suc e) has.tree.1 at f.0)) f;
  filled = λ f. (omega (arith, other, f.0), f.1);
  near = λ f. omega arith;
  stays = λ f. refl;
}

pub lowers_not : (m n : Map) (height : ℕ) (lines : List (List ℕ)) (has : HasLines tree_format m height lines) → 2 ≤ height
    → ((e : ℕ) (had : HasLines tree_format m (suc (suc e)) lines) → TakesOver m n e lines had false) → Lowers m n height height lines has
lowers_not m n zero lines has deep takes = absurd (omega (arith, deep))
lowers_not m n (suc zero) lines has deep takes = absurd (omega (arith, deep))
lowers_not m n (suc (suc e)) lines has deep takes =
    let t = takes e has in
    subst (λ (f : Map). Lowers m f (suc (suc e)) (suc (suc e)) lines has) (sym t.0) (lowers_two m e lines has t.1)

-- one level, and then the others
pub lowers_on : (m n1 n2 : Map) (height now : ℕ) (lines : List (List ℕ)) (has : HasLines tree_format m height lines) → 2 ≤ height
    → ((e : ℕ) (had : HasLines tree_format m (suc (suc e)) lines) → TakesOver m n1 e lines had true)
    → ((low : HasLines tree_format n1 (height - 1) lines) → Lowers n1 n2 (height - 1) now lines low) → Lowers m n2 height now lines has
lowers_on m n1 n2 zero now lines has deep takes lowers = absurd (omega (arith, deep))
lowers_on m n1 n2 (suc zero) now lines has deep takes lowers = absurd (omega (arith, deep))
lowers_on m n1 n2 (suc (suc e)) now lines has deep takes lowers =
    let t = takes e has in
    let less : suc (suc e) - 1 ≡ suc e = omega arith in
    let P : ℕ → Type 0 = λ d. (low : HasLines tree_format n1 d lines) → Lowers n1 n2 d now lines low in
    let go : (low : HasLines tree_format n1 (suc e) lines) → Lowers n1 n2 (suc e) now lines low = subst P less lowers in
    let v : Lowers n1 n2 (suc e) now lines t.0 = go t.0 in
    record {
      low = v.low;
      ready = λ at f. v.ready at (lowered_but e t.1 t.0.tree.0 at t.0.tree.1 has.tree t.2 f);
      filled = λ f. v.filled (thick_more 32 1 (suc e) t.0.tree (omega arith) (lowered_thick 1 e t.1 t.0.tree.0 t.0.tree.1 has.tree t.2 f));
      near = λ f. omega (arith, v.stays (thick_more 32 2 (suc e) t.0.tree (omega arith) (lowered_thick 1 e t.1 t.0.tree.0 t.0.tree.1 has.tree t.2 f)));
      stays = λ f. absurd (omega (arith, f.0, ap length t.2));
    }

-- block 1 of a lower tree is still there to be read
pub deep_below : (m n : Map) (height lines : ℕ) → 2 ≤ height → StandsDeep m height lines
    → ((e : ℕ) (list : List (List ℕ)) (had : HasLines tree_format m (suc (suc e)) list) → TakesOver m n e list had true) → StandsDeep n (height - 1) lines
deep_below m n zero lines deep s takes = absurd (omega (arith, deep))
deep_below m n (suc zero) lines deep s takes = absurd (omega (arith, deep))
deep_below m n (suc (suc e)) lines deep s takes =
    let less : suc e ≡ suc (suc e) - 1 = omega arith in
    subst (λ (d : ℕ). StandsDeep n d lines) less (record { list = s.list; has = (takes e s.list s.has).0; count = s.count })

pub deep_e : (m : Map) (height lines : ℕ) → 2 ≤ height → StandsDeep m height lines → (e : ℕ) × StandsDeep m (suc (suc e)) lines
deep_e m zero lines deep s = absurd (omega (arith, deep))
deep_e m (suc zero) lines deep s = absurd (omega (arith, deep))
deep_e m (suc (suc e)) lines deep s = (e, s)

-- what each of the three steps leaves

line_above : (m : Map) (height at count : ℕ) (list : List (List ℕ)) (has : HasLines tree_format m height list) → length list ≡ count → at < count → count < 2 ^ 62 → HasLineBelow tree_format m (pointer_entry 1 count) height at
line_above m height at count list has same within small = record {
  tree = has.tree;
  stands = has.stands;
  lines = ap length has.lines_are ∙ same;
  within = omega (arith, within, same, ap length has.lines_are);
  small = omega (arith, small, same, ap length has.lines_are);
}

pub lowered_stands : (m n : Map) (height now lines : ℕ) (s : StandsDeep m height lines) → Lowers m n height now s.list s.has → StandsDeep n now lines
lowered_stands m n height now lines s w = record { list = s.list; has = w.low; count = s.count }

pub stands_above : (m : Map) (height lines at : ℕ) → StandsDeep m height lines → at < lines → lines < 2 ^ 62 → HasLineBelow tree_format m (pointer_entry 1 lines) height at
stands_above m height lines at s within small = line_above m height at lines s.list s.has s.count within small

pub kept_stands : (m n : Map) (height lines at : ℕ) (P Q : Tree height → Type 0) (s : StandsDeep m height lines) → at < lines → lines < 2 ^ 62 → KeepsBelow tree_format m n (pointer_entry 1 lines) height at P Q → StandsDeep n height lines
unfolding line_above
kept_stands m n height lines at P Q s within small keeps =
    let k = keeps (line_above m height at lines s.list s.has s.count within small) in
    record { list = s.list; has = (keeps_has tree_format m n height s.list s.has k.0).0; count = s.count }

pub tidied_all : (s1 s2 s3 s4 : PageState) (height high now at count : ℕ) (list : List (List ℕ)) (has : HasLines tree_format s1.present height list) → length list ≡ count → at < count → count < 2 ^ 62 → high ≤ height → now ≤ high
    → Lowers s1.present s2.present height high list has
    → ((need : ℕ) → 1 ≤ need → KeepsBelow tree_format s2.present s3.present (pointer_entry 1 count) high at (λ t. IsReady need high t at) (λ t. IsThick need high t))
    → ((mid : HasLines tree_format s3.present high list) → Lowers s3.present s4.present high now list mid)
    → WorksBeside s1.worked s2.worked 1 (height - high) → WorksBeside s2.worked s3.worked 1 (2 * (high - 1)) → WorksBeside s3.worked s4.worked 1 (high - now)
    → Tidied s1 s4 height now at list has
unfolding line_above
tidied_all s1 s2 s3 s4 height high now at count list has same within small le1 le2 first tidies last w1 w2 w3 =
    let k = tidies 1 (omega arith) (line_above s2.present high at count list first.low same within small) in
    let mid = keeps_has tree_format s2.present s3.present high list first.low k.0 in
    let v : Lowers s3.present s4.present high now list mid.0 = last mid.0 in
    let thick : IsFilledBut 32 height has.tree at → IsThick 1 high mid.0.tree = λ f. subst (λ (t : Tree high). IsThick 1 high t) (sym mid.1) (k.1 (first.ready at f)) in
    let both : WorksBeside s1.worked s3.worked 1 ((height - high) + 2 * (high - 1)) = beside_both s1.worked s2.worked s3.worked 1 (height - high) (2 * (high - 1)) ((height - high) + 2 * (high - 1)) (omega arith) w1 w2 in
    let all : WorksBeside s1.worked s4.worked 1 (((height - high) + 2 * (high - 1)) + (high - now)) = beside_both s1.worked s3.worked s4.worked 1 ((height - high) + 2 * (high - 1)) (high - now) (((height - high) + 2 * (high - 1)) + (high - now)) (omega arith) both w3 in
    record {
      done = v.low;
      filled = λ f. v.filled (thick f);
      works = λ f. record { names = 1 ∷ all.names; few = omega (arith, all.few, v.near (thick f), le1, le2); only = all.only };
    }

-- block 1 is there
pub root_there : (m : Map) (e lines : ℕ) → StandsDeep m (suc (suc e)) lines → IsSome (pages_at m 1 1)
root_there m e lines s = subst (λ (b : ℕ). IsSome (pages_at m b 1)) s.has.stands.root (tree_there tree_format (suc e) m s.has.tree s.has.stands.tree)

-- by what was answered
pub took_false : (m n : Map) (e : ℕ) (lines : List (List ℕ)) (had : HasLines tree_format m (suc (suc e)) lines) (took : Bool) → took ≡ false → TakesOver m n e lines had took → TakesOver m n e lines had false
took_false m n e lines had took is takes = subst (λ (b : Bool). TakesOver m n e lines had b) is takes

pub took_true : (m n : Map) (e : ℕ) (lines : List (List ℕ)) (had : HasLines tree_format m (suc (suc e)) lines) (took : Bool) → took ≡ true → TakesOver m n e lines had took → TakesOver m n e lines had true
took_true m n e lines had took is takes = subst (λ (b : Bool). TakesOver m n e lines had b) is takes

pub works_false : (a b : List ℕ) (took : Bool) → took ≡ false → WorksBeside a b 1 (if took then 1 else 0) → WorksBeside a b 1 0
works_false a b took is w = subst (λ (x : Bool). WorksBeside a b 1 (if x then 1 else 0)) is w

pub works_true : (a b : List ℕ) (took : Bool) → took ≡ true → WorksBeside a b 1 (if took then 1 else 0) → WorksBeside a b 1 1
works_true a b took is w = subst (λ (x : Bool). WorksBeside a b 1 (if x then 1 else 0)) is w

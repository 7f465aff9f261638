-- The index of the changes' numbers.
use Rattle.std.proofs.Common.{◌≡◌, ℕ, suc, Bool, true, false, cond, eqb, List, [], ◌∷◌, ◌++◌, length, Option, Some, None, refl, sym, ap, ◌∙◌, subst, arith, inl, inr}
use Rattle.std.specs.Option.{is_some, option_map}
use Rattle.std.specs.Ordering.{is_eq, nat_cmp}
use Rattle.std.specs.declared.cmp.Ordering.TheVariants.{Less, Equal, Greater}
use Rattle.std.specs.BTreeMap.{BTreeMap, Updates, get}
use Rattle.std.proofs.lemmas.Bool.{cases_eq, ne_eqb}
use Rattle.vs_ufile.specs.Changes.{IsIndex}
use Rattle.vs_ufile.specs.Reading.{index_of}

is_other : (a b : Bool) → b ≡ false → is_eq (cond a Less (cond b Equal Greater)) ≡ false
is_other true b e = refl
is_other false true e = absurd cc
is_other false false e = refl

some_more : (o : Option ℕ) → option_map suc o ≡ None → o ≡ None
some_more None e = refl
some_more (Some n) e = absurd cc

chosen : (b : Bool) (o : Option ℕ) → cond b (Some 0) (option_map suc o) ≡ None → (b ≡ false) × (o ≡ None)
chosen true o e = absurd cc
chosen false o e = (refl, some_more o e)

index_of-last : (xs : List ℕ) (m : ℕ) → index_of m xs ≡ None → index_of m (xs ++ m ∷ []) ≡ Some (length xs)
index_of-last [] m e = let same : eqb m m ≡ true = grind arith in rw same refl
index_of-last (x ∷ xs) m e =
    let c = chosen (eqb x m) (index_of m xs) e in
    ap (λ (b : Bool). cond b (Some 0) (option_map suc (index_of m (xs ++ m ∷ [])))) c.0 ∙ ap (option_map suc) (index_of-last xs m c.1)

index_of-other : (xs : List ℕ) (m n : ℕ) → eqb m n ≡ false → index_of n (xs ++ m ∷ []) ≡ index_of n xs
index_of-other [] m n e = rw e refl
index_of-other (x ∷ xs) m n e = ap (λ (o : Option ℕ). cond (eqb x n) (Some 0) (option_map suc o)) (index_of-other xs m n e)

pub index_more : (index next : BTreeMap ℕ ℕ) (xs : List ℕ) (m : ℕ) → IsIndex index xs → index_of m xs ≡ None → Updates nat_cmp index next m (Some (suc (length xs))) → IsIndex next (xs ++ m ∷ [])
index_more index next xs m old new u = record {
  at = λ n. elim (cases_eq m n) [
    | inl e ↦ subst (λ (k : ℕ). get nat_cmp next k ≡ option_map suc (index_of k (xs ++ m ∷ []))) e (u.1 ∙ sym (ap (option_map suc) (index_of-last xs m new)))
    | inr ne ↦ u.2 n (is_other _ (eqb m n) (ne_eqb m n ne)) ∙ old.at n ∙ sym (ap (option_map suc) (index_of-other xs m n (ne_eqb m n ne)))
  ];
}

pub some_after : (o : Option ℕ) → is_some (option_map suc o) ≡ is_some o
some_after None = refl
some_after (Some n) = refl

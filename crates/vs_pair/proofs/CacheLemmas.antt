-- After a page is put into a cache, each other page that is there was there before.
use Rattle.std.proofs.Common.{◌≡◌, ◌≢◌, ℕ, zero, suc, ◌-◌, Bool, true, false, nat_eq, IsTrue, List, [], ◌∷◌, take, Option, Some, None, IsSome, Result, Ok, Err, refl, inl, inr, sym, ◌∙◌, ap, subst, arith}
use Rattle.std.proofs.lemmas.Bool.{cases_eq, false≢true}
use Rattle.std.proofs.lemmas.Bool.Decides.{nat_tests}
use Rattle.std.specs.Prelude.{IsOk, OnErr, OnOk}
use Rattle.std.specs.Cmp.{IsEquivalence}
use Rattle.std.specs.Map.{lookup, lookup_entry, remove_entry}
use Rattle.std.specs.Option.{option_map_or}
use Rattle.lru.specs.LruCache.{LruCache, lru_cache, put_entries}
use Rattle.lru.proofs.CallerLemmas.{Contains-lookup_entry, lookup-put_entries}
use Rattle.vs_pages.specs.Maps.{Map}
use Rattle.vs_pair.specs.declared.cache.Clean.{Clean}

pub key_is : (a b : ℕ) → nat_eq a b ≡ true → a ≡ b
key_is a b is = grind (arith, nat_tests)

other_key : (a b : ℕ) → a ≢ b → nat_eq a b ≡ false
other_key a b other = grind (arith, nat_tests)

same_key : (a : ℕ) → nat_eq a a ≡ true
same_key a = grind (arith, nat_tests)

turned_key : (a b : ℕ) → nat_eq a b ≡ nat_eq b a
turned_key a b = grind (arith, nat_tests)

-- the test of two keys is an equivalence
keys : IsEquivalence nat_eq
keys = record { refl = same_key; symm = turned_key; congr = λ a b c is. ap (λ (j : ℕ). nat_eq j c) (key_is a b is) }

in_first : (n q : ℕ) (es : List (ℕ × Clean)) (page : Clean) → lookup (nat_eq q) (take n es) ≡ Some page → lookup (nat_eq q) es ≡ Some page
in_first zero q es page is = cc
in_first (suc n) q [] page is = is
in_first (suc n) q (e ∷ es) page is = (elim (nat_eq q e.0) as (λ y. nat_eq q e.0 ≡ y → lookup (nat_eq q) (e ∷ es) ≡ Some page) [
  | true ↦ λ t. rw t (rw t at is)
  | false ↦ λ t. rw t (in_first n q es page (rw t at is))
]) refl

in_rest : (k q : ℕ) (es : List (ℕ × Clean)) (page : Clean) → q ≢ k → lookup (nat_eq q) (remove_entry (nat_eq k) es) ≡ Some page → lookup (nat_eq q) es ≡ Some page
in_rest k q [] page other is = is
in_rest k q (e ∷ es) page other is = (elim (nat_eq k e.0) as (λ y. nat_eq k e.0 ≡ y → lookup (nat_eq q) (e ∷ es) ≡ Some page) [
  | true ↦ λ t. let u : nat_eq q e.0 ≡ false = other_key q e.0 (λ same. other (same ∙ sym (key_is k e.0 t))) in rw u (rw t at is)
  | false ↦ λ t. let left = rw t at is in (elim (nat_eq q e.0) as (λ y. nat_eq q e.0 ≡ y → lookup (nat_eq q) (e ∷ es) ≡ Some page) [
    | true ↦ λ u. rw u (rw u at left)
    | false ↦ λ u. rw u (in_rest k q es page other (rw u at left))
  ]) refl
]) refl

module _ (c : LruCache ℕ Clean) (k : ℕ) (v : Clean) (q : ℕ) (page : Clean) (other : q ≢ k) where
  after_put : (o : Option (ℕ × Clean)) → lookup_entry (nat_eq k) c.entries ≡ o
      → lookup (nat_eq q) (option_map_or (λ e. (e.0, v) ∷ remove_entry (nat_eq k) c.entries) o ((k, v) ∷ take (c.cap - 1) c.entries)) ≡ Some page
      → lookup (nat_eq q) c.entries ≡ Some page
  after_put None was is = let u : nat_eq q k ≡ false = other_key q k other in in_first (c.cap - 1) q c.entries page (rw u at is)
  after_put (Some f) was is =
      let t : nat_eq k f.0 ≡ true = (Contains-lookup_entry (nat_eq k) c.entries f was).1 in
      let u : nat_eq q f.0 ≡ false = other_key q f.0 (λ same. other (same ∙ sym (key_is k f.0 t))) in
      in_rest k q c.entries page other (rw u at is)

  put_other : lookup (nat_eq q) (put_entries nat_eq c k v) ≡ Some page → lookup (nat_eq q) c.entries ≡ Some page
  put_other is = after_put (lookup_entry (nat_eq k) c.entries) refl is

abbrev pub IsOf : (ℕ → Bool) → Map → List (ℕ × Clean) → Type 0
IsOf on map entries = (at : ℕ) → IsTrue (on at) → (page : Clean) → lookup (nat_eq at) entries ≡ Some page → map at ≡ Some page.bytes.items

module _ (before after : ℕ → Bool) (map : Map) (c next : LruCache ℕ Clean) (k : ℕ) (v : Clean) (narrow : (j : ℕ) → IsTrue (after j) → j ≢ k → IsTrue (before j)) where
  put_cached : IsOf before map c.entries → map k ≡ Some v.bytes.items → next ≡ lru_cache (put_entries nat_eq c k v) c.cap → IsOf after map next.entries
  put_cached was there now at on page is =
      let found : lookup (nat_eq at) (put_entries nat_eq c k v) ≡ Some page = ap (λ (l : LruCache ℕ Clean). lookup (nat_eq at) l.entries) (sym now) ∙ is in
      elim (cases_eq at k) [
        | inl same ↦
            let put : Some v ≡ Some page = sym (lookup-put_entries nat_eq c k v keys) ∙ (ap (λ (j : ℕ). lookup (nat_eq j) (put_entries nat_eq c k v)) (sym same) ∙ found) in
            let page_is : v ≡ page = cc in
            ap map same ∙ (there ∙ ap (λ (p : Clean). Some p.bytes.items) page_is)
        | inr other ↦ was at (narrow at on other) page (put_other c k v at page other found)
      ]

  refused : IsOf before map c.entries → next ≡ c → (IsSome (lookup (nat_eq k) c.entries) → ⊥) → IsOf after map next.entries
  refused was same none at on page is =
      let found : lookup (nat_eq at) c.entries ≡ Some page = ap (λ (l : LruCache ℕ Clean). lookup (nat_eq at) l.entries) (sym same) ∙ is in
      elim (cases_eq at k) [
        | inl equal ↦ absurd (none (subst (λ (o : Option Clean). IsSome o) (sym (ap (λ (j : ℕ). lookup (nat_eq j) c.entries) (sym equal) ∙ found)) refl))
        | inr other ↦ was at (narrow at on other) page found
      ]

  pub put_either : {T E : Type 0} (result : Result T E) → OnOk result (next ≡ lru_cache (put_entries nat_eq c k v) c.cap) → OnErr result (next ≡ c)
      → (IsSome (lookup (nat_eq k) c.entries) → IsOk result) → IsOf before map c.entries → map k ≡ Some v.bytes.items → IsOf after map next.entries
  put_either (Ok done) ok err succeeds was there = put_cached was there ok
  put_either (Err failed) ok err succeeds was there = refused was err (λ some. false≢true (succeeds some))

-- Parts of the tree that the data of an undo file stands for, one by one.
use Rattle.std.proofs.Common.{◌≡◌, ◌≢◌, ◌⊎◌, inl, inr, ℕ, zero, suc, ◌+◌, ◌<◌, ◌≤◌, ◌==◌, ◌&&◌, cond, eqb, Bool, true, false, List, [], ◌∷◌, ◌++◌, length, get_or, map, take, max, Option, Some, None, unwrap_or, refl, sym, ap, subst, ◌∙◌, arith}
use Rattle.std.proofs.lemmas.Option.{same_Some}
use Rattle.std.specs.Prelude.{Contains}
use Rattle.std.specs.BTreeMap.{get, BTreeMap, Updates}
use Rattle.std.specs.Ordering.{is_eq, nat_cmp}
use Rattle.std.specs.declared.cmp.Ordering.TheVariants.{Less, Equal, Greater}
use Rattle.std.proofs.lemmas.Bool.{cases_eq, cases_lt, ne_eqb, and_right}
use Rattle.std.proofs.lemmas.List.{get_or_append_left, get_or_default, get_or_push, get_or-map, length-append, length-map, map_push, take_all, take_more}
use Rattle.std.proofs.lemmas.List.Elements.{Contains-append_cases, Contains-append_left, Contains-append_right, Contains-get_or}
use Rattle.vs_entries.specs.declared.entry.Entry.{Entry}
use Rattle.vs_undo.specs.declared.parts.Node.{Node}
use Rattle.vs_ufile.specs.declared.history.FileChange.{FileChange}
use Rattle.vs_ufile.specs.declared.history.FileEntry.{FileEntry}
use Rattle.vs_ufile.specs.Values as file
use Rattle.vs_ufile.specs.Values.{change_of, entry_of}
use Rattle.vs_ufile.specs.Descent.{IsLastUsed, IsLineage}
use Rattle.vs_ufile.specs.Tree.{numbers, IsChange, IsParent}
use Rattle.vs_ufile.specs.Walks.{at}
use Rattle.vs_ubind.specs.Meaning.{entries_in, flagged, taken, HasSave, IsGreatest, IsKeptSave, StandsFor}
use Rattle.vs_ubind.specs.Taken.{taken_change, AreSavers, AreTaken}

-- ---- entries
with_true : (flag b : Bool) → b ≡ true → (flag && b) ≡ flag
with_true true b is = is
with_true false b is = refl

pub same_test : (a b c d : ℕ) → (a ≡ b → c ≡ d) → (c ≡ d → a ≡ b) → (a == b) ≡ (c == d)
same_test a b c d on back = elim (cases_eq a b) [
  | inl e ↦ let one : (a == b) ≡ true = grind (arith) in let f = on e in let two : (c == d) ≡ true = grind (arith) in one ∙ sym two
  | inr ne ↦ ne_eqb a b ne ∙ sym (ne_eqb c d (λ f. ne (back f)))
]

flagged_at : (flag : Bool) (es : List file.Entry) (i : ℕ) (d : Entry) (e : file.Entry) → i < length es → get_or (flagged flag es) i d ≡ taken (flag && (i + 1 == length es)) (get_or es i e)
flagged_at flag [] i d e lt = absurd (omega (arith, lt))
flagged_at flag (x ∷ []) zero d e lt = ap (λ f. taken f x) (sym (with_true flag true refl))
flagged_at flag (x ∷ []) (suc i) d e lt = absurd (omega (arith, lt))
flagged_at flag (x ∷ y ∷ es) zero d e lt = ap (λ f. taken f x) (sym (and_right flag (0 + 1 == length (x ∷ y ∷ es)) (ne_eqb (0 + 1) (length (x ∷ y ∷ es)) (λ z. omega (arith, z)))))
flagged_at flag (x ∷ y ∷ es) (suc i) d e lt =
    flagged_at flag (y ∷ es) i d e (omega (arith, lt))
    ∙ ap (λ b. taken (flag && b) (get_or (y ∷ es) i e)) (same_test (i + 1) (length (y ∷ es)) (suc i + 1) (length (x ∷ y ∷ es)) (λ z. omega (arith, z)) (λ z. omega (arith, z)))

pub flagged_count : (flag : Bool) (es : List file.Entry) → length (flagged flag es) ≡ length es
flagged_count flag [] = refl
flagged_count flag (x ∷ []) = refl
flagged_count flag (x ∷ y ∷ es) = ap suc (flagged_count flag (y ∷ es))

pub flagged_more : (flag : Bool) (es : List FileEntry) (i : ℕ) (own : FileEntry) (so_far new : List Entry) (x : Entry) → i < length es → own ≡ get_or es i own → so_far ≡ take i (flagged flag (map entry_of es))
    → x ≡ taken (flag && (i + 1 == length es)) (entry_of (get_or es i own)) → new ≡ so_far ++ x ∷ [] → new ≡ take (i + 1) (flagged flag (map entry_of es))
flagged_more flag es i own so_far new x lt is before this pushed =
    let all = flagged flag (map entry_of es) in
    let count : length (map entry_of es) ≡ length es = length-map es entry_of in
    let inside : i < length (map entry_of es) = omega (arith, lt, count) in
    let whole : i < length all = omega (arith, inside, flagged_count flag (map entry_of es)) in
    let here : get_or all i x ≡ x =
    flagged_at flag (map entry_of es) i x (entry_of own) inside
    ∙ (ap (λ n. taken (flag && (i + 1 == n)) (get_or (map entry_of es) i (entry_of own))) count
    ∙ (ap (λ e. taken (flag && (i + 1 == length es)) e) (get_or-map entry_of es i own (entry_of own) lt) ∙ sym this)) in
    pushed ∙ (ap (λ xs. xs ++ x ∷ []) before ∙ (ap (λ y. take i all ++ y ∷ []) (sym here) ∙ sym (take_more all i x whole)))

pub entries_some : (flag : Bool) (es : List FileEntry) → length es ≢ 0 → entries_in flag (map entry_of es) ≡ flagged flag (map entry_of es)
entries_some flag [] some = absurd (some refl)
entries_some flag (e ∷ es) some = refl

-- ---- one change more
pub at_item : (own all : List FileChange) (i : ℕ) (item : FileChange) → own ≡ all → i < length own → item ≡ get_or own i item → (i < length all) × (item ≡ get_or all i item)
at_item own all i item same lt is = (omega (arith, lt, ap length same), is ∙ ap (λ xs. get_or xs i item) same)

changes_more : (changes : List FileChange) (i : ℕ) (own : FileChange) → i < length changes → own ≡ get_or changes i own → map change_of (take (i + 1) changes) ≡ map change_of (take i changes) ++ change_of own ∷ []
changes_more changes i own lt is =
    ap (map change_of) (take_more changes i own lt ∙ ap (λ x. take i changes ++ x ∷ []) (sym is)) ∙ map_push change_of (take i changes) own

contains_cases : (changes : List file.Change) (own change : file.Change) → Contains (changes ++ own ∷ []) change → Contains changes change ⊎ (own ≡ change)
contains_cases changes own change is = elim (Contains-append_cases changes (own ∷ []) change is) [
  | inl old ↦ inl old
  | inr last ↦ inr (only last)
]
  where
    only : Contains (own ∷ []) change → own ≡ change
    only (zero, lt, e) = e
    only (suc i, lt, e) = absurd (omega (arith, lt))

contains_last : (changes : List file.Change) (own : file.Change) → Contains (changes ++ own ∷ []) own
contains_last changes own = Contains-append_right changes (own ∷ []) own (0, omega arith, refl)

-- ---- save numbers
is_other : (a b : Bool) → b ≡ false → is_eq (cond a Less (cond b Equal Greater)) ≡ false
is_other true b e = refl
is_other false true e = absurd cc
is_other false false e = refl

module _ (changes : List file.Change) (own : file.Change) (savers next : BTreeMap ℕ ℕ) (old : AreSavers changes savers) where
  abbrev greater : ℕ
  greater = max (unwrap_or (get nat_cmp savers own.save) 0) own.number

  found_more : Updates nat_cmp savers next own.save (Some greater) → (change : file.Change) → Contains changes change ⊎ (own ≡ change) → (n : ℕ) × (get nat_cmp next change.save ≡ Some n) × (change.number ≤ n)
  found_more u change (inr this) = (greater, ap (λ (c : file.Change). get nat_cmp next c.save) (sym this) ∙ u.1, let e = ap (λ (c : file.Change). c.number) this in omega (arith, e))
  found_more u change (inl is) =
      let f = old.found change is in
      elim (cases_eq own.save change.save) [
        | inl same ↦
            let was : get nat_cmp savers own.save ≡ Some f.0 = ap (λ s. get nat_cmp savers s) same ∙ f.1 in
            (greater, ap (λ s. get nat_cmp next s) (sym same) ∙ u.1, let e = ap (λ o. unwrap_or o 0) was in omega (arith, e, f.2))
        | inr apart ↦ (f.0, u.2 change.save (is_other _ (eqb own.save change.save) (ne_eqb own.save change.save apart)) ∙ f.1, f.2)
      ]

  held_now : (o : Option ℕ) → get nat_cmp savers own.save ≡ o → (change : file.Change) × Contains (changes ++ own ∷ []) change × (change.save ≡ own.save) × (change.number ≡ max (unwrap_or o 0) own.number)
  held_now None was = (own, contains_last changes own, refl, omega arith)
  held_now (Some m) was = elim (cases_lt own.number m) [
    | inl less ↦
        let h = old.held own.save m was in
        (h.0, Contains-append_left changes (own ∷ []) h.0 h.1, h.2, omega (arith, h.3, less))
    | inr more ↦ (own, contains_last changes own, refl, omega (arith, more))
  ]

  held_more : Updates nat_cmp savers next own.save (Some greater) → (save n : ℕ) → get nat_cmp next save ≡ Some n → (change : file.Change) × Contains (changes ++ own ∷ []) change × (change.save ≡ save) × (change.number ≡ n)
  held_more u save n is = elim (cases_eq own.save save) [
    | inl same ↦
        let h = held_now (get nat_cmp savers own.save) refl in
        let this : greater ≡ n = same_Some greater n (sym u.1 ∙ (ap (λ s. get nat_cmp next s) same ∙ is)) in
        (h.0, h.1, h.2 ∙ same, h.3 ∙ this)
    | inr apart ↦
        let h = old.held save n (sym (u.2 save (is_other _ (eqb own.save save) (ne_eqb own.save save apart))) ∙ is) in
        (h.0, Contains-append_left changes (own ∷ []) h.0 h.1, h.2, h.3)
  ]

  savers_grow : Updates nat_cmp savers next own.save (Some greater) → AreSavers (changes ++ own ∷ []) next
  savers_grow u = record { found = λ change is. found_more u change (contains_cases changes own change is); held = held_more u }

pub savers_more : (changes : List FileChange) (i : ℕ) (own : FileChange) (savers next : BTreeMap ℕ ℕ) (number : ℕ) → i < length changes → own ≡ get_or changes i own → AreSavers (map change_of (take i changes)) savers
    → number ≡ max (unwrap_or (get nat_cmp savers own.save) 0) own.number → Updates nat_cmp savers next own.save (Some number) → AreSavers (map change_of (take (i + 1) changes)) next
savers_more changes i own savers next number lt is old this u =
    subst (λ cs. AreSavers cs next) (sym (changes_more changes i own lt is))
    (savers_grow (map change_of (take i changes)) (change_of own) savers next old (subst (λ n. Updates nat_cmp savers next own.save (Some n)) this u))

pub no_savers : (savers : BTreeMap ℕ ℕ) → ((save : ℕ) → get nat_cmp savers save ≡ None) → AreSavers [] savers
no_savers savers none = record {
  found = λ change is. absurd (omega (arith, is.1));
  held = λ save n is. absurd (let e : Some n ≡ None = sym is ∙ none save in cc);
}

pub save_kept : (changes : List file.Change) (savers : BTreeMap ℕ ℕ) (change : file.Change) (n : ℕ) → AreSavers changes savers → get nat_cmp savers change.save ≡ Some n → n ≡ change.number → IsKeptSave changes change change.save
save_kept changes savers change n all is same = inl (
  refl,
  λ some other in_list shared.
      let f = all.found other in_list in
      let one : f.0 ≡ n = same_Some f.0 n (sym f.1 ∙ (ap (λ s. get nat_cmp savers s) shared ∙ is)) in
      omega (arith, one, f.2, same),
)

pub save_lost : (changes : List file.Change) (savers : BTreeMap ℕ ℕ) (change : file.Change) → AreSavers changes savers → Contains changes change → ((n : ℕ) → get nat_cmp savers change.save ≡ Some n → n ≢ change.number) → IsKeptSave changes change 0
save_lost changes savers change all is differs =
    let f = all.found change is in
    let h = all.held change.save f.0 f.1 in
    let other = differs f.0 f.1 in
    inr (refl, (h.0, h.1, h.2, omega (arith, f.2, other, h.3)))

-- ---- the greatest
greatest_more : (field : ℕ) (P Q : ℕ → Type 0) (k x : ℕ) → IsGreatest field P k → ((n : ℕ) → Q n → P n ⊎ (x ≡ n)) → ((n : ℕ) → P n → Q n) → Q x → IsGreatest field Q (max k x)
greatest_more field P Q k x old back on this = record {
  field_below = let e = old.field_below in omega (arith, e);
  below = λ n is. elim (back n is) [ inl was ↦ (let e = old.below n was in omega (arith, e)) | inr same ↦ omega (arith, same) ];
  one = elim (cases_lt k x) [
    | inl less ↦ let same : x ≡ max k x = omega (arith, less) in inr (subst Q same this)
    | inr more ↦
        let same : k ≡ max k x = omega (arith, more) in
        elim old.one [ inl e ↦ inl (sym same ∙ e) | inr was ↦ inr (subst Q same (on k was)) ]
  ];
}

greatest_none : (field : ℕ) (P : ℕ → Type 0) → ((n : ℕ) → P n → ⊥) → IsGreatest field P field
greatest_none field P none = record { field_below = omega arith; below = λ n is. absurd (none n is); one = inl refl }

number_cases : (changes : List file.Change) (own : file.Change) (n : ℕ) → IsChange (changes ++ own ∷ []) n → IsChange changes n ⊎ (own.number ≡ n)
number_cases [] own n (zero, lt, e) = inr e
number_cases [] own n (suc i, lt, e) = absurd (omega (arith, lt))
number_cases (c ∷ changes) own n (zero, lt, e) = inl (0, omega arith, e)
number_cases (c ∷ changes) own n (suc i, lt, e) = elim (number_cases changes own n (i, omega (arith, lt), e)) [ inl w ↦ inl (suc w.0, omega (arith, w.1), w.2) | inr last ↦ inr last ]

pub change_number : (changes : List file.Change) (change : file.Change) (n : ℕ) → Contains changes change → change.number ≡ n → IsChange changes n
change_number changes change n is same =
    (is.0, omega (arith, is.1, length-map changes (λ (c : file.Change). c.number)), get_or-map (λ (c : file.Change). c.number) changes is.0 change n is.1 ∙ (ap (λ (c : file.Change). c.number) is.2 ∙ same))

pub number_change : (changes : List file.Change) (d : file.Change) (n : ℕ) → IsChange changes n → (change : file.Change) × Contains changes change × (change.number ≡ n)
number_change changes d n is =
    let inside : is.0 < length changes = omega (arith, is.1, length-map changes (λ (c : file.Change). c.number)) in
    let change = get_or changes is.0 d in
    (change, Contains-get_or changes is.0 d inside, sym (get_or-map (λ (c : file.Change). c.number) changes is.0 d n inside) ∙ is.2)

none_changed : (n : ℕ) → IsChange [] n → ⊥
none_changed n is = omega (arith, is.1)

pub first_last : (field : ℕ) → IsGreatest field (IsChange []) field
first_last field = greatest_none field (IsChange []) none_changed

pub first_save : (field : ℕ) → IsGreatest field (HasSave []) field
first_save field = greatest_none field (HasSave []) (λ save has. omega (arith, has.1.1))

-- a number of a longer list
change_on : (changes : List file.Change) (own : file.Change) (n : ℕ) → IsChange changes n → IsChange (changes ++ own ∷ []) n
change_on changes own n is = let c = number_change changes own n is in change_number (changes ++ own ∷ []) c.0 n (Contains-append_left changes (own ∷ []) c.0 c.1) c.2

save_cases : (changes : List file.Change) (own : file.Change) (save : ℕ) → HasSave (changes ++ own ∷ []) save → HasSave changes save ⊎ (own.save ≡ save)
save_cases changes own save has = elim (contains_cases changes own has.0 has.1) [
  | inl old ↦ inl (has.0, old, has.2)
  | inr this ↦ inr (ap (λ (c : file.Change). c.save) this ∙ has.2)
]

pub last_more : (changes : List FileChange) (i : ℕ) (own : FileChange) (field k : ℕ) → i < length changes → own ≡ get_or changes i own → IsGreatest field (IsChange (map change_of (take i changes))) k
    → IsGreatest field (IsChange (map change_of (take (i + 1) changes))) (max k own.number)
last_more changes i own field k lt is old =
    let so_far = map change_of (take i changes) in
    let c = change_of own in
    subst (λ cs. IsGreatest field (IsChange cs) (max k own.number)) (sym (changes_more changes i own lt is))
    (greatest_more field (IsChange so_far) (IsChange (so_far ++ c ∷ [])) k own.number old (number_cases so_far c) (change_on so_far c) (change_number (so_far ++ c ∷ []) c own.number (contains_last so_far c) refl))

pub last_save_more : (changes : List FileChange) (i : ℕ) (own : FileChange) (field k : ℕ) → i < length changes → own ≡ get_or changes i own → IsGreatest field (HasSave (map change_of (take i changes))) k
    → IsGreatest field (HasSave (map change_of (take (i + 1) changes))) (max k own.save)
last_save_more changes i own field k lt is old =
    let so_far = map change_of (take i changes) in
    let c = change_of own in
    subst (λ cs. IsGreatest field (HasSave cs) (max k own.save)) (sym (changes_more changes i own lt is))
    (greatest_more field (HasSave so_far) (HasSave (so_far ++ c ∷ [])) k own.save old (save_cases so_far c) (λ n has. (has.0, Contains-append_left so_far (c ∷ []) has.0 has.1, has.2)) (c, contains_last so_far c, refl))

-- ---- changes
pub stands_taken : (changes : List file.Change) (ups downs : List ℕ) (i : ℕ) (change : file.Change) (parent child save : ℕ) → IsLineage changes ups downs → i < length changes → change ≡ get_or changes i change
    → parent ≡ at ups (i + 1) → child ≡ at downs (i + 1) → IsKeptSave changes change save → StandsFor changes change (taken_change change parent child save)
stands_taken changes ups downs i change parent child save all lt is up down kept =
    let next : i + 1 ≡ suc i = omega arith in
    let named : at (numbers changes) i ≡ change.number = get_or-map (λ (c : file.Change). c.number) changes i change 0 lt ∙ ap (λ (c : file.Change). c.number) (sym is) in
    record {
      number = refl;
      parent = subst (λ n. IsParent changes n parent) named (subst (IsParent changes (at (numbers changes) i)) (sym (up ∙ ap (at ups) next)) (all.parents i lt));
      last_child = subst (λ n. IsLastUsed changes n child) named (subst (IsLastUsed changes (at (numbers changes) i)) (sym (down ∙ ap (at downs) next)) (all.children (suc i) (omega (arith, lt))));
      time = refl;
      save = kept;
      entries = refl;
    }

-- the first so many changes are taken
pub record AreFirst (changes : List file.Change) (n : ℕ) (nodes : List Node) : Type 0 where
  pub count : length nodes ≡ n
  pub each : (i : ℕ) (change : file.Change) (node : Node) → i < n → StandsFor changes (get_or changes i change) (get_or nodes i node)

pub first_more : (changes : List file.Change) (n : ℕ) (nodes new : List Node) (own : file.Change) (node : Node) → n < length changes → own ≡ get_or changes n own → AreFirst changes n nodes → StandsFor changes own node → new ≡ nodes ++ node ∷ []
    → AreFirst changes (n + 1) new
first_more changes n nodes new own node lt is old this pushed = record {
  count = ap length pushed ∙ (length-append nodes (node ∷ []) ∙ (let e = old.count in omega (arith, e)));
  each = λ i change d less. subst (λ ns. StandsFor changes (get_or changes i change) (get_or ns i d)) (sym pushed) (elim (cases_lt i n) [
    | inl before ↦
        let same : get_or (nodes ++ node ∷ []) i d ≡ get_or nodes i d = get_or_append_left nodes (node ∷ []) d i (let e = old.count in omega (arith, e, before)) in
        subst (StandsFor changes (get_or changes i change)) (sym same) (old.each i change d before)
    | inr past ↦
        let here : n ≡ i = omega (arith, less, past) in
        let same : get_or (nodes ++ node ∷ []) i d ≡ node = get_or_push nodes node d i (old.count ∙ here) in
        let change_same : get_or changes i change ≡ own = ap (λ k. get_or changes k change) (sym here) ∙ (get_or_default changes n change own lt ∙ sym is) in
        subst (λ c. StandsFor changes c (get_or (nodes ++ node ∷ []) i d)) (sym change_same) (subst (StandsFor changes own) (sym same) this)
  ]);
}

pub flagged_all : (flag : Bool) (es : List FileEntry) (i : ℕ) → length es ≤ i → take i (flagged flag (map entry_of es)) ≡ flagged flag (map entry_of es)
flagged_all flag es i le = take_all i (flagged flag (map entry_of es)) (omega (arith, flagged_count flag (map entry_of es), length-map es entry_of, le))

pub all_first : (changes : List file.Change) (n : ℕ) (nodes : List Node) → n ≡ length changes → AreFirst changes n nodes → AreTaken changes nodes
all_first changes n nodes whole first = record {
  count = first.count ∙ whole;
  each = λ i change node lt. first.each i change node (omega (arith, lt, whole));
}

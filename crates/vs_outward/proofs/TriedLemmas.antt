-- What a walk over a path tells of the path, and of those with which it begins.
use Rattle.std.proofs.Common.{◌≡◌, ℕ, ◌≤◌, List, [], ◌∷◌, ◌++◌, map, max, reverse, true, Option, Some, None, IfSome, option_map, ◌⊎◌, inl, inr, sym, ap, subst, ◌∙◌, refl, arith, append_assoc}
use Rattle.std.proofs.lemmas.List.{reverse-append, map-append}
use Rattle.vs_edit.specs.declared.store.LineStore.{Ghosts}
use Rattle.vs_entries.specs.Entries.{Leads, LeadsCount}
use Rattle.vs_undo.specs.declared.parts.Node.{Node}
use Rattle.vs_undo.specs.declared.parts.Parts.{Parts}
use Rattle.vs_undo.specs.Edges.{IsLed}
use Rattle.vs_undo.specs.Ways.{parent_at, start, is_on, IsTree, IsWayOf, IsBetween}
use Rattle.vs_undo.proofs.WayLemmas.{one_way}
use Rattle.vs_outward.specs.declared.trail.Step.{Step}
use Rattle.vs_outward.specs.Outward.{entries_at, IsOut, LeadsOver, IsOutward, IsMisfit}
use Rattle.vs_outward.specs.Trails.{IsOnTrail, IsBarredBy, IsTried, IsSettledAt, IsKnownMisfit}
use Rattle.vs_outward.proofs.OutLemmas.{out_before, out_once, out_between, out_at}
use Rattle.vs_outward.proofs.LedLemmas.{over_before, trail_over, ends, if_some}

map-reverse : {X Y : Type 0} (f : X → Y) (xs : List X) → map f (reverse xs) ≡ reverse (map f xs)
map-reverse f [] = refl
map-reverse f (x ∷ xs) =
    ap (map f) (reverse-append (x ∷ []) xs) ∙ (map-append f (reverse xs) (x ∷ []) ∙ (ap (λ ys. ys ++ f x ∷ []) (map-reverse f xs) ∙ sym (reverse-append (f x ∷ []) (map f xs))))

module _ {S : Type 0} (g : Ghosts S) (nodes : List Node) (first : S) where
  -- no step
  pub on_none : (trail : List Step) → trail ≡ [] → g.valid first → IsOnTrail g nodes first trail first
  on_none trail none valid = subst (λ t. IsOnTrail g nodes first t first) (sym none) (record { began = valid; counts = refl; texts = λ text has. (text, (has, refl)) })

  pub over_counts : (trail : List Step) (path : List ℕ) (now : S) → IsOnTrail g nodes first trail now → map (λ (step : Step). step.number) trail ≡ path
      → LeadsOver LeadsCount nodes (reverse path) (max 1 (g.shows first).present.lines) (max 1 (g.shows now).present.lines)
  over_counts trail path now on is =
      subst (λ xs. LeadsOver LeadsCount nodes xs (max 1 (g.shows first).present.lines) (max 1 (g.shows now).present.lines))
      (map-reverse (λ (step : Step). step.number) trail ∙ ap reverse is)
      (trail_over LeadsCount nodes (reverse trail) (max 1 (g.shows first).present.lines) (max 1 (g.shows now).present.lines) on.counts)

  pub over_texts : (trail : List Step) (path : List ℕ) (now : S) → IsOnTrail g nodes first trail now → map (λ (step : Step). step.number) trail ≡ path
      → (text : List (List ℕ)) → (g.shows first).present.Is text → (here : List (List ℕ)) × ((g.shows now).present.Is here × LeadsOver Leads nodes (reverse path) text here)
  over_texts trail path now on is text has =
      let t = on.texts text has in (
        t.0,
        (
          t.1.0,
          subst (λ xs. LeadsOver Leads nodes xs text t.0) (map-reverse (λ (step : Step). step.number) trail ∙ ap reverse is)
              (trail_over Leads nodes (reverse trail) text t.0 t.1.1),
        ),
      )

  pub tried_whole : (trail : List Step) (path : List ℕ) (now : S) → IsOnTrail g nodes first trail now → map (λ (step : Step). step.number) trail ≡ path → IsTried g nodes first None (reverse path)
  tried_whole trail path now on is = record {
    counts = λ _. (max 1 (g.shows now).present.lines, over_counts trail path now on is);
    texts = λ text has. let t = over_texts trail path now on is text has in inl (t.0, t.1.1);
  }

  pub barred_at : (trail : List Step) (path after : List ℕ) (number : ℕ) (now : S) → IsOnTrail g nodes first trail now → path ≡ map (λ (step : Step). step.number) trail ++ number ∷ after
      → ((text to : List (List ℕ)) → (g.shows now).present.Is text → IsLed Leads (entries_at nodes number) text to → ⊥)
      → (text : List (List ℕ)) → (g.shows first).present.Is text → IsBarredBy nodes (reverse path) text number
  barred_at trail path after number now on is refused text has =
      let crossed = map (λ (step : Step). step.number) trail in
      let t = over_texts trail crossed now on refl text has in
      record {
        after = reverse after;
        before = reverse crossed;
        path_is = ap reverse is ∙ (reverse-append crossed (number ∷ after) ∙ (ap (λ xs. xs ++ reverse crossed) (reverse-append (number ∷ []) after) ∙ append_assoc (reverse after) (number ∷ []) (reverse crossed)));
        here = t.0;
        led = t.1.1;
        none = λ there led. refused t.0 there t.1.0 led;
      }

  pub tried_barred : (path : List ℕ) (number : ℕ) → ((text : List (List ℕ)) → (g.shows first).present.Is text → IsBarredBy nodes path text number) → IsTried g nodes first (Some number) path
  tried_barred path number barred = record {
    counts = λ none. absurd (cc);
    texts = λ text has. inr (number, (refl, (number, (barred text has, omega arith))));
  }

  -- the least change that is known may fall
  pub tried_less : (path : List ℕ) (old : Option ℕ) (l : ℕ) → IfSome old (λ k. l ≤ k) → IsTried g nodes first old path → IsTried g nodes first (Some l) path
  tried_less path old l le tried = record {
    counts = λ none. absurd (cc);
    texts = λ text has. elim (tried.texts text has) [
      | inl reached ↦ inl reached
      | inr b ↦ let k = if_some old b.0 (λ k. l ≤ k) b.1.0 le in inr (l, (refl, (b.1.1.0, (b.1.1.1.0, omega (arith, k, b.1.1.1.1)))))
    ];
  }

  pub tried_any : (path : List ℕ) (least : Option ℕ) → IsTried g nodes first None path → IsTried g nodes first least path
  tried_any path least tried = record {
    counts = λ none. tried.counts refl;
    texts = λ text has. elim (tried.texts text has) [
      | inl reached ↦ inl reached
      | inr b ↦ absurd (let e : None ≡ Some b.0 = b.1.0 in cc)
    ];
  }

  barred_before : (text : List (List ℕ)) (number : ℕ) (after before : List ℕ) (bar : IsBarredBy nodes (after ++ before) text number)
      → ((to : List (List ℕ)) × LeadsOver Leads nodes before text to) ⊎ IsBarredBy nodes before text number
  barred_before text number after before bar = elim (ends after before bar.after (number ∷ bar.before) bar.path_is) [
    | inl e ↦ inside e.0 e.1
    | inr e ↦ inr (record { after = e.0; before = bar.before; path_is = e.1; here = bar.here; led = bar.led; none = bar.none })
  ]
    where
      inside : (e : List ℕ) → number ∷ bar.before ≡ e ++ before → ((to : List (List ℕ)) × LeadsOver Leads nodes before text to) ⊎ IsBarredBy nodes before text number
      inside [] is = inr (record { after = []; before = bar.before; path_is = sym is; here = bar.here; led = bar.led; none = bar.none })
      inside (n ∷ e) is =
          let same : bar.before ≡ e ++ before = cc in
          inl (over_before Leads nodes e before text bar.here (subst (λ xs. LeadsOver Leads nodes xs text bar.here) same bar.led))

  pub tried_before : (after before : List ℕ) (least : Option ℕ) → IsTried g nodes first least (after ++ before) → IsTried g nodes first least before
  tried_before after before least tried = record {
    counts = λ none. let t = tried.counts none in over_before LeadsCount nodes after before (max 1 (g.shows first).present.lines) t.0 t.1;
    texts = λ text has. elim (tried.texts text has) [
      | inl t ↦ inl (over_before Leads nodes after before text t.0 t.1)
      | inr b ↦ elim (barred_before text b.1.1.0 after before b.1.1.1.0) [
        | inl t ↦ inl t
        | inr bar ↦ inr (b.0, (b.1.0, (b.1.1.0, (bar, b.1.1.1.1))))
      ]
    ];
  }

module _ (parts : Parts) (tree : IsTree parts.nodes) where
  pub root_at : parent_at parts.nodes 0 ≡ None
  root_at = ap (option_map (λ (n : Node). n.parent)) tree.root

  pub outward_on : (way path : List ℕ) (to : ℕ) → IsWayOf parts.nodes parts.current way → IsOutward parts path to → IsOut (λ k. parent_at parts.nodes k) (is_on way) (start way) path to
  outward_on way path to is outward =
      let same : outward.way ≡ way = one_way (λ k. parent_at parts.nodes k) root_at outward.way way outward.is_way.is_way is.is_way (outward.is_way.starts ∙ sym is.starts) in
      subst (λ k. IsOut (λ n. parent_at parts.nodes n) (is_on way) k path to) (sym is.starts)
      (subst (λ w. IsOut (λ n. parent_at parts.nodes n) (is_on w) parts.current path to) same outward.out)

  pub on_outward : (way path : List ℕ) (to : ℕ) → IsWayOf parts.nodes parts.current way → IsOut (λ k. parent_at parts.nodes k) (is_on way) (start way) path to → IsOutward parts path to
  on_outward way path to is out = record { way = way; is_way = is; out = subst (λ k. IsOut (λ n. parent_at parts.nodes n) (is_on way) k path to) is.starts out }

  pub outward_once : (a b : List ℕ) (to : ℕ) → IsOutward parts a to → IsOutward parts b to → a ≡ b
  outward_once a b to x y =
      out_once (λ k. parent_at parts.nodes k) root_at y.way y.is_way.is_way a b to (outward_on y.way a to y.is_way x) (outward_on y.way b to y.is_way y)

  pub outward_between : (way to path : List ℕ) (number : ℕ) → IsWayOf parts.nodes parts.current way → IsWayOf parts.nodes number to → IsBetween way to path → IsOutward parts (reverse path) number
  outward_between way to path number is there between =
      on_outward way (reverse path) number is
      (subst (IsOut (λ k. parent_at parts.nodes k) (is_on way) (start way) (reverse path)) there.starts
      (out_between (λ k. parent_at parts.nodes k) root_at way is.is_way to path there.is_way between))

  -- a change that bars a path does not fit
  pub misfit_of : (path : List ℕ) (to : ℕ) (text : List (List ℕ)) (number : ℕ) → IsOutward parts path to → IsBarredBy parts.nodes path text number → IsMisfit parts text number
  misfit_of path to text number outward bar =
      let out = out_before (λ k. parent_at parts.nodes k) (is_on outward.way) parts.current bar.after (number ∷ bar.before) to
      (subst (λ xs. IsOut (λ k. parent_at parts.nodes k) (is_on outward.way) parts.current xs to) bar.path_is outward.out) in
      record {
        path = bar.before;
        to = out.0;
        outward = record { way = outward.way; is_way = outward.is_way; out = out.1 };
        here = bar.here;
        led = bar.led;
        none = bar.none;
      }

  -- a state with the number of a change on a path that was tried is settled
  pub settled_on : {S : Type 0} (g : Ghosts S) (first : S) (least : Option ℕ) (path : List ℕ) (to n : ℕ) → IsOutward parts path to → IsTried g parts.nodes first least path → is_on path n ≡ true
      → IsSettledAt g parts first least n
  settled_on g first least path to n outward tried on =
      let at = out_at (λ k. parent_at parts.nodes k) root_at outward.way outward.is_way.is_way path to n (outward_on outward.way path to outward.is_way outward) on in
      (at.1.0, (on_outward outward.way at.1.0 n outward.is_way at.1.1.1, tried_before g parts.nodes first at.0 at.1.0 least (subst (IsTried g parts.nodes first least) at.1.1.0 tried)))

  pub settled_less : {S : Type 0} (g : Ghosts S) (first : S) (old : Option ℕ) (l s : ℕ) → IfSome old (λ k. l ≤ k) → IsSettledAt g parts first old s → IsSettledAt g parts first (Some l) s
  settled_less g first old l s le at = (at.0, (at.1.0, tried_less g parts.nodes first at.0 old l le at.1.1))

  pub misfit_less : {S : Type 0} (g : Ghosts S) (first : S) (old : Option ℕ) (number l : ℕ) → (l ≡ number) ⊎ (old ≡ Some l) → IsKnownMisfit g parts first old
      → ((text : List (List ℕ)) → (g.shows first).present.Is text → IsMisfit parts text number) → IsKnownMisfit g parts first (Some l)
  misfit_less g first old number l one known here = λ k e text has.
      let same : l ≡ k = cc in
      elim one [
        | inl is ↦ subst (IsMisfit parts text) (sym is ∙ same) (here text has)
        | inr is ↦ known k (is ∙ ap Some same) text has
      ]

-- A path goes on to a state from where it is cut: at a state on the way, at the state's parent, or nowhere.
use Rattle.std.proofs.Common.{◌≡◌, ℕ, ◌+◌, ◌-◌, ◌<◌, ◌≤◌, List, [], ◌∷◌, ◌++◌, length, get_or, take, drop, map, min, reverse, true, false, Option, Some, None, option_map, is_some, sym, ap, subst, ◌∙◌, refl, inr, arith, append_assoc, append-nil, length-append, if◌then◌else◌}
use Rattle.std.proofs.lemmas.List.{drop-take, drop_all, get_or_default, length-take-le, reverse-append, take-append-drop, take-append-le, take-map, take-take, take_all, take_at, take_more}
use Rattle.vs_edit.proofs.UndoingLemmas.{reverse_pushed}
use Rattle.vs_edit.specs.declared.store.LineStore.{Ghosts}
use Rattle.vs_undo.specs.declared.parts.Node.{Node}
use Rattle.vs_undo.specs.declared.parts.Parts.{Parts}
use Rattle.vs_undo.specs.Sound.{IsSound}
use Rattle.vs_undo.specs.Ways.{node_at, parent_at, start, is_on, IsKept, IsWay, IsTree, IsWayOf}
use Rattle.vs_undo.proofs.SearchLemmas.{index_found}
use Rattle.vs_undo.proofs.WayLemmas.{is_on-reverse, way_after}
use Rattle.vs_outward.specs.declared.fitting.Search.{Search}
use Rattle.vs_outward.specs.declared.trail.Step.{Step}
use Rattle.vs_outward.specs.declared.turn.Turn.{Turn}
use Rattle.vs_outward.specs.Outward.{IsOut, IsOutward}
use Rattle.vs_outward.specs.Trails.{HasBegun, IsBarredBy, IsBarredOn, IsKnownMisfit, IsOnTrail, IsSearch, IsSettledAt, IsTried, IsTurn, IsTurned, Shares}
use Rattle.vs_outward.proofs.FitLemmas.{kept_parent, more_forth}
use Rattle.vs_outward.proofs.OutLemmas.{on_at, out_before}
use Rattle.vs_outward.proofs.TriedLemmas.{on_outward, outward_between, outward_on, outward_once, root_at, settled_on}

-- what is cut off a path stands before what stays
reverse_cut : (k : ℕ) (path : List ℕ) → reverse path ≡ reverse (drop k path) ++ reverse (take k path)
reverse_cut k path = ap reverse (sym (take-append-drop k path)) ∙ reverse-append (take k path) (drop k path)

-- the part of a way between two places follows what comes before
pub way_part : (way : List ℕ) (kept count : ℕ) → kept ≤ count → take kept way ++ take (count - kept) (drop kept way) ≡ take count way
way_part way kept count le =
    let cut : take kept (take count way) ≡ take kept way = take-take kept count way le in
    let whole : count ≡ kept + (count - kept) = omega (arith, le) in
    let rest : drop kept (take count way) ≡ take (count - kept) (drop kept way) = ap (λ k. drop kept (take k way)) whole ∙ drop-take kept (count - kept) way in
    ap (λ xs. xs ++ take (count - kept) (drop kept way)) (sym cut) ∙ (ap (λ xs. take kept (take count way) ++ xs) (sym rest) ∙ take-append-drop kept (take count way))

-- a path that shares some changes with a way shares the first of them
pub shares_first : (path way : List ℕ) (count kept : ℕ) → Shares count path way → kept ≤ count → take kept path ≡ take kept way
shares_first path way count kept is le = sym (take-take kept count path le) ∙ (ap (take kept) is.same ∙ take-take kept count way le)

-- so does one that is cut and goes on
pub shares_on : (path more way : List ℕ) (count kept : ℕ) → Shares count path way → kept ≤ length path → Shares (min count kept) (take kept path ++ more) way
shares_on path more way count kept is within =
    let m = min count kept in
    let long : length (take kept path) ≡ kept = length-take-le kept path within in
    record {
      within = omega (arith, long, length-append (take kept path) more);
      same = take-append-le m (take kept path) more (omega (arith, long)) ∙ (take-take m kept path (omega arith) ∙ shares_first path way count m is (omega arith));
    }

pub shares_way : (way more path : List ℕ) (count : ℕ) → count ≤ length way → path ≡ take count way ++ more → Shares count path way
shares_way way more path count within is =
    let long : length (take count way) ≡ count = length-take-le count way within in
    subst (λ xs. Shares count xs way) (sym is) (record {
      within = omega (arith, long, length-append (take count way) more);
      same = take_at (take count way) more count long;
    })

module _ (parts : Parts) (tree : IsTree parts.nodes) (way : List ℕ) (is_way : IsWayOf parts.nodes parts.current way) where
  -- the path to a state on the way
  pub out_on_way : (count number : ℕ) → start (drop count way) ≡ number → IsOutward parts (reverse (take count way)) number
  out_on_way count number starts =
      outward_between parts tree way (drop count way) (take count way) number is_way
      (record {
        is_way = way_after (λ k. parent_at parts.nodes k) (root_at parts tree) (take count way) (drop count way) (subst (IsWay (λ k. parent_at parts.nodes k)) (sym (take-append-drop count way)) is_way.is_way);
        starts = starts;
      })
      (record {
        up = take count way;
        down = [];
        rest = drop count way;
        from_is = sym (take-append-drop count way);
        to_is = refl;
        differ = λ some none. absurd (omega (arith, none));
        path_is = sym (append-nil (take count way));
      })

  -- the path over the whole way
  pub out_to_root : (path : List ℕ) → path ≡ way → IsOutward parts (reverse path) 0
  out_to_root path is =
      subst (λ xs. IsOutward parts (reverse xs) 0) (take_all (length way) way (omega arith) ∙ sym is) (out_on_way (length way) 0 (ap start (drop_all (length way) way (omega arith))))

  -- a path that goes on to a child
  pub out_to_child : (path new : List ℕ) (parent number : ℕ) → is_on way number ≡ false → parent_at parts.nodes number ≡ Some parent → IsOutward parts (reverse path) parent → new ≡ path ++ number ∷ []
      → IsOutward parts (reverse new) number
  out_to_child path new parent number off up out is =
      subst (λ xs. IsOutward parts xs number) (sym (reverse_pushed new path number is)) (more_forth parts tree way (reverse path) number parent is_way off up out)

  -- a path is cut behind a state that does not lie on the way
  pub out_cut : (path : List ℕ) (to depth number : ℕ) → IsOutward parts (reverse path) to → 0 < depth → depth ≤ length path → get_or path (depth - 1) 0 ≡ number → is_on way number ≡ false
      → IsOutward parts (reverse (take depth path)) number
  out_cut path to depth number out some within here off =
      let before = reverse (take (depth - 1) path) in
      let whole : depth ≡ (depth - 1) + 1 = omega (arith, some) in
      let cut : take depth path ≡ take (depth - 1) path ++ number ∷ [] =
      ap (λ k. take k path) whole ∙ (take_more path (depth - 1) 0 (omega (arith, some, within)) ∙ ap (λ n. take (depth - 1) path ++ n ∷ []) here) in
      let turned : reverse (take depth path) ≡ number ∷ before = reverse_pushed (take depth path) (take (depth - 1) path) number cut in
      let is : reverse path ≡ reverse (drop depth path) ++ number ∷ before = reverse_cut depth path ∙ ap (λ xs. reverse (drop depth path) ++ xs) turned in
      let led = out_before (λ k. parent_at parts.nodes k) (is_on way) (start way) (reverse (drop depth path)) (number ∷ before) to
      (subst (λ xs. IsOut (λ k. parent_at parts.nodes k) (is_on way) (start way) xs to) is (outward_on parts tree way (reverse path) to is_way out)) in
      let at : led.0 ≡ number = led.1.1.1 ∙ ap (λ b. if b then led.1.0 else number) off in
      subst (λ xs. IsOutward parts xs number) (sym turned)
      (on_outward parts tree way (number ∷ before) number is_way (subst (λ n. IsOut (λ k. parent_at parts.nodes k) (is_on way) (start way) (number ∷ before) n) at led.1))

  -- a state on the way is settled with the root
  pub settled_way : {S : Type 0} (g : Ghosts S) (first : S) (least : Option ℕ) (count number : ℕ) → IsSettledAt g parts first least 0 → start (drop count way) ≡ number → IsSettledAt g parts first least number
  settled_way g first least count number at starts = on_rest (drop count way) (sym (take-append-drop count way)) starts
    where
      on_rest : (rest : List ℕ) → way ≡ take count way ++ rest → start rest ≡ number → IsSettledAt g parts first least number
      on_rest [] is s = subst (IsSettledAt g parts first least) s at
      on_rest (n ∷ rest) is s =
          let same : at.0 ≡ reverse way = outward_once parts tree at.0 (reverse way) 0 at.1.0 (out_to_root way refl) in
          let on : is_on at.0 number ≡ true =
          ap (λ xs. is_on xs number) same ∙ (is_on-reverse way number ∙ (ap (λ xs. is_on xs number) is ∙ (ap (λ k. is_on (take count way ++ k ∷ rest) number) s ∙ on_at (take count way) number rest))) in
          settled_on parts tree g first least at.0 0 number at.1.0 at.1.1 on

  -- how the path goes on from the way
  pub turn_from_way : (path : List ℕ) (count parent number : ℕ) (turn : Turn) → is_on way number ≡ false → parent_at parts.nodes number ≡ Some parent → count ≤ length way → start (drop count way) ≡ parent
      → turn.kept ≤ length path → take turn.kept path ++ turn.more.items ≡ take count way ++ number ∷ [] → turn.on_way ≡ count → IsTurn parts way path number turn
  turn_from_way path count parent number turn off up within starts kept is on_way = record {
    kept = kept;
    outward = out_to_child (take count way) (take turn.kept path ++ turn.more.items) parent number off up (out_on_way count parent starts) is;
    shares = subst (λ k. Shares k (take turn.kept path ++ turn.more.items) way) (sym on_way) (shares_way way (number ∷ []) (take turn.kept path ++ turn.more.items) count within is);
  }

  -- and from the path itself
  pub turn_from_path : (path : List ℕ) (to depth on_way parent number : ℕ) (turn : Turn) → is_on way number ≡ false → parent_at parts.nodes number ≡ Some parent → IsOutward parts (reverse path) to → Shares on_way path way
      → 0 < depth → depth ≤ length path → get_or path (depth - 1) 0 ≡ parent → is_on way parent ≡ false → turn.kept ≡ depth → turn.more.items ≡ number ∷ [] → turn.on_way ≡ min on_way depth
      → IsTurn parts way path number turn
  turn_from_path path to depth on_way parent number turn off up out shares some within here above kept more on_way_is =
      let is : take turn.kept path ++ turn.more.items ≡ take depth path ++ number ∷ [] = ap (λ k. take k path ++ turn.more.items) kept ∙ ap (λ xs. take depth path ++ xs) more in
      record {
        kept = omega (arith, kept, within);
        outward = out_to_child (take depth path) (take turn.kept path ++ turn.more.items) parent number off up (out_cut path to depth parent out some within here above) is;
        shares = subst (λ k. Shares k (take turn.kept path ++ turn.more.items) way) (sym on_way_is)
            (subst (λ xs. Shares (min on_way depth) xs way) (sym is) (shares_on path (number ∷ []) way on_way depth shares within));
      }

-- and from the start
pub turn_from_start : (parts : Parts) (way path : List ℕ) (number : ℕ) (turn : Turn) → turn.kept ≡ 0 → IsOutward parts (reverse turn.more.items) number → turn.on_way ≡ 0 → IsTurn parts way path number turn
turn_from_start parts way path number turn kept out on_way =
    let is : take turn.kept path ++ turn.more.items ≡ turn.more.items = ap (λ k. take k path ++ turn.more.items) kept in
    record {
      kept = omega (arith, kept);
      outward = subst (λ xs. IsOutward parts (reverse xs) number) (sym is) out;
      shares = subst (λ k. Shares k (take turn.kept path ++ turn.more.items) way) (sym on_way) (record { within = omega arith; same = refl });
    }

-- a change that bars the beginning of a path bars the path
pub barred_cut : (nodes : List Node) (path : List ℕ) (count : ℕ) (text : List (List ℕ)) (number : ℕ) → IsBarredBy nodes (reverse (take count path)) text number → IsBarredBy nodes (reverse path) text number
barred_cut nodes path count text number bar = record {
  after = reverse (drop count path) ++ bar.after;
  before = bar.before;
  path_is = reverse_cut count path ∙ (ap (λ xs. reverse (drop count path) ++ xs) bar.path_is ∙ sym (append_assoc (reverse (drop count path)) bar.after (number ∷ bar.before)));
  here = bar.here;
  led = bar.led;
  none = bar.none;
}

module _ {S : Type 0} (g : Ghosts S) (nodes : List Node) (first : S) where
  -- where a change does not fit, it bars each path that leads over it
  pub tried_behind : (path : List ℕ) (count : ℕ) (least : Option ℕ) → IsBarredOn g nodes first least (take count path) → IsTried g nodes first least (reverse path)
  tried_behind path count least barred = record {
    counts = λ none. absurd (let e : None ≡ Some barred.number = sym none ∙ barred.least_is in cc);
    texts = λ text has. let b = barred.texts text has in inr (barred.number, (barred.least_is, (b.0, (barred_cut nodes path count text b.0 b.1.0, b.1.1))));
  }

-- a trail with which a path begins
module _ (trail : List Step) (old path more : List ℕ) (kept : ℕ) (is : path ≡ take kept old ++ more) (within : kept ≤ length old) where
  long : length (take kept old) ≡ kept
  long = length-take-le kept old within

  pub kept_within : kept ≤ length path
  kept_within = omega (arith, long, length-append (take kept old) more, ap length is)

  pub first_same : (n : ℕ) → n ≤ kept → take n path ≡ take n old
  first_same n le = ap (take n) is ∙ (take-append-le n (take kept old) more (omega (arith, long, le)) ∙ take-take n kept old le)

  pub begins_so : HasBegun trail old → kept ≤ length trail → map (λ (step : Step). step.number) (take kept trail) ≡ take kept path
  begins_so begun le =
      sym (take-map (λ (step : Step). step.number) kept trail)
      ∙ (ap (take kept) begun.same ∙ (take-take kept (length trail) old le ∙ sym (first_same kept (omega arith))))

  pub begun_so : HasBegun trail old → length trail < kept → HasBegun trail path
  begun_so begun less = record {
    within = omega (arith, less, kept_within);
    same = begun.same ∙ sym (first_same (length trail) (omega (arith, less)));
  }

-- a search whose path has come to another one
pub turned : {S : Type 0} (g : Ghosts S) (parts : Parts) (first now : S) (old new : Search) (more : List ℕ) (kept : ℕ) → IsSearch g parts first old now → kept ≤ length old.path.items
    → new.path.items ≡ take kept old.path.items ++ more → new.trail.items ≡ old.trail.items → new.least ≡ old.least → IsTurned g parts first kept new now
turned g parts first now old new more kept was within is trail least =
    let was_trail = old.trail.items in
    let was_path = old.path.items in
    let path = new.path.items in
    record {
      on = subst (λ t. IsOnTrail g parts.nodes first t now) (sym trail) was.on;
      within = kept_within was_trail was_path path more kept is within;
      begins = subst (λ t. kept ≤ length t → map (λ (step : Step). step.number) (take kept t) ≡ take kept path) (sym trail) (begins_so was_trail was_path path more kept is within was.begun);
      begun = subst (λ t. length t < kept → HasBegun t path) (sym trail) (begun_so was_trail was_path path more kept is within was.begun);
      barred = subst (λ t. length t < kept → IsBarredOn g parts.nodes first new.least (take (length t + 1) path)) (sym trail)
          (λ less. subst (λ l. IsBarredOn g parts.nodes first l (take (length was_trail + 1) path)) (sym least)
          (subst (IsBarredOn g parts.nodes first old.least) (sym (first_same was_trail was_path path more kept is within (length was_trail + 1) (omega (arith, less)))) (was.barred (omega (arith, less, within)))));
      misfit = subst (IsKnownMisfit g parts first) (sym least) was.misfit;
    }

module _ {S : Type 0} (g : Ghosts S) (parts : Parts) (first now : S) (search : Search) where
  -- the change that does not fit is on the new path, too
  pub still_barred : (kept : ℕ) → IsTurned g parts first kept search now → length search.trail.items < kept → IsSearch g parts first search now
  still_barred kept at less = record { on = at.on; begun = at.begun less; barred = λ _. at.barred less; misfit = at.misfit }

  -- the store was led over the whole path
  pub led_whole : IsOnTrail g parts.nodes first search.trail.items now → HasBegun search.trail.items search.path.items → length search.trail.items ≡ length search.path.items → IsKnownMisfit g parts first search.least
      → IsSearch g parts first search now
  led_whole on begun whole misfit = record { on = on; begun = begun; barred = λ less. absurd (omega (arith, less, whole)); misfit = misfit }

  -- or up to a change that does not fit
  pub led_part : (least number : ℕ) → IsOnTrail g parts.nodes first search.trail.items now → HasBegun search.trail.items search.path.items → search.least ≡ Some least → least ≤ number
      → ((text : List (List ℕ)) → (g.shows first).present.Is text → IsBarredBy parts.nodes (reverse (take (length search.trail.items + 1) search.path.items)) text number)
      → IsKnownMisfit g parts first search.least → IsSearch g parts first search now
  led_part least number on begun is le bar misfit = record {
    on = on;
    begun = begun;
    barred = λ _. record { number = least; least_is = is; texts = λ text has. (number, (bar text has, le)) };
    misfit = misfit;
  }

-- the change at a place
module _ (parts : Parts) (sound : IsSound parts) (place : ℕ) (within : place < length parts.nodes) (node : Node) (is : node ≡ get_or parts.nodes place node) where
  found : node_at parts.nodes node.number ≡ Some node
  found = subst (λ (n : Node). node_at parts.nodes n.number ≡ Some n) (sym is) (index_found parts.nodes place node sound.numbers.rising within)

  pub number_there : (other : Node) → (get_or parts.nodes place other).number ≡ node.number
  number_there other = ap (λ (n : Node). n.number) (get_or_default parts.nodes place other node within ∙ sym is)

  pub parent_there : parent_at parts.nodes node.number ≡ Some node.parent
  parent_there = ap (option_map (λ (n : Node). n.parent)) found

  pub number_kept : IsKept parts.nodes node.number
  number_kept = inr (ap is_some found)

  pub parent_kept : IsKept parts.nodes node.parent
  parent_kept = kept_parent parts sound.tree node.number node.parent parent_there

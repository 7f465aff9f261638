-- The data of a file that is written for a sound tree stands for that tree.
use Rattle.std.proofs.Common.{◌≡◌, inl, ℕ, zero, suc, ◌<◌, ◌==◌, if◌then◌else◌, Bool, true, false, List, [], ◌∷◌, length, get_or, map, Some, option_map, unwrap_or, max, refl, sym, ap, subst, ◌∙◌, arith}
use Rattle.std.proofs.lemmas.Option.{same_Some}
use Rattle.std.specs.Prelude.{Contains}
use Rattle.std.proofs.lemmas.List.{get_or-map, length-map}
use Rattle.vs_entries.specs.declared.entry.Entry.{Entry}
use Rattle.vs_undo.specs.declared.parts.Node.{Node}
use Rattle.vs_undo.specs.declared.parts.Parts.{Parts}
use Rattle.vs_undo.specs.Ways.{node_at, save_at, IsKept}
use Rattle.vs_undo.specs.Sound.{child_of, IsSound}
use Rattle.vs_undo.proofs.NumberLemmas.{index_kept}
use Rattle.vs_undo.proofs.SearchLemmas.{index_found}
use Rattle.vs_undo.specs.History.{History, IsHistory}
use Rattle.vs_undo.proofs.MarkLemmas.{marked_history}
use Rattle.vs_text.specs.Text.{stored, stored_line}
use Rattle.vs_ufile.specs.Values as file
use Rattle.vs_ufile.specs.Descent.{IsLastUsed}
use Rattle.vs_ufile.specs.Tree.{link, IsChange}
use Rattle.vs_ubind.specs.Digest.{digest_of}
use Rattle.vs_ubind.specs.Bound.{history_next, IsDataOf}
use Rattle.vs_ubind.specs.Meaning.{entries_in, flagged, last_flag, taken, IsKeptSave, Means, StandsFor}
use Rattle.vs_ubind.specs.Unbound.{filed, filed_change, filed_entry, flag_of, used_within, with_next}
use Rattle.vs_ubind.proofs.Chains.{child_index, none}
use Rattle.vs_ubind.proofs.Formed.{change_child, first_is, next_is, one_first, parent_is, some_child}
use Rattle.vs_ubind.proofs.Known.{child_here, last_child_is, sound_next}

-- ---- entries
flag_passes : (flag : Bool) (x : Entry) (y : file.Entry) (ys : List file.Entry) → last_flag (x ∷ flagged flag (y ∷ ys)) ≡ record x { empty = false } ∷ last_flag (flagged flag (y ∷ ys))
flag_passes flag x y [] = refl
flag_passes flag x y (z ∷ ys) = refl

same_entries : (entry : Entry) (entries : List Entry) → last_flag (entry ∷ entries) ≡ last_flag (flagged (flag_of (entry ∷ entries)) (map filed_entry (entry ∷ entries)))
same_entries entry [] = refl
same_entries entry (next ∷ entries) =
    ap (λ es. record entry { empty = false } ∷ es) (same_entries next entries)
    ∙ sym (flag_passes (flag_of (next ∷ entries)) (taken false (filed_entry entry)) (filed_entry next) (map filed_entry entries))

entries_stand : (entries : List Entry) → 0 < length entries → last_flag entries ≡ last_flag (entries_in (flag_of entries) (map filed_entry entries))
entries_stand [] some = absurd (omega (arith, some))
entries_stand (entry ∷ entries) some = same_entries entry entries

used_stop : (most : ℕ) (parts : Parts) (n : ℕ) → child_of parts n ≡ 0 → used_within most parts n ≡ n
used_stop zero parts n end = refl
used_stop (suc most) parts n end = ap (λ c. if c == 0 then n else used_within most parts c) end

module _ (parts : Parts) (sound : IsSound parts) where
  abbrev changes : List file.Change
  changes = map (filed_change parts) parts.nodes

  -- ---- changes and nodes
  contains_here : (k : ℕ) → k < length parts.nodes → Contains changes (filed_change parts (get_or parts.nodes k none))
  contains_here k within =
      (k, omega (arith, within, length-map parts.nodes (filed_change parts)), get_or-map (filed_change parts) parts.nodes k none (filed_change parts (get_or parts.nodes k none)) within)

  place_of : (change : file.Change) → Contains changes change → (k : ℕ) × (k < length parts.nodes) × (change ≡ filed_change parts (get_or parts.nodes k none))
  place_of change is =
      let within : is.0 < length parts.nodes = omega (arith, is.1, length-map parts.nodes (filed_change parts)) in
      (is.0, within, sym is.2 ∙ get_or-map (filed_change parts) parts.nodes is.0 none change within)

  node_place : (n : ℕ) (node : Node) → node_at parts.nodes n ≡ Some node → (k : ℕ) × (k < length parts.nodes) × (get_or parts.nodes k none ≡ node)
  node_place n node is =
      let at = child_index parts.nodes n node.parent (ap (λ o. option_map (λ (m : Node). m.parent) o) is) in
      (at.0, at.1, same_Some (get_or parts.nodes at.0 none) node (sym (index_found parts.nodes at.0 none sound.numbers.rising at.1) ∙ (ap (λ k. node_at parts.nodes k) at.2 ∙ is)))

  save_here : (k : ℕ) → k < length parts.nodes → save_at parts.nodes (get_or parts.nodes k none).number ≡ (get_or parts.nodes k none).save
  save_here k within = ap (λ o. unwrap_or (option_map (λ (m : Node). m.save) o) 0) (index_found parts.nodes k none sound.numbers.rising within)

  change_kept : (n : ℕ) → IsChange changes n → IsKept parts.nodes n
  change_kept n change =
      let child = change_child parts sound n change in
      let at = child_index parts.nodes n child.0 child.1 in
      subst (IsKept parts.nodes) at.2 (index_kept parts.nodes at.0 none at.1)

  -- ---- each part
  last_used : (state : ℕ) → IsLastUsed changes state (child_of parts state)
  last_used state = record {
    first = λ some.
        let child = sound.children.each state some in
        (first_is parts sound state (child_of parts state) child, next_is parts sound state (child_of parts state) child);
    none = λ end n change parent.
        let child = change_child parts sound n change in
        let first : parent.0 ≡ child_of parts child.0 = one_first parts sound child.0 n parent.0 child.1 parent.1 in
        let some = some_child parts sound child.0 n child.1 in
        let here : link (λ c. c.next) changes (child_of parts child.0) ≡ child.0 = next_is parts sound child.0 (child_of parts child.0) (sound.children.each child.0 some) in
        let same : child.0 ≡ state = sym here ∙ (ap (λ m. link (λ c. c.next) changes m) (sym first) ∙ parent.2) in
        some (ap (λ m. child_of parts m) same ∙ end);
  }

  kept_save : (k : ℕ) → k < length parts.nodes → IsKeptSave changes (filed_change parts (get_or parts.nodes k none)) (get_or parts.nodes k none).save
  kept_save k within = inl (
    refl,
    λ some other is same.
        let at = place_of other is in
        let node = get_or parts.nodes k none in
        let there = get_or parts.nodes at.0 none in
        let number : other.number ≡ there.number = ap (λ (c : file.Change). c.number) at.2 in
        let save : there.save ≡ node.save = sym (ap (λ (c : file.Change). c.save) at.2) ∙ same in
        let one : node.number ≡ there.number = sound.saves.differ node.number there.number (λ e. some (sym (save_here k within) ∙ e)) (save_here k within ∙ (sym save ∙ sym (save_here at.0 at.1))) in
        omega (arith, number, one),
  )

  stands : (k : ℕ) → k < length parts.nodes → StandsFor changes (filed_change parts (get_or parts.nodes k none)) (get_or parts.nodes k none)
  stands k within =
      let node = get_or parts.nodes k none in
      record {
        number = refl;
        parent = parent_is parts sound node.parent node.number (child_here parts sound k within);
        last_child = subst (IsLastUsed changes node.number) (last_child_is parts sound k within) (last_used node.number);
        time = refl;
        save = kept_save k within;
        entries = entries_stand node.entries (sound.entries node.number node (index_found parts.nodes k none sound.numbers.rising within));
      }

  pub means_it : (digest : List ℕ) (lines : ℕ) → Means (filed digest lines parts) parts
  means_it digest lines = record {
    count = sym (length-map parts.nodes (filed_change parts));
    rising = sound.numbers.rising;
    changes = λ n node is.
        let at = node_place n node is in
        (filed_change parts (get_or parts.nodes at.0 none), contains_here at.0 at.1, subst (λ m. StandsFor changes (filed_change parts (get_or parts.nodes at.0 none)) m) at.2 (stands at.0 at.1));
    root_child = last_used 0;
    at_head = λ some. parent_is parts sound parts.current (child_of parts parts.current) (sound.children.each parts.current some);
    at_newest = λ end. sym (used_stop (length parts.nodes) parts parts.current end);
    last = record { field_below = omega arith; below = λ n change. sound.numbers.below n (change_kept n change); one = inl refl };
    last_save = record {
      field_below = omega arith;
      below = λ save has.
          let at = place_of has.0 has.1 in
          let here : (get_or parts.nodes at.0 none).save ≡ save = sym (ap (λ (c : file.Change). c.save) at.2) ∙ has.2 in
          omega (arith, here, save_here at.0 at.1, sound.saves.below (get_or parts.nodes at.0 none).number);
      one = inl refl;
    };
  }

-- as the tree is, or as it will be after the next write
pub means_next : (next : Bool) (digest : List ℕ) (lines : ℕ) (parts : Parts) → IsSound parts → Means (filed digest lines (with_next next parts)) (with_next next parts)
means_next next digest lines parts sound = means_it (with_next next parts) (sound_next next parts sound) digest lines

-- ---- at a text
pub stored_count : (text : List (List ℕ)) → length (stored text) ≡ max 1 (length text)
stored_count [] = refl
stored_count (line ∷ text) = let count = length-map text stored_line in omega (arith, count)

history_on : (next : Bool) (parts : Parts) (text : List (List ℕ)) (history : History) → IsHistory parts text history → IsHistory (with_next next parts) text (history_next next history)
history_on false parts text history is = is
history_on true parts text history is = marked_history parts text history is

-- data that is filed from the tree, with the text's digest and number of lines, is that of the tree's history
pub data_next : (next : Bool) (contents : file.History) (digest : List ℕ) (count lines : ℕ) (parts : Parts) (text : List (List ℕ)) (history : History) → IsSound parts → contents ≡ filed digest count (with_next next parts)
    → digest ≡ digest_of text → count ≡ max 1 lines → length text ≡ lines → IsHistory parts text history → IsDataOf contents text (history_next next history)
data_next next contents digest count lines parts text history sound is digest_is count_is long tells = record {
  bound = record {
    digest = ap (λ (d : file.History). d.digest) is ∙ digest_is;
    lines = ap (λ (d : file.History). d.lines) is ∙ stored_lines;
    tree = tree;
    sound = sound_then;
    means = subst (λ d. Means d tree) (sym is) (means_next next digest count parts sound);
    is = tells_then;
  };
  filed = record {
    tree = tree;
    sound = sound_then;
    is = tells_then;
    fields = is ∙ (ap (λ d. filed d count tree) digest_is ∙ ap (λ n. filed (digest_of text) n tree) stored_lines);
  };
}
  where
    tree : Parts
    tree = with_next next parts

    sound_then : IsSound tree
    sound_then = sound_next next parts sound

    tells_then : IsHistory tree text (history_next next history)
    tells_then = history_on next parts text history tells

    stored_lines : count ≡ length (stored text)
    stored_lines = count_is ∙ (ap (λ n. max 1 n) (sym long) ∙ sym (stored_count text))

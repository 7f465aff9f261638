-- A file in memory that was written or cut: what its log of ranges gives back is what was there before.
use Rattle.std.proofs.Common.{◌≡◌, ℕ, ◌+◌, ◌-◌, ◌≤◌, min, max, List, [], ◌∷◌, ◌++◌, map, take, drop, length, sym, ◌∙◌, ap, subst, arith}
use Rattle.std.specs.Prelude.{reverse}
use Rattle.std.proofs.lemmas.List.{reverse-append, take-append-drop, length-take, take_all, drop_all}
use Rattle.std.proofs.Math.Seq.{take-append_seam, drop-append_seam, take-add}
use Rattle.std.proofs.lemmas.List.{append_assoc}
use Rattle.std.proofs.lemmas.Grind.{common_steps}
use Rattle.vs_host.specs.File.{put, written, cut_to}
use Rattle.vs_memory.specs.declared.file.MemFile.{MemFile}
use Rattle.vs_memory.specs.declared.file.Changed.{Changed}
use Rattle.vs_memory.specs.Folders.{file_of, ranges_of, undone, before_change}

pushed : (ranges : List Changed) (range : Changed) → reverse (ranges ++ range ∷ []) ≡ range ∷ reverse ranges
pushed ranges range = reverse-append ranges (range ∷ [])

-- what was there, put together again
put_undone : (old piece : List ℕ) (at : ℕ) → at ≤ length old → take at (put old at piece) ++ take (length piece) (drop at old) ++ drop (at + length piece) (put old at piece) ≡ old
put_undone old piece at le =
    let n : ℕ = length piece in
    let front : length (take at old) ≡ at = omega (arith, length-take at old) in
    let first : take at (put old at piece) ≡ take at old =
    ap (λ (l : List ℕ). take at l) (append_assoc (take at old) piece (drop (at + n) old))
    ∙ ap (λ (k : ℕ). take k (take at old ++ (piece ++ drop (at + n) old))) (sym front)
    ∙ take-append_seam (take at old) (piece ++ drop (at + n) old) in
    let long : length (take at old ++ piece) ≡ at + n = grind (arith, common_steps) in
    let last : drop (at + n) (put old at piece) ≡ drop (at + n) old =
    ap (λ (k : ℕ). drop k (put old at piece)) (sym long) ∙ drop-append_seam (take at old ++ piece) (drop (at + n) old) in
    (λ i. first i ++ take n (drop at old) ++ last i)
    ∙ ap (λ (l : List ℕ). l ++ drop (at + n) old) (sym (take-add at n old))
    ∙ take-append-drop (at + n) old

cut_undone : (old : List ℕ) (at : ℕ) → at ≤ length old → take at (take at old) ++ take (length old - at) (drop at old) ++ drop (at + (length old - at)) (take at old) ≡ old
cut_undone old at le =
    let n : ℕ = length old - at in
    let whole : at + n ≡ length old = omega arith in
    let front : length (take at old) ≡ at = omega (arith, length-take at old) in
    let first : take at (take at old) ≡ take at old = take_all at (take at old) (omega arith) in
    let last : drop (at + n) (take at old) ≡ drop (at + n) old =
    drop_all (at + n) (take at old) (omega arith) ∙ sym (drop_all (at + n) old (omega arith)) in
    (λ i. first i ++ take n (drop at old) ++ last i)
    ∙ ap (λ (l : List ℕ). l ++ drop (at + n) old) (sym (take-add at n old))
    ∙ take-append-drop (at + n) old

module _ (old new : MemFile) (at n : ℕ) (range : Changed)
    (ranges : new.changed.items ≡ old.changed.items ++ range ∷ []) (is_at : range.at ≡ at) (is_len : range.len ≡ n) (is_before : range.before.items ≡ take n (drop at old.bytes.items))
    (least : new.least ≡ min old.least (length old.bytes.items)) (greatest : new.greatest ≡ max old.greatest (length old.bytes.items)) where
  bytes_before : (bytes : List ℕ) → before_change range bytes ≡ take at bytes ++ take n (drop at old.bytes.items) ++ drop (at + n) bytes
  bytes_before bytes = λ i. take (is_at i) bytes ++ is_before i ++ drop (is_at i + is_len i) bytes

  changed_same : ranges_of new.changed.items ≡ (at, n) ∷ ranges_of old.changed.items
  changed_same =
      ap (λ (rs : List Changed). map (λ (r : Changed). (r.at, r.len)) rs) (ap (λ (rs : List Changed). reverse rs) ranges ∙ pushed old.changed.items range)
      ∙ (λ i. (is_at i, is_len i) ∷ ranges_of old.changed.items)

  synced_same : (bytes : List ℕ) → new.bytes.items ≡ bytes → take at bytes ++ take n (drop at old.bytes.items) ++ drop (at + n) bytes ≡ old.bytes.items
      → undone (reverse new.changed.items) new.bytes.items ≡ undone (reverse old.changed.items) old.bytes.items
  synced_same bytes is back =
      (λ i. undone (reverse (ranges i)) (is i))
      ∙ ap (λ (rs : List Changed). undone rs bytes) (pushed old.changed.items range)
      ∙ ap (λ (l : List ℕ). undone (reverse old.changed.items) l) (bytes_before bytes ∙ back)

  pub file_written : (piece : List ℕ) → n ≡ length piece → at ≤ length old.bytes.items → new.bytes.items ≡ put old.bytes.items at piece → file_of new ≡ written at piece (file_of old)
  file_written piece size le is =
      (λ i. record {
        bytes = is i;
        synced = synced_same (put old.bytes.items at piece) is (subst (λ (k : ℕ). take at (put old.bytes.items at piece) ++ take k (drop at old.bytes.items) ++ drop (at + k) (put old.bytes.items at piece) ≡ old.bytes.items) (sym size) (put_undone old.bytes.items piece at le)) i;
        changed = (changed_same ∙ ap (λ (k : ℕ). (at, k) ∷ ranges_of old.changed.items) size) i;
        least = least i;
        greatest = greatest i;
      })

  pub file_cut : n ≡ length old.bytes.items - at → at ≤ length old.bytes.items → new.bytes.items ≡ take at old.bytes.items → file_of new ≡ cut_to at (file_of old)
  file_cut size le is =
      (λ i. record {
        bytes = is i;
        synced = synced_same (take at old.bytes.items) is (subst (λ (k : ℕ). take at (take at old.bytes.items) ++ take k (drop at old.bytes.items) ++ drop (at + k) (take at old.bytes.items) ≡ old.bytes.items) (sym size) (cut_undone old.bytes.items at le)) i;
        changed = (changed_same ∙ ap (λ (k : ℕ). (at, k) ∷ ranges_of old.changed.items) size) i;
        least = least i;
        greatest = greatest i;
      })

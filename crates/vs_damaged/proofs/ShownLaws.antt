-- What is shown goes on with each line and marker that is pushed.
use Rattle.std.proofs.Common.{◌≡◌, ◌≤◌, ◌+◌, ℕ, List, [], ◌∷◌, ◌++◌, map, Bool, true, false, refl, sym, ap, ◌∙◌, arith, subst, append_assoc, append-nil}
use Rattle.std.specs.Int.{from_bool}
use Rattle.std.proofs.lemmas.Grind.{flat_map-append}
use Rattle.std.proofs.lemmas.List.{map-append}
use Rattle.vs_text.specs.declared.format.Format.{Format}
use Rattle.vs_text.specs.Documents.{file_in, line_end}
use Rattle.vs_damaged.specs.declared.shown.Marker.TheVariants.{ManyLinesMissing}
use Rattle.vs_damaged.specs.declared.shown.Shown.{Shown}
use Rattle.std.proofs.lemmas.Bool.Decides.{nat_tests}
use Rattle.vs_damaged.specs.Items.{Item, Shows, TheLine, TheMarker, bounded, bounded_after, bytes_of_items, is_within, item_bytes, item_size, kept_after, markers_in, one_if_marker, words}

nothing : (full : Bool) (lines bytes : ℕ) (more : List Item) → full ≡ true → kept_after full lines bytes more ≡ []
nothing true lines bytes more is = refl
nothing false lines bytes more is = absurd (cc)

goes : (full : Bool) (lines bytes : ℕ) (more : List Item) → full ≡ false → kept_after full lines bytes more ≡ bounded_after lines bytes more
goes true lines bytes more is = absurd (cc)
goes false lines bytes more is = refl

markers_more : (xs : List Item) (x : Item) → markers_in (xs ++ x ∷ []) ≡ markers_in xs + one_if_marker x
markers_more [] x = omega arith
markers_more (y ∷ xs) x = omega (arith, markers_more xs x)

bytes_more : (format : Format) (xs : List Item) (x : Item) → bytes_of_items format (xs ++ x ∷ []) ≡ bytes_of_items format xs ++ (item_bytes x ++ line_end format)
bytes_more format xs x =
    ap (λ (lines : List (List ℕ)). file_in format lines) (map-append (λ (i : Item). item_bytes i) xs (x ∷ []))
    ∙ flat_map-append (λ (line : List ℕ). line ++ line_end format) (map (λ (i : Item). item_bytes i) xs) (item_bytes x ∷ [])
    ∙ ap (λ ys. bytes_of_items format xs ++ ys) (append-nil (item_bytes x ++ line_end format))

moved : (items more : List Item) (x : Item) → bounded ((items ++ x ∷ []) ++ more) ≡ bounded (items ++ x ∷ more)
moved items more x = ap (λ (is : List Item). bounded is) (append_assoc items (x ∷ []) more)

-- nothing more is kept
pub shows_full : (format : Format) (shown : Shown) (items : List Item) (x : Item) → shown.full ≡ true → Shows format shown items → Shows format shown (items ++ x ∷ [])
shows_full format shown items x full shows = record {
  kept = shows.kept;
  goes_on = λ more. moved items more x ∙ (shows.goes_on (x ∷ more)
      ∙ ap (λ is. shows.kept ++ is) (nothing shown.full shown.lines shown.size (x ∷ more) full ∙ sym (nothing shown.full shown.lines shown.size more full)));
  format_is = shows.format_is;
  bytes = shows.bytes;
  markers = shows.markers;
  lines = shows.lines;
  few = shows.few;
}

stops : (lines bytes : ℕ) (x : Item) (more : List Item) → is_within (lines + 1) (bytes + item_size x) ≡ false → bounded_after lines bytes (x ∷ more) ≡ TheMarker ManyLinesMissing ∷ []
stops lines bytes x more is = rw is refl

takes : (lines bytes : ℕ) (x : Item) (more : List Item) → is_within (lines + 1) (bytes + item_size x) ≡ true → bounded_after lines bytes (x ∷ more) ≡ x ∷ bounded_after (lines + 1) (bytes + item_size x) more
takes lines bytes x more is = rw is refl

added : (format : Format) (old new : Shown) (kept : List Item) (x : Item) → old.format ≡ format → old.bytes.items ≡ bytes_of_items format kept
    → new.bytes.items ≡ old.bytes.items ++ (item_bytes x ++ line_end old.format) → new.bytes.items ≡ bytes_of_items format (kept ++ x ∷ [])
added format old new kept x is before bytes =
    bytes ∙ ap (λ (f : Format). old.bytes.items ++ (item_bytes x ++ line_end f)) is ∙ ap (λ bs. bs ++ (item_bytes x ++ line_end format)) before ∙ sym (bytes_more format kept x)

-- the last marker is kept
pub shows_last : (format : Format) (old new : Shown) (items : List Item) (x : Item) → old.full ≡ false → is_within (old.lines + 1) (old.size + item_size x) ≡ false
    → new.bytes.items ≡ old.bytes.items ++ (words ManyLinesMissing ++ line_end old.format) → new.format ≡ old.format → new.lines ≡ old.lines → new.markers ≡ old.markers + 1
    → new.full ≡ true → Shows format old items → Shows format new (items ++ x ∷ [])
shows_last format old new items x unfull past bytes same lines markers full shows = record {
  kept = shows.kept ++ TheMarker ManyLinesMissing ∷ [];
  goes_on = λ more. moved items more x ∙ (shows.goes_on (x ∷ more)
      ∙ ap (λ is. shows.kept ++ is) (goes old.full old.lines old.size (x ∷ more) unfull ∙ stops old.lines old.size x more past)
      ∙ sym (append-nil (shows.kept ++ TheMarker ManyLinesMissing ∷ []))
      ∙ ap (λ is. (shows.kept ++ TheMarker ManyLinesMissing ∷ []) ++ is) (sym (nothing new.full new.lines new.size more full)));
  format_is = same ∙ shows.format_is;
  bytes = added format old new shows.kept (TheMarker ManyLinesMissing) shows.format_is shows.bytes bytes;
  markers = markers ∙ (ap (λ n. n + 1) shows.markers ∙ sym (markers_more shows.kept (TheMarker ManyLinesMissing)));
  lines = omega (arith, lines, shows.lines);
  few = omega (arith, lines, markers, shows.few, ap from_bool full, ap from_bool unfull);
}

pub one_most : (x : Item) → one_if_marker x ≤ 1
one_most (TheLine bytes) = omega arith
one_most (TheMarker marker) = omega arith

pub few_bytes : (lines bytes : ℕ) → is_within lines bytes ≡ true → bytes ≤ 268435456
few_bytes lines bytes within = grind (arith, nat_tests, within)

-- one line or marker more is kept
pub shows_more : (format : Format) (old new : Shown) (items : List Item) (x : Item) → old.full ≡ false → is_within (old.lines + 1) (old.size + item_size x) ≡ true
    → new.bytes.items ≡ old.bytes.items ++ (item_bytes x ++ line_end old.format) → new.format ≡ old.format → new.lines ≡ old.lines + 1 → new.size ≡ old.size + item_size x
    → new.markers ≡ old.markers + one_if_marker x → new.full ≡ old.full → Shows format old items → Shows format new (items ++ x ∷ [])
shows_more format old new items x unfull within bytes same lines size markers full shows =
    record {
      kept = shows.kept ++ x ∷ [];
      goes_on = λ more. moved items more x ∙ (shows.goes_on (x ∷ more)
          ∙ ap (λ is. shows.kept ++ is) (goes old.full old.lines old.size (x ∷ more) unfull ∙ takes old.lines old.size x more within)
          ∙ sym (append_assoc shows.kept (x ∷ []) (bounded_after (old.lines + 1) (old.size + item_size x) more))
          ∙ ap (λ is. (shows.kept ++ x ∷ []) ++ is) (sym (goes new.full new.lines new.size more (full ∙ unfull)
          ∙ ap (λ n. bounded_after n new.size more) lines ∙ ap (λ n. bounded_after (old.lines + 1) n more) size)));
      format_is = same ∙ shows.format_is;
      bytes = added format old new shows.kept x shows.format_is shows.bytes bytes;
      markers = markers ∙ (ap (λ n. n + one_if_marker x) shows.markers ∙ sym (markers_more shows.kept x));
      lines = grind (arith, nat_tests, lines, within);
      few = omega (arith, lines, markers, shows.few, ap from_bool full, ap from_bool unfull, one_most x);
    }

-- what is shown of some items and one more
pub shown_next : (format : Format) (shown : Shown) (items part all : List Item) (x : Item) → all ≡ part ++ x ∷ [] → Shows format shown ((items ++ part) ++ x ∷ []) → Shows format shown (items ++ all)
shown_next format shown items part all x is shows = subst (λ (is : List Item). Shows format shown is) (append_assoc items part (x ∷ []) ∙ ap (λ (ys : List Item). items ++ ys) (sym is)) shows

pub shown_none : (format : Format) (shown : Shown) (items all : List Item) → all ≡ [] → Shows format shown items → Shows format shown (items ++ all)
shown_none format shown items all is shows = subst (λ (is : List Item). Shows format shown is) (sym (append-nil items) ∙ ap (λ (ys : List Item). items ++ ys) (sym is)) shows

pub shown_same : (format : Format) (shown : Shown) (items a b : List Item) → a ≡ b → Shows format shown (items ++ a) → Shows format shown (items ++ b)
shown_same format shown items a b is shows = subst (λ (ys : List Item). Shows format shown (items ++ ys)) is shows

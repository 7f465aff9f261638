-- The lines of the original file that an entry leads to are shown one after the other, and the marker where there are fewer.
use Rattle.std.proofs.Common.{◌≡◌, ◌≤◌, ◌<◌, ◌+◌, ℕ, zero, suc, List, [], ◌∷◌, ◌++◌, length, take, drop, map, Bool, true, false, Option, Some, None, refl, sym, ap, ◌∙◌, subst, arith, length-drop}
use Rattle.std.specs.Prelude.{nat_eq, nat_lt, not, if◌then◌else◌, Vec}
use Rattle.std.specs.declared.alloc.Global.{Global}
use Rattle.std.proofs.lemmas.Bool.Decides.{nat_tests}
use Rattle.std.proofs.lemmas.List.{append-nil, drop_all, map-append, take_all}
use Rattle.std.proofs.Math.Seq.{drop-nil}
use Rattle.vs_text.specs.declared.format.Format.{Format}
use Rattle.vs_text.specs.Text.{lines_of}
use Rattle.vs_damaged.specs.declared.shown.Marker.TheVariants.{LinesMissing}
use Rattle.vs_damaged.specs.declared.shown.Shown.{Shown}
use Rattle.vs_damaged.specs.Finds.{original_items}
use Rattle.vs_damaged.specs.Items.{Adds, Item, Shows, TheMarker, original_item}
use Rattle.vs_damaged.proofs.ShownLaws.{shown_next}
use Rattle.vs_recover.specs.declared.original.Original.{Original}
use Rattle.vs_recover.specs.Original.{Follows, IsNext, IsOpened, ShowsPart}
use Rattle.vs_recover.proofs.OriginalLaws.{drop_on, kept_item}

pub empty_len : (v : Vec ℕ Global) → true ≡ nat_eq v.len 0 → length v.items ≡ 0
empty_len v is = let n : v.len ≡ 0 = grind (arith, nat_tests, is) in omega (arith, v.ok.0, n)

pub filled_len : (v : Vec ℕ Global) → false ≡ nat_eq v.len 0 → 0 < length v.items
filled_len v is = let n : 0 < v.len = grind (arith, nat_tests, is) in omega (arith, v.ok.0, n)

-- ---- lines one after the other

take_at : {X : Type 0} (n m : ℕ) (xs rest : List X) (x : X) → m ≡ n + 1 → drop n xs ≡ x ∷ rest → take m xs ≡ take n xs ++ x ∷ []
take_at n m [] rest x one is = absurd (let e : [] ≡ x ∷ rest = sym (drop-nil n) ∙ is in cc)
take_at zero m (y ∷ ys) rest x one is = let e : m ≡ 1 = omega (arith, one) in ap (λ k. take k (y ∷ ys)) e ∙ ap (λ (zs : List _). take 1 zs) is
take_at (suc n) zero (y ∷ ys) rest x one is = absurd (omega (arith, one))
take_at (suc n) (suc m) (y ∷ ys) rest x one is = ap (λ zs. y ∷ zs) (take_at n m ys rest x (omega (arith, one)) is)

take_next : {X : Type 0} (n : ℕ) (xs rest : List X) (x : X) → drop n xs ≡ x ∷ rest → take (n + 1) xs ≡ take n xs ++ x ∷ []
take_next n xs rest x is = take_at n (n + 1) xs rest x refl is

pub next_enough : {X : Type 0} (n : ℕ) (xs rest : List X) (x : X) → drop n xs ≡ x ∷ rest → n + 1 ≤ length xs
next_enough n xs rest x is = omega (arith, ap length is, length-drop n xs)

pub next_rest : {X : Type 0} (n : ℕ) (xs rest : List X) (x : X) → drop n xs ≡ x ∷ rest → rest ≡ drop (n + 1) xs
next_rest n xs rest x is = sym (ap (λ zs. drop 1 zs) is) ∙ drop_on n 1 xs

-- the file's end was reached before the line that is looked for
pub seek_over : (lines : List (List ℕ)) (into : List ℕ) (line now counter before : ℕ) (more : Bool) → more ≡ false → IsNext (drop line lines) (drop now lines) into more → drop line lines ≡ drop counter lines → counter ≤ before → drop now lines ≡ drop before lines
seek_over lines into line now counter before true is next same le = absurd (cc)
seek_over lines into line now counter before false is next same le =
    let short : length lines ≤ counter = omega (arith, ap length (sym same ∙ next.0), length-drop counter lines) in
    next.1 ∙ sym (drop_all before lines (omega (arith, short, le)))

pub seek_next : (lines : List (List ℕ)) (into : List ℕ) (line now counter : ℕ) (more : Bool) → more ≡ true → IsNext (drop line lines) (drop now lines) into more → drop line lines ≡ drop counter lines → drop now lines ≡ drop (counter + 1) lines
seek_next lines into line now counter true is next same = next_rest counter lines (drop now lines) next.0 (sym same ∙ next.1)
seek_next lines into line now counter false is next same = absurd (cc)

-- ---- the lines are shown

pub next_true : (lines rest : List (List ℕ)) (into : List ℕ) (more : Bool) → more ≡ true → IsNext lines rest into more → IsNext lines rest into true
next_true lines rest into more is next = subst (λ (b : Bool). IsNext lines rest into b) is next

pub next_false : (lines rest : List (List ℕ)) (into : List ℕ) (more : Bool) → more ≡ false → IsNext lines rest into more → lines ≡ []
next_false lines rest into true is next = absurd (cc)
next_false lines rest into false is next = next.0

-- the next line was shown
pub shows_line : (format : Format) (shown : Shown) (items : List Item) (lines rest : List (List ℕ)) (line : List ℕ) (n : ℕ) → IsNext (drop n lines) rest line true → Shows format shown ((items ++ map (original_item format) (take n lines)) ++ original_item format line ∷ [])
    → Shows format shown (items ++ map (original_item format) (take (n + 1) lines))
shows_line format shown items lines rest line n next shows =
    let whole : List ℕ = next.0 in
    let item : original_item format line ≡ original_item format whole = kept_item format line whole next.2 in
    let more : map (original_item format) (take (n + 1) lines) ≡ map (original_item format) (take n lines) ++ original_item format line ∷ [] =
    ap (λ ls. map (original_item format) ls) (take_next n lines rest whole next.1) ∙ (map-append (original_item format) (take n lines) (whole ∷ []) ∙ ap (λ i. map (original_item format) (take n lines) ++ i ∷ []) (sym item)) in
    shown_next format shown items (map (original_item format) (take n lines)) (map (original_item format) (take (n + 1) lines)) (original_item format line) more shows

-- there are no more lines
pub shows_over : (format : Format) (shown : Shown) (items : List Item) (lines : List (List ℕ)) (n count : ℕ) → drop n lines ≡ [] → n ≤ count → Shows format shown (items ++ map (original_item format) (take n lines)) → Shows format shown (items ++ map (original_item format) (take count lines))
shows_over format shown items lines n count none le shows =
    let few : length lines ≤ n = omega (arith, ap length none, length-drop n lines) in
    subst (λ ls. Shows format shown (items ++ map (original_item format) ls)) (take_all n lines few ∙ sym (take_all count lines (omega (arith, few, le)))) shows

pub is_fewer : (lines : List (List ℕ)) (n count : ℕ) → drop n lines ≡ [] → n < count → n ≤ length lines → false ≡ not (nat_lt (length lines) count)
is_fewer lines n count none lt le = let same : length lines ≡ n = omega (arith, ap length none, length-drop n lines, le) in rw same (grind (arith, nat_tests))

-- ---- with the marker

part_by : (format : Format) (shown : Shown) (items part : List Item) (fewer all : Bool) → all ≡ not fewer → Shows format shown (items ++ part) → ShowsPart format shown items (part ++ (if fewer then TheMarker LinesMissing ∷ [] else [])) all
part_by format shown items part true true is shows = absurd (cc)
part_by format shown items part true false is shows = (part, refl, shows)
part_by format shown items part false true is shows = subst (λ (is : List Item). Shows format shown (items ++ is)) (sym (append-nil part)) shows
part_by format shown items part false false is shows = absurd (cc)

pub part_shown : (format : Format) (shown : Shown) (items : List Item) (o : Option (List ℕ)) (file : List ℕ) (before : Option ℕ) (from line count : ℕ) (all : Bool) → o ≡ Some file → before ≡ Some from → drop line (lines_of file) ≡ drop from (lines_of file)
    → all ≡ not (nat_lt (length (drop line (lines_of file))) count) → Shows format shown (items ++ map (original_item format) (take count (drop line (lines_of file)))) → ShowsPart format shown items (original_items format o before count) all
part_shown format shown items o file before from line count all there number same is shows =
    let lines : List (List ℕ) = drop from (lines_of file) in
    let told : original_items format o before count ≡ original_items format (Some file) (Some from) count = ap (λ p. original_items format p before count) there ∙ ap (λ p. original_items format (Some file) p count) number in
    subst (λ (more : List Item). ShowsPart format shown items more all) (sym told)
    (part_by format shown items (map (original_item format) (take count lines)) (nat_lt (length lines) count) all (is ∙ ap (λ (ls : List (List ℕ)). not (nat_lt (length ls) count)) same) (subst (λ ls. Shows format shown (items ++ map (original_item format) (take count ls))) same shows))

nothing_there : (format : Format) (o : Option (List ℕ)) → IsOpened o None → (before : Option ℕ) (count : ℕ) → original_items format o before count ≡ TheMarker LinesMissing ∷ []
nothing_there format None opened before count = refl
nothing_there format (Some file) opened before count = absurd opened

no_number : (format : Format) (o : Option (List ℕ)) (count : ℕ) → original_items format o None count ≡ TheMarker LinesMissing ∷ []
no_number format None count = refl
no_number format (Some file) count = refl

part_none : (format : Format) (shown : Shown) (items more : List Item) → more ≡ TheMarker LinesMissing ∷ [] → Shows format shown items → ShowsPart format shown items more false
part_none format shown items more is shows = ([], is, subst (λ (is : List Item). Shows format shown is) (sym (append-nil items)) shows)

pub part_absent : (format : Format) (shown : Shown) (items : List Item) (o : Option (List ℕ)) (opened : Option Original) (before : Option ℕ) (count : ℕ) → opened ≡ None → IsOpened o opened → Shows format shown items → ShowsPart format shown items (original_items format o before count) false
part_absent format shown items o opened before count none is shows = part_none format shown items _ (nothing_there format o (subst (λ (p : Option Original). IsOpened o p) none is) before count) shows

pub part_unnumbered : (format : Format) (shown : Shown) (items : List Item) (o : Option (List ℕ)) (before : Option ℕ) (count : ℕ) → before ≡ None → Shows format shown items → ShowsPart format shown items (original_items format o before count) false
part_unnumbered format shown items o before count none shows = part_none format shown items _ (ap (λ p. original_items format o p count) none ∙ no_number format o count) shows

pub part_marked : (format : Format) (old new : Shown) (items more : List Item) (all : Bool) → all ≡ false → ShowsPart format old items more all → Adds old new (TheMarker LinesMissing) → Shows format new (items ++ more)
part_marked format old new items more true is part adds = absurd (cc)
part_marked format old new items more false is part adds = shown_next format new items part.0 more (TheMarker LinesMissing) part.1 (adds format (items ++ part.0) part.2)

-- ---- the file that was opened

pub opened_follows : (o : Option (List ℕ)) (opened : Option Original) (original : Original) → opened ≡ Some original → IsOpened o opened → (file : List ℕ) × (o ≡ Some file) × Follows original file
opened_follows None opened original some is = absurd (subst (λ (p : Option Original). IsOpened None p) some is)
opened_follows (Some file) opened original some is = (file, refl, subst (λ (p : Option Original). IsOpened (Some file) p) some is)

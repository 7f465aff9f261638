-- Runs that are put behind the last line of others come as data blocks behind theirs, since one block alone has the line at a place.
use Rattle.std.proofs.Common.{◌≡◌, ℕ, ◌+◌, ◌-◌, ◌<◌, ◌≤◌, ◌⊎◌, inl, inr, List, [], ◌∷◌, ◌++◌, length, take, drop, refl, sym, ap, subst, ◌∙◌, arith, append-nil, append_assoc, length-append}
use Rattle.vs_tree_shape.specs.DataBlocks.{Cuts, lines_in_blocks}
use Rattle.vs_tree_shape.proofs.Shapes.{each-append, each-back}
use Rattle.vs_tree_shape.proofs.Splices.{take_past, drop_past}
use Rattle.vs_tree_shape.proofs.Sums.{total-append}
use Rattle.vs_tree_blocks.specs.Cuts.{all_lines, part, spread}
use Rattle.vs_tree_blocks.specs.Fills.{AllHaveLines}
use Rattle.vs_tree_blocks.proofs.CutsLemmas.{all_both, part_some, spread_last, total_lines}
use Rattle.vs_tree.specs.DataBlocks.{KeepsStart}
use Rattle.vs_tree.specs.Packed.{ArePacked, ArePut, ArePutBut, HaveBlocks, IsFullBefore, IsPageful, StandInRow}
use Rattle.vs_tree.proofs.Packing.{packed_both}

abbrev pub Blocks : Type 0
Blocks = List (List (List ℕ))

-- how runs that come behind a line cut its block
abbrev pub Spreads : Blocks → List (List ℕ) → ℕ → Blocks → Type 0
Spreads more lines rest parts = parts ≡ spread lines (rest + 1) more

-- one block alone has the line at a place
one_cut : (f g b c : Blocks) (x y : List (List ℕ)) (r s : ℕ) → f ++ x ∷ b ≡ g ++ y ∷ c → lines_in_blocks f + r ≡ lines_in_blocks g + s → r < length x → s < length y
    → (f ≡ g) × (x ≡ y) × (b ≡ c)
one_cut [] [] b c x y r s is place less more = let both : x ∷ b ≡ y ∷ c = is in (refl, cc, cc)
one_cut [] (z ∷ g) b c x y r s is place less more =
    let head : x ≡ z = cc in
    absurd (omega (arith, ap length head, place, less))
one_cut (w ∷ f) [] b c x y r s is place less more =
    let head : w ≡ y = cc in
    absurd (omega (arith, ap length head, place, more))
one_cut (w ∷ f) (z ∷ g) b c x y r s is place less more =
    let head : w ≡ z = cc in
    let tail : f ++ x ∷ b ≡ g ++ y ∷ c = cc in
    let below = one_cut f g b c x y r s tail (omega (arith, ap length head, place)) less more in
    (ap (λ bs. w ∷ bs) below.0 ∙ ap (λ ls. ls ∷ g) head, below.1, below.2)

last_of : (runs : Blocks) → (runs ≡ []) ⊎ ((front : Blocks) × (last : List (List ℕ)) × (runs ≡ front ++ last ∷ []))
last_of [] = inl refl
last_of (run ∷ runs) = elim (last_of runs) [
  | inl none ↦ inr ([], run, ap (λ rs. run ∷ rs) none)
  | inr some ↦ inr (run ∷ some.0, some.1, ap (λ rs. run ∷ rs) some.2)
]

-- the last of runs that have lines has some
last_some : (runs : Blocks) (last : List (List ℕ)) → AllHaveLines (runs ++ last ∷ []) → 1 ≤ length last
last_some runs last each = (each-back (λ (run : List (List ℕ)). 1 ≤ length run) runs (last ∷ []) each).0

pub count_both : (xs ys : Blocks) → lines_in_blocks (xs ++ ys) ≡ lines_in_blocks xs + lines_in_blocks ys
count_both xs ys = total-append (λ (ls : List (List ℕ)). length ls) xs ys

module _ (all now : Blocks) (at : ℕ) (first : List (List ℕ)) (more : Blocks) where
  -- the first runs, behind the last line of the first one
  row_first : 1 ≤ length first → StandInRow all at first [] → Cuts all (at + length first - 1) (Spreads more) now → StandInRow now at first more
  row_first some old k =
      let here : List (List ℕ) = old.before ++ (first ++ old.behind) in
      let start : List (List ℕ) = old.before ++ first in
      let size : length start ≡ length old.before + length first = length-append old.before first in
      let cut : here ≡ start ++ old.behind = sym (append_assoc old.before first old.behind) in
      let place : lines_in_blocks k.front + k.rest ≡ lines_in_blocks old.front + (length old.before + length first - 1) = omega (arith, some, k.place, old.place) in
      let inside : length old.before + length first - 1 < length here = omega (arith, some, size, ap length cut, length-append start old.behind) in
      let one = one_cut k.front old.front k.back old.back k.here here k.rest (length old.before + length first - 1) (sym k.all_are ∙ old.all_are) place k.inside inside in
      let end : k.rest + 1 ≡ length start + 0 = omega (arith, some, size, place, ap lines_in_blocks one.0) in
      let all_is : k.here ≡ start ++ old.behind = one.1 ∙ cut in
      let front : take (k.rest + 1) k.here ≡ start = ap (λ ls. take (k.rest + 1) ls) all_is ∙ take_past start old.behind (k.rest + 1) 0 end ∙ append-nil start in
      let back : drop (k.rest + 1) k.here ≡ old.behind = ap (λ ls. drop (k.rest + 1) ls) all_is ∙ drop_past start old.behind (k.rest + 1) 0 end in
      let parts : k.parts ≡ start ∷ (more ++ part old.behind) =
      k.into ∙ ap (λ ls. part ls ++ (more ++ part (drop (k.rest + 1) k.here))) front ∙ ap (λ ls. part start ++ (more ++ part ls)) back
      ∙ ap (λ bs. bs ++ (more ++ part old.behind)) (part_some start (omega (arith, some, size))) in
      record {
        front = old.front;
        before = old.before;
        behind = [];
        back = part old.behind ++ old.back;
        all_are = k.after_are ∙ ap (λ bs. bs ++ (k.parts ++ k.back)) one.0 ∙ ap (λ bs. old.front ++ (bs ++ k.back)) parts ∙ ap (λ bs. old.front ++ ((start ∷ (more ++ part old.behind)) ++ bs)) one.2
            ∙ ap (λ bs. old.front ++ start ∷ bs) (append_assoc more (part old.behind) old.back) ∙ ap (λ ls. old.front ++ (old.before ++ ls) ∷ (more ++ (part old.behind ++ old.back))) (sym (append-nil first));
        place = old.place;
        ends = λ there. refl;
      }

  -- more runs, behind the last line of those before
  row_next : (runs : Blocks) (last : List (List ℕ)) → 1 ≤ length last → StandInRow all at first (runs ++ last ∷ [])
      → Cuts all (at + length first + lines_in_blocks (runs ++ last ∷ []) - 1) (Spreads more) now → StandInRow now at first ((runs ++ last ∷ []) ++ more)
  row_next runs last some old k =
      let here : List (List ℕ) = old.before ++ (first ++ old.behind) in
      let front : Blocks = old.front ++ here ∷ runs in
      let ends : old.behind ≡ [] = old.ends (omega (arith, length-append runs (last ∷ []))) in
      let size : length here ≡ length old.before + length first = omega (arith, length-append old.before (first ++ old.behind), length-append first old.behind, ap length ends) in
      let cut : k.front ++ k.here ∷ k.back ≡ front ++ last ∷ old.back = sym k.all_are ∙ old.all_are ∙ simp append_assoc in
      let place : lines_in_blocks k.front + k.rest ≡ lines_in_blocks front + (length last - 1) =
      omega (arith, some, k.place, old.place, size, count_both old.front (here ∷ runs), count_both runs (last ∷ [])) in
      let one = one_cut k.front front k.back old.back k.here last k.rest (length last - 1) cut place k.inside (omega (arith, some)) in
      let end : k.rest + 1 ≡ length k.here = omega (arith, some, place, ap lines_in_blocks one.0, ap length one.1) in
      let parts : k.parts ≡ last ∷ more = k.into ∙ sym (spread_last k.here (k.rest + 1) more end (omega (arith, k.inside))) ∙ ap (λ ls. ls ∷ more) one.1 in
      record {
        front = old.front;
        before = old.before;
        behind = old.behind;
        back = old.back;
        all_are = k.after_are ∙ ap (λ bs. bs ++ (k.parts ++ k.back)) one.0 ∙ ap (λ bs. front ++ (bs ++ k.back)) parts ∙ ap (λ bs. front ++ ((last ∷ more) ++ bs)) one.2 ∙ simp append_assoc;
        place = old.place;
        ends = λ there. ends;
      }

-- more lines come behind these
pub blocks_next : (all now : Blocks) (at : ℕ) (first : List (List ℕ)) (more : Blocks) (lines after rest : List (List ℕ)) → HaveBlocks all at first lines after → 1 ≤ length first
    → Cuts all (at + length first + length lines - 1) (Spreads more) now → AllHaveLines more → after ≡ all_lines more ++ rest → ArePacked more rest → HaveBlocks now at first (lines ++ all_lines more) rest
blocks_next all now at first more lines after rest h some k each is packed =
    let count : length lines ≡ lines_in_blocks h.runs = ap length h.lines_are ∙ sym (total_lines h.runs) in
    record {
      runs = h.runs ++ more;
      lines_are = ap (λ ls. ls ++ all_lines more) h.lines_are ∙ sym (all_both h.runs more);
      each = each-append (λ (run : List (List ℕ)). 1 ≤ length run) h.runs more h.each each;
      packed = packed_both h.runs more rest (subst (λ ls. ArePacked h.runs ls) is h.packed) packed;
      row = elim (last_of h.runs) [
        | inl none ↦
            let start : at + length first + length lines - 1 ≡ at + length first - 1 = omega (arith, count, ap lines_in_blocks none) in
            subst (λ rs. StandInRow now at first (rs ++ more)) (sym none)
            (row_first all now at first more some (subst (λ rs. StandInRow all at first rs) none h.row) (subst (λ n. Cuts all n (Spreads more) now) start k))
        | inr last ↦
            let place : at + length first + length lines - 1 ≡ at + length first + lines_in_blocks (last.0 ++ last.1 ∷ []) - 1 = omega (arith, count, ap lines_in_blocks last.2) in
            subst (λ rs. StandInRow now at first (rs ++ more)) (sym last.2)
            (row_next all now at first more last.0 last.1 (last_some last.0 last.1 (subst AllHaveLines last.2 h.each))
            (subst (λ rs. StandInRow all at first rs) last.2 h.row) (subst (λ n. Cuts all n (Spreads more) now) place k))
      ];
    }

pub blocks_none : (all : Blocks) (at : ℕ) (first after : List (List ℕ)) → StandInRow all at first [] → HaveBlocks all at first [] after
blocks_none all at first after row = record { runs = []; lines_are = refl; each = tt; packed = tt; row = row }

-- a first run is put
pub put_first : (all : Blocks) (at : ℕ) (run after : List (List ℕ)) → 1 ≤ length run → IsPageful run → IsFullBefore run after → StandInRow all at run [] → ArePut all at run after
put_first all at run after some page full row =
    record { first = run; rest = []; lines_are = sym (append-nil run); some = some; page = page; full = full; blocks = blocks_none all at run after row }

-- a first run is put, and then all others
pub put_both : (all : Blocks) (at : ℕ) (run rest lines : List (List ℕ)) → lines ≡ run ++ rest → 1 ≤ length run → IsPageful run → IsFullBefore run rest → HaveBlocks all at run rest []
    → ArePut all at lines []
put_both all at run rest lines is some page full own =
    record { first = run; rest = rest; lines_are = is; some = some; page = page; full = subst (λ ls. IsFullBefore run ls) (sym (append-nil rest)) full; blocks = own }

-- other runs come behind those that are put
pub put_more : (all now : Blocks) (at : ℕ) (more : Blocks) (lines after rest : List (List ℕ)) → ArePut all at lines after
    → Cuts all (at + length lines - 1) (Spreads more) now → AllHaveLines more → after ≡ all_lines more ++ rest → ArePacked more rest → ArePut now at (lines ++ all_lines more) rest
put_more all now at more lines after rest p k each is packed =
    let size : at + length p.first + length p.rest ≡ at + length lines = omega (arith, ap length p.lines_are, length-append p.first p.rest) in
    record {
      first = p.first;
      rest = p.rest ++ all_lines more;
      lines_are = ap (λ ls. ls ++ all_lines more) p.lines_are ∙ append_assoc p.first p.rest (all_lines more);
      some = p.some;
      page = p.page;
      full = subst (λ ls. IsFullBefore p.first ls) (ap (λ ls. p.rest ++ ls) is ∙ sym (append_assoc p.rest (all_lines more) rest)) p.full;
      blocks = blocks_next all now at p.first more p.rest after rest p.blocks p.some (subst (λ n. Cuts all (n - 1) (Spreads more) now) (sym size) k) each is packed;
    }

-- all lines that are put, and none before them
pub put_behind : (all : Blocks) (most at : ℕ) (lines : List (List ℕ)) → (1 ≤ length lines → ArePut all at lines []) → ArePutBut all most at lines
put_behind all most at lines p =
    record { lead = []; others = lines; lines_are = refl; few = omega arith; put = λ some. subst (λ n. ArePut all n lines []) (omega arith) (p some) }

-- where lines before a place stay in their block, and the blocks before it stay, those that are put stay

abbrev KeepsTo : Blocks → Blocks → ℕ → Type 0
KeepsTo all now end = (front back : Blocks) (start others : List (List ℕ)) → all ≡ front ++ (start ++ others) ∷ back → 1 ≤ length start → lines_in_blocks front + length start ≤ end
    → KeepsStart now front start others

none_left : (lines : List (List ℕ)) → length lines ≡ 0 → lines ≡ []
none_left [] none = refl
none_left (line ∷ lines) none = absurd (omega (arith, none))

row_alone : (all now : Blocks) (at end : ℕ) (first : List (List ℕ)) → 1 ≤ length first → StandInRow all at first [] → end ≡ at + length first → KeepsTo all now end → StandInRow now at first []
row_alone all now at end first some old end_is kept =
    let start : List (List ℕ) = old.before ++ first in
    let size : length start ≡ length old.before + length first = length-append old.before first in
    let k = kept old.front old.back start old.behind (old.all_are ∙ ap (λ ls. old.front ++ ls ∷ old.back) (sym (append_assoc old.before first old.behind)))
    (omega (arith, some, size)) (omega (arith, size, end_is, old.place)) in
    record {
      front = old.front;
      before = old.before;
      behind = k.behind;
      back = k.back;
      all_are = k.all_are ∙ ap (λ ls. old.front ++ ls ∷ k.back) (append_assoc old.before first k.behind);
      place = old.place;
      ends = λ none. absurd (omega (arith, none));
    }

row_others : (all now : Blocks) (at end : ℕ) (first : List (List ℕ)) (runs : Blocks) (last : List (List ℕ)) → 1 ≤ length last → StandInRow all at first (runs ++ last ∷ [])
    → end ≡ at + length first + lines_in_blocks (runs ++ last ∷ []) → KeepsTo all now end → StandInRow now at first (runs ++ last ∷ [])
row_others all now at end first runs last some old end_is kept =
    let here : List (List ℕ) = old.before ++ (first ++ old.behind) in
    let front : Blocks = old.front ++ here ∷ runs in
    let ends : old.behind ≡ [] = old.ends (omega (arith, length-append runs (last ∷ []))) in
    let size : length here ≡ length old.before + length first = omega (arith, length-append old.before (first ++ old.behind), length-append first old.behind, ap length ends) in
    let all_is : all ≡ front ++ last ∷ old.back = old.all_are ∙ simp append_assoc in
    let cut : all ≡ front ++ (last ++ []) ∷ old.back = all_is ∙ ap (λ ls. front ++ ls ∷ old.back) (sym (append-nil last)) in
    let k = kept front old.back last [] cut some (omega (arith, end_is, old.place, size, count_both old.front (here ∷ runs), count_both runs (last ∷ []))) in
    let nothing : k.behind ≡ [] = none_left k.behind (omega (arith, k.less)) in
    record {
      front = old.front;
      before = old.before;
      behind = old.behind;
      back = k.back;
      all_are = k.all_are ∙ ap (λ ls. front ++ ls ∷ k.back) (ap (λ ls. last ++ ls) nothing ∙ append-nil last) ∙ simp append_assoc;
      place = old.place;
      ends = λ there. ends;
    }

row_kept : (all now : Blocks) (at end : ℕ) (first : List (List ℕ)) (runs : Blocks) → 1 ≤ length first → AllHaveLines runs → StandInRow all at first runs → end ≡ at + length first + lines_in_blocks runs
    → KeepsTo all now end → StandInRow now at first runs
row_kept all now at end first runs some each old end_is kept = elim (last_of runs) [
  | inl none ↦ subst (λ rs. StandInRow now at first rs) (sym none)
      (row_alone all now at end first some (subst (λ rs. StandInRow all at first rs) none old) (omega (arith, end_is, ap lines_in_blocks none)) kept)
  | inr last ↦ subst (λ rs. StandInRow now at first rs) (sym last.2)
      (row_others all now at end first last.0 last.1 (last_some last.0 last.1 (subst AllHaveLines last.2 each)) (subst (λ rs. StandInRow all at first rs) last.2 old)
      (omega (arith, end_is, ap lines_in_blocks last.2)) kept)
]

pub put_kept : (all now : Blocks) (at end : ℕ) (lines after : List (List ℕ)) → ArePut all at lines after → end ≡ at + length lines → KeepsTo all now end → ArePut now at lines after
put_kept all now at end lines after p end_is kept =
    let b = p.blocks in
    record {
      first = p.first;
      rest = p.rest;
      lines_are = p.lines_are;
      some = p.some;
      page = p.page;
      full = p.full;
      blocks = record {
        runs = b.runs;
        lines_are = b.lines_are;
        each = b.each;
        packed = b.packed;
        row = row_kept all now at end p.first b.runs p.some b.each b.row
            (omega (arith, end_is, ap length p.lines_are, length-append p.first p.rest, ap length b.lines_are, total_lines b.runs)) kept;
      };
    }

use Rattle.std.proofs.Common.{◌≡◌, ℕ, Bool, true, false, not, List, length, get_or, map, string_bytes, ap, refl, sym, arith}
use Rattle.std.proofs.lemmas.Bool.{true≢false}
use Rattle.std.proofs.lemmas.Grind.{common_steps}
use Rattle.std.proofs.lemmas.Slice.Eq.{bytes_eq-Decides}
use Rattle.std.specs.Prelude.{codes}
use Rattle.vs_top.proofs.PairForms.{some_pair}
use Rattle.vs_top.proofs.Words.{three_members}
use Rattle.vs_top.proofs.form.pair_names.Goals as goal
use Rattle.vs_top.proofs.form.pair_names.Goals.{in_default-via-then-words-lt3, in_default-via-else-words-lt3+else-words-lt4}

pub returns-in_default-clause-none : goal.returns-in_default-clause-none
returns-in_default-clause-none c = λ none one two pair.
    let three = ap (λ (l : List (List ℕ)). length l) pair.words_are in
    absurd (elim c.in_default.branch [ in_default-via-then-words-lt3 w ↦ grind (arith, common_steps) | in_default-via-else-words-lt3+else-words-lt4 w ↦ grind (arith, common_steps) ])

by_not : (b : Bool) → false ≡ not b → b ≡ true
by_not true is = refl
by_not false is = absurd (true≢false (sym is))

pub returns-clause-some : goal.returns-clause-some
returns-clause-some c =
    let is_pair = c.if-ne.ensures in
    let one_allowed = c.if-not-allowed.ensures in
    let two_allowed = c.if-not-allowed-2.ensures in
    let apart = c.if-clash.ensures in
    let first : c.as_str.result.now ≡ codes "pair" = (bytes_eq-Decides c.as_str.result.now (codes "pair")).0 (by_not _ is_pair) in
    let three : length (map string_bytes c.args.words.now) ≡ 3 = grind (arith, common_steps) in
    let word : c.as_str.result.now ≡ get_or (map string_bytes c.args.words.now) 0 c.as_str.result.now = grind (arith, common_steps) in
    let one : c.as_str-one.result.now ≡ get_or (map string_bytes c.args.words.now) 1 c.as_str-one.result.now = grind (arith, common_steps) in
    let two : c.as_str-two.result.now ≡ get_or (map string_bytes c.args.words.now) 2 c.as_str-two.result.now = grind (arith, common_steps) in
    some_pair (map string_bytes c.args.words.now) c.as_str.result.now c.as_str-one.result.now c.as_str-two.result.now
    (three_members (map string_bytes c.args.words.now) c.as_str.result.now c.as_str-one.result.now c.as_str-two.result.now three word one two) first (sym one_allowed) (sym two_allowed) (sym apart)

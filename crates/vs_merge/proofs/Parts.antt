-- Lines taken out one after another, and others put in at their place: as one splice.
use Rattle.std.proofs.Common.{◌≡◌, ℕ, ◌+◌, ◌-◌, ◌≤◌, All, List, [], length, sym, ap, subst, ◌∙◌, arith}
use Rattle.std.proofs.lemmas.List.Elements.{All-nil}
use Rattle.vs_edit.specs.Splices.{IsSmallSplice, cut_out, splice}
use Rattle.vs_edit.proofs.SpliceLemmas.{splice_none, splice_on}

-- none
pub taken_none : (text : List (List ℕ)) (top count : ℕ) → count ≡ 0 → splice text top count [] ≡ text
taken_none text top count none = ap (λ k. splice text top k []) none ∙ splice_none text top

-- some, and then lines at their place
pub taken_then : (text new : List (List ℕ)) (top old more : ℕ) → top + old ≤ length text → splice (splice text top old []) top more new ≡ splice text top (old + more) new
taken_then text new top old more within =
    let at : top ≡ top + 0 = omega arith in
    ap (λ k. splice (splice text top old []) k more new) at ∙ splice_on text top old within [] new more

-- one, and then the others
pub taken_one : (text : List (List ℕ)) (top count : ℕ) → 1 ≤ count → top + count ≤ length text → splice (splice text top 1 []) top (count - 1) [] ≡ splice text top count []
taken_one text top count some within =
    let all : 1 + (count - 1) ≡ count = omega (arith, some) in
    taken_then text [] top 1 (count - 1) (omega (arith, some, within)) ∙ ap (λ k. splice text top k []) all

-- all but the last go, and then that goes when the others have come
pub taken_all : (text new : List (List ℕ)) (top old last : ℕ) → old ≡ length text → top + old ≤ length text → last + (old - 1) ≡ old → splice (splice text 0 (old - 1) []) 0 last new ≡ splice text top old new
taken_all text new top old last all within rest =
    let first : top ≡ 0 = omega (arith, all, within) in
    let count : old - 1 + last ≡ old = omega (arith, rest) in
    taken_then text new 0 (old - 1) last (omega (arith, all)) ∙ ap (λ k. splice text 0 k new) count ∙ ap (λ k. splice text k old new) (sym first)

-- the parts of a small splice

pub small_out : (text new : List (List ℕ)) (top old : ℕ) → old ≡ 1 → IsSmallSplice text top old new → IsSmallSplice text top 1 []
small_out text new top old one small = record {
  few_out = omega arith;
  few_in = omega arith;
  brief_out = subst (λ (k : ℕ). All (λ line. length line ≤ 4067) (cut_out text top k)) one small.brief_out;
  brief_in = All-nil (λ line. length line ≤ 4067);
}

pub small_in : (text then new : List (List ℕ)) (top old : ℕ) → IsSmallSplice text top old new → IsSmallSplice then top 0 new
small_in text then new top old small = record {
  few_out = omega arith;
  few_in = small.few_in;
  brief_out = All-nil (λ line. length line ≤ 4067);
  brief_in = small.brief_in;
}

-- where all lines go, which is one at most
pub small_all : (text new : List (List ℕ)) (top old : ℕ) → old ≡ length text → top + old ≤ length text → IsSmallSplice text top old new → IsSmallSplice text 0 old new
small_all text new top old all within small = let first : top ≡ 0 = omega (arith, all, within) in subst (λ (k : ℕ). IsSmallSplice text k old new) first small

-- the same by numbers of the code

pub all_at : (text new : List (List ℕ)) (top old last less : ℕ) → less ≡ old - 1 → old ≡ length text → top + old ≤ length text → last + less ≡ old → splice (splice text 0 less []) 0 last new ≡ splice text top old new
all_at text new top old last less is all within rest =
    ap (λ k. splice (splice text 0 k []) 0 last new) is ∙ taken_all text new top old last all within (omega (arith, rest, is))

pub then_at : (text new : List (List ℕ)) (top old : ℕ) → top + old ≤ length text → splice (splice text top old []) top 0 new ≡ splice text top old new
then_at text new top old within = let all : old + 0 ≡ old = omega arith in taken_then text new top old 0 within ∙ ap (λ k. splice text top k new) all

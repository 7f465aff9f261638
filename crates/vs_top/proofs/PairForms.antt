-- The arguments of a run of two sessions have no other form.
use Rattle.std.proofs.Common.{◌≡◌, ℕ, false, List, [], ◌∷◌, IsTrue, length, get_or, sym, ◌∙◌, ap, subst, arith}
use Rattle.std.specs.Prelude.{codes}
use Rattle.vs_host.specs.Names.{is_allowed}
use Rattle.vs_host.specs.World.{Tells, Scene}
use Rattle.vs_family.specs.Family.{clash}
use Rattle.vs_machine.specs.declared.command.Mark.{Mark}
use Rattle.vs_top.specs.Forms.{IsForm}
use Rattle.vs_top.specs.Promise.{row}
use Rattle.vs_top.specs.Run.{counts_of}
use Rattle.vs_top.specs.Stress.{IsStress}
use Rattle.vs_top.specs.PairPromise.{IsPair, RunsPair}
use Rattle.vs_top.specs.declared.ending.Ending.{Ending}
use Rattle.vs_top.specs.declared.ending.Ending.TheVariants as ending
use Rattle.vs_top.specs.declared.form.Mode.{Mode}

pub pair_no_form : (words : List (List ℕ)) (one two : List ℕ) (mode : Mode) (name : List ℕ) → IsPair words one two → IsForm words mode name → ⊥
pair_no_form words one two mode name pair form = omega (arith, ap (λ (l : List (List ℕ)). length l) (sym pair.words_are ∙ form.0))

pub pair_no_stress : (words : List (List ℕ)) (one two : List ℕ) (count : ℕ) → IsPair words one two → IsStress words count → ⊥
pair_no_stress words one two count pair stress = omega (arith, ap (λ (l : List (List ℕ)). length l) (sym pair.words_are ∙ stress.1))

-- the arguments of two names
pub some_pair : (words : List (List ℕ)) (first one two : List ℕ) → words ≡ first ∷ one ∷ two ∷ [] → first ≡ codes "pair" → IsTrue (is_allowed one) → IsTrue (is_allowed two) → clash one two ≡ false → IsPair words one two
some_pair words first one two are is one_allowed two_allowed apart = record {
  words_are = are ∙ ap (λ (w : List ℕ). w ∷ one ∷ two ∷ []) is;
  one_allowed = one_allowed;
  two_allowed = two_allowed;
  apart = apart;
}

-- they say two names
pub same_pair : (tells : Tells) (words : List (List ℕ)) (a b one two : List ℕ) (old new : Scene) (end : Ending) (marks : List Mark) → IsPair words a b → IsPair words one two
    → RunsPair tells a b old new end marks → RunsPair tells one two old new end marks
same_pair tells words a b one two old new end marks says given runs =
    let are : codes "pair" ∷ a ∷ b ∷ [] ≡ codes "pair" ∷ one ∷ two ∷ [] = sym says.words_are ∙ given.words_are in
    let first : a ≡ one = ap (λ (xs : List (List ℕ)). get_or xs 1 a) are in
    let second : b ≡ two = ap (λ (xs : List (List ℕ)). get_or xs 2 b) are in
    subst (λ (n : List ℕ). RunsPair tells one n old new end marks) second (subst (λ (n : List ℕ). RunsPair tells n b old new end marks) first runs)

pub pair_never_usage : (tells : Tells) (one two : List ℕ) (old new : Scene) (end : Ending) (marks : List Mark) → RunsPair tells one two old new end marks → end ≡ ending.Usage → ⊥
pair_never_usage tells one two old new end marks runs is = subst (λ (e : Ending). (row e).counts (counts_of old) (counts_of new)) is runs.ends.counts

-- The arguments of the stress mode, and what comes of it where no call fails.
use Rattle.std.proofs.Common.{◌≡◌, ℕ, List, [], ◌∷◌, All, Option, Some, None, IfSome, get_or, sym, ◌∙◌, ap, subst, arith}
use Rattle.std.specs.Prelude.{codes}
use Rattle.std.specs.Str.Parse.{digits_value}
use Rattle.vs_stress.specs.Arguments.{IsCount}
use Rattle.vs_host.specs.World.{Tells, Scene, content_of}
use Rattle.vs_machine.specs.declared.command.Mark.{Mark}
use Rattle.vs_top.specs.Forms.{IsForm, word_of}
use Rattle.vs_top.specs.Promise.{RunsStress, row}
use Rattle.vs_top.specs.Unhindered.{IsStressUnhindered, IsThrough, IsThroughMark}
use Rattle.vs_top.specs.Run.{counts_of}
use Rattle.vs_top.specs.Stress.{IsStress, stress_name}
use Rattle.vs_top.specs.declared.ending.Ending.{Ending}
use Rattle.vs_top.specs.declared.ending.Ending.TheVariants as ending
use Rattle.vs_top.specs.declared.form.Mode.{Mode}
use Rattle.vs_top.specs.declared.form.Mode.TheVariants as mode
use Rattle.vs_top.proofs.Edits.{through_outcome, through_row}
use Rattle.vs_top.proofs.Words.{same_second}

-- no other mode begins with its letter
other_letter : (m : Mode) → 115 ≡ get_or (word_of m) 0 0 → ⊥
other_letter mode.Edit is = omega (arith, is)
other_letter mode.Recover is = omega (arith, is)
other_letter mode.Info is = omega (arith, is)
other_letter mode.Discard is = omega (arith, is)

pub no_form : (words : List (List ℕ)) (count : ℕ) (m : Mode) (name : List ℕ) → IsStress words count → IsForm words m name → ⊥
no_form words count m name stress form =
    other_letter m (ap (λ (xs : List (List ℕ)). get_or (get_or xs 0 []) 0 0) (sym stress.1 ∙ form.0))

-- the arguments of a number
pub some_count : (words : List (List ℕ)) (first word : List ℕ) (found : Option ℕ) → first ≡ codes "stress" → words ≡ first ∷ word ∷ [] → IfSome found (λ count. IsCount word count) → IfSome found (λ count. IsStress words count)
some_count words first word None is are says = tt
some_count words first word (Some count) is are says = (word, are ∙ ap (λ (w : List ℕ). w ∷ word ∷ []) is, says)

-- they say one number
pub one_count : (words : List (List ℕ)) (a b : ℕ) → IsStress words a → IsStress words b → a ≡ b
one_count words a b first second =
    let same : first.0 ≡ second.0 = same_second (codes "stress") first.0 (codes "stress") second.0 (sym first.1 ∙ second.1) in
    sym first.2.says ∙ ap (λ (word : List ℕ). digits_value 10 word) same ∙ second.2.says

pub never_usage : (OfHost : Scene → Type 0) (tells : Tells) (count : ℕ) (old new : Scene) (end : Ending) (marks : List Mark) → RunsStress OfHost tells count old new end marks → end ≡ ending.Usage → ⊥
never_usage OfHost tells count old new end marks runs is = subst (λ (e : Ending). (row e).counts (counts_of old) (counts_of new)) is runs.counts

pub stress_ends : (OfHost : Scene → Type 0) (tells : Tells) (count : ℕ) (old new : Scene) (end : Ending) (marks : List Mark) → RunsStress OfHost tells count old new end marks → IsStressUnhindered tells old new → IsThrough end
stress_ends OfHost tells count old new end marks runs free =
    through_row end old new (content_of old stress_name) runs.counts (runs.file free.told.folder) free.file free.no_out_fault free.no_folder_fault (λ is. free.free (runs.swap free.told.folder is))
    (λ is. let same = subst (λ (e : Ending). RunsStress OfHost tells count old new e marks) is runs in (same.told free.told).answered)
    (λ is. let same = subst (λ (e : Ending). RunsStress OfHost tells count old new e marks) is runs in (same.told free.told).answered)

pub stress_marks : (OfHost : Scene → Type 0) (tells : Tells) (count : ℕ) (old new : Scene) (end : Ending) (marks : List Mark) → RunsStress OfHost tells count old new end marks → IsStressUnhindered tells old new → All IsThroughMark marks
stress_marks OfHost tells count old new end marks runs free = λ k d within. through_outcome (get_or marks k d).outcome (λ is. free.no_folder_fault (runs.causes k d within is))

-- What was done for arguments is what each of their forms asks for, since they have one form.
use Rattle.std.proofs.Common.{◌≡◌, inl, inr, ℕ, List, [], subst}
use Rattle.vs_host.specs.World.{Tells, Scene}
use Rattle.vs_machine.specs.declared.command.Mark.{Mark}
use Rattle.vs_top.specs.Forms.{Does, IsBuilt, IsForm, Performs}
use Rattle.vs_top.specs.Promise.{RunsStress}
use Rattle.vs_top.specs.Stress.{IsStress}
use Rattle.vs_top.specs.declared.ending.Ending.{Ending}
use Rattle.vs_top.specs.declared.ending.Ending.TheVariants as ending
use Rattle.vs_top.specs.declared.form.Mode.{Mode}
use Rattle.vs_top.specs.PairPromise.{IsPair, RunsPair}
use Rattle.vs_top.proofs.Forms.{never_usage, performed}
use Rattle.vs_top.proofs.PairForms.{pair_never_usage, pair_no_form, pair_no_stress, same_pair}
use Rattle.vs_top.proofs.StressForms.{never_usage as stress_never_usage, no_form, one_count}

module _ (OfHost : Scene → Type 0) (tells : Tells) (words : List (List ℕ)) (old new : Scene) (end : Ending) (marks : List Mark) where
  pub does_form : (mode : Mode) (name : List ℕ) → Does OfHost tells words old new end marks → IsForm words mode name → Performs mode tells name old new end marks
  does_form mode name (inl form) is = performed tells words form.0 mode form.1 name old new end marks form.2 is form.3
  does_form mode name (inr (inl stress)) is = absurd (no_form words stress.0 mode name stress.1 is)
  does_form mode name (inr (inr (inl pair))) is = absurd (pair_no_form words pair.0 pair.1 mode name pair.2 is)
  does_form mode name (inr (inr (inr none))) is = absurd (none.unbuilt (inl (mode, name, is)))

  pub does_stress : (count : ℕ) → Does OfHost tells words old new end marks → IsStress words count → RunsStress OfHost tells count old new end marks
  does_stress count (inl form) is = absurd (no_form words count form.0 form.1 is form.2)
  does_stress count (inr (inl stress)) is = subst (λ (n : ℕ). RunsStress OfHost tells n old new end marks) (one_count words stress.0 count stress.1 is) stress.2
  does_stress count (inr (inr (inl pair))) is = absurd (pair_no_stress words pair.0 pair.1 count pair.2 is)
  does_stress count (inr (inr (inr none))) is = absurd (none.unbuilt (inr (inl (count, is))))

  pub does_pair : (one two : List ℕ) → Does OfHost tells words old new end marks → IsPair words one two → RunsPair tells one two old new end marks
  does_pair one two (inl form) is = absurd (pair_no_form words one two form.0 form.1 is form.2)
  does_pair one two (inr (inl stress)) is = absurd (pair_no_stress words one two stress.0 is stress.1)
  does_pair one two (inr (inr (inl pair))) is = same_pair tells words pair.0 pair.1 one two old new end marks pair.2 is pair.3
  does_pair one two (inr (inr (inr none))) is = absurd (none.unbuilt (inr (inr (one, two, is))))

  pub does_usage : Does OfHost tells words old new end marks → end ≡ ending.Usage → ¬ IsBuilt words
  does_usage (inl form) is = absurd (never_usage form.0 tells form.1 old new end marks form.3 is)
  does_usage (inr (inl stress)) is = absurd (stress_never_usage OfHost tells stress.0 old new end marks stress.2 is)
  does_usage (inr (inr (inl pair))) is = absurd (pair_never_usage tells pair.0 pair.1 old new end marks pair.3 is)
  does_usage (inr (inr (inr none))) is = none.unbuilt

  pub does_idle : Does OfHost tells words old new end marks → end ≡ ending.Usage → (new ≡ old) × (marks ≡ [])
  does_idle (inl form) is = absurd (never_usage form.0 tells form.1 old new end marks form.3 is)
  does_idle (inr (inl stress)) is = absurd (stress_never_usage OfHost tells stress.0 old new end marks stress.2 is)
  does_idle (inr (inr (inl pair))) is = absurd (pair_never_usage tells pair.0 pair.1 old new end marks pair.3 is)
  does_idle (inr (inr (inr none))) is = (none.idle, none.none)

  pub does_other : Does OfHost tells words old new end marks → ¬ IsBuilt words → end ≡ ending.Usage
  does_other (inl form) unbuilt = absurd (unbuilt (inl (form.0, form.1, form.2)))
  does_other (inr (inl stress)) unbuilt = absurd (unbuilt (inr (inl (stress.0, stress.1))))
  does_other (inr (inr (inl pair))) unbuilt = absurd (unbuilt (inr (inr (pair.0, pair.1, pair.2))))
  does_other (inr (inr (inr none))) unbuilt = none.ended

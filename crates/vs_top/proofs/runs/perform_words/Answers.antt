use Rattle.std.proofs.Common.{inl, inr, refl}
use Rattle.vs_top.proofs.runs.perform_words.Goals as goal

pub returns-in-Some : goal.returns-in-Some
returns-in-Some g c = inr (inl (c.in-Some.count, c.in-Some.ensures.some, rw c.ending_in.ensures c.stress.ensures))

pub returns-in-Some-pair_names : goal.returns-in-Some-pair_names
returns-in-Some-pair_names g c = inr (inr (inl (c.in-Some-pair_names.one.now, c.in-Some-pair_names.two.now, c.in-Some-pair_names.ensures.some, rw c.ending_in-in-Some-pair_names.ensures c.pair.ensures)))

pub returns-in-Some-form_of : goal.returns-in-Some-form_of
returns-in-Some-form_of g c = inl (c.in-Some-form_of.form.mode, c.in-Some-form_of.form.name.now, c.in-Some-form_of.ensures.some, c.perform.ensures)

pub returns-in-None : goal.returns-in-None
returns-in-None g c =
    inr (inr (inr (record {
      unbuilt = λ built. elim built [
        | inl file ↦ c.in-None.ensures.none refl file
        | inr more ↦ elim more [ inl stress ↦ c.in_default.ensures.none refl stress.0 stress.1 | inr pair ↦ c.in_default-pair_names.ensures.none refl pair.0 pair.1 pair.2 ]
      ];
      ended = refl;
      idle = refl;
      none = c.requires.marks;
    })))

-- A history keeps the numbers that its tree keeps.
use Rattle.std.proofs.Common.{◌≡◌, ◌∙◌, ℕ, Option, Some, ap, sym}
use Rattle.vs_undo.specs.declared.parts.Parts.{Parts}
use Rattle.vs_machine.specs.Saved.{saved_after}
use Rattle.vs_machine.proofs.SavedLemmas.{saved-bare}
use Rattle.vs_machine.proofs.saved.saved_after.Goals as goal

pub returns-in-Some-Some-clause-history : goal.returns-in-Some-Some-clause-history
returns-in-Some-Some-clause-history c = λ text past is.
    let nodes = c.args.history.now.nodes in
    let found : c.number_after.result ≡ saved_after c.args.oldest nodes c.args.saved = c.number_after.ensures
    ∙ sym (ap (λ (o : Option ℕ). saved_after o nodes c.args.saved) c.in-Some-Some.is-0 ∙ ap (λ (s : Option ℕ). saved_after (Some c.in-Some-Some.oldest) nodes s) c.in-Some-Some.is-1) in
    found ∙ sym (saved-bare c.args.oldest c.args.saved nodes) ∙ ap (λ (p : Parts). saved_after c.args.oldest p.nodes c.args.saved) is.links

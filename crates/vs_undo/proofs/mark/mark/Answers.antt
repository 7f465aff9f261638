use Rattle.std.proofs.Common.{◌≡◌, ◌<◌, ◌∷◌, map, sym, ap, subst, ◌∙◌, arith}
use Rattle.std.specs.List.Sorted.{IsStrictlyIncreasing}
use Rattle.std.proofs.lemmas.Bool.Decides.{nat_tests}
use Rattle.vs_undo.specs.declared.parts.Node.{Node}
use Rattle.vs_undo.specs.declared.TheConstants.{MAX_SAVE}
use Rattle.vs_undo.specs.History.{next_save, unmarked}
use Rattle.vs_undo.proofs.MarkLemmas.{map-mapped, unmarked_number, unused}
use Rattle.vs_undo.proofs.mark.mark.Goals as goal

pub release-requires : goal.release-requires
release-requires c = λ other k d within is.
    let parts = c.args.parts.now in
    let last = c.requires.saves.last in
    let room : parts.last_save < MAX_SAVE = grind (arith, nat_tests) in
    let save : c.min-save.result ≡ next_save parts = omega arith in
    unused parts c.requires room k d within (is ∙ save)

pub set_save-requires : goal.set_save-requires
set_save-requires c =
    let parts = c.args.parts.now in
    let save = c.min-save.result in
    let same = ap (map (λ (n : Node). n.number)) c.release.ensures ∙ map-mapped (λ (n : Node). n.number) (unmarked save) (unmarked_number save) parts.nodes in
    subst (λ ns. IsStrictlyIncreasing (0 ∷ ns)) (sym same) c.requires.numbers.rising

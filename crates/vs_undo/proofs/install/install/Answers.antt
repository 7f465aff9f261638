use Rattle.std.proofs.Common.{◌≡◌, ◌<◌, ◌++◌, ◌∷◌, [], length, take, get_or, map, sym, ap, subst, ◌∙◌, arith, length-append}
use Rattle.std.proofs.lemmas.List.{take_more, length-take}
use Rattle.std.specs.List.Sorted.{IsStrictlyIncreasing}
use Rattle.vs_undo.specs.declared.parts.Node.{Node}
use Rattle.vs_undo.specs.History.{installed, changed, with_entries}
use Rattle.vs_undo.proofs.ChangeLemmas.{installed-push}
use Rattle.vs_undo.proofs.MoveLemmas.{installed_numbers}
use Rattle.vs_undo.proofs.install.install.Goals as goal

pub set_entries-requires : goal.set_entries-requires
set_entries-requires c =
    let same = ap (map (λ (n : Node). n.number)) c.loop-entries.invariant.nodes ∙ installed_numbers (take c.loop-entries.at c.args.path.now) c.loop-entries.yielded c.args.nodes.now in
    subst (λ ns. IsStrictlyIncreasing (0 ∷ ns)) (sym same) c.requires.rising

pub loop-entries-preserved : goal.loop-entries-preserved
loop-entries-preserved c =
    let path = c.args.path.now in
    let at = c.loop-entries.at in
    let inv = c.loop-entries.invariant in
    let rest = ap length c.in-Some.ensures.steps.0 in
    let within : at < length path = omega (arith, inv.all) in
    let same : length (take at path) ≡ length c.loop-entries.yielded = simp length-take (omega (arith, inv.count)) in
    record {
      count = simp length-append (omega (arith, inv.count));
      all = omega (arith, inv.all);
      nodes =
          c.set_entries.ensures ∙ (ap (changed (get_or path at 0) (with_entries c.in-Some.entries)) inv.nodes ∙ (sym (installed-push (take at path) c.loop-entries.yielded (get_or path at 0) c.in-Some.entries c.args.nodes.now same) ∙ ap (λ p. installed p (c.loop-entries.yielded ++ c.in-Some.entries ∷ []) c.args.nodes.now) (sym (take_more path at 0 within))));
    }

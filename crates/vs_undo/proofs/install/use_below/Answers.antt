use Rattle.std.proofs.Common.{◌≡◌, ◌+◌, ◌∷◌, drop, get_or, map, sym, ap, subst, ◌∙◌}
use Rattle.std.specs.List.Sorted.{IsStrictlyIncreasing}
use Rattle.std.proofs.lemmas.List.{drop_more}
use Rattle.vs_undo.specs.declared.parts.Node.{Node}
use Rattle.vs_undo.specs.declared.parts.Parts.{Parts}
use Rattle.vs_undo.specs.Ways.{start_below}
use Rattle.vs_undo.specs.Meetings.{used_below}
use Rattle.vs_undo.specs.History.{with_child}
use Rattle.vs_undo.proofs.MoveLemmas.{with_child_numbers}
use Rattle.vs_undo.proofs.install.use_below.Goals as goal

pub loop-k-preserved : goal.loop-k-preserved
loop-k-preserved c =
    let way = c.args.way.now in
    let k = c.loop-k.k in
    let parts = c.loop-k.parts in
    let number = get_or way k 0 in
    let rest = drop (k + 1) way in
    let top = c.args.top in
    let set : c.set_child.new.parts ≡ with_child (start_below rest top) number parts = c.set_child.ensures ∙ ap (λ p. with_child p number parts) c.parent_on.ensures in
    record {
      used = ap (used_below rest top) set ∙ (sym (ap (λ w. used_below w top parts) (drop_more way k 0 c.loop-k-test.true)) ∙ c.loop-k.invariant.used);
      rising = subst (λ ns. IsStrictlyIncreasing (0 ∷ ns)) (sym (ap (λ (p : Parts). map (λ (n : Node). n.number) p.nodes) set ∙ with_child_numbers (start_below rest top) number parts)) c.loop-k.invariant.rising;
    }

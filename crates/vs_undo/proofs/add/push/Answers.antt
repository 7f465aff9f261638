use Rattle.std.proofs.Common.{refl, sym, subst}
use Rattle.std.specs.List.Sorted.{IsStrictlyIncreasing}
use Rattle.vs_undo.specs.Numbers.{numbers}
use Rattle.vs_undo.proofs.StayLemmas.{grown_rising}
use Rattle.vs_undo.proofs.add.push.Goals as goal

pub set_child-requires : goal.set_child-requires
set_child-requires c = subst (λ ns. IsStrictlyIncreasing (numbers ns)) (sym c.in_ok-push-2.ensures.ok) (grown_rising c.args.parts.now _ c.requires refl)

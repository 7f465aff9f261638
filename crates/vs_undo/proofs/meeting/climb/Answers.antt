use Rattle.std.proofs.Common.{◌-◌, List, ℕ, length, sym, subst, refl, arith}
use Rattle.std.proofs.lemmas.Bool.Decides.{nat_tests}
use Rattle.vs_undo.specs.Ways.{Follows}
use Rattle.vs_undo.proofs.MeetingLemmas.{met}
use Rattle.vs_undo.proofs.NodeLemmas.{follows_start}
use Rattle.vs_undo.proofs.meeting.climb.Goals as goal

pub climb-init : goal.climb-init
climb-init c =
    let nodes = c.args.nodes.now in
    record {
      from = subst (λ (way : List ℕ). Follows nodes c.args.from way c.args.from (length nodes - length way)) (sym c.new-up.ensures.items) (follows_start nodes c.args.from (length nodes - 0) (omega arith) c.requires.tree c.requires.from);
      to = subst (λ (way : List ℕ). Follows nodes c.args.to way c.args.to (length nodes - length way)) (sym c.new-down.ensures.items) (follows_start nodes c.args.to (length nodes - 0) (omega arith) c.requires.tree c.requires.to);
    }

pub returns : goal.returns
returns c =
    met c.args.nodes.now c.args.from c.args.to _ c.climb.from_at c.climb.to_at _ _ c.requires.tree c.climb.invariant.from c.climb.invariant.to (grind (arith, nat_tests)) refl

use Rattle.std.proofs.Common.{ℕ, List, sym, subst}
use Rattle.std.proofs.lemmas.Result.{IfOk-weaker}
use Rattle.vs_ufile.proofs.Heads.{Stops, heads_are}
use Rattle.vs_ufile.proofs.chains.heads.Goals as goal

pub returns : goal.returns
returns c =
    let before = c.args.before.now in
    let made : Stops before c.in_ok-stopping.stopping.items = record { size = c.in_ok-stopping.ensures.size; each = c.in_ok-stopping.ensures.each } in
    let stops : Stops before c.deref.result.now = subst (λ (xs : List ℕ). Stops before xs) (sym c.deref.ensures.value) made in
    IfOk-weaker c.far.result _ _ (λ far h. heads_are c.args.after.now before c.deref.result.now far.items h.0 c.requires.before c.requires.chains stops h.1 h.2) c.far.ensures

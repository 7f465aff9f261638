-- What follows is the part of the way up to the parent, and the state itself.
use Rattle.std.proofs.Common.{◌≡◌, ◌++◌, ◌∷◌, ◌-◌, ◌≤◌, [], drop, take, sym, ap, ◌∙◌, append_assoc, arith}
use Rattle.vs_outward.proofs.TurnLemmas.{shares_first, way_part}
use Rattle.vs_outward.proofs.turn.from_way.Goals as goal

pub returns-clause-path : goal.returns-clause-path
returns-clause-path c =
    let way = c.args.way.now in
    let path = c.args.path.now in
    let kept = c.min-kept.result in
    let count = c.args.count in
    let last = c.args.number ∷ [] in
    let part = take (count - kept) (drop kept way) in
    let le : kept ≤ count = omega (arith, c.min-kept.ensures) in
    let shared : take kept path ≡ take kept way = shares_first path way c.args.on_way kept c.requires.shares (omega (arith, c.min-kept.ensures)) in
    ap (λ xs. take kept path ++ xs) (c.in_ok-push.ensures.items ∙ ap (λ xs. xs ++ last) c.in_ok-more.ensures.items)
    ∙ (sym (append_assoc (take kept path) part last) ∙ ap (λ xs. xs ++ last) (ap (λ xs. xs ++ part) shared ∙ way_part way kept count le))

-- The path goes on from the way, from where it leads to the parent, or from the start.
use Rattle.std.proofs.Common.{◌≡◌, ◌++◌, ◌∷◌, ◌-◌, ◌≤◌, [], Result, Ok, Err, IfOk, get_or, length, take, sym, ap, subst, ◌∙◌}
use Rattle.vs_undo.specs.Ways.{is_on, IsKept}
use Rattle.vs_outward.specs.declared.turn.Turn.{Turn}
use Rattle.vs_outward.specs.Trails.{IsTurn}
use Rattle.vs_outward.proofs.TurnLemmas.{number_kept, number_there, parent_kept, parent_there, turn_from_path, turn_from_way}
use Rattle.vs_outward.proofs.turn.turn_to.Goals as goal

-- what holds of a turn of which three things are known
of_three : {E : Type 0} {A B C P : Turn → Type 0} (r : Result Turn E) → IfOk r A → IfOk r B → IfOk r C → ((turn : Turn) → A turn → B turn → C turn → P turn) → IfOk r P
of_three (Ok turn) a b c all = all turn a b c
of_three (Err e) a b c all = tt

pub count_to-requires-clause-kept : goal.count_to-requires-clause-kept
count_to-requires-clause-kept c =
    let parts = c.args.parts.now in
    let node = c.index-nodes-place.result in
    let h = c.index-nodes-place.is in
    let nodes_is = c.nodes-nodes.ensures in
    let is : node ≡ get_or parts.nodes c.args.place node = cc in
    subst (λ ns. IsKept ns node.parent) (sym c.nodes-nodes.ensures) (parent_kept parts c.requires.sound c.args.place c.requires.within node is)

pub returns-in-Some : goal.returns-in-Some
returns-in-Some c =
    let parts = c.args.parts.now in
    let way = c.args.way.now.changes.items in
    let path = c.args.search.now.path.items in
    let node = c.index-nodes-place.result in
    let h = c.index-nodes-place.is in
    let nodes_is = c.nodes-nodes.ensures in
    let is : node ≡ get_or parts.nodes c.args.place node = cc in
    let there = number_there parts c.requires.sound c.args.place c.requires.within node is in
    let up = parent_there parts c.requires.sound c.args.place c.requires.within node is in
    let at = c.in-Some.ensures.on in
    let count = c.in-Some.count in
    of_three c.from_way.result c.from_way.ensures.kept c.from_way.ensures.path c.from_way.ensures.on_way
    (λ turn kept more on_way other.
    subst (λ n. IsTurn parts way path n turn) (sym (there other))
    (turn_from_way parts c.requires.sound.tree way c.requires.way path count node.parent node.number turn (ap (λ n. is_on way n) (sym (there node)) ∙ c.requires.off node) up at.0 at.1
    (subst (λ xs. turn.kept ≤ length xs) c.deref-in-Some.ensures.value kept)
    (subst (λ xs. take turn.kept xs ++ turn.more.items ≡ take count way ++ node.number ∷ []) c.deref-in-Some.ensures.value
    (subst (λ xs. take turn.kept c.deref-in-Some.result.now ++ turn.more.items ≡ take count xs ++ node.number ∷ []) c.deref.ensures.value more))
    on_way))

pub returns-then-is_at : goal.returns-then-is_at
returns-then-is_at c =
    let parts = c.args.parts.now in
    let way = c.args.way.now.changes.items in
    let path = c.args.search.now.path.items in
    let node = c.index-nodes-place.result in
    let h = c.index-nodes-place.is in
    let nodes_is = c.nodes-nodes.ensures in
    let is : node ≡ get_or parts.nodes c.args.place node = cc in
    let there = number_there parts c.requires.sound c.args.place c.requires.within node is in
    let up = parent_there parts c.requires.sound c.args.place c.requires.within node is in
    let at = c.is_at.ensures c.if-is_at.true in
    let depth = c.map_or-depth.result in
    of_three c.one_on.result c.one_on.ensures.kept c.one_on.ensures.more c.one_on.ensures.on_way
    (λ turn kept more on_way other.
    subst (λ n. IsTurn parts way path n turn) (sym (there other))
    (turn_from_path parts c.requires.sound.tree way c.requires.way path c.requires.path.outward.0 depth c.args.search.now.on_way node.parent node.number turn
    (ap (λ n. is_on way n) (sym (there node)) ∙ c.requires.off node) up c.requires.path.outward.1 c.requires.path.shares at.0
    (subst (λ xs. depth ≤ length xs) c.deref-2.ensures.value at.1)
    (subst (λ xs. get_or xs (depth - 1) 0 ≡ node.parent) c.deref-2.ensures.value at.2)
    c.in_default.ensures.off.1 kept more on_way))

pub from_start-requires-clause-kept : goal.from_start-requires-clause-kept
from_start-requires-clause-kept c =
    let parts = c.args.parts.now in
    let node = c.index-nodes-place.result in
    let h = c.index-nodes-place.is in
    let nodes_is = c.nodes-nodes.ensures in
    let is : node ≡ get_or parts.nodes c.args.place node = cc in
    number_kept parts c.requires.sound c.args.place c.requires.within node is

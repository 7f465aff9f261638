use Rattle.std.proofs.Common.{◌≡◌, ◌+◌, ◌++◌, ◌∷◌, [], map, take, sym, ap, ◌∙◌}
use Rattle.std.proofs.lemmas.List.{map_push, take_more}
use Rattle.vs_ufile.specs.Values.{change_of}
use Rattle.vs_ufile.specs.Writing.{change_written}
use Rattle.vs_ufile.proofs.Writes.{puts_more}
use Rattle.vs_ufile.proofs.encoding.put_changes.Goals as goal

pub changes-preserved : goal.changes-preserved
changes-preserved c =
    let change = c.change-item.result in
    let changes = c.args.changes.now in
    let i = c.changes.change-index in
    let e : take (i + 1) changes ≡ take i changes ++ change ∷ [] = take_more changes i change c.changes-test.true ∙ ap (λ x. take i changes ++ x ∷ []) (sym c.change-item.is) in
    let m : map change_of (take (i + 1) changes) ≡ map change_of (take i changes) ++ change_of change ∷ [] = ap (map change_of) e ∙ map_push change_of (take i changes) change in
    rw m (puts_more change_written (map change_of (take i changes)) (change_of change) c.args.out.now.items c.changes.out.items c.put_change.new.out.items c.changes.invariant c.in_ok-put_change.ensures)

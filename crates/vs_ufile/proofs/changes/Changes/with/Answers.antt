use Rattle.std.proofs.Common.{◌≡◌, ◌++◌, ◌∷◌, [], Some, suc, length, map, sym, ap, ◌∙◌, subst, arith}
use Rattle.std.proofs.lemmas.List.{length-append, length-map, map_push}
use Rattle.std.specs.BTreeMap.{Updates}
use Rattle.std.specs.Ordering.{nat_cmp}
use Rattle.vs_ufile.specs.Changes.{IsIndex, placed_of}
use Rattle.vs_ufile.specs.Reading.{numbers_of}
use Rattle.vs_ufile.proofs.Index.{index_more}
use Rattle.vs_ufile.proofs.changes.Changes.with.Goals as goal

pub invariant_of-result : goal.invariant_of-result
invariant_of-result c =
    let items = c.args.self.placed.items in
    let old = map placed_of items in
    let e : numbers_of (map placed_of c.push.new.self.items) ≡ numbers_of old ++ c.args.change.change.number ∷ [] =
    rw c.in_ok-push.ensures.items (ap numbers_of (map_push placed_of items c.args.change) ∙ map_push (λ each. each.change.number) old (placed_of c.args.change)) in
    let number = c.args.change.change.number in
    let size : c.len.result ≡ suc (length (numbers_of old)) =
    omega (arith, c.len.ensures, c.push.new.self.ok.0, ap length e, length-append (numbers_of old) (number ∷ []), length-map (map placed_of c.push.new.self.items) (λ each. each.change.number), length-map c.push.new.self.items placed_of) in
    let u = subst (λ n. Updates nat_cmp c.args.self.index c.insert.new.self number (Some n)) size c.in_ok-insert.ensures.updates in
    record { indexed = subst (IsIndex c.insert.new.self) (sym e) (index_more c.args.self.index c.insert.new.self (numbers_of old) number c.args.self.indexed c.requires u) }

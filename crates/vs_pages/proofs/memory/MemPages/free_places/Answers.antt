use Rattle.std.proofs.Common.{◌<◌, ap, arith}
use Rattle.vs_pages.specs.Maps.{numbers, without}
use Rattle.vs_pages.specs.Memory.{kept_of}
use Rattle.vs_pages.proofs.Ends.{begins_before, ends_before}
use Rattle.vs_pages.proofs.Pasts.{one_worked, worked_as}
use Rattle.vs_pages.proofs.Places.{seen_none}
use Rattle.vs_pages.proofs.memory.MemPages.free_places.Goals as goal

pub change-requires-clause-near : goal.change-requires-clause-near
change-requires-clause-near c = λ some. begins_before (kept_of c.args.self.now) c.args.self.now.used c.args.at c.args.pages c.args.self.now.ends c.requires.there (omega (arith, c.in_ok-none.ensures.len, some))

pub change-requires-clause-bound : goal.change-requires-clause-bound
change-requires-clause-bound c = λ some.
    let few : 0 < c.args.pages = omega (arith, c.in_ok-none.ensures.len, some) in
    omega (arith, c.in_ok-none.ensures.len, ends_before c.args.self.now.table.places.items c.args.at c.args.pages c.requires.there few, c.args.self.now.table.bound)

pub add-requires : goal.add-requires
add-requires c = λ some. omega (arith, ends_before c.args.self.now.table.places.items c.args.at c.args.pages c.requires.there some, c.args.self.now.table.bound)

pub returns-clause-ok : goal.returns-clause-ok
returns-clause-ok c =
    let one = c.in_ok-change.ensures.ok in
    worked_as c.args.self.now _ (λ m. without m c.args.at c.args.pages) _ _ (ap (λ n. numbers c.args.at n) c.in_ok-none.ensures.len)
    (one_worked c.args.self.now _ _ _ (λ m. without m c.args.at c.args.pages) (record { change = one.change; changes = one.changes; was = one.was; worked = one.worked; kept = one.kept; commits = one.commits })
    (λ away. seen_none away (kept_of c.args.self.now) c.args.at c.in_ok-none.none.items c.args.pages c.in_ok-none.ensures.len c.in_ok-none.ensures.all))

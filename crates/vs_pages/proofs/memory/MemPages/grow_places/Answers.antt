use Rattle.std.proofs.Common.{ap}
use Rattle.vs_pages.specs.Maps.{numbers, put_pages, zeros}
use Rattle.vs_pages.specs.Memory.{kept_of}
use Rattle.vs_pages.proofs.Pasts.{one_worked, worked_as}
use Rattle.vs_pages.proofs.Places.{seen_zeros}
use Rattle.vs_pages.proofs.memory.MemPages.grow_places.Goals as goal

pub returns-clause-ok : goal.returns-clause-ok
returns-clause-ok c =
    let one = c.in_ok-change.ensures.ok in
    worked_as c.args.self.now _ (λ m. put_pages m c.in_ok-at.at c.args.pages (zeros c.args.pages)) _ _ (ap (λ n. numbers c.in_ok-at.at n) c.in_ok-fresh.ensures.len)
    (one_worked c.args.self.now _ _ _ (λ m. put_pages m c.in_ok-at.at c.args.pages (zeros c.args.pages)) (record { change = one.change; changes = one.changes; was = one.was; worked = one.worked; kept = one.kept; commits = one.commits })
    (λ away. seen_zeros away (kept_of c.args.self.now) c.in_ok-at.at c.in_ok-fresh.fresh.items c.args.pages c.in_ok-fresh.ensures.len c.in_ok-fresh.ensures.all))

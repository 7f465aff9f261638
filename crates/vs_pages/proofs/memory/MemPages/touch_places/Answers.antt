use Rattle.std.proofs.Common.{◌<◌, ap, arith}
use Rattle.std.proofs.lemmas.Result.{on_ok_weaker}
use Rattle.vs_pages.specs.Maps.{numbers, put_pages}
use Rattle.vs_pages.specs.Memory.{kept_of}
use Rattle.vs_pages.proofs.Ends.{begins_before, ends_before}
use Rattle.vs_pages.proofs.Pasts.{one_worked, worked_as}
use Rattle.vs_pages.proofs.Places.{seen_cut}
use Rattle.vs_pages.proofs.memory.MemPages.touch_places.Goals as goal

pub change-requires-clause-near : goal.change-requires-clause-near
change-requires-clause-near c = λ some. begins_before (kept_of c.args.self.now) c.args.self.now.used c.args.at c.args.pages c.args.self.now.ends c.requires.there (omega (arith, c.in_ok-fresh.ensures.len, some))

pub change-requires-clause-bound : goal.change-requires-clause-bound
change-requires-clause-bound c = λ some.
    let few : 0 < c.args.pages = omega (arith, c.in_ok-fresh.ensures.len, some) in
    omega (arith, c.in_ok-fresh.ensures.len, ends_before c.args.self.now.table.places.items c.args.at c.args.pages c.requires.there few, c.args.self.now.table.bound)

pub returns-clause-ok : goal.returns-clause-ok
returns-clause-ok c = on_ok_weaker c.change.result (λ one.
    worked_as c.args.self.now c.change.new.self (λ m. put_pages m c.args.at c.args.pages c.args.bytes.now) _ _ (ap (λ n. numbers c.args.at n) c.in_ok-fresh.ensures.len)
    (one_worked c.args.self.now c.change.new.self _ _ (λ m. put_pages m c.args.at c.args.pages c.args.bytes.now) one
    (λ away. seen_cut away (kept_of c.args.self.now) c.args.at c.in_ok-fresh.fresh.items c.args.pages c.args.bytes.now c.in_ok-fresh.ensures.len c.in_ok-fresh.ensures.pages))) c.change.ensures.ok

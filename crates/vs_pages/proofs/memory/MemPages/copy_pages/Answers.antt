use Rattle.std.proofs.Common.{◌≡◌, ◌+◌, ◌-◌, None, Some, IsSome, is_some, false, sym, ap, ◌∙◌, arith}
use Rattle.vs_pages.specs.Maps.{joined, pages_at}
use Rattle.vs_pages.specs.Memory.{kept_of, present_of}
use Rattle.vs_pages.proofs.CellLemmas.{shown_there}
use Rattle.vs_pages.proofs.Runs.{next-read, rest-read}
use Rattle.vs_pages.proofs.TableLemmas.{cells_of-within}
use Rattle.vs_pages.proofs.memory.MemPages.copy_pages.Goals as goal

pub overflow_add-at : goal.overflow_add-at
overflow_add-at c =
    let at = c.args.at + c.loop-i.i in
    let there : IsSome (present_of c.args.self.now at) = next-read (present_of c.args.self.now) c.args.at c.loop-i.i c.args.pages c.loop-i.into.items c.loop-i-test.true c.loop-i.invariant c.requires in
    omega (arith, cells_of-within c.args.self.now.table.places.items at (shown_there None (kept_of c.args.self.now at) there), c.args.self.now.table.bound)

pub unreachable-requires : goal.unreachable-requires
unreachable-requires c =
    let there : IsSome (present_of c.args.self.now (c.args.at + c.loop-i.i)) = next-read (present_of c.args.self.now) c.args.at c.loop-i.i c.args.pages c.loop-i.into.items c.loop-i-test.true c.loop-i.invariant c.requires in
    let none : is_some (present_of c.args.self.now (c.args.at + c.loop-i.i)) ≡ false = ap (λ o. is_some o) (sym c.in_default.ensures.page) in
    cc

pub loop-i-preserved : goal.loop-i-preserved
loop-i-preserved c =
    let page = c.in-Some.bytes.now in
    let is : present_of c.args.self.now (c.args.at + c.loop-i.i) ≡ Some page = sym c.in-Some.ensures.page in
    ap (λ read. joined (Some read) (pages_at (present_of c.args.self.now) (c.args.at + (c.loop-i.i + 1)) (c.args.pages - (c.loop-i.i + 1)))) c.in_ok-extend_from_slice.ensures.items
    ∙ rest-read (present_of c.args.self.now) c.args.at c.loop-i.i c.args.pages c.loop-i.into.items page (pages_at (present_of c.args.self.now) c.args.at c.args.pages) c.loop-i-test.true is c.loop-i.invariant

use Rattle.std.proofs.Common.{◌≡◌, [], ℕ, List, Option, Some, None, false, length, ap, sym, subst, ◌∙◌, arith}
use Rattle.std.specs.List.{All}
use Rattle.std.proofs.lemmas.Result.{on_ok_weaker}
use Rattle.std.proofs.lemmas.List.Elements.{All-cons, All-nil}
use Rattle.vs_bytes.specs.Fields.{with_field}
use Rattle.vs_pages.specs.Cells.{Blank, Cell, is_away, shown}
use Rattle.vs_pages.specs.Maps.{numbers, patched, put, zeros}
use Rattle.vs_pages.specs.Memory.{kept_of, present_under}
use Rattle.vs_pages.specs.Table.{cell_of}
use Rattle.vs_pages.specs.declared.page.Page.{Page}
use Rattle.vs_pages.proofs.CellLemmas.{seen_rewritten, shown_here}
use Rattle.vs_pages.proofs.Ends.{before_end}
use Rattle.vs_pages.proofs.Pasts.{one_worked, worked_as}
use Rattle.vs_pages.proofs.Places.{seen_first}
use Rattle.vs_pages.proofs.TableLemmas.{cells_of-within}
use Rattle.vs_pages.proofs.memory.MemPages.patch_place.Goals as goal

pub change-requires-clause-near : goal.change-requires-clause-near
change-requires-clause-near c = λ some. omega (arith, before_end (kept_of c.args.self.now) c.args.self.now.used c.args.at c.args.self.now.ends c.requires.there)

pub change-requires-clause-bound : goal.change-requires-clause-bound
change-requires-clause-bound c = λ some.
    omega (arith, ap (λ ps. length ps) c.in_ok-fresh.ensures, cells_of-within c.args.self.now.table.places.items c.args.at c.requires.there, c.args.self.now.table.bound)

pub change-requires-clause-here : goal.change-requires-clause-here
change-requires-clause-here c = subst (λ (ps : List (Option Page)). All (λ place. is_away (cell_of place) ≡ false) ps) (sym c.in_ok-fresh.ensures)
    (All-cons (λ place. is_away (cell_of place) ≡ false) _ [] (ap (λ (cell : Option Cell). is_away cell) c.in_ok-page.ensures) (All-nil (λ place. is_away (cell_of place) ≡ false)))

pub change_bytes-requires-clause-written : goal.change_bytes-requires-clause-written
change_bytes-requires-clause-written c = c.is_written.ensures.written c.if-is_written.true

pub returns-then-is_written-clause-ok : goal.returns-then-is_written-clause-ok
returns-then-is_written-clause-ok c = on_ok_weaker c.change_bytes.result (λ one.
    one_worked c.args.self.now c.change_bytes.new.self _ _ (λ m. put m c.args.at (patched (m c.args.at) c.args.from c.args.bytes.now)) one
    (λ away. seen_rewritten away (kept_of c.args.self.now) c.args.at c.args.from c.args.bytes.now (c.is_written.ensures.written c.if-is_written.true))) c.change_bytes.ensures.ok

pub returns-clause-ok : goal.returns-clause-ok
returns-clause-ok c =
    let bytes : List ℕ = with_field (zeros 1) c.args.from c.args.bytes.now in
    let kept : kept_of c.args.self.now c.args.at ≡ Some Blank = c.is_written.ensures.zeros c.if-is_written.false (shown_here None (kept_of c.args.self.now c.args.at) c.requires.there c.requires.here) in
    on_ok_weaker c.change.result (λ one.
    worked_as c.args.self.now c.change.new.self (λ m. put m c.args.at (patched (m c.args.at) c.args.from c.args.bytes.now)) _ _ (ap (λ ps. numbers c.args.at (length ps)) c.in_ok-fresh.ensures)
    (one_worked c.args.self.now c.change.new.self _ _ (λ m. put m c.args.at (patched (m c.args.at) c.args.from c.args.bytes.now)) one
    (λ away. seen_first away (kept_of c.args.self.now) c.args.at c.in_ok-fresh.fresh.items _ bytes c.in_ok-fresh.ensures c.in_ok-page.ensures
    ∙ ap (λ (v : Option Cell). put (present_under away c.args.self.now) c.args.at (patched (shown (away c.args.at) v) c.args.from c.args.bytes.now)) (sym kept)))) c.change.ensures.ok

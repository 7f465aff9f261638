use Rattle.std.proofs.Common.{◌≡◌, [], List, Option, Some, false, length, ap, sym, refl, subst, arith}
use Rattle.std.specs.List.{All}
use Rattle.std.proofs.lemmas.Result.{on_ok_weaker}
use Rattle.std.proofs.lemmas.List.Elements.{All-cons, All-nil}
use Rattle.vs_pages.specs.Cells.{is_away}
use Rattle.vs_pages.specs.Maps.{numbers, put}
use Rattle.vs_pages.specs.Memory.{kept_of}
use Rattle.vs_pages.specs.Table.{cell_of}
use Rattle.vs_pages.specs.declared.page.Page.{Page}
use Rattle.vs_pages.proofs.Ends.{before_end}
use Rattle.vs_pages.proofs.Pasts.{one_worked, worked_as}
use Rattle.vs_pages.proofs.Places.{seen_first}
use Rattle.vs_pages.proofs.TableLemmas.{cells_of-within}
use Rattle.vs_pages.proofs.memory.MemPages.put_place.Goals as goal

pub change-requires-clause-near : goal.change-requires-clause-near
change-requires-clause-near c = λ some. omega (arith, before_end (kept_of c.args.self.now) c.args.self.now.used c.args.at c.args.self.now.ends c.requires.there)

pub change-requires-clause-bound : goal.change-requires-clause-bound
change-requires-clause-bound c = λ some.
    omega (arith, ap (λ ps. length ps) c.in_ok-fresh.ensures, cells_of-within c.args.self.now.table.places.items c.args.at c.requires.there, c.args.self.now.table.bound)

pub change-requires-clause-here : goal.change-requires-clause-here
change-requires-clause-here c = subst (λ (ps : List (Option Page)). All (λ place. is_away (cell_of place) ≡ false) ps) (sym c.in_ok-fresh.ensures)
    (All-cons (λ place. is_away (cell_of place) ≡ false) _ [] refl (All-nil (λ place. is_away (cell_of place) ≡ false)))

pub returns-clause-ok : goal.returns-clause-ok
returns-clause-ok c = on_ok_weaker c.change.result (λ one.
    worked_as c.args.self.now c.change.new.self (λ m. put m c.args.at (Some c.args.bytes.items)) _ _ (ap (λ ps. numbers c.args.at (length ps)) c.in_ok-fresh.ensures)
    (one_worked c.args.self.now c.change.new.self _ _ (λ m. put m c.args.at (Some c.args.bytes.items)) one
    (λ away. seen_first away (kept_of c.args.self.now) c.args.at c.in_ok-fresh.fresh.items _ c.args.bytes.items c.in_ok-fresh.ensures refl))) c.change.ensures.ok

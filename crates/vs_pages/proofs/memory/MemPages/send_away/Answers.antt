use Rattle.std.proofs.Common.{List, Option, is_some, length, sym, ap, subst}
use Rattle.std.proofs.lemmas.Option.{IfSome_then}
use Rattle.vs_pages.specs.Cells.{Cell}
use Rattle.vs_pages.specs.Table.{cells_of}
use Rattle.vs_pages.specs.History.{CanUndoAll, EachHasNoGap}
use Rattle.vs_pages.specs.Memory.{kept_of}
use Rattle.vs_pages.specs.declared.change.Change.{Change}
use Rattle.vs_pages.proofs.Sights.{end_there, sent_there}
use Rattle.vs_pages.proofs.memory.MemPages.send_away.Goals as goal

pub invariant_of-self-clause-undo : goal.invariant_of-self-clause-undo
invariant_of-self-clause-undo c = subst (λ (cs : List Change). CanUndoAll (cells_of c.send_away.new.self.places.items) (length c.send_away.new.self.places.items) cs) (sym (c.is_changed.ensures c.if-is_changed.false)) tt

pub invariant_of-self-clause-no_gaps : goal.invariant_of-self-clause-no_gaps
invariant_of-self-clause-no_gaps c = subst (λ (cs : List Change). EachHasNoGap (cells_of c.send_away.new.self.places.items) cs) (sym (c.is_changed.ensures c.if-is_changed.false)) tt

pub invariant_of-self-clause-ends : goal.invariant_of-self-clause-ends
invariant_of-self-clause-ends c =
    end_there (kept_of c.args.self.now) _ c.args.self.now.used
    (sent_there c.send_away.result c.args.self.now.table _ c.args.at c.send_away.ensures.none
    (IfSome_then c.send_away.result c.send_away.ensures.was (λ bytes is. ap (λ (cell : Option Cell). is_some cell) is)) c.send_away.ensures.cells)
    c.args.self.now.ends

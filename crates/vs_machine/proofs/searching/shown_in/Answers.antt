-- What is shown at the lines that were found.
use Rattle.std.proofs.Common.{ℕ, List, sym, subst}
use Rattle.std.proofs.lemmas.Result.{IfErr-weaker, IfOk-weaker}
use Rattle.vs_global.specs.Carry.{AreMarked}
use Rattle.vs_global.specs.Global.{marked_by}
use Rattle.vs_machine.proofs.ShowingLemmas.{marked-refused, shown-marked}
use Rattle.vs_machine.proofs.searching.shown_in.Goals as goal
use Rattle.vs_machine.proofs.searching.shown_in.Goals.{After-drop-taken}

-- the lines that were found, as they are handed over
found : (g : _) (c : After-drop-taken g) → (text : List (List ℕ)) → (g.S.LineStore.shows c.args.store.now).present.Is text
    → AreMarked (marked_by c.args.search.now.range c.args.search.now.invert c.args.search.now.pattern.now text c.args.cursor) text c.deref.result.now
found g c text has = subst (λ (lines : List ℕ). AreMarked (marked_by c.args.search.now.range c.args.search.now.invert c.args.search.now.pattern.now text c.args.cursor) text lines)
    (sym c.deref.ensures.value) (c.in_ok-taken.ensures.marked text has)

pub returns-clause-shown : goal.returns-clause-shown
returns-clause-shown g c = IfOk-weaker c.shown_at.result _ _
    (λ output was text has.
    let sought = c.args.search.now in
    let read = c.in_ok-taken.ensures.kept.present in
    shown-marked g.S.LineStore c.args.store.now c.marked_lines.new.view c.args.showing text (marked_by sought.range sought.invert sought.pattern.now text c.args.cursor) c.deref.result.now
    (g.S.LineStore.shows c.marked_lines.new.view).present.lines c.args.cursor output read (found g c text has) (sym (g.met.S.LineStore.has_lines c.marked_lines.new.view text (read.text text has))) was)
    c.shown_at.ensures.shown

pub returns-clause-refused : goal.returns-clause-refused
returns-clause-refused g c = IfErr-weaker c.shown_at.result _ _
    (λ e is text has.
    let sought = c.args.search.now in
    let read = c.in_ok-taken.ensures.kept.present in
    marked-refused c.args.showing text (marked_by sought.range sought.invert sought.pattern.now text c.args.cursor) c.deref.result.now
    (g.S.LineStore.shows c.marked_lines.new.view).present.lines e (found g c text has) (sym (g.met.S.LineStore.has_lines c.marked_lines.new.view text (read.text text has))) is)
    c.shown_at.ensures.refused

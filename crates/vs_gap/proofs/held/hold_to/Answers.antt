-- The lines after the last one are read.
use Rattle.std.proofs.Common.{◌∙◌, ◌+◌, ℕ, List, ap, arith, refl, subst, sym}
use Rattle.std.proofs.lemmas.List.Elements.{All-drop, All-take}
use Rattle.vs_text.specs.Text.{IsLine, IsText}
use Rattle.vs_edit.specs.Splices.{cut_out}
use Rattle.vs_reads.proofs.ReadLemmas.{copied-text}
use Rattle.vs_gap.specs.declared.held.Held.{Held}
use Rattle.vs_gap.specs.Held.{HoldsMore}
use Rattle.vs_gap.proofs.AheadLemmas.{same-lines}
use Rattle.vs_gap.proofs.HeldLemmas.{more-back, more-none}
use Rattle.vs_gap.proofs.held.hold_to.Goals as goal

pub returns-in_err-append-clause-more : goal.returns-in_err-append-clause-more
returns-in_err-append-clause-more g c =
    let below = (g.S.LineStore.shows c.args.below.now).present in
    let old = c.args.held.now in
    subst (λ (lines : List (List ℕ)). HoldsMore below old (record old { lines = lines })) (sym c.in_err-append.ensures.err) (more-none below old c.requires.within)

pub returns-clause-more : goal.returns-clause-more
returns-clause-more g c =
    let law = g.met.S.LineStore in
    let old = c.args.held.now in
    let count = c.min-count.result in
    let read = c.in_ok-copy_lines.ensures in
    let holds = read.are_lines in
    let next = old.top + old.replaced in
    let new : Held = record { top = old.top; replaced = old.replaced + count; lines = c.append.new.self; bytes = old.bytes } in
    more-back (g.S.LineStore.shows c.args.below.now).present old new holds.lines count (omega arith) refl refl refl
    (c.in_ok-append.ensures.ok holds.lines holds.is_text (c.deref.ensures.value ∙ holds.form)) holds.counted holds.short_lines
    (λ text has. same-lines holds.lines (cut_out text next count) holds.is_text (copied-text text next count (law.has_text c.args.below.now text c.requires.valid has))
    (sym holds.form ∙ read.lines text has))

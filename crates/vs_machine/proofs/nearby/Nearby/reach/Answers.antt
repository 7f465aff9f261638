-- The lines after the last one are read.
use Rattle.std.proofs.Common.{◌≡◌, ◌∙◌, ◌+◌, ◌++◌, List, ℕ, arith, ap, length, subst, sym}
use Rattle.vs_edit.specs.Splices.{cut_out}
use Rattle.vs_reads.proofs.ReadLemmas.{copied-text}
use Rattle.vs_gap.proofs.AheadLemmas.{same-lines}
use Rattle.vs_machine.proofs.NearbyLemmas.{more-are}
use Rattle.vs_machine.proofs.nearby.Nearby.reach.Goals as goal

pub returns-clause-lines : goal.returns-clause-lines
returns-clause-lines g c = λ text has are.
    let read = c.in_ok-copy_lines.ensures in
    let holds = read.are_lines in
    let had = c.seat.new.self in
    let next = c.args.top + c.len-held.result in
    let count = c.min-more.result in
    let is_text = copied-text text next count (g.met.S.LineStore.has_text c.args.store.now text c.requires.valid has) in
    let more = same-lines holds.lines (cut_out text next count) holds.is_text is_text (sym holds.form ∙ read.lines text has) in
    let put : c.append.new.self ≡ had.lines ++ holds.lines = c.in_ok-append.ensures.ok holds.lines holds.is_text (c.deref.ensures.value ∙ holds.form) in
    subst (λ (lines : List (List ℕ)). lines ≡ cut_out text had.top (length lines)) (sym put)
    (more-are text had.lines had.top (c.seat.ensures.lines text are) holds.lines next (omega (arith, c.seat.ensures.top, c.len-held.ensures))
    (more ∙ ap (λ n. cut_out text next n) (sym holds.counted)))

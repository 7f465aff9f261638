-- The gap is where the old lines begin: they are the first ones after it.
use Rattle.std.proofs.Common.{◌∙◌, ◌-◌, ◌^◌, ◌++◌, ℕ, List, ap, arith, length, length-append, min, sym, take}
use Rattle.vs_edit.specs.Splices.{cut_out, splice}
use Rattle.vs_text.specs.Text.{bytes_of}
use Rattle.vs_gap.proofs.GapLemmas.{exchanged, gone}
use Rattle.vs_gap.proofs.gap.exchange.Goals as goal

pub take_away-requires : goal.take_away-requires
take_away-requires c =
    let moved = c.move_gap.new in
    let same = ap (λ (xs : List (List ℕ)). length xs) c.in_ok-move_gap.ensures.lines in
    omega (
      arith,
      same,
      c.requires,
      c.in_ok-move_gap.ensures.place,
      length-append moved.before.items moved.after.items,
      length-append c.args.before.now.items c.args.after.now.items,
    )

pub returns-clause-lines : goal.returns-clause-lines
returns-clause-lines c =
    let moved = c.move_gap.new in
    let new = c.args.new.items in
    ap (λ (xs : List (List ℕ)). xs ++ c.take_away.new.lines.items) (c.in_ok-append.ensures.items ∙ ap (λ (xs : List (List ℕ)). moved.before.items ++ xs) c.from.ensures.0)
    ∙ ap (λ (xs : List (List ℕ)). (moved.before.items ++ new) ++ xs) c.take_away.ensures.rest
    ∙ exchanged moved.before.items moved.after.items new c.args.at c.args.old c.in_ok-move_gap.ensures.place
    ∙ ap (λ (xs : List (List ℕ)). splice xs c.args.at c.args.old new) c.in_ok-move_gap.ensures.lines

pub returns-clause-gone : goal.returns-clause-gone
returns-clause-gone c =
    let moved = c.move_gap.new in
    c.take_away.ensures.bytes
    ∙ ap (λ (lines : List (List ℕ)). min (bytes_of lines) (2 ^ 64 - 1))
    (sym (gone moved.before.items moved.after.items c.args.at c.args.old c.in_ok-move_gap.ensures.place)
    ∙ ap (λ (xs : List (List ℕ)). cut_out xs c.args.at c.args.old) c.in_ok-move_gap.ensures.lines)

-- The change lies before the last gap, or after the first.
use Rattle.std.proofs.Common.{◌≡◌, ◌∙◌, ◌+◌, ◌-◌, ◌≤◌, ◌^◌, ◌++◌, ℕ, List, append_assoc, ap, arith, length, length-append, min, sym}
use Rattle.std.proofs.lemmas.Result.{IfOk-weaker, on_err_weaker, on_ok_weaker}
use Rattle.vs_edit.specs.Splices.{cut_out, splice}
use Rattle.vs_text.specs.Text.{bytes_of}
use Rattle.vs_gap.proofs.GapLemmas.{cut-first, cut-last, last-within, on_err, splice-first, splice-last, whole}
use Rattle.vs_gap.proofs.gap.GapLines.splice.Goals as goal

pub returns-then-is_at_first-clause-lines : goal.returns-then-is_at_first-clause-lines
returns-then-is_at_first-clause-lines c =
    let was = c.self.inside in
    let front = was.before.items ++ was.between.items in
    let new = c.args.new.items in
    let within : c.args.at + c.args.old ≤ length front = omega (arith, c.is_at_first.ensures c.if-is_at_first.true, length-append was.before.items was.between.items) in
    on_ok_weaker c.exchange.result
    (λ lines. ap (λ (xs : List (List ℕ)). xs ++ was.after.items) lines ∙ splice-first front was.after.items new c.args.at c.args.old within
    ∙ ap (λ (xs : List (List ℕ)). splice xs c.args.at c.args.old new) c.self.view_is)
    c.exchange.ensures.lines

pub returns-then-is_at_first-clause-gone : goal.returns-then-is_at_first-clause-gone
returns-then-is_at_first-clause-gone c =
    let was = c.self.inside in
    let front = was.before.items ++ was.between.items in
    let within : c.args.at + c.args.old ≤ length front = omega (arith, c.is_at_first.ensures c.if-is_at_first.true, length-append was.before.items was.between.items) in
    IfOk-weaker c.exchange.result _ _
    (λ gone is. is ∙ ap (λ (xs : List (List ℕ)). min (bytes_of xs) (2 ^ 64 - 1))
    (sym (cut-first front was.after.items c.args.at c.args.old within) ∙ ap (λ (xs : List (List ℕ)). cut_out xs c.args.at c.args.old) c.self.view_is))
    c.exchange.ensures.gone

pub exchange-requires-2 : goal.exchange-requires-2
exchange-requires-2 c =
    let was = c.self.inside in
    let lowered = c.lower.new in
    omega (
      arith,
      c.len-3.ensures,
      last-within was.before.items was.between.items was.after.items lowered.before.items lowered.after.items c.args.at c.args.old
          c.in_ok-lower.ensures.lines c.in_ok-lower.ensures.left (omega (arith, c.requires, ap (λ (xs : List (List ℕ)). length xs) c.self.view_is)),
    )

pub returns-clause-lines : goal.returns-clause-lines
returns-clause-lines c =
    let was = c.self.inside in
    let lowered = c.lower.new in
    let front = lowered.before.items in
    let rest = lowered.after.items ++ was.after.items in
    let new = c.args.new.items in
    let past = c.args.at - c.len-3.result in
    let place : c.args.at ≡ length front + past = omega (arith, c.in_ok-lower.ensures.left, c.len-3.ensures) in
    let within : past + c.args.old ≤ length rest =
    omega (
      arith,
      place,
      length-append lowered.after.items was.after.items,
      last-within was.before.items was.between.items was.after.items front lowered.after.items c.args.at c.args.old
          c.in_ok-lower.ensures.lines c.in_ok-lower.ensures.left (omega (arith, c.requires, ap (λ (xs : List (List ℕ)). length xs) c.self.view_is)),
    ) in
    on_ok_weaker c.exchange-2.result
    (λ lines. append_assoc front c.exchange-2.new.before.items c.exchange-2.new.after.items ∙ ap (λ (xs : List (List ℕ)). front ++ xs) lines
    ∙ splice-last front rest new c.args.at past c.args.old place within
    ∙ ap (λ (xs : List (List ℕ)). splice xs c.args.at c.args.old new)
    (whole was.before.items was.between.items was.after.items front lowered.after.items c.in_ok-lower.ensures.lines ∙ c.self.view_is))
    c.exchange-2.ensures.lines

pub returns-clause-gone : goal.returns-clause-gone
returns-clause-gone c =
    let was = c.self.inside in
    let lowered = c.lower.new in
    let front = lowered.before.items in
    let rest = lowered.after.items ++ was.after.items in
    let past = c.args.at - c.len-3.result in
    let place : c.args.at ≡ length front + past = omega (arith, c.in_ok-lower.ensures.left, c.len-3.ensures) in
    IfOk-weaker c.exchange-2.result _ _
    (λ gone is. is ∙ ap (λ (xs : List (List ℕ)). min (bytes_of xs) (2 ^ 64 - 1))
    (sym (cut-last front rest c.args.at past c.args.old place)
    ∙ ap (λ (xs : List (List ℕ)). cut_out xs c.args.at c.args.old)
    (whole was.before.items was.between.items was.after.items front lowered.after.items c.in_ok-lower.ensures.lines ∙ c.self.view_is)))
    c.exchange-2.ensures.gone

pub returns-then-is_at_first-clause-err : goal.returns-then-is_at_first-clause-err
returns-then-is_at_first-clause-err c =
    on_err_weaker c.exchange.result (λ same. ap (λ (xs : List (List ℕ)). xs ++ c.self.inside.after.items) same ∙ c.self.view_is) c.exchange.ensures.err

pub returns-in_err-lower-clause-err : goal.returns-in_err-lower-clause-err
returns-in_err-lower-clause-err c =
    on_err c.from_residual.result (ap (λ (xs : List (List ℕ)). xs ++ c.self.inside.after.items) c.lower.ensures.lines ∙ c.self.view_is)

pub returns-clause-err : goal.returns-clause-err
returns-clause-err c =
    let was = c.self.inside in
    let lowered = c.lower.new in
    let front = lowered.before.items in
    on_err_weaker c.exchange-2.result
    (λ same. append_assoc front c.exchange-2.new.before.items c.exchange-2.new.after.items ∙ ap (λ (xs : List (List ℕ)). front ++ xs) same
    ∙ whole was.before.items was.between.items was.after.items front lowered.after.items c.in_ok-lower.ensures.lines ∙ c.self.view_is)
    c.exchange-2.ensures.err

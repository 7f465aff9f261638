-- Each turn reads one line more.
use Rattle.std.proofs.Common.{◌+◌, ◌<◌, ◌++◌, ◌∷◌, [], ◌∙◌, ℕ, List, arith, ap, sym, take, length, length-append}
use Rattle.std.proofs.lemmas.List.{take_all, take_more}
use Rattle.vs_edit.proofs.Steps.{OnlyReads-trans}
use Rattle.vs_edit.proofs.generic.text_of.Goals as goal

pub loop-at-preserved : goal.loop-at-preserved
loop-at-preserved g c =
    let law = g.met.S.LineStore in
    let before = c.loop-at.invariant in
    let read = c.in_ok-line.ensures in
    let at : ℕ = c.loop-at.at in
    let line : List ℕ = c.from_vec.result in
    record {
      text = λ text has.
          let below : at < length text = omega (arith, law.has_lines c.args.store.now text has, c.len-at-end.ensures, c.loop-at-test.true) in
          c.in_ok-push.ensures.items ∙ ap (λ lines. lines ++ line ∷ []) (before.text text has)
          ∙ ap (λ read_line. take at text ++ read_line ∷ []) (c.from_vec.ensures ∙ read.line text (before.kept.present.text text has)) ∙ sym (take_more text at [] below);
      count = omega (arith, before.count, ap length c.in_ok-push.ensures.items, length-append c.loop-at.lines.items (line ∷ []));
      kept = OnlyReads-trans law.stays_on before.kept read.kept;
      faults = read.cause.none (λ failed. absurd (cc)) ∙ before.faults;
    }

pub returns-in_err-line-clause-kept : goal.returns-in_err-line-clause-kept
returns-in_err-line-clause-kept g c = OnlyReads-trans g.met.S.LineStore.stays_on c.loop-at.invariant.kept c.line.ensures.kept

pub returns-in_err-push-clause-kept : goal.returns-in_err-push-clause-kept
returns-in_err-push-clause-kept g c = OnlyReads-trans g.met.S.LineStore.stays_on c.loop-at.invariant.kept c.in_ok-line.ensures.kept

pub returns-clause-text : goal.returns-clause-text
returns-clause-text g c = λ text has.
    c.of.ensures ∙ c.loop-at.invariant.text text has ∙ take_all c.loop-at.at text (omega (arith, g.met.S.LineStore.has_lines c.args.store.now text has, c.len-at-end.ensures, c.loop-at-test.false))

pub returns-clause-lines : goal.returns-clause-lines
returns-clause-lines g c = omega (arith, ap length c.of.ensures, c.loop-at.invariant.count, c.len-at-end.ensures, c.loop-at-test.false, c.loop-at.auto.at-end)

pub returns-clause-kept : goal.returns-clause-kept
returns-clause-kept g c = c.loop-at.invariant.kept

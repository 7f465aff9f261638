-- The lines that are passed lack the text, and the next one has it.
use Rattle.std.proofs.Common.{◌≡◌, ◌≤◌, ◌<◌, ◌+◌, ◌-◌, ◌++◌, ◌∙◌, ℕ, List, arith, ap, length, not, replicate, subst, sym, ⊎_elim}
use Rattle.std.proofs.lemmas.Bool.{cases_lt, false≢true}
use Rattle.std.proofs.lemmas.Result.{on_ok_weaker}
use Rattle.vs_edit.proofs.Steps.{OnlyReads-trans}
use Rattle.vs_global.specs.Global.{places}
use Rattle.vs_global.specs.Taking.{TakesAll, TakesSome}
use Rattle.vs_global.proofs.MarkingLemmas.{match-taken, passed-taken, some-pushed}
use Rattle.vs_global.proofs.marking.take_next.Goals as goal

pub returns-then-is_done-clause-taken : goal.returns-then-is_done-clause-taken
returns-then-is_done-clause-taken g c = λ text has copied.
    let law = g.met.S.LineStore in
    let pass = c.in_ok-pass_unmatched.ensures in
    let reader = c.args.reader.now in
    let to = c.pass_unmatched.new.self.at in
    let had = c.args.taken.now.items in
    let invert = c.args.invert in
    let put = c.in_ok-push_numbers.ensures ∙ ap (λ k. had ++ places k (replicate (c.next-to.result - k) invert)) c.next-from.ensures
    ∙ ap (λ k. had ++ places reader.at (replicate (k - reader.at) invert)) c.next-to.ensures in
    passed-taken invert c.args.finder.now text reader.at to reader.end had c.push_numbers.new.taken.items pass.later (omega (arith, pass.stops, pass.at.end_is))
    (omega (arith, law.has_lines c.args.view.now text has, c.requires.within)) (pass.passed text has copied) put

pub returns-clause-taken : goal.returns-clause-taken
returns-clause-taken g c = on_ok_weaker c.advance.result (λ at. λ text has copied.
    let law = g.met.S.LineStore in
    let pass = c.in_ok-pass_unmatched.ensures in
    let reader = c.args.reader.now in
    let to = c.pass_unmatched.new.self.at in
    let needle = c.args.finder.now in
    let had = c.args.taken.now.items in
    let first = c.push_numbers.new.taken.items in
    let second = c.push_numbers-2.new.taken.items in
    let invert = c.args.invert in
    let put = c.in_ok-push_numbers.ensures ∙ ap (λ k. had ++ places k (replicate (c.next-to.result - k) invert)) c.next-from.ensures
    ∙ ap (λ k. had ++ places reader.at (replicate (k - reader.at) invert)) c.next-to.ensures in
    let more = c.in_ok-push_numbers-2.ensures ∙ ap (λ k. first ++ places k (replicate (k + 1 - k) (not invert))) c.next-to.ensures in
    let within : reader.end ≤ length text = omega (arith, law.has_lines c.args.view.now text has, c.requires.within) in
    let below : to < reader.end =
    ⊎_elim (λ (early : to < reader.end). early)
    (λ (late : reader.end ≤ to). absurd (false≢true (sym c.if-is_done.false ∙ c.is_done.ensures.1 (omega (arith, late, pass.at.end_is))))) (cases_lt to reader.end) in
    let passed = passed-taken invert needle text reader.at to reader.end had first pass.later (omega (arith, below)) within (pass.passed text has copied) put in
    subst (λ k. TakesAll invert needle text reader.at k had second) (sym at.at_is)
    (match-taken invert needle text reader.at to reader.end had first second pass.later below within c.requires.some (pass.passed text has copied) passed more)) c.advance.ensures.at

pub returns-clause-some : goal.returns-clause-some
returns-clause-some g c = on_ok_weaker c.advance.result (λ at.
    let reader = c.args.reader.now in
    let to = c.pass_unmatched.new.self.at in
    let had = c.args.taken.now.items in
    let first = c.push_numbers.new.taken.items in
    let second = c.push_numbers-2.new.taken.items in
    let invert = c.args.invert in
    let put = c.in_ok-push_numbers.ensures ∙ ap (λ k. had ++ places k (replicate (c.next-to.result - k) invert)) c.next-from.ensures
    ∙ ap (λ k. had ++ places reader.at (replicate (k - reader.at) invert)) c.next-to.ensures in
    let more = c.in_ok-push_numbers-2.ensures ∙ ap (λ k. first ++ places k (replicate (k + 1 - k) (not invert))) c.next-to.ensures in
    subst (λ k. TakesSome reader.at k had second) (sym at.at_is) (some-pushed invert reader.at to had first second c.in_ok-pass_unmatched.ensures.later put more)) c.advance.ensures.at

pub returns-clause-kept : goal.returns-clause-kept
returns-clause-kept g c = OnlyReads-trans g.met.S.LineStore.stays_on c.in_ok-pass_unmatched.ensures.kept c.advance.ensures.kept

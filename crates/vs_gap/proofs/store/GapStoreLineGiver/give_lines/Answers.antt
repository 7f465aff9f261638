-- The lines are all held.
use Rattle.std.proofs.Common.{◌≡◌, ◌∙◌, ◌+◌, ◌-◌, ◌≤◌, ℕ, List, All, ap, arith, drop, length, subst, sym}
use Rattle.std.proofs.lemmas.List.Elements.{All-drop, All-take}
use Rattle.vs_text.specs.Limits.{IsShort}
use Rattle.vs_edit.specs.Splices.{cut_out}
use Rattle.vs_gap.proofs.HeldLemmas.{cut-held}
use Rattle.vs_gap.proofs.store.GapStoreLineGiver.give_lines.Goals as goal

pub returns-clause-lines : goal.returns-clause-lines
returns-clause-lines g c = λ text shown.
    let held = c.args.self.now.overlay.now.present in
    let place = c.in-Some.ensures.place in
    let within : held.top ≤ length shown.under = omega (arith, shown.fits.within) in
    let inside : c.args.top - held.top + c.args.count ≤ length held.lines = omega (arith, place.1, c.in-Some.ensures.within) in
    c.in_ok-into_lines.ensures ∙ ap (λ (xs : List (List ℕ)). cut_out xs c.in-Some.place c.args.count) c.in-Some-let_go.ensures.some
    ∙ ap (λ (n : ℕ). cut_out held.lines n c.args.count) place.1
    ∙ sym (cut-held shown.under held.lines held.top held.replaced within c.args.top c.args.count place.0 inside)
    ∙ ap (λ (xs : List (List ℕ)). cut_out xs c.args.top c.args.count) (sym shown.is)

pub returns-clause-short : goal.returns-clause-short
returns-clause-short g c =
    let held = c.args.self.now.overlay.now.present in
    let is : c.in_ok-into_lines.field-0.items ≡ cut_out held.lines c.in-Some.place c.args.count =
    c.in_ok-into_lines.ensures ∙ ap (λ (xs : List (List ℕ)). cut_out xs c.in-Some.place c.args.count) c.in-Some-let_go.ensures.some in
    subst (All IsShort) (sym is) (All-take IsShort c.args.count (drop c.in-Some.place held.lines) (All-drop IsShort c.in-Some.place held.lines c.requires.valid.1.short_lines))

-- The lines between what no splice has touched are those of the last text.
use Rattle.std.proofs.Common.{◌≡◌, ◌∙◌, ◌-◌, ℕ, length, ap, sym, subst, arith}
use Rattle.vs_edit.specs.Splices.{cut_out}
use Rattle.std.specs.Prelude.{Option}
use Rattle.vs_global.specs.Carry.{Covers, StaysWithin}
use Rattle.vs_global.specs.Global.{whole_by}
use Rattle.vs_global.specs.declared.run.Untouched.{Untouched}
use Rattle.vs_global.proofs.GlobalLemmas.{whole-bytes, whole-value}
use Rattle.vs_global.proofs.whole.whole_plan.Goals as goal

pub returns-in_default-clause-value : goal.returns-in_default-clause-value
returns-in_default-clause-value g c = λ start now has lines cov. ap (λ (m : Option Untouched). whole_by start now c.args.run.cursor m) (sym c.in_default.is)

pub returns-clause-value : goal.returns-clause-value
returns-clause-value g c = λ start now has lines cov.
    let made = c.in-Some.made in
    let between : c.len.result - made.tail - made.lo ≡ length now - made.tail - made.lo =
    ap (λ (n : ℕ). n - made.tail - made.lo) (c.len.ensures ∙ sym (g.met.S.LineStore.has_lines c.args.view.now now has)) in
    let put : c.in_ok-new.new.items ≡ cut_out now made.lo (c.len.result - made.tail - made.lo) = c.in_ok-new.ensures.lines now has in
    whole-value made start now c.in_ok-new.new.items c.args.lines (c.len.result - made.tail - made.lo) c.args.run.cursor lines between put
    ∙ ap (whole_by start now c.args.run.cursor) (sym c.in-Some.is)

pub returns-clause-allowed : goal.returns-clause-allowed
returns-clause-allowed g c =
    let law = g.met.S.LineStore in
    let made = c.in-Some.made in
    let lines = (g.S.LineStore.shows c.args.view.now).present.lines in
    let stays = subst (λ (m : Option Untouched). StaysWithin m c.args.lines lines) c.in-Some.is c.requires.within in
    let few = law.few_lines c.args.view.now c.requires.valid in (
      record {
        within = omega (arith, stays.0);
        few_lines = omega (arith, stays.0, stays.1, few, c.len.ensures, c.in_ok-new.ensures.count);
        short_lines = c.in_ok-new.ensures.short;
      },
      λ start count was.
          let now = was.0 in
          let has = was.1 in
          let same = subst (λ (m : Option Untouched). Covers m start now) c.in-Some.is was.2 in
          let between : c.len.result - made.tail - made.lo ≡ length now - made.tail - made.lo =
          ap (λ (n : ℕ). n - made.tail - made.lo) (c.len.ensures ∙ sym (law.has_lines c.args.view.now now has)) in
          let put : c.in_ok-new.new.items ≡ cut_out now made.lo (c.len.result - made.tail - made.lo) = c.in_ok-new.ensures.lines now has in
          let bytes = whole-bytes made start now c.in_ok-new.new.items c.args.lines (c.len.result - made.tail - made.lo) count between put same in
          omega (arith, bytes, (law.has_within c.args.view.now now c.requires.valid has).few_bytes),
    )

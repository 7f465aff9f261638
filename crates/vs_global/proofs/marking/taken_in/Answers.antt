-- Each turn looks at the lines up to the next one in which the text stands.
use Rattle.std.proofs.Common.{◌≡◌, ◌≤◌, ◌<◌, ◌+◌, ◌-◌, ◌++◌, ◌∙◌, ℕ, List, [], All, arith, ap, length, map, refl, rules, subst, sym}
use Rattle.std.proofs.lemmas.List.Elements.{All-nil}
use Rattle.vs_edit.specs.Splices.{cut_out}
use Rattle.vs_edit.proofs.Steps.{OnlyReads-none, OnlyReads-trans}
use Rattle.vs_marks.specs.Marks.{Ascends}
use Rattle.vs_global.specs.Global.{is_taken, places}
use Rattle.vs_global.proofs.MarkingLemmas.{some-taken, taken-on}
use Rattle.vs_global.proofs.marking.taken_in.Goals as goal

pub lines-init : goal.lines-init
lines-init g c =
    let fresh = c.new-reader.ensures in
    let reader = c.new-reader.result in
    let none = c.new-taken.ensures.items in
    let top = c.args.top in
    let start : 0 ≡ reader.at - top = omega (arith, fresh.at.at_is) in
    record {
      taken = λ text has. none ∙ ap (λ n. places top (map (is_taken c.args.invert c.args.finder.now) (cut_out text top n))) start;
      are = record {
        ascends = subst Ascends (sym none) tt;
        below = subst (All (λ line. line < top + (reader.at - top))) (sym none) (All-nil (λ line. line < top + (reader.at - top)));
        few = omega (arith, ap (λ (l : List ℕ). length l) none);
      };
      at = record { at_is = refl; end_is = fresh.at.end_is; lines = fresh.at.lines };
      later = omega (arith, fresh.at.at_is);
      stops = fresh.stops;
      copied = λ text has. fresh.copied text;
      kept = OnlyReads-none g.met.S.LineStore.stays_itself c.requires.valid;
      faults = refl;
    }

pub lines-preserved : goal.lines-preserved
lines-preserved g c =
    let law = g.met.S.LineStore in
    let before = c.lines.invariant in
    let next = c.in_ok-take_next.ensures in
    let from = c.lines.reader.at in
    let new = c.take_next.new.reader in
    record {
      taken = λ text has.
          let within : new.at ≤ length text =
          omega (arith, law.has_lines c.args.view.now text has, c.requires.within, next.stops, next.at.end_is, before.at.end_is) in
          taken-on c.args.invert c.args.finder.now text c.args.top from new.at [] c.lines.taken.items c.take_next.new.taken.items before.later (omega (arith, next.later)) within
          (before.taken text has) (next.taken text (before.kept.present.text text has) (before.copied text has));
      are = some-taken c.args.top from new.at c.lines.taken.items c.take_next.new.taken.items before.later (omega (arith, next.later)) next.some before.are;
      at = record { at_is = refl; end_is = next.at.end_is ∙ before.at.end_is; lines = next.at.lines };
      later = omega (arith, before.later, next.later);
      stops = next.stops;
      copied = λ text has. next.copied text (before.kept.present.text text has) (before.copied text has);
      kept = OnlyReads-trans law.stays_on before.kept next.kept;
      faults = next.cause.none (λ failed. absurd (cc)) ∙ before.faults;
    }

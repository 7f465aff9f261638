-- Text and marks go along with the same splice.
use Rattle.std.proofs.Common.{◌≡◌, ◌∙◌, ◌+◌, ◌≤◌, ℕ, List, Some, length, refl, ap, sym, subst, arith}
use Rattle.std.proofs.lemmas.Result.{on_ok_weaker}
use Rattle.vs_exparse.specs.Command.{command_of}
use Rattle.vs_excmd.specs.Answer.{Allows, effect_of}
use Rattle.vs_excmd.specs.Change.{Change}
use Rattle.vs_marks.specs.Marks.{lines_of, marks_after}
use Rattle.vs_global.specs.Global.{Marked, changed_by, untouched_by}
use Rattle.vs_global.proofs.CarryLemmas.{unmatched, unchanged, changed, marks-carried, size-carried}
use Rattle.vs_global.proofs.WholeLemmas.{covers-more, stays-as}
use Rattle.vs_global.proofs.carry.carry_splice.Goals as goal

pub returns-in-Err-clause-carried : goal.returns-in-Err-clause-carried
returns-in-Err-clause-carried g c = on_ok_weaker c.unless_unmatched.result
    (λ is at here.
    let from : Marked = record at { cursor = c.args.line + 1 } in
    record {
      after = from;
      is = unmatched (command_of c.args.nested.now) from c.in-Err.error is (c.in-Err.ensures.finds at.text here.text);
      at = record { text = c.in-Err.ensures.kept.present.text at.text here.text; marked = here.marked; size = here.size; made = here.made; cursor = refl };
      covers = λ start same. same;
    }) c.unless_unmatched.ensures.ok

pub returns-in-Ok-NoChange-clause-carried : goal.returns-in-Ok-NoChange-clause-carried
returns-in-Ok-NoChange-clause-carried g c = λ at here.
    let from : Marked = record at { cursor = c.args.line + 1 } in
    let found = c.in-Ok-NoChange in
    record {
      after = from;
      is = unchanged (command_of c.args.nested.now) from (found.ensures.finds at.text here.text).0 found.field-0 found.field-0-is (found.ensures.finds at.text here.text).1;
      at = record { text = found.ensures.kept.present.text at.text here.text; marked = here.marked; size = here.size; made = here.made; cursor = refl };
      covers = λ start same. same;
    }

pub returns-in_ok-splice-in-Ok-Splice-clause-carried : goal.returns-in_ok-splice-in-Ok-Splice-clause-carried
returns-in_ok-splice-in-Ok-Splice-clause-carried g c = λ at here.
    let law = g.met.S.LineStore in
    let from : Marked = record at { cursor = c.args.line + 1 } in
    let command = command_of c.args.nested.now in
    let found = c.in-Ok-Splice in
    let meant = found.ensures.finds at.text here.text in
    let put = found.new.items in
    let change : Change = record { top = found.top; old = found.old; new = put; cursor = found.cursor } in
    let is_change : effect_of found.field-0 ≡ Some change = ap effect_of found.field-0-is in
    let read = found.ensures.kept.present.text at.text here.text in
    let lines = law.has_lines c.find.new.view at.text read in
    let allowed = subst (Allows (g.S.LineStore.shows c.find.new.view).present) found.field-0-is found.ensures.allowed in
    let within : found.top + found.old ≤ length at.text = omega (arith, lines, allowed.within) in
    let count = ap (λ (l : List (List ℕ)). length l) c.as_slice.ensures.value in
    let spliced = c.in_ok-take_splice-in-Ok-Splice.ensures.ok.text at.text read in
    let moved = c.in_ok-splice-in-Ok-Splice.ensures.lines in
    record {
      after = changed_by command from meant.0 (Some change);
      is = changed command from meant.0 found.field-0 change is_change meant.1;
      at = record {
        text = spliced;
        marked = marks-carried command at.marks meant.0 change (lines_of c.args.marks.now) (lines_of c.splice.new.self) c.requires.single
            (omega (arith, within, here.size)) here.marked (moved ∙ ap (λ (n : ℕ). marks_after found.top found.old n (lines_of c.args.marks.now)) count);
        size = size-carried command at.marks at.text meant.0 change c.requires.single within here.size;
        made = c.touched-run.ensures change refl refl ∙ ap (λ (n : ℕ). untouched_by change n c.args.run.now.made) (c.len-lines.ensures ∙ sym lines) ∙ ap (untouched_by change (length at.text)) here.made;
        cursor = refl;
      };
      covers = λ start same. covers-more at.made start at.text change within same;
    }

pub returns-in_ok-splice-in-Ok-Splice-clause-within : goal.returns-in_ok-splice-in-Ok-Splice-clause-within
returns-in_ok-splice-in-Ok-Splice-clause-within g c = λ start was.
    let found = c.in-Ok-Splice in
    let put = found.new.items in
    let change : Change = record { top = found.top; old = found.old; new = put; cursor = found.cursor } in
    let lines = (g.S.LineStore.shows c.args.view.now).present.lines in
    let read = found.ensures.kept.present.lines in
    let allowed = subst (Allows (g.S.LineStore.shows c.find.new.view).present) found.field-0-is found.ensures.allowed in
    let within : found.top + found.old ≤ lines = omega (arith, read, allowed.within) in
    let made = c.touched-run.ensures change refl refl ∙ ap (λ (n : ℕ). untouched_by change n c.args.run.now.made) (c.len-lines.ensures ∙ read) in
    stays-as _ c.args.run.now.made change start lines _ (length put) made within (c.in_ok-take_splice-in-Ok-Splice.ensures.ok.lines ∙ ap (λ (n : ℕ). n + length put) read) was

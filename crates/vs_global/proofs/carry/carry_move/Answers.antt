-- A move, by its place alone.
use Rattle.std.proofs.Common.{◌≡◌, ◌∙◌, ◌+◌, ℕ, [], length, refl, ap, sym, subst, Ok, Some}
use Rattle.std.specs.Prelude.{IfErr, Result, Err}
use Rattle.std.proofs.lemmas.Result.{err_from_is_err_and}
use Rattle.vs_exparse.specs.Command.{command_of}
use Rattle.vs_exparse.specs.declared.command.ExErr.{ExErr}
use Rattle.vs_excmd.specs.Change.{Change, Effect, bounded, moved}
use Rattle.vs_excmd.specs.Place.{IsPlaceIn, place_of}
use Rattle.vs_excmd.specs.declared.place.Place.{Place}
use Rattle.vs_global.specs.Carry.{Refuses, lines_moved, moved_between}
use Rattle.vs_global.specs.Global.{Marked, changed_by, places, untouched_by}
use Rattle.vs_global.proofs.CarryLemmas.{carried-change, carried-err, carried-still}
use Rattle.vs_global.proofs.MoveLemmas.{NoE486, begins-move, found-move, found-none, length-moved, marks-moved, moved-bounded, moved-length, moved-short, moved-twice, outside-move, place-none, places-moved}
use Rattle.vs_global.proofs.WholeLemmas.{covers-more, stays-as}
use Rattle.vs_global.proofs.carry.carry_move.Goals as goal

pub returns-in_err-place-clause-refused : goal.returns-in_err-place-clause-refused
returns-in_err-place-clause-refused g c =
    let command = command_of c.args.nested.now in
    let p = err_from_is_err_and c.from_residual.result c.from_residual.ensures.1 in
    subst (λ r. IfErr r (Refuses g.S.LineStore command c.args.line c.args.view.now c.args.marks.now c.args.run.now)) (sym (p.1 ∙ ap Err p.2)) (λ at here.
    let lines = g.met.S.LineStore.has_lines c.args.view.now at.text here.text in
    let from : Marked = record at { cursor = c.args.line + 1 } in
    let none = ap (λ (n : ℕ). place_of command n (c.args.line + 1)) (lines ∙ sym c.len-lines.ensures) ∙ sym c.in_err-place.ensures.value in
    carried-err command from c.in_err-place.field-0.0 (found-none command at.text (c.args.line + 1) c.in_err-place.field-0.0 none)
    (subst (λ (r : Result Place ExErr). NoE486 r) none (place-none command (length at.text) (c.args.line + 1) c.requires.moves)))

pub returns-in-None-clause-carried : goal.returns-in-None-clause-carried
returns-in-None-clause-carried g c = λ at here.
    let command = command_of c.args.nested.now in
    let lines = g.met.S.LineStore.has_lines c.args.view.now at.text here.text in
    let from : Marked = record at { cursor = c.args.line + 1 } in
    let place = c.in_ok-place.place in
    let at_place = ap (λ (n : ℕ). place_of command n (c.args.line + 1)) (lines ∙ sym c.len-lines.ensures) ∙ sym c.in_ok-place.ensures.value in
    record {
      after = from;
      is = carried-still command from place (found-move command at.text (c.args.line + 1) place _ c.requires.moves at_place (ap (λ (e : Effect). bounded at.text (Ok e)) (c.in-None.ensures.none at.text)));
      at = record { text = here.text; marked = here.marked; size = here.size; made = here.made; cursor = refl };
      covers = λ start same. same;
    }

pub returns-in_ok-move_marks-in-Some-clause-carried : goal.returns-in_ok-move_marks-in-Some-clause-carried
returns-in_ok-move_marks-in-Some-clause-carried g c = λ at here.
    let law = g.met.S.LineStore in
    let command = command_of c.args.nested.now in
    let moves = c.requires.moves in
    let lines = law.has_lines c.args.view.now at.text here.text in
    let from : Marked = record at { cursor = c.args.line + 1 } in
    let place = c.in_ok-place.place in
    let at_place = ap (λ (n : ℕ). place_of command n (c.args.line + 1)) (lines ∙ sym c.len-lines.ensures) ∙ sym c.in_ok-place.ensures.value in
    let lies : IsPlaceIn (length at.text) place = subst (λ (n : ℕ). IsPlaceIn n place) (c.len-lines.ensures ∙ sym lines) c.in_ok-place.ensures.lies in
    let positive = begins-move command place moves c.in_ok-place.ensures.begins in
    let outside = outside-move command place moves c.in_ok-place.ensures.outside in
    let change : Change = record { top = c.in-Some.moved.top; old = c.in-Some.moved.old; new = moved_between at.text place; cursor = c.in-Some.moved.cursor } in
    let is_moved : moved at.text place ≡ Some change = c.in-Some.ensures.some at.text in
    let limits = law.has_within c.args.view.now at.text c.requires.ready.valid here.text in
    let is_bounded = moved-bounded at.text place change lies positive outside limits is_moved (moved-short at.text place limits.short_lines) in
    let found = found-move command at.text (c.args.line + 1) place (Some change) moves at_place (ap (λ (e : Effect). bounded at.text (Ok e)) is_moved ∙ is_bounded) in
    let lies_marks : IsPlaceIn (length at.marks) place = subst (λ (n : ℕ). IsPlaceIn n place) (sym here.size) lies in
    let same = moved-twice at.text place change lies positive outside is_moved in
    record {
      after = changed_by command from place (Some change);
      is = carried-change command from place change found;
      at = record {
        text = c.in_ok-move_lines-in-Some.ensures.text at.text change here.text is_moved;
        marked = c.in_ok-move_marks-in-Some.ensures.lines ∙ ap (lines_moved place) here.marked ∙ places-moved at.marks place lies_marks positive outside
            ∙ ap (places 0) (sym (marks-moved command at.marks place change moves));
        size = ap length (marks-moved command at.marks place change moves) ∙ length-moved at.marks place lies_marks positive outside ∙ here.size
            ∙ sym (moved-length at.text place lies positive outside) ∙ ap length same;
        made = c.touched-run.ensures change refl refl ∙ ap (λ (n : ℕ). untouched_by change n c.args.run.now.made) (c.len-lines.ensures ∙ sym lines) ∙ ap (untouched_by change (length at.text)) here.made;
        cursor = refl;
      };
      covers = λ start same. covers-more at.made start at.text change (c.in-Some.ensures.within (length at.text) lies) same;
    }

pub returns-in_ok-move_marks-in-Some-clause-within : goal.returns-in_ok-move_marks-in-Some-clause-within
returns-in_ok-move_marks-in-Some-clause-within g c = λ start was.
    let lines = (g.S.LineStore.shows c.args.view.now).present.lines in
    let change : Change = record { top = c.in-Some.moved.top; old = c.in-Some.moved.old; new = []; cursor = c.in-Some.moved.cursor } in
    let lies = subst (λ (n : ℕ). IsPlaceIn n c.in_ok-place.place) c.len-lines.ensures c.in_ok-place.ensures.lies in
    let made = c.touched-run.ensures change refl refl ∙ ap (λ (n : ℕ). untouched_by change n c.args.run.now.made) c.len-lines.ensures in
    stays-as _ c.args.run.now.made change start lines _ c.in-Some.moved.old made (c.in-Some.ensures.within lines lies) (ap (λ (n : ℕ). n + c.in-Some.moved.old) c.in_ok-move_lines-in-Some.ensures.lines) was

pub touched-run-requires : goal.touched-run-requires
touched-run-requires g c = c.in-Some.ensures.within c.len-lines.result c.in_ok-place.ensures.lies

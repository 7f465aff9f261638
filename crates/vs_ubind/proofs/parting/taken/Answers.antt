use Rattle.std.proofs.Common.{◌≡◌, ◌+◌, ◌<◌, ◌∙◌, length, get_or, ap, sym, subst, map, arith}
use Rattle.std.specs.Prelude.{Contains}
use Rattle.std.proofs.lemmas.List.{get_or_default, get_or-map, length-map}
use Rattle.vs_ufile.specs.declared.history.FileChange.{FileChange}
use Rattle.vs_ufile.specs.Values.{change_of}
use Rattle.vs_ufile.specs.Walks.{at}
use Rattle.vs_ubind.specs.Meaning.{IsKeptSave, StandsFor}
use Rattle.vs_ubind.specs.Taken.{taken_change}
use Rattle.vs_ubind.proofs.Takes.{all_first, first_more, stands_taken}
use Rattle.vs_ubind.proofs.parting.taken.Goals as goal

pub changes-preserved : goal.changes-preserved
changes-preserved c =
    let all = c.args.changes.now in
    let changes = map change_of all in
    let count = length-map all change_of in
    let i = c.changes.i in
    let own : FileChange = c.index-changes-i.result in
    let lt : i < length changes = omega (arith, c.changes-test.true, count) in
    let here : change_of own ≡ get_or changes i (change_of own) = ap change_of c.index-changes-i.is ∙ sym (get_or-map change_of all i own (change_of own) c.changes-test.true) in
    let in_list : Contains changes (change_of own) = (i, lt, sym here) in
    let kept : IsKeptSave changes (change_of own) c.kept_save-save.result = c.kept_save-save.ensures changes c.in_ok-savers.ensures in_list in
    let up : c.index-parent.result.now ≡ at c.args.lineage.now.parents.items (i + 1) =
    c.index-parent.ensures ∙ get_or_default c.args.lineage.now.parents.items (i + 1) _ 0 (omega (arith, lt, c.requires.parent_count)) in
    let down : c.index-child.result.now ≡ at c.args.lineage.now.children.items (i + 1) =
    c.index-child.ensures ∙ get_or_default c.args.lineage.now.children.items (i + 1) _ 0 (omega (arith, lt, c.requires.child_count)) in
    let stands = stands_taken changes c.args.lineage.now.parents.items c.args.lineage.now.children.items i (change_of own) c.index-parent.result.now c.index-child.result.now c.kept_save-save.result c.requires lt here up down kept in
    let node : c.in_ok-take_change.field-0 ≡ taken_change (change_of own) c.index-parent.result.now c.index-child.result.now c.kept_save-save.result =
    c.in_ok-take_change.ensures in
    first_more changes i c.changes.nodes.items c.push.new.self.items (change_of own) c.in_ok-take_change.field-0 lt here c.changes.invariant (subst (StandsFor changes (change_of own)) (sym node) stands) c.in_ok-push.ensures.items

pub returns : goal.returns
returns c = all_first (map change_of c.args.changes.now) c.changes.i c.changes.nodes.items (omega (arith, c.changes-test.false, c.changes.auto.i-end, length-map c.args.changes.now change_of)) c.changes.invariant

use Rattle.vs_ufile.specs.Form.{file_of}
use Rattle.vs_ufile.proofs.Answered.{linked_form}
use Rattle.vs_ufile.proofs.Rules.{knows_all, numbers_from}
use Rattle.vs_ufile.proofs.answer.checked.Goals as goal

pub tree_fault-requires-clause-numbers : goal.tree_fault-requires-clause-numbers
tree_fault-requires-clause-numbers c =
    let f = file_of c.in_ok-form.form in
    let l = linked_form c.args.bytes.now f c.in_ok-form.ensures in
    numbers_from f.numbers.heads f.placed l.0.numbers

pub tree_fault-requires-clause-links : goal.tree_fault-requires-clause-links
tree_fault-requires-clause-links c =
    let f = file_of c.in_ok-form.form in
    knows_all f (linked_form c.args.bytes.now f c.in_ok-form.ensures).1

-- A line that matches ends what is kept; one before the first match is only counted.
use Rattle.std.proofs.Common.{◌∙◌, sym, ap, ◌++◌, ◌∷◌, [], length}
use Rattle.vs_excmd.proofs.CutLemmas.{pushed-bytes}
use Rattle.vs_excmd.proofs.RewriteLemmas.{did-hit, did-before, did-between}
use Rattle.vs_excmd.proofs.substituting.Rewriting.add.Goals as goal

pub returns-then-is_none-clause-adds : goal.returns-then-is_none-clause-adds
returns-then-is_none-clause-adds c = λ hits f seen so_far finds.
    let parts = rw c.in-Unmatched.is at finds in
    let none = rw c.as_slice-in-Unmatched.ensures.value at (sym c.is_none.ensures ∙ c.if-is_none.true) in
    did-before hits f seen c.args.self.now.lines.items c.args.self.now.before c.args.self.now.kept c.args.line.now so_far parts none

pub returns-in_ok-push_counted-in-New-clause-adds : goal.returns-in_ok-push_counted-in-New-clause-adds
returns-in_ok-push_counted-in-New-clause-adds c = λ hits f seen so_far finds.
    let parts = rw c.in-New.is at finds in
    did-hit hits f seen c.args.self.now.lines.items c.push_counted.new.lines.items c.args.self.now.before c.args.self.now.kept (length c.as_slice.result.now) c.args.line.now c.in-New.text.items so_far (parts.0, parts.1)
    (c.in_ok-push_counted-in-New.ensures.lines ∙ ap (λ x. c.args.self.now.lines.items ++ x ∷ []) c.from_vec.ensures)
    (ap length c.as_slice.ensures.value)

pub returns-in_ok-push_counted-in-New-clause-counted : goal.returns-in_ok-push_counted-in-New-clause-counted
returns-in_ok-push_counted-in-New-clause-counted c = λ counted.
    pushed-bytes c.args.self.now.lines.items c.push_counted.new.lines.items c.from_vec.result c.args.self.now.bytes c.push_counted.new.bytes
    counted c.in_ok-push_counted-in-New.ensures.lines c.in_ok-push_counted-in-New.ensures.bytes

pub returns-in_ok-push_counted-in-Unmatched-clause-adds : goal.returns-in_ok-push_counted-in-Unmatched-clause-adds
returns-in_ok-push_counted-in-Unmatched-clause-adds c = λ hits f seen so_far finds.
    let parts = rw c.in-Unmatched.is at finds in
    let some = rw c.as_slice-in-Unmatched.ensures.value at (sym c.is_none.ensures ∙ c.if-is_none.false) in
    did-between hits f seen c.args.self.now.lines.items c.push_counted-in-Unmatched.new.lines.items c.args.self.now.before c.args.self.now.kept c.args.line.now c.from_vec-in-Unmatched.result so_far parts some
    c.in_ok-push_counted-in-Unmatched.ensures.lines (c.from_vec-in-Unmatched.ensures ∙ c.in_ok-copy-in-Unmatched.ensures.items)

pub returns-in_ok-push_counted-in-Unmatched-clause-counted : goal.returns-in_ok-push_counted-in-Unmatched-clause-counted
returns-in_ok-push_counted-in-Unmatched-clause-counted c = λ counted.
    pushed-bytes c.args.self.now.lines.items c.push_counted-in-Unmatched.new.lines.items c.from_vec-in-Unmatched.result c.args.self.now.bytes c.push_counted-in-Unmatched.new.bytes
    counted c.in_ok-push_counted-in-Unmatched.ensures.lines c.in_ok-push_counted-in-Unmatched.ensures.bytes

-- The bytes that are numbered are those of the first lines.
use Rattle.std.proofs.Common.{◌≡◌, ◌∙◌, ◌-◌, ◌++◌, List, ℕ, arith, ap, subst, sym}
use Rattle.std.proofs.lemmas.Result.{on_ok_weaker}
use Rattle.vs_text.specs.Text.{file_of}
use Rattle.vs_edit.specs.Splices.{cut_out}
use Rattle.vs_machine.specs.Shown.{numbered, shown_lines}
use Rattle.vs_machine.proofs.NearbyLemmas.{first-are, lines-told, told-counted, told-ended}
use Rattle.vs_machine.proofs.shown.push_lines.Goals as goal

pub push_all_numbered-requires-clause-ended : goal.push_all_numbered-requires-clause-ended
push_all_numbered-requires-clause-ended c =
    let pushed = c.in_ok-push.ensures in
    told-ended c.args.near.now.lines c.size-count.result c.new-lines.result.items c.push-2.new.into.items c.deref.result.now pushed.text c.new-lines.ensures.items pushed.bytes c.deref.ensures.value

pub push_all_numbered-requires-clause-counted : goal.push_all_numbered-requires-clause-counted
push_all_numbered-requires-clause-counted c =
    let pushed = c.in_ok-push.ensures in
    told-counted c.args.near.now.lines c.size-count.result c.new-lines.result.items c.push-2.new.into.items c.deref.result.now pushed.text c.new-lines.ensures.items pushed.bytes c.deref.ensures.value
    (omega (arith, c.size-count.ensures, c.requires.held))

pub returns-clause-bytes : goal.returns-clause-bytes
returns-clause-bytes c = on_ok_weaker c.push_all_numbered.result
    (λ put text are.
    let near = c.args.near.now in
    let span = c.args.span in
    let pushed = c.in_ok-push.ensures in
    let told = lines-told near.lines c.size-count.result c.new-lines.result.items c.push-2.new.into.items c.deref.result.now pushed.text c.new-lines.ensures.items pushed.bytes c.deref.ensures.value in
    let cut = told ∙ first-are text near.lines near.top are c.size-count.result (omega (arith, c.size-count.ensures, c.requires.held)) in
    let Adds = λ (form : List (List ℕ)). c.push_all_numbered.new.into.items ≡ c.args.into.now.items ++ file_of form in
    let in_span = cut ∙ ap (λ top. cut_out text top c.size-count.result) c.requires.top ∙ ap (cut_out text (span.first - 1)) c.size-count.ensures in
    subst (λ numbers. Adds (shown_lines numbers text span)) (sym c.if-not-numbers.false) (subst Adds (ap (numbered span.first) in_span) put))
    c.push_all_numbered.ensures.bytes

use Rattle.std.proofs.Common.{[], ◌++◌, ◌∙◌, ap}
use Rattle.vs_paged.specs.Pages.{Opening}
use Rattle.vs_test_pair.proofs.written.start_new.Goals as goal

pub push_lines-requires : goal.push_lines-requires
push_lines-requires g c =
    let read = c.feed.ensures.reads [] [] c.new-reader.ensures in
    let answer = c.in-Ok.ensures.answer [] _ read in
    rw (ap (λ (o : Opening). o.text ++ c.in-Ok.lines) c.in_ok-opening.ensures ∙ answer.text) answer.fits

pub returns-in-Ok-start : goal.returns-in-Ok-start
returns-in-Ok-start g c = record { started = λ told. (_, _, c.in-Ok-start.ensures.fits told) }

use Rattle.std.proofs.Common.{List, ℕ, Option, Some, ap, sym, subst, ◌∙◌}
use Rattle.vs_swap.specs.Files.{pages_in}
use Rattle.vs_recover.specs.Files.{Extends, plain}
use Rattle.vs_recover.proofs.ChainLaws.{plain_none}
use Rattle.vs_recover.proofs.PageLaws.{gives_list, gives_none}
use Rattle.vs_recover.proofs.WalkLaws.{lines_gone, lines_of}
use Rattle.vs_recover.proofs.blocks.load_lines.Goals as goal

pub returns-in_default-clause-value : goal.returns-in_default-clause-value
returns-in_default-clause-value g c = λ file is. plain_none _ (lines_gone (pages_in file) c.args.entry.now (gives_none _ _ c.in_default.is (c.in_ok-bytes.ensures.value file is)))

pub returns-clause-value : goal.returns-clause-value
returns-clause-value g c = λ file is.
    let read = gives_list _ _ c.in-Some.bytes c.in-Some.is (c.in_ok-bytes.ensures.value file is) in
    subst (λ (o : Option (List (List ℕ))). Extends (plain o) c.args.lines.now.text c.read_lines.new.lines.text c.in_ok-done.done)
    (sym (lines_of (pages_in file) c.args.entry.now c.deref.result.now (read ∙ ap (λ (bs : List ℕ). Some bs) (sym c.deref.ensures.value)))) c.in_ok-done.ensures.value

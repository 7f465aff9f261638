use Rattle.std.proofs.Common.{List, ℕ, Some, ap, sym, ◌∙◌}
use Rattle.vs_pages.specs.Maps.{pages_at}
use Rattle.vs_swap.specs.Entries.{swap_points}
use Rattle.vs_swap.specs.Files.{pages_in}
use Rattle.vs_recover.proofs.PageLaws.{gives_list, gives_read}
use Rattle.vs_recover.proofs.blocks.load_entries.Goals as goal

pub returns-clause-value : goal.returns-clause-value
returns-clause-value g c = λ file is.
    let read = gives_list _ _ c.in-Some.bytes c.in-Some.is (c.in_ok-bytes.ensures.value file is) in
    gives_read swap_points (pages_at (pages_in file) c.args.block 1) c.deref.result.now c.in_ok-found.found (read ∙ ap (λ (bs : List ℕ). Some bs) (sym c.deref.ensures.value)) c.in_ok-found.ensures

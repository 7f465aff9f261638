use Rattle.std.proofs.Common.{ap, ◌∙◌, map}
use Rattle.std.specs.Option.{is_some}
use Rattle.vs_ufile.specs.Changes.{placed_of}
use Rattle.vs_ufile.specs.Reading.{index_of, numbers_of}
use Rattle.vs_ufile.proofs.Index.{some_after}
use Rattle.vs_ufile.proofs.changes.Changes.has.Goals as goal

pub returns : goal.returns
returns c =
    let self = c.args.self.now in
    let numbers = numbers_of (map placed_of self.placed.items) in
    c.contains_key.ensures ∙ ap is_some (self.indexed.at c.args.number) ∙ some_after (index_of c.args.number numbers)

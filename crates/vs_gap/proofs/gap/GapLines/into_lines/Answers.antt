-- All lines stand in one list, of which the end goes and then the front.
use Rattle.std.proofs.Common.{◌≡◌, ◌∙◌, ◌+◌, ◌++◌, ℕ, List, ap, arith, drop, length, length-take, take}
use Rattle.std.proofs.lemmas.List.{drop-take}
use Rattle.vs_gap.proofs.gap.GapLines.into_lines.Goals as goal

pub take_away-requires : goal.take_away-requires
take_away-requires c =
    let all : c.append-2.new.self.items ≡ c.args.self =
    c.in_ok-append-2.ensures.items ∙ ap (λ (xs : List (List ℕ)). xs ++ c.self.inside.after.items) c.in_ok-append.ensures.items ∙ c.self.view_is in
    omega (
      arith,
      c.requires,
      ap (λ (xs : List (List ℕ)). length xs) c.truncate.ensures.items,
      length-take (c.args.at + c.args.count) c.append-2.new.self.items,
      ap (λ (xs : List (List ℕ)). length xs) all,
    )

pub returns : goal.returns
returns c =
    let all : c.append-2.new.self.items ≡ c.args.self =
    c.in_ok-append-2.ensures.items ∙ ap (λ (xs : List (List ℕ)). xs ++ c.self.inside.after.items) c.in_ok-append.ensures.items ∙ c.self.view_is in
    c.from.ensures.0 ∙ c.take_away.ensures.rest
    ∙ ap (λ (xs : List (List ℕ)). drop c.args.at xs) (c.truncate.ensures.items ∙ ap (λ (xs : List (List ℕ)). take (c.args.at + c.args.count) xs) all)
    ∙ drop-take c.args.at c.args.count c.args.self

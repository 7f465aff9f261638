-- What is held back, the lines that end, and the bytes after them, one after another.
use Rattle.std.proofs.Common.{◌++◌, ◌∙◌, List, ℕ, length, nat_lt, sym, ap, append_assoc}
use Rattle.vs_text.specs.Documents.{plain_ends}
use Rattle.vs_pieces.specs.Files.{held_back}
use Rattle.vs_pieces.proofs.Files.{held_after}
use Rattle.vs_pieces.proofs.plain.append_plain.Goals as goal

pub returns-clause-plain : goal.returns-clause-plain
returns-clause-plain c = λ more.
    let rest = c.in_ok-rest.rest.now in
    let front = c.without_return-front.result.now in
    let into = c.append_ended.new.into.items in
    let after = plain_ends (held_back (nat_lt (length front) (length rest)) ++ more) in
    c.in_ok-append_held.ensures.plain more ∙ (c.in_ok-rest.ensures.plain more
    ∙ (ap (λ (bytes : List ℕ). into ++ bytes) (held_after rest front c.in_ok-rest.ensures.line c.without_return-front.ensures more)
    ∙ (sym (append_assoc into front after) ∙ ap (λ (bytes : List ℕ). bytes ++ after) (sym c.in_ok-extend_from_slice.ensures.items))))

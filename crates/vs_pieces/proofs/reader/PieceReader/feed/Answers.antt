use Rattle.std.proofs.Common.{◌≡◌, ◌≤◌, ◌+◌, ◌∙◌, Some, refl, ap, sym, length}
use Rattle.vs_pieces.specs.Reader.{Reading, size_read}
use Rattle.vs_pieces.specs.contracts.reader.PieceReader.{the_view}
use Rattle.vs_pieces.proofs.Reading.{Reads-refused, Reads-again, none_from_not_some, HasRead-reading, HasRead-refusing, IsCertain-more}
use Rattle.vs_pieces.proofs.reader.PieceReader.feed.Goals as goal

pub returns-in-Some-clause-reads : goal.returns-in-Some-clause-reads
returns-in-Some-clause-reads c =
    let same : c.self.inside.refused ≡ c.args.self.now.refused = ap (λ (r : Reading). r.refused) c.self.view_is in
    Reads-again c.args.self.now c.args.piece.now c.in-Some.error (sym same ∙ c.in-Some.is)

pub returns-in-Err-clause-reads : goal.returns-in-Err-clause-reads
returns-in-Err-clause-reads c =
    let now = c.self-2.inside in
    let new = the_view (record now { lines = c.new.result; last = c.new-in-Err.result; refused = Some c.in-Err.error }) in
    let before : c.self.inside.refused ≡ c.args.self.now.refused = ap (λ (r : Reading). r.refused) c.self.view_is in
    let none = none_from_not_some c.self.inside.refused c.in_default.not-Some in
    let size : size_read new ≤ size_read c.args.self.now + length c.args.piece.now =
    rw (← c.self-2.view_is) at c.read.ensures.size in
    Reads-refused c.args.self.now new c.args.piece.now c.in-Err.error (sym before ∙ none) refl size c.new.ensures c.in-Err.ensures.refused

pub returns-in-Some-clause-certain : goal.returns-in-Some-clause-certain
returns-in-Some-clause-certain c = λ taken fed h.
    let same : c.self.inside.refused ≡ c.args.self.now.refused = ap (λ (r : Reading). r.refused) c.self.view_is in
    let refusing = HasRead-refusing c.args.self.now taken fed c.in-Some.error (sym same ∙ c.in-Some.is) h in
    IsCertain-more fed c.args.piece.now c.in-Some.error refusing.certain

pub returns-in-Err-clause-certain : goal.returns-in-Err-clause-certain
returns-in-Err-clause-certain c = λ taken fed h.
    let before : c.self.inside.refused ≡ c.args.self.now.refused = ap (λ (r : Reading). r.refused) c.self.view_is in
    let none = none_from_not_some c.self.inside.refused c.in_default.not-Some in
    c.in-Err.ensures.refused taken fed (HasRead-reading c.args.self.now taken fed (sym before ∙ none) h)

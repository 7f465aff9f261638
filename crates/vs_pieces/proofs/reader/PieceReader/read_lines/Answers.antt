use Rattle.std.proofs.Common.{◌≡◌, ◌+◌, List, ℕ, length, ap, subst, ◌∙◌, arith}
use Rattle.vs_text.specs.Text.{lines_of}
use Rattle.vs_pieces.specs.Reader.{Reading, ReadsOn, size_read}
use Rattle.vs_pieces.specs.contracts.reader.PieceReader.{the_view}
use Rattle.vs_pieces.proofs.Ended.{lines_few, lines_most}
use Rattle.vs_pieces.proofs.ReadLines.{ReadsOn-lines, on_ok_three}
use Rattle.vs_pieces.proofs.reader.PieceReader.read_lines.Goals as goal

pub overflow_add-self : goal.overflow_add-self
overflow_add-self c = omega (arith, c.self.invariant.1, c.requires.size, ap size_read c.self.view_is, lines_few (lines_of c.args.ended.lines.now), ap length c.requires.whole, c.requires.count)

pub invariant_of-self : goal.invariant_of-self
invariant_of-self c =
    let few = lines_few (lines_of c.args.ended.lines.now) in
    let whole = ap length c.requires.whole in
    let most = lines_most (lines_of c.args.ended.lines.now) (omega (arith, whole, c.requires.few)) in (
      c.self.invariant.0,
      omega (arith, c.self.invariant.1, few, whole, c.requires.count),
      omega (arith, c.self.invariant.2, most, whole, c.requires.count),
      omega (arith, c.requires.size, ap size_read c.self.view_is),
    )

pub returns-clause-reads : goal.returns-clause-reads
returns-clause-reads c =
    let old = c.self.inside in
    let lines : List ℕ = c.args.ended.lines.now in
    let new = c.hold_lines.new.self in
    let rest = c.hold_lines.ensures.rest in
    let begun : old.last_size ≡ 0 = ap (λ (r : Reading). r.last_size) c.self.view_is ∙ c.requires.begun in
    let ended : new.ended ≡ old.ended + length (lines_of lines) = omega (arith, ap (λ (r : Reading). r.ended) rest, c.requires.count) in
    let bytes : new.bytes ≡ old.bytes + length lines = ap (λ (r : Reading). r.bytes) rest in
    on_ok_three c.hold_lines.result _ _ _ _
    (λ held many large. subst (λ (before : Reading). ReadsOn before new lines) c.self.view_is
    (ReadsOn-lines (the_view old) new lines begun c.requires.whole c.requires.few (ap (λ (r : Reading). r.last) rest) (ap (λ (r : Reading). r.last_size) rest ∙ begun) ended bytes
    (λ few small. held (omega (arith, ended, few, c.requires.count)) (omega (arith, bytes, small)))
    (λ over. many (omega (arith, ended, over, c.requires.count)))
    (λ over. large (omega (arith, bytes, over)))))
    c.hold_lines.ensures.held c.hold_lines.ensures.many_lines c.hold_lines.ensures.many_bytes

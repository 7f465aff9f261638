-- The bytes of the spliced text are at most those of the text and the new lines together, which were counted.
use Rattle.std.proofs.Common.{◌≡◌, ◌≤◌, ◌+◌, length, arith}
use Rattle.vs_edit.proofs.SpliceLemmas.{bytes_of-splice_le}
use Rattle.vs_edit.proofs.failing.FailingStoreLineStore.splice.Goals as goal

pub splice-requires-clause-allowed : goal.splice-requires-clause-allowed
splice-requires-clause-allowed g c =
    let store = c.fails_now.new.self.store in
    let same : (g.S.LineStore.shows store).present.lines ≡ (g.S.LineStore.shows c.args.self.now.store).present.lines = cc in
    record {
      within = omega (arith, same);
      few_lines = omega (arith, same);
      short_lines = c.requires.allowed.short_lines;
      few_bytes = λ text has.
          let lines = g.met.S.LineStore.has_lines store text has in
          let bytes = g.met.S.LineStore.has_bytes store text has in
          let within : c.args.top + c.args.old ≤ length text = omega (arith, lines, same) in
          omega (arith, bytes, c.has_room.ensures.0 c.if-not-has_room.false, bytes_of-splice_le text c.args.new.now c.args.top c.args.old within);
    }

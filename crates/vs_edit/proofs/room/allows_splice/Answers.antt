-- The bytes of the spliced text are at most those of the text and the new lines together, which were counted.
use Rattle.std.proofs.Common.{◌≤◌, ◌+◌, length, arith}
use Rattle.vs_edit.proofs.SpliceLemmas.{bytes_of-splice_le}
use Rattle.vs_edit.proofs.room.allows_splice.Goals as goal

pub returns-then-are_short-clause-allowed : goal.returns-then-are_short-clause-allowed
returns-then-are_short-clause-allowed g c = λ room. record {
  within = omega arith;
  few_lines = omega arith;
  short_lines = c.are_short.ensures.0 c.if-are_short.true;
  few_bytes = λ text has.
      let store = c.args.store.now in
      let lines = g.met.S.LineStore.has_lines store text has in
      let bytes = g.met.S.LineStore.has_bytes store text has in
      let within : c.args.top + c.args.old ≤ length text = omega (arith, lines) in
      omega (arith, bytes, c.has_room.ensures.0 room, bytes_of-splice_le text c.args.new.now c.args.top c.args.old within);
}

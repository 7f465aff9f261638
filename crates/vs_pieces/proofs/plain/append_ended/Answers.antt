-- Each turn adds one line that ended.
use Rattle.std.proofs.Common.{◌++◌, ◌∷◌, [], length, ap, arith, length-append}
use Rattle.vs_text.specs.Documents.{plain_ends}
use Rattle.vs_pieces.proofs.Files.{length-loses, one_more}
use Rattle.vs_pieces.proofs.plain.append_ended.Goals as goal

pub lines-preserved : goal.lines-preserved
lines-preserved c =
    let line = c.in-Some.line.now in
    let front = c.without_return.result.now in
    let after = c.in-Some.after.now in
    let into = c.lines.into.items in
    let mid = c.extend_from_slice.new.self.items in
    record {
      plain = one_more c.args.into.now.items into mid c.push.new.self.items c.lines.rest.now line front after (λ more. plain_ends (c.args.piece.now ++ more))
          c.lines.invariant.plain c.in-Some.ensures.1 c.in-Some.ensures.0 c.without_return.ensures c.in_ok-extend_from_slice.ensures.items c.in_ok-push.ensures.items;
      size = omega (
        arith,
        length-loses line front c.without_return.ensures,
        ap length c.in_ok-extend_from_slice.ensures.items,
        length-append into front,
        ap length c.in_ok-push.ensures.items,
        length-append mid (10 ∷ []),
        ap length c.in-Some.ensures.1,
        length-append line (10 ∷ after),
        c.lines.invariant.size,
      );
    }

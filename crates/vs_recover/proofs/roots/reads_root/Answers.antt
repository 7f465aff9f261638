use Rattle.std.proofs.Common.{◌≡◌, ◌≤◌, ◌+◌, length, arith}
use Rattle.vs_recover.proofs.ReadingLaws.{no_memory, reads_none, there_as}
use Rattle.vs_recover.proofs.roots.reads_root.Goals as goal

pub read_part-requires : goal.read_part-requires
read_part-requires g c =
    let room : length c.deref_mut.result.now ≡ c.in_ok-block.block.len = omega (arith, c.deref_mut.ensures.len) in
    let size : length c.deref_mut.result.now ≡ c.args.size = omega (arith, room, c.in_ok-block.ensures.len) in
    record {
      inside = there_as g.F.World.tells (g.F.World.scene c.args.host.now) c.args.name.now (λ file. c.args.len ≡ length file)
          (λ file. c.from-at.result + length c.deref_mut.result.now ≤ length file) (λ file n. omega (arith, n, size, c.from-at.ensures)) c.requires.len;
    }

pub returns-then-at-len-clause-reading : goal.returns-then-at-len-clause-reading
returns-then-at-len-clause-reading g c = reads_none g.F.World.tells (λ is. cc)

pub returns-in_err-block-clause-reading : goal.returns-in_err-block-clause-reading
returns-in_err-block-clause-reading g c = reads_none g.F.World.tells (no_memory _ c.from_residual.ensures.1)

use Rattle.std.proofs.Common.{◌≡◌, ◌≤◌, ◌+◌, length, arith, sym}
use Rattle.vs_recover.proofs.PageLaws.{head_loaded}
use Rattle.vs_recover.proofs.ReadingLaws.{file_has, no_memory, reads_none, there_as}
use Rattle.vs_recover.proofs.image.read_head.Goals as goal

pub read_part-requires : goal.read_part-requires
read_part-requires g c =
    let room : length c.deref_mut.result.now ≡ c.in_ok-head.head.len = omega (arith, c.deref_mut.ensures.len) in
    record {
      inside = there_as g.F.World.tells (g.F.World.scene c.args.host.now) c.args.name.now (λ file. c.args.len ≡ length file)
          (λ file. 0 + length c.deref_mut.result.now ≤ length file) (λ file n. omega (arith, n, room, c.in_ok-head.ensures.len, c.min-size.ensures)) c.requires.len;
    }

pub returns-clause-value : goal.returns-clause-value
returns-clause-value g c = λ file is.
    let n : c.args.len ≡ length file = file_has _ _ _ file _ c.requires.len is in
    let read = c.in_ok-read_part.ensures.value file is in
    let room : length c.deref_mut.result.now ≡ c.in_ok-head.head.len = omega (arith, c.deref_mut.ensures.len) in
    head_loaded file c.read_part.new.into _ c.args.len (length c.deref_mut.result.now) 0 c.in_ok-head.head.len n (omega (arith, room, c.in_ok-head.ensures.len, c.min-size.ensures)) (omega arith) (sym room) read

pub returns-in_err-head-clause-reading : goal.returns-in_err-head-clause-reading
returns-in_err-head-clause-reading g c = reads_none g.F.World.tells (no_memory _ c.from_residual.ensures.1)

use Rattle.std.proofs.Common.{◌≡◌, ◌≤◌, ◌<◌, ◌+◌, ◌*◌, ◌/◌, length, arith, sym}
use Rattle.vs_recover.proofs.PageLaws.{pages_loaded, pages_past}
use Rattle.vs_recover.proofs.ReadingLaws.{file_has, no_memory, reads_none, there_as}
use Rattle.vs_recover.proofs.blocks.load_pages.Goals as goal
use Rattle.vs_recover.proofs.blocks.load_pages.Goals.{then-block-count-via-then-block-count, then-block-count-via-else-block-count+then-wanted-count}

pub returns-then-block-count-clause-value : goal.returns-then-block-count-clause-value
returns-then-block-count-clause-value g c = λ file is.
    let n : c.args.count ≡ length file / 4096 = file_has _ _ _ file _ c.requires.count is in
    let past : c.args.count < c.args.block + c.args.pages = elim c.then-block-count.branch [
      | then-block-count-via-then-block-count w ↦ omega (arith, c.requires.some)
      | then-block-count-via-else-block-count+then-wanted-count w ↦ omega arith
    ] in
    pages_past file c.args.block c.args.pages c.requires.some (omega arith)

pub read_part-requires : goal.read_part-requires
read_part-requires g c =
    let room : length c.deref_mut.result.now ≡ c.in_ok-bytes.bytes.len = omega (arith, c.deref_mut.ensures.len) in
    let size : length c.deref_mut.result.now ≡ 4096 * c.args.pages = omega (arith, room, c.in_ok-bytes.ensures.len, c.from-wanted.ensures) in
    record {
      inside = there_as g.F.World.tells (g.F.World.scene c.args.host.now) c.args.name.now (λ file. c.args.count ≡ length file / 4096)
          (λ file. c.args.block * 4096 + length c.deref_mut.result.now ≤ length file) (λ file n. omega (arith, n, size)) c.requires.count;
    }

pub returns-clause-value : goal.returns-clause-value
returns-clause-value g c = λ file is.
    let n : c.args.count ≡ length file / 4096 = file_has _ _ _ file _ c.requires.count is in
    let read = c.in_ok-read_part.ensures.value file is in
    let room : length c.deref_mut.result.now ≡ c.in_ok-bytes.bytes.len = omega (arith, c.deref_mut.ensures.len) in
    let size : length c.deref_mut.result.now ≡ 4096 * c.args.pages = omega (arith, room, c.in_ok-bytes.ensures.len, c.from-wanted.ensures) in
    pages_loaded file c.read_part.new.into _ c.args.count c.args.block c.args.pages (length c.deref_mut.result.now) (c.args.block * 4096) c.in_ok-bytes.bytes.len n (omega arith) (omega arith) (omega arith) size (sym room) read

pub returns-then-block-count-clause-reading : goal.returns-then-block-count-clause-reading
returns-then-block-count-clause-reading g c = reads_none g.F.World.tells (λ is. cc)

pub returns-in_err-bytes-clause-reading : goal.returns-in_err-bytes-clause-reading
returns-in_err-bytes-clause-reading g c = reads_none g.F.World.tells (no_memory _ c.from_residual.ensures.1)

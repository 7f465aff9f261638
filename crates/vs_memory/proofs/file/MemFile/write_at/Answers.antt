use Rattle.std.proofs.Common.{length, refl, rules}
use Rattle.vs_memory.specs.declared.file.MemFile.{MemFile}
use Rattle.vs_memory.proofs.Files.{file_written}
use Rattle.vs_memory.proofs.file.MemFile.write_at.Goals as goal

pub returns-clause-ok : goal.returns-clause-ok
returns-clause-ok c =
    let range = c.in_ok-range.ensures in
    let new : MemFile = record { mode = c.args.self.now.mode; bytes = c.put_bytes.new.bytes; changed = c.push.new.self; least = c.min-self.result; greatest = c.max-self.result } in
    file_written c.args.self.now new c.args.at (length c.args.piece.now) c.in_ok-range.range c.in_ok-push.ensures.items range.0 range.1
    (search rules) (search rules) (search rules) c.args.piece.now refl c.requires c.in_default.ensures.ok

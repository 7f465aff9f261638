use Rattle.std.proofs.Common.{◌-◌, rules}
use Rattle.vs_memory.specs.declared.file.MemFile.{MemFile}
use Rattle.vs_memory.proofs.Files.{file_cut}
use Rattle.vs_memory.proofs.file.MemFile.cut.Goals as goal

pub returns-clause-ok : goal.returns-clause-ok
returns-clause-ok c =
    let range = c.in_ok-range.ensures in
    let new : MemFile = record { mode = c.args.self.now.mode; bytes = c.truncate.new.self; changed = c.push.new.self; least = c.min-self.result; greatest = c.max-self.result } in
    file_cut c.args.self.now new c.args.len (c.len-size.result - c.args.len) c.in_ok-range.range c.in_ok-push.ensures.items range.0 range.1
    (search rules) (search rules) (search rules) (search rules) c.requires c.truncate.ensures.items

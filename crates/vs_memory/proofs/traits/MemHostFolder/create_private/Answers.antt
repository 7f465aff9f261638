use Rattle.std.proofs.Common.{◌≡◌}
use Rattle.std.specs.Prelude.{IsTrue, true, Ok, Some}
use Rattle.vs_host.specs.Disk.{CreatesFile, mode_in, owner_mode}
use Rattle.vs_memory.proofs.Creating.{created, created_mode}
use Rattle.vs_memory.proofs.Results.{ok_leads}
use Rattle.vs_memory.specs.Memory.{recorded, counted}
use Rattle.vs_memory.specs.declared.log.Call.{Call}
use Rattle.vs_memory.specs.Replay.{disk_after}
use Rattle.vs_memory.proofs.traits.MemHostFolder.create_private.Goals as goal

pub returns-clause-ok : goal.returns-clause-ok
returns-clause-ok c =
    ok_leads ((x : Call) × (c.create_call-call.result ≡ Ok x) × (c.play.new.self ≡ recorded x true (counted c.args.self.now)))
    (IsTrue true → CreatesFile c.args.name.now (disk_after c.args.self.now.base c.args.self.now.log) (disk_after c.play.new.self.base c.play.new.self.log)) c.play.result
    (λ is told. created c.args.self.now c.play.new.self c.args.name.now owner_mode c.create_call-call.result c.create_call-call.ensures is)
    c.play.ensures.ok

pub returns-clause-mode : goal.returns-clause-mode
returns-clause-mode c =
    ok_leads ((x : Call) × (c.create_call-call.result ≡ Ok x) × (c.play.new.self ≡ recorded x true (counted c.args.self.now)))
    (IsTrue true → mode_in (disk_after c.play.new.self.base c.play.new.self.log) c.args.name.now ≡ Some owner_mode) c.play.result
    (λ is told. created_mode c.args.self.now c.play.new.self c.args.name.now owner_mode c.create_call-call.result c.create_call-call.ensures is)
    c.play.ensures.ok

use Rattle.std.proofs.Common.{◌≡◌}
use Rattle.std.specs.Prelude.{Ok, IsTrue, true}
use Rattle.vs_host.specs.File.{Cuts}
use Rattle.vs_host.specs.Disk.{ChangesFile}
use Rattle.vs_memory.specs.declared.log.Call.{Call}
use Rattle.vs_memory.specs.Memory.{recorded, counted, folder_of}
use Rattle.vs_memory.proofs.Results.{ok_leads}
use Rattle.vs_memory.proofs.Playing.{cut_called}
use Rattle.vs_memory.proofs.traits.MemHostFolder.cut.Goals as goal

pub returns-clause-ok : goal.returns-clause-ok
returns-clause-ok c =
    let old = c.args.self.now in
    let new = c.play.new.self in
    let call = c.cut_call-call.result in
    ok_leads ((x : Call) × (call ≡ Ok x) × (new ≡ recorded x true (counted old))) (IsTrue true → ChangesFile c.args.name.now (Cuts c.args.len) (folder_of old) (folder_of new)) c.play.result
    (λ is told. cut_called old new c.args.name.now c.args.len call c.cut_call-call.ensures is) c.play.ensures.ok

use Rattle.std.proofs.Common.{◌≡◌, inl, rules}
use Rattle.std.specs.Prelude.{Ok, OnErr, IsTrue, true}
use Rattle.vs_host.specs.File.{Syncs}
use Rattle.vs_host.specs.Disk.{ChangesFile, MayBeLike, like}
use Rattle.vs_memory.specs.declared.log.Call.{Call}
use Rattle.vs_memory.specs.Memory.{recorded, counted, folder_of}
use Rattle.vs_memory.proofs.Results.{ok_leads, err_leads}
use Rattle.vs_memory.proofs.Playing.{sync_like_called}
use Rattle.vs_memory.proofs.traits.MemHostFolder.sync_like.Goals as goal

pub returns-clause-ok : goal.returns-clause-ok
returns-clause-ok c =
    let old = c.args.self.now in
    let new = c.play.new.self in
    let call = c.sync_like_call-call.result in
    ok_leads ((x : Call) × (call ≡ Ok x) × (new ≡ recorded x true (counted old))) (IsTrue true → ChangesFile c.args.name.now Syncs (like c.args.model.now c.args.name.now (folder_of old)) (folder_of new)) c.play.result
    (λ is told. sync_like_called old new c.args.model.now c.args.name.now call c.sync_like_call-call.ensures is) c.play.ensures.ok

pub returns-clause-err : goal.returns-clause-err
returns-clause-err c =
    let old = folder_of c.args.self.now in
    let new = folder_of c.play.new.self in
    let failed : OnErr c.play.result (new ≡ old) = search rules in
    err_leads (new ≡ old) (MayBeLike c.args.model.now c.args.name.now old new) c.play.result (λ same. inl same) failed

use Rattle.std.proofs.Common.{◌≡◌}
use Rattle.std.specs.Prelude.{Ok, IsTrue, true}
use Rattle.vs_host.specs.File.{Writes}
use Rattle.vs_host.specs.Disk.{ChangesFile}
use Rattle.vs_memory.specs.declared.log.Call.{Call}
use Rattle.vs_memory.specs.Memory.{recorded, counted, folder_of}
use Rattle.vs_memory.proofs.Results.{ok_leads}
use Rattle.std.specs.Prelude.{OnErr, OnOk}
use Rattle.vs_memory.proofs.Playing.{write_called, write_either}
use Rattle.std.proofs.Common.{rules}
use Rattle.vs_memory.proofs.traits.MemHostFolder.write_at.Goals as goal

pub returns-clause-ok : goal.returns-clause-ok
returns-clause-ok c =
    let old = c.args.self.now in
    let new = c.play.new.self in
    let call = c.write_call-call.result in
    ok_leads ((x : Call) × (call ≡ Ok x) × (new ≡ recorded x true (counted old))) (IsTrue true → ChangesFile c.args.name.now (Writes c.args.at c.args.piece.now) (folder_of old) (folder_of new)) c.play.result
    (λ is told. write_called old new c.args.name.now c.args.at c.args.piece.now call c.write_call-call.ensures is) c.play.ensures.ok

pub returns-clause-some : goal.returns-clause-some
returns-clause-some c =
    let old = c.args.self.now in
    let new = c.play.new.self in
    let call = c.write_call-call.result in
    let done : OnOk c.play.result (ChangesFile c.args.name.now (Writes c.args.at c.args.piece.now) (folder_of old) (folder_of new)) =
    ok_leads ((x : Call) × (call ≡ Ok x) × (new ≡ recorded x true (counted old))) (ChangesFile c.args.name.now (Writes c.args.at c.args.piece.now) (folder_of old) (folder_of new)) c.play.result
    (λ is. write_called old new c.args.name.now c.args.at c.args.piece.now call c.write_call-call.ensures is) c.play.ensures.ok in
    let failed : OnErr c.play.result (folder_of new ≡ folder_of old) = search rules in
    λ told. write_either old new c.args.name.now c.args.at c.args.piece.now c.play.result (c.requires told) done failed

use Rattle.std.proofs.Common.{◌≡◌, ◌≤◌, ◌++◌, [], ◌∷◌, ℕ, List, Option, Some, IsTrue, length, sym, subst, arith}
use Rattle.std.specs.Prelude.{IsSomeAnd}
use Rattle.vs_host.specs.File.{Writes}
use Rattle.vs_host.specs.Disk.{ChangesFile}
use Rattle.vs_host.specs.Trace.{Wrote}
use Rattle.vs_host.specs.World.{Scene, content_of}
use Rattle.vs_disk.proofs.Runs.{one_call}
use Rattle.vs_backup.specs.Works.{Fills}
use Rattle.vs_backup.proofs.Frames.{ok_leads}
use Rattle.vs_backup.proofs.Filling.{fills_write, size_at, bytes_at, written_end}
use Rattle.vs_backup.proofs.fill.put_piece.Goals as goal

pub returns-clause-runs : goal.returns-clause-runs
returns-clause-runs g c told =
    let s0 : Scene = g.D.World.scene c.args.desk.now in
    let s1 : Scene = g.D.World.scene c.write_at.new.self in
    one_call (Fills c.args.name.now) Wrote (c.args.name.now ∷ []) c.write_at.result s0 s1 c.write_at.ensures.kept.frame (c.write_at.ensures.told told)
    (fills_write c.args.name.now c.args.at (length c.args.piece.now) s0.folder s1.folder (c.write_at.ensures.some told))

pub returns-clause-ok : goal.returns-clause-ok
returns-clause-ok g c =
    let s0 : Scene = g.D.World.scene c.args.desk.now in
    let s1 : Scene = g.D.World.scene c.write_at.new.self in
    ok_leads (IsTrue g.D.World.tells.folder → ChangesFile c.args.name.now (Writes c.args.at c.args.piece.now) s0.folder s1.folder)
    (IsTrue g.D.World.tells.folder → (bytes : List ℕ) → content_of s0 c.args.name.now ≡ Some bytes → content_of s1 c.args.name.now ≡ Some (bytes ++ c.args.piece.now)) c.write_at.result
    (λ writes told bytes is. written_end c.args.name.now c.args.at c.args.piece.now bytes s0.folder s1.folder (writes told) is (size_at s0.folder c.args.name.now c.args.at bytes is (c.requires.there told))) c.write_at.ensures.ok

pub write_at-requires-clause-there : goal.write_at-requires-clause-there
write_at-requires-clause-there g c told =
    let s0 : Scene = g.D.World.scene c.args.desk.now in
    let has = bytes_at s0.folder c.args.name.now c.args.at (c.requires.there told) in
    subst (λ (o : Option (List ℕ)). IsSomeAnd o (λ b. c.args.at ≤ length b)) (sym has.1) (omega (arith, has.2))

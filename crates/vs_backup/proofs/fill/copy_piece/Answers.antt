use Rattle.std.proofs.Common.{◌≡◌, ◌∙◌, ◌+◌, ◌++◌, [], ◌∷◌, ℕ, List, Some, IsTrue, length, take, drop, sym, ap, arith, length-take}
use Rattle.vs_host.specs.Disk.{Disk, content_in}
use Rattle.vs_host.specs.Trace.{Read}
use Rattle.vs_host.specs.World.{Scene, content_of}
use Rattle.vs_disk.proofs.Runs.{one_look, reads_change}
use Rattle.vs_disk.proofs.Contents.{of_bytes, some_bytes}
use Rattle.vs_backup.proofs.Frames.{ok_leads}
use Rattle.vs_backup.proofs.Filling.{fills_on, looks_fills, size_is, piece_more}
use Rattle.vs_backup.proofs.Going as going
use Rattle.vs_backup.proofs.fill.copy_piece.Goals as goal

pub returns-in_err-read_at-clause-runs : goal.returns-in_err-read_at-clause-runs
returns-in_err-read_at-clause-runs g c told =
    let s0 : Scene = g.D.World.scene c.args.desk.now in
    let s1 : Scene = g.D.World.scene c.read_at.new.self in
    looks_fills c.args.to.now s0 s1 (one_look Read (c.args.from.now ∷ []) c.read_at.result s0 s1 c.read_at.ensures.kept.frame (c.read_at.ensures.told told))

pub returns-clause-runs : goal.returns-clause-runs
returns-clause-runs g c told =
    let s0 : Scene = g.D.World.scene c.args.desk.now in
    let s1 : Scene = g.D.World.scene c.read_at.new.self in
    let s2 : Scene = g.D.World.scene c.put_piece.new.desk in
    let looks = one_look Read (c.args.from.now ∷ []) c.read_at.result s0 s1 c.read_at.ensures.kept.frame (c.read_at.ensures.told told) in
    fills_on c.args.to.now s0 s1 s2 (reads_change s0 s1 c.read_at.ensures.kept.frame) (looks_fills c.args.to.now s0 s1 looks) (c.put_piece.ensures.runs told)

pub returns-clause-ok : goal.returns-clause-ok
returns-clause-ok g c =
    let s0 : Scene = g.D.World.scene c.args.desk.now in
    let s1 : Scene = g.D.World.scene c.read_at.new.self in
    let s2 : Scene = g.D.World.scene c.put_piece.new.desk in
    let same : s1.folder ≡ s0.folder = ap (λ (s : Scene). s.folder) c.read_at.ensures.kept.frame in
    ok_leads (IsTrue g.D.World.tells.folder → (bytes : List ℕ) → content_of s1 c.args.to.now ≡ Some bytes → content_of s2 c.args.to.now ≡ Some (bytes ++ c.read_at.new.into))
    (IsTrue g.D.World.tells.folder → (bytes : List ℕ) → content_of s0 c.args.from.now ≡ Some bytes → content_of s2 c.args.to.now ≡ Some (take (c.args.at + length c.args.buffer.now) bytes))
    c.put_piece.result
    (λ puts told bytes is.
    let had = c.requires.there told in
    let one : had.0 ≡ bytes = some_bytes had.0 bytes (sym had.1 ∙ is) in
    let read = of_bytes s0.folder c.args.from.now bytes (λ b. c.read_at.new.into ≡ take (length c.args.buffer.now) (drop c.args.at b)) is (c.in_ok-read_at.ensures.value told) in
    let so_far : content_of s1 c.args.to.now ≡ Some (take c.args.at bytes) = ap (λ (d : Disk). content_in d c.args.to.now) same ∙ had.3 ∙ ap (λ (b : List ℕ). Some (take c.args.at b)) one in
    puts told (take c.args.at bytes) so_far ∙ ap (λ (b : List ℕ). Some b) (piece_more bytes c.read_at.new.into c.args.at (length c.args.buffer.now) read))
    c.put_piece.ensures.ok

pub put_piece-requires-clause-there : goal.put_piece-requires-clause-there
put_piece-requires-clause-there g c told =
    let s0 : Scene = g.D.World.scene c.args.desk.now in
    let s1 : Scene = g.D.World.scene c.read_at.new.self in
    let same : s1.folder ≡ s0.folder = ap (λ (s : Scene). s.folder) c.read_at.ensures.kept.frame in
    let had = c.requires.there told in
    let so_far : content_of s1 c.args.to.now ≡ Some (take c.args.at had.0) = ap (λ (d : Disk). content_in d c.args.to.now) same ∙ had.3 in
    size_is s1.folder c.args.to.now c.args.at (take c.args.at had.0) so_far (omega (arith, length-take c.args.at had.0, had.2))

pub returns-clause-kept : goal.returns-clause-kept
returns-clause-kept g c = going.GoesOn-then g.met.D.Desk.stays_on (λ is. absurd (cc)) (going.GoesOn-reads c.in_ok-read_at.ensures.kept) c.put_piece.ensures.kept

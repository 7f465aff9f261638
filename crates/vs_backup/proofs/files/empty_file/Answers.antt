use Rattle.std.proofs.Common.{◌≡◌, ◌≤◌, [], ◌∷◌, ℕ, List, Option, IsTrue, length, sym, subst, arith}
use Rattle.std.specs.Prelude.{IsSomeAnd}
use Rattle.vs_host.specs.File.{Cuts}
use Rattle.vs_host.specs.Disk.{ChangesFile}
use Rattle.vs_host.specs.Trace.{Cut}
use Rattle.vs_host.specs.World.{Scene}
use Rattle.vs_disk.proofs.Contents.{some_content}
use Rattle.vs_disk.proofs.Runs.{one_call}
use Rattle.vs_backup.specs.Works.{Empties, Fills, Unchanged}
use Rattle.vs_backup.proofs.Filling.{fills_cut}
use Rattle.vs_backup.proofs.Frames.{ok_leads, err_leads}
use Rattle.vs_backup.proofs.files.empty_file.Goals as goal

pub returns-clause-ok : goal.returns-clause-ok
returns-clause-ok g c =
    let name = c.args.name.now in
    let s0 : Scene = g.D.World.scene c.args.desk.now in
    let s1 : Scene = g.D.World.scene c.cut.new.self in
    ok_leads (IsTrue g.D.World.tells.folder → ChangesFile name (Cuts 0) s0.folder s1.folder) (Empties g.D.World.tells.folder name s0 s1) c.cut.result
    (λ ok. record {
      folder = λ told. g.D.World.is_folder c.args.desk.now told;
      runs = λ told. one_call (Fills name) Cut (name ∷ []) c.cut.result s0 s1 c.cut.ensures.kept.frame (c.cut.ensures.told told) (fills_cut name s0.folder s1.folder (ok told));
      cuts = ok;
    })
    c.cut.ensures.ok

pub returns-clause-err : goal.returns-clause-err
returns-clause-err g c =
    let s0 : Scene = g.D.World.scene c.args.desk.now in
    let s1 : Scene = g.D.World.scene c.cut.new.self in
    err_leads (s1.folder ≡ s0.folder) (Unchanged g.D.World.tells.folder s0 s1) c.cut.result
    (λ same. record { looks = λ told. one_call (λ a b. b ≡ a) Cut (c.args.name.now ∷ []) c.cut.result s0 s1 c.cut.ensures.kept.frame (c.cut.ensures.told told) same }) c.cut.ensures.err

pub cut-requires-clause-there : goal.cut-requires-clause-there
cut-requires-clause-there g c told =
    let had = some_content (g.D.World.scene c.args.desk.now).folder c.args.name.now (c.requires.there told) in
    subst (λ (o : Option (List ℕ)). IsSomeAnd o (λ bytes. 0 ≤ length bytes)) (sym had.1) (omega arith)

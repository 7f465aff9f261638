use Rattle.std.proofs.Common.{◌≡◌, ◌≤◌, ◌∙◌, [], ◌∷◌, ℕ, List, Option, Some, IsTrue, length, refl, sym, ap, subst, arith}
use Rattle.std.specs.Prelude.{IsSomeAnd, is_some, unwrap_or}
use Rattle.std.proofs.lemmas.Result.{on_ok_weaker}
use Rattle.vs_host.specs.Disk.{Mode, Name, like, mode_in}
use Rattle.vs_host.specs.File.{Syncs, WritesSome}
use Rattle.vs_host.specs.Trace.{Synced, Wrote}
use Rattle.vs_host.specs.World.{Scene}
use Rattle.vs_disk.specs.Images.{Changes}
use Rattle.vs_disk.proofs.Contents.{synced_content}
use Rattle.vs_disk.proofs.Quiet.{none_call, none_then}
use Rattle.vs_pair.proofs.Calls.{write_acts}
use Rattle.vs_backup.specs.Works.{Spares, one_name}
use Rattle.vs_backup.proofs.Frames.{alone_file}
use Rattle.vs_backup.proofs.Filling.{written_end}
use Rattle.vs_backup.proofs.Modes.{mode_file}
use Rattle.vs_ubind.proofs.Calls.{spares_alone, spares_like, spares_synced_like}
use Rattle.vs_ubind.proofs.Modes.{mode_of_like}
use Rattle.vs_ubind.proofs.Told.{calls_one, calls_then}
use Rattle.vs_ubind.proofs.Works.{like_of}
use Rattle.vs_ubind.proofs.storing.fill.Goals as goal

pub write_at-requires : goal.write_at-requires
write_at-requires g c told = subst (λ (o : Option (List ℕ)). IsSomeAnd o (λ bytes. 0 ≤ length bytes)) (sym (c.requires.empty told)) (omega arith)

pub returns-in_err-write_at-clause-acts : goal.returns-in_err-write_at-clause-acts
returns-in_err-write_at-clause-acts g c =
    let name = c.args.name.now in
    let s0 : Scene = g.F.World.scene c.args.host.now in
    let s1 : Scene = g.F.World.scene c.write_at.new.self in
    like_of g.F.World.tells c.args.model.now (Spares (one_name name)) s0 s1
    (spares_alone g.F.World.tells name s0 s1 c.requires.alone
    (write_acts g.F.World.tells name Changes 0 (length c.args.bytes.now) (λ a b some. tt) c.write_at.result s0 s1 c.write_at.ensures.some c.write_at.ensures.cause c.write_at.ensures.told c.write_at.ensures.frame))

pub sync_like-requires : goal.sync_like-requires
sync_like-requires g c told =
    ap (λ (o : Option (List ℕ)). is_some o)
    (written_end c.args.name.now 0 c.args.bytes.now [] (g.F.World.scene c.args.host.now).folder (g.F.World.scene c.write_at.new.self).folder (c.in_ok-write_at.ensures.ok told) (c.requires.empty told) refl)

pub returns-clause-acts : goal.returns-clause-acts
returns-clause-acts g c =
    let name = c.args.name.now in
    let model = c.args.model.now in
    let s0 : Scene = g.F.World.scene c.args.host.now in
    let s1 : Scene = g.F.World.scene c.write_at.new.self in
    let s2 : Scene = g.F.World.scene c.sync_like.new.self in
    spares_like g.F.World.tells model (one_name name) s0 s1 s2
    (none_call g.F.World.tells Wrote (name ∷ []) c.write_at.result s0 s1 c.write_at.ensures.frame c.write_at.ensures.told c.in_ok-write_at.ensures.quiet)
    (like_of g.F.World.tells model (Spares (one_name name)) s0 s1
    (spares_alone g.F.World.tells name s0 s1 c.requires.alone
    (write_acts g.F.World.tells name Changes 0 (length c.args.bytes.now) (λ a b some. tt) c.write_at.result s0 s1 c.write_at.ensures.some c.write_at.ensures.cause c.write_at.ensures.told c.write_at.ensures.frame)))
    (spares_synced_like g.F.World.tells model name c.sync_like.result s1 s2 (λ told. alone_file name (WritesSome 0 (length c.args.bytes.now)) s0.folder s1.folder (c.write_at.ensures.some told) (c.requires.alone told))
    c.sync_like.ensures.ok c.sync_like.ensures.err c.sync_like.ensures.cause c.sync_like.ensures.told c.sync_like.ensures.frame)

pub returns-clause-synced : goal.returns-clause-synced
returns-clause-synced g c =
    let s0 : Scene = g.F.World.scene c.args.host.now in
    let s1 : Scene = g.F.World.scene c.write_at.new.self in
    let s2 : Scene = g.F.World.scene c.sync_like.new.self in
    on_ok_weaker c.sync_like.result
    (λ syncs told. synced_content c.args.name.now c.args.bytes.now (like c.args.model.now c.args.name.now s1.folder) s2.folder (syncs told)
    (written_end c.args.name.now 0 c.args.bytes.now [] s0.folder s1.folder (c.in_ok-write_at.ensures.ok told) (c.requires.empty told) refl)) c.sync_like.ensures.ok

pub returns-clause-none : goal.returns-clause-none
returns-clause-none g c =
    let s0 : Scene = g.F.World.scene c.args.host.now in
    let s1 : Scene = g.F.World.scene c.write_at.new.self in
    let s2 : Scene = g.F.World.scene c.sync_like.new.self in
    on_ok_weaker c.sync_like.result
    (λ quiet. none_then g.F.World.tells s0 s1 s2
    (none_call g.F.World.tells Wrote (c.args.name.now ∷ []) c.write_at.result s0 s1 c.write_at.ensures.frame c.write_at.ensures.told c.in_ok-write_at.ensures.quiet)
    (none_call g.F.World.tells Synced (c.args.name.now ∷ []) c.sync_like.result s1 s2 c.sync_like.ensures.frame c.sync_like.ensures.told quiet))
    c.sync_like.ensures.quiet

pub returns-in_err-write_at-clause-calls : goal.returns-in_err-write_at-clause-calls
returns-in_err-write_at-clause-calls g c =
    calls_one g.F.World.tells (one_name c.args.name.now) Wrote (c.args.name.now ∷ []) (refl, tt) (λ none. absurd (cc)) c.write_at.result (g.F.World.scene c.args.host.now) (g.F.World.scene c.write_at.new.self) c.write_at.ensures.told

pub returns-clause-calls : goal.returns-clause-calls
returns-clause-calls g c =
    let on = one_name c.args.name.now in
    let s0 : Scene = g.F.World.scene c.args.host.now in
    let s1 : Scene = g.F.World.scene c.write_at.new.self in
    let s2 : Scene = g.F.World.scene c.sync_like.new.self in
    calls_then g.F.World.tells on s0 s1 s2 (calls_one g.F.World.tells on Wrote (c.args.name.now ∷ []) (refl, tt) (λ none. absurd (cc)) c.write_at.result s0 s1 c.write_at.ensures.told)
    (calls_one g.F.World.tells on Synced (c.args.name.now ∷ []) (refl, tt) (λ none. absurd (cc)) c.sync_like.result s1 s2 c.sync_like.ensures.told)

pub returns-clause-mode : goal.returns-clause-mode
returns-clause-mode g c =
    let name = c.args.name.now in
    let model = c.args.model.now in
    let s0 : Scene = g.F.World.scene c.args.host.now in
    let s1 : Scene = g.F.World.scene c.write_at.new.self in
    let s2 : Scene = g.F.World.scene c.sync_like.new.self in
    let wrote : IsTrue g.F.World.tells.folder → (other : Name) → mode_in s1.folder other ≡ mode_in s0.folder other =
    λ told other. mode_file name other (WritesSome 0 (length c.args.bytes.now)) s0.folder s1.folder (c.write_at.ensures.some told) in
    on_ok_weaker c.sync_like.result
    (λ syncs told own is. mode_file name name Syncs (like model name s1.folder) s2.folder (syncs told)
    ∙ (mode_of_like model name own s1.folder (wrote told name ∙ is) ∙ ap (λ (mode : Option Mode). Some (unwrap_or mode own)) (wrote told model)))
    c.sync_like.ensures.ok

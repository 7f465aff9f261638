use Rattle.std.proofs.Common.{◌∙◌, [], ◌∷◌, refl, sym}
use Rattle.std.specs.Prelude.{IsSome}
use Rattle.std.proofs.lemmas.Result.{on_ok_weaker}
use Rattle.vs_host.specs.Disk.{ChangesNames, Removes, content_in}
use Rattle.vs_host.specs.Trace.{Looked, Removed}
use Rattle.vs_host.specs.World.{Scene}
use Rattle.vs_disk.proofs.Quiet.{none_call, none_then}
use Rattle.vs_pair.proofs.Calls.{either_acts, look_none, look_same, removes_private}
use Rattle.vs_backup.specs.Works.{one_name}
use Rattle.vs_backup.proofs.Frames.{spares_removed}
use Rattle.vs_ubind.proofs.Calls.{spares_acts, spares_look, spares_of}
use Rattle.vs_ubind.proofs.Told.{calls_one, calls_then}
use Rattle.vs_ubind.proofs.storing.clear.Goals as goal

pub returns-in_err-has-clause-acts : goal.returns-in_err-has-clause-acts
returns-in_err-has-clause-acts g c =
    let s0 : Scene = g.F.World.scene c.args.host.now in
    let s1 : Scene = g.F.World.scene c.has.new.self in
    spares_look g.F.World.tells (one_name c.args.name.now) Looked (c.args.name.now ∷ []) c.has.result s0 s1 c.has.ensures.frame c.has.ensures.cause c.has.ensures.told

pub remove-requires : goal.remove-requires
remove-requires g c told =
    look_same (λ d. IsSome (content_in d c.args.name.now)) (g.F.World.scene c.args.host.now) (g.F.World.scene c.has.new.self) c.has.ensures.frame (sym (c.in_ok-has.ensures.value told) ∙ c.if-branch.true)

pub returns-then-branch-clause-acts : goal.returns-then-branch-clause-acts
returns-then-branch-clause-acts g c =
    let on = one_name c.args.name.now in
    let s0 : Scene = g.F.World.scene c.args.host.now in
    let s1 : Scene = g.F.World.scene c.has.new.self in
    let s2 : Scene = g.F.World.scene c.remove.new.self in
    spares_acts g.F.World.tells on s0 s1 s2
    (look_none g.F.World.tells Looked (c.args.name.now ∷ []) c.has.result s0 s1 c.has.ensures.frame c.has.ensures.told c.in_ok-has.ensures.quiet)
    (spares_look g.F.World.tells on Looked (c.args.name.now ∷ []) c.has.result s0 s1 c.has.ensures.frame c.has.ensures.cause c.has.ensures.told)
    (spares_of g.F.World.tells on (ChangesNames (Removes c.args.name.now)) (spares_removed c.args.name.now) s1 s2
    (either_acts g.F.World.tells (ChangesNames (Removes c.args.name.now)) Removed (c.args.name.now ∷ []) c.remove.result s1 s2
    c.remove.ensures.ok c.remove.ensures.err c.remove.ensures.cause c.remove.ensures.told c.remove.ensures.frame (λ told. removes_private c.args.name.now s1.folder s2.folder)))

pub returns-then-branch-clause-none : goal.returns-then-branch-clause-none
returns-then-branch-clause-none g c =
    let s0 : Scene = g.F.World.scene c.args.host.now in
    let s1 : Scene = g.F.World.scene c.has.new.self in
    let s2 : Scene = g.F.World.scene c.remove.new.self in
    on_ok_weaker c.remove.result
    (λ quiet. none_then g.F.World.tells s0 s1 s2
    (look_none g.F.World.tells Looked (c.args.name.now ∷ []) c.has.result s0 s1 c.has.ensures.frame c.has.ensures.told c.in_ok-has.ensures.quiet)
    (none_call g.F.World.tells Removed (c.args.name.now ∷ []) c.remove.result s1 s2 c.remove.ensures.frame c.remove.ensures.told quiet))
    c.remove.ensures.quiet

pub returns-clause-acts : goal.returns-clause-acts
returns-clause-acts g c =
    let s0 : Scene = g.F.World.scene c.args.host.now in
    let s1 : Scene = g.F.World.scene c.has.new.self in
    spares_look g.F.World.tells (one_name c.args.name.now) Looked (c.args.name.now ∷ []) c.has.result s0 s1 c.has.ensures.frame c.has.ensures.cause c.has.ensures.told

pub returns-clause-none : goal.returns-clause-none
returns-clause-none g c =
    look_none g.F.World.tells Looked (c.args.name.now ∷ []) c.has.result (g.F.World.scene c.args.host.now) (g.F.World.scene c.has.new.self) c.has.ensures.frame c.has.ensures.told c.in_ok-has.ensures.quiet

pub returns-in_err-has-clause-calls : goal.returns-in_err-has-clause-calls
returns-in_err-has-clause-calls g c =
    calls_one g.F.World.tells (one_name c.args.name.now) Looked (c.args.name.now ∷ []) (refl, tt) (λ none. absurd (cc)) c.has.result (g.F.World.scene c.args.host.now) (g.F.World.scene c.has.new.self) c.has.ensures.told

pub returns-then-branch-clause-calls : goal.returns-then-branch-clause-calls
returns-then-branch-clause-calls g c =
    let on = one_name c.args.name.now in
    let s0 : Scene = g.F.World.scene c.args.host.now in
    let s1 : Scene = g.F.World.scene c.has.new.self in
    let s2 : Scene = g.F.World.scene c.remove.new.self in
    calls_then g.F.World.tells on s0 s1 s2 (calls_one g.F.World.tells on Looked (c.args.name.now ∷ []) (refl, tt) (λ none. absurd (cc)) c.has.result s0 s1 c.has.ensures.told)
    (calls_one g.F.World.tells on Removed (c.args.name.now ∷ []) (refl, tt) (λ none. absurd (cc)) c.remove.result s1 s2 c.remove.ensures.told)

pub returns-clause-calls : goal.returns-clause-calls
returns-clause-calls g c =
    calls_one g.F.World.tells (one_name c.args.name.now) Looked (c.args.name.now ∷ []) (refl, tt) (λ none. absurd (cc)) c.has.result (g.F.World.scene c.args.host.now) (g.F.World.scene c.has.new.self) c.has.ensures.told

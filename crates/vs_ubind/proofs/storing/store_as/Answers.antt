use Rattle.std.proofs.Common.{◌∙◌, Option, Some, ap, sym}
use Rattle.std.specs.Prelude.{unwrap_or}
use Rattle.std.proofs.lemmas.Result.{on_ok_weaker}
use Rattle.vs_host.specs.Disk.{Mode, owner_mode}
use Rattle.vs_host.specs.World.{Scene}
use Rattle.vs_disk.specs.Images.{Takes}
use Rattle.vs_disk.proofs.Runs.{runs_on}
use Rattle.vs_disk.proofs.Contents.{takes_then}
use Rattle.vs_disk.proofs.Modes.{has_kept}
use Rattle.vs_disk.proofs.Quiet.{none_then}
use Rattle.vs_backup.specs.Works.{Spares, one_name, two_names}
use Rattle.vs_backup.proofs.Calls.{synced_there}
use Rattle.vs_backup.proofs.Modes.{mode_spared}
use Rattle.vs_ubind.proofs.Calls.{filled_like, spares_works, takes_one, wider_like}
use Rattle.vs_ubind.proofs.Modes.{has_like, modes_on}
use Rattle.vs_ubind.proofs.Told.{calls_then, stores_on, stores_then}
use Rattle.vs_ubind.proofs.Works.{like_of, like_works, works_of_like}
use Rattle.vs_ubind.proofs.storing.store_as.Goals as goal

pub take_name-requires-clause-differ : goal.take_name-requires-clause-differ
take_name-requires-clause-differ g c same = c.requires (sym same)

pub take_name-requires-clause-there : goal.take_name-requires-clause-there
take_name-requires-clause-there g c told =
    synced_there c.args.temporary.now c.args.bytes.now (g.F.World.scene c.fill.new.host).folder (c.in_ok-fill.ensures.synced told)

pub returns-in_err-make_anew-clause-acts : goal.returns-in_err-make_anew-clause-acts
returns-in_err-make_anew-clause-acts g c =
    let s0 : Scene = g.F.World.scene c.args.host.now in
    let s1 : Scene = g.F.World.scene c.make_anew.new.host in
    wider_like g.F.World.tells c.args.model.now c.args.temporary.now c.args.name.now s0 s1 (like_of g.F.World.tells c.args.model.now (Spares (one_name c.args.temporary.now)) s0 s1 c.make_anew.ensures.acts)

pub returns-in_err-make_anew-clause-takes : goal.returns-in_err-make_anew-clause-takes
returns-in_err-make_anew-clause-takes g c told =
    let s0 : Scene = g.F.World.scene c.args.host.now in
    let s1 : Scene = g.F.World.scene c.make_anew.new.host in
    takes_one g.F.World.tells c.args.model.now c.args.name.now c.args.temporary.now c.args.bytes.now s0 s1 c.requires
    (like_of g.F.World.tells c.args.model.now (Spares (one_name c.args.temporary.now)) s0 s1 c.make_anew.ensures.acts) told

pub returns-in_err-fill-clause-acts : goal.returns-in_err-fill-clause-acts
returns-in_err-fill-clause-acts g c =
    let s0 : Scene = g.F.World.scene c.args.host.now in
    let s1 : Scene = g.F.World.scene c.make_anew.new.host in
    let s2 : Scene = g.F.World.scene c.fill.new.host in
    wider_like g.F.World.tells c.args.model.now c.args.temporary.now c.args.name.now s0 s2
    (filled_like g.F.World.tells c.args.model.now c.args.temporary.now s0 s1 s2 c.in_ok-make_anew.ensures.none c.make_anew.ensures.acts c.fill.ensures.acts)

pub returns-in_err-fill-clause-takes : goal.returns-in_err-fill-clause-takes
returns-in_err-fill-clause-takes g c told =
    let s0 : Scene = g.F.World.scene c.args.host.now in
    let s1 : Scene = g.F.World.scene c.make_anew.new.host in
    let s2 : Scene = g.F.World.scene c.fill.new.host in
    takes_one g.F.World.tells c.args.model.now c.args.name.now c.args.temporary.now c.args.bytes.now s0 s2 c.requires
    (filled_like g.F.World.tells c.args.model.now c.args.temporary.now s0 s1 s2 c.in_ok-make_anew.ensures.none c.make_anew.ensures.acts c.fill.ensures.acts) told

pub returns-clause-acts : goal.returns-clause-acts
returns-clause-acts g c =
    let model = c.args.model.now in
    let both = two_names c.args.temporary.now c.args.name.now in
    let s0 : Scene = g.F.World.scene c.args.host.now in
    let s1 : Scene = g.F.World.scene c.make_anew.new.host in
    let s2 : Scene = g.F.World.scene c.fill.new.host in
    let s3 : Scene = g.F.World.scene c.take_name.new.host in
    let filled = filled_like g.F.World.tells model c.args.temporary.now s0 s1 s2 c.in_ok-make_anew.ensures.none c.make_anew.ensures.acts c.fill.ensures.acts in
    like_works g.F.World.tells model (Spares both) s0 s3
    (spares_works g.F.World.tells both s0 s2 s3 (none_then g.F.World.tells s0 s1 s2 c.in_ok-make_anew.ensures.none c.in_ok-fill.ensures.none)
    (works_of_like g.F.World.tells model (Spares both) s0 s2 (wider_like g.F.World.tells model c.args.temporary.now c.args.name.now s0 s2 filled)) c.take_name.ensures.acts)
    (λ told allowed may has. modes_on allowed s0 s2 s3 filled.frame (filled.modes told allowed may has)
    (c.take_name.ensures.modes told allowed
    (has_like allowed model c.args.temporary.now owner_mode s1.folder s2.folder may (has_kept allowed model s0.folder s1.folder (c.make_anew.ensures.acts.modes told allowed may).now has)
    (c.in_ok-fill.ensures.mode told owner_mode (c.in_ok-make_anew.ensures.mode told)))))

pub returns-clause-takes : goal.returns-clause-takes
returns-clause-takes g c told =
    let undo = c.args.name.now in
    let bytes = c.args.bytes.now in
    let s0 : Scene = g.F.World.scene c.args.host.now in
    let s1 : Scene = g.F.World.scene c.make_anew.new.host in
    let s2 : Scene = g.F.World.scene c.fill.new.host in
    let s3 : Scene = g.F.World.scene c.take_name.new.host in
    let filled = filled_like g.F.World.tells c.args.model.now c.args.temporary.now s0 s1 s2 c.in_ok-make_anew.ensures.none c.make_anew.ensures.acts c.fill.ensures.acts in
    runs_on (Takes undo bytes) (takes_then undo bytes) s0 s2 s3 filled.frame
    (takes_one g.F.World.tells c.args.model.now undo c.args.temporary.now bytes s0 s2 c.requires filled told)
    (c.take_name.ensures.takes told bytes (c.in_ok-fill.ensures.synced told))

pub returns-clause-holds : goal.returns-clause-holds
returns-clause-holds g c =
    on_ok_weaker c.take_name.result (λ holds told. holds told c.args.bytes.now (c.in_ok-fill.ensures.synced told)) c.take_name.ensures.holds

pub returns-clause-none : goal.returns-clause-none
returns-clause-none g c =
    let s0 : Scene = g.F.World.scene c.args.host.now in
    let s1 : Scene = g.F.World.scene c.make_anew.new.host in
    let s2 : Scene = g.F.World.scene c.fill.new.host in
    let s3 : Scene = g.F.World.scene c.take_name.new.host in
    on_ok_weaker c.take_name.result
    (λ last. none_then g.F.World.tells s0 s2 s3 (none_then g.F.World.tells s0 s1 s2 c.in_ok-make_anew.ensures.none c.in_ok-fill.ensures.none) last)
    c.take_name.ensures.none

pub returns-in_err-make_anew-clause-calls : goal.returns-in_err-make_anew-clause-calls
returns-in_err-make_anew-clause-calls g c told =
    stores_on g.F.World.tells c.args.temporary.now c.args.name.now (g.F.World.scene c.args.host.now) (g.F.World.scene c.make_anew.new.host) told c.make_anew.ensures.calls

pub returns-in_err-fill-clause-calls : goal.returns-in_err-fill-clause-calls
returns-in_err-fill-clause-calls g c told =
    let s0 : Scene = g.F.World.scene c.args.host.now in
    let s1 : Scene = g.F.World.scene c.make_anew.new.host in
    let s2 : Scene = g.F.World.scene c.fill.new.host in
    stores_on g.F.World.tells c.args.temporary.now c.args.name.now s0 s2 told (calls_then g.F.World.tells (one_name c.args.temporary.now) s0 s1 s2 c.make_anew.ensures.calls c.fill.ensures.calls)

pub returns-clause-calls : goal.returns-clause-calls
returns-clause-calls g c told =
    let s0 : Scene = g.F.World.scene c.args.host.now in
    let s1 : Scene = g.F.World.scene c.make_anew.new.host in
    let s2 : Scene = g.F.World.scene c.fill.new.host in
    let s3 : Scene = g.F.World.scene c.take_name.new.host in
    stores_then g.F.World.tells c.args.temporary.now c.args.name.now s0 s2 s3 told
    (calls_then g.F.World.tells (one_name c.args.temporary.now) s0 s1 s2 c.make_anew.ensures.calls c.fill.ensures.calls)
    (c.take_name.ensures.calls told)

pub returns-clause-mode : goal.returns-clause-mode
returns-clause-mode g c =
    let model = c.args.model.now in
    let s0 : Scene = g.F.World.scene c.args.host.now in
    let s1 : Scene = g.F.World.scene c.make_anew.new.host in
    on_ok_weaker c.take_name.result
    (λ takes told other. takes told
    ∙ (c.in_ok-fill.ensures.mode told owner_mode (c.in_ok-make_anew.ensures.mode told)
    ∙ ap (λ (mode : Option Mode). Some (unwrap_or mode owner_mode)) (mode_spared (one_name c.args.temporary.now) model s0.folder s1.folder other (c.make_anew.ensures.acts.runs told).now)))
    c.take_name.ensures.mode

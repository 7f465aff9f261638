use Rattle.std.proofs.Common.{List, ℕ, Option, Ok, subst}
use Rattle.vs_host.specs.World.{Scene, content_of}
use Rattle.vs_recover.specs.declared.choices.Chosen.{Chosen}
use Rattle.vs_recover.specs.Choices.{IsChoice}
use Rattle.vs_recover.proofs.ReadingLaws.{reads_ok, reads_then, reads_within, still}
use Rattle.vs_modes.proofs.RecoverLaws.{calls_within}
use Rattle.vs_modes.proofs.RefusalLaws.{reads_refused}
use Rattle.vs_modes.proofs.recovering.find.Goals as goal

pub returns-in-Text-clause-found : goal.returns-in-Text-clause-found
returns-in-Text-clause-found g c = λ told.
    let swp : Option (List ℕ) = content_of (g.F.World.scene c.args.host.now) c.args.names.now.swp in
    let swo : Option (List ℕ) = content_of (g.F.World.scene c.args.host.now) c.args.names.now.swo in
    subst (λ (chosen : Chosen). IsChoice swp swo (Ok chosen)) c.in-Text.is (c.in_ok-text.ensures.answer told)

pub returns-in_err-salvaged-in-Salvage-clause-reading : goal.returns-in_err-salvaged-in-Salvage-clause-reading
returns-in_err-salvaged-in-Salvage-clause-reading g c =
    let s0 : Scene = g.F.World.scene c.args.host.now in
    let s1 : Scene = g.F.World.scene c.choose.new.host in
    reads_within (λ told. calls_within s0 s1 c.args.names.now c.in-Salvage.which (still c.in_ok-text.ensures.reading))
    (reads_refused c.in_err-salvaged-in-Salvage.was c.from_residual-in_err-salvaged-in-Salvage.ensures.1 (reads_then c.in_ok-text.ensures.reading c.salvage.ensures.reading))

pub returns-in_ok-salvaged-in-Salvage-clause-reading : goal.returns-in_ok-salvaged-in-Salvage-clause-reading
returns-in_ok-salvaged-in-Salvage-clause-reading g c =
    let s0 : Scene = g.F.World.scene c.args.host.now in
    let s1 : Scene = g.F.World.scene c.choose.new.host in
    reads_ok (calls_within s0 s1 c.args.names.now c.in-Salvage.which (still c.in_ok-text.ensures.reading)) (reads_then c.in_ok-text.ensures.reading c.in_ok-salvaged-in-Salvage.ensures.reading)

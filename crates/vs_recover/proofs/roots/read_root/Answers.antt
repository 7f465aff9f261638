use Rattle.vs_recover.proofs.ChoiceLaws.{found_file, opening_len, opening_zero, root_absent, root_some}
use Rattle.vs_recover.proofs.ReadingLaws.{reads_none}
use Rattle.vs_recover.proofs.roots.read_root.Goals as goal

pub opened_root-requires : goal.opened_root-requires
opened_root-requires g c = record {
  len = opening_len g.F.World.tells (g.F.World.scene c.args.host.now) c.args.name.now c.args.opening.now c.in-Some.opening c.in-Some.is c.requires.opening;
  zero = opening_zero g.F.World.tells (g.F.World.scene c.args.host.now) c.args.name.now c.args.opening.now c.in-Some.opening c.in-Some.is c.requires.opening;
}

pub returns-in_default-clause-root : goal.returns-in_default-clause-root
returns-in_default-clause-root g c = λ told. root_absent _ _ c.in_default.is (c.requires.opening told)

pub returns-clause-root : goal.returns-clause-root
returns-clause-root g c = λ told. root_some _ c.in_ok-root.root c.args.opening.now c.in-Some.opening c.in-Some.is (c.requires.opening told)
    (λ file is. c.in_ok-root.ensures.root file (found_file g.F.World.tells (g.F.World.scene c.args.host.now) c.args.name.now file told is))

pub returns-in_default-clause-reading : goal.returns-in_default-clause-reading
returns-in_default-clause-reading g c = reads_none g.F.World.tells (λ is. cc)

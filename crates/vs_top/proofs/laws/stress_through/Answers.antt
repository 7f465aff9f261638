use Rattle.vs_top.specs.Stress.{IsSceneOf}
use Rattle.vs_top.proofs.StressForms.{stress_ends, stress_marks}
use Rattle.vs_top.proofs.laws.stress_through.Goals as goal

pub returns-clause-ends : goal.returns-clause-ends
returns-clause-ends g c = stress_ends (IsSceneOf g.H.World.scene) g.H.World.tells

pub returns-clause-marks : goal.returns-clause-marks
returns-clause-marks g c = stress_marks (IsSceneOf g.H.World.scene) g.H.World.tells

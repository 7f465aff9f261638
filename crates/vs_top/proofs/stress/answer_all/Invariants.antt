use Rattle.std.proofs.Common.{◌≤◌, ◌+◌, List, [], length, true, IsTrue}
use Rattle.vs_host.specs.World.{Scene}
use Rattle.vs_safety.specs.Texts.{Sync}
use Rattle.vs_session.specs.Session.{SessionState}
use Rattle.vs_session.specs.Fits.{Fits, FitsUndo, generation_of}
use Rattle.vs_stress.specs.Commands.{generated_to}
use Rattle.vs_top.specs.Stress.{IsSceneOf}
use Rattle.vs_top.specs.StressTurns.{IsStressTurn}
use Rattle.vs_top.proofs.stress.answer_all.Given as goal

abbrev pub invariant-commands : goal.invariant-commands
invariant-commands g l =
    let now : Scene = g.H.World.scene l.host in
    record {
      turn : (old : Scene) → IsStressTurn (IsSceneOf g.H.World.scene) g.H.World.tells old (g.H.World.scene l.fn.host) l.fn.session [] true [] → IsStressTurn (IsSceneOf g.H.World.scene) g.H.World.tells old now l.session l.marks.items l.clean (generated_to l.number);
      room : generation_of l.session ≤ 2 + l.number;
      undo : FitsUndo l.session;
      fits : IsTrue g.H.World.tells.folder → (state : SessionState) × (syncs : List Sync) × Fits l.session now.folder state syncs;
      clock : IsTrue g.H.World.tells.clock → length now.answers ≤ length (g.H.World.scene l.fn.host).answers + l.number;
    }

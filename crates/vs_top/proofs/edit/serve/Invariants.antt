use Rattle.std.proofs.Common.{◌≡◌, ◌≤◌, ◌+◌, List, ℕ, length, IsTrue}
use Rattle.vs_host.specs.World.{Scene}
use Rattle.vs_script.specs.Ahead.{HasSeen, bytes_left, script_limit}
use Rattle.vs_safety.specs.Texts.{Sync}
use Rattle.vs_session.specs.Session.{SessionState}
use Rattle.vs_session.specs.Fits.{Fits, FitsUndo, generation_of}
use Rattle.vs_top.specs.Turns.{IsOpened}
use Rattle.vs_top.proofs.Reading.{fresh_reader}
use Rattle.vs_top.proofs.Turning.{IsTurn}
use Rattle.vs_top.proofs.edit.serve.Given as goal

abbrev pub invariant-requests : goal.invariant-requests
invariant-requests g l =
    let now : Scene = g.H.World.scene l.host in
    record {
      turn : (name : List ℕ) (old : Scene) → IsOpened g.H.World.tells name old (g.H.World.scene l.fn.host) l.fn.session → IsTurn g.H.World.tells name old now l.session l.initial.reader l.reader l.marks.items l.clean;
      fresh : l.initial.reader ≡ fresh_reader;
      seen : IsTrue g.H.World.tells.script → HasSeen l.reader now;
      few : length l.marks.items + bytes_left l.reader ≤ script_limit;
      room : generation_of l.session ≤ 2 + length l.marks.items;
      undo : FitsUndo l.session;
      fits : IsTrue g.H.World.tells.folder → (state : SessionState) × (syncs : List Sync) × Fits l.session now.folder state syncs;
      clock : IsTrue g.H.World.tells.clock → length now.answers ≤ length (g.H.World.scene l.fn.host).answers + length l.marks.items;
    }

abbrev pub decreases-requests : goal.decreases-requests
decreases-requests g l = bytes_left l.reader

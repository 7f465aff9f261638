use Rattle.std.proofs.Common.{◌≡◌, ◌≤◌, ◌++◌, ◌∙◌, ℕ, List, IsTrue, true, false, length, take, drop, refl, sym, ap, arith}
use Rattle.std.proofs.lemmas.List.{length-take-le, take_at}
use Rattle.vs_host.specs.World.{content_of}
use Rattle.vs_session.specs.Pieces.{FilePiece}
use Rattle.vs_session.proofs.OpenLemmas.{piece_read}
use Rattle.vs_disk.proofs.Quiet.{none_fails}
use Rattle.vs_session.proofs.LookLemmas.{IsLook-loop, looks_none}
use Rattle.vs_session.proofs.pieces.FilePieces.load.Goals as goal

pub returns-then-self-count-clause-look : goal.returns-then-self-count-clause-look
returns-then-self-count-clause-look g c =
    let scene = g.F.World.scene c.args.host.now in
    IsLook-loop g.F.World.tells _ scene scene refl (looks_none g.F.World.tells scene) (none_fails g.F.World.tells scene) (λ is. let never : false ≡ true = is in cc)

pub returns-clause-look : goal.returns-clause-look
returns-clause-look g c = c.read_bytes.ensures.look

-- the bytes that were read stand at the front of the buffer
pub returns-clause-at_hand : goal.returns-clause-at_hand
returns-clause-at_hand g c =
    let count : ℕ = c.min-count.result in
    let read : List ℕ = c.read_bytes.new.buffer in
    let past : List ℕ = drop (length read) c.self.inside.buffer.items in
    let room : count ≤ length read = omega (arith, c.min-count.ensures, c.self.invariant.0, c.deref_mut.ensures.len, c.read_bytes.auto.buffer) in
    let whole : length read ≡ c.self.inside.buffer.len = c.read_bytes.auto.buffer ∙ c.deref_mut.ensures.len in
    let piece : FilePiece = record { size = c.self.inside.size; at = c.args.at; bytes = take count (take c.self.inside.buffer.len (read ++ past)) } in
    piece_read c.read_bytes.result (IsTrue g.F.World.tells.folder) (content_of (g.F.World.scene c.args.host.now) c.args.name.now) (take count read)
    count piece (ap (take count) (take_at read past c.self.inside.buffer.len whole)) (sym (length-take-le count read room)) c.read_bytes.ensures.value

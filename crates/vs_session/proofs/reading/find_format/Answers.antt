use Rattle.std.proofs.Common.{refl, ◌≡◌, ◌++◌, ◌∙◌, [], ℕ, IsSomeAnd, length, ap, subst, sym, arith, length-append}
use Rattle.vs_host.specs.World.{content_of}
use Rattle.vs_disk.proofs.Quiet.{none_fails, none_then}
use Rattle.vs_session.specs.Pieces.{IsPieceOf}
use Rattle.vs_session.proofs.OpenLemmas.{ReadsFolder-trans, first_more, first_none, format_at_end, format_certain, if_same, ok_never, same_content, there_same, whole_read}
use Rattle.vs_session.proofs.LookLemmas.{IsLook-ended, IsReading-calm, IsReading-failed, looks_none, looks_then}
use Rattle.vs_session.proofs.reading.find_format.Goals as goal

pub pieces-init : goal.pieces-init
pieces-init g c = record {
  read = [];
  scanned = c.new-scan.ensures;
  at = refl;
  high = omega arith;
  size = refl;
  first = λ told. first_none _;
  at_hand = c.requires.at_hand;
  frame = refl;
  looks = looks_none g.H.World.tells (g.H.World.scene c.args.host.now);
  none = none_fails g.H.World.tells (g.H.World.scene c.args.host.now);
}

pub load-requires-clause-there : goal.load-requires-clause-there
load-requires-clause-there g c = λ told.
    let before = c.pieces.invariant in
    let same = same_content (g.H.World.scene c.args.host.now) (g.H.World.scene c.pieces.host) c.args.name.now before.frame in
    there_same _ _ (λ bytes. c.pieces.pieces.size ≡ length bytes) same
    (subst (λ (size : ℕ). IsSomeAnd (content_of (g.H.World.scene c.args.host.now) c.args.name.now) (λ bytes. size ≡ length bytes)) (sym before.size) (c.requires.there told))

pub load-requires-clause-at_hand : goal.load-requires-clause-at_hand
load-requires-clause-at_hand g c = λ told.
    let before = c.pieces.invariant in
    let same = same_content (g.H.World.scene c.args.host.now) (g.H.World.scene c.pieces.host) c.args.name.now before.frame in
    if_same _ _ (λ bytes. IsPieceOf bytes c.pieces.pieces) same (before.at_hand told)

pub returns-in_err-load-clause-reading : goal.returns-in_err-load-clause-reading
returns-in_err-load-clause-reading g c =
    let before = c.pieces.invariant in
    IsReading-failed g.H.World.tells _ (IsLook-ended g.H.World.tells (g.H.World.scene c.args.host.now) (g.H.World.scene c.pieces.host) before.frame before.looks before.none)
    c.in_err-load.ensures.look refl c.from_residual.ensures.1

pub returns-then-is_certain-clause-format : goal.returns-then-is_certain-clause-format
returns-then-is_certain-clause-format g c = λ told.
    let before = c.pieces.invariant in
    let same = same_content (g.H.World.scene c.args.host.now) (g.H.World.scene c.pieces.host) c.args.name.now before.frame in
    let piece = c.bytes-piece.result.now in
    let now = if_same _ _ (λ file. IsPieceOf file c.load.new.self) (sym same) (c.in_ok-load.ensures.at_hand told) in
    let first = first_more _ before.read piece c.load.new.self (c.in_ok-load.ensures.begins ∙ sym before.at) c.bytes-piece.ensures (before.first told) now in
    let scanned = c.feed.ensures before.read before.scanned in
    format_certain _ (before.read ++ piece) c.format.result first (c.format.ensures (before.read ++ piece) scanned)
    (λ more. c.is_certain.ensures.certain c.if-is_certain.true (before.read ++ piece) more scanned)

pub returns-then-is_certain-clause-at_hand : goal.returns-then-is_certain-clause-at_hand
returns-then-is_certain-clause-at_hand g c = λ told.
    let same = same_content (g.H.World.scene c.args.host.now) (g.H.World.scene c.pieces.host) c.args.name.now c.pieces.invariant.frame in
    if_same _ _ (λ file. IsPieceOf file c.load.new.self) (sym same) (c.in_ok-load.ensures.at_hand told)

pub returns-then-is_certain-clause-reading : goal.returns-then-is_certain-clause-reading
returns-then-is_certain-clause-reading g c =
    let before = c.pieces.invariant in
    let look = c.in_ok-load.ensures.look in
    let old = g.H.World.scene c.args.host.now in
    let mid = g.H.World.scene c.pieces.host in
    let new = g.H.World.scene c.load.new.host in
    IsReading-calm g.H.World.tells _ old new (ReadsFolder-trans old mid new before.frame look.frame) (looks_then g.H.World.tells old mid new before.none before.looks look.looks)
    (none_then g.H.World.tells old mid new before.none look.none) ok_never

pub pieces-preserved : goal.pieces-preserved
pieces-preserved g c =
    let before = c.pieces.invariant in
    let look = c.in_ok-load.ensures.look in
    let old = g.H.World.scene c.args.host.now in
    let mid = g.H.World.scene c.pieces.host in
    let new = g.H.World.scene c.load.new.host in
    let same = same_content old mid c.args.name.now before.frame in
    let piece = c.bytes-piece.result.now in
    record {
      read = before.read ++ piece;
      scanned = c.feed.ensures before.read before.scanned;
      at = omega (arith, before.at, length-append before.read piece);
      high = omega (arith, c.in_ok-load.ensures.within, ap length c.bytes-piece.ensures);
      size = c.in_ok-load.ensures.size ∙ before.size;
      first = λ told. first_more _ before.read piece c.load.new.self (c.in_ok-load.ensures.begins ∙ sym before.at) c.bytes-piece.ensures (before.first told)
          (if_same _ _ (λ file. IsPieceOf file c.load.new.self) (sym same) (c.in_ok-load.ensures.at_hand told));
      at_hand = λ told. if_same _ _ (λ file. IsPieceOf file c.load.new.self) (sym same) (c.in_ok-load.ensures.at_hand told);
      frame = ReadsFolder-trans old mid new before.frame look.frame;
      looks = looks_then g.H.World.tells old mid new before.none before.looks look.looks;
      none = none_then g.H.World.tells old mid new before.none look.none;
    }

pub returns-clause-format : goal.returns-clause-format
returns-clause-format g c = λ told.
    let before = c.pieces.invariant in
    let end : length before.read ≡ c.args.pieces.now.size = omega (arith, before.at, before.high, before.size, c.pieces-test.false) in
    format_at_end _ before.read c.format-2.result (whole_read _ c.args.pieces.now.size before.read (c.requires.there told) end (before.first told))
    (c.format-2.ensures before.read before.scanned)

pub returns-clause-reading : goal.returns-clause-reading
returns-clause-reading g c =
    let before = c.pieces.invariant in
    IsReading-calm g.H.World.tells _ (g.H.World.scene c.args.host.now) (g.H.World.scene c.pieces.host) before.frame before.looks before.none ok_never

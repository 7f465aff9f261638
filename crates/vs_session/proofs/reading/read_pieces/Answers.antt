use Rattle.std.proofs.Common.{refl, ◌≡◌, ◌++◌, ◌∙◌, [], ℕ, List, IsSomeAnd, length, ap, subst, sym, arith, length-append}
use Rattle.vs_host.specs.World.{content_of}
use Rattle.vs_disk.proofs.Quiet.{none_fails, none_then}
use Rattle.vs_paged.specs.Pages.{Opening}
use Rattle.vs_pieces.specs.Files.{HasReadFile}
use Rattle.vs_text.specs.Documents.{lines_in}
use Rattle.vs_text.specs.Limits.{IsWithinLimits}
use Rattle.vs_text.specs.declared.format.Format.{Format}
use Rattle.vs_session.specs.Open.{PassesLimit}
use Rattle.vs_session.specs.Pieces.{IsPieceOf}
use Rattle.vs_session.proofs.OpenLemmas.{ReadsFolder-trans, failed_no_limit, failed_no_swap, first_more, first_none, handed_back, if_same, limit_at_end, limit_in_piece, limit_of, never_failed, never_other, never_swap, never_swapped, not_failed, ok_never, same_content, some_read, there_same, whole_read}
use Rattle.vs_session.proofs.LookLemmas.{IsLook-ended, IsReading-calm, IsReading-failed, KeepsToLimits-other, KeepsToLimits-refused, looks_none, looks_then}
use Rattle.vs_session.proofs.reading.read_pieces.Goals as goal

pub pieces-init : goal.pieces-init
pieces-init g c = record {
  fed = [];
  read = subst (λ (text : List (List ℕ)). HasReadFile c.new-reader.result text []) (sym c.requires.empty) c.new-reader.ensures.read;
  format = c.new-reader.ensures.format;
  at = refl;
  high = omega arith;
  size = refl;
  first = λ told. first_none _;
  at_hand = c.requires.at_hand;
  name = refl;
  frame = refl;
  looks = looks_none g.H.World.tells (g.H.World.scene c.args.host.now);
  none = none_fails g.H.World.tells (g.H.World.scene c.args.host.now);
}

pub load-requires-clause-there : goal.load-requires-clause-there
load-requires-clause-there g c = λ told.
    let before = c.pieces.invariant in
    let same = same_content (g.H.World.scene c.args.host.now) (g.H.World.scene c.pieces.host) c.args.name.now before.frame in
    there_same _ _ (λ bytes. c.pieces.pieces.size ≡ length bytes) same
    (subst (λ (size : ℕ). IsSomeAnd (content_of (g.H.World.scene c.args.host.now) c.args.name.now) (λ bytes. size ≡ length bytes)) (sym before.size) (c.requires.there told))

pub load-requires-clause-at_hand : goal.load-requires-clause-at_hand
load-requires-clause-at_hand g c = λ told.
    let before = c.pieces.invariant in
    let same = same_content (g.H.World.scene c.args.host.now) (g.H.World.scene c.pieces.host) c.args.name.now before.frame in
    if_same _ _ (λ bytes. IsPieceOf bytes c.pieces.pieces) same (before.at_hand told)

pub returns-in_err-load-clause-reads : goal.returns-in_err-load-clause-reads
returns-in_err-load-clause-reads g c =
    let before = c.pieces.invariant in
    record {
      name = before.name;
      others = never_other _ _ _ c.from_residual.ensures.1 failed_no_swap;
      reading = IsReading-failed g.H.World.tells _ (IsLook-ended g.H.World.tells (g.H.World.scene c.args.host.now) (g.H.World.scene c.pieces.host) before.frame before.looks before.none)
          c.in_err-load.ensures.look refl c.from_residual.ensures.1;
    }

pub returns-in_err-load-clause-limits : goal.returns-in_err-load-clause-limits
returns-in_err-load-clause-limits g c = KeepsToLimits-other g.H.World.tells _ _ _ c.from_residual.ensures.1 failed_no_limit

pub read_piece-requires-clause-size : goal.read_piece-requires-clause-size
read_piece-requires-clause-size g c = omega (arith, c.pieces.invariant.read.size, c.pieces.invariant.at, c.in_ok-load.ensures.within, ap length c.bytes-piece.ensures)

pub read_piece-requires-clause-read : goal.read_piece-requires-clause-read
read_piece-requires-clause-read g c = (c.pieces.invariant.fed, c.pieces.invariant.read)

pub returns-in_err-read_piece-clause-limits : goal.returns-in_err-read_piece-clause-limits
returns-in_err-read_piece-clause-limits g c = KeepsToLimits-refused g.H.World.tells _ _ _ c.from_residual-in_err-read_piece.ensures.1 (λ n is.
    let before = c.pieces.invariant in
    let same = same_content (g.H.World.scene c.args.host.now) (g.H.World.scene c.pieces.host) c.args.name.now before.frame in
    let piece = c.bytes-piece.result.now in
    let of = handed_back _ _ _ c.from_residual-in_err-read_piece.ensures.1 is in
    limit_in_piece g.H.World.tells _ n c.args.pieces.now.size c.args.format (before.fed ++ piece) c.requires.there
    (λ told. first_more _ before.fed piece c.load.new.self (c.in_ok-load.ensures.begins ∙ sym before.at) c.bytes-piece.ensures (before.first told)
    (if_same _ _ (λ file. IsPieceOf file c.load.new.self) (sym same) (c.in_ok-load.ensures.at_hand told)))
    c.requires.format
    (λ more. subst (λ (f : Format). PassesLimit (lines_in f ((before.fed ++ piece) ++ more)) n) before.format (c.in_err-read_piece.ensures.limit n of before.fed more before.read)))

pub returns-in_err-read_piece-clause-reads : goal.returns-in_err-read_piece-clause-reads
returns-in_err-read_piece-clause-reads g c =
    let before = c.pieces.invariant in
    let look = c.in_ok-load.ensures.look in
    let old = g.H.World.scene c.args.host.now in
    let mid = g.H.World.scene c.pieces.host in
    let new = g.H.World.scene c.load.new.host in
    record {
      name = c.in_err-read_piece.ensures.name ∙ before.name;
      others = λ of. c.in_err-read_piece.ensures.swap (handed_back _ _ _ c.from_residual-in_err-read_piece.ensures.1 of);
      reading = IsReading-calm g.H.World.tells _ old new (ReadsFolder-trans old mid new before.frame look.frame)
          (looks_then g.H.World.tells old mid new before.none before.looks look.looks) (none_then g.H.World.tells old mid new before.none look.none)
          (λ of. c.in_err-read_piece.ensures.failed (handed_back _ _ _ c.from_residual-in_err-read_piece.ensures.1 of));
    }

pub pieces-preserved : goal.pieces-preserved
pieces-preserved g c =
    let before = c.pieces.invariant in
    let look = c.in_ok-load.ensures.look in
    let old = g.H.World.scene c.args.host.now in
    let mid = g.H.World.scene c.pieces.host in
    let new = g.H.World.scene c.load.new.host in
    let same = same_content old mid c.args.name.now before.frame in
    let piece = c.bytes-piece.result.now in
    record {
      fed = before.fed ++ piece;
      read = c.in_ok-read_piece.ensures.read before.fed before.read;
      format = c.in_ok-read_piece.ensures.format ∙ before.format;
      at = omega (arith, before.at, length-append before.fed piece);
      high = omega (arith, c.in_ok-load.ensures.within, ap length c.bytes-piece.ensures);
      size = c.in_ok-load.ensures.size ∙ before.size;
      first = λ told. first_more _ before.fed piece c.load.new.self (c.in_ok-load.ensures.begins ∙ sym before.at) c.bytes-piece.ensures (before.first told)
          (if_same _ _ (λ file. IsPieceOf file c.load.new.self) (sym same) (c.in_ok-load.ensures.at_hand told));
      at_hand = λ told. if_same _ _ (λ file. IsPieceOf file c.load.new.self) (sym same) (c.in_ok-load.ensures.at_hand told);
      name = c.in_ok-read_piece.ensures.name ∙ before.name;
      frame = ReadsFolder-trans old mid new before.frame look.frame;
      looks = looks_then g.H.World.tells old mid new before.none before.looks look.looks;
      none = none_then g.H.World.tells old mid new before.none look.none;
    }

pub returns-in_err-rest-clause-limits : goal.returns-in_err-rest-clause-limits
returns-in_err-rest-clause-limits g c = KeepsToLimits-refused g.H.World.tells _ _ _ c.from_residual-in_err-rest.ensures.1 (λ n is.
    let before = c.pieces.invariant in
    let end : length before.fed ≡ c.args.pieces.now.size = omega (arith, before.at, before.high, before.size, c.pieces-test.false) in
    let refused = (c.in_err-rest.ensures c.pieces.text.text before.fed before.read).refused in
    limit_at_end g.H.World.tells _ n c.args.format before.fed (λ told. whole_read _ c.args.pieces.now.size before.fed (c.requires.there told) end (before.first told)) c.requires.format
    (subst (λ (f : Format). PassesLimit (lines_in f before.fed) n) before.format (limit_of _ _ _ c.from_residual-in_err-rest.ensures.1 refused n is)))

pub returns-in_err-rest-clause-reads : goal.returns-in_err-rest-clause-reads
returns-in_err-rest-clause-reads g c =
    let before = c.pieces.invariant in
    record {
      name = before.name;
      others = never_swap _ _ c.from_residual-in_err-rest.ensures.1;
      reading = IsReading-calm g.H.World.tells _ (g.H.World.scene c.args.host.now) (g.H.World.scene c.pieces.host) before.frame before.looks before.none
          (never_failed _ _ c.from_residual-in_err-rest.ensures.1);
    }

pub push_lines-requires : goal.push_lines-requires
push_lines-requires g c =
    let answer = c.in_ok-rest.ensures c.pieces.text.text c.pieces.invariant.fed c.pieces.invariant.read in
    let W : List (List ℕ) → Type 0 = λ text. IsWithinLimits text in
    subst W (sym answer.text) answer.fits

pub returns-in_err-push_lines-clause-reads : goal.returns-in_err-push_lines-clause-reads
returns-in_err-push_lines-clause-reads g c =
    let before = c.pieces.invariant in
    record {
      name = ap (λ (o : Opening). o.name) c.in_err-push_lines.ensures.err ∙ before.name;
      others = never_swapped _ c.from_residual-in_err-push_lines.ensures.1;
      reading = IsReading-calm g.H.World.tells _ (g.H.World.scene c.args.host.now) (g.H.World.scene c.pieces.host) before.frame before.looks before.none
          (not_failed _ c.from_residual-in_err-push_lines.ensures.1);
    }

pub returns-in_err-push_lines-clause-limits : goal.returns-in_err-push_lines-clause-limits
returns-in_err-push_lines-clause-limits g c = KeepsToLimits-other g.H.World.tells _ _ _ c.from_residual-in_err-push_lines.ensures.1 (λ size is. absurd (cc))

pub returns-clause-text : goal.returns-clause-text
returns-clause-text g c = λ told.
    let before = c.pieces.invariant in
    let end : length before.fed ≡ c.args.pieces.now.size = omega (arith, before.at, before.high, before.size, c.pieces-test.false) in
    let answer = c.in_ok-rest.ensures c.pieces.text.text before.fed before.read in
    let now = ap (λ (o : Opening). o.text) c.in_ok-push_lines.ensures.ok ∙ (answer.text ∙ ap (λ (f : Format). lines_in f before.fed) before.format) in
    some_read _ before.fed c.args.format (λ text. c.push_lines.new.self.text ≡ text)
    (whole_read _ c.args.pieces.now.size before.fed (c.requires.there told) end (before.first told)) (c.requires.format told) now

pub returns-clause-limits : goal.returns-clause-limits
returns-clause-limits g c = record {
  within = λ told.
      let before = c.pieces.invariant in
      let end : length before.fed ≡ c.args.pieces.now.size = omega (arith, before.at, before.high, before.size, c.pieces-test.false) in
      let answer = c.in_ok-rest.ensures c.pieces.text.text before.fed before.read in
      let fits = subst (λ (f : Format). IsWithinLimits (lines_in f before.fed)) before.format answer.fits in
      some_read _ before.fed c.args.format (λ text. IsWithinLimits text)
      (whole_read _ c.args.pieces.now.size before.fed (c.requires.there told) end (before.first told)) (c.requires.format told) fits;
  limit = λ n is. absurd (cc);
}

pub returns-clause-reads : goal.returns-clause-reads
returns-clause-reads g c =
    let before = c.pieces.invariant in
    record {
      name = ap (λ (o : Opening). o.name) c.in_ok-push_lines.ensures.ok ∙ before.name;
      others = ok_never;
      reading = IsReading-calm g.H.World.tells _ (g.H.World.scene c.args.host.now) (g.H.World.scene c.pieces.host) before.frame before.looks before.none ok_never;
    }

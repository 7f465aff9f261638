use Rattle.std.proofs.Common.{◌≡◌, ◌∙◌, ℕ, List, Option, IfSome, IsSome, ap, is_some, length, refl, subst, sym}
use Rattle.vs_host.specs.World.{content_of}
use Rattle.vs_session.specs.Open.{IsTooLarge}
use Rattle.vs_session.specs.Pieces.{FilePiece, IsPieceOf}
use Rattle.vs_session.proofs.OpenLemmas.{err_is, failed_no_limit, failed_no_swap, handed_back, handed_on, if_same, never_other, never_swapped, not_failed, ok_never, piece_none, same_content, there_if, there_same}
use Rattle.vs_session.proofs.LookLemmas.{IsLook-both, IsReading-calm, IsReading-failed, IsReading-first, IsReading-refused, KeepsToLimits-other, KeepsToLimits-refused}
use Rattle.vs_session.proofs.reading.read_file.Goals as goal

pub returns-in_err-has_file-clause-reads : goal.returns-in_err-has_file-clause-reads
returns-in_err-has_file-clause-reads g c = record {
  name = refl;
  others = never_other _ _ _ c.from_residual.ensures.1 failed_no_swap;
  reading = IsReading-first g.H.World.tells _ c.in_err-has_file.ensures.look refl c.from_residual.ensures.1;
}

pub returns-in_err-size-clause-reads : goal.returns-in_err-size-clause-reads
returns-in_err-size-clause-reads g c = record {
  name = refl;
  others = never_other _ _ _ c.from_residual-in_err-size.ensures.1 failed_no_swap;
  reading = IsReading-failed g.H.World.tells _ c.in_ok-has_file.ensures.look c.in_err-size.ensures.look refl c.from_residual-in_err-size.ensures.1;
}

pub returns-in_err-pieces-clause-reads : goal.returns-in_err-pieces-clause-reads
returns-in_err-pieces-clause-reads g c =
    let look = IsLook-both g.H.World.tells c.in_ok-has_file.ensures.look c.in_ok-size.ensures.look in
    record {
      name = refl;
      others = never_swapped _ c.from_residual-in_err-pieces.ensures.1;
      reading = IsReading-calm g.H.World.tells _ (g.H.World.scene c.args.host.now) (g.H.World.scene c.size_of_file.new.host) look.frame look.looks look.none
          (not_failed _ c.from_residual-in_err-pieces.ensures.1);
    }

pub find_format-requires-clause-at_hand : goal.find_format-requires-clause-at_hand
find_format-requires-clause-at_hand g c = λ told. piece_none _ c.in_ok-pieces.pieces (ap (λ (p : FilePiece). p.bytes) c.in_ok-pieces.ensures)

pub returns-in_err-format-clause-reads : goal.returns-in_err-format-clause-reads
returns-in_err-format-clause-reads g c = record {
  name = refl;
  others = never_other _ _ _ c.from_residual-in_err-format.ensures.1 (λ is. failed_no_swap (sym c.in_err-format.ensures.failed ∙ is));
  reading = IsReading-refused g.H.World.tells _ _ (IsLook-both g.H.World.tells c.in_ok-has_file.ensures.look c.in_ok-size.ensures.look) c.in_err-format.ensures.reading
      c.from_residual-in_err-format.ensures.1 (handed_back _ _ _ c.from_residual-in_err-format.ensures.1) (λ of. handed_on _ _ _ c.from_residual-in_err-format.ensures.1 (err_is of));
}

pub returns-in_err-format-clause-limits : goal.returns-in_err-format-clause-limits
returns-in_err-format-clause-limits g c =
    KeepsToLimits-other g.H.World.tells _ _ _ c.from_residual-in_err-format.ensures.1 (λ size is. failed_no_limit size (sym c.in_err-format.ensures.failed ∙ is))

pub read_pieces-requires-clause-there : goal.read_pieces-requires-clause-there
read_pieces-requires-clause-there g c = λ told.
    let mid = g.H.World.scene c.size_of_file.new.host in
    let same = same_content mid (g.H.World.scene c.find_format.new.host) c.args.name.now c.in_ok-format.ensures.reading.look.frame in
    let size : c.in_ok-size.size ≡ c.find_format.new.pieces.size = sym (c.in_ok-format.ensures.size ∙ ap (λ (p : FilePiece). p.size) c.in_ok-pieces.ensures) in
    let after_has = same_content (g.H.World.scene c.args.host.now) (g.H.World.scene c.has_file.new.host) c.args.name.now c.has_file.ensures.look.frame in
    let after_len = same_content (g.H.World.scene c.has_file.new.host) mid c.args.name.now c.size_of_file.ensures.look.frame in
    let has : IsSome (content_of (g.H.World.scene c.has_file.new.host) c.args.name.now) =
    ap is_some after_has ∙ (sym (c.in_ok-has_file.ensures.value told) ∙ c.if-not-branch.false) in
    let there = there_if _ (λ bytes. c.find_format.new.pieces.size ≡ length bytes) has
    (subst (λ (n : ℕ). IfSome (content_of (g.H.World.scene c.has_file.new.host) c.args.name.now) (λ bytes. n ≡ length bytes)) size (c.in_ok-size.ensures.value told)) in
    there_same _ _ (λ bytes. c.find_format.new.pieces.size ≡ length bytes) (same ∙ after_len) there

pub read_pieces-requires-clause-at_hand : goal.read_pieces-requires-clause-at_hand
read_pieces-requires-clause-at_hand g c = λ told.
    let mid = g.H.World.scene c.size_of_file.new.host in
    let same = same_content mid (g.H.World.scene c.find_format.new.host) c.args.name.now c.in_ok-format.ensures.reading.look.frame in
    if_same _ _ (λ bytes. IsPieceOf bytes c.find_format.new.pieces) same (c.in_ok-format.ensures.at_hand told)

pub read_pieces-requires-clause-format : goal.read_pieces-requires-clause-format
read_pieces-requires-clause-format g c = λ told.
    let mid = g.H.World.scene c.size_of_file.new.host in
    let same = same_content mid (g.H.World.scene c.find_format.new.host) c.args.name.now c.in_ok-format.ensures.reading.look.frame in
    if_same _ _ _ same (c.in_ok-format.ensures.format told)

pub returns-in_err-read_pieces-clause-limits : goal.returns-in_err-read_pieces-clause-limits
returns-in_err-read_pieces-clause-limits g c = KeepsToLimits-refused g.H.World.tells _ _ _ c.from_residual-in_err-read_pieces.ensures.1 (λ n is.
    let look = IsLook-both g.H.World.tells (IsLook-both g.H.World.tells c.in_ok-has_file.ensures.look c.in_ok-size.ensures.look) c.in_ok-format.ensures.reading.look in
    let same = same_content (g.H.World.scene c.args.host.now) (g.H.World.scene c.find_format.new.host) c.args.name.now look.frame in
    let P : Option (List ℕ) → Type 0 = λ file. IsTooLarge g.H.World.tells n file in
    subst P same (c.in_err-read_pieces.ensures.limits.limit n (handed_back _ _ _ c.from_residual-in_err-read_pieces.ensures.1 is)))

pub returns-in_err-read_pieces-clause-reads : goal.returns-in_err-read_pieces-clause-reads
returns-in_err-read_pieces-clause-reads g c =
    let reads = c.in_err-read_pieces.ensures.reads in
    let look = IsLook-both g.H.World.tells (IsLook-both g.H.World.tells c.in_ok-has_file.ensures.look c.in_ok-size.ensures.look) c.in_ok-format.ensures.reading.look in
    record {
      name = reads.name;
      others = λ of. reads.others (handed_back _ _ _ c.from_residual-in_err-read_pieces.ensures.1 of);
      reading = IsReading-refused g.H.World.tells _ _ look reads.reading c.from_residual-in_err-read_pieces.ensures.1
          (handed_back _ _ _ c.from_residual-in_err-read_pieces.ensures.1) (λ of. handed_on _ _ _ c.from_residual-in_err-read_pieces.ensures.1 (err_is of));
    }

pub returns-clause-reads : goal.returns-clause-reads
returns-clause-reads g c =
    let reads = c.in_ok-read_pieces.ensures.reads in
    let before = IsLook-both g.H.World.tells (IsLook-both g.H.World.tells c.in_ok-has_file.ensures.look c.in_ok-size.ensures.look) c.in_ok-format.ensures.reading.look in
    let look = IsLook-both g.H.World.tells before reads.reading.look in
    record {
      name = reads.name;
      others = ok_never;
      reading = IsReading-calm g.H.World.tells _ (g.H.World.scene c.args.host.now) (g.H.World.scene c.read_pieces.new.host) look.frame look.looks look.none ok_never;
    }

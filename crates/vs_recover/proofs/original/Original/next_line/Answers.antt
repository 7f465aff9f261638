use Rattle.std.proofs.Common.{◌≡◌, ◌<◌, ◌+◌, [], Bool, true, false, length, drop, arith, refl, sym, ap, ◌∙◌, subst}
use Rattle.vs_text.specs.Text.{lines_of}
use Rattle.vs_recover.specs.declared.original.Original.{Original}
use Rattle.vs_recover.specs.Original.{Follows, IsNext, TakesPiece, ahead}
use Rattle.vs_recover.proofs.OriginalLaws.{IsBegun, ended_follows, ended_next, ended_short, last_next, last_over, last_short, line_begins, line_goes_on, line_refilled, nothing_ahead, over_next, takes_most}
use Rattle.vs_recover.proofs.PartLaws.{empty_len, filled_len}
use Rattle.vs_recover.proofs.ReadingLaws.{file_has, file_stays, reads_ok, reads_none, reads_passed, reads_then, there_by}
use Rattle.vs_recover.proofs.original.Original.next_line.Goals as goal

pub pieces-init : goal.pieces-init
pieces-init g c = record {
  place = c.requires.place;
  len = refl;
  line = refl;
  kept = omega (arith, ap length c.clear.ensures.items);
  begun = λ file is. line_begins c.args.self.now file c.clear.new.self.items c.clear.ensures.items (file_has _ _ _ file (λ f. Follows c.args.self.now f) c.requires.follows is);
  left = omega arith;
  reading = reads_none g.F.World.tells (λ is. cc);
}

pub returns-then-branch-clause-next : goal.returns-then-branch-clause-next
returns-then-branch-clause-next g c = λ file is.
    let o : Original = c.pieces.self in
    let now : Original = c.take_piece.new.self in
    let takes : TakesPiece (ahead o) (ahead now) c.pieces.into.items c.take_piece.new.into.items true = subst (λ (b : Bool). TakesPiece (ahead o) (ahead now) c.pieces.into.items c.take_piece.new.into.items b) c.if-branch.true c.in_ok-take_piece.ensures.taken in
    let same = c.in_ok-take_piece.ensures.same in
    let begun : IsBegun o file c.pieces.into.items = c.pieces.invariant.begun file is in
    let number : c.saturating_add-self.result ≡ o.line + 1 = omega (arith, c.saturating_add-self.ensures, ended_short o now file _ _ same.1 takes begun, c.pieces.invariant.place.fits, same.2) in
    subst (λ n. IsNext (drop n (lines_of file)) (drop c.saturating_add-self.result (lines_of file)) c.take_piece.new.into.items true) c.pieces.invariant.line
    (subst (λ n. IsNext (drop o.line (lines_of file)) (drop n (lines_of file)) c.take_piece.new.into.items true) (sym number) (ended_next o now file _ _ same.1 takes begun))

pub returns-then-branch-clause-follows : goal.returns-then-branch-clause-follows
returns-then-branch-clause-follows g c = there_by g.F.World.tells (g.F.World.scene c.args.host.now) c.args.name.now (λ f. Follows c.args.self.now f)
    (λ f. Follows (record c.take_piece.new.self { line = c.saturating_add-self.result }) f) (λ file is.
    let o : Original = c.pieces.self in
    let now : Original = c.take_piece.new.self in
    let takes : TakesPiece (ahead o) (ahead now) c.pieces.into.items c.take_piece.new.into.items true = subst (λ (b : Bool). TakesPiece (ahead o) (ahead now) c.pieces.into.items c.take_piece.new.into.items b) c.if-branch.true c.in_ok-take_piece.ensures.taken in
    let same = c.in_ok-take_piece.ensures.same in
    let begun : IsBegun o file c.pieces.into.items = c.pieces.invariant.begun file is in
    let number : c.saturating_add-self.result ≡ o.line + 1 = omega (arith, c.saturating_add-self.ensures, ended_short o now file _ _ same.1 takes begun, c.pieces.invariant.place.fits, same.2) in
    record {
      len = same.0 ∙ begun.len;
      lines = ended_follows o now file _ _ same.1 takes begun ∙ ap (λ n. drop n (lines_of file)) (sym number);
    }) c.requires.follows

pub pieces-preserved : goal.pieces-preserved
pieces-preserved g c =
    let o : Original = c.pieces.self in
    let mid : Original = c.take_piece.new.self in
    let now : Original = c.refill.new.self in
    let takes : TakesPiece (ahead o) (ahead mid) c.pieces.into.items c.take_piece.new.into.items false = subst (λ (b : Bool). TakesPiece (ahead o) (ahead mid) c.pieces.into.items c.take_piece.new.into.items b) c.if-branch.false c.in_ok-take_piece.ensures.taken in
    let same = c.in_ok-take_piece.ensures.same in
    let filled = c.in_ok-refill.ensures.same in
    record {
      place = c.in_ok-refill.ensures.place;
      len = filled.0 ∙ (same.0 ∙ c.pieces.invariant.len);
      line = filled.1 ∙ (same.2 ∙ c.pieces.invariant.line);
      kept = takes_most (ahead o) (ahead mid) c.pieces.into.items c.take_piece.new.into.items false takes;
      begun = λ file is. line_refilled mid now file _ filled.0 filled.1 takes.1 (c.in_ok-refill.ensures.piece file (file_stays c.pieces.invariant.reading is)) (line_goes_on o mid file _ _ same.0 same.1 same.2 takes (c.pieces.invariant.begun file is));
      left = omega (arith, c.in_ok-refill.ensures.left, c.pieces.invariant.left, same.0, same.1);
      reading = reads_ok (omega (arith, c.in_ok-refill.ensures.left, c.pieces.invariant.left, same.0, same.1)) (reads_then c.pieces.invariant.reading c.in_ok-refill.ensures.reading);
    }

pub returns-in_err-refill-clause-reading : goal.returns-in_err-refill-clause-reading
returns-in_err-refill-clause-reading g c =
    let same = c.in_ok-take_piece.ensures.same in
    reads_passed c.in_err-refill.was c.from_residual-in_err-refill.ensures.1 (omega (arith, c.in_ok-take_piece.ensures.place.at, c.if-self.false, c.pieces.invariant.left, same.0, same.1)) (reads_then c.pieces.invariant.reading c.refill.ensures.reading)

pub returns-then-is_empty-clause-next : goal.returns-then-is_empty-clause-next
returns-then-is_empty-clause-next g c = λ file is.
    let o : Original = c.pieces.self in
    let now : Original = c.take_piece.new.self in
    let takes : TakesPiece (ahead o) (ahead now) c.pieces.into.items c.take_piece.new.into.items false = subst (λ (b : Bool). TakesPiece (ahead o) (ahead now) c.pieces.into.items c.take_piece.new.into.items b) c.if-branch.false c.in_ok-take_piece.ensures.taken in
    let same = c.in_ok-take_piece.ensures.same in
    let begun : IsBegun now file c.take_piece.new.into.items = line_goes_on o now file _ _ same.0 same.1 same.2 takes (c.pieces.invariant.begun file is) in
    let over : drop now.line (lines_of file) ≡ [] = over_next now file c.take_piece.new.into.items takes.1 c.if-self.true (empty_len c.take_piece.new.into c.if-is_empty.ensures) begun in
    (ap (λ n. drop n (lines_of file)) (sym (same.2 ∙ c.pieces.invariant.line)) ∙ over, over)

pub returns-then-is_empty-clause-follows : goal.returns-then-is_empty-clause-follows
returns-then-is_empty-clause-follows g c = there_by g.F.World.tells (g.F.World.scene c.args.host.now) c.args.name.now (λ f. Follows c.args.self.now f) (λ f. Follows c.take_piece.new.self f) (λ file is.
    let o : Original = c.pieces.self in
    let now : Original = c.take_piece.new.self in
    let takes : TakesPiece (ahead o) (ahead now) c.pieces.into.items c.take_piece.new.into.items false = subst (λ (b : Bool). TakesPiece (ahead o) (ahead now) c.pieces.into.items c.take_piece.new.into.items b) c.if-branch.false c.in_ok-take_piece.ensures.taken in
    let same = c.in_ok-take_piece.ensures.same in
    let begun : IsBegun now file c.take_piece.new.into.items = line_goes_on o now file _ _ same.0 same.1 same.2 takes (c.pieces.invariant.begun file is) in
    let over : drop now.line (lines_of file) ≡ [] = over_next now file c.take_piece.new.into.items takes.1 c.if-self.true (empty_len c.take_piece.new.into c.if-is_empty.ensures) begun in
    record { len = begun.len; lines = nothing_ahead now file takes.1 c.if-self.true begun.len ∙ sym over }) c.requires.follows

pub returns-clause-next : goal.returns-clause-next
returns-clause-next g c = λ file is.
    let o : Original = c.pieces.self in
    let now : Original = c.take_piece.new.self in
    let takes : TakesPiece (ahead o) (ahead now) c.pieces.into.items c.take_piece.new.into.items false = subst (λ (b : Bool). TakesPiece (ahead o) (ahead now) c.pieces.into.items c.take_piece.new.into.items b) c.if-branch.false c.in_ok-take_piece.ensures.taken in
    let same = c.in_ok-take_piece.ensures.same in
    let begun : IsBegun now file c.take_piece.new.into.items = line_goes_on o now file _ _ same.0 same.1 same.2 takes (c.pieces.invariant.begun file is) in
    let some : 0 < length c.take_piece.new.into.items = filled_len c.take_piece.new.into c.if-is_empty.ensures in
    let number : c.saturating_add-self-2.result ≡ now.line + 1 = omega (arith, c.saturating_add-self-2.ensures, last_short now file c.take_piece.new.into.items takes.1 c.if-self.true some begun, c.in_ok-take_piece.ensures.place.fits) in
    subst (λ n. IsNext (drop n (lines_of file)) (drop c.saturating_add-self-2.result (lines_of file)) c.take_piece.new.into.items true) (same.2 ∙ c.pieces.invariant.line)
    (subst (λ n. IsNext (drop now.line (lines_of file)) (drop n (lines_of file)) c.take_piece.new.into.items true) (sym number) (last_next now file c.take_piece.new.into.items takes.1 c.if-self.true some begun))

pub returns-clause-follows : goal.returns-clause-follows
returns-clause-follows g c = there_by g.F.World.tells (g.F.World.scene c.args.host.now) c.args.name.now (λ f. Follows c.args.self.now f)
    (λ f. Follows (record c.take_piece.new.self { line = c.saturating_add-self-2.result }) f) (λ file is.
    let o : Original = c.pieces.self in
    let now : Original = c.take_piece.new.self in
    let takes : TakesPiece (ahead o) (ahead now) c.pieces.into.items c.take_piece.new.into.items false = subst (λ (b : Bool). TakesPiece (ahead o) (ahead now) c.pieces.into.items c.take_piece.new.into.items b) c.if-branch.false c.in_ok-take_piece.ensures.taken in
    let same = c.in_ok-take_piece.ensures.same in
    let begun : IsBegun now file c.take_piece.new.into.items = line_goes_on o now file _ _ same.0 same.1 same.2 takes (c.pieces.invariant.begun file is) in
    let some : 0 < length c.take_piece.new.into.items = filled_len c.take_piece.new.into c.if-is_empty.ensures in
    let number : c.saturating_add-self-2.result ≡ now.line + 1 = omega (arith, c.saturating_add-self-2.ensures, last_short now file c.take_piece.new.into.items takes.1 c.if-self.true some begun, c.in_ok-take_piece.ensures.place.fits) in
    record {
      len = begun.len;
      lines = nothing_ahead now file takes.1 c.if-self.true begun.len ∙ (sym (last_over now file c.take_piece.new.into.items takes.1 c.if-self.true some begun) ∙ ap (λ n. drop n (lines_of file)) (sym number));
    }) c.requires.follows

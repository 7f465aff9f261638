use Rattle.std.proofs.Common.{◌≡◌, ◌∙◌, ◌+◌, ◌++◌, [], length, ap, arith, append_assoc, length-append, refl, rules}
use Rattle.vs_host.specs.World.{Scene}
use Rattle.vs_backup.proofs.Filling.{fills_on}
use Rattle.vs_backup.proofs.Going.{GoesOn-none, GoesOn-then}
use Rattle.vs_backup.proofs.Going as going
use Rattle.vs_backup.proofs.fill.put_bytes.Goals as goal

pub returns-in_err-now-clause-runs : goal.returns-in_err-now-clause-runs
returns-in_err-now-clause-runs g c told =
    let s0 : Scene = g.D.World.scene c.args.desk.now in
    let s1 : Scene = g.D.World.scene c.pieces.desk in
    let s2 : Scene = g.D.World.scene c.flush.new.desk in
    fills_on c.args.name.now s0 s1 s2 c.pieces.invariant.kept.frame (c.pieces.invariant.runs told) (c.flush.ensures.runs told)

pub pieces-preserved : goal.pieces-preserved
pieces-preserved g c =
    let s0 : Scene = g.D.World.scene c.args.desk.now in
    let s1 : Scene = g.D.World.scene c.pieces.desk in
    let s2 : Scene = g.D.World.scene c.flush.new.desk in
    let first = c.split_at.result.0.now in
    let after = c.split_at.result.1.now in
    let held : c.extend_from_slice.new.self.items ≡ c.pieces.piece.items ++ first = c.in_ok-extend_from_slice.ensures.items in
    let none : c.flush.new.piece.items ≡ [] = c.in_ok-now.ensures.empty in
    let empty : length c.flush.new.piece.items ≡ 0 = ap length none in
    let long : length c.extend_from_slice.new.self.items ≡ length c.pieces.piece.items + length first = ap length held ∙ length-append c.pieces.piece.items first in
    record {
      kept = GoesOn-none (λ is. absurd (cc)) (GoesOn-then g.met.D.Desk.stays_on (λ is. is) c.pieces.invariant.kept c.in_ok-now.ensures.kept);
      few = omega arith;
      size = omega (arith, c.pieces.invariant.size, c.in_ok-now.ensures.size, c.split_at.ensures.front_len, c.split_at.ensures.back_len);
      runs = λ told. fills_on c.args.name.now s0 s1 s2 c.pieces.invariant.kept.frame (c.pieces.invariant.runs told) (c.flush.ensures.runs told);
      there = λ told.
          let had = c.pieces.invariant.there told in
          let piece = c.extend_from_slice.new.self.items in
          let parts : (had.1 ++ piece) ++ (c.flush.new.piece.items ++ after) ≡ had.1 ++ (c.pieces.piece.items ++ c.pieces.rest.now) =
          rw (none, held, c.split_at.ensures.by_index.0) (simp append_assoc) in (
            had.0,
            had.1 ++ piece,
            had.2,
            c.in_ok-now.ensures.ok told had.1 had.3,
            omega (arith, c.in_ok-now.ensures.size, had.4, length-append had.1 piece),
            parts ∙ had.5,
          );
    }

pub pieces-init : goal.pieces-init
pieces-init g c = record { kept = going.GoesOn-nothing c.requires.valid (g.met.D.Desk.stays_itself c.args.desk.now) (λ is. is); few = search rules; size = search rules; runs = search rules; there = search rules }

pub returns-in_err-now-clause-kept : goal.returns-in_err-now-clause-kept
returns-in_err-now-clause-kept g c = going.GoesOn-failed c.from_residual-in_err-now.result _ c.from_residual-in_err-now.ensures.1 refl (going.GoesOn-then g.met.D.Desk.stays_on (λ is. is) c.pieces.invariant.kept c.in_err-now.ensures.kept)

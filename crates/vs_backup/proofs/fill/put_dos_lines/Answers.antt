use Rattle.std.proofs.Common.{◌≡◌, ◌∙◌, ◌+◌, ◌-◌, ◌++◌, [], ◌∷◌, ℕ, List, Some, IsTrue, length, take, drop, sym, ap, arith, append_assoc, length-append, rules}
use Rattle.vs_host.specs.World.{Scene, content_of}
use Rattle.vs_disk.proofs.Contents.{some_bytes}
use Rattle.vs_backup.specs.Ends.{dos_ends}
use Rattle.vs_backup.proofs.Ends.{dos_none, dos_some}
use Rattle.vs_backup.proofs.Filling.{fills_on}
use Rattle.vs_backup.proofs.Frames.{ok_with}
use Rattle.vs_backup.proofs.Going.{GoesOn-none, GoesOn-then}
use Rattle.vs_backup.proofs.Going as going
use Rattle.vs_backup.proofs.fill.put_dos_lines.Goals as goal

pub lines-init : goal.lines-init
lines-init g c = record { kept = going.GoesOn-nothing c.requires.valid (g.met.D.Desk.stays_itself c.args.desk.now) (λ is. is); few = search rules; size = search rules; runs = search rules; there = search rules }

-- a line, and then its end, are put behind what was put before
put_twice : (first last before middle after held line end more : List ℕ) → first ++ last ≡ (middle ++ held) ++ end → middle ++ held ≡ (before ++ after) ++ line
    → first ++ (last ++ more) ≡ before ++ (after ++ (line ++ (end ++ more)))
put_twice first last before middle after held line end more two one =
    sym (append_assoc first last more) ∙ ap (λ (b : List ℕ). b ++ more) (two ∙ ap (λ (b : List ℕ). b ++ end) one) ∙ simp append_assoc

ended_len : (all line more : List ℕ) → all ≡ line ++ 13 ∷ 10 ∷ more → length all ≡ length line + 2 + length more
ended_len all line more is = omega (arith, ap length is, length-append line (13 ∷ 10 ∷ more))

pub put_bytes-requires-clause-small : goal.put_bytes-requires-clause-small
put_bytes-requires-clause-small g c =
    let line = c.split_at.result.0.now in
    let after = c.split_at.result.1.now in
    let is = dos_some c.lines.rest.now line after c.in-Some.end c.split_at.ensures.front c.split_at.ensures.back c.in-Some.ensures in
    omega (arith, ended_len _ line _ is, c.lines.invariant.size, c.requires.small)

pub put_bytes-requires-in-Some-clause-apart : goal.put_bytes-requires-in-Some-clause-apart
put_bytes-requires-in-Some-clause-apart g c reads =
    let kept = GoesOn-then g.met.D.Desk.stays_on (λ is. is) c.lines.invariant.kept c.in_ok-now.ensures.kept in
    c.requires.apart (g.met.D.Desk.stays_reads c.args.desk.now c.put_bytes.new.desk c.args.name.now kept.stays reads)

pub put_bytes-requires-in-Some-clause-small : goal.put_bytes-requires-in-Some-clause-small
put_bytes-requires-in-Some-clause-small g c =
    let line = c.split_at.result.0.now in
    let after = c.split_at.result.1.now in
    let is = dos_some c.lines.rest.now line after c.in-Some.end c.split_at.ensures.front c.split_at.ensures.back c.in-Some.ensures in
    omega (arith, ended_len _ line _ is, c.in_ok-now.ensures.size, c.lines.invariant.size, c.requires.small)

pub returns-in_err-now-clause-runs : goal.returns-in_err-now-clause-runs
returns-in_err-now-clause-runs g c told =
    let s0 : Scene = g.D.World.scene c.args.desk.now in
    let s1 : Scene = g.D.World.scene c.lines.desk in
    let s2 : Scene = g.D.World.scene c.put_bytes.new.desk in
    fills_on c.args.name.now s0 s1 s2 c.lines.invariant.kept.frame (c.lines.invariant.runs told) (c.put_bytes.ensures.runs told)

pub returns-in_err-now-clause-kept : goal.returns-in_err-now-clause-kept
returns-in_err-now-clause-kept g c = going.GoesOn-same c.from_residual.result _ c.from_residual.ensures.1 _ (GoesOn-then g.met.D.Desk.stays_on (λ is. is) c.lines.invariant.kept c.in_err-now.ensures.kept)

pub returns-in_err-now-2-clause-runs : goal.returns-in_err-now-2-clause-runs
returns-in_err-now-2-clause-runs g c told =
    let s0 : Scene = g.D.World.scene c.args.desk.now in
    let s1 : Scene = g.D.World.scene c.lines.desk in
    let s2 : Scene = g.D.World.scene c.put_bytes.new.desk in
    let s3 : Scene = g.D.World.scene c.put_bytes-in-Some.new.desk in
    let kept = GoesOn-then g.met.D.Desk.stays_on (λ is. is) c.lines.invariant.kept c.in_ok-now.ensures.kept in
    fills_on c.args.name.now s0 s2 s3 kept.frame
    (fills_on c.args.name.now s0 s1 s2 c.lines.invariant.kept.frame (c.lines.invariant.runs told) (c.put_bytes.ensures.runs told)) (c.put_bytes-in-Some.ensures.runs told)

pub returns-in_err-now-2-clause-kept : goal.returns-in_err-now-2-clause-kept
returns-in_err-now-2-clause-kept g c = going.GoesOn-same c.from_residual-in_err-now-2.result _ c.from_residual-in_err-now-2.ensures.1 _
    (GoesOn-then g.met.D.Desk.stays_on (λ is. absurd (cc)) (GoesOn-then g.met.D.Desk.stays_on (λ is. is) c.lines.invariant.kept c.in_ok-now.ensures.kept) c.in_err-now-2.ensures.kept)

pub lines-preserved : goal.lines-preserved
lines-preserved g c =
    let s0 : Scene = g.D.World.scene c.args.desk.now in
    let s1 : Scene = g.D.World.scene c.lines.desk in
    let s2 : Scene = g.D.World.scene c.put_bytes.new.desk in
    let s3 : Scene = g.D.World.scene c.put_bytes-in-Some.new.desk in
    let line = c.split_at.result.0.now in
    let after = c.split_at.result.1.now in
    let more = dos_ends (take (length after - 1) (drop 1 after)) in
    let is : dos_ends c.lines.rest.now ≡ line ++ 13 ∷ 10 ∷ more =
    dos_some c.lines.rest.now line after c.in-Some.end c.split_at.ensures.front c.split_at.ensures.back c.in-Some.ensures in
    let kept = GoesOn-then g.met.D.Desk.stays_on (λ is. is) c.lines.invariant.kept c.in_ok-now.ensures.kept in
    record {
      kept = GoesOn-none (λ is. absurd (cc)) (GoesOn-then g.met.D.Desk.stays_on (λ is. absurd (cc)) kept c.in_ok-now-2.ensures.kept);
      few = c.in_ok-now-2.ensures.few;
      size = omega (arith, ended_len _ line more is, c.lines.invariant.size, c.in_ok-now.ensures.size, c.in_ok-now-2.ensures.size);
      runs = λ told. fills_on c.args.name.now s0 s2 s3 kept.frame
          (fills_on c.args.name.now s0 s1 s2 c.lines.invariant.kept.frame (c.lines.invariant.runs told) (c.put_bytes.ensures.runs told)) (c.put_bytes-in-Some.ensures.runs told);
      there = λ told.
          let had = c.lines.invariant.there told in
          let one = c.in_ok-now.ensures.ok told had.1 had.3 in
          let two = c.in_ok-now-2.ensures.ok told one.0 one.1 in (
            had.0,
            two.0,
            had.2,
            two.1,
            two.2,
            put_twice two.0 c.put_bytes-in-Some.new.piece.items had.1 one.0 c.lines.piece.items c.put_bytes.new.piece.items line (13 ∷ 10 ∷ []) more two.3 one.3
                ∙ ap (λ (b : List ℕ). had.1 ++ (c.lines.piece.items ++ b)) (sym is)
                ∙ had.5,
          );
    }

pub put_bytes-requires-2-clause-small : goal.put_bytes-requires-2-clause-small
put_bytes-requires-2-clause-small g c = omega (arith, ap length (dos_none c.lines.rest.now c.in_default.ensures), c.lines.invariant.size, c.requires.small)

pub returns-clause-runs : goal.returns-clause-runs
returns-clause-runs g c told =
    let s0 : Scene = g.D.World.scene c.args.desk.now in
    let s1 : Scene = g.D.World.scene c.lines.desk in
    let s2 : Scene = g.D.World.scene c.put_bytes-2.new.desk in
    fills_on c.args.name.now s0 s1 s2 c.lines.invariant.kept.frame (c.lines.invariant.runs told) (c.put_bytes-2.ensures.runs told)

pub returns-clause-size : goal.returns-clause-size
returns-clause-size g c =
    ok_with c.put_bytes-2.result
    (λ now. now + length c.put_bytes-2.new.piece.items ≡ c.lines.now + length c.lines.piece.items + length c.lines.rest.now)
    (λ now. now + length c.put_bytes-2.new.piece.items ≡ c.args.size + length c.args.piece.now.items + length (dos_ends c.args.lines.now))
    (λ now is. omega (arith, is, ap length (dos_none c.lines.rest.now c.in_default.ensures), c.lines.invariant.size))
    c.put_bytes-2.ensures.size

pub returns-clause-kept : goal.returns-clause-kept
returns-clause-kept g c = GoesOn-then g.met.D.Desk.stays_on (λ is. is) c.lines.invariant.kept c.put_bytes-2.ensures.kept

pub returns-clause-ok : goal.returns-clause-ok
returns-clause-ok g c =
    let s0 : Scene = g.D.World.scene c.args.desk.now in
    let s1 : Scene = g.D.World.scene c.lines.desk in
    let s2 : Scene = g.D.World.scene c.put_bytes-2.new.desk in
    let rest = c.lines.rest.now in
    let piece = c.put_bytes-2.new.piece.items in
    ok_with c.put_bytes-2.result
    (λ now. IsTrue g.D.World.tells.folder → (before : List ℕ) → content_of s1 c.args.name.now ≡ Some before
    → (after : List ℕ) × (content_of s2 c.args.name.now ≡ Some after) × (now ≡ length after) × (after ++ piece ≡ before ++ c.lines.piece.items ++ rest))
    (λ now. IsTrue g.D.World.tells.folder → (before : List ℕ) → content_of s0 c.args.name.now ≡ Some before
    → (after : List ℕ) × (content_of s2 c.args.name.now ≡ Some after) × (now ≡ length after)
    × (after ++ piece ≡ before ++ c.args.piece.now.items ++ dos_ends c.args.lines.now))
    (λ now puts told before at.
    let had = c.lines.invariant.there told in
    let last = puts told had.1 had.3 in
    let same : had.0 ≡ before = some_bytes had.0 before (sym had.2 ∙ at) in (
      last.0,
      last.1,
      last.2,
      last.3
          ∙ append_assoc had.1 c.lines.piece.items rest
          ∙ ap (λ (b : List ℕ). had.1 ++ (c.lines.piece.items ++ b)) (sym (dos_none rest c.in_default.ensures))
          ∙ had.5
          ∙ ap (λ (b : List ℕ). b ++ (c.args.piece.now.items ++ dos_ends c.args.lines.now)) same
          ∙ sym (append_assoc before c.args.piece.now.items (dos_ends c.args.lines.now)),
    ))
    c.put_bytes-2.ensures.ok

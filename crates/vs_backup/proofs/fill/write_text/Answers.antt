use Rattle.std.proofs.Common.{◌≡◌, ◌∙◌, ◌+◌, ◌*◌, ◌≤◌, ◌++◌, ℕ, List, Some, length, take, sym, ap, arith, refl, rules}
use Rattle.vs_text.specs.Text.{file_of}
use Rattle.vs_text.specs.Documents.{file_in}
use Rattle.vs_backup.specs.Ends.{ends_in}
use Rattle.vs_text.specs.declared.TheConstants.{MAX_LINE_BYTES}
use Rattle.vs_edit.specs.Splices.{cut_out}
use Rattle.vs_host.specs.World.{Scene, content_of}
use Rattle.vs_backup.specs.Works.{Fills}
use Rattle.vs_backup.proofs.Filling.{fills_on, then_looks, few_held}
use Rattle.vs_backup.proofs.Ends.{few_ends, file_more}
use Rattle.vs_backup.proofs.Going.{GoesOn-none, GoesOn-reads, GoesOn-then}
use Rattle.vs_backup.proofs.Going as going
use Rattle.vs_backup.proofs.fill.write_text.Goals as goal

pub returns-in_err-text_lines-clause-runs : goal.returns-in_err-text_lines-clause-runs
returns-in_err-text_lines-clause-runs g c told =
    let s0 : Scene = g.D.World.scene c.args.desk.now in
    let s1 : Scene = g.D.World.scene c.runs.desk in
    let s2 : Scene = g.D.World.scene c.text_lines.new.self in
    then_looks (Fills c.args.name.now) s0 s1 s2 c.runs.invariant.kept.frame (c.runs.invariant.runs told) (c.text_lines.ensures.looks told)

pub put_lines-requires-clause-small : goal.put_lines-requires-clause-small
put_lines-requires-clause-small g c =
    let few : length c.text_lines.new.into.items ≤ c.min-count.result * (MAX_LINE_BYTES + 1) = few_held c.min-count.result c.text_lines.new.into.items c.in_ok-text_lines.ensures.are_lines in
    omega (arith, few, few_ends c.args.format c.deref.result.now, ap length c.deref.ensures.value, c.runs.invariant.bound, c.text_len-end.ensures, g.met.D.Desk.few_lines c.args.desk.now c.requires.valid)

pub returns-in_err-size-clause-runs : goal.returns-in_err-size-clause-runs
returns-in_err-size-clause-runs g c told =
    let s0 : Scene = g.D.World.scene c.args.desk.now in
    let s1 : Scene = g.D.World.scene c.runs.desk in
    let s2 : Scene = g.D.World.scene c.text_lines.new.self in
    let s3 : Scene = g.D.World.scene c.put_lines.new.desk in
    let looked = GoesOn-then g.met.D.Desk.stays_on (λ is. is) c.runs.invariant.kept (GoesOn-reads c.in_ok-text_lines.ensures.kept) in
    fills_on c.args.name.now s0 s2 s3 looked.frame
    (then_looks (Fills c.args.name.now) s0 s1 s2 c.runs.invariant.kept.frame (c.runs.invariant.runs told) (c.text_lines.ensures.looks told)) (c.put_lines.ensures.runs told)

pub runs-preserved : goal.runs-preserved
runs-preserved g c =
    let s0 : Scene = g.D.World.scene c.args.desk.now in
    let s1 : Scene = g.D.World.scene c.runs.desk in
    let s2 : Scene = g.D.World.scene c.text_lines.new.self in
    let s3 : Scene = g.D.World.scene c.put_lines.new.desk in
    let count = c.min-count.result in
    let lines = c.text_lines.new.into.items in
    let bytes = c.deref.result.now in
    let few : length lines ≤ count * (MAX_LINE_BYTES + 1) = few_held count lines c.in_ok-text_lines.ensures.are_lines in
    let looked = GoesOn-then g.met.D.Desk.stays_on (λ is. is) c.runs.invariant.kept (GoesOn-reads c.in_ok-text_lines.ensures.kept) in
    record {
      kept = GoesOn-none (λ is. absurd (cc)) (GoesOn-then g.met.D.Desk.stays_on (λ is. absurd (cc)) looked c.in_ok-size.ensures.kept);
      few = c.in_ok-size.ensures.few;
      within = omega arith;
      bound = omega (arith, few, few_ends c.args.format bytes, ap length c.deref.ensures.value, c.runs.invariant.bound, c.in_ok-size.ensures.size);
      runs = λ told. fills_on c.args.name.now s0 s2 s3 looked.frame
          (then_looks (Fills c.args.name.now) s0 s1 s2 c.runs.invariant.kept.frame (c.runs.invariant.runs told) (c.text_lines.ensures.looks told)) (c.put_lines.ensures.runs told);
      there = λ told.
          let had = c.runs.invariant.there told in
          let before : content_of s2 c.args.name.now ≡ Some had.0 = ap (λ (s : Scene). content_of s c.args.name.now) c.text_lines.ensures.kept.frame ∙ had.1 in
          let now = c.in_ok-size.ensures.ok told had.0 before in (
            now.0,
            now.1,
            now.2,
            λ text has.
                let kept = g.met.D.Desk.stays_text c.args.desk.now c.runs.desk text c.runs.invariant.kept.stays has in
                let these : lines ≡ file_of (cut_out text c.runs.at count) = c.in_ok-text_lines.ensures.lines text kept in
                now.3
                ∙ ap (λ (b : List ℕ). b ++ ends_in c.args.format bytes) (had.3 text has)
                ∙ ap (λ (b : List ℕ). file_in c.args.format (take c.runs.at text) ++ ends_in c.args.format b) (c.deref.ensures.value ∙ these)
                ∙ sym (file_more c.args.format text c.runs.at count (g.met.D.Desk.is_text c.args.desk.now text c.requires.valid has)),
          );
    }

pub returns-in_err-size-2-clause-runs : goal.returns-in_err-size-2-clause-runs
returns-in_err-size-2-clause-runs g c told =
    let s0 : Scene = g.D.World.scene c.args.desk.now in
    let s1 : Scene = g.D.World.scene c.runs.desk in
    let s2 : Scene = g.D.World.scene c.flush.new.desk in
    fills_on c.args.name.now s0 s1 s2 c.runs.invariant.kept.frame (c.runs.invariant.runs told) (c.flush.ensures.runs told)

pub returns-clause-runs : goal.returns-clause-runs
returns-clause-runs g c told =
    let s0 : Scene = g.D.World.scene c.args.desk.now in
    let s1 : Scene = g.D.World.scene c.runs.desk in
    let s2 : Scene = g.D.World.scene c.flush.new.desk in
    fills_on c.args.name.now s0 s1 s2 c.runs.invariant.kept.frame (c.runs.invariant.runs told) (c.flush.ensures.runs told)

pub runs-init : goal.runs-init
runs-init g c = record { kept = going.GoesOn-nothing c.requires.valid (g.met.D.Desk.stays_itself c.args.desk.now) (λ is. is); few = search rules; within = search rules; bound = search rules; runs = search rules; there = search rules }

pub returns-in_err-text_lines-clause-kept : goal.returns-in_err-text_lines-clause-kept
returns-in_err-text_lines-clause-kept g c = going.GoesOn-as (going.store_there c.from_residual.result _ c.from_residual.ensures.1) (λ calm failed. calm (going.store_here c.from_residual.result _ c.from_residual.ensures.1 failed)) (going.GoesOn-then g.met.D.Desk.stays_on (λ is. is) c.runs.invariant.kept (going.GoesOn-reads c.in_err-text_lines.ensures.kept))

pub returns-in_err-size-clause-kept : goal.returns-in_err-size-clause-kept
returns-in_err-size-clause-kept g c = going.GoesOn-same c.from_residual-in_err-size.result _ c.from_residual-in_err-size.ensures.1 _ (going.GoesOn-then g.met.D.Desk.stays_on (λ is. absurd (cc)) (going.GoesOn-then g.met.D.Desk.stays_on (λ is. is) c.runs.invariant.kept (going.GoesOn-reads c.in_ok-text_lines.ensures.kept)) c.in_err-size.ensures.kept)

pub returns-in_err-size-2-clause-kept : goal.returns-in_err-size-2-clause-kept
returns-in_err-size-2-clause-kept g c = going.GoesOn-failed c.from_residual-in_err-size-2.result _ c.from_residual-in_err-size-2.ensures.1 refl (going.GoesOn-then g.met.D.Desk.stays_on (λ is. is) c.runs.invariant.kept c.in_err-size-2.ensures.kept)

pub returns-clause-kept : goal.returns-clause-kept
returns-clause-kept g c = going.GoesOn-as (λ is. absurd (cc)) (λ _ is. absurd (cc)) (going.GoesOn-then g.met.D.Desk.stays_on (λ is. is) c.runs.invariant.kept c.in_ok-size-2.ensures.kept)

use Rattle.std.proofs.Common.{◌≡◌, ◌<◌, ◌+◌, ◌∙◌, List, ℕ, false, length, take, drop, arith, ap, refl, sym}
use Rattle.std.proofs.lemmas.Grind.{common_steps}
use Rattle.vs_text.specs.Text.{IsLine}
use Rattle.vs_script.specs.Ahead.{Ahead, Kept, reads_made}
use Rattle.vs_script.proofs.Going.{on_same_err}
use Rattle.vs_script.proofs.Taking.{HasAdded, IsAtEnd, line_begins, reads_line, reads_last, reads_none, line_stops, line_goes_on, line_is_kept, kept_is_shorter}
use Rattle.vs_script.proofs.ReadLemmas.{reads_nothing, reads_ok, reads_then, reads_passed, no_more_none, no_more_ok, no_more_then, no_more_passed}
use Rattle.vs_script.proofs.reader.ScriptReader.next_line.Goals as goal

pub returns-in-Some-clause-line : goal.returns-in-Some-clause-line
returns-in-Some-clause-line g c = λ tells.
    let ahead : List ℕ = c.pieces.self.bytes in
    let split = rw c.ahead-ahead.ensures.bytes at c.in-Some.ensures in
    let added : HasAdded c.pieces.line c.add.new.self (take c.in-Some.end ahead) = grind (arith, common_steps) in
    reads_line c.args.self.now c.pieces.self c.skip.new.self (g.S.World.scene c.args.host.now) (g.S.World.scene c.pieces.host) c.pieces.line c.add.new.self (take c.in-Some.end ahead) (drop (c.in-Some.end + 1) ahead)
    (c.pieces.invariant.so_far tells) split.2 split.1 c.skip.ensures added

pub returns-in-Some-clause-is_line : goal.returns-in-Some-clause-is_line
returns-in-Some-clause-is_line g c =
    let ahead : List ℕ = c.pieces.self.bytes in
    let split = rw c.ahead-ahead.ensures.bytes at c.in-Some.ensures in
    let added : HasAdded c.pieces.line c.add.new.self (take c.in-Some.end ahead) = grind (arith, common_steps) in
    line_is_kept c.pieces.line c.add.new.self (take c.in-Some.end ahead) c.pieces.invariant.line split.1 added

pub returns-in_err-refill-clause-stops : goal.returns-in_err-refill-clause-stops
returns-in_err-refill-clause-stops g c =
    let ahead_is : IsLine c.pieces.self.bytes = rw c.ahead-ahead.ensures.bytes at c.in_default.ensures in
    on_same_err _ _ _ c.from_residual.ensures.1 (λ tells.
    let stop = c.in_err-refill.ensures.stops tells in
    let was : c.pieces.self.ended ≡ false = sym (ap (λ (a : Ahead). a.ended) c.skip-in-pieces.ensures) ∙ stop.0 in
    line_stops _ c.args.self.now c.pieces.self c.refill.new.self (g.S.World.scene c.args.host.now) (g.S.World.scene c.pieces.host) (g.S.World.scene c.refill.new.host) c.pieces.line
    (c.pieces.invariant.so_far tells) ahead_is was (stop.1 ∙ ap (λ (a : Ahead). a.taken) c.skip-in-pieces.ensures) stop.2)

pub returns-then-is_empty-clause-line : goal.returns-then-is_empty-clause-line
returns-then-is_empty-clause-line g c = λ tells.
    let added : HasAdded c.pieces.line c.add-in-pieces.new.self c.pieces.self.bytes = grind (arith, common_steps) in
    let none : length c.add-in-pieces.new.self.bytes ≡ 0 = grind (arith, common_steps) in
    let room : 0 < c.add-in-pieces.new.self.room = grind (arith, common_steps) in
    let end : IsAtEnd c.refill.new.self (g.S.World.scene c.pieces.host) (g.S.World.scene c.refill.new.host) = record {
      script = c.in_ok-refill.ensures.script tells;
      none = c.in_ok-refill.ensures.none (grind (arith, common_steps));
      end = c.in_ok-refill.ensures.end (grind (arith, common_steps)) tells;
      ended = c.in_ok-refill.ensures.at_end (grind (arith, common_steps));
    } in
    reads_none c.args.self.now c.pieces.self c.refill.new.self (g.S.World.scene c.args.host.now) (g.S.World.scene c.pieces.host) (g.S.World.scene c.refill.new.host) c.pieces.line c.add-in-pieces.new.self
    (c.pieces.invariant.so_far tells) end added room none

pub returns-then-not-branch-clause-line : goal.returns-then-not-branch-clause-line
returns-then-not-branch-clause-line g c = λ tells.
    let ahead_is : IsLine c.pieces.self.bytes = rw c.ahead-ahead.ensures.bytes at c.in_default.ensures in
    let added : HasAdded c.pieces.line c.add-in-pieces.new.self c.pieces.self.bytes = grind (arith, common_steps) in
    let some : 0 < length c.add-in-pieces.new.self.bytes = grind (arith, common_steps) in
    let end : IsAtEnd c.refill.new.self (g.S.World.scene c.pieces.host) (g.S.World.scene c.refill.new.host) = record {
      script = c.in_ok-refill.ensures.script tells;
      none = c.in_ok-refill.ensures.none (grind (arith, common_steps));
      end = c.in_ok-refill.ensures.end (grind (arith, common_steps)) tells;
      ended = c.in_ok-refill.ensures.at_end (grind (arith, common_steps));
    } in
    reads_last c.args.self.now c.pieces.self c.refill.new.self (g.S.World.scene c.args.host.now) (g.S.World.scene c.pieces.host) (g.S.World.scene c.refill.new.host) c.pieces.line c.add-in-pieces.new.self
    (c.pieces.invariant.so_far tells) end ahead_is added some

pub returns-then-not-branch-clause-is_line : goal.returns-then-not-branch-clause-is_line
returns-then-not-branch-clause-is_line g c =
    let ahead_is : IsLine c.pieces.self.bytes = rw c.ahead-ahead.ensures.bytes at c.in_default.ensures in
    let added : HasAdded c.pieces.line c.add-in-pieces.new.self c.pieces.self.bytes = grind (arith, common_steps) in
    line_is_kept c.pieces.line c.add-in-pieces.new.self c.pieces.self.bytes c.pieces.invariant.line ahead_is added

pub returns-then-not-branch-clause-fewer : goal.returns-then-not-branch-clause-fewer
returns-then-not-branch-clause-fewer g c = λ found.
    let added : HasAdded c.pieces.line c.add-in-pieces.new.self c.pieces.self.bytes = grind (arith, common_steps) in
    let some : 0 < length c.add-in-pieces.new.self.bytes = grind (arith, common_steps) in
    grind (arith, common_steps, kept_is_shorter c.pieces.line c.add-in-pieces.new.self c.pieces.self.bytes added, some)

pub pieces-init : goal.pieces-init
pieces-init g c = record {
  so_far = λ tells. line_begins c.args.self.now (g.S.World.scene c.args.host.now) c.clear.new.self (ap (λ (k : Kept). k.bytes) c.clear.ensures);
  line = grind (arith, common_steps);
  room = refl;
  ended = c.requires.ended;
  counts = λ tells. refl;
  left = grind (arith, common_steps);
  reads = reads_nothing;
  calls = no_more_none refl;
}

pub pieces-preserved : goal.pieces-preserved
pieces-preserved g c =
    let ahead_is : IsLine c.pieces.self.bytes = rw c.ahead-ahead.ensures.bytes at c.in_default.ensures in
    let added : HasAdded c.pieces.line c.add-in-pieces.new.self c.pieces.self.bytes = grind (arith, common_steps) in
    record {
      so_far = λ tells.
          line_goes_on c.args.self.now c.pieces.self c.refill.new.self (g.S.World.scene c.args.host.now) (g.S.World.scene c.pieces.host) (g.S.World.scene c.refill.new.host) c.pieces.line c.add-in-pieces.new.self
          (c.pieces.invariant.so_far tells) ahead_is (c.in_ok-refill.ensures.script tells) (c.in_ok-refill.ensures.taken ∙ ap (λ (a : Ahead). a.taken + length c.refill.new.self.bytes) c.skip-in-pieces.ensures)
          (λ open_after. sym (ap (λ (a : Ahead). a.ended) c.skip-in-pieces.ensures) ∙ c.in_ok-refill.ensures.goes_on open_after) added;
      line = line_is_kept c.pieces.line c.add-in-pieces.new.self c.pieces.self.bytes c.pieces.invariant.line ahead_is added;
      room = ap (λ (k : Kept). k.room) added ∙ c.pieces.invariant.room;
      ended = c.in_ok-refill.ensures.track.ended;
      counts = λ tells. grind (arith, common_steps, c.pieces.invariant.counts tells, c.in_ok-refill.ensures.track.counts tells);
      left = grind (arith, common_steps, kept_is_shorter c.pieces.line c.add-in-pieces.new.self c.pieces.self.bytes added);
      reads = reads_ok (reads_then c.pieces.invariant.reads c.in_ok-refill.ensures.reads);
      calls = no_more_ok (no_more_then _ (ap (λ (a : Ahead). reads_made a) c.skip-in-pieces.ensures) c.pieces.invariant.calls c.in_ok-refill.ensures.calls);
    }

pub returns-in-Some-clause-reads : goal.returns-in-Some-clause-reads
returns-in-Some-clause-reads g c = reads_ok c.pieces.invariant.reads

pub returns-in_err-refill-clause-reads : goal.returns-in_err-refill-clause-reads
returns-in_err-refill-clause-reads g c = reads_passed _ c.in_err-refill.was c.from_residual.ensures.1 (reads_then c.pieces.invariant.reads c.refill.ensures.reads)

pub returns-then-is_empty-clause-reads : goal.returns-then-is_empty-clause-reads
returns-then-is_empty-clause-reads g c = reads_ok (reads_then c.pieces.invariant.reads c.in_ok-refill.ensures.reads)

pub returns-then-not-branch-clause-reads : goal.returns-then-not-branch-clause-reads
returns-then-not-branch-clause-reads g c = reads_ok (reads_then c.pieces.invariant.reads c.in_ok-refill.ensures.reads)

pub returns-in-Some-clause-calls : goal.returns-in-Some-clause-calls
returns-in-Some-clause-calls g c = no_more_then {from = c.skip.new.self} _ (ap (λ (a : Ahead). reads_made a) c.skip.ensures) c.pieces.invariant.calls (no_more_none refl)

pub returns-in_err-refill-clause-calls : goal.returns-in_err-refill-clause-calls
returns-in_err-refill-clause-calls g c =
    no_more_passed _ c.in_err-refill.was c.from_residual.ensures.1 (no_more_then _ (ap (λ (a : Ahead). reads_made a) c.skip-in-pieces.ensures) c.pieces.invariant.calls c.refill.ensures.calls)

pub returns-then-is_empty-clause-calls : goal.returns-then-is_empty-clause-calls
returns-then-is_empty-clause-calls g c = no_more_ok (no_more_then _ (ap (λ (a : Ahead). reads_made a) c.skip-in-pieces.ensures) c.pieces.invariant.calls c.in_ok-refill.ensures.calls)

pub returns-then-not-branch-clause-calls : goal.returns-then-not-branch-clause-calls
returns-then-not-branch-clause-calls g c = no_more_ok (no_more_then _ (ap (λ (a : Ahead). reads_made a) c.skip-in-pieces.ensures) c.pieces.invariant.calls c.in_ok-refill.ensures.calls)

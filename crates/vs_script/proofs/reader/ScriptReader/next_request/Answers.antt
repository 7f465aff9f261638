use Rattle.std.proofs.Common.{◌≡◌, true, inl, inr, arith, refl, sym, ap, ◌∙◌}
use Rattle.std.proofs.lemmas.Grind.{common_steps}
use Rattle.vs_excmd.specs.declared.request.Request.{Request}
use Rattle.vs_exparse.specs.Command.{result_of}
use Rattle.vs_script.specs.Ahead.{Kept}
use Rattle.vs_script.specs.Requests.{TakesRequest}
use Rattle.vs_script.specs.Script.{Alone, kind_of}
use Rattle.vs_script.proofs.Going.{on_same_err}
use Rattle.vs_script.proofs.Commands.{alone_taken, block_taken, ends_none, ends_request, feed_goes_on, fewer_at_end, if_told, means_kept, ready_on, script_begins, script_stops}
use Rattle.vs_script.proofs.ReadLemmas.{reads_nothing, reads_ok, reads_then, reads_passed, no_more_none, no_more_ok, no_more_then, no_more_passed}
use Rattle.vs_script.proofs.reader.ScriptReader.next_request.Goals as goal

pub lines-init : goal.lines-init
lines-init g c = record {
  so_far = λ tells. script_begins c.new-feed.result c.args.self.now (g.S.World.scene c.args.host.now) c.new-feed.ensures;
  ready = (_, c.new-feed.ensures);
  begun = inl c.new-feed.ensures;
  ended = c.requires.ended;
  counts = λ tells. refl;
  left = omega arith;
  reads = reads_nothing;
  calls = no_more_none refl;
}

pub lines-preserved : goal.lines-preserved
lines-preserved g c =
    let line : Kept = c.next_line.new.line in
    let found : c.in_ok-next_line.field-0 ≡ true = grind (arith, common_steps) in
    record {
      so_far = λ tells.
          let was = c.lines.invariant.so_far tells in
          let read = c.in_ok-next_line.ensures.line tells in
          feed_goes_on c.in_ok-next_line.field-0 line c.lines.feed c.take_line.new.self c.args.self.now c.lines.self c.next_line.new.self (g.S.World.scene c.args.host.now) (g.S.World.scene c.lines.host) (g.S.World.scene c.next_line.new.host)
          was found read (c.in-Nothing.ensures.takes was.reading read.line was.at (means_kept _ read.line line c.bytes.ensures.bytes c.bytes.ensures.room read.is_kept));
      ready = ready_on c.lines.feed c.take_line.new.self c.take_line.result _ c.lines.invariant.ready c.take_line.ensures.takes;
      begun = inr (grind (arith, common_steps, c.in_ok-next_line.ensures.fewer found, c.lines.invariant.left));
      ended = c.in_ok-next_line.ensures.track.ended;
      counts = λ tells. grind (arith, common_steps, c.lines.invariant.counts tells, c.in_ok-next_line.ensures.track.counts tells);
      left = grind (arith, common_steps);
      reads = reads_ok (reads_then c.lines.invariant.reads c.in_ok-next_line.ensures.reads);
      calls = no_more_ok (no_more_then _ refl c.lines.invariant.calls c.in_ok-next_line.ensures.calls);
    }

pub returns-in_err-next_line-clause-stops : goal.returns-in_err-next_line-clause-stops
returns-in_err-next_line-clause-stops g c =
    on_same_err _ _ _ c.from_residual.ensures.1 (λ tells.
    script_stops _ c.lines.feed c.args.self.now c.lines.self c.next_line.new.self (g.S.World.scene c.args.host.now) (g.S.World.scene c.lines.host) (g.S.World.scene c.next_line.new.host) (c.lines.invariant.so_far tells) (c.in_err-next_line.ensures.stops tells))

pub returns-in_err-next_line-clause-reads : goal.returns-in_err-next_line-clause-reads
returns-in_err-next_line-clause-reads g c = reads_passed _ c.in_err-next_line.was c.from_residual.ensures.1 (reads_then c.lines.invariant.reads c.next_line.ensures.reads)

pub returns-in_err-next_line-clause-calls : goal.returns-in_err-next_line-clause-calls
returns-in_err-next_line-clause-calls g c = no_more_passed _ c.in_err-next_line.was c.from_residual.ensures.1 (no_more_then _ refl c.lines.invariant.calls c.next_line.ensures.calls)

pub returns-then-not-branch-clause-request : goal.returns-then-not-branch-clause-request
returns-then-not-branch-clause-request g c =
    if_told (λ (request : Request). TakesRequest request c.args.self.now c.next_line.new.self (g.S.World.scene c.args.host.now) (g.S.World.scene c.next_line.new.host)) _ c.end.result (λ tells.
    ends_request c.in_ok-next_line.field-0 c.next_line.new.line c.lines.feed c.end.result c.args.self.now c.lines.self c.next_line.new.self (g.S.World.scene c.args.host.now) (g.S.World.scene c.lines.host) (g.S.World.scene c.next_line.new.host)
    (c.lines.invariant.so_far tells) c.if-not-branch.true (c.in_ok-next_line.ensures.line tells) c.end.ensures.ended)

pub returns-then-not-branch-clause-none : goal.returns-then-not-branch-clause-none
returns-then-not-branch-clause-none g c = λ none tells.
    ends_none c.in_ok-next_line.field-0 c.next_line.new.line c.lines.feed c.end.result c.args.self.now c.lines.self c.next_line.new.self (g.S.World.scene c.args.host.now) (g.S.World.scene c.lines.host) (g.S.World.scene c.next_line.new.host)
    (c.lines.invariant.so_far tells) c.if-not-branch.true (c.in_ok-next_line.ensures.line tells) c.end.ensures.ended
    (c.in_ok-next_line.ensures.end (grind (arith, common_steps)) tells) (grind (arith, common_steps))

pub returns-then-not-branch-clause-fewer : goal.returns-then-not-branch-clause-fewer
returns-then-not-branch-clause-fewer g c =
    fewer_at_end c.lines.feed c.end.result _ (elim c.lines.invariant.begun [
      | inl start ↦ inl start
      | inr less ↦ inr (omega (arith, less, c.in_ok-next_line.ensures.left))
    ]) c.end.ensures.ended

pub returns-then-not-branch-clause-reads : goal.returns-then-not-branch-clause-reads
returns-then-not-branch-clause-reads g c = reads_ok (reads_then c.lines.invariant.reads c.in_ok-next_line.ensures.reads)

pub returns-then-not-branch-clause-calls : goal.returns-then-not-branch-clause-calls
returns-then-not-branch-clause-calls g c = no_more_ok (no_more_then _ refl c.lines.invariant.calls c.in_ok-next_line.ensures.calls)

pub returns-in-Block-clause-request : goal.returns-in-Block-clause-request
returns-in-Block-clause-request g c = λ tells.
    let line : Kept = c.next_line.new.line in
    let found : c.in_ok-next_line.field-0 ≡ true = grind (arith, common_steps) in
    let was = c.lines.invariant.so_far tells in
    let read = c.in_ok-next_line.ensures.line tells in
    let taken = c.in-Block.ensures.takes was.reading read.line was.at (means_kept _ read.line line c.bytes.ensures.bytes c.bytes.ensures.room read.is_kept) in
    block_taken c.in_ok-next_line.field-0 line c.lines.feed c.in-Block.request c.args.self.now c.lines.self c.next_line.new.self (g.S.World.scene c.args.host.now) (g.S.World.scene c.lines.host) (g.S.World.scene c.next_line.new.host) was found read taken.0

pub returns-in-Block-clause-reads : goal.returns-in-Block-clause-reads
returns-in-Block-clause-reads g c = reads_ok (reads_then c.lines.invariant.reads c.in_ok-next_line.ensures.reads)

pub returns-in-Block-clause-calls : goal.returns-in-Block-clause-calls
returns-in-Block-clause-calls g c = no_more_ok (no_more_then _ refl c.lines.invariant.calls c.in_ok-next_line.ensures.calls)

pub returns-clause-request : goal.returns-clause-request
returns-clause-request g c = λ tells.
    let line : Kept = c.next_line.new.line in
    let found : c.in_ok-next_line.field-0 ≡ true = grind (arith, common_steps) in
    let was = c.lines.invariant.so_far tells in
    let read = c.in_ok-next_line.ensures.line tells in
    let taken = c.in-Alone.ensures.takes was.reading read.line was.at (means_kept _ read.line line c.bytes.ensures.bytes c.bytes.ensures.room read.is_kept) in
    let kind : kind_of c.bytes.result.now ≡ Alone (result_of c.alone.result) = ap kind_of (c.bytes.ensures.bytes ∙ sym c.bytes-2.ensures.bytes) ∙ c.alone.ensures.command in
    alone_taken c.in_ok-next_line.field-0 line c.lines.feed _ (result_of c.alone.result) c.bytes.result.now c.args.self.now c.lines.self c.next_line.new.self (g.S.World.scene c.args.host.now) (g.S.World.scene c.lines.host) (g.S.World.scene c.next_line.new.host)
    was found read taken.0 kind (record { parsed = refl; block = refl })

pub returns-clause-reads : goal.returns-clause-reads
returns-clause-reads g c = reads_ok (reads_then c.lines.invariant.reads c.in_ok-next_line.ensures.reads)

pub returns-clause-calls : goal.returns-clause-calls
returns-clause-calls g c = no_more_ok (no_more_then _ refl c.lines.invariant.calls c.in_ok-next_line.ensures.calls)

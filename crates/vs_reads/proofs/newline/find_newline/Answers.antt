-- Where the parts that were looked at have no newline, the first one is the first of the rest.
use Rattle.std.proofs.Common.{◌≡◌, ◌≢◌, ◌+◌, ◌==◌, ◌<◌, ◌≤◌, Bool, true, false, length, ⊎_elim, arith}
use Rattle.std.proofs.lemmas.Bool.{cases_lt}
use Rattle.std.proofs.lemmas.Simd.{run_in_chunk_fails, run_in_chunk_stops}
use Rattle.vs_reads.proofs.newline.find_newline.Goals as goal

differ : (b : Bool) → b ≡ false → b ≢ true
differ b fails passes = absurd (cc)

pub returns-then-before-lt-LANES : goal.returns-then-before-lt-LANES
returns-then-before-lt-LANES c =
    let at = c.parts.at in
    let found = c.count_before_newline-before.result in
    let bytes = c.args.bytes.now in
    let room : at + 16 ≤ length bytes = omega arith in (
      record {
        low = omega (arith, c.parts.invariant.low);
        high = omega (arith, c.if-before-lt-LANES.true);
        before = λ k low high. ⊎_elim
            (λ (early : k < at). c.parts.invariant.none k low early)
            (λ (late : at ≤ k). differ _ (run_in_chunk_fails (λ byte. byte == 10) bytes at 16 found 0 room c.count_before_newline-before.ensures k late high))
            (cases_lt k at);
      },
      run_in_chunk_stops (λ byte. byte == 10) bytes at 16 found 0 room c.count_before_newline-before.ensures c.if-before-lt-LANES.true,
    )

pub parts-preserved : goal.parts-preserved
parts-preserved c =
    let at = c.parts.at in
    let found = c.count_before_newline-before.result in
    let bytes = c.args.bytes.now in
    let room : at + 16 ≤ length bytes = omega arith in
    let all : 16 ≤ found = c.if-before-lt-LANES.false in
    record {
      low = omega (arith, c.parts.invariant.low);
      high = room;
      none = λ k low high. ⊎_elim
          (λ (early : k < at). c.parts.invariant.none k low early)
          (λ (late : at ≤ k). differ _ (run_in_chunk_fails (λ byte. byte == 10) bytes at 16 found 0 room c.count_before_newline-before.ensures k late (omega arith)))
          (cases_lt k at);
    }

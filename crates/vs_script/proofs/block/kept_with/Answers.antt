use Rattle.std.proofs.Common.{◌<◌, ◌≤◌, ◌+◌, length, refl, arith, inl, inr}
use Rattle.vs_text.specs.declared.TheConstants.{MAX_LINES, MAX_TEXT_BYTES}
use Rattle.vs_script.proofs.Blocks.{short_more, bytes_more, length_more, within_more}
use Rattle.vs_script.proofs.block.kept_with.Goals as goal
use Rattle.vs_script.proofs.block.kept_with.Goals.{then-bytes-gt-MAX_TEXT_BYTES-via-then-bytes-gt-MAX_TEXT_BYTES, then-bytes-gt-MAX_TEXT_BYTES-via-else-bytes-gt-MAX_TEXT_BYTES+then-len-ge-MAX_LINES}

pub returns-then-bytes-gt-MAX_TEXT_BYTES-clause-holds : goal.returns-then-bytes-gt-MAX_TEXT_BYTES-clause-holds
returns-then-bytes-gt-MAX_TEXT_BYTES-clause-holds c = (
  short_more c.args.lines.items c.args.line.now c.requires.counted.1.short_lines c.requires.short,
  elim c.then-bytes-gt-MAX_TEXT_BYTES.branch [
    | then-bytes-gt-MAX_TEXT_BYTES-via-then-bytes-gt-MAX_TEXT_BYTES w ↦ inr (omega (arith, w.if-bytes-gt-MAX_TEXT_BYTES.true, c.requires.counted.0, bytes_more c.args.lines.items c.args.line.now))
    | then-bytes-gt-MAX_TEXT_BYTES-via-else-bytes-gt-MAX_TEXT_BYTES+then-len-ge-MAX_LINES w ↦ inl (omega (arith, w.if-len-ge-MAX_LINES.true, w.len.ensures, length_more c.args.lines.items c.args.line.now))
  ],
)

pub returns-in-Ok-clause-counted : goal.returns-in-Ok-clause-counted
returns-in-Ok-clause-counted c =
    let few_bytes : c.args.bytes + length c.args.line.now + 1 ≤ MAX_TEXT_BYTES = omega (arith, c.if-bytes-gt-MAX_TEXT_BYTES.false) in
    let few : length c.args.lines.items < MAX_LINES = omega (arith, c.if-len-ge-MAX_LINES.false, c.len.ensures) in
    within_more c.args.lines.items c.push_line.new.lines.items c.args.line.now c.args.bytes (c.args.bytes + length c.args.line.now + 1)
    c.requires.counted.0 c.requires.counted.1 c.requires.short c.in-Ok.ensures refl few_bytes few

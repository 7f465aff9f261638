-- Each turn moves one entry, which was as the caller gave it.
use Rattle.std.proofs.Common.{◌≡◌, ◌+◌, ◌*◌, ◌-◌, ◌%◌, ◌^◌, ◌<◌, ◌≤◌, ℕ, List, length, ◌∙◌, arith}
use Rattle.vs_bytes.specs.Fields.{Little, number_at, with_number}
use Rattle.vs_data.specs.Blocks.{entry_at, start_at}
use Rattle.vs_data.proofs.Entries.{EntriesMoved, entry_after, none_moved, one_more_moved}
use Rattle.vs_data.proofs.index.move_starts.Goals as goal

-- the entry that a turn reads
entry_was : (old block : List ℕ) (first line start to place entry : ℕ) → EntriesMoved old block first line start to → place ≡ 24 + 4 * line → entry ≡ number_at Little 4 block place
    → entry ≡ entry_at old line
entry_was old block first line start to place entry h at e =
    rw at at e ∙ entry_after old block (24 + 4 * first) (24 + 4 * line) line h.keeps (omega arith)

-- an entry that begins at `start` or above it is so, whatever its mark bit
above_start : (entry start : ℕ) → start ≤ entry % 2 ^ 31 → start ≤ entry
above_start entry start h = omega arith

turn : (old block new : List ℕ) (first line start to place entry : ℕ) → EntriesMoved old block first line start to → place ≡ 24 + 4 * line → entry ≡ number_at Little 4 block place
    → new ≡ with_number Little 4 block place (entry - start + to) → first ≤ line → 24 + 4 * (line + 1) ≤ length block → entry < 2 ^ 32
    → start ≤ start_at old line → start_at old line + to < 2 ^ 31 + start
    → EntriesMoved old new first (line + 1) start to
turn old block new first line start to place entry h at read written low within fits above below =
    let was = entry_was old block first line start to place entry h at read in
    let here : entry ≡ entry_at block line = rw at at read in
    let is : new ≡ with_number Little 4 block (24 + 4 * line) (entry_at block line - start + to) = cc in
    rw is (one_more_moved old block first line start to h low within (omega arith) (omega arith))

pub loop-line-init : goal.loop-line-init
loop-line-init c = none_moved c.args.block.now c.args.first c.args.start c.args.to

pub overflow_sub-entry : goal.overflow_sub-entry
overflow_sub-entry c =
    let line : ℕ = c.loop-line.line in
    let was = entry_was c.args.block.now c.loop-line.block c.args.first line c.args.start c.args.to c.entry_place-place.result c.le_u32-entry.result c.loop-line.invariant c.entry_place-place.ensures c.le_u32-entry.ensures in
    let above : c.args.start ≤ start_at c.args.block.now line = c.requires.above line c.loop-line.auto.line c.loop-line-test.true in
    rw was (above_start (entry_at c.args.block.now line) c.args.start above)

pub loop-line-preserved : goal.loop-line-preserved
loop-line-preserved c =
    let line : ℕ = c.loop-line.line in
    turn c.args.block.now c.loop-line.block c.put_le_u32.new.b c.args.first line c.args.start c.args.to c.entry_place-place.result c.le_u32-entry.result c.loop-line.invariant
    c.entry_place-place.ensures c.le_u32-entry.ensures c.put_le_u32.ensures c.loop-line.auto.line (omega arith) c.le_u32-entry.type_inv
    (c.requires.above line c.loop-line.auto.line c.loop-line-test.true) (c.requires.places line c.loop-line.auto.line c.loop-line-test.true)

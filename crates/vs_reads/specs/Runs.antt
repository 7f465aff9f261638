-- How many lines are copied from a store at a time.
use Rattle.std.specs.Prelude.{ℕ, ◌≡◌, ◌+◌, ◌*◌, ◌≤◌, ◌<◌}
use Rattle.vs_reads.specs.declared.runs.TheConstants.{FIRST_RUN_LINES, MAX_RUN_LINES, RUN_BYTES}

-- A run has this number of lines, where `lines` lines before it have so many bytes: as many lines of their mean length as have the
-- bytes of a run together.
pub record IsRunLength (lines bytes run : ℕ) : Type 0 where
  pub some : 0 < run
  pub few : run ≤ MAX_RUN_LINES
  pub first : lines ≡ 0 → run ≡ FIRST_RUN_LINES
  pub fits : 0 < lines → 1 < run → run * bytes ≤ lines * RUN_BYTES
  pub most : 0 < lines → run < MAX_RUN_LINES → lines * RUN_BYTES < (run + 1) * bytes

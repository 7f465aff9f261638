-- Replies of several sessions in one output: each of their lines stands after the tag of its session.
use Rattle.std.specs.Prelude.{◌==◌, ℕ, List, [], ◌∷◌, ◌++◌, map, if◌then◌else◌, Option, Some, None, IsTrue}
use Rattle.vs_faults.specs.Faults.{HasCause, IsQuiet}
use Rattle.vs_host.specs.World.{Tells, Scene, ChangesOutput}
use Rattle.vs_disk.specs.Runs.{FailsLast, Quiet}
use Rattle.vs_text.specs.Text.{lines_of, file_of}
use Rattle.vs_safety.specs.Safety.{IsFirstPart, Wrote}

-- what is written of a reply: each of its lines after the tag
abbrev pub tagged : List ℕ → List ℕ → List ℕ
tagged tag reply = file_of (map (λ line. tag ++ line) (lines_of reply))

-- what a line has behind a tag, where it begins with it
abbrev pub after_prefix : List ℕ → List ℕ → Option (List ℕ)
after_prefix [] line = Some line
after_prefix (byte ∷ tag) [] = None
after_prefix (byte ∷ tag) (first ∷ line) = if first == byte then after_prefix tag line else None

-- a line before others, if it is there
abbrev pub with_first : Option (List ℕ) → List (List ℕ) → List (List ℕ)
with_first None lines = lines
with_first (Some line) lines = line ∷ lines

-- of some lines those that begin with the tag, without it
abbrev pub lines_under : List ℕ → List (List ℕ) → List (List ℕ)
lines_under tag [] = []
lines_under tag (line ∷ lines) = with_first (after_prefix tag line) (lines_under tag lines)

-- These bytes were written, and nothing else changed; a first part of them where a write failed, and then its count has risen. No call
-- failed but that one, which is the last.
pub record WritesTagged (tells : Tells) (bytes : List ℕ) (Failed : Type 0) (old new : Scene) : Type 0 where
  pub wrote : IsTrue tells.folder → IsTrue tells.output → ¬ Failed → Wrote bytes old new
  pub part : IsTrue tells.folder → IsTrue tells.output → (part : List ℕ) × IsFirstPart part bytes × Wrote part old new
  pub cause : HasCause old.out_faults new.out_faults Failed
  pub quiet : IsQuiet old.out_faults new.out_faults Failed
  pub none : IsTrue tells.folder → ¬ Failed → Quiet old new
  pub last : IsTrue tells.folder → FailsLast old new
  pub frame : ChangesOutput old new

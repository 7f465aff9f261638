-- What is left of a script: what was read ahead, and what the host has left. How a reader takes lines of it.
use Rattle.std.specs.Prelude.{ℕ, Bool, true, false, ◌==◌, if◌then◌else◌, List, [], ◌∷◌, ◌++◌, ◌≡◌, ◌+◌, ◌-◌, ◌<◌, ◌≤◌, length, take, Result, IsTrue, OnErr}
use Rattle.std.specs.Prelude.{OnOk}
use Rattle.vs_exparse.specs.Bytes.{max_line_bytes}
use Rattle.vs_host.specs.World.{Tells, Scene}
use Rattle.vs_script.specs.declared.reader.ScriptErr.{ScriptErr}
use Rattle.vs_script.specs.declared.reader.ScriptErr.TheVariants as error
use Rattle.vs_text.specs.Text.{lines_of}

-- the greatest number of bytes of a script
abbrev pub script_limit : ℕ
script_limit = 1073741824

-- the bytes of a line that decide what it means
abbrev pub kept_of : List ℕ → List ℕ
kept_of line = take (max_line_bytes + 1) line

-- two lines have the same bytes where these decide what they mean
abbrev pub MeanSame : List ℕ → List ℕ → Type 0
MeanSame line other = kept_of line ≡ kept_of other

-- what is kept of a line: as many of its first bytes as there is room for
pub record Kept : Type 0 where
  pub room : ℕ
  pub bytes : List ℕ

-- these are the bytes that are kept of the line
abbrev pub IsKeptOf : Kept → List ℕ → Type 0
IsKeptOf kept line = kept.bytes ≡ take kept.room line

-- a byte before the first line, where there is one
abbrev pub onto_next : ℕ → List (List ℕ) → List (List ℕ)
onto_next byte [] = []
onto_next byte (line ∷ lines) = (byte ∷ line) ∷ lines

-- the lines whose byte 10 is among the bytes
abbrev pub whole_lines : List ℕ → List (List ℕ)
whole_lines [] = []
whole_lines (byte ∷ bytes) = if byte == 10 then [] ∷ whole_lines bytes else onto_next byte (whole_lines bytes)

-- a reader of a script: the bytes that it read ahead, how many it took so far, and whether it saw the end
pub record Ahead : Type 0 where
  pub bytes : List ℕ
  pub taken : ℕ
  pub ended : Bool

-- where the reader saw the end, nothing is left
abbrev pub HasSeen : Ahead → Scene → Type 0
HasSeen reader scene = reader.ended ≡ true → scene.script ≡ []

-- the lines that are still to be read
abbrev pub lines_ahead : Ahead → Scene → List (List ℕ)
lines_ahead reader scene = lines_of (reader.bytes ++ scene.script)

-- bytes that may still come, up to the limit
abbrev pub bytes_left : Ahead → ℕ
bytes_left reader = length reader.bytes + (script_limit - reader.taken)

-- each byte that was taken from the script counts, and no other
abbrev pub CountsTaken : Ahead → Ahead → Scene → Scene → Type 0
CountsTaken old new before after = new.taken + length after.script ≡ old.taken + length before.script

-- A reader keeps track of the script. Where it saw the end, nothing is left. Its count is within the limit, and where the call
-- succeeded it grew by just the bytes that were taken from the script.
pub record KeepsTrack (tells : Tells) {T : Type 0} (result : Result T ScriptErr) (old new : Ahead) (before after : Scene) : Type 0 where
  pub ended : IsTrue tells.script → HasSeen new after
  pub limit : new.taken ≤ script_limit
  pub counts : OnOk result (IsTrue tells.script → CountsTaken old new before after)

-- how many reads were made at most: each took a byte, but for the one that saw the end
abbrev pub reads_made : Ahead → ℕ
reads_made reader = reader.taken + (if reader.ended then 1 else 0)

-- Each read took a byte or saw the end, but for one with which the reader stopped: so none is made once the end was seen.
pub record ReadsNoMore (tells : Tells) {T : Type 0} (result : Result T ScriptErr) (old new : Ahead) (before after : Scene) : Type 0 where
  pub done : OnOk result (IsTrue tells.folder → length after.trace + reads_made old ≤ length before.trace + reads_made new)
  pub stopped : OnErr result (IsTrue tells.folder → length after.trace + reads_made old ≤ length before.trace + reads_made new + 1)

-- the next line of those before, where there is one
abbrev pub TakesLine : List (List ℕ) → Bool → List ℕ → List (List ℕ) → Type 0
TakesLine before false line after = (after ≡ []) × (before ≡ [])
TakesLine before true line after = before ≡ line ∷ after

-- A reader went on and did not come to the end. Of the bytes before it `f` is what `g` is of those after it, whatever follows.
pub record GoesOn {X : Type 0} (f g : List ℕ → X) (old new : Ahead) (before after : Scene) : Type 0 where
  pub open_before : old.ended ≡ false
  pub fresh : List ℕ
  pub script : before.script ≡ fresh ++ after.script
  pub count : new.taken ≡ old.taken + length fresh
  pub each : (rest : List ℕ) → f ((old.bytes ++ fresh) ++ rest) ≡ g (new.bytes ++ rest)

-- A line was read, where there was one, and this is kept of it.
pub record ReadsLine (found : Bool) (kept : Kept) (old new : Ahead) (before after : Scene) : Type 0 where
  pub line : List ℕ
  pub is_kept : IsKeptOf kept line
  pub ahead : TakesLine (lines_ahead old before) found line (lines_ahead new after)
  pub whole : new.ended ≡ false → (found ≡ true) × GoesOn whole_lines (λ bytes. line ∷ whole_lines bytes) old new before after

-- What is left of the script where a reader stops: after a failed call what the host has left, and else more than the limit, of
-- which one byte was taken.
abbrev pub IsLeft : ScriptErr → List ℕ → Ahead → Scene → Type 0
IsLeft error.Failed left new after = after.script ≡ left
IsLeft error.TooLong left new after = (0 < length left) × (length left ≤ length after.script + 1) × (new.taken ≡ script_limit)

-- A reader stopped. Of the bytes up to what is left `f` is `value`.
pub record Stops {X : Type 0} (error : ScriptErr) (f : List ℕ → X) (value : X) (old new : Ahead) (before after : Scene) : Type 0 where
  pub open_before : old.ended ≡ false
  pub fresh : List ℕ
  pub left : List ℕ
  pub is_left : IsLeft error left new after
  pub script : before.script ≡ fresh ++ left
  pub count : new.taken ≡ old.taken + length fresh
  pub value_is : f (old.bytes ++ fresh) ≡ value

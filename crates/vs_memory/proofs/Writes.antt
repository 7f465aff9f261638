-- How many writes on a name the log of a host has is how many its trace has.
use Rattle.std.proofs.Common.{◌≡◌, ℕ, ◌+◌, List, [], ◌∷◌, refl}
use Rattle.std.specs.Prelude.{Bool, false, if◌then◌else◌, string_bytes}
use Rattle.std.specs.Str.{bytes_eq}
use Rattle.vs_host.specs.Trace.{is_write_on, writes_in}
use Rattle.vs_memory.specs.declared.log.Call.{Call}
use Rattle.vs_memory.specs.declared.log.Entry.{Entry}
use Rattle.vs_memory.specs.Replay.{kind_of, names_in, trace_after}

-- whether the call is a write on this name
abbrev pub is_write : List ℕ → Call → Bool
is_write name (Call.WriteAt other at piece) = bytes_eq (string_bytes other) name
is_write name call = false

-- how many calls of the log are
abbrev pub writes_on : List ℕ → List Entry → ℕ
writes_on name [] = 0
writes_on name (entry ∷ log) = if is_write name entry.call then writes_on name log + 1 else writes_on name log

same_write : (name : List ℕ) (call : Call) → is_write name call ≡ is_write_on name (kind_of call) (names_in call)
same_write name Call.Read = refl
same_write name (Call.Write piece) = refl
same_write name (Call.Has other) = refl
same_write name (Call.Create other mode) = refl
same_write name (Call.Len other) = refl
same_write name (Call.ReadAt other) = refl
same_write name (Call.WriteAt other at piece) = refl
same_write name (Call.Cut other len) = refl
same_write name (Call.Sync other) = refl
same_write name (Call.SyncLike model other) = refl
same_write name (Call.Rename from to) = refl
same_write name (Call.Remove other) = refl
same_write name Call.SyncNames = refl

pub writes_same : (name : List ℕ) (base : List (List ℕ × List ℕ)) (log : List Entry) → writes_on name log ≡ writes_in (trace_after base log) name
writes_same name base [] = refl
writes_same name base (entry ∷ log) =
    (λ i. if same_write name entry.call i then writes_same name base log i + 1 else writes_same name base log i)

-- A file: its bytes as read, and what was done to it since its last sync.
use Rattle.std.specs.Prelude.{◌≡◌, ◌⊎◌, ℕ, ◌+◌, ◌-◌, ◌≤◌, ◌<◌, min, max, Bool, false, ◌&&◌, ◌||◌, nat_le, nat_lt, List, [], ◌∷◌, ◌++◌, length, take, drop}
use Rattle.std.specs.Prelude.{get_or}

-- `synced` has the bytes of the last sync. `changed` has the ranges that changed since then, each a place and a length, the
-- newest first. `least` and `greatest` are those of the lengths that the file had since then, before the present one.
pub record File : Type 0 where
  pub bytes : List ℕ
  pub synced : List ℕ
  pub changed : List (ℕ × ℕ)
  pub least : ℕ
  pub greatest : ℕ

-- one of the ranges has this place
abbrev pub covers : List (ℕ × ℕ) → ℕ → Bool
covers [] k = false
covers (r ∷ rs) k = (nat_le r.0 k && nat_lt k (r.0 + r.1)) || covers rs k

-- What a stop may leave of the file: any bytes in the ranges that changed, the bytes as read elsewhere, and any length from
-- the least to the greatest.
pub record IsFileImage (file : File) (c : List ℕ) : Type 0 where
  pub no_shorter : min file.least (length file.bytes) ≤ length c
  pub no_longer : length c ≤ max file.greatest (length file.bytes)
  pub same : (k : ℕ) → k < length c → covers file.changed k ≡ false → get_or c k 0 ≡ get_or file.bytes k 0

-- each image of the file has P
abbrev pub Leaves : File → (List ℕ → Type 0) → Type 0
Leaves file P = (c : List ℕ) → IsFileImage file c → P c

-- the bytes with a piece in the place of those from `at` on
abbrev pub put : List ℕ → ℕ → List ℕ → List ℕ
put bytes at piece = take at bytes ++ piece ++ drop (at + length piece) bytes

-- a file that has these bytes since its last sync
abbrev pub synced_file : List ℕ → File
synced_file bytes = record { bytes = bytes; synced = bytes; changed = []; least = length bytes; greatest = length bytes }

-- the file with these bytes, n of them changed at `at`
abbrev pub with_bytes : File → ℕ → ℕ → List ℕ → File
with_bytes file at n bytes = record {
  bytes = bytes;
  synced = file.synced;
  changed = (at, n) ∷ file.changed;
  least = min file.least (length file.bytes);
  greatest = max file.greatest (length file.bytes);
}

-- the file with a piece written at `at`
abbrev pub written : ℕ → List ℕ → File → File
written at piece file = with_bytes file at (length piece) (put file.bytes at piece)

-- the file without the bytes from `len` on, which count as changed
abbrev pub cut_to : ℕ → File → File
cut_to len file = with_bytes file len (length file.bytes - len) (take len file.bytes)

-- What a call makes of the file that it names.
abbrev pub Writes : ℕ → List ℕ → File → File → Type 0
Writes at piece old new = new ≡ written at piece old

-- nothing, or any bytes in a range of n, and any length from the old one to the one asked for
abbrev pub WritesSome : ℕ → ℕ → File → File → Type 0
WritesSome at n old new = (new ≡ old) ⊎ ((piece : List ℕ) × (at ≤ length old.bytes) × (length piece ≤ n) × (new ≡ with_bytes old at n (put old.bytes at piece)))

abbrev pub Cuts : ℕ → File → File → Type 0
Cuts len old new = new ≡ cut_to len old

abbrev pub Syncs : File → File → Type 0
Syncs old new = new ≡ synced_file old.bytes

-- What is counted of answers.
use Rattle.std.specs.Prelude.{◌≡◌, ℕ, ◌+◌, ◌%◌, ◌^◌, List, [], ◌∷◌, length, Result, Ok, Err}
use Rattle.std.specs.List.{AllByRecursion}
use Rattle.vs_ufile.specs.Decode.{Answers}
use Rattle.vs_ufile.specs.declared.error.UfErr.{UfErr}
use Rattle.vs_ufile.specs.declared.error.UfKind.{UfKind}
use Rattle.vs_ufile.specs.declared.error.UfKind.TheVariants.{NotUndo, Version, Encrypted, Truncated, BadMagic, TooManyHeads, DoubleNumber, NumberZero}
use Rattle.vs_ufile.specs.declared.error.UfKind.TheVariants.{UnknownLink, NotATree, NoMemory}
use Rattle.vs_ufile.specs.declared.history.FileHistory.{FileHistory}
use Rattle.vs_mutate.specs.declared.tally.Tally.{Tally}

-- nothing is counted
abbrev pub none : Tally
none = record {
  read = 0;
  not_undo = 0;
  version = 0;
  encrypted = 0;
  truncated = 0;
  bad_magic = 0;
  too_many_heads = 0;
  double_number = 0;
  number_zero = 0;
  unknown_link = 0;
  not_a_tree = 0;
  no_memory = 0;
  bytes = 0;
}

-- how many answers are counted
abbrev pub answers : Tally → ℕ
answers t =
    t.read + t.not_undo + t.version + t.encrypted + t.truncated + t.bad_magic + t.too_many_heads + t.double_number
    + t.number_zero + t.unknown_link + t.not_a_tree + t.no_memory

-- with one more refusal of a kind
abbrev pub refused : UfKind → Tally → Tally
refused NotUndo t = record t { not_undo = t.not_undo + 1 }
refused Version t = record t { version = t.version + 1 }
refused Encrypted t = record t { encrypted = t.encrypted + 1 }
refused Truncated t = record t { truncated = t.truncated + 1 }
refused BadMagic t = record t { bad_magic = t.bad_magic + 1 }
refused TooManyHeads t = record t { too_many_heads = t.too_many_heads + 1 }
refused DoubleNumber t = record t { double_number = t.double_number + 1 }
refused NumberZero t = record t { number_zero = t.number_zero + 1 }
refused UnknownLink t = record t { unknown_link = t.unknown_link + 1 }
refused NotATree t = record t { not_a_tree = t.not_a_tree + 1 }
refused NoMemory t = record t { no_memory = t.no_memory + 1 }

-- with one more answer
abbrev pub answered : Result FileHistory UfErr → Tally → Tally
answered (Ok history) t = record t { read = t.read + 1 }
answered (Err error) t = refused error.kind t

-- with one more answer, for these bytes
abbrev pub counted : List ℕ → Result FileHistory UfErr → Tally → Tally
counted bytes answer t = answered answer (record t { bytes = (t.bytes + length bytes) % 2 ^ 64 })

-- bytes, and what was answered for them
pub record Reading : Type 0 where
  pub bytes : List ℕ
  pub answer : Result FileHistory UfErr

-- all that was answered, counted
abbrev pub tally_of : List Reading → Tally
tally_of [] = none
tally_of (r ∷ readings) = counted r.bytes r.answer (tally_of readings)

-- this many bytes were read, each answered as the format says, and that is counted
pub record IsTally (files : ℕ) (t : Tally) : Type 0 where
  pub readings : List Reading
  pub number : length readings ≡ files
  pub answers : AllByRecursion (λ r. Answers r.bytes r.answer) readings
  pub counts : t ≡ tally_of readings

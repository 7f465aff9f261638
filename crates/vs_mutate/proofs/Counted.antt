-- Each answer is counted once.
use Rattle.std.proofs.Common.{◌≡◌, ℕ, ◌+◌, List, Result, Ok, Err, arith}
use Rattle.vs_ufile.specs.declared.error.UfErr.{UfErr}
use Rattle.vs_ufile.specs.declared.error.UfKind.{UfKind}
use Rattle.vs_ufile.specs.declared.error.UfKind.TheVariants.{NotUndo, Version, Encrypted, Truncated, BadMagic, TooManyHeads, DoubleNumber, NumberZero, UnknownLink, NotATree, NoMemory}
use Rattle.vs_ufile.specs.declared.history.FileHistory.{FileHistory}
use Rattle.vs_mutate.specs.declared.tally.Tally.{Tally}
use Rattle.vs_mutate.specs.Tallies.{answered, answers, counted, refused}

answers-refused : (kind : UfKind) (t : Tally) → answers (refused kind t) ≡ answers t + 1
answers-refused NotUndo t = omega arith
answers-refused Version t = omega arith
answers-refused Encrypted t = omega arith
answers-refused Truncated t = omega arith
answers-refused BadMagic t = omega arith
answers-refused TooManyHeads t = omega arith
answers-refused DoubleNumber t = omega arith
answers-refused NumberZero t = omega arith
answers-refused UnknownLink t = omega arith
answers-refused NotATree t = omega arith
answers-refused NoMemory t = omega arith

answers-answered : (answer : Result FileHistory UfErr) (t : Tally) → answers (answered answer t) ≡ answers t + 1
answers-answered (Ok history) t = omega arith
answers-answered (Err error) t = answers-refused error.kind t

-- with one more answer there is one more
pub answers-counted : (bytes : List ℕ) (answer : Result FileHistory UfErr) (t : Tally) → answers (counted bytes answer t) ≡ answers t + 1
answers-counted bytes answer t = answers-answered answer (record t { bytes = _ })

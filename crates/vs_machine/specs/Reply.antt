-- What a reply holds.
use Rattle.std.specs.Prelude.{ℕ, List}
use Rattle.vs_machine.specs.declared.reply.Body.{Body}
use Rattle.vs_machine.specs.declared.reply.Body.TheVariants.{Short, Long}

-- the bytes of a reply
abbrev pub bytes_in : Body → List ℕ
bytes_in (Short line) = line.items
bytes_in (Long bytes) = bytes.items

-- The files that were put into a host in memory.
use Rattle.std.specs.Prelude.{ℕ, List, map, reverse, string_bytes}
use Rattle.vs_memory.specs.declared.host.PutFile.{PutFile}

-- the one that was put last first
abbrev pub puts : List PutFile → List (List ℕ × List ℕ)
puts base = map (λ (file : PutFile). (string_bytes file.name, file.bytes.items)) (reverse base)

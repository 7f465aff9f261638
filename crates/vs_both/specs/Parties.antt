-- The session on a file, with the names of its family.
use Rattle.std.specs.Prelude.{ℕ, List}
use Rattle.vs_host.specs.Disk.{Name}
use Rattle.vs_host.specs.Names.{names_of_file}
use Rattle.vs_family.specs.Family.{is_of_family}
use Rattle.vs_both.specs.Beside.{Party}

-- the session on this file, which writes this line for an accepted quit
abbrev pub party_of : Name → List ℕ → Party
party_of file line = record { names = names_of_file file; family = is_of_family file; line = line }

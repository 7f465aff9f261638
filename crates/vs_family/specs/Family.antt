-- The names that the session on a file has to do with, and whether those of two files have one in common.
use Rattle.std.specs.Prelude.{◌≡◌, Bool, true, false, ◌||◌, List, [], ◌∷◌}
use Rattle.std.specs.Str.{bytes_eq}
use Rattle.vs_host.specs.Disk.{Name}
use Rattle.vs_host.specs.Names.{names_of_file, temporary}
use Rattle.vs_backup.specs.Backups.{candidates}

-- one of the names passes the test
abbrev pub any : (Name → Bool) → List Name → Bool
any test [] = false
any test (name ∷ names) = test name || any test names

-- a name passes the test, or the one under which its file is made
abbrev pub with_temporary : (Name → Bool) → Name → Bool
with_temporary test name = test name || test (temporary name)

-- the names under which a session leaves files: the file, its swap files, its undo file, and all names that its backups may get
abbrev pub lasting_names : Name → List Name
lasting_names file = let names = names_of_file file in names.file ∷ names.swp ∷ names.swo ∷ names.undo ∷ candidates file

-- the family of a file: these names, and those under which their files are made
abbrev pub is_of_family : Name → Name → Bool
is_of_family file name = any (with_temporary (bytes_eq name)) (lasting_names file)

-- two files clash where their families share a name
abbrev pub clash : Name → Name → Bool
clash one two = any (with_temporary (is_of_family two)) (lasting_names one)

-- a name of both families
pub record SharesName (one two : Name) : Type 0 where
  pub name : Name
  pub first : is_of_family one name ≡ true
  pub second : is_of_family two name ≡ true

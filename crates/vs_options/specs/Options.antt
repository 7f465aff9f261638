-- The options of a session, and what `:set` does to them.
use Rattle.std.specs.Prelude.{ℕ, true, false, List, [], ◌++◌, codes, decimal, Option, Some, None}
use Rattle.vs_backup.specs.declared.options.CopyMode.TheVariants.{Yes, No, Auto}
use Rattle.vs_backup.specs.declared.options.WriteOptions.{WriteOptions}
use Rattle.vs_exparse.specs.declared.command.Setting.{Setting}
use Rattle.vs_exparse.specs.declared.command.Setting.TheVariants as set
use Rattle.vs_text.specs.declared.format.Format.{Format}
use Rattle.vs_text.specs.declared.format.Format.TheVariants.{Unix, Dos}
use Rattle.vs_options.specs.declared.setting.Options.{Options}

-- the options with which a file of this format is opened
abbrev pub first_options : Format → Options
first_options format = record { write = record { backup = false; writebackup = true; copy = Auto; format = format }; undofile = false; undo_levels = 1000 }

-- the options after a setting
abbrev pub options_with : Options → Setting → Options
options_with options (set.Backup on) = record options { write = record (options.write) { backup = on } }
options_with options (set.WriteBackup on) = record options { write = record (options.write) { writebackup = on } }
options_with options set.CopyYes = record options { write = record (options.write) { copy = Yes } }
options_with options set.CopyNo = record options { write = record (options.write) { copy = No } }
options_with options set.CopyAuto = record options { write = record (options.write) { copy = Auto } }
options_with options (set.UndoFile on) = record options { undofile = on }
options_with options (set.UndoLevels levels) = record options { undo_levels = levels }
options_with options set.Unix = record options { write = record (options.write) { format = Unix } }
options_with options set.Dos = record options { write = record (options.write) { format = Dos } }

-- a setting without its number
abbrev pub words : Setting → List ℕ
words (set.Backup true) = codes "backup"
words (set.Backup false) = codes "nobackup"
words (set.WriteBackup true) = codes "writebackup"
words (set.WriteBackup false) = codes "nowritebackup"
words set.CopyYes = codes "backupcopy=yes"
words set.CopyNo = codes "backupcopy=no"
words set.CopyAuto = codes "backupcopy=auto"
words (set.UndoFile true) = codes "undofile"
words (set.UndoFile false) = codes "noundofile"
words (set.UndoLevels levels) = codes "undolevels="
words set.Unix = codes "fileformat=unix"
words set.Dos = codes "fileformat=dos"

-- the number of a setting that has one
abbrev pub number : Setting → Option ℕ
number (set.Backup on) = None
number (set.WriteBackup on) = None
number set.CopyYes = None
number set.CopyNo = None
number set.CopyAuto = None
number (set.UndoFile on) = None
number (set.UndoLevels levels) = Some levels
number set.Unix = None
number set.Dos = None

abbrev pub number_text : Option ℕ → List ℕ
number_text None = []
number_text (Some number) = decimal number

-- a setting as it is written in full
abbrev pub full_text : Setting → List ℕ
full_text setting = words setting ++ number_text (number setting)

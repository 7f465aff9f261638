-- Replies in bytes, as docs/COMMANDS.md lists them.
use Rattle.std.specs.Prelude.{ℕ, Bool, true, false, List, [], ◌∷◌, ◌++◌, codes, decimal}
use Rattle.std.specs.declared.option.Option.{Option}
use Rattle.std.specs.Prelude.{Some, None}
use Rattle.vs_exparse.specs.declared.command.ExErr.{ExErr}
use Rattle.vs_exparse.specs.declared.command.ExErr.TheVariants as ex
use Rattle.vs_machine.specs.declared.info.FileInfo.{FileInfo}
use Rattle.vs_text.specs.declared.format.Format.{Format}
use Rattle.vs_text.specs.declared.format.Format.TheVariants.{Unix, Dos}
use Rattle.vs_undo.specs.declared.error.UndoErr.{UndoErr}
use Rattle.vs_undo.specs.declared.error.UndoErr.TheVariants as undo

-- a reply in bytes, and whether it is an error
pub record Answer : Type 0 where
  pub bytes : List ℕ
  pub is_error : Bool

-- a reply of one line
abbrev pub says : List ℕ → Answer
says text = record { bytes = text ++ 10 ∷ []; is_error = false }

-- an error reply, of one line
abbrev pub refuses : List ℕ → Answer
refuses text = record { bytes = text ++ 10 ∷ []; is_error = true }

-- printed lines, as they are
abbrev pub prints : List ℕ → Answer
prints bytes = record { bytes = bytes; is_error = false }

-- the text of each error of a command line, or of a command of the text
abbrev pub error_text : ExErr → List ℕ
error_text ex.LineTooLong = codes "line too long"
error_text ex.E492 = codes "E492: Not an editor command"
error_text ex.E481 = codes "E481: No range allowed"
error_text ex.E477 = codes "E477: No ! allowed"
error_text ex.E488 = codes "E488: Trailing characters"
error_text ex.E939 = codes "E939: Positive count required"
error_text ex.E14 = codes "E14: Invalid address"
error_text ex.E471 = codes "E471: Argument required"
error_text ex.E474 = codes "E474: Invalid argument"
error_text ex.E518 = codes "E518: Unknown option"
error_text ex.PatternForm = codes "pattern form not supported"
error_text ex.E147 = codes "E147: Cannot do :global recursive"
error_text ex.NotNested = codes "command not allowed in :global"
error_text ex.E493 = codes "E493: Backwards range given"
error_text ex.E16 = codes "E16: Invalid range"
error_text ex.E134 = codes "E134: Cannot move a range of lines into itself"
error_text ex.E486 = codes "E486: Pattern not found"
error_text ex.TextFull = codes "text too large"

-- some words before a number, and a number of lines
abbrev pub with_lines : List ℕ → ℕ → ℕ → List ℕ
with_lines words number lines = words ++ decimal number ++ codes ", " ++ decimal lines ++ codes " lines"

-- the reply to a change: its number, and the number of lines after it
abbrev pub change_line : ℕ → ℕ → List ℕ
change_line number lines = with_lines (codes "change ") number lines

-- the reply to a move over the history: the number of the state, and of the lines of its text
abbrev pub move_line : ℕ → ℕ → List ℕ
move_line number lines = with_lines (codes "at ") number lines

-- the reply to a command of the text that changes nothing
abbrev pub no_change : List ℕ
no_change = codes "no change"

-- the reply where there was no memory
abbrev pub out_of_memory : List ℕ
out_of_memory = codes "out of memory"

-- the reply where a call on the folder failed
abbrev pub device_fault : List ℕ
device_fault = codes "device fault"

-- the reply to `preserve`, and the last line of a script that was read to its end
abbrev pub file_preserved : List ℕ
file_preserved = codes "File preserved"

-- the last line of a script that quits
abbrev pub quit : List ℕ
quit = codes "quit"

-- the reply to a `q` that would lose changes
abbrev pub no_write : List ℕ
no_write = codes "E37: No write since last change (add ! to override)"

-- what stands before the size of a file of this format
abbrev pub format_note : Format → List ℕ
format_note Unix = []
format_note Dos = codes "[dos] "

-- the file of this name, with its format and size
abbrev pub file_line : List ℕ → FileInfo → List ℕ
file_line name info =
    codes "\"" ++ name ++ codes "\" " ++ format_note info.format ++ decimal info.lines ++ codes "L, " ++ decimal info.bytes ++ codes "B"

-- what a write of the file of this name wrote
abbrev pub written_line : List ℕ → FileInfo → List ℕ
written_line name info = file_line name info ++ codes " written"

-- what a write wrote of which the undo file was not stored
abbrev pub unstored_line : List ℕ → FileInfo → List ℕ
unstored_line name info = written_line name info ++ codes ", no undo file"

-- the undo file was stored
abbrev pub undo_file_written : List ℕ
undo_file_written = codes "undo file written"

-- the undo file was read: the number of the current state, and how many changes are kept
abbrev pub undo_file_read : ℕ → ℕ → List ℕ
undo_file_read number changes = codes "undo file read, at " ++ decimal number ++ codes ", " ++ decimal changes ++ codes " changes"

-- why no undo file was read, or why it was not taken
abbrev pub no_undo_file : List ℕ
no_undo_file = codes "no undo file"

-- the reply to `rundo` of a file that is no undo file
abbrev pub not_undo_file : List ℕ
not_undo_file = codes "not an undo file"

-- the reply to `rundo` of another version
abbrev pub undo_file_version : List ℕ
undo_file_version = codes "undo file of another version"

-- the reply to `rundo` of an encrypted file
abbrev pub undo_file_encrypted : List ℕ
undo_file_encrypted = codes "encrypted undo file"

-- the reply to `rundo` where the byte at this place is wrong
abbrev pub undo_file_corrupted : ℕ → List ℕ
undo_file_corrupted place = codes "corrupted undo file at " ++ decimal place

-- the reply to `rundo` where the digest or the number of lines is another one
abbrev pub undo_file_of_other : List ℕ
undo_file_of_other = codes "undo file of another text"

-- the reply to `rundo` where this change does not fit the text
abbrev pub undo_file_misfit : ℕ → List ℕ
undo_file_misfit number = codes "undo file does not fit at change " ++ decimal number

-- every name that the backup of a write may get is taken
abbrev pub no_backup_name : List ℕ
no_backup_name = codes "no free backup name"

-- why a change or a move was not made
abbrev pub undo_error_text : UndoErr → List ℕ
undo_error_text (undo.NotKept number) = codes "E830: Undo number " ++ decimal number ++ codes " not found"
undo_error_text undo.AtOldest = codes "Already at oldest change"
undo_error_text undo.AtNewest = codes "Already at newest change"
undo_error_text undo.NumbersFull = codes "change numbers used up"
undo_error_text undo.NoMemory = out_of_memory
undo_error_text undo.Failed = device_fault

-- the first reply, of a name and of the file where it was there
abbrev pub opening_of : List ℕ → Option FileInfo → Answer
opening_of name None = says (codes "\"" ++ name ++ codes "\" [New]")
opening_of name (Some info) = says (file_line name info)

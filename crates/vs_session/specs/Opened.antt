-- The file that a session opens.
use Rattle.std.specs.Prelude.{ℕ, List, [], Option, Some, None, length}
use Rattle.vs_text.specs.Documents.{Document, document_of}
use Rattle.vs_text.specs.declared.format.Format.{Format}
use Rattle.vs_text.specs.declared.format.Format.TheVariants.{Unix}
use Rattle.vs_machine.specs.declared.info.FileInfo.{FileInfo}
use Rattle.vs_session.specs.Session.{SessionState, opened_state}

-- A file that was opened: its name, what is said of it where it was there, and the state in which the session begins.
pub record Opened : Type 0 where
  pub name : List ℕ
  pub found : Option FileInfo
  pub state : SessionState

-- what is said of a file, where it is there
abbrev pub sizes_of : Option (List ℕ) → Option FileInfo
sizes_of None = None
sizes_of (Some bytes) = Some (record { format = (document_of bytes).format; lines = length ((document_of bytes).text); bytes = length bytes })

-- the text of a file; where there is none, the text without lines
abbrev pub text_in : Option (List ℕ) → List (List ℕ)
text_in None = []
text_in (Some bytes) = (document_of bytes).text

-- the format of a file; where there is none, unix
abbrev pub format_in : Option (List ℕ) → Format
format_in None = Unix
format_in (Some bytes) = (document_of bytes).format

-- the document of a file; where there is none, the text without lines in unix
abbrev pub document_of_file : Option (List ℕ) → Document
document_of_file file = record { text = text_in file; format = format_in file }

-- what comes of opening the bytes under a name
abbrev pub opened : List ℕ → Option (List ℕ) → Opened
opened name file = record { name = name; found = sizes_of file; state = opened_state name (document_of_file file) }

-- How stored lines become lines of a file.
use Rattle.std.specs.Prelude.{ℕ, ◌==◌, if◌then◌else◌, List}
use Rattle.vs_text.specs.declared.format.Format.{Format}
use Rattle.vs_text.specs.Documents.{Document, lines_in}

-- byte 10 for byte 0, byte 0 for byte 10, and each other byte as it is
abbrev pub exchanged : ℕ → ℕ
exchanged byte = if byte == 0 then 10 else (if byte == 10 then 0 else byte)

-- the document of a file of this format
abbrev pub document_by : Format → List ℕ → Document
document_by format bytes = record { text = lines_in format bytes; format = format }

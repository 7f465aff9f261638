-- The history of a run: the commands that it answered, the newest first, and what comes of them.
use Rattle.std.specs.Prelude.{Bool, false, not, ◌||◌, List, ◌∷◌, [], ◌≡◌, ◌++◌, ⊤, ℕ}
use Rattle.vs_excmd.specs.Request.{Instruction}
use Rattle.vs_machine.specs.Machine.{is_done}
use Rattle.vs_machine.specs.Replies.{opening_of}
use Rattle.vs_machine.specs.declared.command.Mark.{Mark}
use Rattle.vs_safety.specs.History as safety
use Rattle.vs_session.specs.Session.{SessionState, Ended, HasFound, accepts_quit, document_in, reply_of, state_after, turn_of}
use Rattle.vs_session.specs.Opened.{Opened}

-- One command that a run answered, and how it ended.
pub record CommandRun : Type 0 where
  pub instruction : Instruction
  pub ended : Ended

-- the commands that a run answered, the newest first
abbrev pub Past : Type 0
Past = List CommandRun

-- the commands in the order in which they were answered, and then these
abbrev pub commands_then : Past → List Instruction → List Instruction
commands_then [] rest = rest
commands_then (last ∷ past) rest = commands_then past (last.instruction ∷ rest)

-- the state that they lead to from a first one
abbrev pub state_of : SessionState → Past → SessionState
state_of first [] = first
state_of first (last ∷ past) = state_after (state_of first past) last.instruction last.ended

-- their marks, in order
abbrev pub marks_of : Past → List Mark
marks_of [] = []
marks_of (last ∷ past) = marks_of past ++ last.ended.mark ∷ []

-- whether some reply is an error, or some command did not end as Done
abbrev pub any_error : SessionState → Past → Bool
any_error first [] = false
any_error first (last ∷ past) =
    any_error first past || (not (is_done last.ended.mark.outcome) || (reply_of (state_of first past) last.instruction last.ended).is_error)

-- These commands may have been answered so: none was an accepted `q` or `q!`, each `rundo` found what stood under the name of the undo
-- file, and only a `w` that was to store the undo file says that it was not stored.
abbrev pub AreAnswered : SessionState → Past → Type 0
AreAnswered first [] = ⊤
AreAnswered first (last ∷ past) =
    (accepts_quit (state_of first past) last.instruction ≡ false) × HasFound (state_of first past) last.instruction last.ended × AreAnswered first past

-- the history of a run over a file, as far as safety goes
abbrev pub history_of : Opened → Past → safety.History
history_of file [] = safety.Open (document_in file.state) (opening_of file.name file.found).bytes
history_of file (last ∷ past) = safety.After (history_of file past) (turn_of (state_of file.state past) last.instruction last.ended)

-- what is written over a file: the opening reply, and the replies to these commands
abbrev pub written : Opened → Past → List ℕ
written file past = safety.written_by (history_of file past)

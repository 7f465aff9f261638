-- What a run does, as far as safety goes: the commands that it answers, one turn each, and how it closes.
use Rattle.std.specs.Prelude.{◌≡◌, ◌⊎◌, ℕ, ◌+◌, ◌<◌, ◌≤◌, Bool, true, false, not, ◌&&◌, is_some, IsSomeAnd, List, [], ◌∷◌, ◌++◌, length, codes, Option}
use Rattle.std.specs.Prelude.{Some, None, IfSome}
use Rattle.vs_host.specs.Disk.{Disk, Name}
use Rattle.vs_host.specs.declared.names.Names.{Names}
use Rattle.vs_disk.specs.Images.{MayLeave}
use Rattle.vs_disk.specs.Names.{SameAt}
use Rattle.vs_text.specs.Documents.{Document}
use Rattle.vs_safety.specs.Texts.{Sync, begun}
use Rattle.vs_safety.specs.Writes.{AreIn}
use Rattle.vs_safety.specs.Undo.{IsUndoOf}
use Rattle.vs_safety.specs.FileWork.{FileWork, AvoidsFiles, IsWholeAt, undo_stored}

-- One command: the folder that it found as it began, where it asks for it; the sync that it begins before all else, if it does; the
-- files that it then writes, if it does; whether it had its effect, and whether it was answered that a call on the
-- folder failed, which may both be so where it stores an undo file; and the bytes of its reply.
pub record Turn : Type 0 where
  pub found : Option Disk
  pub sync : Option Sync
  pub write : Option FileWork
  pub done : Bool
  pub failed : Bool
  pub reply : List ℕ

-- ---- syncs

-- the syncs with this one, if there is one
abbrev pub with_sync : Option Sync → List Sync → List Sync
with_sync None syncs = syncs
with_sync (Some sync) syncs = sync ∷ syncs

-- the syncs while this one is under way
abbrev pub with_begun : Option Sync → List Sync → List Sync
with_begun None syncs = syncs
with_begun (Some sync) syncs = begun sync.document sync.dirty ∷ syncs

-- the syncs after these commands
abbrev pub after_turns : List Sync → List Turn → List Sync
after_turns syncs [] = syncs
after_turns syncs (turn ∷ turns) = after_turns (with_sync turn.sync syncs) turns

-- the syncs while the first of these commands is under way
abbrev pub with_next : List Sync → List Turn → List Sync
with_next syncs [] = syncs
with_next syncs (turn ∷ turns) = with_begun turn.sync syncs

-- the document that was opened counts as the first sync, and is acknowledged
abbrev pub opened : Document → List Sync
opened document = record { document = document; dirty = false; acknowledged = true } ∷ []

-- ---- writes

-- none of these commands writes on a name of the set
abbrev pub AllAvoid : Names → List Turn → (Name → Bool) → Type 0
AllAvoid names [] inside = Unit {0}
AllAvoid names (turn ∷ turns) inside = IfSome turn.write (λ work. AvoidsFiles names work inside) × AllAvoid names turns inside

-- of these other names all are spared but those on which these commands write
abbrev pub SparesOthers : (Name → Bool) → Names → List Turn → Disk → Disk → Type 0
SparesOthers others names turns old new = (inside : Name → Bool) → AreIn others inside → AllAvoid names turns inside → SameAt inside old new

-- the first of these commands
abbrev pub next_of : List Turn → List Turn
next_of [] = []
next_of (turn ∷ turns) = turn ∷ []

-- what it writes
abbrev pub next_write : List Turn → Option FileWork
next_write [] = None
next_write (turn ∷ turns) = turn.write

-- a moment of the write of the first of these commands
abbrev pub IsWholeNext : Names → List Turn → Disk → Type 0
IsWholeNext names [] folder = Unit {0}
IsWholeNext names (turn ∷ turns) folder = IfSome turn.write (λ work. IsWholeAt names work folder)

-- ---- the undo file

-- these bytes are the whole undo file that a command stores
abbrev pub IsUndoBy : Option FileWork → Option (List ℕ) → Type 0
IsUndoBy write left = IsSomeAnd (undo_stored write) (λ undo. IsSomeAnd left (IsUndoOf undo.text undo.history))

-- whether a command stored an undo file: it had its effect, and no call failed
abbrev pub has_stored : Turn → Bool
has_stored turn = is_some (undo_stored turn.write) && (turn.done && not turn.failed)

-- None of these commands stored an undo file.
abbrev pub NoneStored : List Turn → Type 0
NoneStored [] = Unit {0}
NoneStored (turn ∷ turns) = (has_stored turn ≡ false) × NoneStored turns

-- these bytes are the undo file of the last of these commands that stored one, or of one that began to store its own after that
abbrev pub IsLastUndo : List Turn → Option (List ℕ) → Type 0
IsLastUndo [] left = ⊥
IsLastUndo (turn ∷ turns) left = (NoneStored turns × IsUndoBy turn.write left) ⊎ IsLastUndo turns left

-- these bytes are the undo file that the first of these commands stores
abbrev pub IsNextUndo : List Turn → Option (List ℕ) → Type 0
IsNextUndo [] left = ⊥
IsNextUndo (turn ∷ turns) left = IsUndoBy turn.write left

-- Where these commands have ended and the first of the rest is under way, a stop leaves under the name of the undo file what it might
-- leave at the start, if none of them stored one; or the undo file of the last one that did, or of one that began to store its own
-- after that.
abbrev pub KeepsUndo : Names → Disk → List Turn → List Turn → Disk → Type 0
KeepsUndo names start ended rest folder =
    (left : Option (List ℕ)) → MayLeave folder names.undo left → ((NoneStored ended × MayLeave start names.undo left) ⊎ IsLastUndo ended left) ⊎
    IsNextUndo rest left

-- ---- replies

-- the replies, one after another
abbrev pub replies : List Turn → List ℕ
replies [] = []
replies (turn ∷ turns) = turn.reply ++ replies turns

-- the reply to the first of these commands would not be whole at n
abbrev pub EndsAfter : ℕ → ℕ → List Turn → Type 0
EndsAfter n from [] = Unit {0}
EndsAfter n from (turn ∷ turns) = n < from + length turn.reply

-- Where an output in which the replies begin at a place has n bytes, those to the first commands are whole, and no more.
pub record IsSplit (from n : ℕ) (turns first rest : List Turn) : Type 0 where
  pub turns_are : turns ≡ first ++ rest
  pub whole : from + length (replies first) ≤ n
  pub next : EndsAfter n (from + length (replies first)) rest

-- ---- the end of a run

-- How a run closed: not at all; with a sync at the script's end; or by an accepted `q` or `q!`.
pub data Closing : Type 0 where
  NotBegun : Closing
  LastSync : Sync → Closing
  Quits : Closing

-- what a run writes where its last sync is acknowledged
abbrev pub preserved_line : List ℕ
preserved_line = codes "File preserved" ++ 10 ∷ []

-- what a run that is alone in its folder writes for an accepted `q` or `q!`
abbrev pub quit_line : List ℕ
quit_line = codes "quit" ++ 10 ∷ []

-- the sync at the script's end, which is answered only where it is acknowledged
abbrev pub last_turn : Sync → Turn
last_turn sync = record { found = None; sync = Some sync; write = None; done = sync.acknowledged; failed = not sync.acknowledged; reply = preserved_line }

-- The document and the reply with which a run opened, the commands that it began, and how it closed.
pub record Ran : Type 0 where
  pub document : Document
  pub opening : List ℕ
  pub turns : List Turn
  pub closing : Closing

-- the commands, and the sync at the script's end as one more
abbrev pub with_closing : List Turn → Closing → List Turn
with_closing turns NotBegun = turns
with_closing turns (LastSync sync) = turns ++ last_turn sync ∷ []
with_closing turns Quits = turns

-- the commands of a run, and its closing where that is a sync
abbrev pub all_turns : Ran → List Turn
all_turns ran = with_closing ran.turns ran.closing

-- what a run writes after the replies, where it writes this line for an accepted quit
abbrev pub behind : List ℕ → Closing → List ℕ
behind line NotBegun = []
behind line (LastSync sync) = []
behind line Quits = line

-- all that a run writes which no failing call cuts short
abbrev pub all_written : List ℕ → Ran → List ℕ
all_written line ran = (ran.opening ++ replies (all_turns ran)) ++ behind line ran.closing

-- The history of a run, as far as safety goes, and how its calls led from the scene at its start to the one at which it stands.
use Rattle.std.specs.Prelude.{◌≡◌, Bool, true, ℕ, ◌+◌, ◌<◌, List, [], ◌∷◌, ◌++◌, length, None}
use Rattle.vs_host.specs.Disk.{Name}
use Rattle.vs_host.specs.World.{Scene}
use Rattle.vs_host.specs.declared.names.Names.{Names}
use Rattle.vs_text.specs.Documents.{Document}
use Rattle.vs_pair.specs.Pair.{is_foreign}
use Rattle.vs_safety.specs.Texts.{Sync, RecoversOrNone, IsBetween}
use Rattle.vs_safety.specs.Turns.{Turn, Closing, Ran, with_sync, opened}
use Rattle.vs_safety.specs.Safety.{Looks, SteppedAmong, WorksAmong, Wrote, opened_at}

-- What a run has done: it opened a file with this document and wrote this reply, and after that it answered commands, one turn each.
pub data History : Type 0 where
  Open : Document → List ℕ → History
  After : History → Turn → History

-- the document that it opened
abbrev pub opened_document : History → Document
opened_document (Open document opening) = document
opened_document (After past turn) = opened_document past

-- the reply to the opening
abbrev pub opening_reply : History → List ℕ
opening_reply (Open document opening) = opening
opening_reply (After past turn) = opening_reply past

-- its syncs, the newest first
abbrev pub syncs_of : History → List Sync
syncs_of (Open document opening) = opened document
syncs_of (After past turn) = with_sync turn.sync (syncs_of past)

-- all replies, one after another
abbrev pub written_by : History → List ℕ
written_by (Open document opening) = opening
written_by (After past turn) = written_by past ++ turn.reply

-- its turns in the order in which they were answered, and then these
abbrev pub turns_then : History → List Turn → List Turn
turns_then (Open document opening) rest = rest
turns_then (After past turn) rest = turns_then past (turn ∷ rest)

-- how long the output is where all replies are whole in it
abbrev pub replied_at : Scene → History → ℕ
replied_at start (Open document opening) = opened_at start opening
replied_at start (After past turn) = replied_at start past + length turn.reply

-- the run as the promise sees it, where it closed so
abbrev pub ran_of : History → Closing → Ran
ran_of history closing = record { document = opened_document history; opening = opening_reply history; turns = turns_then history []; closing = closing }

-- ---- what led from one turn to the next

-- Work that is to open the file, from a folder in which no change of a name was pending.
pub record BeginsAmong (others : Name → Bool) (names : Names) (document : Document) (start now : Scene) : Type 0 where
  pub settled : start.folder.pending ≡ []
  pub at_start : RecoversOrNone names (document ∷ []) start.folder
  pub works : WorksAmong others names None (RecoversOrNone names (document ∷ [])) start now

-- The file was opened, and nothing was written. The undo file's name is one of the others.
pub record HasBegunAmong (others : Name → Bool) (names : Names) (document : Document) (start now : Scene) : Type 0 where
  pub begins : BeginsAmong others names document start now
  pub foreign : others names.undo ≡ true
  pub between : IsBetween names (opened document) now.folder

-- A reply was written whole, by any number of writes. It is not empty.
pub record Replied (reply : List ℕ) (old new : Scene) : Type 0 where
  pub some : 0 < length reply
  pub wrote : Wrote reply old new

-- After these syncs, from where the reply before was whole: the run looked, carried out a command, and wrote its reply.
pub record Answered (others : Name → Bool) (names : Names) (syncs : List Sync) (turn : Turn) (found now : Scene) : Type 0 where
  pub asked : Scene
  pub ended : Scene
  pub looks : Looks found asked
  pub stepped : SteppedAmong others names syncs turn asked ended
  pub replied : Replied turn.reply ended now

-- The calls of a run with this history led from one scene to another, where its last reply was whole: one turn after the other, each from
-- where the one before it ended.
abbrev pub CameTo : (Name → Bool) → Names → Scene → History → Scene → Type 0
CameTo others names start (Open document opening) now = (mid : Scene) × HasBegunAmong others names document start mid × Replied opening mid now
CameTo others names start (After past turn) now =
    (found : Scene) × CameTo others names start past found × Answered others names (syncs_of past) turn found now

-- The run waits for its next command: its last reply is whole, and since then it only looked.
pub record WaitsAmong (others : Name → Bool) (names : Names) (start : Scene) (history : History) (now : Scene) : Type 0 where
  pub found : Scene
  pub came : CameTo others names start history found
  pub looks : Looks found now

-- ---- a run that is alone in its folder: the other names are all that are not of its pair

-- work that is to open its file
abbrev pub Begins : Names → Document → Scene → Scene → Type 0
Begins names = BeginsAmong (is_foreign names) names

-- its file was opened, and nothing was written
abbrev pub HasBegun : Names → Document → Scene → Scene → Type 0
HasBegun names = HasBegunAmong (is_foreign names) names

-- it waits for its next command
abbrev pub Waits : Names → Scene → History → Scene → Type 0
Waits names = WaitsAmong (is_foreign names) names

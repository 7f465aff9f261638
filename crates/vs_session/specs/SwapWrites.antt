-- How far the swap files of a session are behind its pages, and how many calls a sync of them makes.
use Rattle.std.specs.Prelude.{◌≡◌, ◌+◌, ℕ, Bool, true, false, List, IsTrue}
use Rattle.vs_host.specs.Disk.{Disk}
use Rattle.vs_host.specs.World.{Tells, Scene}
use Rattle.vs_disk.specs.Runs.{Looks}
use Rattle.vs_pages.specs.Memory.{commits_of}
use Rattle.vs_pair.specs.Acts.{JustReads, WorksAtMost}
use Rattle.vs_pair.specs.Pair.{shown_in}
use Rattle.vs_pair.specs.Stale.{IsBehind}
use Rattle.vs_pair.specs.declared.pair.SwapPair.{SwapPair}
use Rattle.vs_edit.specs.Splices.{IsSmallSplice}
use Rattle.vs_exparse.specs.Command.{result_of}
use Rattle.vs_excmd.specs.Change.{Change}
use Rattle.vs_excmd.specs.Request.{Instruction, IsRequest}
use Rattle.vs_excmd.specs.declared.request.Request.{Request}
use Rattle.vs_machine.specs.Answers.{meaning_at}
use Rattle.vs_machine.specs.Machine.Meaning.{Changed}
use Rattle.vs_machine.specs.declared.command.Outcome.{Outcome}
use Rattle.vs_safety.specs.Texts.{Sync}
use Rattle.vs_paged.specs.Turns.{KeepsKnown, TurnsFiles}
use Rattle.vs_session.specs.declared.session.Session.{Session}
use Rattle.vs_session.specs.declared.session.Step.{Step}
use Rattle.vs_session.specs.declared.session.Step.TheVariants as step
use Rattle.vs_session.specs.Session.{SessionState, begins_after, is_write}
use Rattle.vs_session.specs.Fits.{Fits, IsFault}
use Rattle.vs_session.specs.Work.{WorksRequest}

-- A command began with a sync, which made at most six calls and one for each page that its file was behind, beside at most one for each such
-- page that reads bytes of a file. It was acknowledged, or the answer tells of a fault, and it left what the pages show. After it, where the
-- command does not write the edited file, only bytes of files were read.
pub record SyncsFirst (tells : Tells) (writes : Bool) (reply : Step) (before after : Session) (old new : Scene) : Type 0 where
  pub synced : Scene
  pub acknowledged : Bool
  pub works : (most : ℕ) → IsBehind before.text.pair.pages before.text.pair.files.older_has most → WorksAtMost tells old synced (6 + most) most
  pub between : SwapPair
  pub shown : IsTrue tells.folder → shown_in between synced.folder ≡ shown_in before.text.pair old.folder
  pub commits : commits_of between.pages ≡ commits_of before.text.pair.pages
  pub turns : TurnsFiles acknowledged before.text.pair between
  pub known : KeepsKnown between after.text.pair
  pub failed : acknowledged ≡ false → IsFault reply
  pub rest : writes ≡ false → IsTrue tells.folder → Looks synced new × JustReads synced new

-- Where a command does not begin with a sync, what is known of the swap files stays.
abbrev pub SyncsWhere : Bool → Tells → Bool → Step → Session → Session → Scene → Scene → Type 0
SyncsWhere true tells writes reply before after old new = SyncsFirst tells writes reply before after old new
SyncsWhere false tells writes reply before after old new = KeepsKnown before.text.pair after.text.pair

-- The same of a step that answers this request.
abbrev pub SyncsIn : Tells → Request → Step → Session → Session → Scene → Scene → Type 0
SyncsIn tells request (step.Answer mark reply) before after old new =
    SyncsWhere (begins_after before.steps (result_of request.parsed)) tells (is_write (result_of request.parsed)) (step.Answer mark reply) before after old new
SyncsIn tells request step.Quit before after old new = KeepsKnown before.text.pair after.text.pair

-- A request was answered, with this outcome, that is a change of one line by one line or none, or puts in one line: what a step says of it.
pub record ChangesLine (tells : Tells) (request : Request) (outcome : Outcome) (before after : Session) (was now : Disk) : Type 0 where
  pub told : IsTrue tells.folder
  pub state : SessionState
  pub syncs : List Sync
  pub fits : Fits before was state syncs
  pub state_after : SessionState
  pub syncs_after : List Sync
  pub fits_after : Fits after now state_after syncs_after
  pub instruction : Instruction
  pub is : IsRequest request instruction
  pub change : Change
  pub changes : meaning_at state.machine instruction ≡ Changed change
  pub small : IsSmallSplice state.machine.text change.top change.old change.new
  pub works : WorksRequest tells request outcome before after was

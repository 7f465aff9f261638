-- The pages that a command works.
use Rattle.std.specs.Prelude.{◌≡◌, ◌+◌, ◌*◌, ℕ, List, IsTrue}
use Rattle.vs_host.specs.Disk.{Disk}
use Rattle.vs_host.specs.World.{Tells}
use Rattle.vs_pages.specs.Memory.{state_of}
use Rattle.vs_pages.specs.declared.memory.MemPages.{MemPages}
use Rattle.vs_tree.specs.Texts.{worked_by}
use Rattle.vs_tree.specs.declared.tree.LineTree.{LineTree}
use Rattle.vs_excmd.specs.Request.{Instruction, IsRequest}
use Rattle.vs_excmd.specs.declared.request.Request.{Request}
use Rattle.vs_machine.specs.Answers.{WorksAs, meaning_at}
use Rattle.vs_machine.specs.Machine.{State, Meaning}
use Rattle.vs_machine.specs.declared.command.Outcome.{Outcome}
use Rattle.vs_machine.specs.declared.command.Outcome.TheVariants.{NoMemory, Fault}
use Rattle.vs_safety.specs.Texts.{Sync}
use Rattle.vs_session.specs.declared.session.Session.{Session}
use Rattle.vs_session.specs.declared.session.Step.{Step}
use Rattle.vs_session.specs.declared.session.Step.TheVariants as step
use Rattle.vs_session.specs.Session.{SessionState}
use Rattle.vs_session.specs.Fits.{Fits}

-- for each page the commit that worked it last
abbrev pub work_in : MemPages → ℕ → ℕ
work_in pages = worked_by (state_of pages)

-- how many pages a change of one line works at most, by how many pointer blocks are above a line
abbrev pub most_in : LineTree → ℕ
most_in tree = 5 * tree.present.height + 12

-- Where the folder is told, no page was worked.
abbrev pub SameWork : Tells → MemPages → MemPages → Type 0
SameWork tells old new = IsTrue tells.folder → work_in new ≡ work_in old

-- The pages that a command works which ended so: those of what it comes to where it was carried out, and none where it was not.
abbrev pub WorksBy : Outcome → State → Meaning → ℕ → (ℕ → ℕ) → (ℕ → ℕ) → Type 0
WorksBy NoMemory state meaning most old new = new ≡ old
WorksBy Fault state meaning most old new = new ≡ old
WorksBy outcome state meaning most old new = WorksAs state meaning most old new

-- Where the folder is told, the command that a request stands for worked no other pages than it may, in each state that the session was
-- in. What the session answers itself is refused by the machine, and so it works none.
abbrev pub WorksRequest : Tells → Request → Outcome → Session → Session → Disk → Type 0
WorksRequest tells request outcome before after was =
    IsTrue tells.folder → (state : SessionState) (syncs : List Sync) (instruction : Instruction) → Fits before was state syncs → IsRequest request instruction
    → WorksBy outcome state.machine (meaning_at state.machine instruction) (most_in before.text.tree)
    (work_in before.text.pair.pages) (work_in after.text.pair.pages)

-- The same of a step: a change of one line works at most so many pages, and a step that neither makes a change nor moves to another state
-- works none.
abbrev pub WorksIn : Tells → Request → Step → Session → Session → Disk → Type 0
WorksIn tells request (step.Answer mark reply) before after was = WorksRequest tells request mark.outcome before after was
WorksIn tells request step.Quit before after was = SameWork tells before.text.pair.pages after.text.pair.pages

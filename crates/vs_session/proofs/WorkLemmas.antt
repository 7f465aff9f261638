-- What a store shows of the work of its pages is their work, where they are told.
use Rattle.std.proofs.Common.{◌≡◌, ℕ, Bool, true, false, IsTrue, sym, ap, subst, ◌∙◌}
use Rattle.std.proofs.lemmas.Bool.{false≢true}
use Rattle.vs_host.specs.Disk.{Disk}
use Rattle.vs_host.specs.World.{Tells}
use Rattle.vs_pages.specs.declared.memory.MemPages.{MemPages}
use Rattle.vs_tree.specs.Texts.{shown_work, worked_by}
use Rattle.vs_tree.specs.declared.tree.LineTree.{LineTree}
use Rattle.vs_pair.specs.Pair.{shown_in}
use Rattle.vs_pair.specs.declared.pair.SwapPair.{SwapPair}
use Rattle.vs_excmd.specs.declared.request.Request.{Request}
use Rattle.vs_machine.specs.Answers.{WorksAs, meaning_at}
use Rattle.vs_machine.specs.Machine.{State, Meaning}
use Rattle.vs_machine.specs.declared.command.Outcome.{Outcome}
use Rattle.vs_machine.specs.declared.command.Outcome.TheVariants.{Done, NoMemory, Fault, NoUndo}
use Rattle.vs_machine.proofs.AnswerLemmas.{unworked}
use Rattle.vs_session.specs.declared.session.Session.{Session}
use Rattle.vs_session.specs.declared.session.Step.{Step}
use Rattle.vs_session.specs.declared.session.Step.TheVariants as step
use Rattle.vs_session.specs.Work.{SameWork, WorksBy, WorksIn, most_in, work_in}
use Rattle.vs_session.proofs.StoreLemmas.{shown_told}

-- ---- what was lent is as the store left it

pub unworked_back : (tells : Bool) (was : MemPages) (now held : SwapPair) → now ≡ held → shown_work tells (work_in held.pages) ≡ shown_work tells (work_in was) → IsTrue tells
    → work_in now.pages ≡ work_in was
unworked_back tells was now held is same told = ap (λ (p : SwapPair). work_in p.pages) is ∙ shown_told tells (work_in was) (work_in held.pages) told same

works_told : (tells : Bool) (state : State) (meaning : Meaning) (most : ℕ) (old new : ℕ → ℕ) → IsTrue tells → WorksAs state meaning most (shown_work tells old) (shown_work tells new)
    → WorksAs state meaning most old new
works_told true state meaning most old new told works = works
works_told false state meaning most old new told works = absurd (false≢true told)

pub works_back : (tells : Bool) (state : State) (meaning : Meaning) (most : ℕ) (was : MemPages) (now held : SwapPair) → now ≡ held → IsTrue tells
    → WorksAs state meaning most (shown_work tells (work_in was)) (shown_work tells (work_in held.pages)) → WorksAs state meaning most (work_in was) (work_in now.pages)
works_back tells state meaning most was now held is told works =
    subst (λ (p : SwapPair). WorksAs state meaning most (work_in was) (work_in p.pages)) (sym is) (works_told tells state meaning most (work_in was) (work_in held.pages) told works)

-- ---- commands

-- no page was worked, however a command ended
pub works_nothing : (outcome : Outcome) (state : State) (meaning : Meaning) (most : ℕ) (old new : ℕ → ℕ) → new ≡ old → WorksBy outcome state meaning most old new
works_nothing Done state meaning most old new same = unworked state meaning most old new same
works_nothing NoMemory state meaning most old new same = same
works_nothing Fault state meaning most old new same = same
works_nothing NoUndo state meaning most old new same = unworked state meaning most old new same

-- a step that works no page
pub step_unworked : (tells : Tells) (request : Request) (reply : Step) (before after : Session) (was : Disk) → SameWork tells before.text.pair.pages after.text.pair.pages
    → WorksIn tells request reply before after was
step_unworked tells request (step.Answer mark reply) before after was same = λ told state syncs instruction fits is.
    works_nothing mark.outcome state.machine (meaning_at state.machine instruction) (most_in before.text.tree) (work_in before.text.pair.pages) (work_in after.text.pair.pages) (same told)
step_unworked tells request step.Quit before after was same = same

-- a sync works no page
pub synced_work : (before after : SwapPair) (was now : Disk) → shown_in after now ≡ shown_in before was → work_in after.pages ≡ work_in before.pages
synced_work before after was now same = ap worked_by same

-- a command after a sync
pub works_synced : (outcome : Outcome) (state : State) (meaning : Meaning) (before mid after : Session) → work_in mid.text.pair.pages ≡ work_in before.text.pair.pages → mid.text.tree ≡ before.text.tree
    → WorksBy outcome state meaning (most_in mid.text.tree) (work_in mid.text.pair.pages) (work_in after.text.pair.pages)
    → WorksBy outcome state meaning (most_in before.text.tree) (work_in before.text.pair.pages) (work_in after.text.pair.pages)
works_synced outcome state meaning before mid after work tree works =
    subst (λ (t : LineTree). WorksBy outcome state meaning (most_in t) (work_in before.text.pair.pages) (work_in after.text.pair.pages)) tree
    (subst (λ (w : ℕ → ℕ). WorksBy outcome state meaning (most_in mid.text.tree) w (work_in after.text.pair.pages)) work works)

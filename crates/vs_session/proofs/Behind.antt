-- How far the swap files are behind the pages: where no page waits for a commit, what was worked is what got another commit.
use Rattle.std.proofs.Common.{◌≡◌, ℕ, ◌+◌, ◌*◌, ◌≤◌, [], sym, ◌∙◌, ap, subst, arith}
use Rattle.vs_host.specs.Disk.{Disk}
use Rattle.vs_host.specs.World.{Tells, Scene}
use Rattle.vs_pages.specs.Memory.{state_of}
use Rattle.vs_pages.specs.declared.memory.MemPages.{MemPages}
use Rattle.vs_edit.specs.Splices.{IsSmallSplice}
use Rattle.vs_edit.specs.State.{WorksAtMost}
use Rattle.vs_pair.specs.Acts as acts
use Rattle.vs_pair.specs.Pair.{shown_in}
use Rattle.vs_pair.specs.Stale.{IsBehind}
use Rattle.vs_pair.specs.declared.written.Written.{Written}
use Rattle.vs_pair.proofs.Behind.{behind_changed, behind_more, behind_same}
use Rattle.vs_excmd.specs.Change.{Change}
use Rattle.vs_excmd.specs.declared.request.Request.{Request}
use Rattle.vs_machine.specs.Machine.{State, Meaning}
use Rattle.vs_machine.specs.Machine.Meaning.{Changed}
use Rattle.vs_machine.specs.declared.command.Outcome.{Outcome}
use Rattle.vs_machine.specs.declared.command.Outcome.TheVariants.{Done, NoMemory, Fault, NoUndo}
use Rattle.vs_paged.specs.Pages.{IsIdle}
use Rattle.vs_paged.proofs.PageLemmas.{low_paged}
use Rattle.vs_session.specs.declared.session.Session.{Session}
use Rattle.vs_session.specs.Work.{WorksBy, most_in, work_in}
use Rattle.vs_session.specs.SwapWrites.{ChangesLine}

-- ---- pages that were worked

pub behind_unworked : (old new : MemPages) (written : Written) (most : ℕ) → IsIdle (state_of old) → IsIdle (state_of new) → work_in new ≡ work_in old → IsBehind old written most → IsBehind new written most
behind_unworked old new written most idle_old idle_new same behind = behind_same old new written most (sym idle_new ∙ same ∙ idle_old) behind

behind_worked : (old new : MemPages) (written : Written) (most more : ℕ) → IsIdle (state_of old) → IsIdle (state_of new) → WorksAtMost more (work_in old) (work_in new) → IsBehind old written most
    → IsBehind new written (most + more)
behind_worked old new written most more idle_old idle_new works behind =
    behind_more new written _ (most + more) (omega (arith, works.few))
    (behind_changed old new written most works.names (λ k none. ap (λ (f : ℕ → ℕ). f k) (sym idle_new) ∙ works.others k none ∙ ap (λ (f : ℕ → ℕ). f k) idle_old) behind)

-- ---- a change of one line

works_none : (most : ℕ) (old new : ℕ → ℕ) → new ≡ old → WorksAtMost most old new
works_none most old new same = record { names = []; few = omega arith; others = λ page none. ap (λ (f : ℕ → ℕ). f page) same }

line_works : (outcome : Outcome) (state : State) (change : Change) (most : ℕ) (old new : ℕ → ℕ) → IsSmallSplice state.text change.top change.old change.new
    → WorksBy outcome state (Changed change) most old new → WorksAtMost most old new
line_works Done state change most old new small works = works.1 small
line_works NoMemory state change most old new small works = works_none most old new works
line_works Fault state change most old new small works = works_none most old new works
line_works NoUndo state change most old new small works = works.1 small

works_line : (tells : Tells) (request : Request) (outcome : Outcome) (before after : Session) (was now : Disk) → ChangesLine tells request outcome before after was now
    → WorksAtMost (most_in before.text.tree) (work_in before.text.pair.pages) (work_in after.text.pair.pages)
works_line tells request outcome before after was now line =
    let state = line.state.machine in
    line_works outcome state line.change (most_in before.text.tree) (work_in before.text.pair.pages) (work_in after.text.pair.pages) line.small
    (subst (λ (m : Meaning). WorksBy outcome state m (most_in before.text.tree) (work_in before.text.pair.pages) (work_in after.text.pair.pages)) line.changes
    (line.works line.told line.state line.syncs line.instruction line.fits line.is))

pub behind_line : (tells : Tells) (request : Request) (outcome : Outcome) (before after : Session) (was now : Disk) (written : Written) (most : ℕ)
    → ChangesLine tells request outcome before after was now → IsBehind before.text.pair.pages written most → IsBehind after.text.pair.pages written (most + 37)
behind_line tells request outcome before after was now written most line behind =
    let paged = line.fits.stands.text.pages in
    let low : before.text.tree.present.height ≤ 5 = low_paged (shown_in before.text.pair was) before.text.tree line.state.machine.text paged in
    behind_more after.text.pair.pages written (most + most_in before.text.tree) (most + 37) (omega (arith, low))
    (behind_worked before.text.pair.pages after.text.pair.pages written most (most_in before.text.tree) paged.idle line.fits_after.stands.text.pages.idle
    (works_line tells request outcome before after was now line) behind)

-- ---- calls

pub calls_after : (tells : Tells) (old synced : Scene) (pages : MemPages) (written : Written) (k : ℕ) → ((most : ℕ) → IsBehind pages written most → acts.WorksAtMost tells old synced (6 + most) most)
    → IsBehind pages written (37 * k) → acts.WorksAtMost tells old synced (40 * k + 8) (40 * k + 2)
calls_after tells old synced pages written k works behind =
    let within = works (37 * k) behind in record { calls = λ told. omega (arith, within.calls told); reads = λ told. omega (arith, within.reads told) }

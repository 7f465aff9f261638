-- Where a step begins with a sync, what is said of that sync is said of the step.
use Rattle.std.proofs.Common.{◌≡◌, ℕ, ◌+◌, Bool, true, false, List, length, sym, subst, ap, ◌∙◌, arith}
use Rattle.vs_host.specs.Disk.{Disk}
use Rattle.vs_host.specs.World.{Tells, Scene}
use Rattle.vs_host.specs.Trace.{Snapshot}
use Rattle.vs_pair.specs.Acts.{WorksAtMost, reads_in}
use Rattle.vs_pair.specs.Pair.{shown_in}
use Rattle.vs_exparse.specs.Command.{result_of}
use Rattle.vs_excmd.specs.declared.request.Request.{Request}
use Rattle.vs_paged.specs.Turns.{KeepsKnown}
use Rattle.vs_session.specs.declared.session.Session.{Session}
use Rattle.vs_session.specs.declared.session.Step.{Step}
use Rattle.vs_session.specs.declared.session.Step.TheVariants as step
use Rattle.vs_session.specs.Session.{begins_after, is_write}
use Rattle.vs_session.specs.Fits.{IsMarkedAt}
use Rattle.vs_session.specs.SwapWrites.{SyncsFirst, SyncsIn, SyncsWhere}

module _ (tells : Tells) (request : Request) (before after : Session) (old new : Scene) where
  -- a command that begins with a sync
  pub syncs_first : (reply : Step) (at : ℕ) (writes : Bool) → IsMarkedAt reply at → begins_after before.steps (result_of request.parsed) ≡ true → is_write (result_of request.parsed) ≡ writes
      → SyncsFirst tells writes reply before after old new → SyncsIn tells request reply before after old new
  syncs_first (step.Answer mark reply) at writes marked begins is first =
      subst (λ (b : Bool). SyncsWhere b tells (is_write (result_of request.parsed)) (step.Answer mark reply) before after old new) (sym begins)
      (subst (λ (w : Bool). SyncsFirst tells w (step.Answer mark reply) before after old new) (sym is) first)
  syncs_first step.Quit at writes marked begins is first = absurd marked

  -- one that does not
  pub syncs_none : (reply : Step) → begins_after before.steps (result_of request.parsed) ≡ false → KeepsKnown before.text.pair after.text.pair → SyncsIn tells request reply before after old new
  syncs_none (step.Answer mark reply) begins same =
      subst (λ (b : Bool). SyncsWhere b tells (is_write (result_of request.parsed)) (step.Answer mark reply) before after old new) (sym begins) same
  syncs_none step.Quit begins same = same

-- ---- calls from a scene with the same trace on

works_from : (tells : Tells) (old mid new : Scene) (most reads : ℕ) → mid.trace ≡ old.trace → WorksAtMost tells mid new most reads → WorksAtMost tells old new most reads
works_from tells old mid new most reads same within = record {
  calls = λ told. omega (arith, within.calls told, ap (λ (trace : List Snapshot). length trace) same, ap reads_in same);
  reads = λ told. omega (arith, within.reads told, ap reads_in same);
}

first_from : (tells : Tells) (writes : Bool) (reply : Step) (before after : Session) (old mid new : Scene) → mid.trace ≡ old.trace → mid.folder ≡ old.folder
    → SyncsFirst tells writes reply before after mid new → SyncsFirst tells writes reply before after old new
first_from tells writes reply before after old mid new same folder first = record {
  synced = first.synced;
  acknowledged = first.acknowledged;
  works = λ most behind. works_from tells old mid first.synced (6 + most) most same (first.works most behind);
  between = first.between;
  shown = λ told. first.shown told ∙ ap (λ (d : Disk). shown_in before.text.pair d) folder;
  commits = first.commits;
  turns = first.turns;
  known = first.known;
  failed = first.failed;
  rest = first.rest;
}

where_from : (begins : Bool) (tells : Tells) (writes : Bool) (reply : Step) (before after : Session) (old mid new : Scene) → mid.trace ≡ old.trace → mid.folder ≡ old.folder
    → SyncsWhere begins tells writes reply before after mid new → SyncsWhere begins tells writes reply before after old new
where_from true tells writes reply before after old mid new same folder first = first_from tells writes reply before after old mid new same folder first
where_from false tells writes reply before after old mid new same folder files = files

pub syncs_from : (tells : Tells) (request : Request) (reply : Step) (before after : Session) (old mid new : Scene) → mid.trace ≡ old.trace → mid.folder ≡ old.folder
    → SyncsIn tells request reply before after mid new → SyncsIn tells request reply before after old new
syncs_from tells request (step.Answer mark reply) before after old mid new same folder syncs =
    where_from (begins_after before.steps (result_of request.parsed)) tells (is_write (result_of request.parsed)) (step.Answer mark reply) before after old mid new same folder syncs
syncs_from tells request step.Quit before after old mid new same folder files = files

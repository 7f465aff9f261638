use Rattle.std.proofs.Common.{refl}
use Rattle.std.proofs.lemmas.Result.{on_ok_weaker, on_err_weaker}
use Rattle.vs_pages.specs.MemoryLaws.{keeps_none}
use Rattle.vs_pages.proofs.Lending.{lent_change, lent_still, lent_kept}
use Rattle.vs_pages.proofs.Pasts.{on_err_from}
use Rattle.vs_pages.proofs.Steps.{Continues-none}
use Rattle.vs_pages.proofs.failing.FailingPagesPages.patch.Goals as goal

pub returns-in_err-count_call_on-clause-still : goal.returns-in_err-count_call_on-clause-still
returns-in_err-count_call_on-clause-still g c =
    on_err_from c.from_residual.result _
    (lent_still _ c.args.self.now.pages c.count_call_on.new.self.pages c.count_call_on.new.self.pages _ _ c.count_call_on.ensures.pages (record { count = refl; worked = λ told. refl; before = λ told. refl }))

pub returns-in_err-count_call_on-clause-kept : goal.returns-in_err-count_call_on-clause-kept
returns-in_err-count_call_on-clause-kept g c =
    lent_kept _ (λ s. s.pages) (λ s. s.faults) (λ s. Unit {0}) (λ p q. Unit {0}) c.args.self.now c.count_call_on.new.self c.count_call_on.new.self.pages c.count_call_on.ensures.pages tt tt (Continues-none keeps_none tt)

pub returns-clause-change : goal.returns-clause-change
returns-clause-change g c =
    on_ok_weaker c.patch.result (λ change. lent_change _ c.args.self.now.pages c.count_call_on.new.self.pages c.patch.new.self _ _ _ c.count_call_on.ensures.pages change) c.patch.ensures.change

pub returns-clause-still : goal.returns-clause-still
returns-clause-still g c =
    on_err_weaker c.patch.result (λ still. lent_still _ c.args.self.now.pages c.count_call_on.new.self.pages c.patch.new.self _ _ c.count_call_on.ensures.pages still) c.patch.ensures.still

pub returns-clause-kept : goal.returns-clause-kept
returns-clause-kept g c =
    lent_kept _ (λ s. s.pages) (λ s. s.faults) (λ s. Unit {0}) (λ p q. Unit {0}) c.args.self.now _ c.count_call_on.new.self.pages c.count_call_on.ensures.pages tt tt c.patch.ensures.kept

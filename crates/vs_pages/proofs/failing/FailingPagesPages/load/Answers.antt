use Rattle.vs_pages.specs.MemoryLaws.{keeps_none}
use Rattle.vs_pages.proofs.Lending.{lent_reads}
use Rattle.vs_pages.proofs.Steps.{OnlyReads-none}
use Rattle.vs_pages.proofs.failing.FailingPagesPages.load.Goals as goal

pub returns-in_err-count_call_on-clause-kept : goal.returns-in_err-count_call_on-clause-kept
returns-in_err-count_call_on-clause-kept g c =
    lent_reads _ (λ s. s.pages) (λ s. s.faults) (λ s. Unit {0}) (λ p q. Unit {0}) c.args.self.now c.count_call_on.new.self c.count_call_on.new.self.pages c.count_call_on.ensures.pages tt tt (OnlyReads-none keeps_none tt)

pub returns-clause-kept : goal.returns-clause-kept
returns-clause-kept g c =
    lent_reads _ (λ s. s.pages) (λ s. s.faults) (λ s. Unit {0}) (λ p q. Unit {0}) c.args.self.now _ c.count_call_on.new.self.pages c.count_call_on.ensures.pages tt tt c.load.ensures.kept

use Rattle.std.proofs.Common.{◌≡◌, ◌∙◌, IsTrue, Option, None, Some, sym}
use Rattle.std.specs.Prelude.{IfSome}
use Rattle.vs_pages.specs.Cells.{is_away}
use Rattle.vs_pages.specs.Memory.{kept_of, present_under}
use Rattle.vs_pages.specs.MemoryLaws.{away_first}
use Rattle.vs_pages.proofs.CellLemmas.{shown_away}
use Rattle.vs_pair.specs.Cached.{was_away}
use Rattle.vs_pair.proofs.pair.SwapPair.lend.Goals as goal

lent_on : {X : Type 0} (o : Option X) (P Q : X → Type 0) → IfSome o P → ((x : X) → P x → Q x) → IfSome o Q
lent_on None P Q is on = is
lent_on (Some x) P Q is on = on x is

pub returns-then-is_away-clause-lent : goal.returns-then-is_away-clause-lent
returns-then-is_away-clause-lent c = λ away cached.
    let gone : IsTrue (is_away (kept_of c.args.self.now.pages c.args.at)) = sym c.is_away.ensures ∙ c.if-is_away.true in
    lent_on c.page.result (λ bytes. away c.args.at ≡ Some bytes.now) (λ bytes. present_under away c.args.self.now.pages c.args.at ≡ Some bytes.now)
    (c.page.ensures.page (was_away c.args.self.now.pages) away cached (away_first c.args.self.now.pages c.args.at gone))
    (λ bytes there. shown_away (away c.args.at) (kept_of c.args.self.now.pages c.args.at) gone ∙ there)

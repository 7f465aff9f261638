use Rattle.std.proofs.Common.{Option, None, Some}
use Rattle.std.specs.Prelude.{IfSome}
use Rattle.vs_pair.specs.Pair.{away_of}
use Rattle.vs_pair.proofs.lent.PairPagesPages.page.Goals as goal

if_told : {X : Type 0} (o : Option X) (T : Type 0) (P : X → Type 0) → (T → IfSome o P) → IfSome o (λ x. T → P x)
if_told None T P given = tt
if_told (Some x) T P given = given

pub returns-clause-lent : goal.returns-clause-lent
returns-clause-lent g c = if_told c.lend.result _ _ (λ told. c.lend.ensures.lent (away_of c.args.self.now.pair.now.files (g.F.World.scene c.args.self.now.host.now).folder) (c.requires.valid told).stored.cached)

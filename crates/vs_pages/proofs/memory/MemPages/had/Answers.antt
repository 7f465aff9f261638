use Rattle.std.proofs.Common.{◌≡◌, ℕ, List, Option, None, is_some, true, false, sym, ap}
use Rattle.vs_pages.specs.Cells.{Cell}
use Rattle.vs_pages.specs.Memory.{first_kept_of}
use Rattle.vs_pages.specs.Table.{IsPlace}
use Rattle.vs_pages.specs.declared.presence.Presence.{Presence}
use Rattle.vs_pages.specs.declared.presence.Presence.TheVariants as presence
use Rattle.vs_pages.proofs.CellLemmas.{shown_there}
use Rattle.vs_pages.proofs.memory.MemPages.had.Goals as goal

missing_is : (p : Presence) (into : List ℕ) (cell : Option Cell) → p ≡ presence.Missing → IsPlace p into cell → false ≡ is_some cell
missing_is presence.Missing into cell is place = sym (ap (λ (o : Option Cell). is_some o) place)
missing_is presence.Here into cell is place = absurd (cc)
missing_is presence.Away into cell is place = absurd (cc)

here_is : (p : Presence) (into : List ℕ) (cell : Option Cell) → p ≡ presence.Here → IsPlace p into cell → true ≡ is_some cell
here_is presence.Missing into cell is place = absurd (cc)
here_is presence.Here into cell is place = sym (shown_there None cell (ap (λ (o : Option (List ℕ)). is_some o) place))
here_is presence.Away into cell is place = absurd (cc)

away_is : (p : Presence) (into : List ℕ) (cell : Option Cell) → p ≡ presence.Away → IsPlace p into cell → true ≡ is_some cell
away_is presence.Missing into cell is place = absurd (cc)
away_is presence.Here into cell is place = absurd (cc)
away_is presence.Away into cell is place = sym (ap (λ (o : Option Cell). is_some o) place)

pub returns-in-Missing : goal.returns-in-Missing
returns-in-Missing c = missing_is c.copy_committed.result c.copy_committed.new.into (first_kept_of c.args.self.now c.args.at) c.in-Missing.is c.copy_committed.ensures.page

pub returns-in-Here : goal.returns-in-Here
returns-in-Here c = here_is c.copy_committed.result c.copy_committed.new.into (first_kept_of c.args.self.now c.args.at) c.in-Here.is c.copy_committed.ensures.page

pub returns-in-Away : goal.returns-in-Away
returns-in-Away c = away_is c.copy_committed.result c.copy_committed.new.into (first_kept_of c.args.self.now c.args.at) c.in-Away.is c.copy_committed.ensures.page

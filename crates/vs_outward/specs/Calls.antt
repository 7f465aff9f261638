-- How a store goes on over the calls that lead it over entries.
use Rattle.std.specs.Prelude.{Result, IsErrOf}
use Rattle.vs_edit.specs.Calls.{Continues, StopsAtFault}
use Rattle.vs_edit.specs.declared.store.LineStore.{Ghosts}
use Rattle.vs_edit.specs.declared.store.StoreErr.{StoreErr}
use Rattle.vs_edit.specs.declared.store.StoreErr.TheVariants.{Failed}

-- The store is valid, with the same committed text, and the call failed only where the store did.
pub record GoesOn {S X : Type 0} (g : Ghosts S) (old new : S) (result : Result X StoreErr) : Type 0 where
  pub kept : Continues g old new
  pub cause : StopsAtFault g (IsErrOf result Failed) old new

-- A pair that was started goes on to fit while it is ready.
use Rattle.std.proofs.Common.{◌≤◌, inl, inr, arith}
use Rattle.vs_host.specs.Disk.{Disk}
use Rattle.vs_pair.specs.declared.pair.SwapPair.{SwapPair}
use Rattle.vs_pair.specs.Lent.{IsReady}
use Rattle.vs_test_pair.specs.Lives.{Fits}

pub ready : (pair : SwapPair) (disk : Disk) → Fits pair disk → IsReady pair disk
ready pair disk fits = record { stored = fits.stored; begun = inr fits.fit }

pub fitting : (pair : SwapPair) (disk : Disk) → 2 ≤ pair.files.generation → IsReady pair disk → Fits pair disk
fitting pair disk started is = elim is.begun [
  | inl fresh ↦ absurd (omega (arith, started, fresh.0))
  | inr fit ↦ record { fit = fit; stored = is.stored }
]

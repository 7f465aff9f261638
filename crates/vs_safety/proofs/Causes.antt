-- A count that the newest snapshot has goes on with the trace, up to the call that raises it.
use Rattle.std.proofs.Common.{◌≡◌, inl, inr, ℕ, List, [], ◌∷◌, ◌++◌, refl, sym, ◌∙◌, ap, subst, arith, append_assoc}
use Rattle.vs_faults.specs.Faults.{HasRisen}
use Rattle.vs_host.specs.Disk.{Name}
use Rattle.vs_host.specs.Trace.{Kind, Snapshot, Each, GoesOn}
use Rattle.vs_host.specs.World.{Scene, IsRecorded, snapshot_of}
use Rattle.vs_disk.specs.Runs.{HasNoFault, FailsLast}
use Rattle.vs_safety.specs.Safety.{IsAdded}
use Rattle.vs_safety.specs.Causes.{Count, newest_count, IsCounted, RoseLast}

pub counted_none : (count : Count) (start : Scene) → IsCounted count start start
counted_none count start = record { moments = []; added = refl; newest = refl }

newest_on : (count : Count) (start : Scene) (n : ℕ) (moments older : List Snapshot) → Each (λ m. count.at m ≡ n) moments → newest_count count start older ≡ n → newest_count count start (moments ++ older) ≡ n
newest_on count start n [] older each is = is
newest_on count start n (m ∷ ms) older each is = each.0

-- calls that left the count
pub counted_on : (count : Count) (start now new : Scene) → GoesOn (λ m. count.at m ≡ count.now now) now.trace new.trace → count.now new ≡ count.now now → IsCounted count start now → IsCounted count start new
counted_on count start now new goes same counted = record {
  moments = goes.added ++ counted.moments;
  added = goes.is ∙ ap (λ (ms : List Snapshot). goes.added ++ ms) counted.added ∙ sym (append_assoc goes.added counted.moments start.trace);
  newest = newest_on count start (count.now now) goes.added counted.moments goes.each counted.newest ∙ sym same;
}

-- a call that added its snapshot
pub counted_told : (count : Count) (start now new : Scene) (kind : Kind) (names : List Name) → count.at (snapshot_of new kind names) ≡ count.now new → IsRecorded kind names now new
    → (moments : List Snapshot) → now.trace ≡ moments ++ start.trace → IsCounted count start new
counted_told count start now new kind names same told moments added = record {
  moments = snapshot_of new kind names ∷ moments;
  added = told ∙ ap (λ (ms : List Snapshot). snapshot_of new kind names ∷ ms) added;
  newest = same;
}

-- the call that raised it
pub rose_at : (count : Count) (start now new : Scene) (kind : Kind) (names : List Name) → IsAdded kind names now new → HasRisen (count.now now) (count.now new) → IsCounted count start now → RoseLast count start new
rose_at count start now new kind names (inl told) rose counted = record {
  last = snapshot_of new kind names ∷ [];
  earlier = counted.moments;
  one = omega arith;
  is = told ∙ ap (λ (ms : List Snapshot). snapshot_of new kind names ∷ ms) counted.added;
  rose = subst (λ (n : ℕ). HasRisen n (count.now new)) (sym counted.newest) rose;
}
rose_at count start now new kind names (inr left) rose counted = record {
  last = [];
  earlier = counted.moments;
  one = omega arith;
  is = left.trace ∙ counted.added;
  rose = subst (λ (n : ℕ). HasRisen n (count.now new)) (sym counted.newest) rose;
}

-- calls of which none but the last failed
pub rose_last : (count : Count) (start now new : Scene) → ((m : Snapshot) → HasNoFault now m → count.at m ≡ count.now now) → FailsLast now new → HasRisen (count.now now) (count.now new) → IsCounted count start now → RoseLast count start new
rose_last count start now new same fails rose counted = record {
  last = fails.last;
  earlier = fails.earlier ++ counted.moments;
  one = fails.one;
  is = fails.is ∙ ap (λ (ms : List Snapshot). fails.last ++ ms) (ap (λ (ms : List Snapshot). fails.earlier ++ ms) counted.added ∙ sym (append_assoc fails.earlier counted.moments start.trace));
  rose = subst (λ (n : ℕ). HasRisen n (count.now new)) (sym (newest_on count start (count.now now) fails.earlier counted.moments
      (Rattle.vs_disk.proofs.Runs.Each-weaker (HasNoFault now) (λ m. count.at m ≡ count.now now) same fails.earlier fails.quiet) counted.newest)) rose;
}

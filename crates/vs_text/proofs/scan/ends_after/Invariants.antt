use Rattle.std.proofs.Common.{◌≡◌, MatchOption, length, true}
use Rattle.vs_text.specs.Documents.{has_end, has_unix_end}
use Rattle.vs_text.specs.declared.format.Format.TheVariants.{Dos}
use Rattle.vs_text.proofs.scan.ends_after.Given as goal

abbrev pub invariant-ends : goal.invariant-ends
invariant-ends l = record {
  unix : has_unix_end l.before l.rest ≡ has_unix_end l.initial.before l.bytes;
  found : MatchOption l.found (has_end l.rest ≡ has_end l.bytes) (λ format. (format ≡ Dos) × (has_end l.bytes ≡ true));
}

abbrev pub decreases-ends : goal.decreases-ends
decreases-ends l = length l.rest

-- What a session has come to: the numbers of its lines, changes and syncs, and the digest of its text.
use Rattle.std.specs.Prelude.{ℕ, ◌+◌, List, [], ◌∷◌, if◌then◌else◌, length}
use Rattle.vs_machine.specs.Machine.{last_of}
use Rattle.vs_safety.specs.Texts.{Sync}
use Rattle.vs_ubind.specs.Digest.{digest_of}
use Rattle.vs_session.specs.Session.{SessionState}
use Rattle.vs_session.specs.declared.summary.Summary.{Summary}

-- how many of these syncs are acknowledged
abbrev pub acknowledged_in : List Sync → ℕ
acknowledged_in [] = 0
acknowledged_in (sync ∷ syncs) = if sync.acknowledged then acknowledged_in syncs + 1 else acknowledged_in syncs

-- the summary of a session in this state, after these syncs
abbrev pub summary_of : SessionState → List Sync → Summary
summary_of state syncs = record {
  lines = length state.machine.text;
  changes = last_of state.machine;
  syncs = acknowledged_in syncs;
  digest = digest_of state.machine.text;
}

-- A host in memory, as its users see it.
use Rattle.std.specs.Prelude.{◌≡◌, ◌⊎◌, ◌<◌, ℕ, ◌+◌, ◌-◌, ◌^◌, min, max, Bool, false}
use Rattle.std.specs.Prelude.{Contains, List, [], ◌∷◌, ◌++◌, length}
use Rattle.vs_host.specs.Disk.{Disk}
use Rattle.vs_host.specs.Trace.{most_faults}
use Rattle.vs_host.specs.World.{Scene}
use Rattle.vs_memory.specs.declared.log.Call.{Call}
use Rattle.vs_memory.specs.declared.log.Entry.{Entry}
use Rattle.vs_memory.specs.declared.log.Part.{Part}
use Rattle.vs_memory.specs.Replay.{disk_after, output_after, trace_after}

-- The files that were put, the last one first; the log of the calls since then, the newest first; what is left of the script,
-- the clock's answers, the counts of faults, what the clock answers, how many calls were made, the numbers of the calls that
-- fail, and the number after which all fail.
pub record Memory : Type 0 where
  pub base : List (List ℕ × List ℕ)
  pub log : List Entry
  pub script : List ℕ
  pub answers : List ℕ
  pub script_faults : ℕ
  pub out_faults : ℕ
  pub folder_faults : ℕ
  pub clock : ℕ
  pub calls : ℕ
  pub failing : List ℕ
  pub stop : ℕ

-- the folder that the calls of a host have left
abbrev pub folder_of : Memory → Disk
folder_of host = disk_after host.base host.log

-- the output that they have written
abbrev pub output_of : Memory → List ℕ
output_of host = output_after host.log

-- The outside that it plays. By a law of the trait `World` no snapshot has more of the folder's faults than the scene, and the law is
-- on every `Memory`: hence `max`. The log of a host has no more of them than the host has counted, so the scene has the host's count.
abbrev pub scene_of : Memory → Scene
scene_of host = record {
  folder = folder_of host;
  output = output_of host;
  script = host.script;
  answers = host.answers;
  script_faults = host.script_faults;
  out_faults = host.out_faults;
  folder_faults = max host.folder_faults (most_faults (trace_after host.base host.log));
  trace = trace_after host.base host.log;
}

-- the scene has the host's count of the folder's faults
abbrev pub ShowsCount : Memory → Type 0
ShowsCount host = (scene_of host).folder_faults ≡ host.folder_faults

-- an empty folder, and the script whole
abbrev pub fresh_memory : List ℕ → Memory
fresh_memory script = record {
  base = [];
  log = [];
  script = script;
  answers = [];
  script_faults = 0;
  out_faults = 0;
  folder_faults = 0;
  clock = 0;
  calls = 0;
  failing = [];
  stop = 2 ^ 64 - 1;
}

-- the clock was asked once more
abbrev pub answered : Memory → Memory
answered host = record host { answers = host.answers ++ host.clock ∷ [] }

-- one call more was counted
abbrev pub counted : Memory → Memory
counted host = record host { calls = min (host.calls + 1) (2 ^ 64 - 1) }

-- how many calls of a part have failed
abbrev pub faults_of : Part → Memory → ℕ
faults_of Part.Script host = host.script_faults
faults_of Part.Out host = host.out_faults
faults_of Part.Folder host = host.folder_faults

-- one fault more was counted
abbrev pub faulted : Part → Memory → Memory
faulted Part.Script host = record host { script_faults = min (host.script_faults + 1) (2 ^ 64 - 1) }
faulted Part.Out host = record host { out_faults = min (host.out_faults + 1) (2 ^ 64 - 1) }
faulted Part.Folder host = record host { folder_faults = min (host.folder_faults + 1) (2 ^ 64 - 1) }

-- what the log says of a call: whether it was done, and at which count of faults
abbrev pub entry_of : Call → Bool → Memory → Entry
entry_of call done host = record {
  call = call;
  done = done;
  script_faults = host.script_faults;
  out_faults = host.out_faults;
  folder_faults = host.folder_faults;
  answered = length host.answers;
}

-- one call more was logged
abbrev pub recorded : Call → Bool → Memory → Memory
recorded call done host = record host { log = entry_of call done host ∷ host.log }

-- the call of this number is planned to fail
abbrev pub IsPlanned : Memory → ℕ → Type 0
IsPlanned host number = Contains host.failing number ⊎ (host.stop < number)

-- the call was logged
abbrev pub IsLogged : Memory → Memory → Type 0
IsLogged old new = (entry : Entry) × (new.log ≡ entry ∷ old.log)

-- how many calls were not logged, since there was no memory for them
abbrev pub unlogged : Memory → ℕ
unlogged host = host.calls - length host.log

-- A call of the host counts one. The planned one fails, and else only one that is not logged, for want of memory. One that fails
-- changes nothing, and the plan stays. Before and after it, the scene has the host's count of the folder's faults.
pub record IsPlayed (old new : Memory) (ok : Bool) : Type 0 where
  pub calls : new.calls ≡ min (old.calls + 1) (2 ^ 64 - 1)
  pub planned : IsPlanned old new.calls → ok ≡ false
  pub unplanned : ok ≡ false → IsPlanned old new.calls ⊎ (new.log ≡ old.log)
  pub logged : IsLogged old new ⊎ ((ok ≡ false) × (new.log ≡ old.log))
  pub folder : ok ≡ false → folder_of new ≡ folder_of old
  pub output : ok ≡ false → output_of new ≡ output_of old
  pub script : ok ≡ false → new.script ≡ old.script
  pub failing : new.failing ≡ old.failing
  pub stop : new.stop ≡ old.stop
  pub clock : new.clock ≡ old.clock
  pub shown_old : ShowsCount old
  pub shown_new : ShowsCount new

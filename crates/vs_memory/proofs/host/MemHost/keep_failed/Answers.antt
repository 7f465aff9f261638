use Rattle.std.proofs.Common.{rules, ◌≡◌, ◌⊎◌, inl, inr, ◌<◌, ◌∷◌, ◌++◌, [], List, length, sym, ap, subst}
use Rattle.std.specs.Prelude.{reverse, vec_len}
use Rattle.vs_memory.specs.declared.log.Entry.{Entry}
use Rattle.vs_memory.specs.Bases.{puts}
use Rattle.vs_memory.specs.Hosts.{IsHost}
use Rattle.vs_memory.proofs.Hosts.{failed_host, pushed_host}
use Rattle.vs_memory.proofs.host.MemHost.keep_failed.Goals as goal

pub invariant_of-self : goal.invariant_of-self
invariant_of-self c =
    let s = c.self.inside in
    let e : Entry = c.entry-entry.result in
    let failed = ap (λ (x : Entry). x.done) c.entry-entry.ensures in
    let count : e.folder_faults ≡ s.folder_faults = search rules in
    let room : length (reverse s.log.items) < s.calls = search rules in
    let either : (c.push.new.self.items ≡ s.log.items ++ e ∷ []) ⊎ (c.push.new.self.items ≡ s.log.items) = search rules in
    elim either [
      | inl items ↦
          pushed_host s.folder s.output.items (puts s.base.items) s.log.items c.push.new.self.items e s.calls s.folder_faults s.script_at (vec_len s.script) items
          (failed_host s.folder s.output.items (puts s.base.items) (reverse s.log.items) e s.calls s.folder_faults s.script_at (vec_len s.script) c.self.invariant failed count room)
      | inr same ↦
          subst (λ (log : List Entry). IsHost s.folder s.output.items (puts s.base.items) (reverse log) s.calls s.folder_faults s.script_at (vec_len s.script)) (sym same) c.self.invariant
    ]

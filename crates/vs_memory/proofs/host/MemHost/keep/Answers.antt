use Rattle.std.proofs.Common.{rules, ◌≡◌, ◌<◌, ◌∷◌, ◌++◌, [], length, sym, ap, subst}
use Rattle.std.specs.Prelude.{reverse, vec_len}
use Rattle.vs_memory.specs.declared.log.Entry.{Entry}
use Rattle.vs_memory.specs.Bases.{puts}
use Rattle.vs_memory.specs.Memory.{Memory, folder_of}
use Rattle.vs_memory.specs.Replay.{CanPlay, disk_after}
use Rattle.vs_memory.proofs.Hosts.{logged_host, pushed_host}
use Rattle.vs_memory.proofs.host.MemHost.keep.Goals as goal

pub invariant_of-self-3 : goal.invariant_of-self-3
invariant_of-self-3 c =
    let s = c.self.inside in
    let e : Entry = c.entry-entry.result in
    let items : c.push.new.self.items ≡ s.log.items ++ e ∷ [] = search rules in
    let call = ap (λ (x : Entry). x.call) c.entry-entry.ensures in
    let done = ap (λ (x : Entry). x.done) c.entry-entry.ensures in
    let count : e.folder_faults ≡ s.folder_faults = search rules in
    let can : CanPlay c.args.call (disk_after (puts s.base.items) (reverse s.log.items)) = subst (λ (m : Memory). CanPlay c.args.call (folder_of m)) (sym c.self.view_is) c.requires.can in
    let room : length (reverse s.log.items) < s.calls = search rules in
    pushed_host c.apply.new.folder c.apply.new.output.items (puts s.base.items) s.log.items c.push.new.self.items e s.calls s.folder_faults s.script_at (vec_len s.script) items
    (logged_host s.folder c.apply.new.folder s.output.items c.apply.new.output.items (puts s.base.items) (reverse s.log.items) c.args.call e s.calls s.folder_faults s.script_at (vec_len s.script)
    c.self.invariant call done count can (search rules) (search rules) room)

use Rattle.std.proofs.Common.{rules, ◌≡◌, ◌∷◌, ◌++◌, [], ℕ, List, sym, ap, ◌∙◌, subst}
use Rattle.std.specs.Prelude.{reverse, string_bytes, vec_len}
use Rattle.vs_memory.specs.declared.host.PutFile.{PutFile}
use Rattle.vs_memory.specs.Bases.{puts}
use Rattle.vs_memory.specs.Hosts.{IsHost}
use Rattle.vs_memory.specs.Memory.{Memory}
use Rattle.vs_memory.specs.Present.{disk_in}
use Rattle.vs_memory.specs.Replay.{with_put}
use Rattle.vs_memory.proofs.Hosts.{put_host, puts_pushed}
use Rattle.vs_memory.proofs.host.MemHost.put.Goals as goal

pub invariant_of-self-2 : goal.invariant_of-self-2
invariant_of-self-2 c =
    let s = c.self.inside in
    let file : PutFile = record { name = c.in_ok-from_str.field-0; bytes = c.in_ok-from_slice.field-0 } in
    let items : c.push.new.self.items ≡ s.base.items ++ file ∷ [] = search rules in
    let name : string_bytes c.in_ok-from_str.field-0 ≡ c.args.name.now = search rules in
    let bytes : c.in_ok-from_slice.field-0.items ≡ c.args.bytes.items = search rules in
    let calls : s.calls ≡ 0 = ap (λ (m : Memory). m.calls) c.self.view_is ∙ c.requires.unused in
    let done : disk_in c.put.new.self ≡ with_put c.args.name.now c.args.bytes.items (disk_in s.folder) = search rules in
    subst (λ (base : List (List ℕ × List ℕ)). IsHost c.put.new.self s.output.items base (reverse s.log.items) s.calls s.folder_faults s.script_at (vec_len s.script))
    (sym (puts_pushed s.base.items c.push.new.self.items file c.args.name.now c.args.bytes.items items name bytes))
    (put_host s.folder c.put.new.self s.output.items (puts s.base.items) (reverse s.log.items) c.args.name.now c.args.bytes.items s.calls s.folder_faults s.script_at (vec_len s.script) c.self.invariant calls done)

use Rattle.std.proofs.Common.{◌≡◌, ◌≤◌, ◌+◌, length, drop, arith, ap, sym, ◌∙◌}
use Rattle.std.proofs.lemmas.Grind.{common_steps}
use Rattle.vs_memory.specs.Memory.{Memory}
use Rattle.vs_memory.proofs.ScriptReads.{script_parts}
use Rattle.vs_memory.proofs.traits.MemHostScript.read.Goals as goal

pub returns-clause-bytes : goal.returns-clause-bytes
returns-clause-bytes c =
    let same : c.args.self.now.script ≡ c.play.new.self.script = sym (ap (λ (m : Memory). m.script) c.in_ok-play.ensures.ok.2) in
    let left : c.play.new.self.script ≡ drop c.self.inside.script_at c.self.inside.script.items = sym (ap (λ (m : Memory). m.script) c.self.view_is) in
    let within : c.self.inside.script_at + c.min-count.result ≤ length c.self.inside.script.items = grind (arith, common_steps) in
    let copied = rw c.deref.ensures.value at c.copy_from_slice.ensures.after in
    λ _. same ∙ left ∙ script_parts c.self.inside.script.items c.copy_from_slice.new.self _ c.self.inside.script_at c.min-count.result copied within

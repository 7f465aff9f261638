use Rattle.std.proofs.Common.{◌≡◌, ◌∙◌, ◌+◌, ◌-◌, ◌*◌, ◌≤◌, ℕ, List, length, take, drop, ap, refl, arith}
use Rattle.vs_pair.proofs.AwayLemmas.{kept_page}
use Rattle.vs_pair.proofs.cache.Cache.keep_page.Goals as goal

pub returns-in-Ok-clause-kept : goal.returns-in-Ok-clause-kept
returns-in-Ok-clause-kept c = λ on map is there.
    let room = c.args.self.now.room in
    let from : ℕ = c.args.i * 4096 in
    let count : ℕ = from + 4096 - from in
    let size : count ≡ 4096 = omega arith in
    let within : from + count ≤ length room.items = omega (arith, c.requires, c.args.self.now.room_size) in
    let copied = c.in-Ok.ensures.items ∙ ap (λ (l : List ℕ). take count (drop from l)) c.deref.ensures.value in
    c.put.ensures.put on on map (λ k has other. has) is (there ∙ kept_page room.items c.in-Ok.copy.items c.args.i from count refl size within copied)

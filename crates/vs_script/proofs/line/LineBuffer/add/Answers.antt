use Rattle.std.proofs.Common.{◌≡◌, ◌-◌, ◌≤◌, ◌++◌, List, ℕ, length, take, min, ap, ◌∙◌, arith}
use Rattle.std.proofs.lemmas.Grind.{common_steps}
use Rattle.vs_script.specs.Ahead.{Kept}
use Rattle.vs_script.proofs.Taking.{take_room}
use Rattle.vs_script.proofs.line.LineBuffer.add.Goals as goal

pub returns : goal.returns
returns c =
    let room : ℕ = c.self.inside.room in
    let bytes : List ℕ = c.self.inside.bytes.items in
    let few : length bytes ≤ room = c.self.invariant.few in
    let added : c.extend_from_slice.new.self.items ≡ bytes ++ take (min (length c.args.piece.now) (room - length bytes)) c.args.piece.now = grind (arith, common_steps) in
    rw (← c.self.view_is) (ap (λ (b : List ℕ). let k : Kept = record { room = room; bytes = b } in k) (added ∙ take_room room bytes c.args.piece.now few))

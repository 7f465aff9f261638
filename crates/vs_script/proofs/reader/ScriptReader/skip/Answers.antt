use Rattle.std.proofs.Common.{◌≤◌, ◌-◌, ap, sym, List, ℕ}
use Rattle.vs_script.specs.Ahead.{Ahead}
use Rattle.vs_script.proofs.Taking.{drop_range, within_range}
use Rattle.vs_script.proofs.reader.ScriptReader.skip.Goals as goal

pub returns : goal.returns
returns c =
    let e = c.self.view_is in
    let inside : c.args.count ≤ c.self.inside.end - c.self.inside.at = within_range c.args.count c.self.inside.at c.self.inside.end c.self.inside.piece.items (rw (← e) at c.requires) in
    rw (← e) (ap (λ (b : List ℕ). let a : Ahead = record { bytes = b; taken = c.self.inside.taken; ended = c.self.inside.ended } in a) (sym (drop_range c.args.count c.self.inside.at c.self.inside.end c.self.inside.piece.items inside)))

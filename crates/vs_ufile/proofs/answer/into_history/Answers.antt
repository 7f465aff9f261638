use Rattle.std.proofs.Common.{List, ap}
use Rattle.vs_ufile.specs.Values.{Change}
use Rattle.vs_ufile.proofs.Places.{changes_of}
use Rattle.vs_ufile.proofs.answer.into_history.Goals as goal

pub returns-clause-ok : goal.returns-clause-ok
returns-clause-ok c =
    let f = c.args.form in
    rw c.in_ok-changes.ensures (ap (λ (cs : List Change). record {
      digest = f.front.digest;
      lines = f.front.lines;
      oldest = f.numbers.oldest;
      newest = f.numbers.newest;
      current_head = f.numbers.current_head;
      heads = f.numbers.heads;
      last = f.numbers.last;
      current = f.numbers.current;
      time = f.time;
      last_save = f.last_save;
      changes = cs;
    }) (changes_of f.changes.placed.items))

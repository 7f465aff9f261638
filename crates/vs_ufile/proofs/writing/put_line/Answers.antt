use Rattle.std.proofs.Common.{◌≡◌, ℕ, List, subst, ◌∙◌}
use Rattle.vs_text.specs.Text.{plain_line, stored_line}
use Rattle.vs_ufile.specs.Format.{sized}
use Rattle.vs_ufile.specs.Writing.{PutsAll}
use Rattle.vs_ufile.proofs.Writes.{puts_line}
use Rattle.vs_ufile.proofs.writing.put_line.Goals as goal

pub returns : goal.returns
returns c =
    let a = c.args.out.now.items in
    let b = c.put_sized.new.out.items in
    let way_back : plain_line (stored_line c.args.line.now) ≡ c.args.line.now = subst (λ (x : List ℕ). plain_line x ≡ c.args.line.now) c.in_ok-stored.ensures.stored c.in_ok-stored.ensures.way_back in
    puts_line c.args.line.now a b way_back
    (subst (λ (x : List ℕ). PutsAll (sized x) a b) (c.deref.ensures.value ∙ c.in_ok-stored.ensures.stored) c.in_ok-put_sized.ensures)

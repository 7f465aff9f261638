use Rattle.std.proofs.Common.{◌≡◌, length, sym, subst, arith, true}
use Rattle.std.proofs.lemmas.Bool.Decides.{nat_tests}
use Rattle.vs_text.specs.Text.{bytes_of}
use Rattle.vs_entries.proofs.EntryLemmas.{settled_stays}
use Rattle.vs_entries.proofs.exchange.settle.Goals as goal
use Rattle.vs_entries.proofs.exchange.settle.Goals.{else-len-eq1-via-then-len-eq1+else-bytes-eq1, else-len-eq1-via-else-len-eq1}

pub returns-else-len-eq1-clause-text : goal.returns-else-len-eq1-clause-text
returns-else-len-eq1-clause-text g c = λ text has.
    let lines = g.met.S.LineStore.has_lines c.args.store.now text has in
    let bytes = g.met.S.LineStore.has_bytes c.args.store.now text has in
    let other : length text ≡ 1 → bytes_of text ≡ 1 → ⊥ =
    elim c.else-len-eq1.branch [
      | else-len-eq1-via-then-len-eq1+else-bytes-eq1 w ↦ λ one byte. omega (arith, lines, bytes)
      | else-len-eq1-via-else-len-eq1 w ↦ λ one byte. omega (arith, lines)
    ] in
    let flag : c.args.empty ≡ true = grind (arith, nat_tests) in
    subst (λ t. (g.S.LineStore.shows c.args.store.now).present.Is t) (sym (settled_stays c.args.empty text flag other)) has

use Rattle.std.proofs.Common.{◌≡◌, ◌+◌, ◌++◌, ◌∷◌, [], map, take, sym, ap, ◌∙◌}
use Rattle.std.proofs.lemmas.List.{map_push, take_more}
use Rattle.vs_ufile.specs.Writing.{entry_written}
use Rattle.vs_ufile.specs.Values.{entry_of}
use Rattle.vs_ufile.proofs.Writes.{puts_more}
use Rattle.vs_ufile.proofs.writing.put_entries.Goals as goal

pub entries-preserved : goal.entries-preserved
entries-preserved c =
    let entry = c.entry-item.result in
    let entries = c.args.entries.now in
    let i = c.entries.entry-index in
    let e : take (i + 1) entries ≡ take i entries ++ entry ∷ [] = take_more entries i entry c.entries-test.true ∙ ap (λ x. take i entries ++ x ∷ []) (sym c.entry-item.is) in
    let m : map entry_of (take (i + 1) entries) ≡ map entry_of (take i entries) ++ entry_of entry ∷ [] = ap (map entry_of) e ∙ map_push entry_of (take i entries) entry in
    rw m (puts_more entry_written (map entry_of (take i entries)) (entry_of entry) c.args.out.now.items c.entries.out.items c.put_entry.new.out.items c.entries.invariant c.in_ok-put_entry.ensures)

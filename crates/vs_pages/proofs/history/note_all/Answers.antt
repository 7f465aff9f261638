use Rattle.std.proofs.Common.{ℕ, List, [], ◌∷◌, ◌++◌, take, ap, sym, ◌∙◌}
use Rattle.std.proofs.lemmas.List.{take_more}
use Rattle.vs_pages.specs.Table.{last_in}
use Rattle.vs_pages.specs.declared.change.Change.{Change}
use Rattle.vs_pages.proofs.Notes.{noted_more}
use Rattle.vs_pages.proofs.history.note_all.Goals as goal

pub loop-i-preserved : goal.loop-i-preserved
loop-i-preserved c =
    let i : ℕ = c.loop-i.i in
    let log : List Change = c.args.log.now in
    record {
      len = c.note.ensures.len ∙ c.loop-i.invariant.len;
      noted = noted_more log i c.args.commit _ (last_in c.args.last.now.items) (last_in c.loop-i.last.items) (last_in c.note.new.last.items) (take i log) _ (take_more log i _ c.loop-i-test.true ∙ ap (λ (d : Change). take i log ++ d ∷ []) (sym c.index-log-i.is)) c.loop-i.invariant.noted c.note.ensures.noted;
    }

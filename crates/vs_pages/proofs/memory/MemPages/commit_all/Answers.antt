use Rattle.std.proofs.Common.{List, ◌≤◌, length, ap, sym, subst, ◌∙◌, arith}
use Rattle.vs_pages.specs.Table.{last_in, noted}
use Rattle.std.specs.List.{All}
use Rattle.vs_pages.specs.History.{end_of, numbers_in}
use Rattle.vs_pages.specs.Memory.{kept_of}
use Rattle.vs_pages.specs.declared.change.Change.{Change}
use Rattle.vs_pages.proofs.Notes.{ends_within, noted_reversed}
use Rattle.vs_pages.specs.State.{one_more}
use Rattle.vs_pages.specs.Memory.{changes_of, commits_of}
use Rattle.vs_pages.proofs.Commits.{made_as, made_more}
use Rattle.vs_pages.proofs.Pasts.{commits_eq}
use Rattle.vs_pages.proofs.memory.MemPages.commit_all.Goals as goal

pub note_all-requires : goal.note_all-requires
note_all-requires c =
    let pages = c.args.self.now in
    subst (λ (cs : List Change). All (λ change. end_of change ≤ length pages.last.items) cs) (sym c.deref.ensures.value)
    (ends_within (kept_of pages) (length pages.table.places.items) (length pages.last.items) pages.log.items (omega (arith, pages.counted, pages.last.ok)) pages.undo)

pub returns-clause-commits : goal.returns-clause-commits
returns-clause-commits c =
    let pages = c.args.self.now in
    commits_eq _ _ _ _ c.saturating_add-self.ensures (c.note_all.ensures.noted ∙ ap (λ (cs : List Change). noted (numbers_in cs) pages.commits (last_in pages.last.items)) c.deref.ensures.value ∙ noted_reversed pages.log.items pages.commits (last_in pages.last.items))

pub invariant_of-self-clause-made : goal.invariant_of-self-clause-made
invariant_of-self-clause-made c =
    let pages = c.args.self.now in
    made_as (one_more (numbers_in (changes_of pages)) (commits_of pages)) (record { count = c.saturating_add-self.result; last = last_in c.note_all.new.last.items })
    (commits_eq _ _ _ _ c.saturating_add-self.ensures (c.note_all.ensures.noted ∙ ap (λ (cs : List Change). noted (numbers_in cs) pages.commits (last_in pages.last.items)) c.deref.ensures.value ∙ noted_reversed pages.log.items pages.commits (last_in pages.last.items)))
    (made_more (numbers_in (changes_of pages)) (commits_of pages) pages.made)

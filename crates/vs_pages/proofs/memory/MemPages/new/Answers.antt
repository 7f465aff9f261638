use Rattle.std.proofs.Common.{◌≡◌, ℕ, List, [], Option, IsTrue, ap, sym, ◌∙◌}
use Rattle.std.proofs.lemmas.Bool.{false≢true}
use Rattle.vs_pages.specs.Cells.{Cells, is_away, seen}
use Rattle.vs_pages.specs.Maps.{no_pages, put_pages, zeros}
use Rattle.vs_pages.specs.Table.{cells_of}
use Rattle.vs_pages.specs.History.{first_of}
use Rattle.vs_pages.specs.Memory.{kept_of}
use Rattle.vs_pages.specs.declared.page.Page.{Page}
use Rattle.vs_pages.specs.declared.change.Change.{Change}
use Rattle.vs_pages.proofs.Ends.{end_none}
use Rattle.vs_pages.proofs.Places.{put_places-away, seen_zeros}
use Rattle.vs_pages.proofs.memory.MemPages.new.Goals as goal

pub invariant_of-pages-clause-ends : goal.invariant_of-pages-clause-ends
invariant_of-pages-clause-ends c = end_none c.new.result.places.items c.new.ensures

pub invariant_of-pages-2-clause-ends : goal.invariant_of-pages-2-clause-ends
invariant_of-pages-2-clause-ends c = end_none c.new.result.places.items c.new.ensures

pub returns-clause-present : goal.returns-clause-present
returns-clause-present c =
    ap (λ (m : Cells). seen no_pages m) c.commit_all.ensures.kept ∙ ap (λ (m : Cells). seen no_pages m) c.in_ok-change.ensures.ok.kept
    ∙ seen_zeros no_pages (cells_of c.new.result.places.items) 0 c.in_ok-first.first.items 3 c.in_ok-first.ensures.len c.in_ok-first.ensures.all
    ∙ ap (λ (ps : List (Option Page)). put_pages (seen no_pages (cells_of ps)) 0 3 (zeros 3)) c.new.ensures

pub returns-clause-committed : goal.returns-clause-committed
returns-clause-committed c =
    ap (λ (cs : List Change). seen no_pages (first_of (kept_of c.commit_all.new.self) cs)) c.commit_all.ensures.changes
    ∙ ap (λ (m : Cells). seen no_pages m) c.commit_all.ensures.kept ∙ ap (λ (m : Cells). seen no_pages m) c.in_ok-change.ensures.ok.kept
    ∙ seen_zeros no_pages (cells_of c.new.result.places.items) 0 c.in_ok-first.first.items 3 c.in_ok-first.ensures.len c.in_ok-first.ensures.all
    ∙ ap (λ (ps : List (Option Page)). put_pages (seen no_pages (cells_of ps)) 0 3 (zeros 3)) c.new.ensures

-- an empty table has no page that is away
none_away : (places : List (Option Page)) (k : ℕ) → places ≡ [] → IsTrue (is_away (cells_of places k)) → ⊥
none_away places k none gone = false≢true (sym (ap (λ (ps : List (Option Page)). is_away (cells_of ps k)) none) ∙ gone)

pub returns-clause-here : goal.returns-clause-here
returns-clause-here c = λ k gone.
    let empty : IsTrue (is_away (cells_of c.new.result.places.items k)) =
    put_places-away (cells_of c.new.result.places.items) 0 c.in_ok-first.first.items k c.in_ok-first.ensures.here
    (ap (λ (m : Cells). is_away (m k)) (sym c.in_ok-change.ensures.ok.kept) ∙ ap (λ (m : Cells). is_away (m k)) (sym c.commit_all.ensures.kept)
    ∙ ap (λ (cs : List Change). is_away (first_of (kept_of c.commit_all.new.self) cs k)) (sym c.commit_all.ensures.changes) ∙ gone) in
    absurd (none_away c.new.result.places.items k c.new.ensures empty)

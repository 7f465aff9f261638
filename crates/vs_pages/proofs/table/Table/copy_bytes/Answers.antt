use Rattle.std.proofs.Common.{◌≡◌, ℕ, ◌+◌, ◌-◌, ◌≤◌, ◌∙◌, List, ◌++◌, Option, Some, length, take, drop, ap, sym, append_assoc, arith, rules}
use Rattle.std.specs.declared.vec.Vec.{Vec}
use Rattle.std.specs.declared.alloc.Global.{Global}
use Rattle.std.proofs.lemmas.List.{take-append-drop}
use Rattle.std.proofs.lemmas.Result.{IfOk-weaker}
use Rattle.std.proofs.lemmas.Grind.{common_steps}
use Rattle.vs_bytes.specs.Fields.{with_field}
use Rattle.vs_pages.specs.Cells.{Kept, Cell, rewritten}
use Rattle.vs_pages.specs.Table.{cell_of, cells_of}
use Rattle.vs_pages.specs.declared.page.Page.{Page}
use Rattle.vs_pages.specs.declared.page.Page.TheVariants.{Written}
use Rattle.vs_pages.proofs.MapsLemmas.{drop-drop}
use Rattle.vs_pages.proofs.table.Table.copy_bytes.Goals as goal

-- bytes of a page over themselves
itself : (page : List ℕ) (from count : ℕ) → from + count ≤ length page → with_field page from (take count (drop from page)) ≡ page
itself page from count within =
    let size : length (take count (drop from page)) ≡ count = grind (arith, common_steps) in
    append_assoc (take from page) (take count (drop from page)) (drop (from + length (take count (drop from page))) page)
    ∙ ap (λ n. take from page ++ (take count (drop from page) ++ drop (from + n) page)) size
    ∙ ap (λ (rest : List ℕ). take from page ++ (take count (drop from page) ++ rest)) (sym (drop-drop count from page))
    ∙ ap (λ (rest : List ℕ). take from page ++ rest) (take-append-drop count (drop from page))
    ∙ take-append-drop from page

pub returns-clause-bytes : goal.returns-clause-bytes
returns-clause-bytes c =
    let page : List ℕ = c.in-Some-Written.buffer.bytes.items in
    let from : ℕ = c.args.from in
    let count : ℕ = c.args.count in
    let inner : c.in-Some-Written.field-0.now ≡ Written c.in-Some-Written.buffer = search rules in
    let kept : Some (Kept page) ≡ cells_of c.args.self.now.places.items c.args.at = ap (λ (p : Page). cell_of (Some p)) (sym inner) ∙ c.in-Some-Written.ensures in
    let size : from + count - from ≡ count = omega arith in
    IfOk-weaker c.from_slice.result _ _ (λ (bytes : Vec ℕ Global) is.
    let part : bytes.items ≡ take count (drop from page) = is ∙ ap (λ n. take n (drop from c.deref.result.now)) size ∙ ap (λ (b : List ℕ). take count (drop from b)) c.deref.ensures.value in
    sym kept ∙ ap (λ (b : List ℕ). Some (Kept b)) (sym (itself page from count (omega (arith, c.requires.within, c.in-Some-Written.buffer.size))))
    ∙ ap (λ (b : List ℕ). Some (Kept (with_field page from b))) (sym part) ∙ ap (λ (v : Option Cell). rewritten v from bytes.items) kept) c.from_slice.ensures.items

use Rattle.std.proofs.Common.{◌≡◌, ◌+◌, ◌-◌, ◌*◌, ◌<◌, ℕ, List, [], ◌∷◌, ◌++◌, Option, None, Some, length, length-append, take, drop, get_or, false, refl, ap, subst, ◌∙◌, sym, inl, inr, arith}
use Rattle.std.proofs.Math.ListN.{get_or-append}
use Rattle.std.proofs.Math.Seq.{get_or-append_seam}
use Rattle.std.proofs.lemmas.Bool.{cases_eq}
use Rattle.std.specs.List.{All}
use Rattle.std.proofs.lemmas.List.Elements.{All-push}
use Rattle.vs_pages.specs.Cells.{Kept, is_away}
use Rattle.vs_pages.specs.Table.{cell_of}
use Rattle.vs_pages.specs.declared.page.Page.{Page}
use Rattle.vs_pages.specs.declared.page.Page.TheVariants.{Written}
use Rattle.vs_pages.proofs.exchange.cut_pages.Goals as goal

next_page : (old new : List (Option Page)) (page : Option Page) (bytes : List ℕ) (i : ℕ) → new ≡ old ++ page ∷ [] → length old ≡ i → cell_of page ≡ Some (Kept (take 4096 (drop (4096 * i) bytes)))
    → ((j : ℕ) → j < i → cell_of (get_or old j None) ≡ Some (Kept (take 4096 (drop (4096 * j) bytes)))) → (j : ℕ) → j < i + 1 → cell_of (get_or new j None) ≡ Some (Kept (take 4096 (drop (4096 * j) bytes)))
next_page old new page bytes i is len here each j lt = elim (cases_eq j i) [
  | inl e ↦
      let at : j ≡ length old = omega (arith, e, len) in
      ap (λ (xs : List (Option Page)). cell_of (get_or xs j None)) is ∙ ap (λ k. cell_of (get_or (old ++ page ∷ []) k None)) at
      ∙ ap cell_of (get_or-append_seam old page [] None) ∙ here ∙ ap (λ k. Some (Kept (take 4096 (drop (4096 * k) bytes)))) (sym e)
  | inr ne ↦ ap (λ (xs : List (Option Page)). cell_of (get_or xs j None)) is ∙ ap cell_of (get_or-append old (page ∷ []) None j (omega (arith, lt, ne, len))) ∙ each j (omega (arith, lt, ne))
]

pub loop-i-preserved : goal.loop-i-preserved
loop-i-preserved c =
    let inv = c.loop-i.invariant in
    let i = c.loop-i.i in
    let old = c.loop-i.places.items in
    let page : Option Page = Some (Written c.in_ok-buffer.buffer) in
    let from : i * 4096 ≡ 4096 * i = omega arith in
    let to : i * 4096 + 4096 - i * 4096 ≡ 4096 = omega arith in
    let bytes : List ℕ = c.args.bytes.now in
    let here : cell_of page ≡ Some (Kept (take 4096 (drop (4096 * i) bytes))) = ap (λ (b : List ℕ). Some (Kept b)) (c.in_ok-buffer.ensures ∙ ap (λ n. take n (drop (i * 4096) bytes)) to ∙ ap (λ n. take 4096 (drop n bytes)) from) in
    record {
      len = omega (arith, inv.len, ap (λ (xs : List (Option Page)). length xs) c.in_ok-push.ensures.items, length-append old (page ∷ []));
      here = subst (λ (ps : List (Option Page)). All (λ place. is_away (cell_of place) ≡ false) ps) (sym c.in_ok-push.ensures.items) (All-push (λ place. is_away (cell_of place) ≡ false) old page inv.here refl);
      pages = next_page old c.push.new.self.items page bytes i c.in_ok-push.ensures.items inv.len here inv.pages;
    }

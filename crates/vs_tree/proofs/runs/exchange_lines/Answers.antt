use Rattle.std.proofs.Common.{◌≡◌, true, false, ℕ, ◌+◌, ◌-◌, ◌*◌, inl, inr, List, map, sym, ap, subst, ◌∙◌, arith}
use Rattle.std.proofs.lemmas.Result.{IfOk-weaker, on_ok_weaker}
use Rattle.vs_text.specs.Text.{bytes_of, stored_line}
use Rattle.vs_tree_shape.specs.Changes.{splice}
use Rattle.vs_pages.specs.Maps.{Map}
use Rattle.vs_tree_shape.specs.Filled.{HasFilledRoot, HasFilledRootBut, steps_back}
use Rattle.vs_tree_shape.specs.Works.{Works}
use Rattle.vs_tree.specs.declared.walk.Root.{Root}
use Rattle.vs_tree_shape.proofs.Working.{works_beside, works_from, works_then}
use Rattle.vs_tree_blocks.specs.Blocks.{tree_format}
use Rattle.std.proofs.lemmas.Bool.{cases_eq}
use Rattle.vs_tree.specs.declared.runs.Taken.{Taken}
use Rattle.vs_tree.specs.Packed.{PacksTree}
use Rattle.vs_tree.specs.Runs.{ExchangesLine, HasTree, without_lines, run_of}
use Rattle.vs_tree.proofs.Rounds.{out_then_in}
use Rattle.vs_pages.proofs.Steps.{Continues-trans}
use Rattle.vs_tree.proofs.runs.exchange_lines.Goals as goal

pub put_lines-requires-clause-there : goal.put_lines-requires-clause-there
put_lines-requires-clause-there g c = λ told. let r = c.requires.there told in (without_lines r.0 c.args.top c.args.old, c.in_ok-taken.ensures.taken told r.0 r.1)

pub take_lines-requires-clause-there : goal.take_lines-requires-clause-there
take_lines-requires-clause-there g c = λ told. c.requires.there told

pub returns-clause-exchanged : goal.returns-clause-exchanged
returns-clause-exchanged g c = λ told lines has.
    subst (λ (xs : List (List ℕ)). HasTree (g.P.Pages.shows c.put_lines.new.pages).present c.in_ok-now.now xs) (out_then_in lines c.args.new.now c.args.top c.args.old (omega (arith, has.count, c.requires.within)))
    (c.in_ok-now.ensures.put told (without_lines lines c.args.top c.args.old) (c.in_ok-taken.ensures.taken told lines has))

pub returns-clause-bytes : goal.returns-clause-bytes
returns-clause-bytes g c = λ told lines has few. c.in_ok-taken.ensures.bytes told lines has (omega (arith, few))

pub returns-clause-works : goal.returns-clause-works
returns-clause-works g c = λ told lines has small.
    works_then _ _ _ (c.args.root.height + 1) (2 * c.in_ok-taken.taken.root.height + 4) (3 * c.args.root.height + 6) (omega (arith, c.in_ok-taken.ensures.level))
    (works_beside _ _ (c.args.root.height + 1) (c.in_ok-taken.ensures.works told lines has (small.few_out, small.brief_out)))
    (c.in_ok-now.ensures.works told (without_lines lines c.args.top c.args.old) (c.in_ok-taken.ensures.taken told lines has) (small.few_in, small.brief_in))

pub returns-then-all_go-clause-exchanged : goal.returns-then-all_go-clause-exchanged
returns-then-all_go-clause-exchanged g c = IfOk-weaker c.replace_all.result _ _
    (λ (after : Taken) done told lines has.
    let top : 0 ≡ c.args.top = omega (arith, c.requires.within, (c.all_go.ensures.0 c.if-all_go.true)) in
    let old : c.args.root.lines ≡ c.args.old = sym (c.all_go.ensures.0 c.if-all_go.true) in
    let xs : List (List ℕ) = map stored_line c.args.new.now in
    subst (λ (ys : List (List ℕ)). HasTree (g.P.Pages.shows c.replace_all.new.pages).present after.root ys) (ap (λ (k : ℕ). splice lines k c.args.root.lines xs) top ∙ ap (λ (k : ℕ). splice lines c.args.top k xs) old) (done told lines has))
    c.replace_all.ensures.exchanged

pub returns-then-all_go-clause-bytes : goal.returns-then-all_go-clause-bytes
returns-then-all_go-clause-bytes g c = IfOk-weaker c.replace_all.result _ _
    (λ (after : Taken) bytes told lines has few.
    let top : 0 ≡ c.args.top = omega (arith, c.requires.within, (c.all_go.ensures.0 c.if-all_go.true)) in
    let old : c.args.root.lines ≡ c.args.old = sym (c.all_go.ensures.0 c.if-all_go.true) in
    bytes told lines has few ∙ ap (λ (k : ℕ). bytes_of (run_of lines k c.args.root.lines)) top ∙ ap (λ (k : ℕ). bytes_of (run_of lines c.args.top k)) old)
    c.replace_all.ensures.bytes

pub returns-then-all_go-clause-works : goal.returns-then-all_go-clause-works
returns-then-all_go-clause-works g c = on_ok_weaker c.replace_all.result
    (λ few told lines has small.
    let top : c.args.top ≡ 0 = omega (arith, c.requires.within, (c.all_go.ensures.0 c.if-all_go.true)) in
    few told lines has (subst (λ (k : ℕ). ExchangesLine lines k c.args.root.lines c.args.new.now) top (subst (λ (k : ℕ). ExchangesLine lines c.args.top k c.args.new.now) (c.all_go.ensures.0 c.if-all_go.true) small)))
    c.replace_all.ensures.works

pub returns-in_err-now-clause-kept : goal.returns-in_err-now-clause-kept
returns-in_err-now-clause-kept g c = Continues-trans g.met.P.Pages.stays_on c.take_lines.ensures.kept c.put_lines.ensures.kept

pub returns-clause-kept : goal.returns-clause-kept
returns-clause-kept g c = Continues-trans g.met.P.Pages.stays_on c.take_lines.ensures.kept c.put_lines.ensures.kept

pub returns-then-all_go-clause-filled : goal.returns-then-all_go-clause-filled
returns-then-all_go-clause-filled g c = IfOk-weaker c.replace_all.result _ _
    (λ (after : Taken) fills mild.
    let all : c.args.old ≡ c.args.root.lines = c.all_go.ensures.0 c.if-all_go.true in
    fills (elim mild [ inl none ↦ absurd (omega (arith, none, all, c.requires.some)) | inr few ↦ omega (arith, few, c.requires.some) ]))
    c.replace_all.ensures.filled

pub returns-clause-filled : goal.returns-clause-filled
returns-clause-filled g c = λ mild told f.
    let n : Map = (g.P.Pages.shows c.take_lines.new.pages).present in
    let none : c.args.old ≡ 0 = elim mild [
      | inl nothing ↦ nothing
      | inr few ↦ elim (cases_eq c.args.old c.args.root.lines) [
        | inl all ↦
            let go : c.all_go.result ≡ true = c.all_go.ensures.1 all in
            let stay : c.all_go.result ≡ false = c.if-all_go.false in
            absurd (cc)
        | inr other ↦ omega (arith, few, other, c.requires.within)
      ]
    ] in
    let same = c.in_ok-taken.ensures.none none in
    c.in_ok-now.ensures.filled 32 (omega arith) (omega arith) told
    (subst (λ (h : ℕ). HasFilledRoot tree_format n 32 h) (sym c.in_ok-taken.ensures.level) (subst (λ (k : Map). HasFilledRoot tree_format k 32 c.args.root.height) (sym (same.1 told).0) f))

pub returns-then-all_go-clause-thins : goal.returns-then-all_go-clause-thins
returns-then-all_go-clause-thins g c = IfOk-weaker c.replace_all.result _ _
    (λ (after : Taken) fills one none. absurd (omega (arith, none, c.all_go.ensures.0 c.if-all_go.true, c.requires.left))) c.replace_all.ensures.filled

pub returns-then-all_go-clause-level : goal.returns-then-all_go-clause-level
returns-then-all_go-clause-level g c = IfOk-weaker c.replace_all.result _ _
    (λ (after : Taken) fills none. absurd (omega (arith, none, c.all_go.ensures.0 c.if-all_go.true, c.requires.left))) c.replace_all.ensures.filled

pub returns-then-all_go-clause-out : goal.returns-then-all_go-clause-out
returns-then-all_go-clause-out g c = on_ok_weaker c.replace_all.result
    (λ few none. absurd (omega (arith, none, c.all_go.ensures.0 c.if-all_go.true, c.requires.left))) c.replace_all.ensures.works

pub returns-then-all_go-clause-come : goal.returns-then-all_go-clause-come
returns-then-all_go-clause-come g c = on_ok_weaker c.replace_all.result
    (λ few none. absurd (omega (arith, none, c.all_go.ensures.0 c.if-all_go.true, c.requires.some))) c.replace_all.ensures.works

pub returns-clause-thins : goal.returns-clause-thins
returns-clause-thins g c = λ one none told f two entry rest walk.
    let same = c.in_ok-now.ensures.none none in
    let back : ℕ = c.args.top - steps_back entry rest in
    subst (λ (r : Root). HasFilledRootBut tree_format (g.P.Pages.shows c.put_lines.new.pages).present 32 r.height back) (sym same.0)
    (subst (λ (k : Map). HasFilledRootBut tree_format k 32 c.in_ok-taken.taken.root.height back) (sym (same.1 told).0) (c.in_ok-taken.ensures.thins one told f two entry rest walk))

pub returns-clause-level : goal.returns-clause-level
returns-clause-level g c = λ none. ap (λ (r : Root). r.height) (c.in_ok-now.ensures.none none).0 ∙ c.in_ok-taken.ensures.level

pub returns-clause-out : goal.returns-clause-out
returns-clause-out g c = λ none told lines has small.
    subst (λ (w : List ℕ). Works (g.P.Pages.shows c.args.pages.now).worked w (c.args.root.height + 1)) (sym ((c.in_ok-now.ensures.none none).1 told).1)
    (c.in_ok-taken.ensures.works told lines has (small.few_out, small.brief_out))

pub returns-clause-come : goal.returns-clause-come
returns-clause-come g c = λ none told lines has small.
    works_from _ (g.P.Pages.shows c.take_lines.new.pages).worked _ (2 * c.in_ok-taken.taken.root.height + 4) (2 * c.args.root.height + 4) (omega (arith, c.in_ok-taken.ensures.level)) ((c.in_ok-taken.ensures.none none).1 told).1
    (c.in_ok-now.ensures.works told (without_lines lines c.args.top c.args.old) (c.in_ok-taken.ensures.taken told lines has) (small.few_in, small.brief_in))

pub returns-then-all_go-clause-packed : goal.returns-then-all_go-clause-packed
returns-then-all_go-clause-packed g c = IfOk-weaker c.replace_all.result _ _
    (λ (after : Taken) packed.
    let top : 0 ≡ c.args.top = omega (arith, c.requires.within, c.all_go.ensures.0 c.if-all_go.true) in
    subst (λ (k : ℕ). PacksTree g.P.Pages c.replace_all.new.pages after.root.height k (map stored_line c.args.new.now)) top packed)
    c.replace_all.ensures.packed

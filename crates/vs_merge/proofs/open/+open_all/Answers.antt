use Rattle.std.proofs.Common.{ℕ, ◌-◌, List, rules, sym, subst, arith}
use Rattle.std.proofs.lemmas.Result.{IfOk-weaker}
use Rattle.std.specs.Prelude.{Vec}
use Rattle.std.specs.List.{AllByRecursion}
use Rattle.std.specs.declared.alloc.Global.{Global}
use Rattle.vs_pages.specs.Maps.{Map}
use Rattle.vs_pages.proofs.Steps.{Continues-trans}
use Rattle.vs_tree_shape.specs.declared.entries.Entry.{Entry}
use Rattle.vs_tree_blocks.specs.Blocks.{FitsFields}
use Rattle.vs_merge.specs.Forests.{Exchanges, HasForest}
use Rattle.vs_merge.proofs.Forests.{forest_deep, forest_down, opens_down}
use Rattle.vs_merge.proofs.open.+open_all.Goals as goal

pub open_level-requires-clause-there : goal.open_level-requires-clause-there
open_level-requires-clause-there g t c = λ told. forest_deep _ c.args.depth c.args.entries.now (λ z. omega (arith, z, c.if-depth-eq0.false)) (c.requires.there told)

pub returns-then-depth-eq0-clause-opens : goal.returns-then-depth-eq0-clause-opens
returns-then-depth-eq0-clause-opens g t c = IfOk-weaker c.drop_empty.result _ _ (λ (leaves : Vec Entry Global) opens told.
    let m : Map = (g.P.Pages.shows c.args.pages.now).present in
    let n : Map = (g.P.Pages.shows c.drop_empty.new.pages).present in
    let X : ℕ → Type 0 = λ k. (f : HasForest m k c.args.entries.now) → Exchanges m n k 0 f.trees leaves.items in
    subst X (sym c.if-depth-eq0.true) (opens told)) c.drop_empty.ensures.opens

pub open_all-requires : goal.open_all-requires
open_all-requires g t c = λ κs within.
    let m : Map = (g.P.Pages.shows c.args.pages.now).present in
    let n : Map = (g.P.Pages.shows c.open_level.new.pages).present in
    let value = c.deref.ensures.value in (
      omega (arith, c.if-depth-eq0.false),
      (
        search rules,
        (
          c.open_level.ensures.kept.valid,
          (
            λ told. subst (λ (xs : List Entry). HasForest n (c.args.depth - 1) xs) (sym value)
                (forest_down m n c.args.depth c.args.entries.now c.in_ok-below.below.items (λ z. omega (arith, z, c.if-depth-eq0.false)) (c.in_ok-below.ensures.opens told) (c.requires.there told)),
            subst (λ (xs : List Entry). AllByRecursion FitsFields xs) (sym value) c.in_ok-below.ensures.fields,
          ),
        ),
      ),
    )

pub returns-clause-opens : goal.returns-clause-opens
returns-clause-opens g t c = IfOk-weaker c.open_all.result _ _ (λ (leaves : Vec Entry Global) opens told f.
    let m : Map = (g.P.Pages.shows c.args.pages.now).present in
    let n1 : Map = (g.P.Pages.shows c.open_level.new.pages).present in
    let n2 : Map = (g.P.Pages.shows c.open_all.new.pages).present in
    let X : List Entry → Type 0 = λ xs. (h : HasForest n1 (c.args.depth - 1) xs) → Exchanges n1 n2 (c.args.depth - 1) 0 h.trees leaves.items in
    opens_down m n1 n2 c.args.depth c.args.entries.now c.in_ok-below.below.items leaves.items (λ z. omega (arith, z, c.if-depth-eq0.false)) (c.in_ok-below.ensures.opens told) (subst X c.deref.ensures.value (opens told)) f)
    c.open_all.ensures.opens

pub returns-clause-kept : goal.returns-clause-kept
returns-clause-kept g t c = Continues-trans g.met.P.Pages.stays_on c.open_level.ensures.kept c.open_all.ensures.kept

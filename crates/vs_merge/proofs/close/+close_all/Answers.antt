use Rattle.std.proofs.Common.{suc, List, rules, length, refl, ap, subst, arith}
use Rattle.vs_pages.specs.Maps.{Map}
use Rattle.vs_pages.proofs.Steps.{Continues-trans}
use Rattle.vs_tree_shape.specs.declared.entries.Entry.{Entry}
use Rattle.vs_tree_shape.specs.Places.{lines_below}
use Rattle.vs_merge.specs.Forests.{Exchanges, HasForest}
use Rattle.vs_merge.proofs.Forests.{closes_none, closes_up, forest_after}
use Rattle.vs_merge.proofs.close.+close_all.Goals as goal

pub returns-then-len-le-MOST_ENTRIES-clause-closes : goal.returns-then-len-le-MOST_ENTRIES-clause-closes
returns-then-len-le-MOST_ENTRIES-clause-closes g t c = λ told d f. closes_none _ _ d _ f refl

pub close_all-requires : goal.close_all-requires
close_all-requires g t c = λ κs within.
    let m : Map = (g.P.Pages.shows c.args.pages.now).present in
    let n : Map = (g.P.Pages.shows c.close_level.new.pages).present in
    let above : List Entry = c.in_ok-above.above.items in (
      omega (arith, c.in_ok-above.ensures.fewer, ap (λ (xs : List Entry). length xs) c.deref.ensures.value),
      (
        search rules,
        (
          c.close_level.ensures.kept.valid,
          (
            λ told.
                let r = c.requires.there told in
                let X : List Entry → Type 0 = λ xs. (f : HasForest m r.0 xs) → Exchanges m n r.0 (suc r.0) f.trees above in
                (suc r.0, forest_after m n r.0 (suc r.0) c.args.entries.items above r.1 (subst X c.deref.ensures.value (c.in_ok-above.ensures.closes told r.0) r.1)),
            (c.in_ok-above.ensures.fields, omega (arith, c.in_ok-above.ensures.lines, ap lines_below c.deref.ensures.value, c.requires.small)),
          ),
        ),
      ),
    )

pub returns-in_err-entries-clause-kept : goal.returns-in_err-entries-clause-kept
returns-in_err-entries-clause-kept g t c = Continues-trans g.met.P.Pages.stays_on c.close_level.ensures.kept c.close_all.ensures.kept

pub returns-clause-closes : goal.returns-clause-closes
returns-clause-closes g t c = λ told d f.
    let m : Map = (g.P.Pages.shows c.args.pages.now).present in
    let n : Map = (g.P.Pages.shows c.close_level.new.pages).present in
    let above : List Entry = c.in_ok-above.above.items in
    let X : List Entry → Type 0 = λ xs. (f : HasForest m d xs) → Exchanges m n d (suc d) f.trees above in
    closes_up m n _ d _ c.args.entries.items above _ f (subst X c.deref.ensures.value (c.in_ok-above.ensures.closes told d) f) (λ e h. c.in_ok-entries.ensures.closes told e h)

pub returns-clause-two : goal.returns-clause-two
returns-clause-two g t c = λ more. c.in_ok-entries.ensures.two c.in_ok-above.ensures.two

pub returns-clause-flat : goal.returns-clause-flat
returns-clause-flat g t c = λ few. absurd (omega (arith, few, c.if-len-le-MOST_ENTRIES.false, c.len.ensures))

pub returns-clause-kept : goal.returns-clause-kept
returns-clause-kept g t c = Continues-trans g.met.P.Pages.stays_on c.close_level.ensures.kept c.close_all.ensures.kept

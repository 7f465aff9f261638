use Rattle.std.proofs.Common.{◌+◌, List, get_or, refl, sym, ap, subst, ◌∙◌, arith}
use Rattle.std.proofs.lemmas.Result.{IfOk-weaker, on_ok_weaker}
use Rattle.std.specs.declared.alloc.Global.{Global}
use Rattle.std.specs.Prelude.{Vec}
use Rattle.vs_pages.specs.Maps.{Map}
use Rattle.vs_tree_shape.specs.declared.entries.Entry.{Entry}
use Rattle.vs_merge.specs.declared.pair.Pair.{Pair}
use Rattle.vs_merge.specs.Evens.{HasPair, IsEvened, no_entry}
use Rattle.vs_merge.proofs.Levels.{has_pair, leads_two, two_lines}
use Rattle.vs_merge.proofs.Pairs.{pair_apart}
use Rattle.vs_merge.proofs.Working.{only_after}
use Rattle.vs_tree_shape.specs.Places.{lines_below}
use Rattle.vs_merge.proofs.level.even_at.Goals as goal

pub load_two-requires-clause-first : goal.load_two-requires-clause-first
load_two-requires-clause-first g c = λ told. let r = c.requires.there told in (leads_two _ c.args.top r.0 c.args.entries.now c.args.left _ _ no_entry r.1 c.requires.index refl refl).0

pub load_two-requires-clause-second : goal.load_two-requires-clause-second
load_two-requires-clause-second g c = λ told. let r = c.requires.there told in (leads_two _ c.args.top r.0 c.args.entries.now c.args.left _ _ no_entry r.1 c.requires.index refl refl).1

pub damaged-requires-clause-silent : goal.damaged-requires-clause-silent
damaged-requires-clause-silent g c = λ told.
    let r = c.requires.there told in
    let p = has_pair _ c.args.top r.0 c.args.entries.now c.args.left _ _ no_entry c.in_ok-all.all.items r.1 c.requires.index refl refl (c.in_ok-all.ensures.all told) in
    pair_apart _ c.args.top r.0 r.1.tree.1 c.args.entries.now _ c.in_ok-all.all.items p c.if-one-two.true

pub even_pair-requires-clause-there : goal.even_pair-requires-clause-there
even_pair-requires-clause-there g c = λ told.
    let r = c.requires.there told in
    let es : List Entry = c.args.entries.now in
    let pair : Pair = record { left = c.args.left; one = (get_or es c.args.left no_entry).block; two = (get_or es (c.args.left + 1) no_entry).block } in
    let p = has_pair _ c.args.top r.0 es c.args.left _ _ no_entry c.in_ok-all.all.items r.1 c.requires.index refl refl (c.in_ok-all.ensures.all told) in (
      r.0,
      r.1.tree.1,
      subst (λ (all : List Entry). HasPair (g.P.Pages.shows c.load_two.new.pages).present c.args.top r.0 r.1.tree.1 es pair all) (sym c.deref.ensures.value)
          (subst (λ (m : Map). HasPair m c.args.top r.0 r.1.tree.1 es pair c.in_ok-all.all.items) (sym (c.load_two.ensures.kept.present told)) p),
    )

pub even_pair-requires-clause-small : goal.even_pair-requires-clause-small
even_pair-requires-clause-small g c = omega (arith, ap lines_below c.deref.ensures.value, c.in_ok-all.ensures.lines, two_lines c.args.entries.now c.args.left _ _ no_entry c.requires.index refl refl, c.requires.small)

pub returns-clause-evens : goal.returns-clause-evens
returns-clause-evens g c = IfOk-weaker c.even_pair.result _ _ (λ (now : Vec Entry Global) evens told e h.
    let es : List Entry = c.args.entries.now in
    let pair : Pair = record { left = c.args.left; one = (get_or es c.args.left no_entry).block; two = (get_or es (c.args.left + 1) no_entry).block } in
    let n : Map = (g.P.Pages.shows c.even_pair.new.pages).present in
    let same = c.load_two.ensures.kept.present told in
    let p = has_pair _ c.args.top e es c.args.left _ _ no_entry c.in_ok-all.all.items h c.requires.index refl refl (c.in_ok-all.ensures.all told) in
    let q = subst (λ (all : List Entry). HasPair (g.P.Pages.shows c.load_two.new.pages).present c.args.top e h.tree.1 es pair all) (sym c.deref.ensures.value)
    (subst (λ (m : Map). HasPair m c.args.top e h.tree.1 es pair c.in_ok-all.all.items) (sym same) p) in
    subst (λ (m : Map). IsEvened m n c.args.top e h.tree.1 c.args.left now.items) same (evens told e h.tree.1 q)) c.even_pair.ensures.evens

pub returns-clause-puts : goal.returns-clause-puts
returns-clause-puts g c = IfOk-weaker c.even_pair.result _ _ (λ (now : Vec Entry Global) puts. record {
  by = puts.0;
  now_is = puts.1;
  either = puts.2;
  lines = puts.3 ∙ ap lines_below c.deref.ensures.value ∙ c.in_ok-all.ensures.lines;
}) c.even_pair.ensures.puts

pub returns-clause-works : goal.returns-clause-works
returns-clause-works g c = on_ok_weaker c.even_pair.result (λ works told. only_after _ _ _ _ (c.load_two.ensures.kept.still.worked told) (works told)) c.even_pair.ensures.works

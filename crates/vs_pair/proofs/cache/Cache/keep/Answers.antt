use Rattle.std.proofs.Common.{◌≡◌, ◌∙◌, ◌+◌, sym, subst}
use Rattle.vs_swap.specs.Files.{page_in}
use Rattle.vs_pair.proofs.cache.Cache.keep.Goals as goal

pub loop-i-preserved : goal.loop-i-preserved
loop-i-preserved c = record {
  kept = λ on map is pages.
      let there = subst (λ v. map (c.args.at + c.loop-i.i) ≡ page_in v.items c.loop-i.i) (sym c.loop-i.invariant.room) (pages c.loop-i.i c.loop-i-test.true) in
      c.keep_page.ensures.kept on map (c.loop-i.invariant.kept on map is pages) there;
  room = c.keep_page.ensures.room ∙ c.loop-i.invariant.room;
}

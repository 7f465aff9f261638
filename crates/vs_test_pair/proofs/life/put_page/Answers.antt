use Rattle.std.proofs.Common.{◌≡◌, ◌≤◌, IsSome, refl, sym, ap, subst, ◌∙◌}
use Rattle.vs_pages.specs.Maps.{Map, pages_at}
use Rattle.vs_pair.specs.declared.files.SwapFiles.{SwapFiles}
use Rattle.vs_pair.specs.declared.pair.SwapPair.{SwapPair}
use Rattle.vs_pair.specs.Lent.{IsReady}
use Rattle.vs_pair.specs.Pair.{shown_in}
use Rattle.vs_test_pair.proofs.Moved.{fitting, ready}
use Rattle.vs_test_pair.proofs.life.put_page.Goals as goal

pub touch-requires-clause-valid : goal.touch-requires-clause-valid
touch-requires-clause-valid g c = λ told. ready _ _ (c.requires.fits told)

pub returns-clause-files : goal.returns-clause-files
returns-clause-files g c =
    let back = c.pair-2-1.given.1 (sym (c.commit.ensures.stays.0 ∙ c.in_ok-touch.ensures.kept.stays.0)) in
    ap (λ (p : SwapPair). p.files) back ∙ c.commit.ensures.stays.2.files ∙ c.in_ok-touch.ensures.kept.stays.2.files

pub returns-clause-fits : goal.returns-clause-fits
returns-clause-fits g c = λ told.
    let back = c.pair-2-1.given.1 (sym (c.commit.ensures.stays.0 ∙ c.in_ok-touch.ensures.kept.stays.0)) in
    let left = c.host-2-1.given.1 (sym (c.commit.ensures.stays.1 ∙ c.in_ok-touch.ensures.kept.stays.1)) in
    let files = ap (λ (p : SwapPair). p.files) back ∙ c.commit.ensures.stays.2.files ∙ c.in_ok-touch.ensures.kept.stays.2.files in
    let is = subst (λ (p : SwapPair). IsReady p (g.F.World.scene c.host-2-1.given.0).folder) (sym back)
    (subst (λ (h : g.row.F.Denot). IsReady c.commit.new.self.pair.now (g.F.World.scene h).folder) (sym left) (c.commit.ensures.valid told)) in
    fitting _ _ (subst (λ (f : SwapFiles). 2 ≤ f.generation) (sym files) c.requires.started) is

pub returns-clause-there : goal.returns-clause-there
returns-clause-there g c = λ told.
    let back = c.pair-2-1.given.1 (sym (c.commit.ensures.stays.0 ∙ c.in_ok-touch.ensures.kept.stays.0)) in
    let left = c.host-2-1.given.1 (sym (c.commit.ensures.stays.1 ∙ c.in_ok-touch.ensures.kept.stays.1)) in
    let here : (shown_in c.pair-2-1.given.0 (g.F.World.scene c.host-2-1.given.0).folder).present ≡ (shown_in c.commit.new.self.pair.now (g.F.World.scene c.commit.new.self.host.now).folder).present =
    λ i. (shown_in (back i) (g.F.World.scene (left i)).folder).present in
    subst (λ (m : Map). IsSome (pages_at m 2 1)) (sym (here ∙ (c.commit.ensures.present told ∙ c.in_ok-touch.ensures.ok told))) refl

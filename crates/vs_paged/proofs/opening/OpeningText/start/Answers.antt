use Rattle.std.proofs.Common.{refl, sym, subst, ap, arith}
use Rattle.vs_pair.specs.declared.head.Head.{Head}
use Rattle.vs_pair.specs.Pair.{sync_fresh}
use Rattle.vs_pair.specs.Steps as steps
use Rattle.vs_pair.proofs.Acts.{acts_as}
use Rattle.vs_host.specs.Names.{names_of_file}
use Rattle.vs_host.specs.declared.names.Names.{Names}
use Rattle.vs_pages.specs.Memory.{committed_of}
use Rattle.vs_pages.specs.State.{PageState}
use Rattle.vs_paged.specs.Fits.{Starting}
use Rattle.vs_paged.proofs.PageLemmas.{is_bounded}
use Rattle.vs_paged.proofs.SyncLemmas.{opened_in, names_opened, opened_starting, opened_fits, lines_opened}
use Rattle.vs_paged.proofs.opening.OpeningText.start.Goals as goal

pub start-requires-clause-here : goal.start-requires-clause-here
start-requires-clause-here g c told = c.self.invariant.1

pub returns-in_err-start-clause-acts : goal.returns-in_err-start-clause-acts
returns-in_err-start-clause-acts g c =
    acts_as _ (steps.Starting c.self.inside.pair.files.names (sync_fresh c.self.inside.pair 1 _) (sync_fresh c.self.inside.pair 2 _)) (Starting (names_of_file c.args.self.name) (opened_in c.args.format c.args.self))
    (g.F.World.scene c.args.host.now) (g.F.World.scene c.start.new.host)
    (λ told d starting.
    opened_starting c.self.inside.pair c.self.inside.tree c.args.self c.self.invariant.0 c.self.view_is c.head_of.result c.args.format
    (ap (λ (h : Head). h.empty) c.head_of.ensures.head) (ap (λ (h : Head). h.format) c.head_of.ensures.head) (g.F.World.scene c.args.host.now).folder d starting)
    c.start.ensures.acts

pub returns-clause-acts : goal.returns-clause-acts
returns-clause-acts g c =
    acts_as _ (steps.Starting c.self.inside.pair.files.names (sync_fresh c.self.inside.pair 1 _) (sync_fresh c.self.inside.pair 2 _)) (Starting (names_of_file c.args.self.name) (opened_in c.args.format c.args.self))
    (g.F.World.scene c.args.host.now) (g.F.World.scene c.start.new.host)
    (λ told d starting.
    opened_starting c.self.inside.pair c.self.inside.tree c.args.self c.self.invariant.0 c.self.view_is c.head_of.result c.args.format
    (ap (λ (h : Head). h.empty) c.head_of.ensures.head) (ap (λ (h : Head). h.format) c.head_of.ensures.head) (g.F.World.scene c.args.host.now).folder d starting)
    c.start.ensures.acts

pub invariant_of-result : goal.invariant_of-result
invariant_of-result g c = record { bounded = is_bounded c.self.inside.pair.pages c.self.inside.tree c.self.invariant.0; started = omega (arith, c.in_ok-start.ensures.generation) }

pub returns-clause-fits : goal.returns-clause-fits
returns-clause-fits g c told =
    opened_fits c.self.inside.pair c.self.inside.tree c.args.self c.self.invariant.0 c.self.view_is c.head_of.result c.args.format
    (ap (λ (h : Head). h.empty) c.head_of.ensures.head) (ap (λ (h : Head). h.format) c.head_of.ensures.head)
    _ _ (c.in_ok-start.ensures.shown told) (c.in_ok-start.ensures.stored told) refl (ap (λ (h : Head). h.dirty) c.head_of.ensures.head) (c.in_ok-start.ensures.ok told)

pub returns-clause-ends : goal.returns-clause-ends
returns-clause-ends g c told =
    subst (λ (shown : PageState). steps.BothEnd (names_of_file c.args.self.name) shown.committed (g.F.World.scene c.start.new.host).folder) (sym (c.in_ok-start.ensures.shown told))
    (subst (λ (names : Names). steps.BothEnd names (committed_of c.self.inside.pair.pages) (g.F.World.scene c.start.new.host).folder)
    (names_opened c.self.inside.pair c.self.inside.tree c.args.self c.self.invariant.0 c.self.view_is) (c.in_ok-start.ensures.ends told))

pub returns-clause-moved : goal.returns-clause-moved
returns-clause-moved g c told =
    subst (λ (names : Names). steps.BothMoved names (g.F.World.scene c.start.new.host).folder)
    (names_opened c.self.inside.pair c.self.inside.tree c.args.self c.self.invariant.0 c.self.view_is) (c.in_ok-start.ensures.moved told)

pub returns-clause-lines : goal.returns-clause-lines
returns-clause-lines g c = lines_opened c.self.inside.pair c.self.inside.tree c.args.self c.self.invariant.0 c.self.view_is

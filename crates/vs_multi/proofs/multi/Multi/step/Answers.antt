use Rattle.vs_multi.proofs.Beside.{clear_swapped, own_swapped, stays_fits}
use Rattle.vs_multi.proofs.Steps.{where_clear, where_fits, where_own, where_stays}
use Rattle.vs_multi.proofs.multi.Multi.step.Goals as goal

pub invariant_of-self : goal.invariant_of-self
invariant_of-self g c = record { apart = where_clear g.H.World.tells c.args.request.now c.step_where.result c.args.self.now.one c.step_where.new.session c.args.self.now.two (g.H.World.scene c.args.host.now) (g.H.World.scene c.step_where.new.host) c.args.self.now.apart c.step_where.ensures.step }

pub invariant_of-self-in-Two : goal.invariant_of-self-in-Two
invariant_of-self-in-Two g c = record {
  apart = clear_swapped c.step_where-in-Two.new.session c.args.self.now.one (where_clear g.H.World.tells c.args.request.now c.step_where-in-Two.result c.args.self.now.two c.step_where-in-Two.new.session c.args.self.now.one (g.H.World.scene c.args.host.now) (g.H.World.scene c.step_where-in-Two.new.host) (clear_swapped c.args.self.now.one c.args.self.now.two c.args.self.now.apart) c.step_where-in-Two.ensures.step);
}

pub returns-in-One-clause-stays : goal.returns-in-One-clause-stays
returns-in-One-clause-stays g c = rw c.in-One.is (where_stays g.H.World.tells c.args.request.now c.step_where.result c.args.self.now.one c.step_where.new.session c.args.self.now.two (g.H.World.scene c.args.host.now) (g.H.World.scene c.step_where.new.host) c.args.self.now.apart c.requires.fits.first c.requires.fits.second c.requires.fits.own c.step_where.ensures.step)

pub returns-in-One-clause-fits : goal.returns-in-One-clause-fits
returns-in-One-clause-fits g c = record {
  first = where_fits g.H.World.tells c.args.request.now c.step_where.result c.args.self.now.one c.step_where.new.session (g.H.World.scene c.args.host.now) (g.H.World.scene c.step_where.new.host) c.requires.fits.first c.step_where.ensures.step;
  second = stays_fits g.H.World.tells c.args.self.now.two (g.H.World.scene c.args.host.now) (g.H.World.scene c.step_where.new.host) (where_stays g.H.World.tells c.args.request.now c.step_where.result c.args.self.now.one c.step_where.new.session c.args.self.now.two (g.H.World.scene c.args.host.now) (g.H.World.scene c.step_where.new.host) c.args.self.now.apart c.requires.fits.first c.requires.fits.second c.requires.fits.own c.step_where.ensures.step) c.requires.fits.second;
  own = where_own g.H.World.tells c.args.request.now c.step_where.result c.args.self.now.one c.step_where.new.session c.args.self.now.two (g.H.World.scene c.args.host.now) (g.H.World.scene c.step_where.new.host) c.args.self.now.apart c.requires.fits.first c.requires.fits.second c.requires.fits.own c.step_where.ensures.step;
}

pub returns-in-Two-clause-stays : goal.returns-in-Two-clause-stays
returns-in-Two-clause-stays g c = rw c.in-Two.is (where_stays g.H.World.tells c.args.request.now c.step_where-in-Two.result c.args.self.now.two c.step_where-in-Two.new.session c.args.self.now.one (g.H.World.scene c.args.host.now) (g.H.World.scene c.step_where-in-Two.new.host) (clear_swapped c.args.self.now.one c.args.self.now.two c.args.self.now.apart) c.requires.fits.second c.requires.fits.first (own_swapped g.H.World.tells c.args.self.now.one c.args.self.now.two (g.H.World.scene c.args.host.now).folder c.requires.fits.own) c.step_where-in-Two.ensures.step)

pub returns-in-Two-clause-fits : goal.returns-in-Two-clause-fits
returns-in-Two-clause-fits g c = record {
  first = stays_fits g.H.World.tells c.args.self.now.one (g.H.World.scene c.args.host.now) (g.H.World.scene c.step_where-in-Two.new.host) (where_stays g.H.World.tells c.args.request.now c.step_where-in-Two.result c.args.self.now.two c.step_where-in-Two.new.session c.args.self.now.one (g.H.World.scene c.args.host.now) (g.H.World.scene c.step_where-in-Two.new.host) (clear_swapped c.args.self.now.one c.args.self.now.two c.args.self.now.apart) c.requires.fits.second c.requires.fits.first (own_swapped g.H.World.tells c.args.self.now.one c.args.self.now.two (g.H.World.scene c.args.host.now).folder c.requires.fits.own) c.step_where-in-Two.ensures.step) c.requires.fits.first;
  second = where_fits g.H.World.tells c.args.request.now c.step_where-in-Two.result c.args.self.now.two c.step_where-in-Two.new.session (g.H.World.scene c.args.host.now) (g.H.World.scene c.step_where-in-Two.new.host) c.requires.fits.second c.step_where-in-Two.ensures.step;
  own = own_swapped g.H.World.tells c.step_where-in-Two.new.session c.args.self.now.one (g.H.World.scene c.step_where-in-Two.new.host).folder (where_own g.H.World.tells c.args.request.now c.step_where-in-Two.result c.args.self.now.two c.step_where-in-Two.new.session c.args.self.now.one (g.H.World.scene c.args.host.now) (g.H.World.scene c.step_where-in-Two.new.host) (clear_swapped c.args.self.now.one c.args.self.now.two c.args.self.now.apart) c.requires.fits.second c.requires.fits.first (own_swapped g.H.World.tells c.args.self.now.one c.args.self.now.two (g.H.World.scene c.args.host.now).folder c.requires.fits.own) c.step_where-in-Two.ensures.step);
}

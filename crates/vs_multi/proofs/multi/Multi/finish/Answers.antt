use Rattle.std.proofs.Common.{None}
use Rattle.std.specs.Prelude.{is_ok}
use Rattle.vs_multi.proofs.Beside.{clear_swapped, own_swapped, stays_fits}
use Rattle.vs_multi.proofs.Steps.{where_ended}
use Rattle.vs_multi.proofs.multi.Multi.finish.Goals as goal

pub returns-in-One-clause-stays : goal.returns-in-One-clause-stays
returns-in-One-clause-stays g c = rw c.in-One.is (where_ended g.H.World.tells c.args.self.now.one c.args.self.now.two (g.H.World.scene c.args.host.now) (g.H.World.scene c.finish_taken.new.host) c.args.how (is_ok c.finish_taken.result) (rw c.in-One.is at c.requires.there) c.args.self.now.apart c.requires.fits.first c.requires.fits.second c.requires.fits.own (rw c.take.ensures.value at c.finish_taken.ensures.finishes))

pub returns-in-One-clause-fits : goal.returns-in-One-clause-fits
returns-in-One-clause-fits g c = record {
  first = rw c.take.ensures.after tt;
  second = stays_fits g.H.World.tells c.args.self.now.two (g.H.World.scene c.args.host.now) (g.H.World.scene c.finish_taken.new.host) (where_ended g.H.World.tells c.args.self.now.one c.args.self.now.two (g.H.World.scene c.args.host.now) (g.H.World.scene c.finish_taken.new.host) c.args.how (is_ok c.finish_taken.result) (rw c.in-One.is at c.requires.there) c.args.self.now.apart c.requires.fits.first c.requires.fits.second c.requires.fits.own (rw c.take.ensures.value at c.finish_taken.ensures.finishes)) c.requires.fits.second;
  own = rw c.take.ensures.after tt;
}

pub returns-in-Two-clause-stays : goal.returns-in-Two-clause-stays
returns-in-Two-clause-stays g c = rw c.in-Two.is (where_ended g.H.World.tells c.args.self.now.two c.args.self.now.one (g.H.World.scene c.args.host.now) (g.H.World.scene c.finish_taken-in-Two.new.host) c.args.how (is_ok c.finish_taken-in-Two.result) (rw c.in-Two.is at c.requires.there) (clear_swapped c.args.self.now.one c.args.self.now.two c.args.self.now.apart) c.requires.fits.second c.requires.fits.first (own_swapped g.H.World.tells c.args.self.now.one c.args.self.now.two (g.H.World.scene c.args.host.now).folder c.requires.fits.own) (rw c.take-in-Two.ensures.value at c.finish_taken-in-Two.ensures.finishes))

pub returns-in-Two-clause-fits : goal.returns-in-Two-clause-fits
returns-in-Two-clause-fits g c = record {
  first = stays_fits g.H.World.tells c.args.self.now.one (g.H.World.scene c.args.host.now) (g.H.World.scene c.finish_taken-in-Two.new.host) (where_ended g.H.World.tells c.args.self.now.two c.args.self.now.one (g.H.World.scene c.args.host.now) (g.H.World.scene c.finish_taken-in-Two.new.host) c.args.how (is_ok c.finish_taken-in-Two.result) (rw c.in-Two.is at c.requires.there) (clear_swapped c.args.self.now.one c.args.self.now.two c.args.self.now.apart) c.requires.fits.second c.requires.fits.first (own_swapped g.H.World.tells c.args.self.now.one c.args.self.now.two (g.H.World.scene c.args.host.now).folder c.requires.fits.own) (rw c.take-in-Two.ensures.value at c.finish_taken-in-Two.ensures.finishes)) c.requires.fits.first;
  second = rw c.take-in-Two.ensures.after tt;
  own = rw c.take-in-Two.ensures.after (own_swapped g.H.World.tells None c.args.self.now.one (g.H.World.scene c.finish_taken-in-Two.new.host).folder tt);
}

pub invariant_of-self-in-Two : goal.invariant_of-self-in-Two
invariant_of-self-in-Two g c = record { apart = rw c.take-in-Two.ensures.after (clear_swapped None c.args.self.now.one tt) }

use Rattle.std.proofs.Common.{arith, length-take}
use Rattle.vs_pair.proofs.cache.Cache.first.Goals as goal

pub slice_bounds-result-end : goal.slice_bounds-result-end
slice_bounds-result-end c = omega (arith, length-take 4096 c.deref.result.now, c.deref.ensures.len, c.args.self.now.room.ok.0, c.args.self.now.room_size)

pub returns-clause-size : goal.returns-clause-size
returns-clause-size c = omega (arith, length-take 4096 c.deref.result.now, c.deref.ensures.len, c.args.self.now.room.ok.0, c.args.self.now.room_size)

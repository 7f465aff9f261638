use Rattle.std.proofs.Common.{length}
use Rattle.vs_pages.proofs.vacant.Vacant.forget.Given as goal

abbrev pub decreases-loop-last : goal.decreases-loop-last
decreases-loop-last l = length l.self.numbers.items

use Rattle.vs_merge.proofs.splicing.+take_few.Given as goal

abbrev pub decreases-take_few : goal.decreases-take_few
decreases-take_few g l = l.count

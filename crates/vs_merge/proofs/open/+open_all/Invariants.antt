use Rattle.vs_merge.proofs.open.+open_all.Given as goal

abbrev pub decreases-open_all : goal.decreases-open_all
decreases-open_all g l = l.depth

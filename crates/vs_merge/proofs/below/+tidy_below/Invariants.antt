use Rattle.vs_merge.proofs.below.+tidy_below.Given as goal

abbrev pub decreases-tidy_below : goal.decreases-tidy_below
decreases-tidy_below g l = l.depth

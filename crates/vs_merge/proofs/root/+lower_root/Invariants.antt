use Rattle.vs_merge.proofs.root.+lower_root.Given as goal

abbrev pub decreases-lower_root : goal.decreases-lower_root
decreases-lower_root g l = l.height

use Rattle.design_tree.proofs.walk.+path_in.Given as goal

abbrev pub decreases-path_in : goal.decreases-path_in
decreases-path_in l = l.place

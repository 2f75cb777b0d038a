use Rattle.test_locks.proofs.places.+leads_to.Given as goal

abbrev pub decreases-leads_to : goal.decreases-leads_to
decreases-leads_to g l = l.place

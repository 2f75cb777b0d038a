use Rattle.test_commits.proofs.vault.past.taken_over.Goals as goal

pub returns : goal.returns
returns g c = c.a_past_goes_on.ensures.opened c.in-Ok.ensures.begins

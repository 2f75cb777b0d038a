use Rattle.test_commits.proofs.vault.past.made.Goals as goal

pub returns : goal.returns
returns g c = c.a_past_goes_on.ensures.begins c.in-Ok.ensures.view

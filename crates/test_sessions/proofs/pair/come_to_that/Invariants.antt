use Rattle.test_sessions.proofs.pair.come_to_that.Given as goal

abbrev pub ghosts-over-S-Ledger : goal.ghosts-over-S-Ledger
ghosts-over-S-Ledger g a = record { name = a.staged.name; parts = a.staged.parts }

abbrev pub ghosts-over-T-Ledger : goal.ghosts-over-T-Ledger
ghosts-over-T-Ledger g a = record { name = a.told.name; parts = a.told.parts }

abbrev pub ghosts-over-S-Tally : goal.ghosts-over-S-Tally
ghosts-over-S-Tally g a = record { beginning = a.vault.view; all = a.staged.parts; book = a.past }

abbrev pub ghosts-over-T-Tally : goal.ghosts-over-T-Tally
ghosts-over-T-Tally g a = record { beginning = a.vault.view; all = a.told.parts; book = a.past }

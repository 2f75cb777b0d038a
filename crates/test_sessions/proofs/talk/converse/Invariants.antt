use Rattle.test_sessions.proofs.talk.converse.Given as goal

abbrev pub ghosts-converse_over-S-Ledger : goal.ghosts-converse_over-S-Ledger
ghosts-converse_over-S-Ledger g a = record { name = a.staged.name; parts = a.staged.parts }

abbrev pub ghosts-converse_over-T-Ledger : goal.ghosts-converse_over-T-Ledger
ghosts-converse_over-T-Ledger g a = record { name = a.told.name; parts = a.told.parts }

abbrev pub ghosts-converse_over-S-Tally : goal.ghosts-converse_over-S-Tally
ghosts-converse_over-S-Tally g a = record { beginning = a.vault.view; all = a.staged.parts; book = a.past }

abbrev pub ghosts-converse_over-T-Tally : goal.ghosts-converse_over-T-Tally
ghosts-converse_over-T-Tally g a = record { beginning = a.vault.view; all = a.told.parts; book = a.past }

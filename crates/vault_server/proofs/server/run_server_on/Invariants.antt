use Rattle.vault_server.proofs.server.run_server_on.Given as goal

abbrev pub ghosts-run-S-Ledger : goal.ghosts-run-S-Ledger
ghosts-run-S-Ledger g a = record { name = a.staged.name; parts = a.staged.parts }

abbrev pub ghosts-run-T-Ledger : goal.ghosts-run-T-Ledger
ghosts-run-T-Ledger g a = record { name = a.told.name; parts = a.told.parts }

abbrev pub ghosts-run-S-Tally : goal.ghosts-run-S-Tally
ghosts-run-S-Tally g a = record { beginning = a.vault.view; all = a.staged.parts; book = a.past }

abbrev pub ghosts-run-T-Tally : goal.ghosts-run-T-Tally
ghosts-run-T-Tally g a = record { beginning = a.vault.view; all = a.told.parts; book = a.past }

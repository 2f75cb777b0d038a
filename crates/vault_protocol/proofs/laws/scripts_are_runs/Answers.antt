use Rattle.vault_protocol.proofs.ScriptLaws as scripts
use Rattle.vault_protocol.proofs.laws.scripts_are_runs.Goals as goal

pub returns : goal.returns
returns c = record { runs = scripts.scripts_are_runs; go_on = scripts.runs_go_on; stops = scripts.stops_are_crashes; others = scripts.others_are_acts; in_parts = scripts.printed_in_parts }

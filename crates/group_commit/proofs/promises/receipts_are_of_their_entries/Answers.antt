use Rattle.group_commit.proofs.Positions.{staged_at, positions_stay, receipts_are_of, receipts_are_told}
use Rattle.group_commit.proofs.promises.receipts_are_of_their_entries.Goals as goal

pub returns : goal.returns
returns c = record { staged = staged_at; stay = positions_stay; told = receipts_are_of; kept = receipts_are_told }

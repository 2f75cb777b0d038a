use Rattle.vault_model.proofs.Meetings.{meeting}
use Rattle.vault_model.proofs.laws.overlap_is_a_meeting.Goals as goal

pub returns : goal.returns
returns c = meeting

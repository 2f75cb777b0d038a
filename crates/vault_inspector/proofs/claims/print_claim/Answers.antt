use Rattle.vault_inspector.proofs.Written.{part_then, part_after, appends_more, writes_after, writes_part}
use Rattle.vault_inspector.proofs.claims.print_claim.Goals as goal

pub returns-in_err-print_id : goal.returns-in_err-print_id
returns-in_err-print_id g c = writes_part _ _ _ _ c.from_residual.ensures.0 (part_then _ _ _ _ (part_then _ _ _ _ (part_then _ _ _ _ (part_then _ _ _ _ (part_then _ _ _ _ (part_then _ _ _ _ c.in_err-print_id.ensures))))))

pub returns-in_err-put : goal.returns-in_err-put
returns-in_err-put g c = writes_part _ _ _ _ c.from_residual-in_err-put.ensures.0 (part_then _ _ _ _ (part_then _ _ _ _ (part_then _ _ _ _ (part_then _ _ _ _ (part_then _ _ _ _ (part_after _ _ _ _ _ c.in_ok-print_id.ensures c.in_err-put.ensures))))))

pub returns-in_err-print_owner : goal.returns-in_err-print_owner
returns-in_err-print_owner g c = writes_part _ _ _ _ c.from_residual-in_err-print_owner.ensures.0 (part_then _ _ _ _ (part_then _ _ _ _ (part_then _ _ _ _ (part_then _ _ _ _ (part_after _ _ _ _ _ (appends_more _ _ _ _ _ c.in_ok-print_id.ensures c.in_ok-put.ensures) c.in_err-print_owner.ensures)))))

pub returns-in_err-print_standing : goal.returns-in_err-print_standing
returns-in_err-print_standing g c = writes_part _ _ _ _ c.from_residual-in_err-print_standing.ensures.0 (part_then _ _ _ _ (part_then _ _ _ _ (part_then _ _ _ _ (part_after _ _ _ _ _ (appends_more _ _ _ _ _ (appends_more _ _ _ _ _ c.in_ok-print_id.ensures c.in_ok-put.ensures) c.in_ok-print_owner.ensures) c.in_err-print_standing.ensures))))

pub returns-in_err-print_claimed : goal.returns-in_err-print_claimed
returns-in_err-print_claimed g c = writes_part _ _ _ _ c.from_residual-in_err-print_claimed.ensures.0 (part_then _ _ _ _ (part_then _ _ _ _ (part_after _ _ _ _ _ (appends_more _ _ _ _ _ (appends_more _ _ _ _ _ (appends_more _ _ _ _ _ c.in_ok-print_id.ensures c.in_ok-put.ensures) c.in_ok-print_owner.ensures) c.in_ok-print_standing.ensures) c.in_err-print_claimed.ensures)))

pub returns-in_err-print_note : goal.returns-in_err-print_note
returns-in_err-print_note g c = writes_part _ _ _ _ c.from_residual-in_err-print_note.ensures.0 (part_then _ _ _ _ (part_after _ _ _ _ _ (appends_more _ _ _ _ _ (appends_more _ _ _ _ _ (appends_more _ _ _ _ _ (appends_more _ _ _ _ _ c.in_ok-print_id.ensures c.in_ok-put.ensures) c.in_ok-print_owner.ensures) c.in_ok-print_standing.ensures) c.in_ok-print_claimed.ensures) c.in_err-print_note.ensures))

pub returns : goal.returns
returns g c = writes_after _ _ _ _ _ _ (appends_more _ _ _ _ _ (appends_more _ _ _ _ _ (appends_more _ _ _ _ _ (appends_more _ _ _ _ _ (appends_more _ _ _ _ _ c.in_ok-print_id.ensures c.in_ok-put.ensures) c.in_ok-print_owner.ensures) c.in_ok-print_standing.ensures) c.in_ok-print_claimed.ensures) c.in_ok-print_note.ensures) c.put-2.ensures

use Rattle.std.specs.Prelude.{not}
use Rattle.std.proofs.Common.{ap, ◌∙◌, rules}
use Rattle.std.proofs.lemmas.Fn.{filter_same}
use Rattle.vault_state.specs.Claims.{is_short}
use Rattle.lock_queue.specs.declared.queue.Request.{Request}
use Rattle.lock_queue.specs.Queue.{QueueSeen, long_requests}
use Rattle.lock_queue.proofs.queue.PlaceQueue.take_short_out.Goals as goal

pub returns-clause-requests : goal.returns-clause-requests
returns-clause-requests g c =
    filter_same _ (λ (s : Request). not (is_short s.id)) _ (λ x b f call. search rules) _ _ c.retain.ensures.filtered ∙ ap (λ (v : QueueSeen). long_requests v.requests) c.self.view_is

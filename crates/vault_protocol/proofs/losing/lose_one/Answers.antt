use Rattle.vault_protocol.proofs.Lost.{lost_none, lost_more}
use Rattle.vault_protocol.proofs.losing.lose_one.Goals as goal

pub returns-in-Awaited-clause-vault : goal.returns-in-Awaited-clause-vault
returns-in-Awaited-clause-vault g c =
    lost_more c.args.vault.now c.args.vault.now c.forget.new.self c.in-Awaited.ticket c.forget.result (lost_none c.args.vault.now) c.forget.ensures.closed

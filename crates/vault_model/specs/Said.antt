-- Commands, replies and effects over plain lists: the definitions see nothing of how memory keeps them.
use Rattle.std.specs.Prelude.{ℕ, List}
use Rattle.vault_state.specs.declared.ids.ClaimId.{ClaimId}
use Rattle.vault_state.specs.declared.claims.PathItem.{PathItem}
use Rattle.vault_model.specs.declared.commands.Command.{Command as CommandOver}
use Rattle.vault_model.specs.declared.replies.Reply.{Reply as ReplyOver}
use Rattle.vault_model.specs.declared.effects.Effect.{Effect as EffectOver}

-- a command, with plain lists for what it asks for and for its bytes
abbrev pub Command : Type 0
Command = CommandOver (List PathItem) (List ℕ)

-- the reply to a command, with plain lists for names, a content, items, claims and paths
abbrev pub Reply : Type 0
Reply = ReplyOver (List (List ℕ)) (List ℕ) (List PathItem) (List ClaimId) (List (List (List ℕ)))

-- the durable change of a command, with a plain list for a content
abbrev pub Effect : Type 0
Effect = EffectOver (List ℕ)

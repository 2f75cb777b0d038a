-- The replies may be sent between threads, as what they are made of may.
use denote.RattleType.{RattleType}
use denote.Param.Send.{IsSend, enum_send}
use denote.Enum.Declared.{shape as enum_shape}
use Rattle.vault_state.proofs.Sends.{fields}
use Rattle.vault_model.specs.contracts.replies.Reply as Reply
use Rattle.vault_model.specs.contracts.replies.ShownClaim as ShownClaim

pub shown_claim_send : (X : RattleType) → IsSend X → IsSend (ShownClaim.the_field X).row
shown_claim_send X x = search fields depth 20 fits 20000

pub reply_send : (N C I L P : RattleType) → IsSend N → IsSend C → IsSend I → IsSend L → IsSend P → IsSend (Reply.the_field N C I L P).row
reply_send N C I L P n c i l p = let T = Reply.the_type N C I L P in enum_send (enum_shape T) (search fields depth 40 fits 20000)

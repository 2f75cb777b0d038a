-- Why a check-out was not closed. This project's own.
use Rattle.std.specs.Prelude.{◌≡◌, Bool, true, false}
use Rattle.vault_model.specs.declared.replies.Refusal.TheVariants.{Limit}
use Rattle.check_outs.specs.declared.stop.Stop.{Stop}
use Rattle.check_outs.specs.declared.stop.Stop.TheVariants.{Refused, OutOfMemory}

-- refused at a limit: its drafts may not be shelved (become versions); out of memory: they may be
abbrev pub IsCloseRefusal : Bool → Stop → Type 0
IsCloseRefusal shelvable (Refused refusal) = (refusal ≡ Limit) × (shelvable ≡ false)
IsCloseRefusal shelvable OutOfMemory = shelvable ≡ true

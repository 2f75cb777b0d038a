-- All that the laws of the history use of the model: its own laws, by name. No proof of this crate looks into a step.
use Rattle.vault_model.specs.Laws.{WellFormedStays, CountsRise, HeldIsDurable, HeldAreApart, EffectIsTheDurableChange}
use Rattle.vault_model.proofs.Kept.{kept_new, kept_durable}
use Rattle.vault_model.proofs.WellFormed.{step_keeps}
use Rattle.vault_model.proofs.Counts.{step_rises}
use Rattle.vault_model.proofs.HeldStays as held
use Rattle.vault_model.proofs.Durable as effects

pub well_formed_stays : WellFormedStays
well_formed_stays = (kept_new, step_keeps, kept_durable)

pub counts_rise : CountsRise
counts_rise = step_rises

pub held_is_durable : HeldIsDurable
held_is_durable = held.held_is_durable

pub held_are_apart : HeldAreApart
held_are_apart = held.held_are_apart

pub effect_is_the_durable_change : EffectIsTheDurableChange
effect_is_the_durable_change = effects.effect_is_the_durable_change

use Rattle.std.proofs.Common.{ap, sym, ◌∙◌}
use Rattle.vault_model.specs.declared.effects.Effect.TheVariants.{Saved}
use Rattle.vault_journal.proofs.Behind.{record_is}
use Rattle.vault_journal.proofs.records.put_effect.Goals as goal

pub returns-in-Made : goal.returns-in-Made
returns-in-Made g c = record_is _ _ _ _ _ _ c.in-Made.is c.put_child.ensures

pub returns-in-Nested : goal.returns-in-Nested
returns-in-Nested g c = record_is _ _ _ _ _ _ c.in-Nested.is c.put_child-in-Nested.ensures

pub returns-in-Asked : goal.returns-in-Asked
returns-in-Asked g c = record_is _ _ _ _ _ _ c.in-Asked.is c.put_asked.ensures

pub returns-in-Extended : goal.returns-in-Extended
returns-in-Extended g c = record_is _ _ _ _ _ _ c.in-Extended.is c.put_extended.ensures

pub returns-in-Saved : goal.returns-in-Saved
returns-in-Saved g c = record_is _ _ _ _ _ _ (c.in-Saved.is ∙ ap (Saved c.in-Saved.claim c.in-Saved.place) (sym c.as_slice.ensures)) c.put_saved.ensures

pub returns-in-CheckedIn : goal.returns-in-CheckedIn
returns-in-CheckedIn g c = record_is _ _ _ _ _ _ c.in-CheckedIn.is c.put_claim.ensures

pub returns-in-Abandoned : goal.returns-in-Abandoned
returns-in-Abandoned g c = record_is _ _ _ _ _ _ c.in-Abandoned.is c.put_claim-in-Abandoned.ensures

pub returns-in-Given : goal.returns-in-Given
returns-in-Given g c = record_is _ _ _ _ _ _ c.in-Given.is c.put_given.ensures

pub returns-in-Noted : goal.returns-in-Noted
returns-in-Noted g c = record_is _ _ _ _ _ _ c.in-Noted.is c.put_noted.ensures

-- The types of this crate may be sent between threads, as what they are made of may. A crate shows it of its own types, and cites the lemmas of the crates below.
use denote.RattleType.{RattleType}
use denote.Param.Send.{IsSend, Frees, sendable}
use Rattle.std.proofs.CrossingOver.{crosses}
use Rattle.std.specs.declared.alloc.Allocator.{Ghosts}
use Rattle.vault_state.specs.contracts.ids.ClaimId as ClaimId
use Rattle.vault_state.specs.contracts.claims.Claim as Claim
use Rattle.vault_state.specs.contracts.draft.Draft as Draft
use Rattle.vault_state.specs.contracts.listing.Listing as Listing
use Rattle.vault_state.specs.contracts.name.Name as Name
use Rattle.vault_state.specs.contracts.place.Place as Place
use Rattle.vault_state.specs.contracts.session.Session as Session

-- The lemmas by which a search goes down through a type to its fields. Where a field is large, the lemma of its type stands before the search.
pub ruleset fields = (tt, sendable, crosses)

pub claim_id_send : IsSend ClaimId.the_row
claim_id_send = search fields depth 20

pub claim_send : IsSend Claim.the_row
claim_send = search fields depth 20 fits 20000

pub name_send : IsSend Name.the_row
name_send = search fields depth 20

pub place_send : IsSend Place.the_row
place_send = search fields depth 20 fits 20000

pub session_send : IsSend Session.the_row
session_send = search fields depth 20 fits 20000

pub listing_send : (A : RattleType) (g : Ghosts A.Denot) (X : RattleType) → IsSend X → IsSend A → Frees g g.dealloc_token → IsSend (Listing.the_row X A g)
listing_send A g X x s f = search fields depth 20

pub draft_send : (X : RattleType) → IsSend X → IsSend (Draft.the_field X).row
draft_send X x = search fields depth 20

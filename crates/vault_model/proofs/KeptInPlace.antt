-- A vault whose claims change in their places stays well formed.
use Rattle.std.specs.Prelude.{◌≡◌, ℕ, Bool, true, false, List, map, Option, None, Some, refl}
use Rattle.std.proofs.Common.{sym, subst, ◌∙◌, cond}
use Rattle.std.specs.Option.{option_map}
use Rattle.std.proofs.lemmas.List.{length-map}
use Rattle.std.proofs.lemmas.List.Elements.{All-map, All-weaker}
use Rattle.vault_state.specs.declared.place.Place.{Place}
use Rattle.vault_state.specs.declared.claims.Claim.{Claim}
use Rattle.vault_state.specs.declared.ids.ClaimId.{ClaimId}
use Rattle.vault_state.specs.declared.ids.ClaimId.TheVariants.{Long}
use Rattle.vault_state.specs.Note.{IsNote}
use Rattle.vault_state.specs.Claims.{same_id, change_set, claim_of, changed, given_to, noted_as}
use Rattle.vault_state.specs.Drafts.{SavedDraft}
use Rattle.vault_state.specs.Vault.{Vault, Owns, IsNoteOf, IsClaim, AreDrafts, IsVault}
use Rattle.vault_model.specs.Changes.{with_owner, with_note}
use Rattle.vault_model.proofs.DraftsKept.{drafts_moved}
use Rattle.vault_state.proofs.InPlace.{claim_of-map, standing_of-map, ids-map, one_id, one_items}
use Rattle.vault_state.proofs.Stays.{same_id_is}

module _ (f : Claim → Claim) (own : (c : Claim) → (f c).id ≡ c.id) (same : (c : Claim) → (f c).items ≡ c.items) where
  drafts-map : (tree : List Place) (line : List Claim) (drafts : List SavedDraft) → AreDrafts tree line drafts → AreDrafts tree (map f line) drafts
  drafts-map tree line drafts are =
      drafts_moved tree line (map f line) drafts (λ number held. record { held = standing_of-map f own same tree line (Long number) ∙ held; wider = λ c found. by_claim number c (claim_of line (Long number)) refl (sym (claim_of-map f own same line (Long number)) ∙ found) }) are
    where
      by_claim : (number : ℕ) (c : Claim) (o : Option Claim) → claim_of line (Long number) ≡ o → option_map f o ≡ Some c
          → (d : Claim) × (claim_of line (Long number) ≡ Some d) × ((p : ℕ) → change_set tree d.items p ≡ true → change_set tree c.items p ≡ true)
      by_claim number c None e h = cc
      by_claim number c (Some d) e h = let is : f d ≡ c = cc in (d, e, λ p k. subst (λ (x : Claim). change_set tree x.items p ≡ true) is (rw (same d) k))

  -- a vault stays well formed, where they have owners and notes of their kinds
  kept_in_place : (v : Vault) → IsVault v → ((c : Claim) → Owns v.sessions c.owner c.id → Owns v.sessions (f c).owner c.id) → ((c : Claim) → IsNoteOf c.id c.note → IsNoteOf c.id (f c).note) → IsVault (record v { line = map f v.line })
  kept_in_place v kept owned noted = record {
    tree = kept.tree;
    few_claims = rw length-map kept.few_claims;
    claims = All-map (IsClaim v.tree v.sessions v.last_long v.last_short) f v.line
        (All-weaker (IsClaim v.tree v.sessions v.last_long v.last_short) (λ (c : Claim). IsClaim v.tree v.sessions v.last_long v.last_short (f c))
        (λ c h. record {
          given = rw (own c) h.given;
          owned = rw (own c) (owned c h.owned);
          some = rw (same c) h.some;
          few = rw (same c) h.few;
          there = rw (same c) h.there;
          noted = rw (own c) (noted c h.noted);
        }) v.line kept.claims);
    apart = rw (ids-map f own same v.line) kept.apart;
    sessions = kept.sessions;
    numbers = kept.numbers;
    versions = kept.versions;
    drafts = drafts-map v.tree v.line v.drafts kept.drafts;
    light = kept.light;
  }

module _ (id : ClaimId) (f : Claim → Claim) (own : (c : Claim) → (f c).id ≡ c.id) (same : (c : Claim) → (f c).items ≡ c.items) where
  kept_changed : (v : Vault) → IsVault v → ((c : Claim) → c.id ≡ id → Owns v.sessions c.owner c.id → Owns v.sessions (f c).owner c.id) → ((c : Claim) → c.id ≡ id → IsNoteOf c.id c.note → IsNoteOf c.id (f c).note)
      → IsVault (record v { line = changed v.line id f })
  kept_changed v kept owned noted = kept_in_place (λ c. cond (same_id c.id id) (f c) c) (one_id id f own same) (one_items id f own same) v kept (λ c h. owns c (same_id c.id id) refl h) (λ c h. notes c (same_id c.id id) refl h)
    where
      owns : (c : Claim) (b : Bool) → same_id c.id id ≡ b → Owns v.sessions c.owner c.id → Owns v.sessions (cond b (f c) c).owner c.id
      owns c true e h = owned c (same_id_is c.id id e) h
      owns c false e h = h

      notes : (c : Claim) (b : Bool) → same_id c.id id ≡ b → IsNoteOf c.id c.note → IsNoteOf c.id (cond b (f c) c).note
      notes c true e h = noted c (same_id_is c.id id e) h
      notes c false e h = h

pub kept_given : (v : Vault) → IsVault v → (number : ℕ) (designer : List ℕ) → IsVault (with_owner v number designer)
kept_given v kept number designer = kept_changed (Long number) (given_to designer) (λ c. refl) (λ c. refl) v kept (λ c is owned. rw is tt) (λ c is noted. noted)

pub kept_noted : (v : Vault) → IsVault v → (number : ℕ) (note : List ℕ) → IsNote note → IsVault (with_note v number note)
kept_noted v kept number note short = kept_changed (Long number) (noted_as note) (λ c. refl) (λ c. refl) v kept (λ c is owned. owned) (λ c is noted. rw is short)

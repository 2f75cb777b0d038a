-- What `nest` decides, from what it looked at.
use Rattle.std.specs.Prelude.{◌≡◌, ℕ, ◌+◌, true, false, List, length, Option, Some, Ok, Err, refl}
use Rattle.vault_state.specs.declared.session.Session.{Session}
use Rattle.vault_model.specs.declared.effects.Effect.TheVariants as effects
use Rattle.vault_model.specs.declared.replies.Reply.TheVariants as replies
use Rattle.vault_model.specs.declared.replies.Refusal.{Refusal}
use Rattle.vault_model.specs.declared.replies.Refusal.TheVariants.{WrongKind}
use Rattle.vault_state.specs.declared.place.Kind.TheVariants.{Assembly}
use Rattle.vault_state.specs.Path.{front, last}
use Rattle.vault_state.specs.Tree.{find_place, is_part, may_nest_under}
use Rattle.vault_state.specs.Vault.{Vault}
use Rattle.vault_model.specs.Changes.{with_place}
use Rattle.vault_model.specs.Step.{admitted, chained, nest}

module _ (v : Vault) (session : Session) (path : List (List ℕ)) (claim : Option ℕ) (name : List ℕ) (parent : ℕ) (named : last path ≡ Some name) (found : find_place v.tree (front path) ≡ Some parent) where
  pub nest_in_a_part : is_part v.tree parent ≡ true → nest v session path claim ≡ Err WrongKind
  unfolding nest chained
  nest_in_a_part part = rw (named, found, part) refl

  module _ (other : is_part v.tree parent ≡ false) where
    pub nest_elsewhere : may_nest_under v.tree parent ≡ false → nest v session path claim ≡ Err WrongKind
    unfolding nest chained
    nest_elsewhere not_there = rw (named, found, other, not_there) refl

    module _ (between : may_nest_under v.tree parent ≡ true) where
      pub nest_refused : (why : Refusal) → admitted v session parent name claim ≡ Err why → nest v session path claim ≡ Err why
      unfolding nest chained
      nest_refused why refused = rw (named, found, other, between, refused) refl

      pub nest_done : admitted v session parent name claim ≡ Ok tt → nest v session path claim ≡ Ok (record { reply = replies.Place (length v.tree + 1); vault = with_place v parent name Assembly; effect = Some (effects.Nested parent name) })
      unfolding nest chained
      nest_done admits = rw (named, found, other, between, admits) refl

-- What a new claim asks for. This project's own.
use Rattle.std.specs.Prelude.{ℕ, ◌==◌, ◌||◌, nat_lt, nat_le, List, length, Result, Ok}
use Rattle.std.specs.Option.{ok_or}
use Rattle.vault_state.specs.declared.claims.Item.{Item}
use Rattle.vault_state.specs.declared.claims.PathItem.{PathItem}
use Rattle.vault_state.specs.declared.place.Place.{Place}
use Rattle.vault_model.specs.declared.replies.Refusal.{Refusal}
use Rattle.vault_model.specs.declared.replies.Refusal.TheVariants.{ItemCount, NoPlace, Limit}
use Rattle.vault_state.specs.Limits.{most_items, most_claims, last_number}
use Rattle.vault_model.specs.Step.{chained, ◌>>=◌, refuse_if, placed}

-- the items of `checkout` and of `hold`: 1 to 8 places that are there, where there is room for one more claim, and a number
unfoldable pub wanted_items : List Place → ℕ → ℕ → List PathItem → Result (List Item) Refusal
wanted_items tree claims last wanted = do
  _ ← refuse_if ((length wanted == 0) || nat_lt most_items (length wanted)) ItemCount
  items ← ok_or (placed tree wanted) NoPlace
  _ ← refuse_if (nat_le most_claims claims || (last == last_number)) Limit
  Ok items

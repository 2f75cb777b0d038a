-- What an effect changes in a durable vault, where it is applicable. Which claims are in the way isn't judged again. This project's own.
use Rattle.std.specs.Prelude.{◌≡◌, ℕ, ◌+◌, Bool, true, false, not, ◌&&◌, ◌==◌, nat_le, nat_lt, List, ◌++◌, length, Option, None, Some, is_some}
use Rattle.std.specs.List.{list_all}
use Rattle.std.specs.Option.{option_and_then, option_map_or}
use Rattle.vault_model.specs.Said.{Effect}
use Rattle.vault_model.specs.declared.effects.Effect.TheVariants as effects
use Rattle.vault_state.specs.declared.place.Place.{Place}
use Rattle.vault_state.specs.declared.claims.Item.{Item}
use Rattle.vault_state.specs.declared.claims.Claim.{Claim}
use Rattle.vault_state.specs.declared.ids.ClaimId.TheVariants.{Long}
use Rattle.vault_state.specs.Limits.{most_items, most_claims, last_number}
use Rattle.vault_state.specs.Note.{is_note}
use Rattle.vault_state.specs.declared.place.Kind.TheVariants.{Assembly}
use Rattle.vault_state.specs.Tree.{child, is_part, is_full, kind_under, may_nest_under}
use Rattle.vault_state.specs.Claims.{claim_of, is_held, change_set, put_first}
use Rattle.vault_state.specs.Shelf.{is_shelvable}
use Rattle.vault_state.specs.Drafts.{SavedDraft, new_draft, drafts_of}
use Rattle.vault_model.specs.Step.{may_save}
use Rattle.vault_state.specs.Vault.{Vault, durable}
use Rattle.vault_model.specs.Changes.{with_place, with_check_out, with_items, with_content, with_versions, without_check_out, with_owner, with_note}

-- a vault, where a test holds
abbrev pub only_if : Bool → Vault → Option Vault
only_if true w = Some w
only_if false w = None

-- whether items name places that are there
abbrev pub are_there : List Place → List Item → Bool
are_there tree items = list_all (λ (item : Item). nat_le item.place (length tree)) items

-- a place may be made: its parent is there and no part, has no child of the name, and there is room
abbrev pub may_make : Vault → ℕ → List ℕ → Bool
may_make w parent name =
    nat_le parent (length w.tree) && not (is_part w.tree parent) && not (is_some (child w.tree parent name)) && not (is_full w.tree parent)

-- a check-out may be asked for: it has the next number, which is within the limit, and 1 to the most items at places that are there; and
-- there is room
abbrev pub may_ask : Vault → ℕ → List Item → Bool
may_ask w number items =
    (number == w.last_long + 1) && not (length items == 0) && nat_le (length items) most_items && are_there w.tree items
    && nat_lt (length w.line) most_claims
    && nat_le number last_number

-- a claim may be extended: it is granted, has no more than the most items with these, and their places are there
abbrev pub may_extend : Vault → Claim → List Item → Bool
may_extend w claim items = is_held w.tree w.line claim && nat_le (length claim.items + length items) most_items && are_there w.tree items

-- every draft's check-out is granted
abbrev pub drafts_held : List Place → List Claim → List SavedDraft → Bool
drafts_held tree line drafts =
    list_all (λ (x : SavedDraft). option_map_or (λ c. is_held tree line c) (claim_of line (Long x.claim)) false) drafts

unfoldable pub after_made : Vault → ℕ → List ℕ → Option Vault
after_made w parent name = only_if (may_make w parent name) (with_place w parent name (kind_under w.tree parent))

-- an assembly may be made where a place may be made, and an assembly may be asked for
unfoldable pub after_nested : Vault → ℕ → List ℕ → Option Vault
after_nested w parent name =
    only_if (may_make w parent name && may_nest_under w.tree parent) (with_place w parent name Assembly)

unfoldable pub after_asked : Vault → ℕ → List ℕ → List Item → Option Vault
after_asked w number designer items =
    only_if (may_ask w number items)
    (with_check_out w number designer items)

-- a claim may get more items if it may be extended, and every draft's check-out is granted afterwards, too
unfoldable pub after_extended : Vault → ℕ → List Item → Option Vault
after_extended w number items =
    option_and_then
    (λ (claim : Claim). only_if
    (may_extend w claim items && drafts_held w.tree (put_first w.line (Long number) (claim.items ++ items)) w.drafts)
    (with_items w (Long number) (claim.items ++ items)))
    (claim_of w.line (Long number))

-- a draft may be saved: the claim is granted, the place is a part of its change set, and the limits are kept
unfoldable pub after_saved : Vault → ℕ → ℕ → List ℕ → Option Vault
after_saved w number place content =
    option_and_then
    (λ (claim : Claim).
    only_if
    (is_held w.tree w.line claim && nat_le place (length w.tree) && is_part w.tree place && change_set w.tree claim.items place
    && may_save w (new_draft number place content))
    (with_content w number place content))
    (claim_of w.line (Long number))

-- drafts may become versions: the claim is granted, and the shelf takes them
unfoldable pub after_checked_in : Vault → ℕ → Option Vault
after_checked_in w number =
    option_and_then
    (λ (claim : Claim).
    only_if (is_held w.tree w.line claim && is_shelvable w.shelf (drafts_of w.drafts number))
    (with_versions w number))
    (claim_of w.line (Long number))

-- a check-out that is there may be given up
unfoldable pub after_abandoned : Vault → ℕ → Option Vault
after_abandoned w number = only_if (is_some (claim_of w.line (Long number))) (without_check_out w number)

-- a check-out that is there may be given to a designer
unfoldable pub after_given : Vault → ℕ → List ℕ → Option Vault
after_given w number designer = only_if (is_some (claim_of w.line (Long number))) (with_owner w number designer)

-- a check-out that is there may get a note that is short enough
unfoldable pub after_noted : Vault → ℕ → List ℕ → Option Vault
after_noted w number note = only_if (is_some (claim_of w.line (Long number)) && is_note note) (with_note w number note)

-- The durable vault after an effect, where the effect is applicable.
unfoldable pub after : Vault → Effect → Option Vault
after w (effects.Made parent name) = after_made w parent name
after w (effects.Nested parent name) = after_nested w parent name
after w (effects.Asked number designer items) = after_asked w number designer items
after w (effects.Extended number items) = after_extended w number items
after w (effects.Saved number place content) = after_saved w number place content
after w (effects.CheckedIn number) = after_checked_in w number
after w (effects.Abandoned number) = after_abandoned w number
after w (effects.Given number designer) = after_given w number designer
after w (effects.Noted number note) = after_noted w number note

-- a vault is a durable one: it has no sessions and no short claims, and counts nothing
abbrev pub IsDurable : Vault → Type 0
IsDurable w = durable w ≡ w

-- a step changes the durable vault as its effect does, and not at all where it has none
abbrev pub IsDurableChange : Vault → Option Effect → Vault → Type 0
IsDurableChange v None w = durable w ≡ durable v
IsDurableChange v (Some effect) w = after (durable v) effect ≡ Some (durable w)

-- A well-formed vault stays well formed under each step.
use Rattle.std.specs.Prelude.{◌≡◌, ℕ, suc, ◌+◌, ◌<◌, ◌≤◌, ◌==◌, nat_le, true, false, ◌++◌, length, Option, None, Some, is_some, refl}
use Rattle.std.proofs.Common.{arith, length-append, sym, subst, ◌∙◌}
use Rattle.std.proofs.lemmas.Bool.Decides.{nat_tests}
use Rattle.std.proofs.lemmas.List.Elements.{All-append}
use Rattle.vault_state.specs.Limits.{last_number, most_items, longest_content, most_drafts, most_weight}
use Rattle.vault_state.specs.Tree.{depth, kind_of}
use Rattle.vault_state.proofs.Depths.{stands_above, kind_at_stands, between_stands}
use Rattle.vault_model.specs.Said.{Command, Effect}
use Rattle.vault_state.specs.declared.claims.Item.{Item}
use Rattle.vault_state.specs.declared.claims.Claim.{Claim}
use Rattle.vault_state.specs.declared.ids.ClaimId.TheVariants.{Long}
use Rattle.vault_state.specs.Vault.{Vault, weight_of, IsClaim, IsVault, counted}
use Rattle.vault_model.specs.Step.{step}
use Rattle.vault_state.proofs.Growth.{IsTree-push}
use Rattle.vault_model.proofs.Kept.{kept_made, kept_without, kept_released, kept_saved, kept_checked_in, kept_asked_long, kept_asked_short, kept_first, kept_gone, kept_joined, kept_counted}
use Rattle.std.proofs.lemmas.Option.{same_Some}
use Rattle.vault_state.specs.Claims.{change_set}
use Rattle.vault_state.specs.Drafts.{new_draft, with_draft, drafts_of}
use Rattle.vault_model.specs.Changes.{with_content}
use Rattle.vault_state.proofs.Shelves.{true_le}
use Rattle.vault_model.proofs.Fronts.{stands_held}
use Rattle.vault_model.proofs.DraftsKept.{drafts_first}
use Rattle.vault_state.proofs.Stays.{claim_there}
use Rattle.vault_model.proofs.Transitions.{Transition, answered, joined, left, made, nested, asked, taken, extended, saved, checked_in, abandoned, given, noted, released, by_transition, by_count}
use Rattle.vault_model.proofs.KeptInPlace.{kept_given, kept_noted}
use Rattle.vault_state.proofs.Lists.{three}

pub absent : (o : Option ℕ) → is_some o ≡ false → o ≡ None
absent None e = refl
absent (Some x) e = cc

-- a number that is not the last one is below it
pub not_last : (n : ℕ) → n ≤ last_number → (n == last_number) ≡ false → n < last_number
not_last n most other = grind (arith, nat_tests, most, other)

kept_door : (v : Vault) → IsVault v → IsVault (record v { door_count = v.door_count + 1 })
kept_door v kept = record { tree = kept.tree; few_claims = kept.few_claims; claims = kept.claims; apart = kept.apart; sessions = kept.sessions; numbers = kept.numbers; versions = kept.versions; drafts = kept.drafts; light = kept.light }

kept_told : (n : ℕ) (v : Vault) → IsVault v → IsVault (counted n v)
kept_told n v kept = by_count IsVault n v (kept_door v kept) (kept_counted v n kept)

-- a well-formed vault stays so under each change
pub transition_keeps : (v : Vault) → IsVault v → (effect : Option Effect) (w : Vault) → Transition v effect w → IsVault w
transition_keeps v kept effect w answered = kept
transition_keeps v kept effect w (joined name room unspent) = kept_joined v kept _ refl (not_last v.last_session kept.numbers.session unspent) room
transition_keeps v kept effect w (left session) = kept_gone v kept session
transition_keeps v kept effect w (made parent name can) =
    let low = stands_above (kind_of v.tree parent) (depth v.tree parent) (kept.tree.kinds parent) can.above in
    kept_made v kept _ (IsTree-push v.tree _ kept.tree can.there (kind_at_stands (depth v.tree parent) low) can.above (absent _ can.fresh) can.room) can.there
transition_keeps v kept effect w (nested parent name can between) =
    kept_made v kept _ (IsTree-push v.tree _ kept.tree can.there (between_stands (suc (depth v.tree parent)) between) can.above (absent _ can.fresh) can.room) can.there
transition_keeps v kept effect w (asked designer items can) = kept_asked_long v kept designer items (not_last v.last_long kept.numbers.long can.unspent) can.room can.some can.few can.there
transition_keeps v kept effect w (taken session items stands can) = kept_asked_short v kept session items stands (not_last v.last_short kept.numbers.short can.unspent) can.room can.some can.few can.there
transition_keeps v kept effect w (extended id claim items can) =
    let found = can.used.found in
    let own = claim_there (IsClaim v.tree v.sessions v.last_long v.last_short) v.line id kept.claims claim found in
    let longer = length-append claim.items items in
    let before = own.some in
    let few = can.few in
    let some : 0 < length (claim.items ++ items) = omega arith in
    let most : length (claim.items ++ items) ≤ most_items = omega arith in
    kept_first v kept id claim (claim.items ++ items) found some most (All-append (λ (item : Item). item.place ≤ length v.tree) claim.items items own.there can.there) (drafts_first v.tree v.line id claim items v.drafts kept.apart found can.free kept.drafts)
transition_keeps v kept effect w (saved claim number place content can) =
    let new = new_draft number place content in
    let tests = three (nat_le (length content) longest_content) (nat_le (length (drafts_of (with_draft v.drafts new) number)) most_drafts) (nat_le (weight_of (with_content v number place content)) most_weight) can.limits in
    kept_saved v kept new (record {
      held = stands_held v.tree v.line (Long number) claim can.used.found can.used.held;
      changed = λ d at. let same : claim ≡ d = same_Some claim d (sym can.used.found ∙ at) in subst (λ (x : Claim). change_set v.tree x.items place ≡ true) same can.changed;
      there = can.there;
      part = can.part;
      short = true_le _ _ tests.0;
    }) (true_le _ _ tests.1) (true_le _ _ tests.2)
transition_keeps v kept effect w (checked_in number claim used fits) = kept_checked_in v kept number fits
transition_keeps v kept effect w (abandoned number claim found) = kept_without v kept number
transition_keeps v kept effect w (given number designer claim found) = kept_given v kept number designer
transition_keeps v kept effect w (noted number text claim found short) = kept_noted v kept number text (true_le _ _ short)
transition_keeps v kept effect w (released number) = kept_released v kept number

pub step_keeps : (v : Vault) (n : ℕ) (command : Command) → IsVault v → IsVault (step v n command).vault
step_keeps v n command kept = by_transition (λ effect w. IsVault w) v n command (λ effect w change. kept_told n w (transition_keeps v kept effect w change))

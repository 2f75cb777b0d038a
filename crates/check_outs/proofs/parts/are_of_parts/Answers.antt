use Rattle.std.proofs.Common.{◌≡◌, ◌≢◌, ◌≤◌, ◌<◌, ◌⊎◌, ℕ, true, [], refl, arith, inl, inr, length}
use Rattle.std.proofs.lemmas.Bool.{cases_lt}
use Rattle.std.proofs.lemmas.List.{get_or_past}
use Rattle.vault_state.specs.Tree.{is_part}
use Rattle.vault_state.specs.Shelf.{versions_of}
use Rattle.check_outs.proofs.parts.are_of_parts.Goals as goal

pub returns : goal.returns
returns g c = (λ yes. record { shelf_is = c.len.ensures.shelf; parts = λ place some. part place some (cases_lt place (length c.args.shelf.now)) }, λ are. refl)
  where
    part : (place : ℕ) → versions_of c.args.shelf.now place ≢ [] → (place < length c.args.shelf.now) ⊎ (length c.args.shelf.now ≤ place) → (place ≤ length c.args.tree.now) × (is_part c.args.tree.now place ≡ true)
    part place some (inl within) = (omega arith, c.loop-number.invariant place (omega arith) some)
    part place some (inr past) = absurd (some (get_or_past c.args.shelf.now place [] past))

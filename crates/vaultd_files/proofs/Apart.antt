-- Files that aren't refused aren't of two vaults.
use Rattle.std.proofs.Common.{◌≡◌, ◌⊎◌, Bool, IsTrue, subst, inl, inr, arith}
use Rattle.vault_device.specs.Disk.{Disk}
use Rattle.vault_store.specs.Calls.{HasCause}
use Rattle.vault_store.specs.Read.{AreReads}
use Rattle.vault_store.specs.TwoVaults.{AreOfTwoVaults, AreUnread}
use Rattle.vault_store.specs.declared.body.BodyError.TheVariants as body_errors
use Rattle.vaultd_files.specs.Pairs.{AreApart}

failed : (old new : Disk) → new.faults ≡ 0 → HasCause old new → ⊥
failed old new none (inl more) = omega (arith, more, none)
failed old new none (inr full) = omega (arith, full, none)

pub apart : (first second new_first new_second : Disk) → AreReads first new_first → AreReads second new_second
    → (IsTrue first.honest → IsTrue second.honest → (AreOfTwoVaults first.shown second.shown → ⊥) ⊎ AreUnread first second new_first new_second body_errors.Device)
    → AreApart new_first new_second
apart first second new_first new_second one two pass honest_first honest_second none_first none_second are = by_pass (pass was_first was_second)
  where
    was_first : IsTrue first.honest
    was_first = subst (λ (b : Bool). IsTrue b) one.called.same_honesty honest_first

    was_second : IsTrue second.honest
    was_second = subst (λ (b : Bool). IsTrue b) two.called.same_honesty honest_second

    by_pass : (AreOfTwoVaults first.shown second.shown → ⊥) ⊎ AreUnread first second new_first new_second body_errors.Device → ⊥
    by_pass (inl never) = never (subst (λ bytes. AreOfTwoVaults bytes second.shown) (one.read was_first).shown (subst (λ bytes. AreOfTwoVaults new_first.shown bytes) (two.read was_second).shown are))
    by_pass (inr (inl cause)) = failed first new_first none_first cause
    by_pass (inr (inr cause)) = failed second new_second none_second cause

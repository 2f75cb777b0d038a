-- A crash inside an opening.
use Rattle.std.proofs.Common.{◌≡◌, inl, inr, ℕ, List, sym, subst}
use Rattle.std.specs.Prelude.{IsTrue}
use Rattle.vault_device.specs.Disk.{Disk, IsLawful}
use Rattle.vault_device.proofs.Moments.{stands_now}
use Rattle.vault_store.specs.Laws.{AreHonest}
use Rattle.vault_store.specs.Opening.{IsHandedOn}
use Rattle.vault_store.specs.Seen.{first_of, second_of}
use Rattle.group_commit.specs.Seen.{VaultSeen}
use Rattle.group_commit.specs.Pasts.{StopsInside, AreLeft, StopsInOpening}

-- what a crash leaves after an opening, a crash before it may have left, too
image_before : (old new : Disk) → IsHandedOn old new → IsTrue old.honest → (IsTrue new.honest → IsLawful new) → (x : List ℕ) → new.IsImage x → old.IsImage x
image_before old new handed honest lawful = stands_now old new old.IsImage (lawful (subst IsTrue (sym handed.called.same_honesty) honest)) (handed.moments honest)

pub stops_in_opening : {D : Type 0} (disk : D → Disk) (first second first_new second_new : D) → IsHandedOn (disk first) (disk first_new) → IsHandedOn (disk second) (disk second_new)
    → (IsTrue (disk first_new).honest → IsLawful (disk first_new)) → (IsTrue (disk second_new).honest → IsLawful (disk second_new)) → StopsInOpening disk first second first_new second_new
stops_in_opening disk first second first_new second_new one other lawful lawful_other = λ seen are. record {
  left = record {
    first_honest = subst IsTrue (sym one.called.same_honesty) are.first_honest;
    second_honest = subst IsTrue (sym other.called.same_honesty) are.second_honest;
    each = λ x y p q. are.each x y (image_before (disk first) (disk first_new) one are.first_honest lawful x p) (image_before (disk second) (disk second_new) other are.second_honest lawful_other y q);
  };
  inside = λ x y was. are.each x y ((one.moments are.first_honest).each x was.0) ((other.moments are.second_honest).each y was.1);
}

-- a vault's own devices
pub own_devices : {D : Type 0} (disk : D → Disk) (seen : VaultSeen D) (first second : D) → AreHonest disk seen.store → first ≡ first_of seen.store → second ≡ second_of seen.store → AreLeft disk seen first second
own_devices disk seen first second honest one other = record {
  first_honest = subst (λ (d : _). IsTrue (disk d).honest) (sym one) honest.first;
  second_honest = subst (λ (d : _). IsTrue (disk d).honest) (sym other) honest.second;
  each = λ x y p q. inl (honest, subst (λ (d : _). (disk d).IsImage x) one p, subst (λ (d : _). (disk d).IsImage y) other q);
}

-- its devices after a pump that was under way
pub pumped_devices : {D : Type 0} (disk : D → Disk) (old new : VaultSeen D) (first second : D) → AreHonest disk old.store → AreHonest disk new.store → first ≡ first_of new.store → second ≡ second_of new.store → StopsInside disk old new
    → ((x : List ℕ) → (disk (first_of new.store)).IsImage x → (disk (first_of new.store)).WasImage (disk (first_of old.store)).moment x)
    → ((y : List ℕ) → (disk (second_of new.store)).IsImage y → (disk (second_of new.store)).WasImage (disk (second_of old.store)).moment y) → AreLeft disk old first second
pumped_devices disk old new first second honest honest_new one other stops was was_other = record {
  first_honest = subst (λ (d : _). IsTrue (disk d).honest) (sym one) honest_new.first;
  second_honest = subst (λ (d : _). IsTrue (disk d).honest) (sym other) honest_new.second;
  each = λ x y p q. inr (stops x y honest (was x (subst (λ (d : _). (disk d).IsImage x) one p), was_other y (subst (λ (d : _). (disk d).IsImage y) other q)));
}

-- What each call does to a disk in memory.
use Rattle.std.proofs.Common.{◌≡◌, inl, inr, ℕ, List, [], ◌∷◌, refl, sym, subst, Ok, arith, length, replicate}
use Rattle.std.proofs.lemmas.List.{length-replicate}
use Rattle.vault_device.specs.declared.history.Event.TheVariants.{Wrote, Synced, Crashed}
use Rattle.vault_device.specs.declared.history.Pick.{Pick}
use Rattle.vault_device.specs.declared.history.Pick.TheVariants.{Old, New, Bytes}
use Rattle.vault_device.specs.Disk.{IsSync, IsTorn, overwritten}
use Rattle.vault_device.specs.Memory.{Event, content_of, picked, IsImageOf, after_sync, after_crash}
use Rattle.vault_device.proofs.Torn.{torn_none}
use Rattle.vault_device.specs.MemDevice.{MemDisk, disk_of}
use Rattle.vault_device.specs.MemoryLaws.{memory_disk, image_shown, torn_whole}

-- all is durable, so a sync has nothing to do
sync_at_rest : {E : Type 0} (history : List Event) (a b c d : ℕ) → (content_of history).settled ≡ (content_of history).shown → ((x : List ℕ) → IsImageOf history x → x ≡ (content_of history).shown)
    → IsSync {E = E} (Ok tt) (memory_disk history a b) (memory_disk history c d)
sync_at_rest history a b c d settled only = record {
  shown = refl;
  settled = settled;
  unsettled = λ no. absurd (cc);
  durable = only;
  images = λ x is. is;
  time = record { later = omega arith; nothing_else = λ t x le was. inl was; keeps = λ t x le was. was };
}

pub settled : {E : Type 0} (history : List Event) (a b c d : ℕ) → IsSync {E = E} (Ok tt) (memory_disk history a b) (memory_disk (after_sync history) c d)
settled [] a b c d = sync_at_rest [] a b c d refl (λ x is. is)
settled (Synced ∷ earlier) a b c d = sync_at_rest (Synced ∷ earlier) a b c d refl (λ x is. is)
settled (Crashed pick ∷ earlier) a b c d = sync_at_rest (Crashed pick ∷ earlier) a b c d refl (λ x is. is)
settled (Wrote at bytes ∷ earlier) a b c d = record {
  shown = refl;
  settled = refl;
  unsettled = λ no. absurd (cc);
  durable = λ x is. is;
  images = λ x is. subst (IsImageOf (Wrote at bytes ∷ earlier)) (sym is) (image_shown (Wrote at bytes ∷ earlier));
  time = record {
    later = omega arith;
    nothing_else = λ t x le. elim [ inl now ↦ inr (subst (IsImageOf (Wrote at bytes ∷ earlier)) (sym now) (image_shown (Wrote at bytes ∷ earlier))) | inr past ↦ inl past.1 ];
    keeps = λ t x le was. inr (le, was);
  };
}

image_settled : (history : List Event) → IsImageOf history (content_of history).settled
image_settled [] = refl
image_settled (Wrote at bytes ∷ earlier) = ((content_of earlier).settled, image_settled earlier, torn_none at (length bytes) (content_of earlier).settled)
image_settled (Synced ∷ earlier) = refl
image_settled (Crashed pick ∷ earlier) = refl

image_filled : (b : ℕ) (history : List Event) → IsImageOf history ((content_of history).filled b)
image_filled b [] = refl
image_filled b (Wrote at bytes ∷ earlier) =
    let x = (content_of earlier).filled b in
    (x, image_filled b earlier, subst (λ n. IsTorn at n x (overwritten x at (replicate (length bytes) b))) (length-replicate (length bytes) b) (torn_whole at (replicate (length bytes) b) x))
image_filled b (Synced ∷ earlier) = refl
image_filled b (Crashed pick ∷ earlier) = refl

-- what any pick gives, a crash may leave
pub image_picked : (pick : Pick) (history : List Event) → IsImageOf history (picked pick (content_of history))
image_picked Old history = image_settled history
image_picked New history = image_shown history
image_picked (Bytes b) history = image_filled b history

-- after a crash, what its pick gives is shown and durable, and a further crash leaves it
pub shown_picked : (pick : Pick) (history : List Event) → (content_of (after_crash pick history)).shown ≡ picked pick (content_of history)
shown_picked Old [] = refl
shown_picked New [] = refl
shown_picked (Bytes b) [] = refl
shown_picked pick (Wrote at bytes ∷ earlier) = refl
shown_picked Old (Synced ∷ earlier) = refl
shown_picked New (Synced ∷ earlier) = refl
shown_picked (Bytes b) (Synced ∷ earlier) = refl
shown_picked Old (Crashed other ∷ earlier) = refl
shown_picked New (Crashed other ∷ earlier) = refl
shown_picked (Bytes b) (Crashed other ∷ earlier) = refl

pub sync_done : {E : Type 0} (old new : MemDisk) → new.history ≡ after_sync old.history → IsSync {E = E} (Ok tt) (disk_of old) (disk_of new)
sync_done {E} old new done = subst (λ (h : List Event). IsSync {E = E} (Ok tt) (disk_of old) (memory_disk h new.calls new.faults)) (sym done) (settled old.history old.calls old.faults new.calls new.faults)

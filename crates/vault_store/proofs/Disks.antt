-- The disk of the active file, from phase to phase.
use Rattle.std.proofs.Common.{◌≡◌, ℕ, ◌+◌, List, [], ◌∷◌, ◌++◌, length, take, drop, get_or, set, sym, ◌∙◌, ap, subst, Ok}
use Rattle.std.proofs.lemmas.List.{get_or-set_same}
use Rattle.vault_device.specs.Disk.{Disk, IsLawful, IsSync, IsWrite, LeavesOnly}
use Rattle.vault_journal.specs.Gate.{body_of, IsClosed, SameBut, StaysClosed, IsBehind, IsOpening}
use Rattle.vault_format.specs.Files.{frame_bytes, EndsBehind}
use Rattle.vault_store.specs.OnDisk.{IsSettled, IsIdle, IsWritten, IsBodied, IsGated, IsEither}
use Rattle.vault_store.proofs.Fronts.{ends_front, body_written, either_but}

-- what is durable is closed in each image
pub stays_closed : (disk : Disk) (front : List ℕ) → IsSettled disk → EndsBehind front disk.shown → StaysClosed (length front) disk
stays_closed disk front settled ends x image = subst (IsClosed (length front)) (sym (settled.only x image)) ends.closed

-- a body behind the closed gate, whole or torn, leaves the front as it was
pub behind_ends : (disk : Disk) (front x : List ℕ) → IsIdle disk front → IsBehind (length front) disk x → EndsBehind front x
behind_ends disk front x idle behind =
    let from = behind.front in
    ends_front front from.0 x from.2 behind.closed.stands (subst (EndsBehind front) (sym (idle.settled.only from.0 from.1)) idle.ends)

-- what a sync that succeeded leaves
pub settled_by_sync : {E : Type 0} (old new : Disk) → IsSync {E = E} (Ok tt) old new → IsSettled new
settled_by_sync old new sync = record { only = subst (LeavesOnly new) (sym sync.shown) sync.durable; bytes = sync.settled ∙ sym sync.shown }

pub to_written : {E : Type 0} (old new : Disk) (front records : List ℕ) → IsIdle old front → IsWrite {E = E} (length front + 1) (body_of records) (Ok tt) old new → ((x : List ℕ) → new.IsImage x → IsBehind (length front) old x) → IsWritten new front records
to_written old new front records idle wrote images = record {
  images = λ x image. behind_ends old front x idle (images x image);
  body = subst (λ (l : List ℕ). take (length (body_of records)) (drop (length front + 1) l) ≡ body_of records) (sym wrote.shown) (body_written (length front) records old.shown idle.ends.closed.stands);
}

pub to_bodied : {E : Type 0} (old new : Disk) (front records : List ℕ) → IsWritten old front records → IsLawful old → IsSync {E = E} (Ok tt) old new → IsBodied new front records
to_bodied old new front records written lawful sync = record {
  settled = settled_by_sync old new sync;
  ends = subst (EndsBehind front) (sym sync.shown) (written.images old.shown lawful.read);
  body = subst (λ (l : List ℕ). take (length (body_of records)) (drop (length front + 1) l) ≡ body_of records) (sym sync.shown) written.body;
}

pub opening_either : (disk : Disk) (front records x : List ℕ) → IsBodied disk front records → IsOpening (length front) disk.shown x → IsEither front records x
opening_either disk front records x bodied opening = either_but front records disk.shown x bodied.ends bodied.body opening.same

pub to_gated : {E : Type 0} (old new : Disk) (front records : List ℕ) → IsBodied old front records → IsWrite {E = E} (length front) (1 ∷ []) (Ok tt) old new → new.shown ≡ set old.shown (length front) 1
    → ((x : List ℕ) → new.IsImage x → IsOpening (length front) old.shown x) → ((x : List ℕ) → new.IsImage x → SameBut (length front) new.shown x) → IsGated new front records
to_gated old new front records bodied wrote shown images same = record {
  images = λ x image. opening_either old front records x bodied (images x image);
  same = same;
  opened = ap (λ (l : List ℕ). get_or l (length front) 0) shown ∙ get_or-set_same old.shown (length front) 1 0 bodied.ends.closed.stands;
  was_shut = λ one. bodied.ends.closed.shut (ap (λ (l : List ℕ). get_or l (length front) 0) (sym (wrote.settled ∙ bodied.settled.bytes)) ∙ one);
}

pub to_idle : {E : Type 0} (old new : Disk) (front records : List ℕ) → IsGated old front records → IsLawful old → IsSync {E = E} (Ok tt) old new → IsIdle new (front ++ frame_bytes records)
to_idle old new front records gated lawful sync = record {
  settled = settled_by_sync old new sync;
  ends = subst (EndsBehind (front ++ frame_bytes records)) (sym sync.shown) ((gated.images old.shown lawful.read).opened gated.opened);
}
